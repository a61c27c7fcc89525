pub mod FewWords
pub mod FirstTime
pub mod NotedDomains
pub mod FromConversion
pub mod OneFault
