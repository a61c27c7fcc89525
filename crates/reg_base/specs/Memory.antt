-- What contracts see of the sources and sinks in memory.
use Rattle.std.specs.Prelude.{ℕ, List}

-- a source: the bytes left, and at most how many a read gives
pub record Supply : Type 0 where
  pub left : List ℕ
  pub piece : ℕ

-- a sink: the bytes written, how many it has room for in all, and how many writes failed
pub record Store : Type 0 where
  pub written : List ℕ
  pub room : ℕ
  pub faults : ℕ

-- a source that fails at listed calls: the calls by their numbers from 1, how many were made, and how many failed
pub record FailingSupply : Type 0 where
  pub left : List ℕ
  pub piece : ℕ
  pub failing : List ℕ
  pub calls : ℕ
  pub faults : ℕ

-- a sink that fails at listed calls too
pub record FailingStore : Type 0 where
  pub written : List ℕ
  pub room : ℕ
  pub failing : List ℕ
  pub calls : ℕ
  pub faults : ℕ
