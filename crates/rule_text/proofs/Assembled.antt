-- A database that is put together from countries, taken from the last one on.
use Rattle.std.proofs.Common.{◌≡◌, ◌≢◌, suc, ◌+◌, List, [], ◌∷◌, ◌++◌, length, get_or, All, AllPairs, Contains, arith, refl, sym, ◌∙◌, ap, inl, inr}
use Rattle.std.proofs.lemmas.List.{append-nil, append_assoc, get_or_at, get_or-append-add, length-append}
use Rattle.std.proofs.lemmas.List.Elements.{All-nil, All-contains, All-weaker, Contains-append_right}
use Rattle.rule_tables.specs.declared.domain.Domain.{Domain}
use Rattle.rule_tables.specs.Databases.{HasCode, Inserts, IsDb, IsDomain}
use Rattle.rule_tables.proofs.InOrder.{All-insert, Contains-insert, Contains-inserted}
use Rattle.rule_text.specs.declared.countries.Country.{Country}
use Rattle.rule_text.specs.inner.State.{AreDomainsOf, AreReady, domain_of}
use Rattle.freq_range.proofs.Members.{Contains-head, Contains-later, Contains-cases, Contains-nothing}

-- the domain is that of one of the countries
abbrev pub IsTakenFrom : List Country → Domain → Type 0
IsTakenFrom countries d = (country : Country) × Contains countries country × (domain_of country ≡ d)

-- the domains are those of the countries that were taken
pub record Assembled (countries left : List Country) (ds : List Domain) : Type 0 where
  pub db : IsDb ds
  pub taken : List Country
  pub whole : countries ≡ left ++ taken
  pub each : All (IsTakenFrom taken) ds
  pub all : (country : Country) → Contains taken country → Contains ds (domain_of country)

pub assembled_start : (countries : List Country) → IsDb [] → Assembled countries countries []
assembled_start countries db = record {
  db = db;
  taken = [];
  whole = sym (append-nil countries);
  each = All-nil (IsTakenFrom []);
  all = λ country has. absurd (Contains-nothing country has);
}

pub assembled_end : (countries left : List Country) (ds : List Domain) → left ≡ [] → Assembled countries left ds → AreDomainsOf countries ds
assembled_end countries left ds none is =
    let whole : countries ≡ is.taken = is.whole ∙ ap (λ xs. xs ++ is.taken) none in
    record {
      db = is.db;
      each = rw whole is.each;
      all = rw whole is.all;
    }

taken_whole : (countries left rest taken : List Country) (country : Country) → countries ≡ left ++ taken → left ≡ rest ++ country ∷ [] → countries ≡ rest ++ country ∷ taken
taken_whole countries left rest taken country whole last = whole ∙ ap (λ xs. xs ++ taken) last ∙ append_assoc rest (country ∷ []) taken

-- the country that is taken is one of the countries
pub is_ready : (countries left rest : List Country) (ds : List Domain) (country : Country) → AreReady countries → Assembled countries left ds → left ≡ rest ++ country ∷ []
    → IsDomain (domain_of country)
is_ready countries left rest ds country ready is last =
    let whole = taken_whole countries left rest is.taken country is.whole last in
    All-contains (λ b. IsDomain (domain_of b)) countries country ready.each (rw whole (Contains-append_right rest (country ∷ is.taken) country (Contains-head country is.taken)))

-- an element and one behind it are a pair
pair_behind : {X : Type 0} (R : X → X → Type 0) (xs ys : List X) (y z : X) → AllPairs R (xs ++ y ∷ ys) → Contains ys z → R y z
pair_behind R xs ys y z pairs has =
    let k = has.0 in
    let in_range = has.1 in
    let len = length-append xs (y ∷ ys) in
    let here : get_or (xs ++ y ∷ ys) (length xs) z ≡ y = get_or_at xs y ys z (length xs) refl in
    let there : get_or (xs ++ y ∷ ys) (length xs + suc k) z ≡ z = get_or-append-add xs (y ∷ ys) (suc k) z ∙ has.2 in
    rw (here, there) at (pairs (length xs) (length xs + suc k) z (omega arith) (omega (arith, len)))

-- its code is no domain's so far
pub is_fresh : (countries left rest : List Country) (ds : List Domain) (country : Country) → AreReady countries → Assembled countries left ds → left ≡ rest ++ country ∷ []
    → HasCode ds (domain_of country).alpha2 → ⊥
is_fresh countries left rest ds country ready is last has =
    let whole = taken_whole countries left rest is.taken country is.whole last in
    let of = All-contains (IsTakenFrom is.taken) ds has.0 is.each has.1 in
    let apart = pair_behind (λ b c. b.alpha2 ≢ c.alpha2) rest is.taken country of.0 (rw whole at ready.apart) of.1 in
    apart (sym (ap (λ (d : Domain). d.alpha2) of.2 ∙ has.2))

pub assembled_more : (countries left rest : List Country) (ds new : List Domain) (country : Country) → Assembled countries left ds → left ≡ rest ++ country ∷ []
    → IsDb new → Inserts ds new (domain_of country) → Assembled countries rest new
assembled_more countries left rest ds new country is last db inserts =
    let i = inserts.place.0 in
    let within = inserts.place.1 in
    let put = inserts.place.2 in
    record {
      db = db;
      taken = country ∷ is.taken;
      whole = taken_whole countries left rest is.taken country is.whole last;
      each = rw put (All-insert (IsTakenFrom (country ∷ is.taken)) ds i (domain_of country) within
          (All-weaker (IsTakenFrom is.taken) (IsTakenFrom (country ∷ is.taken)) (λ d of. (of.0, Contains-later country is.taken of.0 of.1, of.2)) ds is.each)
          (country, Contains-head country is.taken, refl));
      all = λ b has. rw put (elim (Contains-cases country is.taken b has) [
        | inl same ↦ rw (← same) (Contains-inserted ds i (domain_of country) within)
        | inr later ↦ Contains-insert ds i (domain_of country) (domain_of b) within (is.all b later)
      ]);
    }

-- a list of length 0 has nothing
pub nothing_from_length : {X : Type 0} (xs : List X) → length xs ≡ 0 → xs ≡ []
nothing_from_length [] none = refl
nothing_from_length (x ∷ xs) none = absurd (omega (arith, none))
