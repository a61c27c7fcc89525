-- The entries read as the domains that they were written for.
use Rattle.std.proofs.Common.{◌≡◌, ℕ, zero, suc, ◌+◌, ◌*◌, ◌<◌, ◌≤◌, List, [], ◌∷◌, length, flat_map, slice_index_or, All, refl, sym, subst, add-one, arith}
use Rattle.std.proofs.lemmas.List.{length-append}
use Rattle.std.proofs.lemmas.List.Elements.{All-head, All-tail}
use Rattle.rule_tables.specs.Code.{key}
use Rattle.rule_tables.specs.Databases.{IsDomain}
use Rattle.rule_tables.specs.FileFormat.{u16_at, CollectionAt, EntryAt}
use Rattle.rule_tables.specs.declared.domain.Domain.{Domain}
use Rattle.db_writer.specs.LaidOut.{domain_entry}
use Rattle.db_writer.proofs.Holds.{Holds, Holds-front, Holds-back, Holds-cell, Holds-rest, Holds-be16}
use Rattle.db_writer.proofs.Lengths.{length-entry}

-- a pointer can name the place of the domain's collection, which isn't 0, and the collection is read there
pub record CollectionStands (b : List ℕ) (collection_at : Domain → ℕ) (d : Domain) : Type 0 where
  pub domain : IsDomain d
  pub above : 0 < collection_at d
  pub in_reach : collection_at d ≤ 65535
  pub there : CollectionAt b (4 * collection_at d) d.region d.rules

-- the entry of a domain stands at place i, and its pointer isn't 0
pub record Stands (b : List ℕ) (i : ℕ) (d : Domain) : Type 0 where
  pub entry : EntryAt b i d
  pub pointer : 0 < u16_at b (i + 2)

entry_reads : (b : List ℕ) (i : ℕ) (collection_at : Domain → ℕ) (d : Domain) → CollectionStands b collection_at d → Holds b i (domain_entry collection_at d) → Stands b i d
unfolding domain_entry
entry_reads b i collection_at d stands h =
    let first = Holds-cell b i _ _ h in
    let h1 = Holds-rest b i (i + 1) _ _ refl h in
    let second = Holds-cell b (i + 1) _ _ h1 in
    let h2 = Holds-rest b (i + 1) (i + 2) _ _ (omega arith) h1 in
    let pointer : u16_at b (i + 2) ≡ collection_at d = Holds-be16 b (i + 2) (collection_at d) (omega (arith, stands.in_reach)) h2 in
    record {
      entry = record {
        first = sym first;
        second = sym second;
        code = stands.domain.code;
        collection = subst (λ n. CollectionAt b (4 * n) d.region d.rules) (sym pointer) stands.there;
      };
      pointer = subst (λ n. 0 < n) (sym pointer) stands.above;
    }

-- the entries from place e on
pub entries_read : (b : List ℕ) (e : ℕ) (collection_at : Domain → ℕ) (ds : List Domain) → Holds b e (flat_map (domain_entry collection_at) ds) → All (CollectionStands b collection_at) ds →
    (k : ℕ) (d : Domain) → k < length ds → (i : ℕ) → i ≡ e + 4 * k → Stands b i (slice_index_or ds k d)
entries_read b e collection_at [] h stand k d lt i is = absurd (omega arith)
entries_read b e collection_at (x ∷ xs) h stand zero d lt i is =
    let same : e ≡ i = omega arith in
    subst (λ n. Stands b n x) same
    (entry_reads b e collection_at x (All-head (CollectionStands b collection_at) x xs stand) (Holds-front b e (domain_entry collection_at x) (flat_map (domain_entry collection_at) xs) h))
entries_read b e collection_at (x ∷ xs) h stand (suc k) d lt i is =
    let rest = Holds-back b e (e + 4) (domain_entry collection_at x) (flat_map (domain_entry collection_at) xs) (omega (arith, length-entry collection_at x)) h in
    entries_read b (e + 4) collection_at xs rest (All-tail (CollectionStands b collection_at) x xs stand) k d (omega arith) i (omega arith)

pub length-entries : (collection_at : Domain → ℕ) (ds : List Domain) → length (flat_map (domain_entry collection_at) ds) ≡ 4 * length ds
length-entries collection_at [] = refl
length-entries collection_at (d ∷ ds) =
    omega (arith, length-append (domain_entry collection_at d) (flat_map (domain_entry collection_at) ds), length-entry collection_at d, length-entries collection_at ds)

-- the code of an entry, read as a number, is the domain's key
pub code_at : (b : List ℕ) (i : ℕ) (d : Domain) → EntryAt b i d → u16_at b i ≡ key d.alpha2
code_at b i d domain_entry =
    let first = domain_entry.first in
    let second = domain_entry.second in
    let next : suc i ≡ i + 1 = sym (add-one i) in
    rw (first, second, next) (omega arith)
