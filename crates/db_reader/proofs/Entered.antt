-- The entries of a file, read one after another.
use Rattle.std.proofs.Common.{◌≡◌, ℕ, suc, ◌+◌, ◌<◌, List, All, Contains, add-one, arith, sym, ◌∙◌, ap, subst, inl, inr}
use Rattle.std.proofs.lemmas.Bool.{cases_lt}
use Rattle.std.proofs.lemmas.List.Elements.{All-contains, All-weaker}
use Rattle.rule_tables.proofs.Inserted.{same_key}
use Rattle.rule_tables.proofs.InOrder.{All-insert, Contains-insert, Contains-inserted}
use Rattle.rule_tables.specs.Code.{IsCode, key}
use Rattle.rule_tables.specs.Databases.{HasCode, Inserts}
use Rattle.rule_tables.specs.FileFormat.{u16_at, AreEntries, CollectionAt, EndsAt, EntryAt, entry_place, target_at}
use Rattle.rule_tables.specs.FileFaults.{HasEntryFault, IsCollectionFault, IsInList, IsTwice, entry_code}
use Rattle.rule_tables.specs.declared.code.Alpha2.{Alpha2}
use Rattle.rule_tables.specs.declared.domain.Domain.{Domain}
use Rattle.db_reader.specs.inner.Parts.{IsCollectionStop, IsEntriesStop, IsEntryStop, IsNewEntry}
use Rattle.db_reader.specs.declared.fault.ReadFault.{ReadFault}
use Rattle.db_reader.specs.declared.fault.ReadFault.TheVariants.{Bad, OutOfMemory}
use Rattle.db_reader.proofs.Records.{code_is, good_entry, is_domain}

-- ---- codes as numbers

-- the two bytes at a place, read as a number, are the key of their code
pub key_at : (b : List ℕ) (i : ℕ) → u16_at b i ≡ key (entry_code b i)
key_at b i = let next : suc i ≡ i + 1 = sym (add-one i) in rw next (omega arith)

-- where a domain of the entries has the code of the next entry, that one is there twice
pub twice_from_code : (b : List ℕ) (k : ℕ) (ds : List Domain) (c : Alpha2) → AreEntries b k ds → c ≡ entry_code b (entry_place k) → HasCode ds c → IsTwice b k
twice_from_code b k ds c are at (d, among, is) =
    let (j, below, entry) = All-contains (λ e. (n : ℕ) × (n < k) × EntryAt b (entry_place n) e) ds d are.all among in
    let one : entry_code b (entry_place j) ≡ entry_code b (entry_place k) = sym (code_is b (entry_place j) d entry) ∙ is ∙ at in
    (j, below, key_at b (entry_place j) ∙ ap key one ∙ sym (key_at b (entry_place k)))

-- where the next entry is there twice, a domain of the entries has its code
pub code_from_twice : (b : List ℕ) (k : ℕ) (ds : List Domain) (c : Alpha2) → AreEntries b k ds → c ≡ entry_code b (entry_place k) → IsCode c → IsTwice b k → HasCode ds c
code_from_twice b k ds c are at code (j, below, same) =
    let (d, among, entry) = are.each j below in
    let mine = code_is b (entry_place j) d entry in
    let keys : key d.alpha2 ≡ key c = ap key mine ∙ sym (key_at b (entry_place j)) ∙ same ∙ key_at b (entry_place k) ∙ ap key (sym at) in
    (d, among, same_key d.alpha2 c entry.code code keys)

-- ---- one entry

pub new_entry : (b : List ℕ) (k : ℕ) (ds : List Domain) (d : Domain) (c : Alpha2) → AreEntries b k ds → c ≡ entry_code b (entry_place k) → IsCode c → (HasCode ds c → ⊥)
    → d.alpha2 ≡ c → CollectionAt b (target_at b (entry_place k + 2)) d.region d.rules → IsNewEntry b k ds d
new_entry b k ds d c are at code fresh is there =
    let mine : IsCode d.alpha2 = subst IsCode (sym is) code in
    record {
      entry = record {
        first = ap (λ (x : Alpha2). x.a) (is ∙ at);
        second = ap (λ (x : Alpha2). x.b) (is ∙ at);
        code = mine;
        collection = there;
      };
      once = λ twice. fresh (code_from_twice b k ds c are at code twice);
      fresh = λ has. fresh (subst (HasCode ds) is has);
      is_domain = is_domain b (target_at b (entry_place k + 2)) d mine there;
    }

-- what is wrong with the collection of the entry
pub entry_stop : (b : List ℕ) (k : ℕ) (ds : List Domain) (c : Alpha2) (stop : ReadFault) → AreEntries b k ds → c ≡ entry_code b (entry_place k) → IsCode c → (HasCode ds c → ⊥)
    → IsCollectionStop b (target_at b (entry_place k + 2)) c stop → IsEntryStop b k stop
entry_stop b k ds c (Bad fault) are at code fresh is = inr (
  record { code = subst IsCode at code; once = λ twice. fresh (code_from_twice b k ds c are at code twice) },
  subst (λ x. IsCollectionFault b (target_at b (entry_place k + 2)) x fault) at is,
)
entry_stop b k ds c OutOfMemory are at code fresh is = tt

-- ---- all entries

pub entered_more : (b : List ℕ) (k : ℕ) (old new : List Domain) (d : Domain) → AreEntries b k old → IsNewEntry b k old d → Inserts old new d → AreEntries b (k + 1) new
entered_more b k old new d are entry inserts =
    let (i, within, put) = inserts.place in
    let mine : (j : ℕ) × (j < k + 1) × EntryAt b (entry_place j) d = (k, omega arith, entry.entry) in
    record {
      each = λ j below. elim (cases_lt j k) [
        | inl less ↦ (let (e, among, at) = are.each j less in (e, subst (λ xs. Contains xs e) (sym put) (Contains-insert old i d e within among), at))
        | inr more ↦
            let last : k ≡ j = omega (arith, below, more) in
            (d, subst (λ xs. Contains xs d) (sym put) (Contains-inserted old i d within), subst (λ n. EntryAt b (entry_place n) d) last entry.entry)
      ];
      all = subst (All (λ e. (j : ℕ) × (j < k + 1) × EntryAt b (entry_place j) e)) (sym put)
          (All-insert (λ e. (j : ℕ) × (j < k + 1) × EntryAt b (entry_place j) e) old i d within
          (All-weaker (λ e. (j : ℕ) × (j < k) × EntryAt b (entry_place j) e) (λ e. (j : ℕ) × (j < k + 1) × EntryAt b (entry_place j) e)
          (λ e has. let below = has.1 in (has.0, omega (arith, below), has.2)) old are.all)
          mine);
      once = λ j m less below same. elim (cases_lt m k) [
        | inl earlier ↦ are.once j m less earlier same
        | inr more ↦
            let last : m ≡ k = omega (arith, below, more) in
            entry.once (j, omega (arith, less, last), subst (λ n. u16_at b (entry_place j) ≡ u16_at b (entry_place n)) last same)
      ];
    }

-- no entry of a database has a fault
pub no_fault_before : (b : List ℕ) (k : ℕ) (ds : List Domain) → AreEntries b k ds → (j : ℕ) → j < k → HasEntryFault b j → ⊥
no_fault_before b k ds are j below (fault, is) =
    let (d, among, entry) = are.each j below in
    good_entry b j d fault entry (λ twice. are.once twice.0 j twice.1 below twice.2) is

pub in_list_more : (b : List ℕ) (k : ℕ) → ((j : ℕ) → j < k → EndsAt b j → ⊥) → (EndsAt b k → ⊥) → IsInList b k
in_list_more b k going here j upto ends = elim (cases_lt j k) [
  | inl less ↦ going j less ends
  | inr more ↦ let last : j ≡ k = omega (arith, upto, more) in here (subst (EndsAt b) last ends)
]

-- the same, said of what comes before the next one
pub in_list_before : (b : List ℕ) (k : ℕ) → ((j : ℕ) → j < k → EndsAt b j → ⊥) → (EndsAt b k → ⊥) → (j : ℕ) → j < k + 1 → EndsAt b j → ⊥
in_list_before b k going here j below = in_list_more b k going here j (omega (arith, below))

-- what is wrong with the entry behind those that are read is the fault of the file
pub entries_stop : (b : List ℕ) (k : ℕ) (ds : List Domain) (stop : ReadFault) → AreEntries b k ds → ((j : ℕ) → j < k → EndsAt b j → ⊥) → (EndsAt b k → ⊥)
    → IsEntryStop b k stop → IsEntriesStop b stop
entries_stop b k ds (Bad fault) are going here is = (
  k,
  record {
    in_list = in_list_more b k going here;
    first = record { here = (fault, is); none_before = no_fault_before b k ds are };
    fault_is = is;
  },
)
entries_stop b k ds OutOfMemory are going here is = tt
