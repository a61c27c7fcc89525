-- Each list of bytes says a database or has a fault.
use Rattle.std.proofs.Common.{◌≡◌, ℕ, zero, suc, ◌+◌, ◌-◌, ◌*◌, ◌/◌, ◌%◌, ◌^◌, ◌<◌, ◌≤◌, ◌⊎◌, Bool, true, false, if◌then◌else◌, nat_le, List, [], ◌∷◌, ◌++◌, length, get_or, insert, slice_index, All, Option, Some, None, IfSome, arith, refl, sym, subst, inl, inr}
use Rattle.std.proofs.lemmas.Bool.{cases_eq, cases_lt}
use Rattle.std.proofs.lemmas.List.{get_or_past}
use Rattle.byteorder.specs.Numbers.{big_from-lt}
use Rattle.freq_range.proofs.Deciding.{Tells, Told, tells_pair, tells_through, told_among, told_any, told_as, told_both, told_le, told_lt}
use Rattle.freq_range.proofs.ToldRules.{tells_rule, told_wmm}
use Rattle.freq_range.specs.First.{IsFirst}
use Rattle.freq_range.specs.Valid.{IsValidWmm}
use Rattle.freq_range.specs.declared.rule.Rule.{Rule}
use Rattle.freq_range.specs.declared.wmm.Wmm.{Wmm}
use Rattle.freq_range.specs.declared.wmm.WmmEntry.{WmmEntry}
use Rattle.rule_tables.proofs.Inserted.{IsDb-insert}
use Rattle.rule_tables.specs.Code.{IsCapital, IsCode, key}
use Rattle.rule_tables.specs.Databases.{HasCode, Inserts, IsDb}
use Rattle.rule_tables.specs.Regions.{region_number}
use Rattle.rule_tables.specs.FileFormat.{u8_at, u16_at, u32_at, AreEntries, CollectionAt, EndsAt, NamesWmm, ReadsAs, RuleAt, WmmAt, WmmEntryAt, entry_place, flags_in, pointers_of, target_at}
use Rattle.rule_tables.specs.FileFaults.{HasCollection, HasHeader, IsRuleAt, IsCollectionFault, IsDbFault, IsEntryFault, IsFirstEntryFault, IsHeaderFault, NamesBadWmm, entry_code, rule_place}
use Rattle.rule_tables.specs.declared.code.Alpha2.{Alpha2}
use Rattle.rule_tables.specs.declared.code.Region.{Region}
use Rattle.rule_tables.specs.declared.code.Region.TheVariants.{Unset, Fcc, Etsi, Jp}
use Rattle.rule_tables.specs.declared.domain.Domain.{Domain}
use Rattle.rule_tables.specs.declared.file_fault.DbFault.{DbFault}
use Rattle.rule_tables.specs.declared.file_fault.DbFault.TheVariants.{Short, BadMagic, BadVersion, BadAlpha2, BadCollection, BadRegion, CountryTwice}
use Rattle.db_reader.specs.inner.Parts.{AreFirstRules, IsNewEntry, IsRuleStop, IsRulesFault, rule_fault}
use Rattle.db_reader.specs.declared.fault.ReadFault.TheVariants.{Bad}
use Rattle.db_reader.specs.declared.rule_record.RuleStop.{RuleStop}
use Rattle.db_reader.specs.declared.rule_record.RuleStop.TheVariants.{NoRule, NoWmm}
use Rattle.db_reader.proofs.Collected.{collected_more, collected_stop, rules_stop}
use Rattle.db_reader.proofs.Entered.{entered_more, entry_stop, in_list_before, in_list_more, new_entry, no_fault_before, twice_from_code}
use Rattle.db_reader.proofs.OneDatabase.{WmmAt-unique}
use Rattle.db_reader.proofs.Records.{low_region}

-- each number of the list is that of a byte
abbrev pub AreBytes : List ℕ → Type 0
AreBytes b = (k : ℕ) → slice_index b k < 256

-- ---- the header

told_header : (b : List ℕ) → HasHeader b ⊎ ((fault : DbFault) × IsHeaderFault b fault)
told_header b = elim (cases_lt (length b) 8) [
  | inl short ↦ inr (Short (length b), (refl, short))
  | inr whole ↦ elim (cases_eq (u32_at b 0) 0x52474442) [
    | inr other ↦ inr (BadMagic (u32_at b 0), (whole, refl, other))
    | inl magic ↦ elim (cases_eq (u32_at b 4) 20) [
      | inr other ↦ inr (BadVersion (u32_at b 4), (whole, magic, refl, other))
      | inl version ↦ inl (record { whole = whole; magic = magic; version = version })
    ]
  ]
]

-- ---- rules

told_has_rule : (b : List ℕ) (i : ℕ) → Told (IsRuleAt b i)
told_has_rule b i = told_as
    (λ t. record { long = t.0; in_file = t.1.0; above_zero = t.1.1.0; in_order = t.1.1.1.0; wide_enough = t.1.1.1.1 })
    (λ h. (h.long, (h.in_file, (h.above_zero, (h.in_order, h.wide_enough)))))
    (told_both (told_le 16 (u8_at b i)) (told_both (told_le (i + u8_at b i) (length b)) (told_both (told_lt 0 (u32_at b (i + 4)))
    (told_both (told_lt (u32_at b (i + 4)) (u32_at b (i + 8))) (told_le (u32_at b (i + 12)) (u32_at b (i + 8) - u32_at b (i + 4)))))))

-- the entry of a WMM rule that the bytes from place i on say
abbrev entry_in : List ℕ → ℕ → WmmEntry
entry_in b i = record { min_exp = u8_at b i / 16; max_exp = u8_at b i % 16; aifsn = u8_at b (i + 1); cot_ms = u16_at b (i + 2) }

entry_there : (b : List ℕ) (i : ℕ) → WmmEntryAt b i (entry_in b i)
entry_there b i = record { least_window = refl; greatest_window = refl; aifsn = refl; cot = refl }

-- the WMM rule that they say
abbrev wmm_in : List ℕ → ℕ → Wmm
wmm_in b i = record {
  vo_c = entry_in b i;
  vi_c = entry_in b (i + 4);
  be_c = entry_in b (i + 8);
  bk_c = entry_in b (i + 12);
  vo_ap = entry_in b (i + 16);
  vi_ap = entry_in b (i + 20);
  be_ap = entry_in b (i + 24);
  bk_ap = entry_in b (i + 28);
}

wmm_there : (b : List ℕ) (i : ℕ) → i + 32 ≤ length b → WmmAt b i (wmm_in b i)
wmm_there b i within = record {
  in_file = within;
  vo_c = entry_there b i;
  vi_c = entry_there b (i + 4);
  be_c = entry_there b (i + 8);
  bk_c = entry_there b (i + 12);
  vo_ap = entry_there b (i + 16);
  vi_ap = entry_there b (i + 20);
  be_ap = entry_there b (i + 24);
  bk_ap = entry_there b (i + 28);
}

-- a valid WMM rule, or none, is what a rule names, or its name is bad
named_wmm : (b : List ℕ) (i : ℕ) → ((o : Option Wmm) × NamesWmm b i o × IfSome o IsValidWmm) ⊎ NamesBadWmm b i
named_wmm b i = elim (cases_lt (u8_at b i) 20) [
  | inl short ↦ inl (None, short, tt)
  | inr long ↦ let t = target_at b (i + 18) in elim (told_le (t + 32) (length b)) [
    | inr out ↦ inr (long, λ w at valid. out at.in_file)
    | inl within ↦ elim (told_wmm (wmm_in b t)) [
      | inl valid ↦ inl (Some (wmm_in b t), (long, wmm_there b t within), valid)
      | inr bad ↦ inr (long, λ w at valid. bad (subst IsValidWmm (WmmAt-unique b t w (wmm_in b t) at (wmm_there b t within)) valid))
    ]
  ]
]

small_or_zero : (t : Bool) (n : ℕ) → n < 2 ^ 16 → (if t then n else 0) < 2 ^ 16
small_or_zero true n small = small
small_or_zero false n small = omega arith

-- the rule that the bytes from place i on say, with this WMM rule
abbrev rule_in : List ℕ → ℕ → Option Wmm → Rule
rule_in b i o = record {
  start_khz = u32_at b (i + 4);
  end_khz = u32_at b (i + 8);
  max_bw_khz = u32_at b (i + 12);
  flags = flags_in (u8_at b (i + 1));
  eirp_mbm = u16_at b (i + 2);
  cac_s = if nat_le 18 (u8_at b i) then u16_at b (i + 16) else 0;
  wmm = o;
}

rule_there : (b : List ℕ) (i : ℕ) (o : Option Wmm) → AreBytes b → IsRuleAt b i → NamesWmm b i o → IfSome o IsValidWmm → RuleAt b i (rule_in b i o)
rule_there b i o bytes has named valid = record {
  long = has.long;
  in_file = has.in_file;
  flags = refl;
  eirp = refl;
  start = refl;
  end = refl;
  width = refl;
  check_time = refl;
  wmm = named;
  valid = record {
    above_zero = has.above_zero;
    in_order = has.in_order;
    wide_enough = has.wide_enough;
    wmm = valid;
    end_fits = big_from-lt (i + 8) 4 b bytes;
    power_fits = big_from-lt (i + 2) 2 b bytes;
    check_fits = small_or_zero (nat_le 18 (u8_at b i)) (u16_at b (i + 16)) (big_from-lt (i + 16) 2 b bytes);
  };
}

some_rule : (b : List ℕ) (i : ℕ) → AreBytes b → ((r : Rule) × RuleAt b i r) ⊎ ((stop : RuleStop) × IsRuleStop b i stop)
some_rule b i bytes = elim (told_has_rule b i) [
  | inr none ↦ inr (NoRule, none)
  | inl has ↦ elim (named_wmm b i) [
    | inr bad ↦ inr (NoWmm, (has, bad))
    | inl named ↦ inl (rule_in b i named.0, rule_there b i named.0 bytes has named.1 named.2)
  ]
]

-- ---- collections

-- the first n rules of a collection, or the first of them with something wrong
first_rules : (b : List ℕ) (i : ℕ) (c : Alpha2) → AreBytes b → (n : ℕ) → n ≤ u8_at b (i + 1)
    → ((rules : List Rule) × AreFirstRules b i n rules) ⊎ ((fault : DbFault) × IsRulesFault b i c fault)
first_rules b i c bytes zero within = inl ([], ([], refl, λ k d less. absurd (omega (arith, less)), refl))
first_rules b i c bytes (suc n) within = elim (first_rules b i c bytes n (omega (arith, within))) [
  | inr fault ↦ inr fault
  | inl so_far ↦ elim (some_rule b (rule_place b i n) bytes) [
    | inr bad ↦ by_stop bad.0 bad.1 so_far.0 so_far.1
    | inl next ↦ elim (told_among tells_rule so_far.0 next.0) [
      | inl among ↦ inl (so_far.0, more (collected_more b i n so_far.0 so_far.0 next.0 so_far.1 next.1 (inl (among, refl))))
      | inr fresh ↦ inl (so_far.0 ++ next.0 ∷ [], more (collected_more b i n so_far.0 (so_far.0 ++ next.0 ∷ []) next.0 so_far.1 next.1 (inr (fresh, refl))))
    ]
  ]
]
  where
    more : {rules : List Rule} → AreFirstRules b i (n + 1) rules → AreFirstRules b i (suc n) rules
    more {rules} are = subst (λ m. AreFirstRules b i m rules) (omega arith) are

    by_stop : (stop : RuleStop) → IsRuleStop b (rule_place b i n) stop → (rules : List Rule) → AreFirstRules b i n rules
        → ((rules : List Rule) × AreFirstRules b i (suc n) rules) ⊎ ((fault : DbFault) × IsRulesFault b i c fault)
    by_stop stop is rules are = inr (rule_fault c n stop, collected_stop b i n rules c stop (rule_fault c n stop) are (omega (arith, within)) is refl)

told_has_collection : (b : List ℕ) (i : ℕ) → Told (HasCollection b i)
told_has_collection b i = told_as
    (λ t. record { long = t.0; in_file = t.1.0; some = t.1.1.0; few = t.1.1.1.0; pointers_in_file = t.1.1.1.1 })
    (λ h. (h.long, (h.in_file, (h.some, (h.few, h.pointers_in_file)))))
    (told_both (told_le 3 (u8_at b i)) (told_both (told_le (i + u8_at b i) (length b)) (told_both (told_lt 0 (u8_at b (i + 1)))
    (told_both (told_le (u8_at b (i + 1)) 128) (told_le (pointers_of b i + 2 * u8_at b (i + 1)) (length b))))))

some_region : (n : ℕ) → ((region : Region) × (n ≡ region_number region)) ⊎ (3 < n)
some_region zero = inl (Unset, refl)
some_region (suc zero) = inl (Fcc, refl)
some_region (suc (suc zero)) = inl (Etsi, refl)
some_region (suc (suc (suc zero))) = inl (Jp, refl)
some_region (suc (suc (suc (suc n)))) = inr (omega arith)

-- a domain whose collection stands at place i
abbrev HasDomain : List ℕ → ℕ → Alpha2 → Type 0
HasDomain b i c = (d : Domain) × (d.alpha2 ≡ c) × CollectionAt b i d.region d.rules

some_domain : (b : List ℕ) (i : ℕ) (c : Alpha2) → AreBytes b → HasDomain b i c ⊎ ((fault : DbFault) × IsCollectionFault b i c fault)
some_domain b i c bytes = elim (told_has_collection b i) [
  | inr none ↦ inr (BadCollection c, (refl, none))
  | inl has ↦ elim (some_region (u8_at b (i + 2))) [
    | inr above ↦ inr (BadRegion c (u8_at b (i + 2)), (refl, has, refl, above))
    | inl region ↦ elim (first_rules b i c bytes (u8_at b (i + 1)) (omega arith)) [
      | inr bad ↦ inr (bad.0, rules_stop b i c (Bad bad.0) (record { collection = has; region = subst (λ n. n ≤ 3) (sym region.1) (low_region region.0) }) bad.1)
      | inl rules ↦ inl (
        record { alpha2 = c; region = region.0; rules = rules.0 },
        refl,
        record {
          long = has.long;
          in_file = has.in_file;
          some = has.some;
          few = has.few;
          region_byte = region.1;
          pointers_in_file = has.pointers_in_file;
          rules_read = rules.1;
        },
      )
    ]
  ]
]

-- ---- entries

told_either : {P Q : Type 0} → Told P → Told Q → Told (P ⊎ Q)
told_either p q = elim p [
  | inl is ↦ inl (inl is)
  | inr never ↦ elim q [
    | inl is ↦ inl (inr is)
    | inr nor ↦ inr (λ either. elim either [ inl is ↦ never is | inr is ↦ nor is ])
  ]
]

told_capital : (n : ℕ) → Told (IsCapital n)
told_capital n = told_both (told_le 65 n) (told_le n 90)

told_code : (c : Alpha2) → Told (IsCode c)
told_code c = told_either (told_both (told_capital c.a) (told_capital c.b)) (told_both (cases_eq c.a 48) (cases_eq c.b 48))

tells_code : Tells Alpha2
tells_code = tells_through {A = Alpha2} {B = ℕ × ℕ} (λ c. (c.a, c.b)) (λ t. record { a = t.0; b = t.1 }) (λ c. refl) (tells_pair cases_eq cases_eq)

some_entry : (b : List ℕ) (k : ℕ) (ds : List Domain) → AreBytes b → AreEntries b k ds → ((d : Domain) × IsNewEntry b k ds d) ⊎ ((fault : DbFault) × IsEntryFault b k fault)
some_entry b k ds bytes are = let c = entry_code b (entry_place k) in elim (told_code c) [
  | inr none ↦ inr (BadAlpha2 c.a c.b, inl (refl, refl, none))
  | inl code ↦ elim (told_any (λ d. d.alpha2 ≡ c) (λ d. tells_code d.alpha2 c) ds) [
    | inl there ↦ inr (CountryTwice c, inl (refl, code, twice_from_code b k ds c are refl (there.0, there.1, there.2)))
    | inr none ↦
        let fresh : HasCode ds c → ⊥ = λ has. none has.0 has.1 has.2 in
        elim (some_domain b (target_at b (entry_place k + 2)) c bytes) [
          | inl d ↦ inl (d.0, new_entry b k ds d.0 c are refl code fresh d.1 d.2)
          | inr bad ↦ inr (bad.0, entry_stop b k ds c (Bad bad.0) are refl code fresh bad.1)
        ]
  ]
]

-- ---- the place of a domain among others

record IsPlace (ds : List Domain) (n i : ℕ) : Type 0 where
  within : i ≤ length ds
  below : (k : ℕ) (d : Domain) → k < i → key (get_or ds k d).alpha2 < n
  at : (d : Domain) → i < length ds → n ≤ key (get_or ds i d).alpha2

place_more : (d : Domain) (ds : List Domain) (n i : ℕ) → key d.alpha2 < n → IsPlace ds n i → IsPlace (d ∷ ds) n (suc i)
place_more d ds n i less is = record { within = let w = is.within in omega (arith, w); below = each; at = λ e in_range. is.at e (omega (arith, in_range)) }
  where
    each : (k : ℕ) (e : Domain) → k < suc i → key (get_or (d ∷ ds) k e).alpha2 < n
    each zero e below = less
    each (suc k) e below = is.below k e (omega (arith, below))

some_place : (ds : List Domain) (n : ℕ) → (i : ℕ) × IsPlace ds n i
some_place [] n = (0, record { within = omega arith; below = λ k d less. absurd (omega (arith, less)); at = λ d in_range. absurd (omega (arith, in_range)) })
some_place (d ∷ ds) n = elim (cases_lt (key d.alpha2) n) [
  | inl less ↦ let rest = some_place ds n in (suc rest.0, place_more d ds n rest.0 less rest.1)
  | inr from ↦ (0, record { within = omega arith; below = λ k e below. absurd (omega (arith, below)); at = λ e in_range. from })
]

-- ---- all entries

-- the first n entries are those of the domains, and the list goes on behind each of them
record AreScanned (b : List ℕ) (n : ℕ) (ds : List Domain) : Type 0 where
  db : IsDb ds
  are : AreEntries b n ds
  going : (j : ℕ) → j < n → EndsAt b j → ⊥

-- all entries are those of some domains
abbrev AreWhole : List ℕ → Type 0
AreWhole b = (ds : List Domain) × IsDb ds × (n : ℕ) × IsFirst (EndsAt b) n × AreEntries b n ds

abbrev HasFault : List ℕ → Type 0
HasFault b = (fault : DbFault) × (k : ℕ) × IsFirstEntryFault b k fault

told_ends : (b : List ℕ) (k : ℕ) → Told (EndsAt b k)
told_ends b k = told_either (told_lt (length b) (entry_place k + 4)) (cases_eq (u16_at b (entry_place k + 2)) 0)

none_scanned : (b : List ℕ) → AreScanned b 0 []
none_scanned b = record {
  db = record { ascending = λ i j d less in_range. absurd (omega (arith, in_range)); each = λ k d in_range. absurd (omega (arith, in_range)) };
  are = record {
    each = λ k less. absurd (omega (arith, less));
    all = λ k d in_range. absurd (omega (arith, in_range));
    once = λ j k less below. absurd (omega (arith, below));
  };
  going = λ j less. absurd (omega (arith, less));
}

-- one more entry
scanned_more : (b : List ℕ) (n : ℕ) (ds : List Domain) (d : Domain) → AreScanned b n ds → (EndsAt b n → ⊥) → IsNewEntry b n ds d
    → (es : List Domain) × AreScanned b (suc n) es
scanned_more b n ds d is on entry =
    let place = some_place ds (key d.alpha2) in
    let at = place.1 in
    let es = insert ds place.0 d in
    let inserts : Inserts ds es d = record { fresh = entry.fresh; is_domain = entry.is_domain; place = (place.0, at.within, refl) } in (
      es,
      subst (λ m. AreScanned b m es) (omega arith) (record {
        db = IsDb-insert ds d place.0 is.db entry.fresh entry.is_domain at.within at.below at.at;
        are = entered_more b n ds es d is.are entry inserts;
        going = in_list_before b n is.going on;
      }),
    )

scan : (b : List ℕ) → AreBytes b → (n : ℕ) → ((ds : List Domain) × AreScanned b n ds) ⊎ (AreWhole b ⊎ HasFault b)
scan b bytes zero = inl ([], none_scanned b)
scan b bytes (suc n) = elim (scan b bytes n) [
  | inr done ↦ inr done
  | inl so_far ↦ let is = so_far.1 in elim (told_ends b n) [
    | inl ends ↦ inr (inl (so_far.0, is.db, n, record { here = ends; none_before = is.going }, is.are))
    | inr on ↦ elim (some_entry b n so_far.0 bytes is.are) [
      | inl entry ↦ inl (scanned_more b n so_far.0 entry.0 is on entry.1)
      | inr bad ↦ inr (inr (
        bad.0,
        n,
        record {
          in_list = in_list_more b n is.going on;
          first = record { here = bad; none_before = no_fault_before b n so_far.0 is.are };
          fault_is = bad.1;
        },
      ))
    ]
  ]
]

some_entries : (b : List ℕ) → AreBytes b → AreWhole b ⊎ HasFault b
some_entries b bytes = elim (scan b bytes (length b)) [
  | inr done ↦ done
  | inl so_far ↦ let is = so_far.1 in inl (so_far.0, is.db, length b, record { here = inl (omega arith); none_before = is.going }, is.are)
]

-- ---- the whole file

are_bytes : (b : List ℕ) → All (λ byte. byte < 256) b → AreBytes b
are_bytes b all k = elim (cases_lt k (length b)) [
  | inl within ↦ all k 0 within
  | inr past ↦ subst (λ byte. byte < 256) (sym (get_or_past b k 0 past)) (omega arith)
]

pub some_answer : (b : List ℕ) → All (λ byte. byte < 256) b → ((ds : List Domain) × ReadsAs b ds) ⊎ ((fault : DbFault) × IsDbFault b fault)
some_answer b all = elim (told_header b) [
  | inr bad ↦ inr (bad.0, inl bad.1)
  | inl header ↦ elim (some_entries b (are_bytes b all)) [
    | inl whole ↦ inl (whole.0, record { whole_header = header.whole; magic = header.magic; version = header.version; entries = (whole.2, whole.3, whole.4); db = whole.1 })
    | inr bad ↦ inr (bad.0, inr (header, (bad.1, bad.2)))
  ]
]
