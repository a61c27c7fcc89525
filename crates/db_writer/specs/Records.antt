-- The records of a `regulatory.db`: their order, their lengths in words of 4 bytes, and their bytes. All numbers are
-- big-endian. `docs/FORMATS.md` has the format in words.
use Rattle.std.specs.Prelude.{◌==◌, ℕ, ◌+◌, ◌*◌, ◌/◌, ◌%◌, Bool, true, false, List, [], ◌∷◌, ◌++◌, length, flat_map, Option, Some, None, option_to_list, if◌then◌else◌}
use Rattle.byteorder.specs.Endian.{big_bytes}
use Rattle.freq_range.specs.declared.flags.RuleFlags.{RuleFlags}
use Rattle.freq_range.specs.declared.wmm.Wmm.{Wmm}
use Rattle.freq_range.specs.declared.wmm.WmmEntry.{WmmEntry}
use Rattle.db_writer.specs.declared.records.CollectionRecord.{CollectionRecord}
use Rattle.db_writer.specs.declared.records.RuleRecord.{RuleRecord}

-- a number in two bytes, and in four
unfoldable pub be16 : ℕ → List ℕ
be16 n = big_bytes 2 n

-- a number in four bytes
unfoldable pub be32 : ℕ → List ℕ
be32 n = big_bytes 4 n

-- The record of a WMM rule: for each of the eight entries both exponents in one byte, the AIFSN, and the COT. A WMM rule
-- takes 8 words, and WMM rules are ordered by these bytes.
unfoldable pub wmm_entry_bytes : WmmEntry → List ℕ
wmm_entry_bytes e = (e.min_exp * 16 + e.max_exp) ∷ e.aifsn ∷ be16 e.cot_ms

-- the record of a WMM rule: its eight entries, those of clients first
unfoldable pub wmm_bytes : Wmm → List ℕ
wmm_bytes w =
    flat_map wmm_entry_bytes (w.vo_c ∷ w.vi_c ∷ w.be_c ∷ w.bk_c ∷ w.vo_ap ∷ w.vi_ap ∷ w.be_ap ∷ w.bk_ap ∷ [])

-- all flags in one byte: 1 NO-OFDM, 2 NO-OUTDOOR, 4 DFS, 8 NO-IR, 16 AUTO-BW
abbrev pub bit : Bool → ℕ
bit true = 1
bit false = 0

-- a rule's flags in one byte
unfoldable pub flags_byte : RuleFlags → ℕ
flags_byte f = bit f.no_ofdm + 2 * bit f.no_outdoor + 4 * bit f.dfs + 8 * bit f.no_ir + 16 * bit f.auto_bw

-- Rules are ordered by their start, end, width, flags, power and check time, and then by the place of their WMM rule, those
-- without one first.
unfoldable pub rule_key : RuleRecord → List ℕ
rule_key r = r.start_khz ∷ r.end_khz ∷ r.max_bw_khz ∷ r.flags ∷ r.eirp_mbm ∷ r.cac_s ∷ option_to_list r.wmm

-- how many bytes of the record say something: without a check time and a WMM rule, with a check time alone, with a WMM rule
abbrev pub rule_length : ℕ → Option ℕ → ℕ
rule_length seconds None = if seconds == 0 then 16 else 18
rule_length seconds (Some place) = 20

-- what the record has behind its first 16 bytes, filled up to a whole word
abbrev pub rule_end : ℕ → Option ℕ → List ℕ
rule_end seconds None = if seconds == 0 then [] else be16 seconds ++ be16 0
rule_end seconds (Some place) = be16 seconds ++ be16 place

-- the record of a rule
unfoldable pub rule_bytes : RuleRecord → List ℕ
rule_bytes r =
    rule_length r.cac_s r.wmm ∷ r.flags
    ∷ (be16 r.eirp_mbm ++ (be32 r.start_khz ++ (be32 r.end_khz ++ (be32 r.max_bw_khz ++ rule_end r.cac_s r.wmm))))

-- how many words of 4 bytes it takes
unfoldable pub rule_words : RuleRecord → ℕ
rule_words r = (rule_length r.cac_s r.wmm + 3) / 4

-- Collections are ordered by the number of their region, and then by the places of their rules.
unfoldable pub collection_key : CollectionRecord → List ℕ
collection_key c = c.region ∷ c.rules

-- The record of a collection: its length, how many rules it has, the region, a zero byte, the pointers, and two zero bytes
-- where they are of an odd number.
unfoldable pub collection_padding : ℕ → List ℕ
collection_padding count = if count % 2 == 0 then [] else be16 0

-- the record of a collection
unfoldable pub collection_bytes : CollectionRecord → List ℕ
collection_bytes c = 3 ∷ length c.rules ∷ c.region ∷ 0 ∷ (flat_map be16 c.rules ++ collection_padding (length c.rules))

-- one word, and one for each two of the pointers, the last one perhaps alone
unfoldable pub collection_words : CollectionRecord → ℕ
collection_words c = 1 + (length c.rules + 1) / 2
