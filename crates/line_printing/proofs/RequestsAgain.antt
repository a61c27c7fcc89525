-- The words of a printed line ask the request again.
use Rattle.std.proofs.Common.{◌≡◌, ℕ, ◌+◌, ◌*◌, ◌/◌, ◌%◌, ◌^◌, ◌<◌, ◌≤◌, Bool, true, false, ◌&&◌, List, [], ◌∷◌, length, map, All, refl, ap, ◌∙◌, sym, subst, arith}
use Rattle.std.specs.Prelude.{nat_le, ◌==◌}
use Rattle.std.specs.List.{list_all}
use Rattle.std.proofs.lemmas.Bool.{and_parts, eqb-true}
use Rattle.std.proofs.lemmas.Bool.Decides.{nat_tests}
use Rattle.std.proofs.lemmas.List.Elements.{All-head, All-tail}
use Rattle.chan_def.specs.declared.definition.ChanDef.{ChanDef}
use Rattle.chan_def.specs.declared.kind.Kind.{Kind}
use Rattle.chan_def.specs.declared.kind.Kind.TheVariants.{Ap, Ibss, Mesh, Station, Monitor}
use Rattle.chan_def.specs.declared.width.Width.{Width}
use Rattle.chan_def.specs.declared.width.Width.TheVariants.{Noht, W20, W40, W80, W160, W320}
use Rattle.chan_flags.specs.Profiles.{Abilities}
use Rattle.chan_flags.specs.declared.verdict.PowerSetting.{PowerSetting}
use Rattle.chan_flags.specs.declared.verdict.PowerSetting.TheVariants.{Auto, Limit, Fixed as FixedPower}
use Rattle.radio_drv.specs.Names.{IsName}
use Rattle.reg_journal.specs.Forms.{IsLineChannel, IsLineRequest}
use Rattle.reg_journal.specs.Requests.{FitsPowerField, IsTyped}
use Rattle.reg_journal.specs.declared.request.Request.{Request}
use Rattle.reg_journal.specs.declared.request.Request.TheVariants.{At as AskAt, RadioAdd as AskRadioAdd, RadioDel as AskRadioDel, RadioRules as AskRadioRules, Element as AskElement, DriverHint as AskDriverHint, UserHint as AskUserHint, Radar as AskRadar, Indoor as AskIndoor, IfaceAdd as AskIfaceAdd, IfaceDel as AskIfaceDel, SetType as AskSetType, SetPower as AskSetPower, Start as AskStart, Stop as AskStop, Check as AskCheck, GetReg as AskGetReg, Channels as AskChannels, RadioInfo as AskRadioInfo, IfaceInfo as AskIfaceInfo}
use Rattle.line_forms.specs.Forms.{FormOf, request_of}
use Rattle.line_forms.specs.Rows.{slots}
use Rattle.line_forms.specs.Spelling.{IsHexWord, hex_bytes, hex_value, is_hex_digit, noht}
use Rattle.line_forms.specs.Told.{Told, nothing, tell_chan, tell_name, tell_radio, twenty, with_marks}
use Rattle.line_forms.specs.declared.form.Freq.{Freq}
use Rattle.line_forms.specs.declared.form.Freq.TheVariants.{Alone, ByWord, Twenty as ByTwenty, Block}
use Rattle.line_forms.specs.declared.slot.Slot.{Slot}
use Rattle.line_forms.specs.declared.form.Form.{Form}
use Rattle.line_forms.specs.declared.form.Form.TheVariants.{RadioAdd, Radar, SetFreq, CheckFreq, ApStart, IbssJoin, MeshJoin}
use Rattle.line_printing.specs.Printed.{extra_of, form_of, freq_by, freq_of, hex_digit, hex_text, printed_rules_of, setting_told, start_form, stop_form, text_at, line_told, untold}
use Rattle.line_printing.proofs.SlotWalks.{are_printed, begins_word, is_row, room, tell_all, walked, with_ht}
use Rattle.line_printing.proofs.ToldParts.{IsTold, is-untold, told-chan, told-code, told-digits, told-kind, told-moment, told-name, told-power, told-profile, told-radio}

-- ---- hexadecimal

digit-again : (n : ℕ) → n ≤ 15 → hex_value (hex_digit n) ≡ n
digit-again n small = grind (arith, nat_tests)

digit-is : (n : ℕ) → n ≤ 15 → is_hex_digit (hex_digit n) ≡ true
digit-is n small = grind (arith, nat_tests)

byte-again : (b : ℕ) → b < 2 ^ 8 → hex_value (hex_digit (b / 16)) * 16 + hex_value (hex_digit (b % 16)) ≡ b
byte-again b small = rw (digit-again (b / 16) (omega arith), digit-again (b % 16) (omega arith)) (omega arith)

pub hex-again : (body : List ℕ) → All (λ byte. byte < 2 ^ 8) body → hex_bytes (hex_text body) ≡ body
hex-again [] each = refl
hex-again (b ∷ bs) each =
    ap (λ (n : ℕ). n ∷ hex_bytes (hex_text bs)) (byte-again b (All-head (λ byte. byte < 2 ^ 8) b bs each))
    ∙ ap (λ (l : List ℕ). b ∷ l) (hex-again bs (All-tail (λ byte. byte < 2 ^ 8) b bs each))

hex-length : (body : List ℕ) → length (hex_text body) ≡ 2 * length body
hex-length [] = refl
hex-length (b ∷ bs) = let rest = hex-length bs in omega (arith, rest)

hex-digits : (body : List ℕ) → All (λ byte. byte < 2 ^ 8) body → list_all is_hex_digit (hex_text body) ≡ true
hex-digits [] each = refl
hex-digits (b ∷ bs) each =
    let small = All-head (λ byte. byte < 2 ^ 8) b bs each in
    rw (digit-is (b / 16) (omega arith), digit-is (b % 16) (omega arith)) (hex-digits bs (All-tail (λ byte. byte < 2 ^ 8) b bs each))

hex-word : (body : List ℕ) → 1 ≤ length body → length body ≤ 255 → All (λ byte. byte < 2 ^ 8) body → IsHexWord (hex_text body)
hex-word body some few each =
    let len = hex-length body in
    record { some = omega (arith, len); few = omega (arith, len); even = omega (arith, len); digits = hex-digits body each }

-- ---- a line can tell what the request tells

setting : (s : PowerSetting) (t : Told) → FitsPowerField s → IsTold t → IsTold (setting_told s t)
setting Auto t fits told = told
setting (Limit power) t fits told = told-power power t fits told
setting (FixedPower power) t fits told = told-power power t fits told

on-radio : (r : ℕ) → r ≤ 7 → IsTold (tell_radio r untold)
on-radio r few = told-radio r untold few is-untold

by-name : (name : List ℕ) → IsName name → IsTold (tell_name name untold)
by-name name is = told-name name untold is is-untold

on-channel : (c : ChanDef) (t : Told) → IsLineChannel c → IsTold t → IsTold (tell_chan c t)
on-channel c t is told = told-chan c t is.control is.centre told

start-channel : (name : List ℕ) (kind : Kind) (c : ChanDef) → IsLineRequest (AskStart name kind c) → IsLineChannel c
start-channel name Ap c line = line
start-channel name Ibss c line = line
start-channel name Mesh c line = line
start-channel name Station c line = line.0
start-channel name Monitor c line = line

pub can-tell : (q : Request) → IsTyped q → IsLineRequest q → IsTold (line_told q)
can-tell (AskAt moment) typed line = told-moment moment untold typed is-untold
can-tell (AskRadioAdd r p) typed line = told-profile p (tell_radio r untold) typed.1 (on-radio r typed.0)
can-tell (AskRadioDel r) typed line = on-radio r typed
can-tell (AskRadioRules r rules) typed line = on-radio r typed.0
can-tell (AskElement r body) typed line = told-digits (hex_text body) (tell_radio r untold) (hex-word body line.0 line.1 typed.1) (on-radio r typed.0)
can-tell (AskDriverHint r a) typed line = told-code a (tell_radio r untold) line (on-radio r typed.0)
can-tell (AskUserHint a) typed line = told-code a untold line is-untold
can-tell (AskRadar r c) typed line = on-channel c (tell_radio r untold) line (on-radio r typed.0)
can-tell (AskIndoor on) typed line = is-untold
can-tell (AskIfaceAdd r name kind) typed line = told-kind kind (tell_name name (tell_radio r untold)) (told-name name (tell_radio r untold) typed.1 (on-radio r typed.0))
can-tell (AskIfaceDel name) typed line = by-name name typed
can-tell (AskSetType name kind) typed line = told-kind kind (tell_name name untold) (by-name name typed)
can-tell (AskSetPower name s) typed line = setting s (tell_name name untold) typed.1 (by-name name typed.0)
can-tell (AskStart name kind c) typed line = on-channel c (tell_name name untold) (start-channel name kind c line) (by-name name typed.0)
can-tell (AskStop name kind) typed line = by-name name typed
can-tell (AskCheck name c) typed line = on-channel c (tell_name name untold) line (by-name name typed.0)
can-tell AskGetReg typed line = is-untold
can-tell (AskChannels r) typed line = on-radio r typed
can-tell (AskRadioInfo r) typed line = on-radio r typed
can-tell (AskIfaceInfo name) typed line = by-name name typed

-- ---- the channel

-- what the words of a channel tell, by how it is printed
abbrev channel_by : Freq → ChanDef → ChanDef
channel_by Alone c = noht c.control_khz
channel_by ByWord c = noht c.control_khz
channel_by ByTwenty c = twenty (noht c.control_khz)
channel_by Block c = record { control_khz = c.control_khz; width = with_ht c.width; centre_khz = c.centre_khz }

same-channel : (control centre : ℕ) (width : Width) (centred : Bool) → (width ≡ Noht → centre ≡ control) → (centred ≡ true → centre ≡ control)
    → channel_by (freq_by width centred) (record { control_khz = control; width = width; centre_khz = centre }) ≡ record { control_khz = control; width = width; centre_khz = centre }
same-channel control centre Noht centred alone same = ap (λ khz. record { control_khz = control; width = Noht; centre_khz = khz }) (sym (alone refl))
same-channel control centre W20 true alone same = ap (λ khz. record { control_khz = control; width = W20; centre_khz = khz }) (sym (same refl))
same-channel control centre W20 false alone same = refl
same-channel control centre W40 centred alone same = refl
same-channel control centre W80 centred alone same = refl
same-channel control centre W160 centred alone same = refl
same-channel control centre W320 centred alone same = refl

pub channel-again : (c : ChanDef) → IsLineChannel c → channel_by (freq_of c) c ≡ c
channel-again c is = same-channel c.control_khz c.centre_khz c.width (c.centre_khz == c.control_khz) is.alone (eqb-true c.centre_khz c.control_khz)

-- ---- each form

-- a form and what is told ask the request, by words that are printed
pub record IsPrintedBy (form : Form) (t : Told) (q : Request) : Type 0 where
  pub printed : is_row (slots form) ≡ true
  pub asked : request_of form (tell_all t (slots form) nothing) ≡ q

by_radar : (f : Freq) (r : ℕ) (c : ChanDef) → channel_by f c ≡ c → IsPrintedBy (Radar f) (line_told (AskRadar r c)) (AskRadar r c)
by_radar Alone r c same = record { printed = refl; asked = ap (λ x. AskRadar r x) same }
by_radar ByWord r c same = record { printed = refl; asked = ap (λ x. AskRadar r x) same }
by_radar ByTwenty r c same = record { printed = refl; asked = ap (λ x. AskRadar r x) same }
by_radar Block r c same = record { printed = refl; asked = ap (λ x. AskRadar r x) same }

start-ap : (f : Freq) (name : List ℕ) (c : ChanDef) → channel_by f c ≡ c → IsPrintedBy (ApStart f) (line_told (AskStart name Ap c)) (AskStart name Ap c)
start-ap Alone name c same = record { printed = refl; asked = ap (λ x. AskStart name Ap x) same }
start-ap ByWord name c same = record { printed = refl; asked = ap (λ x. AskStart name Ap x) same }
start-ap ByTwenty name c same = record { printed = refl; asked = ap (λ x. AskStart name Ap x) same }
start-ap Block name c same = record { printed = refl; asked = ap (λ x. AskStart name Ap x) same }

start-ibss : (f : Freq) (name : List ℕ) (c : ChanDef) → channel_by f c ≡ c → IsPrintedBy (IbssJoin f) (line_told (AskStart name Ibss c)) (AskStart name Ibss c)
start-ibss Alone name c same = record { printed = refl; asked = ap (λ x. AskStart name Ibss x) same }
start-ibss ByWord name c same = record { printed = refl; asked = ap (λ x. AskStart name Ibss x) same }
start-ibss ByTwenty name c same = record { printed = refl; asked = ap (λ x. AskStart name Ibss x) same }
start-ibss Block name c same = record { printed = refl; asked = ap (λ x. AskStart name Ibss x) same }

start-mesh : (f : Freq) (name : List ℕ) (c : ChanDef) → channel_by f c ≡ c → IsPrintedBy (MeshJoin f) (line_told (AskStart name Mesh c)) (AskStart name Mesh c)
start-mesh Alone name c same = record { printed = refl; asked = ap (λ x. AskStart name Mesh x) same }
start-mesh ByWord name c same = record { printed = refl; asked = ap (λ x. AskStart name Mesh x) same }
start-mesh ByTwenty name c same = record { printed = refl; asked = ap (λ x. AskStart name Mesh x) same }
start-mesh Block name c same = record { printed = refl; asked = ap (λ x. AskStart name Mesh x) same }

start-monitor : (f : Freq) (name : List ℕ) (c : ChanDef) → channel_by f c ≡ c → IsPrintedBy (SetFreq f) (line_told (AskStart name Monitor c)) (AskStart name Monitor c)
start-monitor Alone name c same = record { printed = refl; asked = ap (λ x. AskStart name Monitor x) same }
start-monitor ByWord name c same = record { printed = refl; asked = ap (λ x. AskStart name Monitor x) same }
start-monitor ByTwenty name c same = record { printed = refl; asked = ap (λ x. AskStart name Monitor x) same }
start-monitor Block name c same = record { printed = refl; asked = ap (λ x. AskStart name Monitor x) same }

by_check : (f : Freq) (name : List ℕ) (c : ChanDef) → channel_by f c ≡ c → IsPrintedBy (CheckFreq f) (line_told (AskCheck name c)) (AskCheck name c)
by_check Alone name c same = record { printed = refl; asked = ap (λ x. AskCheck name x) same }
by_check ByWord name c same = record { printed = refl; asked = ap (λ x. AskCheck name x) same }
by_check ByTwenty name c same = record { printed = refl; asked = ap (λ x. AskCheck name x) same }
by_check Block name c same = record { printed = refl; asked = ap (λ x. AskCheck name x) same }

plain-channel : (c : ChanDef) → IsLineChannel c → c.width ≡ Noht → noht c.control_khz ≡ c
plain-channel c is none = subst (λ w. channel_by (freq_by w (c.centre_khz == c.control_khz)) c ≡ c) none (channel-again c is)

by_start : (name : List ℕ) (kind : Kind) (c : ChanDef) → IsLineRequest (AskStart name kind c) → IsPrintedBy (start_form kind c) (line_told (AskStart name kind c)) (AskStart name kind c)
by_start name Ap c line = start-ap (freq_of c) name c (channel-again c line)
by_start name Ibss c line = start-ibss (freq_of c) name c (channel-again c line)
by_start name Mesh c line = start-mesh (freq_of c) name c (channel-again c line)
by_start name Station c line = record { printed = refl; asked = ap (λ x. AskStart name Station x) (plain-channel c line.0 line.1) }
by_start name Monitor c line = start-monitor (freq_of c) name c (channel-again c line)

by_stop : (name : List ℕ) (kind : Kind) → IsLineRequest (AskStop name kind) → IsPrintedBy (stop_form kind) (line_told (AskStop name kind)) (AskStop name kind)
by_stop name Ap line = record { printed = refl; asked = refl }
by_stop name Ibss line = record { printed = refl; asked = refl }
by_stop name Mesh line = record { printed = refl; asked = refl }
by_stop name Station line = record { printed = refl; asked = refl }
by_stop name Monitor line = absurd line

marks : (p : Abilities) (self_managed deaf : Bool) → p.self_managed ≡ self_managed → p.deaf ≡ deaf → with_marks self_managed deaf p ≡ p
marks p self_managed deaf one two =
    λ i. record { bands = p.bands; width_mhz = p.width_mhz; radar_mhz = p.radar_mhz; power_mbm = p.power_mbm; contexts = p.contexts; self_managed = sym one i; deaf = sym two i }

by_add : (self_managed deaf : Bool) (r : ℕ) (p : Abilities) → p.self_managed ≡ self_managed → p.deaf ≡ deaf
    → IsPrintedBy (RadioAdd (extra_of self_managed deaf)) (line_told (AskRadioAdd r p)) (AskRadioAdd r p)
by_add false false r p one two = record { printed = refl; asked = ap (λ x. AskRadioAdd r x) (marks p false false one two) }
by_add true false r p one two = record { printed = refl; asked = ap (λ x. AskRadioAdd r x) (marks p true false one two) }
by_add false true r p one two = record { printed = refl; asked = ap (λ x. AskRadioAdd r x) (marks p false true one two) }
by_add true true r p one two = record { printed = refl; asked = ap (λ x. AskRadioAdd r x) (marks p true true one two) }

by_setting : (name : List ℕ) (s : PowerSetting) → IsPrintedBy (form_of (AskSetPower name s)) (line_told (AskSetPower name s)) (AskSetPower name s)
by_setting name Auto = record { printed = refl; asked = refl }
by_setting name (Limit power) = record { printed = refl; asked = refl }
by_setting name (FixedPower power) = record { printed = refl; asked = refl }

by_indoor : (on : Bool) → IsPrintedBy (form_of (AskIndoor on)) (line_told (AskIndoor on)) (AskIndoor on)
by_indoor true = record { printed = refl; asked = refl }
by_indoor false = record { printed = refl; asked = refl }

-- a request that gives no rules
abbrev pub GivesNoRules : Request → Type 0
GivesNoRules (AskRadioRules r rules) = ⊥
GivesNoRules q = Unit {0}

pub printed-by : (q : Request) → GivesNoRules q → IsTyped q → IsLineRequest q → IsPrintedBy (form_of q) (line_told q) q
printed-by (AskAt moment) plain typed line = record { printed = refl; asked = refl }
printed-by (AskRadioAdd r p) plain typed line = by_add p.self_managed p.deaf r p refl refl
printed-by (AskRadioDel r) plain typed line = record { printed = refl; asked = refl }
printed-by (AskRadioRules r rules) plain typed line = absurd plain
printed-by (AskElement r body) plain typed line = record { printed = refl; asked = ap (λ x. AskElement r x) (hex-again body typed.1) }
printed-by (AskDriverHint r a) plain typed line = record { printed = refl; asked = refl }
printed-by (AskUserHint a) plain typed line = record { printed = refl; asked = refl }
printed-by (AskRadar r c) plain typed line = by_radar (freq_of c) r c (channel-again c line)
printed-by (AskIndoor on) plain typed line = by_indoor on
printed-by (AskIfaceAdd r name kind) plain typed line = record { printed = refl; asked = refl }
printed-by (AskIfaceDel name) plain typed line = record { printed = refl; asked = refl }
printed-by (AskSetType name kind) plain typed line = record { printed = refl; asked = refl }
printed-by (AskSetPower name s) plain typed line = by_setting name s
printed-by (AskStart name kind c) plain typed line = by_start name kind c line
printed-by (AskStop name kind) plain typed line = by_stop name kind line
printed-by (AskCheck name c) plain typed line = by_check (freq_of c) name c (channel-again c line)
printed-by AskGetReg plain typed line = record { printed = refl; asked = refl }
printed-by (AskChannels r) plain typed line = record { printed = refl; asked = refl }
printed-by (AskRadioInfo r) plain typed line = record { printed = refl; asked = refl }
printed-by (AskIfaceInfo name) plain typed line = record { printed = refl; asked = refl }

pub row-printed : (slots : List Slot) → is_row slots ≡ true → are_printed false slots ≡ true
row-printed slots is = (and_parts (are_printed false slots) (begins_word slots) (and_parts (are_printed false slots && begins_word slots) (nat_le (room slots) 4096) is).0).0

-- The words that are printed at the slots have the form, and ask the request.
pub asked-again : (q : Request) → GivesNoRules q → IsTyped q → IsLineRequest q → FormOf (map (text_at (printed_rules_of q) (line_told q)) (slots (form_of q))) q
asked-again q plain typed line =
    let by = printed-by q plain typed line in
    record {
      form = form_of q;
      told = tell_all (line_told q) (slots (form_of q)) nothing;
      tells = walked (printed_rules_of q) (line_told q) nothing (slots (form_of q)) false (can-tell q typed line) (λ e. absurd cc) (row-printed (slots (form_of q)) by.printed);
      asked = sym by.asked;
    }
