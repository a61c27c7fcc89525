-- What the words of a line ask is a request that a line can ask.
use Rattle.std.proofs.Common.{◌≡◌, ℕ, ◌+◌, ◌*◌, ◌<◌, ◌≤◌, zero, suc, inl, inr, Bool, true, false, List, [], ◌∷◌, length, get_or, Some, None, refl, sym, subst, arith}
use Rattle.std.specs.Prelude.{◌==◌}
use Rattle.std.specs.List.{AllZip}
use Rattle.std.proofs.lemmas.Bool.Decides.{nat_tests}
use Rattle.std.proofs.lemmas.List.Splits.{length-slice_split}
use Rattle.std.proofs.lemmas.Option.{cond_some}
use Rattle.freq_range.specs.Valid.{IsValidRule}
use Rattle.freq_range.specs.declared.rule.Rule.{Rule}
use Rattle.rule_tables.specs.Code.{IsCode, is_code}
use Rattle.rule_tables.specs.declared.code.Alpha2.{Alpha2}
use Rattle.chan_def.specs.declared.definition.ChanDef.{ChanDef}
use Rattle.text_lines.specs.LineFaults.{IsTextOfRule}
use Rattle.text_lines.specs.Lines.{bare}
use Rattle.text_lines.proofs.ValidSpelled.{valid_line}
use Rattle.reg_journal.specs.Forms.{IsLineRequest}
use Rattle.reg_journal.specs.declared.request.Request.{Request}
use Rattle.line_forms.specs.Forms.{FormOf, HasForm, Leads, RulesOf, Spells, request_of, rule_parts, rules_text}
use Rattle.line_forms.specs.Rows.{slots}
use Rattle.line_forms.specs.Slots.{Fills, FillsChannel}
use Rattle.line_forms.specs.Spelling.{IsHexWord, code_of_word, hex_bytes}
use Rattle.line_forms.specs.Told.{Told, nothing, tell_chan}
use Rattle.line_forms.specs.declared.form.Extra.TheVariants.{Neither, OnlySelf, OnlyDeaf, Both}
use Rattle.line_forms.specs.declared.form.Freq.TheVariants.{Alone, ByWord, Twenty as ByTwenty, Block}
use Rattle.line_forms.specs.declared.form.Form.{Form}
use Rattle.line_forms.specs.declared.form.Form.TheVariants.{At, RadioAdd, RadioDel, RadioRules, Element, DriverHint, Radar, IndoorOn, IndoorOff, GetReg, UserHint, RadioInfo, ChannelsOf, IfaceAdd, IfaceInfo, IfaceDel, SetType, SetFreq, SetChannel, PowerAuto, PowerLimit, PowerFixed, CheckFreq, CheckChannel, ApStart, ApStartHead, ApStop, IbssJoin, IbssLeave, MeshJoin, MeshLeave, Connect, Disconnect}
use Rattle.line_forms.specs.declared.slot.Slot.{Slot}
use Rattle.line_forms.specs.declared.slot.Slot.TheVariants.{Fixed, Moment, Radio, Bands as OfBands, Width as OfWidth, RadarWidth, MostPower, Contexts, Rules, Hex, Code, Mhz, ChannelNo, WordForm, Twenty, Wide, Centre, Name, OfKind, Power, Ssid, Interval, Dtim}
use Rattle.line_forms.proofs.ToldChannels.{IsKnown, ToldChannel, channel-known, known_after}
use Rattle.line_forms.proofs.ToldChannels.ToldChannel.{Untold}

-- ---- what is known of what was told

abbrev known_behind : List Slot → ToldChannel → ToldChannel
known_behind [] k = k
known_behind (s ∷ slots) k = known_behind slots (known_after s k)

abbrev hex_after : Slot → Bool → Bool
hex_after Hex has = true
hex_after s has = has

abbrev hex_behind : List Slot → Bool → Bool
hex_behind [] has = has
hex_behind (s ∷ slots) has = hex_behind slots (hex_after s has)

-- what is known of what was told
record Knows (k : ToldChannel) (has : Bool) (d : Told) : Type 0 where
  channel : IsKnown k d.chan
  code : IsCode d.code
  digits : has ≡ true → IsHexWord d.digits

-- ---- a word at its slot

code-known : (w : List ℕ) (a : Alpha2) → code_of_word w ≡ Some a → IsCode a
unfolding code_of_word
code-known [] a e = absurd cc
code-known (x ∷ []) a e = absurd cc
code-known (x ∷ y ∷ z ∷ rest) a e = absurd cc
code-known (x ∷ y ∷ []) a e =
    let c = cond_some (is_code x y) (record { a = x; b = y }) a e in
    subst IsCode c.1 (is-code x y c.0)
  where
    is-code : (x y : ℕ) → is_code x y ≡ true → IsCode (record { a = x; b = y })
    is-code x y is = grind (arith, nat_tests)

by-channel : (s : Slot) (k : ToldChannel) (has : Bool) (d e : Told) (x : ChanDef) (w : List ℕ) → FillsChannel s d.chan w x → e ≡ tell_chan x d → Knows k has d → Knows (known_after s k) has e
by-channel s k has d e x w h is knows =
    subst (Knows (known_after s k) has) (sym is) (record { channel = channel-known s k d.chan w x knows.channel h; code = knows.code; digits = knows.digits })

step-known : (s : Slot) (k : ToldChannel) (has : Bool) (d : Told) (w : List ℕ) (e : Told) → Knows k has d → Fills s d w e → Knows (known_after s k) (hex_after s has) e
step-known (Fixed word) k has d w e knows h = subst (Knows k has) (sym h.1) knows
step-known Moment k has d w e knows (n, is, tells) = subst (Knows k has) (sym tells) (record { channel = knows.channel; code = knows.code; digits = knows.digits })
step-known Radio k has d w e knows (n, is, tells) = subst (Knows k has) (sym tells) (record { channel = knows.channel; code = knows.code; digits = knows.digits })
step-known OfBands k has d w e knows (p, is, tells) = subst (Knows k has) (sym tells) (record { channel = knows.channel; code = knows.code; digits = knows.digits })
step-known OfWidth k has d w e knows (p, is, tells) = subst (Knows k has) (sym tells) (record { channel = knows.channel; code = knows.code; digits = knows.digits })
step-known RadarWidth k has d w e knows (p, is, tells) = subst (Knows k has) (sym tells) (record { channel = knows.channel; code = knows.code; digits = knows.digits })
step-known MostPower k has d w e knows (p, is, tells) = subst (Knows k has) (sym tells) (record { channel = knows.channel; code = knows.code; digits = knows.digits })
step-known Contexts k has d w e knows (p, is, tells) = subst (Knows k has) (sym tells) (record { channel = knows.channel; code = knows.code; digits = knows.digits })
step-known Rules k has d w e knows h = absurd h
step-known Hex k has d w e knows (is, tells) = subst (Knows k true) (sym tells) (record { channel = knows.channel; code = knows.code; digits = λ _. is })
step-known Code k has d w e knows (a, is, tells) = subst (Knows k has) (sym tells) (record { channel = knows.channel; code = code-known w a is; digits = knows.digits })
step-known Mhz k has d w e knows (x, h, tells) = by-channel Mhz k has d e x w h tells knows
step-known ChannelNo k has d w e knows (x, h, tells) = by-channel ChannelNo k has d e x w h tells knows
step-known WordForm k has d w e knows (x, h, tells) = by-channel WordForm k has d e x w h tells knows
step-known Twenty k has d w e knows (x, h, tells) = by-channel Twenty k has d e x w h tells knows
step-known Wide k has d w e knows (x, h, tells) = by-channel Wide k has d e x w h tells knows
step-known Centre k has d w e knows (x, h, tells) = by-channel Centre k has d e x w h tells knows
step-known Name k has d w e knows (is, tells) = subst (Knows k has) (sym tells) (record { channel = knows.channel; code = knows.code; digits = knows.digits })
step-known OfKind k has d w e knows (n, is, tells) = subst (Knows k has) (sym tells) (record { channel = knows.channel; code = knows.code; digits = knows.digits })
step-known Power k has d w e knows (n, is, tells) = subst (Knows k has) (sym tells) (record { channel = knows.channel; code = knows.code; digits = knows.digits })
step-known Ssid k has d w e knows (is, tells) = subst (Knows k has) (sym tells) knows
step-known Interval k has d w e knows (is, tells) = subst (Knows k has) (sym tells) knows
step-known Dtim k has d w e knows (is, tells) = subst (Knows k has) (sym tells) knows

walk-known : (ws : List (List ℕ)) (slots : List Slot) (k : ToldChannel) (has : Bool) (d e : Told) → Knows k has d → Leads ws slots d [] e → Knows (known_behind slots k) (hex_behind slots has) e
walk-known [] [] k has d e knows (none, same) = subst (Knows k has) same knows
walk-known [] (s ∷ slots) k has d e knows h = absurd cc
walk-known (w ∷ ws) [] k has d e knows h = absurd h
walk-known (w ∷ ws) (s ∷ slots) k has d e knows (next, fills, leads) =
    walk-known ws slots (known_after s k) (hex_after s has) next e (step-known s k has d w next knows fills) leads

no-rules-walk : (ws : List (List ℕ)) (told : Told) → HasForm ws RadioRules told → ⊥
no-rules-walk [] told h = absurd cc
no-rules-walk (a ∷ []) told (x, f, h) = absurd cc
no-rules-walk (a ∷ b ∷ []) told (x, f, (y, g, h)) = absurd cc
no-rules-walk (a ∷ b ∷ c ∷ []) told (x, f, (y, g, (z, i, h))) = absurd cc
no-rules-walk (a ∷ b ∷ c ∷ r ∷ ws) told (x, f, (y, g, (z, i, (u, never, h)))) = never

-- ---- each form

hex-length : (ds : List ℕ) → 2 * length (hex_bytes ds) ≤ length ds × (length ds ≤ 2 * length (hex_bytes ds) + 1)
hex-length [] = (omega arith, omega arith)
hex-length (a ∷ []) = (omega arith, omega arith)
hex-length (a ∷ b ∷ ds) = let rest = hex-length ds in (let r = rest.0 in omega (arith, r), let r = rest.1 in omega (arith, r))

element-line : (ds : List ℕ) → IsHexWord ds → (1 ≤ length (hex_bytes ds)) × (length (hex_bytes ds) ≤ 255)
element-line ds is =
    let l = hex-length ds in
    let low = l.0 in
    let high = l.1 in
    let some = is.some in
    let few = is.few in
    (omega (arith, high, some), omega (arith, low, few))

line-by : (form : Form) (ws : List (List ℕ)) (t : Told) → HasForm ws form t → Knows (known_behind (slots form) Untold) (hex_behind (slots form) false) t → IsLineRequest (request_of form t)
line-by (RadioAdd Neither) ws t h knows = tt
line-by (RadioAdd OnlySelf) ws t h knows = tt
line-by (RadioAdd OnlyDeaf) ws t h knows = tt
line-by (RadioAdd Both) ws t h knows = tt
line-by At ws t h knows = tt
line-by RadioDel ws t h knows = tt
line-by IndoorOn ws t h knows = tt
line-by IndoorOff ws t h knows = tt
line-by GetReg ws t h knows = tt
line-by RadioInfo ws t h knows = tt
line-by ChannelsOf ws t h knows = tt
line-by IfaceAdd ws t h knows = tt
line-by IfaceInfo ws t h knows = tt
line-by IfaceDel ws t h knows = tt
line-by SetType ws t h knows = tt
line-by PowerAuto ws t h knows = tt
line-by PowerLimit ws t h knows = tt
line-by PowerFixed ws t h knows = tt
line-by ApStop ws t h knows = tt
line-by IbssLeave ws t h knows = tt
line-by MeshLeave ws t h knows = tt
line-by Disconnect ws t h knows = tt
line-by RadioRules ws t h knows = absurd (no-rules-walk ws t h)
line-by Element ws t h knows = element-line t.digits (knows.digits refl)
line-by DriverHint ws t h knows = knows.code
line-by UserHint ws t h knows = knows.code
line-by (Radar Alone) ws t h knows = knows.channel.0
line-by (Radar ByWord) ws t h knows = knows.channel
line-by (Radar ByTwenty) ws t h knows = knows.channel.0
line-by (Radar Block) ws t h knows = knows.channel
line-by (SetFreq Alone) ws t h knows = knows.channel.0
line-by (SetFreq ByWord) ws t h knows = knows.channel
line-by (SetFreq ByTwenty) ws t h knows = knows.channel.0
line-by (SetFreq Block) ws t h knows = knows.channel
line-by (SetChannel Alone) ws t h knows = knows.channel.0
line-by (SetChannel ByWord) ws t h knows = knows.channel
line-by (SetChannel ByTwenty) ws t h knows = knows.channel.0
line-by (SetChannel Block) ws t h knows = knows.channel
line-by (CheckFreq Alone) ws t h knows = knows.channel.0
line-by (CheckFreq ByWord) ws t h knows = knows.channel
line-by (CheckFreq ByTwenty) ws t h knows = knows.channel.0
line-by (CheckFreq Block) ws t h knows = knows.channel
line-by (CheckChannel Alone) ws t h knows = knows.channel.0
line-by (CheckChannel ByWord) ws t h knows = knows.channel
line-by (CheckChannel ByTwenty) ws t h knows = knows.channel.0
line-by (CheckChannel Block) ws t h knows = knows.channel
line-by (ApStart Alone) ws t h knows = knows.channel.0
line-by (ApStart ByWord) ws t h knows = knows.channel
line-by (ApStart ByTwenty) ws t h knows = knows.channel.0
line-by (ApStart Block) ws t h knows = knows.channel
line-by (ApStartHead Alone) ws t h knows = knows.channel.0
line-by (ApStartHead ByWord) ws t h knows = knows.channel
line-by (ApStartHead ByTwenty) ws t h knows = knows.channel.0
line-by (ApStartHead Block) ws t h knows = knows.channel
line-by (IbssJoin Alone) ws t h knows = knows.channel.0
line-by (IbssJoin ByWord) ws t h knows = knows.channel
line-by (IbssJoin ByTwenty) ws t h knows = knows.channel.0
line-by (IbssJoin Block) ws t h knows = knows.channel
line-by (MeshJoin Alone) ws t h knows = knows.channel.0
line-by (MeshJoin ByWord) ws t h knows = knows.channel
line-by (MeshJoin ByTwenty) ws t h knows = knows.channel.0
line-by (MeshJoin Block) ws t h knows = knows.channel
line-by Connect ws t h knows = knows.channel

start-known : Knows Untold false nothing
start-known = record { channel = tt; code = inr (refl, refl); digits = λ e. absurd cc }

pub form-line : (ws : List (List ℕ)) (q : Request) → FormOf ws q → IsLineRequest q
form-line ws q h =
    subst IsLineRequest (sym h.asked) (line-by h.form ws h.told h.tells (walk-known ws (slots h.form) Untold false nothing h.told start-known h.tells))

-- ---- lines of rules

zip-some : (parts : List (List ℕ)) (rules : List Rule) → 1 ≤ length parts → AllZip IsTextOfRule parts rules → 1 ≤ length rules
zip-some [] rules some h = absurd (omega arith)
zip-some (p ∷ parts) [] some h = absurd h
zip-some (p ∷ parts) (r ∷ rules) some h = omega arith

zip-valid : (parts : List (List ℕ)) (rules : List Rule) → AllZip IsTextOfRule parts rules → (k : ℕ) (d : Rule) → k < length rules
    → IsValidRule (get_or rules k d) × ((get_or rules k d).cac_s ≡ 0) × ((get_or rules k d).wmm ≡ None)
zip-valid [] [] h k d lt = absurd (omega arith)
zip-valid [] (r ∷ rs) h k d lt = absurd h
zip-valid (p ∷ parts) [] h k d lt = absurd h
zip-valid (p ∷ parts) (r ∷ rs) h zero d lt = (valid_line (bare p) r h.0.is, h.0.is.is.check_time, h.0.is.is.wmm)
zip-valid (p ∷ parts) (r ∷ rs) h (suc k) d lt = zip-valid parts rs h.1 k d (omega arith)

pub rules-line : (ws : List (List ℕ)) (q : Request) → RulesOf ws q → IsLineRequest q
rules-line ws q h =
    let some : 1 ≤ length (rule_parts (rules_text h.rest)) = let len = length-slice_split (λ b. b == 59) (rules_text h.rest) in omega (arith, len) in
    subst IsLineRequest (sym h.asked) (zip-some (rule_parts (rules_text h.rest)) h.rules some h.are.each, h.are.few, zip-valid (rule_parts (rules_text h.rest)) h.rules h.are.each)

pub spelled-line : (ws : List (List ℕ)) (q : Request) → Spells ws q → IsLineRequest q
spelled-line ws q (inl h) = form-line ws q h
spelled-line ws q (inr h) = rules-line ws q h
