-- What a message asks, a line can ask.
use Rattle.std.proofs.Common.{◌≡◌, ℕ, ◌*◌, ◌≤◌, List, [], ◌∷◌, length, All, Option, None, Some, sym, ap, subst, ◌∙◌, arith}
use Rattle.std.proofs.lemmas.List.Elements.{All-cons, All-nil}
use Rattle.freq_range.specs.Valid.{IsValidRule}
use Rattle.freq_range.specs.declared.rule.Rule.{Rule}
use Rattle.rule_tables.specs.Code.{IsCode}
use Rattle.chan_def.specs.declared.definition.ChanDef.{ChanDef}
use Rattle.chan_def.specs.declared.width.Width.{Width}
use Rattle.chan_def.specs.declared.width.Width.TheVariants.{Noht}
use Rattle.nl_attrs.specs.declared.attr.Attr.{Attr}
use Rattle.nl_attrs.specs.declared.message.Msg.{Msg}
use Rattle.nl_attrs.specs.declared.message.Msg.TheVariants.{Generic, Error, Done}
use Rattle.reg_journal.specs.Forms.{AreLineRules, IsLineChannel, IsLineFrequency, IsLineRequest}
use Rattle.reg_journal.specs.declared.request.Request.{Request}
use Rattle.nl80211_cmds.specs.Commands.{fields_of}
use Rattle.nl80211_cmds.specs.Drafts.{asked_request, nothing_told}
use Rattle.nl80211_cmds.specs.Fields.{FieldTells, FieldsTell}
use Rattle.nl80211_cmds.specs.Requests.{MsgAsks}
use Rattle.nl80211_cmds.specs.Rules.{EachTells, TellsRules}
use Rattle.nl80211_cmds.specs.Values.{payload_of, TellsCentre, TellsChan}
use Rattle.nl80211_cmds.specs.declared.attribute.TheConstants.{ALPHA2, BODY, CENTER_FREQ1, CENTRE, CHANNEL_WIDTH, FREQ, REG_ALPHA2, RULES, WIDTH, WIPHY_FREQ}
use Rattle.nl80211_cmds.specs.declared.command.Command.{Command}
use Rattle.nl80211_cmds.specs.declared.command.Command.TheVariants as commands
use Rattle.nl80211_cmds.specs.declared.draft.Draft.{Draft}
use Rattle.nl80211_cmds.specs.declared.field.Field.TheVariants as fields

frequency : (khz mhz : ℕ) → khz ≡ 1000 * mhz → 1 ≤ mhz → mhz ≤ 100000 → IsLineFrequency khz
frequency khz mhz e some few = record { whole = omega (arith, e); least = omega (arith, e); most = omega (arith, e) }

centre_bounds : (payload : Option (List ℕ)) (width : Width) (mhz centre : ℕ) → TellsCentre payload width mhz centre → 1 ≤ mhz → mhz ≤ 100000 → (1 ≤ centre) × (centre ≤ 100000) × (width ≡ Noht → centre ≡ mhz)
centre_bounds None width mhz centre tells some few = (omega (arith, tells.1), omega (arith, tells.1), λ noht. tells.1)
centre_bounds (Some p) width mhz centre tells some few = (tells.0.least_is, tells.0.most_is, tells.1)

chan_line : (f w m : Option (List ℕ)) (c : ChanDef) → TellsChan f w m c → IsLineChannel c
chan_line f w m c tells =
    let some = tells.frequency_is.least_is in
    let few = tells.frequency_is.most_is in
    let bounds = centre_bounds m c.width tells.mhz tells.centre_mhz tells.centre_is some few in
    record {
      control = frequency c.control_khz tells.mhz tells.control some few;
      centre = frequency c.centre_khz tells.centre_mhz tells.middle bounds.0 bounds.1;
      alone = λ noht. tells.middle ∙ ap (λ (n : ℕ). 1000 * n) (bounds.2 noht) ∙ sym tells.control;
    }

each_line : (attrs : List Attr) (rules : List Rule) → EachTells attrs rules → All (λ rule. IsValidRule rule × (rule.cac_s ≡ 0) × (rule.wmm ≡ None)) rules
each_line [] [] tells = All-nil (λ rule. IsValidRule rule × (rule.cac_s ≡ 0) × (rule.wmm ≡ None))
each_line [] (rule ∷ rules) tells = absurd tells
each_line (a ∷ attrs) [] tells = absurd tells
each_line (a ∷ attrs) (rule ∷ rules) tells =
    let is = tells.0.rule_is in
    All-cons (λ r. IsValidRule r × (r.cac_s ≡ 0) × (r.wmm ≡ None)) rule rules (is.valid, is.limits.no_check, is.limits.no_wmm) (each_line attrs rules tells.1)

rules_line : (payload : Option (List ℕ)) (rules : List Rule) → TellsRules payload rules → AreLineRules rules
rules_line payload rules tells = (tells.some, tells.few, each_line tells.attrs rules tells.rules_are)

-- ---- a name and a channel, a radio and something

chan_told : (f w m : ℕ) (attrs : List Attr) (d e : Draft) → FieldTells (fields.Chan f w m) attrs d e → IsLineChannel e.chan
chan_told f w m attrs d e tells = subst IsLineChannel (ap (λ (x : Draft). x.chan) (sym tells.2)) (chan_line (payload_of f attrs) (payload_of w attrs) (payload_of m attrs) tells.0 tells.1)

plain_told : (f w m : ℕ) (attrs : List Attr) (d e : Draft) → FieldTells (fields.PlainChan f w m) attrs d e → IsLineChannel e.chan × (e.chan.width ≡ Noht)
plain_told f w m attrs d e tells =
    (subst IsLineChannel (ap (λ (x : Draft). x.chan) (sym tells.3)) (chan_line (payload_of f attrs) (payload_of w attrs) (payload_of m attrs) tells.0 tells.1), ap (λ (x : Draft). x.chan.width) tells.3 ∙ tells.2)

code_told : (kind : ℕ) (attrs : List Attr) (d e : Draft) → FieldTells (fields.Code kind) attrs d e → IsCode e.alpha2
code_told kind attrs d e tells = subst IsCode (ap (λ (x : Draft). x.alpha2) (sym tells.2)) tells.1.is

body_told : (kind : ℕ) (attrs : List Attr) (d e : Draft) → FieldTells (fields.Body kind) attrs d e → (1 ≤ length e.body) × (length e.body ≤ 255)
body_told kind attrs d e tells =
    let same = ap (λ (x : Draft). length x.body) tells.2 in
    (omega (arith, same, tells.1.some), omega (arith, same, tells.1.few))

rules_told : (kind : ℕ) (attrs : List Attr) (d e : Draft) → FieldTells (fields.Rules kind) attrs d e → AreLineRules e.rules
rules_told kind attrs d e tells = subst AreLineRules (ap (λ (x : Draft). x.rules) (sym tells.2)) (rules_line (payload_of kind attrs) tells.0 tells.1)

-- what is told last stays
last : (attrs : List Attr) (P : Draft → Type 0) (d e : Draft) → FieldsTell [] attrs d e → P d → P e
last attrs P d e same h = subst P (sym same) h

line_by : (c : Command) (attrs : List Attr) (told : Draft) → FieldsTell (fields_of c) attrs nothing_told told → IsLineRequest (asked_request c told)
line_by commands.SetWiphyChannel attrs told (d1, f1, (d2, f2, same)) = last attrs (λ x. IsLineChannel x.chan) d2 told same (chan_told WIPHY_FREQ CHANNEL_WIDTH CENTER_FREQ1 attrs d1 d2 f2)
line_by commands.StartAp attrs told (d1, f1, (d2, f2, same)) = last attrs (λ x. IsLineChannel x.chan) d2 told same (chan_told WIPHY_FREQ CHANNEL_WIDTH CENTER_FREQ1 attrs d1 d2 f2)
line_by commands.JoinIbss attrs told (d1, f1, (d2, f2, same)) = last attrs (λ x. IsLineChannel x.chan) d2 told same (chan_told WIPHY_FREQ CHANNEL_WIDTH CENTER_FREQ1 attrs d1 d2 f2)
line_by commands.JoinMesh attrs told (d1, f1, (d2, f2, same)) = last attrs (λ x. IsLineChannel x.chan) d2 told same (chan_told WIPHY_FREQ CHANNEL_WIDTH CENTER_FREQ1 attrs d1 d2 f2)
line_by commands.RadarDetect attrs told (d1, f1, (d2, f2, same)) = last attrs (λ x. IsLineChannel x.chan) d2 told same (chan_told WIPHY_FREQ CHANNEL_WIDTH CENTER_FREQ1 attrs d1 d2 f2)
line_by commands.Radar attrs told (d1, f1, (d2, f2, same)) = last attrs (λ x. IsLineChannel x.chan) d2 told same (chan_told FREQ WIDTH CENTRE attrs d1 d2 f2)
line_by commands.Connect attrs told (d1, f1, (d2, f2, same)) = last attrs (λ x. IsLineChannel x.chan × (x.chan.width ≡ Noht)) d2 told same (plain_told WIPHY_FREQ CHANNEL_WIDTH CENTER_FREQ1 attrs d1 d2 f2)
line_by commands.ReqSetReg attrs told (d1, f1, same) = last attrs (λ x. IsCode x.alpha2) d1 told same (code_told REG_ALPHA2 attrs nothing_told d1 f1)
line_by commands.DriverHint attrs told (d1, f1, (d2, f2, same)) = last attrs (λ x. IsCode x.alpha2) d2 told same (code_told ALPHA2 attrs d1 d2 f2)
line_by commands.Element attrs told (d1, f1, (d2, f2, same)) = last attrs (λ x. (1 ≤ length x.body) × (length x.body ≤ 255)) d2 told same (body_told BODY attrs d1 d2 f2)
line_by commands.RadioRules attrs told (d1, f1, (d2, f2, same)) = last attrs (λ x. AreLineRules x.rules) d2 told same (rules_told RULES attrs d1 d2 f2)
line_by c attrs told tells = tt

pub line_asked : (m : Msg) (q : Request) → MsgAsks m q → IsLineRequest q
line_asked (Generic family flags seq pid number version attrs) q (c, asks) =
    let by = asks.asks in
    subst IsLineRequest (sym by.is) (line_by c attrs by.told by.tells)
line_asked (Error flags seq pid code head) q asks = absurd asks
line_asked (Done flags seq pid code) q asks = absurd asks
