-- Attributes tell each field in one way.
use Rattle.std.proofs.Common.{◌≡◌, ℕ, Bool, List, [], ◌∷◌, sym, ap, subst, ◌∙◌, arith}
use Rattle.rule_tables.specs.declared.code.Alpha2.{Alpha2}
use Rattle.chan_def.specs.declared.definition.ChanDef.{ChanDef}
use Rattle.chan_def.specs.declared.kind.Kind.{Kind}
use Rattle.chan_flags.specs.Profiles.{Abilities}
use Rattle.chan_flags.specs.declared.verdict.PowerSetting.{PowerSetting}
use Rattle.nl_attrs.specs.declared.attr.Attr.{Attr}
use Rattle.nl80211_cmds.specs.Fields.{FieldTells, FieldsTell}
use Rattle.nl80211_cmds.specs.Values.{payload_of}
use Rattle.nl80211_cmds.specs.declared.draft.Draft.{Draft}
use Rattle.nl80211_cmds.specs.declared.field.Field.{Field}
use Rattle.nl80211_cmds.specs.declared.field.Field.TheVariants as fields
use Rattle.freq_range.specs.declared.rule.Rule.{Rule}
use Rattle.nl80211_cmds.proofs.OneRule.{one_rules}
use Rattle.nl80211_cmds.proofs.OneValue.{one_number, one_name, one_kind, one_code, one_chan, one_power, one_moment, one_switch, one_profile, one_body}

pub one_field : (field : Field) (attrs : List Attr) (d e f : Draft) → FieldTells field attrs d e → FieldTells field attrs d f → e ≡ f
one_field (fields.Radio kind) attrs d e f one two = one.2 ∙ ap (λ (x : ℕ). record d { radio = x }) (one_number (payload_of kind attrs) 0 7 one.0 two.0 (omega arith) one.1 two.1) ∙ sym two.2
one_field (fields.Name kind) attrs d e f one two = one.2 ∙ ap (λ (x : List ℕ). record d { name = x }) (one_name (payload_of kind attrs) one.0 two.0 one.1 two.1) ∙ sym two.2
one_field (fields.Kind kind) attrs d e f one two = one.2 ∙ ap (λ (x : Kind). record d { kind = x }) (one_kind (payload_of kind attrs) one.0 two.0 one.1 two.1) ∙ sym two.2
one_field (fields.Code kind) attrs d e f one two = one.2 ∙ ap (λ (x : Alpha2). record d { alpha2 = x }) (one_code (payload_of kind attrs) one.0 two.0 one.1 two.1) ∙ sym two.2
one_field (fields.Chan a b c) attrs d e f one two =
    one.2 ∙ ap (λ (x : ChanDef). record d { chan = x }) (one_chan (payload_of a attrs) (payload_of b attrs) (payload_of c attrs) one.0 two.0 one.1 two.1) ∙ sym two.2
one_field (fields.PlainChan a b c) attrs d e f one two =
    one.3 ∙ ap (λ (x : ChanDef). record d { chan = x }) (one_chan (payload_of a attrs) (payload_of b attrs) (payload_of c attrs) one.0 two.0 one.1 two.1) ∙ sym two.3
one_field (fields.Power a b) attrs d e f one two = one.2 ∙ ap (λ (x : PowerSetting). record d { setting = x }) (one_power (payload_of a attrs) (payload_of b attrs) one.0 two.0 one.1 two.1) ∙ sym two.2
one_field (fields.Moment kind) attrs d e f one two = one.2 ∙ ap (λ (x : ℕ). record d { moment = x }) (one_moment (payload_of kind attrs) one.0 two.0 one.1 two.1) ∙ sym two.2
one_field (fields.Switch kind) attrs d e f one two = one.2 ∙ ap (λ (x : Bool). record d { on = x }) (one_switch (payload_of kind attrs) one.0 two.0 one.1 two.1) ∙ sym two.2
one_field fields.Profile attrs d e f one two = one.2 ∙ ap (λ (x : Abilities). record d { profile = x }) (one_profile attrs one.0 two.0 one.1 two.1) ∙ sym two.2
one_field (fields.Rules kind) attrs d e f one two = one.2 ∙ ap (λ (x : List Rule). record d { rules = x }) (one_rules (payload_of kind attrs) one.0 two.0 one.1 two.1) ∙ sym two.2
one_field (fields.Body kind) attrs d e f one two = one.2 ∙ ap (λ (x : List ℕ). record d { body = x }) (one_body (payload_of kind attrs) one.0 two.0 one.1 two.1) ∙ sym two.2

pub one_draft : (list : List Field) (attrs : List Attr) (d e f : Draft) → FieldsTell list attrs d e → FieldsTell list attrs d f → e ≡ f
one_draft [] attrs d e f one two = one ∙ sym two
one_draft (field ∷ list) attrs d e f one two =
    let same = one_field field attrs d one.0 two.0 one.1 two.1 in
    let P : Draft → Type 0 = λ next. FieldsTell list attrs next f in
    one_draft list attrs one.0 e f one.2 (subst P (sym same) two.2)
