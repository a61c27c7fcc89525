-- Steps of the loop over fields.
use Rattle.std.proofs.Common.{◌≡◌, ℕ, ◌+◌, ◌<◌, List, ◌∷◌, length, get_or, drop, sym, subst}
use Rattle.std.proofs.lemmas.List.{drop_more}
use Rattle.nl_attrs.specs.declared.attr.Attr.{Attr}
use Rattle.nl80211_cmds.specs.Fields.{FieldTells, FieldsTell}
use Rattle.nl80211_cmds.specs.declared.draft.Draft.{Draft}
use Rattle.nl80211_cmds.specs.declared.field.Field.{Field}
use Rattle.nl80211_cmds.proofs.OneField.{one_field}

-- what the rest of the fields tells from here on is what all tell, and the other way round
pub record IsFarSo (list : List Field) (attrs : List Attr) (first : Draft) (i : ℕ) (d : Draft) : Type 0 where
  pub onward : (e : Draft) → FieldsTell (drop i list) attrs d e → FieldsTell list attrs first e
  pub back : (e : Draft) → FieldsTell list attrs first e → FieldsTell (drop i list) attrs d e

far_more_by : (list : List Field) (attrs : List Attr) (first d e : Draft) (i : ℕ) (field : Field) → drop i list ≡ field ∷ drop (i + 1) list → IsFarSo list attrs first i d → FieldTells field attrs d e → IsFarSo list attrs first (i + 1) e
far_more_by list attrs first d e i field parts far tells =
    record {
      onward = λ last rest. far.onward last (let P : List Field → Type 0 = λ xs. FieldsTell xs attrs d last in subst P (sym parts) (e, tells, rest));
      back = λ last all.
          let P : List Field → Type 0 = λ xs. FieldsTell xs attrs d last in
          let front = subst P parts (far.back last all) in
          let Q : Draft → Type 0 = λ x. FieldsTell (drop (i + 1) list) attrs x last in
          subst Q (one_field field attrs d front.0 e front.1 tells) front.2;
    }

pub far_more : (list : List Field) (attrs : List Attr) (first d e : Draft) (i : ℕ) (a : Field) → i < length list → IsFarSo list attrs first i d → FieldTells (get_or list i a) attrs d e → IsFarSo list attrs first (i + 1) e
far_more list attrs first d e i a lt far tells = far_more_by list attrs first d e i (get_or list i a) (drop_more list i a lt) far tells
