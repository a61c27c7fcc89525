-- The check that runs in a slot.
use Rattle.std.proofs.Common.{◌≡◌, ℕ, ◌+◌, ◌<◌, List, [], ◌∷◌, ◌++◌, arith, refl, sym, ap, subst, ◌∙◌, ◌⊎◌, inl, inr}
use Rattle.chan_def.specs.declared.definition.ChanDef.{ChanDef}
use Rattle.dfs_states.specs.Calls.{Call, Begin, DropCheck, moment_of, HasCall, HasBegin, IsUndropped}
use Rattle.dfs_states.specs.Meaning.{CheckCounts, Runs, EachMayBeCalled}
use Rattle.dfs_states.proofs.Splits.{split_cons, split_more, has_newest, has_older, has_cases, none_has, begin_older, begin_newest, begin_cases, kept_older, kept_last}
use Rattle.dfs_states.proofs.Later.{now_later}

-- of two begins of a slot the first one isn't the last, or they are the same
pub same_begin : (slot : ℕ) (n n' : List Call) (c c' : ChanDef) (l l' : ℕ) (o o' : List Call)
    → n ++ Begin slot c l ∷ o ≡ n' ++ Begin slot c' l' ∷ o' → (HasBegin n' slot → ⊥) → HasBegin n slot ⊎ ((c ≡ c') × (l ≡ l') × (o ≡ o') × (n ≡ n'))
same_begin slot [] [] c c' l l' o o' at last = inr (cc, cc, cc, refl)
same_begin slot [] (x ∷ n') c c' l l' o o' at last =
    let head : Begin slot c l ≡ x = cc in
    absurd (last (subst (λ f. HasBegin (f ∷ n') slot) head (begin_newest n' slot c l)))
same_begin slot (x ∷ n) [] c c' l l' o o' at last =
    let head : Begin slot c' l' ≡ x = cc in
    inl (subst (λ f. HasBegin (f ∷ n) slot) head (begin_newest n slot c' l'))
same_begin slot (x ∷ n) (x' ∷ n') c c' l l' o o' at last =
    let heads : x ≡ x' = cc in
    let tails : n ++ Begin slot c l ∷ o ≡ n' ++ Begin slot c' l' ∷ o' = cc in
    elim (same_begin slot n n' c c' l l' o o' tails (λ begun. last (begin_older x' n' slot begun))) [
      | inl earlier ↦ inl (begin_older x n slot earlier)
      | inr same ↦ inr (same.0, same.1, same.2, both x x' n n' heads same.3)
    ]
  where
    both : (x x' : Call) (n n' : List Call) → x ≡ x' → n ≡ n' → x ∷ n ≡ x' ∷ n'
    both x x' n n' heads tails = cc

-- one check runs in a slot
pub runs_same : (calls : List Call) (slot : ℕ) (c c' : ChanDef) (s s' e e' : ℕ) → Runs calls slot c s e → Runs calls slot c' s' e'
    → (c ≡ c') × (s ≡ s') × (e ≡ e')
runs_same calls slot c c' s s' e e' one other =
    elim (same_begin slot one.newer other.newer c c' one.length other.length one.older other.older (sym one.begun ∙ other.begun) other.last) [
      | inl earlier ↦ absurd (one.last earlier)
      | inr same ↦
          let start : s ≡ s' = one.starts ∙ ap moment_of same.2 ∙ sym other.starts in
          let ends = one.ends in
          let ends' = other.ends in
          let lengths = same.1 in
          (same.0, start, omega arith)
    ]

pub runs_newest : (calls : List Call) (slot : ℕ) (chan : ChanDef) (length start end : ℕ) → start ≡ moment_of calls → end ≡ start + length → moment_of calls < end
    → Runs (Begin slot chan length ∷ calls) slot chan start end
runs_newest calls slot chan length start end starts ends runs = record {
  newer = [];
  length = length;
  older = calls;
  begun = refl;
  last = λ begun. none_has (Begin slot begun.chan begun.length) begun.begun;
  kept = none_has (DropCheck slot);
  starts = starts;
  ends = ends;
  runs = runs;
}

-- the check runs on, unless another begins in its slot or it is dropped
pub runs_on : (f : Call) (calls : List Call) (slot : ℕ) (chan : ChanDef) (start end : ℕ) → ((c : ChanDef) (n : ℕ) → f ≡ Begin slot c n → ⊥)
    → (f ≡ DropCheck slot → ⊥) → moment_of (f ∷ calls) < end → Runs calls slot chan start end → Runs (f ∷ calls) slot chan start end
runs_on f calls slot chan start end other undropped runs was = record {
  newer = f ∷ was.newer;
  length = was.length;
  older = was.older;
  begun = split_more f calls was.newer was.older (Begin slot chan was.length) was.begun;
  last = λ begun. elim (begin_cases f was.newer slot begun) [
    | inl newest ↦ other newest.0 newest.1 newest.2
    | inr older ↦ was.last older
  ];
  kept = λ dropped. elim (has_cases f (DropCheck slot) was.newer dropped) [
    | inl newest ↦ undropped newest
    | inr older ↦ was.kept older
  ];
  starts = was.starts;
  ends = was.ends;
  runs = runs;
}

-- the check that runs ran before, unless it is the one that has just begun
pub runs_before : (f : Call) (calls : List Call) (slot : ℕ) (chan : ChanDef) (start end : ℕ) → ((c : ChanDef) (n : ℕ) → f ≡ Begin slot c n → ⊥)
    → EachMayBeCalled (f ∷ calls) → Runs (f ∷ calls) slot chan start end → Runs calls slot chan start end
runs_before f calls slot chan start end other due runs = elim (split_cons f calls runs.newer runs.older (Begin slot chan runs.length) runs.begun) [
  | inl newest ↦ absurd (other chan runs.length newest.1)
  | inr older ↦
      let later = now_later f calls due in
      let below = runs.runs in
      record {
        newer = older.0;
        length = runs.length;
        older = runs.older;
        begun = older.2;
        last = λ begun. runs.last (subst (λ xs. HasBegin xs slot) (sym older.1) (begin_older f older.0 slot begun));
        kept = λ dropped. runs.kept (subst (λ xs. HasCall xs (DropCheck slot)) (sym older.1) (has_older f (DropCheck slot) older.0 dropped));
        starts = runs.starts;
        ends = runs.ends;
        runs = omega arith;
      }
]

-- the check that has just begun
pub runs_begun : (calls : List Call) (slot : ℕ) (c chan : ChanDef) (n start end : ℕ) → Runs (Begin slot c n ∷ calls) slot chan start end
    → (c ≡ chan) × (start ≡ moment_of calls) × (end ≡ start + n)
runs_begun calls slot c chan n start end runs = elim (split_cons (Begin slot c n) calls runs.newer runs.older (Begin slot chan runs.length) runs.begun) [
  | inl newest ↦
      let same : Begin slot c n ≡ Begin slot chan runs.length = newest.1 in
      let lengths : n ≡ runs.length = cc in
      let ends = runs.ends in
      (cc, runs.starts ∙ ap moment_of (sym newest.2), omega arith)
  | inr older ↦ absurd (runs.last (subst (λ xs. HasBegin xs slot) (sym older.1) (begin_newest older.0 slot c n)))
]

-- no check runs in a slot where it has just been dropped
pub runs_dropped : (calls : List Call) (slot : ℕ) (chan : ChanDef) (start end : ℕ) → Runs (DropCheck slot ∷ calls) slot chan start end → ⊥
runs_dropped calls slot chan start end runs = elim (split_cons (DropCheck slot) calls runs.newer runs.older (Begin slot chan runs.length) runs.begun) [
  | inl newest ↦ let same : DropCheck slot ≡ Begin slot chan runs.length = newest.1 in cc
  | inr older ↦ runs.kept (subst (λ xs. HasCall xs (DropCheck slot)) (sym older.1) (has_newest (DropCheck slot) older.0))
]

-- the calls after the beginning of a check that isn't dropped and isn't done have no begin in its slot
undone_is_last : (newer : List Call) (slot : ℕ) (chan : ChanDef) (length : ℕ) (older : List Call) → EachMayBeCalled (newer ++ Begin slot chan length ∷ older)
    → IsUndropped newer slot → moment_of (newer ++ Begin slot chan length ∷ older) < moment_of older + length → HasBegin newer slot → ⊥
undone_is_last [] slot chan length older due kept undone begun = none_has (Begin slot begun.chan begun.length) begun.begun
undone_is_last (f ∷ newer) slot chan length older due kept undone begun =
    let later = now_later f (newer ++ Begin slot chan length ∷ older) due in
    let undone' : moment_of (newer ++ Begin slot chan length ∷ older) < moment_of older + length = omega arith in
    let last = undone_is_last newer slot chan length older due.1 (kept_older f newer slot kept) undone' in
    elim (begin_cases f newer slot begun) [
      | inl newest ↦
          let due' : EachMayBeCalled (Begin slot newest.0 newest.1 ∷ (newer ++ Begin slot chan length ∷ older)) =
          subst (λ g. EachMayBeCalled (g ∷ (newer ++ Begin slot chan length ∷ older))) newest.2 due in
          due'.0.1 (record {
            chan = chan;
            start = moment_of older;
            end = moment_of older + length;
            runs = record {
              newer = newer;
              length = length;
              older = older;
              begun = refl;
              last = last;
              kept = kept_last newer slot (kept_older f newer slot kept) last;
              starts = refl;
              ends = refl;
              runs = undone';
            };
          })
      | inr older' ↦ last older'
    ]

-- a check that counts and isn't done is the one that runs in its slot
pub counting_runs : (calls : List Call) (khz slot end : ℕ) → EachMayBeCalled calls → CheckCounts calls khz slot end → moment_of calls < end
    → (chan : ChanDef) × (start : ℕ) × Runs calls slot chan start end
counting_runs calls khz slot end due counts undone =
    let begun = counts.begun in
    let ends = counts.ends in
    let due' : EachMayBeCalled (counts.newer ++ Begin slot counts.chan counts.length ∷ counts.older) = subst EachMayBeCalled begun due in
    let same : moment_of calls ≡ moment_of (counts.newer ++ Begin slot counts.chan counts.length ∷ counts.older) = ap moment_of begun in
    let last = undone_is_last counts.newer slot counts.chan counts.length counts.older due' counts.spared.kept (omega arith) in (
      counts.chan,
      moment_of counts.older,
      record {
        newer = counts.newer;
        length = counts.length;
        older = counts.older;
        begun = begun;
        last = last;
        kept = kept_last counts.newer slot counts.spared.kept last;
        starts = refl;
        ends = ends;
        runs = undone;
      },
    )
