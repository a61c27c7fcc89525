-- Each request has one reply over a journal, and appends the same facts.
use Rattle.std.proofs.Common.{◌≡◌, ◌≢◌, ◌<◌, ℕ, List, [], ◌∷◌, ◌++◌, map, filter, refl, sym, subst, ap, ◌∙◌, inl, inr, ◌⊎◌, arith, Bool, Option, Some, None, IsSomeAnd, MatchOption}
use Rattle.std.specs.Option.{option_map, option_to_list}
use Rattle.std.specs.List.{AllZip}
use Rattle.std.proofs.lemmas.List.Elements.{All-contains}
use Rattle.rule_tables.specs.declared.code.Alpha2.{Alpha2}
use Rattle.rule_tables.specs.declared.code.Region.{Region}
use Rattle.rule_tables.specs.declared.domain.Domain.{Domain}
use Rattle.rule_intersect.proofs.OneTable.{AreRows-unique}
use Rattle.rule_intersect.proofs.Ordered.{one_order}
use Rattle.rule_intersect.specs.declared.row.Row.{Row}
use Rattle.chan_def.specs.declared.definition.ChanDef.{ChanDef}
use Rattle.chan_def.specs.declared.kind.Kind.{Kind}
use Rattle.chan_flags.specs.Profiles.{Abilities}
use Rattle.chan_flags.specs.declared.profile.Bands.{Bands}
use Rattle.chan_flags.specs.Lists.{AreChannels, IsRadioChannel}
use Rattle.chan_flags.specs.Verdicts.{power_of}
use Rattle.chan_flags.proofs.OneAnswer.{IsRecord-unique, IsLimit-unique, IsCheckLength-unique}
use Rattle.chan_flags.specs.declared.record.Chan.{Chan}
use Rattle.chan_flags.specs.declared.record.Fit.{Fit}
use Rattle.chan_flags.specs.declared.verdict.PowerSetting.{PowerSetting}
use Rattle.dfs_states.specs.declared.dfs.Dfs.{Dfs}
use Rattle.dfs_states.specs.declared.dfs.Dfs.TheVariants.{Usable, Unavailable, Available}
use Rattle.dfs_states.proofs.Most.{greatest_same}
use Rattle.dfs_states.specs.Greatest.{IsGreatest}
use Rattle.reg_hints.specs.Element.{IsElement}
use Rattle.reg_hints.specs.Table.{Hinted, Treated}
use Rattle.reg_hints.specs.declared.element.Element.{Element}
use Rattle.reg_hints.specs.declared.hint.Hint.TheVariants.{User}
use Rattle.reg_journal.specs.Facts.{Fact, Journal, stopped, powered, check_dropped, started, check_begun, set_to}
use Rattle.reg_journal.specs.Present.{Iface, Operation, Check, abilities_of, named, operation_of, check_of, with_setting, now_of, radios_of}
use Rattle.reg_journal.specs.Applicable.{applies, global_domains, global_region, region_of}
use Rattle.reg_journal.specs.Radar.{IsBarred, IsQuiet, Stands, IsState}
use Rattle.reg_journal.specs.Permits.{asked_by, IsPowerOf, IsLengthOf}
use Rattle.reg_journal.specs.Sweep.{OperationBecomes, CheckBecomes, Becomes, AreSwept}
use Rattle.reg_journal.specs.Effects.{effects_of}
use Rattle.reg_journal.specs.Dumps.{AreShown, row_shown, IsSection, IsRadioSection, AreSections, has_own_list, fit_shown, IsShownChannel, AreShownChannels, IsRadioReport, IsIfaceReport}
use Rattle.reg_journal.specs.Replies.{facts_of_end, Decides, Gives, GivesEffects, Sweeps, Shows, OnNamed, Hints, Hears, driver_hint, element_hint, SetsPower, Replies}
use Rattle.reg_journal.specs.declared.refusal.Refusal.{Refusal}
use Rattle.reg_journal.specs.declared.reply.Answer.{Answer}
use Rattle.reg_journal.specs.declared.reply.Answer.TheVariants.{Ok, Started, Checking, Refused}
use Rattle.reg_journal.specs.declared.reply.Reply.{Reply}
use Rattle.reg_journal.specs.declared.reply.Reply.TheVariants.{Plain, Regs, Channels, Radio, Iface as OfIface}
use Rattle.reg_journal.specs.declared.report.Section.{Section}
use Rattle.reg_journal.specs.declared.report.RadioReport.{RadioReport}
use Rattle.reg_journal.specs.declared.report.IfaceReport.{IfaceReport}
use Rattle.reg_journal.specs.declared.report.IfaceState.{IfaceState}
use Rattle.reg_journal.specs.declared.request.Request.{Request}
use Rattle.reg_journal.specs.declared.request.Request.TheVariants.{At, RadioAdd, RadioDel, RadioRules, Element as HeardElement, DriverHint, UserHint, Radar, Indoor, IfaceAdd, IfaceDel, SetType, SetPower, Start, Stop, Check as AskCheck, GetReg, Channels as GetChannels, RadioInfo, IfaceInfo}
use Rattle.reg_journal.proofs.OneCause.{NamesOne}
use Rattle.reg_journal.proofs.OneRefusal.{one-moment, one-radio_add, one-radio, one-rules, one-element, one-hint, one-radar, one-iface_add, one-iface, one-set_type, one-set_power, one-stop, one-start, one-check}

abbrev pub ComesToOne : (Reply → List Fact → Type 0) → Type 0
ComesToOne granted = (one other : Reply) (facts others : List Fact) → granted one facts → granted other others → (one ≡ other) × (facts ≡ others)

one-decides : (causes : Refusal → Type 0) (granted : Reply → List Fact → Type 0) → NamesOne causes → ComesToOne granted → ComesToOne (Decides causes granted)
one-decides causes granted refused grants one other facts others (inl (e, cause, here, none)) (inl (e', cause', there, none')) =
    (here ∙ ap (λ e. Plain (Refused e) []) (refused e e' cause cause') ∙ sym there, none ∙ sym none')
one-decides causes granted refused grants one other facts others (inl (e, cause, here, none)) (inr (free, given)) = absurd (free e cause)
one-decides causes granted refused grants one other facts others (inr (free, given)) (inl (e, cause, there, none)) = absurd (free e cause)
one-decides causes granted refused grants one other facts others (inr (free, given)) (inr (free', given')) = grants one other facts others given given'

one-gives : (answer : Answer) (given : List Fact) → ComesToOne (Gives answer given)
one-gives answer given one other facts others here there = (here.0 ∙ sym there.0, here.1 ∙ sym there.1)

one-gives_effects : (J : Journal) (answer : Answer) (given : List Fact) → ComesToOne (GivesEffects J answer given)
one-gives_effects J answer given one other facts others here there = (here.0 ∙ sym there.0, here.1 ∙ sym there.1)

one-on_named : (J : Journal) (name : List ℕ) (granted : Iface → Reply → List Fact → Type 0) → ((x : Iface) → ComesToOne (granted x)) → ComesToOne (OnNamed J name granted)
one-on_named J name granted each = at (named J name)
  where
    at : (o : Option Iface) → ComesToOne (λ reply facts. IsSomeAnd o (λ x. granted x reply facts))
    at None one other facts others here there = absurd here
    at (Some x) one other facts others here there = each x one other facts others here there

one-shows : (shown : Reply → Type 0) → ((one other : Reply) → shown one → shown other → one ≡ other) → ComesToOne (Shows shown)
one-shows shown same one other facts others here there = (same one other here.0 there.0, here.1 ∙ sym there.1)

-- ---- powers and lengths

one-power : (db : List Domain) (J : Journal) (x : Iface) (c : ChanDef) (a b : ℕ) → IsPowerOf db J x c a → IsPowerOf db J x c b → a ≡ b
one-power db J x c a b (l, is, here) (m, is', there) =
    here ∙ ap (λ n. power_of x.setting n) (IsLimit-unique (applies db J x.radio) (asked_by J x c) l m is is') ∙ sym there

one-length : (db : List Domain) (J : Journal) (x : Iface) (c : ChanDef) (a b : ℕ) → IsLengthOf db J x c a → IsLengthOf db J x c b → a ≡ b
one-length db J x c a b = IsCheckLength-unique (applies db J x.radio) (asked_by J x c) a b

-- ---- sweeps

one-operation : (db : List Domain) (J : Journal) (x : Iface) (o : Operation) (a b : Option Fact) → OperationBecomes db J x o a → OperationBecomes db J x o b → a ≡ b
one-operation db J x o None None is is' = refl
one-operation db J x o None (Some (stopped i)) is is' = absurd (is.0 is'.1.0 is'.1.1)
one-operation db J x o None (Some (powered i p)) is is' = absurd (is'.3 (one-power db J x o.chan p o.power is'.2 is.1))
one-operation db J x o None (Some f) is is' = absurd is'
one-operation db J x o (Some (stopped i)) None is is' = absurd (is'.0 is.1.0 is.1.1)
one-operation db J x o (Some (stopped i)) (Some (stopped j)) is is' = ap (λ n. Some (stopped n)) (is.0 ∙ sym is'.0)
one-operation db J x o (Some (stopped i)) (Some (powered j p)) is is' = absurd (is'.1 is.1.0 is.1.1)
one-operation db J x o (Some (stopped i)) (Some f) is is' = absurd is'
one-operation db J x o (Some (powered i p)) None is is' = absurd (is.3 (one-power db J x o.chan p o.power is.2 is'.1))
one-operation db J x o (Some (powered i p)) (Some (stopped j)) is is' = absurd (is.1 is'.1.0 is'.1.1)
one-operation db J x o (Some (powered i p)) (Some (powered j q)) is is' =
    ap (λ n. Some (powered n p)) (is.0 ∙ sym is'.0) ∙ ap (λ n. Some (powered j n)) (one-power db J x o.chan p q is.2 is'.2)
one-operation db J x o (Some (powered i p)) (Some f) is is' = absurd is'
one-operation db J x o (Some f) b is is' = absurd is

one-check_fate : (db : List Domain) (J : Journal) (x : Iface) (k : Check) (a b : Option Fact) → CheckBecomes db J x k a → CheckBecomes db J x k b → a ≡ b
one-check_fate db J x k None None is is' = refl
one-check_fate db J x k None (Some (check_dropped i)) is is' = absurd (is is'.1)
one-check_fate db J x k None (Some f) is is' = absurd is'
one-check_fate db J x k (Some (check_dropped i)) None is is' = absurd (is' is.1)
one-check_fate db J x k (Some (check_dropped i)) (Some (check_dropped j)) is is' = ap (λ n. Some (check_dropped n)) (is.0 ∙ sym is'.0)
one-check_fate db J x k (Some (check_dropped i)) (Some f) is is' = absurd is'
one-check_fate db J x k (Some f) b is is' = absurd is

one-fate : (db : List Domain) (J : Journal) (x : Iface) (a b : Option Fact) → Becomes db J x a → Becomes db J x b → a ≡ b
one-fate db J x a b = at (operation_of J x.index) (check_of J x.index)
  where
    at : (o : Option Operation) (k : Option Check)
        → MatchOption o (MatchOption k (a ≡ None) (λ k. CheckBecomes db J x k a)) (λ o. OperationBecomes db J x o a)
        → MatchOption o (MatchOption k (b ≡ None) (λ k. CheckBecomes db J x k b)) (λ o. OperationBecomes db J x o b) → a ≡ b
    at (Some o) k is is' = one-operation db J x o a b is is'
    at None (Some k) is is' = one-check_fate db J x k a b is is'
    at None None is is' = is ∙ sym is'

one-sweep : (db : List Domain) (J : Journal) (xs : List Iface) (facts others : List Fact) → AreSwept db J xs facts → AreSwept db J xs others → facts ≡ others
one-sweep db J [] facts others is is' = is ∙ sym is'
one-sweep db J (x ∷ xs) facts others (f, rest, fate, swept, here) (g, rest', fate', swept', there) =
    here ∙ both (one-fate db J x f g fate fate') (one-sweep db J xs rest rest' swept swept') ∙ sym there
  where
    both : {f g : Option Fact} {rest rest' : List Fact} → f ≡ g → rest ≡ rest' → option_to_list f ++ rest ≡ option_to_list g ++ rest'
    both p q = cc

one-sweeps : (db : List Domain) (J : Journal) (answer : Answer) (fact : Fact) (xs : List Iface) → ComesToOne (Sweeps db J answer fact xs)
one-sweeps db J answer fact xs one other facts others (swept, are, reply, all) (swept', are', reply', all') =
    let same = one-sweep db (fact ∷ J) xs swept swept' are are' in
    (reply ∙ ap (λ s. Plain answer (effects_of J s)) same ∙ sym reply', all ∙ ap (λ s. fact ∷ s) same ∙ sym all')

-- ---- hints

one-hints : (db : List Domain) (J : Journal) (hint : Hinted) → ComesToOne (Hints db J hint)
one-hints db J hint = one-decides _ _ (one-hint db J hint) (one-sweeps db J _ _ _)

-- the body of an element names one code
pub one-code : (body : List ℕ) (e f : Element) → IsElement body e → IsElement body f → e.alpha2 ≡ f.alpha2
one-code body e f is is' = same e.alpha2.a e.alpha2.b f.alpha2.a f.alpha2.b (is.first ∙ sym is'.first) (is.second ∙ sym is'.second)
  where
    same : (a b c d : ℕ) → a ≡ c → b ≡ d → ◌≡◌ {A = Alpha2} (record { a = a; b = b }) (record { a = c; b = d })
    same a b c d p q = cc

one-hears : (db : List Domain) (J : Journal) (r : ℕ) (body : List ℕ) → ComesToOne (Hears db J r body)
one-hears db J r body = one-decides _ _ (one-element J r body) given
  where
    given : ComesToOne (λ reply facts. (e : Element) × IsElement body e × Hints db J (element_hint J r e.alpha2) reply facts)
    given one other facts others (e, is, here) (f, is', there) =
        one-hints db J (element_hint J r f.alpha2) one other facts others
        (subst (λ a. Hints db J (element_hint J r a) one facts) (one-code body e f is is') here) there

-- ---- powers that are set

one-sets_power : (db : List Domain) (J : Journal) (setting : PowerSetting) (x : Iface) → ComesToOne (SetsPower db J setting x)
one-sets_power db J setting x one other facts others = at (operation_of J x.index)
  where
    at : (o : Option Operation)
        → MatchOption o (Gives Ok (set_to x.index setting ∷ []) one facts) (λ o. (power : ℕ) × IsPowerOf db J (with_setting x.index setting x) o.chan power
        × (((power ≡ o.power) × Gives Ok (set_to x.index setting ∷ []) one facts)
        ⊎ ((power ≢ o.power) × GivesEffects J Ok (set_to x.index setting ∷ powered x.index power ∷ []) one facts)))
        → MatchOption o (Gives Ok (set_to x.index setting ∷ []) other others) (λ o. (power : ℕ) × IsPowerOf db J (with_setting x.index setting x) o.chan power
        × (((power ≡ o.power) × Gives Ok (set_to x.index setting ∷ []) other others)
        ⊎ ((power ≢ o.power) × GivesEffects J Ok (set_to x.index setting ∷ powered x.index power ∷ []) other others)))
        → (one ≡ other) × (facts ≡ others)
    at None is is' = (is.0 ∙ sym is'.0, is.1 ∙ sym is'.1)
    at (Some o) (p, is, inl (same, given)) (q, is', inl (same', given')) = (given.0 ∙ sym given'.0, given.1 ∙ sym given'.1)
    at (Some o) (p, is, inl (same, given)) (q, is', inr (apart, given')) =
        absurd (apart (one-power db J (with_setting x.index setting x) o.chan q p is' is ∙ same))
    at (Some o) (p, is, inr (apart, given)) (q, is', inl (same, given')) =
        absurd (apart (one-power db J (with_setting x.index setting x) o.chan p q is is' ∙ same))
    at (Some o) (p, is, inr (apart, given)) (q, is', inr (apart', given')) =
        let same = one-power db J (with_setting x.index setting x) o.chan p q is is' in (
          given.0 ∙ ap (λ n. Plain Ok (effects_of J (set_to x.index setting ∷ powered x.index n ∷ []))) same ∙ sym given'.0,
          given.1 ∙ ap (λ n. set_to x.index setting ∷ powered x.index n ∷ []) same ∙ sym given'.1,
        )

-- ---- what is shown

one-shown : (ds : List Domain) (rows others : List Row) → AreShown ds rows → AreShown ds others → rows ≡ others
one-shown [] rows others is is' = absurd is
one-shown (d ∷ []) rows others is is' = is ∙ sym is'
one-shown (d ∷ e ∷ ds) rows others (joined, are, here) (joined', are', there) =
    here ∙ ap (λ rs. map row_shown rs) (AreRows-unique (d ∷ e ∷ ds) joined joined' are are') ∙ sym there

one-section : (radio : Option ℕ) (ds : List Domain) (region : Region) (one other : Section) → IsSection radio ds region one → IsSection radio ds region other → one ≡ other
one-section radio ds region one other is is' =
    same one.radio one.alpha2 one.region one.rows other.radio other.alpha2 other.region other.rows
    (is.of_radio ∙ sym is'.of_radio) (is.code ∙ sym is'.code) (is.of_region ∙ sym is'.of_region) (one-shown ds one.rows other.rows is.rows is'.rows)
  where
    same : (r : Option ℕ) (a : Alpha2) (g : Region) (rows : List Row) (r' : Option ℕ) (a' : Alpha2) (g' : Region) (rows' : List Row)
        → r ≡ r' → a ≡ a' → g ≡ g' → rows ≡ rows' → ◌≡◌ {A = Section} (record { radio = r; alpha2 = a; region = g; rows = rows }) (record { radio = r'; alpha2 = a'; region = g'; rows = rows' })
    same r a g rows r' a' g' rows' p q s t = cc

-- lists whose items are pinned one by one are one
one-zip : {X Y : Type 0} (P : X → Y → Type 0) → ((x : X) (y z : Y) → P x y → P x z → y ≡ z) → (xs : List X) (ys zs : List Y) → AllZip P xs ys → AllZip P xs zs → ys ≡ zs
one-zip P same [] [] [] are are' = refl
one-zip P same [] (y ∷ ys) zs are are' = absurd are
one-zip P same [] [] (z ∷ zs) are are' = absurd are'
one-zip P same (x ∷ xs) [] zs are are' = absurd are
one-zip P same (x ∷ xs) (y ∷ ys) [] are are' = absurd are'
one-zip {Y} P same (x ∷ xs) (y ∷ ys) (z ∷ zs) are are' = both (same x y z are.0 are'.0) (one-zip P same xs ys zs are.1 are'.1)
  where
    both : {y z : Y} {ys zs : List Y} → y ≡ z → ys ≡ zs → y ∷ ys ≡ z ∷ zs
    both p q = cc

one-sections : (db : List Domain) (J : Journal) (list others : List Section) → AreSections db J list → AreSections db J others → list ≡ others
one-sections db J [] others is is' = absurd is
one-sections db J (s ∷ ss) [] is is' = absurd is'
one-sections db J (s ∷ ss) (t ∷ ts) is is' =
    both (one-section None (global_domains db J) (global_region db J) s t is.0 is'.0)
    (one-zip (IsRadioSection db J) (λ r. one-section (Some r) (applies db J r) (region_of db J r)) (filter (has_own_list J) (radios_of J)) ss ts is.1 is'.1)
  where
    both : {y z : Section} {ys zs : List Section} → y ≡ z → ys ≡ zs → y ∷ ys ≡ z ∷ zs
    both p q = cc

not_quiet : (J : Journal) (r s until : ℕ) → IsGreatest (IsBarred J r s) until → now_of J < until → IsQuiet J r s → ⊥
not_quiet J r s until is above quiet =
    let past = quiet until is.holds in
    absurd (omega arith)

pub one-state : (db : List Domain) (J : Journal) (r s : ℕ) (one other : Dfs) → IsState db J r s one → IsState db J r s other → one ≡ other
one-state db J r s Usable Usable is is' = refl
one-state db J r s Usable (Unavailable until) is is' = absurd (not_quiet J r s until is'.0 is'.1 is.0)
one-state db J r s Usable (Available since) is is' = absurd (is.1 since is'.1.holds)
one-state db J r s (Unavailable until) Usable is is' = absurd (not_quiet J r s until is.0 is.1 is'.0)
one-state db J r s (Unavailable until) (Unavailable other) is is' = ap (λ n. Unavailable n) (greatest_same (IsBarred J r s) until other is.0 is'.0)
one-state db J r s (Unavailable until) (Available since) is is' = absurd (not_quiet J r s until is.0 is.1 is'.0)
one-state db J r s (Available since) Usable is is' = absurd (is'.1 since is.1.holds)
one-state db J r s (Available since) (Unavailable until) is is' = absurd (not_quiet J r s until is'.0 is'.1 is.0)
one-state db J r s (Available since) (Available other) is is' = ap (λ n. Available n) (greatest_same (Stands db J r s) since other is.1 is'.1)

one-channel : (db : List Domain) (J : Journal) (r s : ℕ) (one other : Chan × Dfs) → IsShownChannel db J r s one → IsShownChannel db J r s other → one ≡ other
one-channel db J r s (chan, dfs) (chan', dfs') is is' =
    same chan.khz chan.fit dfs chan'.khz chan'.fit dfs' (is.centre ∙ sym is'.centre)
    (is.fit.2 ∙ ap (λ f. option_map (fit_shown (abilities_of J r).power_mbm) f) (IsRecord-unique (applies db J r) s is.fit.0 is'.fit.0 is.fit.1 is'.fit.1) ∙ sym is'.fit.2)
    (one-state db J r s dfs dfs' is.state is'.state)
  where
    same : (k : ℕ) (f : Option Fit) (d : Dfs) (k' : ℕ) (f' : Option Fit) (d' : Dfs) → k ≡ k' → f ≡ f' → d ≡ d'
        → ◌≡◌ {A = Chan × Dfs} (record { khz = k; fit = f }, d) (record { khz = k'; fit = f' }, d')
    same k f d k' f' d' p q t = cc

one-centres : (bands : Bands) (xs ys : List ℕ) → AreChannels bands xs → AreChannels bands ys → xs ≡ ys
one-centres bands xs ys are are' =
    one_order (λ low high. low < high) (λ x y up down. absurd (omega (arith, up, down))) xs ys are.ascending are'.ascending
    (λ z has. are'.all z (All-contains (IsRadioChannel bands) xs z are.only has))
    (λ z has. are.all z (All-contains (IsRadioChannel bands) ys z are'.only has))

one-channels : (db : List Domain) (J : Journal) (r : ℕ) (list others : List (Chan × Dfs)) → AreShownChannels db J r list → AreShownChannels db J r others → list ≡ others
one-channels db J r list others (centres, are, each) (centres', are', each') =
    one-zip (IsShownChannel db J r) (one-channel db J r) centres' list others
    (subst (λ cs. AllZip (IsShownChannel db J r) cs list) (one-centres (abilities_of J r).bands centres centres' are are') each) each'

one-radio_report : (J : Journal) (r : ℕ) (one other : RadioReport) → IsRadioReport J r one → IsRadioReport J r other → one ≡ other
one-radio_report J r one other is is' =
    same one.radio one.profile one.ifaces other.radio other.profile other.ifaces
    (is.radio ∙ sym is'.radio) (is.profile ∙ sym is'.profile) (is.ifaces ∙ sym is'.ifaces)
  where
    same : (r : ℕ) (p : Abilities) (xs : List (List ℕ × ℕ × Kind)) (r' : ℕ) (p' : Abilities) (xs' : List (List ℕ × ℕ × Kind)) → r ≡ r' → p ≡ p' → xs ≡ xs'
        → ◌≡◌ {A = RadioReport} (record { radio = r; profile = p; ifaces = xs }) (record { radio = r'; profile = p'; ifaces = xs' })
    same r p xs r' p' xs' a b c = cc

one-iface_report : (J : Journal) (x : Iface) (one other : IfaceReport) → IsIfaceReport J x one → IsIfaceReport J x other → one ≡ other
one-iface_report J x one other is is' =
    same one other (is.name ∙ sym is'.name) (is.index ∙ sym is'.index) (is.radio ∙ sym is'.radio) (is.kind ∙ sym is'.kind) (is.setting ∙ sym is'.setting) (is.state ∙ sym is'.state)
  where
    parts : (n : List ℕ) (i : ℕ) (r : ℕ) (k : Kind) (s : PowerSetting) (t : IfaceState) (n' : List ℕ) (i' : ℕ) (r' : ℕ) (k' : Kind) (s' : PowerSetting) (t' : IfaceState)
        → n ≡ n' → i ≡ i' → r ≡ r' → k ≡ k' → s ≡ s' → t ≡ t'
        → ◌≡◌ {A = IfaceReport} (record { name = n; index = i; radio = r; kind = k; setting = s; state = t }) (record { name = n'; index = i'; radio = r'; kind = k'; setting = s'; state = t' })
    parts n i r k s t n' i' r' k' s' t' p q e f g h = cc

    same : (a b : IfaceReport) → a.name ≡ b.name → a.index ≡ b.index → a.radio ≡ b.radio → a.kind ≡ b.kind → a.setting ≡ b.setting → a.state ≡ b.state → a ≡ b
    same a b p q r s t u = parts a.name a.index a.radio a.kind a.setting a.state b.name b.index b.radio b.kind b.setting b.state p q r s t u

-- ---- all requests

-- what a request shows is pinned by what makes it
one-made : {X : Type 0} (Is : X → Type 0) (make : X → Reply) → ((one other : X) → Is one → Is other → one ≡ other)
    → ComesToOne (Shows (λ reply. (x : X) × Is x × (reply ≡ make x)))
one-made Is make same = one-shows _ (λ one other here there. here.2 ∙ ap make (same here.0 there.0 here.1 there.1) ∙ sym there.2)

pub one-reply : (db : List Domain) (J : Journal) (q : Request) (failed : Bool) → ComesToOne (Replies db J q failed)
one-reply db J (At moment) failed = one-decides _ _ (one-moment J moment) (one-gives _ _)
one-reply db J (RadioAdd r profile) failed = one-decides _ _ (one-radio_add J r) (one-gives _ _)
one-reply db J (RadioDel r) failed = one-decides _ _ (one-radio J r) (one-gives_effects J _ _)
one-reply db J (RadioRules r rules) failed = one-decides _ _ (one-rules db J r rules) (one-sweeps db J _ _ _)
one-reply db J (HeardElement r body) failed = one-hears db J r body
one-reply db J (DriverHint r a) failed = one-decides _ _ (one-radio J r) (one-hints db J (driver_hint J r a))
one-reply db J (UserHint a) failed = one-hints db J (Treated (User a))
one-reply db J (Radar r c) failed = one-decides _ _ (one-radar J r c) (one-sweeps db J _ _ _)
one-reply db J (Indoor on) failed = one-sweeps db J _ _ _
one-reply db J (IfaceAdd r name kind) failed = one-decides _ _ (one-iface_add J r name) (one-gives _ _)
one-reply db J (IfaceDel name) failed = one-decides _ _ (one-iface J name) (one-on_named J name _ (λ x. one-gives_effects J Ok (facts_of_end J x)))
one-reply db J (SetType name kind) failed = one-decides _ _ (one-set_type J name) (one-on_named J name _ (λ x. one-gives _ _))
one-reply db J (SetPower name setting) failed = one-decides _ _ (one-set_power db J name setting) (one-on_named J name _ (one-sets_power db J setting))
one-reply db J (Start name kind c) failed = one-decides _ _ (one-start db J name kind c failed) (one-on_named J name _ started_once)
  where
    started_once : (x : Iface) → ComesToOne (λ reply facts. (power : ℕ) × IsPowerOf db J x c power × Gives (Started power) (started x.index c power ∷ []) reply facts)
    started_once x one other facts others (p, is, given) (q, is', given') =
        let same = one-power db J x c p q is is' in
        (given.0 ∙ ap (λ n. Plain (Started n) []) same ∙ sym given'.0, given.1 ∙ ap (λ n. started x.index c n ∷ []) same ∙ sym given'.1)
one-reply db J (Stop name kind) failed = one-decides _ _ (one-stop J name kind) (one-on_named J name _ (λ x. one-gives _ _))
one-reply db J (AskCheck name c) failed = one-decides _ _ (one-check db J name c failed) (one-on_named J name _ checked_once)
  where
    checked_once : (x : Iface) → ComesToOne (λ reply facts. (length : ℕ) × IsLengthOf db J x c length × Gives (Checking length) (check_begun x.index c length ∷ []) reply facts)
    checked_once x one other facts others (p, is, given) (q, is', given') =
        let same = one-length db J x c p q is is' in
        (given.0 ∙ ap (λ n. Plain (Checking n) []) same ∙ sym given'.0, given.1 ∙ ap (λ n. check_begun x.index c n ∷ []) same ∙ sym given'.1)
one-reply db J GetReg failed = one-made (AreSections db J) Regs (one-sections db J)
one-reply db J (GetChannels r) failed = one-decides _ _ (one-radio J r) (one-made (AreShownChannels db J r) (Channels r) (one-channels db J r))
one-reply db J (RadioInfo r) failed = one-decides _ _ (one-radio J r) (one-made (IsRadioReport J r) Radio (one-radio_report J r))
one-reply db J (IfaceInfo name) failed = one-decides _ _ (one-iface J name) (one-on_named J name _ (λ x. one-made (IsIfaceReport J x) OfIface (one-iface_report J x)))
