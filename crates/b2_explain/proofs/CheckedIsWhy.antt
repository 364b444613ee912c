-- A claim is right exactly where it is so by what a survey that is whole knows of files.
use Rattle.std.proofs.Common.{◌≡◌, ◌≢◌, ◌⊎◌, ◌↔◌, inl, inr, ℕ, zero, suc, ◌<◌, ◌≤◌, Bool, true, false, List, [], ◌∷◌, length, get_or, slice_get, map, Option, Some, None, option_map, refl, sym, ap, subst, ◌∙◌, arith}
use Rattle.std.proofs.lemmas.Bool.{cases_lt}
use Rattle.std.proofs.lemmas.Option.{slice_get_within}
use Rattle.b2_base.specs.Bytes.{Before}
use Rattle.b2_host.specs.Disks.{File, Disk}
use Rattle.b2_host.specs.FileCalls.{stamp_at}
use Rattle.b2_plan.specs.declared.step.Step.{Step}
use Rattle.b2_plan.specs.declared.plan.Plan.{Plan}
use Rattle.b2_plan.specs.Plans.{step_at}
use Rattle.b2_log.specs.declared.line.Record.{Record}
use Rattle.b2_log.specs.Finding.{path_of, find_record}
use Rattle.b2_log.specs.Good.{IsRising}
use Rattle.b2_runs.specs.Staleness.{Update}
use Rattle.b2_runs.proofs.ClosureIsOne.{Before_trans}
use Rattle.b2_runs.proofs.NumberHasOneStep.{one_step}
use Rattle.b2_sched.specs.Schedules.{IsUnjudged, IsNeeded}
use Rattle.b2_facts.specs.Facts.{Knowledge, path_at}
use Rattle.b2_facts.proofs.ListsAtPlaces.{some_is, none_some, get_some, at_place, among_at}
use Rattle.b2_reach.specs.Reaches.{IsMissingMember}
use Rattle.b2_verdicts.specs.declared.point.Point.{Point}
use Rattle.b2_verdicts.specs.declared.point.Point.TheVariants as points
use Rattle.b2_verdicts.specs.Sights.{stamp_of, AllAsked, AllStand}
use Rattle.b2_verdicts.specs.Stamps.{NoneOlder, IsFirstOther}
use Rattle.b2_verdicts.specs.Points.{IsByStamps, IsOrdinary as IsOrdinaryBy, HasOutputs as HasOutputsBy, IsUpToDate as IsUpToDateBy}
use Rattle.b2_verdicts.proofs.ListsAtPlaces.{zip_count}
use Rattle.b2_verdicts.proofs.WhatIsKnownStays.{standing_asked}
use Rattle.b2_board.specs.Boards.{members_of}
use Rattle.b2_explain.specs.declared.cause.Cause.{Cause}
use Rattle.b2_explain.specs.declared.cause.Cause.TheVariants as causes
use Rattle.b2_explain.specs.declared.cause.Why.{Why}
use Rattle.b2_explain.specs.declared.survey.Judged.{Judged}
use Rattle.b2_explain.specs.declared.survey.Survey.{Survey}
use Rattle.b2_explain.specs.Firsts.{IsFirstPath}
use Rattle.b2_explain.specs.Sights.{IsFirstFile, IsUnsettledMember, IsSeenAt}
use Rattle.b2_explain.specs.Surveys.{judged_at, IsJudged}
use Rattle.b2_explain.specs.Checks.{IsOtherInputAt, IsLoggedAt, IsPresentAt, IsLogCause, IsRecordCause, IsClosedCause, IsCheckedOpen, IsCheckedBy, IsCheckedWhy}
use Rattle.b2_explain.specs.Whys.{IsRead, IsLacked, IsWaitedFor, IsLogged, IsPresent, IsClosed, HasStamps, HasProperRecords, IsCause, IsWhy}
use Rattle.b2_explain.specs.Laws.{IsWholeSurvey, CheckedIsWhy}
use Rattle.b2_explain.proofs.OrderOfPaths.{before_or, not_same}
use Rattle.b2_explain.proofs.CauseIsOne.{cause_is_one}
use Rattle.b2_explain.proofs.CauseTellsStart.{settled_stands}
use Rattle.b2_explain.proofs.SurveysTell as survey
use Rattle.b2_explain.proofs.FoundIsExplained as found

-- ---- lists

pub map_at : {X Y : Type 0} (g : X → Y) (xs : List X) (k : ℕ) (x : X) → slice_get xs k ≡ Some x → slice_get (map g xs) k ≡ Some (g x)
map_at g [] k x e = absurd (none_some x e)
map_at g (z ∷ xs) zero x e = ap (λ v. Some (g v)) (some_is z x e)
map_at g (z ∷ xs) (suc k) x e = map_at g xs k x e

pub map_back : {X Y : Type 0} (g : X → Y) (xs : List X) (k : ℕ) (y : Y) → slice_get (map g xs) k ≡ Some y → (x : X) × (slice_get xs k ≡ Some x) × (g x ≡ y)
map_back g [] k y e = absurd (none_some y e)
map_back g (z ∷ xs) zero y e = (z, refl, some_is (g z) y e)
map_back g (z ∷ xs) (suc k) y e = map_back g xs k y e

pub map_count : {X Y : Type 0} (g : X → Y) (xs : List X) → length (map g xs) ≡ length xs
map_count g [] = refl
map_count g (z ∷ xs) = ap suc (map_count g xs)

true_not : {A : Type 0} (b : Bool) → b ≡ true → b ≡ false → A
true_not b so not = absurd (let e : true ≡ false = sym so ∙ not in cc)

-- ---- a step that was judged

module _ (u : Update) (disk : Disk) (plan : Plan) (y : Survey) (w : IsWholeSurvey u disk plan y) (i : ℕ) (judged : Judged) (o : survey.IsOverSo u disk plan y w i judged) where
  abbrev f : Knowledge
  f = y.sights.facts

  abbrev step : Step
  step = o.on.step

  abbrev outs : List ℕ
  outs = judged.numbers.outs

  abbrev ins : List ℕ
  ins = judged.numbers.ins

  abbrev last : Option Record
  last = find_record step.outs y.sights.journal

  -- ---- what was asked for

  -- where outputs stand they were asked for
  stand_asked : HasOutputsBy u.all step judged.numbers f → AllAsked f outs
  stand_asked has k low = let (stamp, stands) = has.stand k low in standing_asked f (get_or outs k 0) stamp stands

  -- the outputs of an ordinary step were asked for
  asked_outs : IsOrdinaryBy u.all step → AllAsked f outs
  asked_outs ordinary = go judged.point o.first
    where
      go : (point : Option Point) → IsByStamps u.all step judged.numbers last f point → AllAsked f outs
      go None is = stand_asked is.0.has_outputs
      go (Some points.All) is = true_not u.all is ordinary.not_all
      go (Some points.Always) is = true_not step.always is.1 ordinary.not_always
      go (Some points.Notfile) is = true_not step.notfile is.2 ordinary.not_notfile
      go (Some (points.Lacks place)) is = is.1
      go (Some (points.Older k m)) is = stand_asked is.0
      go (Some (points.FromNotfile m)) is = stand_asked is.0.has_outputs
      go (Some (points.Done m)) is = stand_asked is.0.has_outputs
      go (Some points.NoRecord) is = stand_asked is.0.has_outputs
      go (Some points.Text) is = stand_asked is.0.has_outputs
      go (Some (points.Outputs place)) is = stand_asked is.0.has_outputs
      go (Some (points.Inputs place)) is = stand_asked is.0.has_outputs

  -- so were the members of one whose outputs stand
  asked_ins : HasOutputsBy u.all step judged.numbers f → AllAsked f ins
  asked_ins has = go judged.point o.first
    where
      go : (point : Option Point) → IsByStamps u.all step judged.numbers last f point → AllAsked f ins
      go None is = is.0.asked
      go (Some points.All) is = true_not u.all is has.ordinary.not_all
      go (Some points.Always) is = true_not step.always is.1 has.ordinary.not_always
      go (Some points.Notfile) is = true_not step.notfile is.2 has.ordinary.not_notfile
      go (Some (points.Lacks place)) is = (let (stamp, stands) = has.stand place is.2.within in absurd (none_some stamp (sym is.2.gone ∙ stands)))
      go (Some (points.Older k m)) is = is.1
      go (Some (points.FromNotfile m)) is = is.0.asked
      go (Some (points.Done m)) is = is.0.asked
      go (Some points.NoRecord) is = is.0.asked
      go (Some points.Text) is = is.0.asked
      go (Some (points.Outputs place)) is = is.0.asked
      go (Some (points.Inputs place)) is = is.0.asked

  proper : (r : Record) → last ≡ Some r → IsRising r.ins
  proper r e = w.surveyed.proper step.outs r e

  rise : (k j : ℕ) (one other : List ℕ) → k < j → j < length ins → path_at f (get_or ins k 0) ≡ Some one → path_at f (get_or ins j 0) ≡ Some other → Before one other
  rise = found.ins_rise_so u disk plan y w i judged o

  in_at : (k : ℕ) → k < length ins → (path : List ℕ) × (path_at f (get_or ins k 0) ≡ Some path)
  in_at k low = let (own, own_at, own_is) = found.in_at u disk plan y w i judged o k low in (own, own_is)

  stands : (n stamp : ℕ) (path : List ℕ) → path_at f n ≡ Some path → stamp_of f n ≡ Some stamp → stamp_at u.build.folder path ≡ Some stamp
  stands = found.stamp_stands u disk plan y w i judged o

  -- ---- where inputs differ

  module _ (r : Record) (rising : IsRising r.ins) (asked : AllAsked f ins) (path : List ℕ) (logged now : Option ℕ) (is : IsOtherInputAt f ins r path logged now) where
    in_files : is.place ≤ length r.ins
    in_files = let low = is.inputs.within in let count = map_count path_of r.ins in omega (arith, low, count)

    in_members : is.place ≤ length ins
    in_members = is.members.within

    files_rise : (k j : ℕ) (one other : List ℕ × ℕ) → k < j → slice_get r.ins k ≡ Some one → slice_get r.ins j ≡ Some other → Before one.0 other.0
    files_rise = found.files_rise u disk plan y w i judged o r rising is.place is.agree in_files in_members asked rise

    -- from the place on both have no path that stands before this one
    no_file : (k : ℕ) (one : List ℕ × ℕ) → is.place ≤ k → slice_get r.ins k ≡ Some one → Before one.0 path → ⊥
    no_file k one past at less = elim (cases_lt is.place k) [
      | inl later ↦ (
          let within = slice_get_within r.ins k one at in
          let (here, there) = get_some r.ins is.place (omega (arith, later, within)) in
          is.inputs.next here.0 (map_at path_of r.ins is.place here there) (Before_trans here.0 one.0 path (files_rise is.place k here one later there at) less))
      | inr also ↦ (
          let same : is.place ≡ k = omega (arith, past, also) in
          is.inputs.next one.0 (map_at path_of r.ins is.place one (ap (slice_get r.ins) same ∙ at)) less)
    ]

    no_member : (k : ℕ) (one : List ℕ) → is.place ≤ k → k < length ins → path_at f (get_or ins k 0) ≡ Some one → Before one path → ⊥
    no_member k one past within at less = elim (cases_lt is.place k) [
      | inl later ↦ (
          let (here, there) = in_at is.place (omega (arith, later, within)) in
          is.members.next here (omega (arith, later, within)) there (Before_trans here one path (rise is.place k here one later within there at) less))
      | inr also ↦ (
          let same : is.place ≡ k = omega (arith, past, also) in
          is.members.next one (omega (arith, same, within)) (ap (λ m. path_at f (get_or ins m 0)) same ∙ at) less)
    ]

    logged_so : (told : Option ℕ) → IsLoggedAt r is.place path told → IsLogged r path told
    logged_so (Some s) at = among_at r.ins is.place (path, s) at
    logged_so None none = λ s among. (
        let (k, at) = at_place r.ins (path, s) among in
        elim (cases_lt k is.place) [
          | inl low ↦ not_same path path (is.inputs.before k path low (map_at path_of r.ins k (path, s) at)) refl
          | inr past ↦ elim (cases_lt is.place k) [
            | inl later ↦ (
                let within = slice_get_within r.ins k (path, s) at in
                let (here, there) = get_some r.ins is.place (omega (arith, later, within)) in
                is.inputs.next here.0 (map_at path_of r.ins is.place here there) (files_rise is.place k here (path, s) later there at))
            | inr also ↦ (let same : is.place ≡ k = omega (arith, past, also) in none s (ap (slice_get r.ins) same ∙ at))
          ]
        ])

    present_so : (told : Option ℕ) → IsPresentAt f ins is.place path told → IsPresent u step path told
    present_so (Some s) seen =
        (found.in_read u disk plan y w i judged o is.place path seen.within seen.path_is, stands (get_or ins is.place 0) s path seen.path_is seen.stamp_is)
    present_so None none = λ s read stood. (
        let (k, within, named) = found.in_number u disk plan y w i judged o path read in
        elim (cases_lt k is.place) [
          | inl low ↦ not_same path path (is.members.before k path low named) refl
          | inr past ↦ elim (cases_lt is.place k) [
            | inl later ↦ (
                let (here, there) = in_at is.place (omega (arith, later, within)) in
                is.members.next here (omega (arith, later, within)) there (rise is.place k here path later within there named))
            | inr also ↦ (
                let same : is.place ≡ k = omega (arith, past, also) in
                let here : path_at f (get_or ins is.place 0) ≡ Some path = ap (λ m. path_at f (get_or ins m 0)) same ∙ named in
                let low : is.place < length ins = omega (arith, same, within) in
                none s (record {
                  within = low;
                  path_is = here;
                  stamp_is = sym (found.stamp_is u disk plan y w i judged o (get_or ins is.place 0) path here (asked is.place low)) ∙ stood;
                }))
          ]
        ])

    other_input_is : HasStamps u step r → IsCause u step (causes.OtherInput path logged now)
    other_input_is has = (
      r,
      has,
      record {
        so = record { logged = logged; is_logged = logged_so logged is.logged_is; now = now; is_present = present_so now is.present_is; other = is.other };
        none_before = λ other less d. found.no_difference_before u disk plan y w i judged o r rising is.place is.agree in_files in_members asked rise path other less no_file no_member d;
      },
      logged_so logged is.logged_is,
      present_so now is.present_is,
    )

  -- ---- a claim that is right by what is known

  by_record : (cause : Cause) (r : Record) → last ≡ Some r → IsUpToDateBy u.all step judged.numbers f → IsRecordCause f step judged.numbers r cause → IsCause u step cause
  by_record (causes.Lacks path) r e up is = absurd is.1
  by_record (causes.Waits path) r e up is = absurd is.1
  by_record causes.All r e up is = absurd is.1
  by_record causes.Always r e up is = absurd is.1
  by_record causes.NotFile r e up is = absurd is.1
  by_record (causes.NoOutput path) r e up is = absurd is.1
  by_record (causes.Older out out_stamp member member_stamp) r e up is = absurd is.1
  by_record causes.NoRecord r e up is = absurd is.1
  by_record (causes.OtherText logged) r e up is = (found.up_to_date_is u disk plan y w i judged o up, r, found.found_is u disk plan y w i judged o r e, is.0, is.1)
  by_record (causes.OtherOutput path logged now) r e up (text, (place, first, seen, at)) =
      found.other_output u disk plan y w i judged o r place path logged now (found.text_is u disk plan y w i judged o r up (record { is = e; text = text })) first at seen
  by_record (causes.OtherInput path logged now) r e up (text, (outs_logged, other)) =
      other_input_is r (proper r e) up.asked path logged now other
      (found.stamps_are u disk plan y w i judged o r (found.text_is u disk plan y w i judged o r up (record { is = e; text = text })) outs_logged)
  by_record causes.Fresh r e up (text, (outs_logged, ins_logged)) = (
    r,
    found.stamps_are u disk plan y w i judged o r (found.text_is u disk plan y w i judged o r up (record { is = e; text = text })) outs_logged,
    found.same_inputs u disk plan y w i judged o r ins_logged,
  )

  by_log : (cause : Cause) (own : Option Record) → last ≡ own → IsUpToDateBy u.all step judged.numbers f → IsLogCause f step judged.numbers own cause → IsCause u step cause
  by_log cause None e up is =
      subst (IsCause u step) (sym is) (found.up_to_date_is u disk plan y w i judged o up, survey.last_is u disk plan y w i judged o ∙ e)
  by_log cause (Some r) e up is = by_record cause r e up is

  up_to_date : (ordinary : IsOrdinaryBy u.all step) → AllStand f outs → NoneOlder f outs ins → IsUpToDateBy u.all step judged.numbers f
  up_to_date ordinary stand none_older =
      let has : HasOutputsBy u.all step judged.numbers f = record { ordinary = ordinary; stand = stand } in
      record { has_outputs = has; asked = asked_ins has; none_older = none_older }

  pub closed_cause_is : (cause : Cause) → IsClosedCause u.all f step judged.numbers last cause → IsCause u step cause
  closed_cause_is (causes.Lacks path) is = absurd is
  closed_cause_is (causes.Waits path) is = absurd is
  closed_cause_is causes.All is = (found.closed_is u disk plan y w i judged o, is)
  closed_cause_is causes.Always is = (found.closed_is u disk plan y w i judged o, is.0, is.1)
  closed_cause_is causes.NotFile is = (found.closed_is u disk plan y w i judged o, is.0, is.1, is.2)
  closed_cause_is (causes.NoOutput path) (ordinary, (place, first, at)) =
      (found.ordinary_is u disk plan y w i judged o ordinary, found.gone_is u disk plan y w i judged o place path (asked_outs ordinary) first at)
  closed_cause_is (causes.Older out out_stamp member member_stamp) (ordinary, (stand, (k, m, first, out_is, member_is))) =
      let has : HasOutputsBy u.all step judged.numbers f = record { ordinary = ordinary; stand = stand } in
      found.older_is u disk plan y w i judged o k m (causes.Older out out_stamp member member_stamp) has (asked_ins has) first (record {
        out_path = out;
        out_stamp = out_stamp;
        out_is = out_is;
        member_path = member;
        member_stamp = member_stamp;
        member_is = member_is;
        told = refl;
      })
  closed_cause_is causes.NoRecord (ordinary, (stand, (none_older, log))) = by_log causes.NoRecord last refl (up_to_date ordinary stand none_older) log
  closed_cause_is (causes.OtherText logged) (ordinary, (stand, (none_older, log))) = by_log (causes.OtherText logged) last refl (up_to_date ordinary stand none_older) log
  closed_cause_is (causes.OtherOutput path logged now) (ordinary, (stand, (none_older, log))) =
      by_log (causes.OtherOutput path logged now) last refl (up_to_date ordinary stand none_older) log
  closed_cause_is (causes.OtherInput path logged now) (ordinary, (stand, (none_older, log))) =
      by_log (causes.OtherInput path logged now) last refl (up_to_date ordinary stand none_older) log
  closed_cause_is causes.Fresh (ordinary, (stand, (none_older, log))) = by_log causes.Fresh last refl (up_to_date ordinary stand none_older) log

  -- ---- the cause by what is known

  -- a place of the outputs lies within both lists
  both_within : (r : Record) (place : ℕ) → last ≡ Some r → (place < length r.outs) ⊎ (place < length outs) → (place < length r.outs) × (place < length outs)
  both_within r place e within =
      let named = ap length (survey.outs_named u disk plan y w i judged o r e) in
      let count = map_count path_of r.outs in
      let zip = zip_count (λ n path. path_at f n ≡ Some path) outs step.outs (found.zip_outs u disk plan y w i judged o) in
      elim within [ inl low ↦ (low, omega (arith, low, named, count, zip)) | inr low ↦ (omega (arith, low, named, count, zip), low) ]

  out_named : (r : Record) (place : ℕ) (one : List ℕ × ℕ) → last ≡ Some r → slice_get r.outs place ≡ Some one → place < length outs → path_at f (get_or outs place 0) ≡ Some one.0
  out_named r place one e at low =
      let (own, own_at, own_is) = found.out_at u disk plan y w i judged o place low in
      let here : slice_get step.outs place ≡ Some one.0 = ap (λ paths. slice_get paths place) (sym (survey.outs_named u disk plan y w i judged o r e)) ∙ map_at path_of r.outs place one at in
      own_is ∙ ap Some (some_is own one.0 (sym own_at ∙ here))

  module _ (r : Record) (rising : IsRising r.ins) (asked : AllAsked f ins) (place : ℕ) (first : IsFirstOther f r.ins ins place) where
    rises : (k j : ℕ) (one other : List ℕ × ℕ) → k < j → slice_get r.ins k ≡ Some one → slice_get r.ins j ≡ Some other → Before one.0 other.0
    rises = found.files_rise u disk plan y w i judged o r rising place first.before first.in_logged first.in_files asked rise

    -- before the place both have the same paths
    same_path : (k : ℕ) (one : List ℕ × ℕ) (path : List ℕ) → k < place → slice_get r.ins k ≡ Some one → path_at f (get_or ins k 0) ≡ Some path → one.0 ≡ path
    same_path k one path low at named = some_is one.0 path (sym (first.before k one low at).0 ∙ named)

    made_at : (path : List ℕ) (logged now : Option ℕ) → ((k : ℕ) (one : List ℕ × ℕ) → k < place → slice_get r.ins k ≡ Some one → Before one.0 path) → ((one : List ℕ × ℕ) → slice_get r.ins place ≡ Some one → Before one.0 path → ⊥)
        → ((one : List ℕ) → place < length ins → path_at f (get_or ins place 0) ≡ Some one → Before one path → ⊥) → IsLoggedAt r place path logged → IsPresentAt f ins place path now → logged ≢ now → IsOtherInputAt f ins r path logged now
    made_at path logged now low_files no_file no_member logged_is present_is other = record {
      place = place;
      inputs = record {
        within = (let low = first.in_logged in let count = map_count path_of r.ins in omega (arith, low, count));
        before = λ k one low at. (let (file, there, is) = map_back path_of r.ins k one at in subst (λ p. Before p path) is (low_files k file low there));
        next = λ one at less. (let (file, there, is) = map_back path_of r.ins place one at in no_file file there (subst (λ p. Before p path) (sym is) less));
      };
      members = record {
        within = first.in_files;
        before = λ k one low at. (
            let within = first.in_logged in
            let (file, there) = get_some r.ins k (omega (arith, low, within)) in
            subst (λ p. Before p path) (same_path k file one low there at) (low_files k file low there));
        next = λ one low at less. no_member one low at less;
      };
      agree = first.before;
      logged_is = logged_is;
      present_is = present_is;
      other = other;
    }

    -- before the path of an input at the place stand those before it
    files_low : (one : List ℕ × ℕ) → slice_get r.ins place ≡ Some one → (k : ℕ) (other : List ℕ × ℕ) → k < place → slice_get r.ins k ≡ Some other → Before other.0 one.0
    files_low one at k other low there = rises k place other one low there at

    -- so is it with the path of a member there
    members_low : (path : List ℕ) → place < length ins → path_at f (get_or ins place 0) ≡ Some path → (k : ℕ) (other : List ℕ × ℕ) → k < place → slice_get r.ins k ≡ Some other → Before other.0 path
    members_low path within at k other low there = rise k place other.0 path low within (first.before k other low there).0 at

    own_file : (one other : List ℕ × ℕ) → slice_get r.ins place ≡ Some one → slice_get r.ins place ≡ Some other → other.0 ≡ one.0
    own_file one other at there = ap (λ (x : List ℕ × ℕ). x.0) (some_is other one (sym there ∙ at))

    own_member : (one other : List ℕ) → path_at f (get_or ins place 0) ≡ Some one → path_at f (get_or ins place 0) ≡ Some other → other ≡ one
    own_member one other at there = some_is other one (sym there ∙ at)

    -- the stamp of a member, at the place
    present_at : (path : List ℕ) → place < length ins → path_at f (get_or ins place 0) ≡ Some path → IsPresentAt f ins place path (stamp_of f (get_or ins place 0))
    present_at path low at = go (stamp_of f (get_or ins place 0)) refl
      where
        go : (told : Option ℕ) → stamp_of f (get_or ins place 0) ≡ told → IsPresentAt f ins place path told
        go None e = λ s seen. none_some s (sym e ∙ seen.stamp_is)
        go (Some s) e = record { within = low; path_is = at; stamp_is = e }

    -- a member stands
    member_stands : (path : List ℕ) → place < length ins → path_at f (get_or ins place 0) ≡ Some path → stamp_of f (get_or ins place 0) ≡ None → ⊥
    member_stands path low at gone =
        let (file, stood) = settled_stands u w.entry.apart path ((found.closed_is u disk plan y w i judged o).settled path (found.in_read u disk plan y w i judged o place path low at)) in
        none_some file.stamp (sym gone ∙ sym (found.stamp_is u disk plan y w i judged o (get_or ins place 0) path at (asked place low)) ∙ ap (option_map (λ (x : File). x.stamp)) stood)

    record Differing : Type 0 where
      path : List ℕ
      logged : Option ℕ
      now : Option ℕ
      is : IsOtherInputAt f ins r path logged now

    -- the record's input at the place, which stands before the member there
    of_file : (one : List ℕ × ℕ) → slice_get r.ins place ≡ Some one → ((path : List ℕ) → place < length ins → path_at f (get_or ins place 0) ≡ Some path → Before one.0 path) → Differing
    of_file one at before = record {
      path = one.0;
      logged = Some one.1;
      now = None;
      is = made_at one.0 (Some one.1) None (files_low one at) (λ other there less. not_same other.0 one.0 less (own_file one other at there))
          (λ other low there less. not_same one.0 one.0 (Before_trans one.0 other one.0 (before other low there) less) refl) at
          (λ s seen. not_same one.0 one.0 (before one.0 seen.within seen.path_is) refl) (λ e. none_some one.1 (sym e));
    }

    -- the member at the place, which stands before the record's input there
    of_member : (path : List ℕ) → place < length ins → path_at f (get_or ins place 0) ≡ Some path → ((one : List ℕ × ℕ) → slice_get r.ins place ≡ Some one → Before path one.0) → Differing
    of_member path low at before = record {
      path = path;
      logged = None;
      now = stamp_of f (get_or ins place 0);
      is = made_at path None (stamp_of f (get_or ins place 0)) (members_low path low at) (λ one there less. not_same path path (Before_trans path one.0 path (before one there) less) refl)
          (λ other within there less. not_same other path less (own_member path other at there))
          (λ s there. not_same path path (before (path, s) there) refl) (present_at path low at)
          (λ e. member_stands path low at (sym e));
    }

    -- both have one path there
    of_both : (one : List ℕ × ℕ) (path : List ℕ) → slice_get r.ins place ≡ Some one → place < length ins → path_at f (get_or ins place 0) ≡ Some path → one.0 ≡ path → Differing
    of_both one path at low named same =
        let here : path_at f (get_or ins place 0) ≡ Some one.0 = named ∙ ap Some (sym same) in
        record {
          path = one.0;
          logged = Some one.1;
          now = stamp_of f (get_or ins place 0);
          is = made_at one.0 (Some one.1) (stamp_of f (get_or ins place 0)) (files_low one at) (λ other there less. not_same other.0 one.0 less (own_file one other at there))
              (λ other within there less. not_same other one.0 less (own_member one.0 other here there)) at (present_at one.0 low here)
              (λ e. first.other one at low (here, sym e));
        }

    differing : Differing
    differing = elim (cases_lt place (length r.ins)) [
      | inl of_log ↦ (let (one, at) = get_some r.ins place of_log in elim (cases_lt place (length ins)) [
        | inl low ↦ (let (path, named) = in_at place low in elim (before_or one.0 path) [
          | inl same ↦ of_both one path at low named same
          | inr apart ↦ elim apart [
            | inl less ↦ of_file one at (λ other within there. subst (Before one.0) (sym (own_member path other named there)) less)
            | inr more ↦ of_member path low named (λ other there. subst (Before path) (sym (own_file one other at there)) more)
          ]
        ])
        | inr past ↦ of_file one at (λ other within there. absurd (omega (arith, past, within)))
      ])
      | inr past ↦ elim first.within [
        | inl low ↦ absurd (omega (arith, past, low))
        | inr low ↦ (let (path, named) = in_at place low in of_member path low named (λ other there. (let within = slice_get_within r.ins place other there in absurd (omega (arith, past, within)))))
      ]
    ]

  -- what the log tells of the step, by its record
  by_last : (cause : Cause) (r : Record) → last ≡ Some r → IsRecordCause f step judged.numbers r cause → IsLogCause f step judged.numbers last cause
  by_last cause r e is = subst (λ own. IsLogCause f step judged.numbers own cause) (sym e) is

  pub own_cause : (cause : Cause) × IsClosedCause u.all f step judged.numbers last cause
  own_cause = go judged.point o.first
    where
      go : (point : Option Point) → IsByStamps u.all step judged.numbers last f point → (cause : Cause) × IsClosedCause u.all f step judged.numbers last cause
      go None (up, no_notfile, (undone, r, has, outs_logged, ins_logged)) =
          (causes.Fresh, (up.has_outputs.ordinary, (up.has_outputs.stand, (up.none_older, by_last causes.Fresh r has.is (has.text, (outs_logged, ins_logged))))))
      go (Some points.All) is = (causes.All, is)
      go (Some points.Always) is = (causes.Always, is)
      go (Some points.Notfile) is = (causes.NotFile, is)
      go (Some (points.Lacks place)) (ordinary, asked, first) =
          let (own, own_at, own_is) = found.out_at u disk plan y w i judged o place first.within in
          (causes.NoOutput own, (ordinary, (place, first, own_is)))
      go (Some (points.Older k m)) (has, asked, first) =
          let (out, out_at, out_is) = found.out_at u disk plan y w i judged o k first.within in
          let (member, member_is) = in_at m first.newer.within in
          let (read, read_is, more) = first.newer.newer in
          let out_seen : IsSeenAt f outs k out first.written = record { within = first.within; path_is = out_is; stamp_is = first.written_is } in
          let member_seen : IsSeenAt f ins m member read = record { within = first.newer.within; path_is = member_is; stamp_is = read_is } in
          (causes.Older out first.written member read, (has.ordinary, (has.stand, (k, m, first, out_seen, member_seen))))
      go (Some (points.FromNotfile m)) (up, is) = absurd (none_some m (sym (survey.no_notfile u disk plan y w i judged o) ∙ is))
      go (Some (points.Done m)) (up, no_notfile, is) = absurd (none_some m (sym (survey.none_done u disk plan y w i judged o) ∙ is))
      go (Some points.NoRecord) (up, no_notfile, (undone, none)) =
          (causes.NoRecord, (up.has_outputs.ordinary, (up.has_outputs.stand, (up.none_older, subst (λ own. IsLogCause f step judged.numbers own causes.NoRecord) (sym none) refl))))
      go (Some points.Text) (up, no_notfile, (undone, r, at, other)) =
          (causes.OtherText r.text, (up.has_outputs.ordinary, (up.has_outputs.stand, (up.none_older, by_last (causes.OtherText r.text) r at (refl, other)))))
      go (Some (points.Outputs place)) (up, no_notfile, (undone, r, has, first)) =
          let (of_log, low) = both_within r place has.is first.within in
          let (one, at) = get_some r.outs place of_log in
          let (now, now_is) = up.has_outputs.stand place low in
          let seen : IsSeenAt f outs place one.0 now = record { within = low; path_is = out_named r place one has.is at low; stamp_is = now_is } in
          let told = by_last (causes.OtherOutput one.0 one.1 now) r has.is (has.text, (place, first, seen, at)) in
          (causes.OtherOutput one.0 one.1 now, (up.has_outputs.ordinary, (up.has_outputs.stand, (up.none_older, told))))
      go (Some (points.Inputs place)) (up, no_notfile, (undone, r, has, outs_logged, first)) =
          let d = differing r (proper r has.is) up.asked place first in
          let told = by_last (causes.OtherInput d.path d.logged d.now) r has.is (has.text, (outs_logged, d.is)) in
          (causes.OtherInput d.path d.logged d.now, (up.has_outputs.ordinary, (up.has_outputs.stand, (up.none_older, told))))

-- ---- a step that was not judged

module _ (u : Update) (disk : Disk) (plan : Plan) (y : Survey) (w : IsWholeSurvey u disk plan y) (i : ℕ) (needed : IsNeeded y.board.sched i) (k : survey.IsWorked u disk plan y w i) where
  -- not all that it reads is settled
  open_not : IsUnjudged y.board.sched i → IsClosed u k.on.step → ⊥
  open_not unjudged closed = elim (w.surveyed.board.waits i (λ e. (let some = (w.sound.steps i needed).some in absurd (omega (arith, some, e)))) needed unjudged (w.whole i)) [
    | inl lacks ↦ (
        let lack = (survey.told_true u disk plan y w).lacks i needed lacks in
        let read = subst (λ (s : Step). IsLacked u s lack.path) (one_step u.build.steps i lack.step k.on.step lack.at k.on.at) (lack.known, lack.missing) in
        closed.lacks_nothing lack.path read)
    | inr waits ↦ (
        let need = (survey.told_true u disk plan y w).needs i waits.need needed waits.needs in
        let read = subst (λ (s : Step). IsRead u s need.path) (one_step u.build.steps i need.step k.on.step need.at k.on.at) need.known in
        waits.not_settled (survey.settled_by u disk plan y w i needed k waits.need need.other need.path read need.makes (closed.settled need.path read)))
  ]

  members_same : members_of y.board i ≡ k.work.reach.members
  members_same = survey.members_are u disk plan y w i needed k

  lacked : (path : List ℕ) → IsFirstFile y.sights.facts (IsMissingMember y.sights.facts k.work.reach.members) path ↔ IsFirstPath (IsLacked u k.on.step) path
  lacked path = found.first_path u disk plan y w i needed k (IsLacked u k.on.step) (IsMissingMember y.sights.facts k.work.reach.members) path (found.lacked_is u disk plan y w i needed k)

  waited : (path : List ℕ) → IsFirstFile y.sights.facts (IsUnsettledMember y.board.sched y.sights.facts k.work.reach.members) path ↔ IsFirstPath (IsWaitedFor u k.on.step) path
  waited path =
      found.first_path u disk plan y w i needed k (IsWaitedFor u k.on.step) (IsUnsettledMember y.board.sched y.sights.facts k.work.reach.members) path (found.waited_is u disk plan y w i needed k)

  -- by the members, the cause of such a step
  abbrev IsOpenBy : List ℕ → Cause → Type 0
  IsOpenBy members (causes.Lacks path) = IsFirstFile y.sights.facts (IsMissingMember y.sights.facts members) path
  IsOpenBy members (causes.Waits path) =
      ((n : ℕ) → IsMissingMember y.sights.facts members n → ⊥) × IsFirstFile y.sights.facts (IsUnsettledMember y.board.sched y.sights.facts members) path
  IsOpenBy members cause = ⊥

  checked_by : (cause : Cause) → IsCheckedOpen y i cause → IsOpenBy (members_of y.board i) cause
  checked_by (causes.Lacks path) is = is
  checked_by (causes.Waits path) is = is
  checked_by causes.All is = is
  checked_by causes.Always is = is
  checked_by causes.NotFile is = is
  checked_by (causes.NoOutput path) is = is
  checked_by (causes.Older out out_stamp member member_stamp) is = is
  checked_by causes.NoRecord is = is
  checked_by (causes.OtherText logged) is = is
  checked_by (causes.OtherOutput path logged now) is = is
  checked_by (causes.OtherInput path logged now) is = is
  checked_by causes.Fresh is = is

  by_checked : (cause : Cause) → IsOpenBy (members_of y.board i) cause → IsCheckedOpen y i cause
  by_checked (causes.Lacks path) is = is
  by_checked (causes.Waits path) is = is
  by_checked causes.All is = is
  by_checked causes.Always is = is
  by_checked causes.NotFile is = is
  by_checked (causes.NoOutput path) is = is
  by_checked (causes.Older out out_stamp member member_stamp) is = is
  by_checked causes.NoRecord is = is
  by_checked (causes.OtherText logged) is = is
  by_checked (causes.OtherOutput path logged now) is = is
  by_checked (causes.OtherInput path logged now) is = is
  by_checked causes.Fresh is = is

  open_by : (cause : Cause) → IsOpenBy k.work.reach.members cause → IsCause u k.on.step cause
  open_by (causes.Lacks path) is = (lacked path).0 is
  open_by (causes.Waits path) is = (found.lacks_nothing u disk plan y w i needed k is.0, (waited path).0 is.1)
  open_by causes.All is = absurd is
  open_by causes.Always is = absurd is
  open_by causes.NotFile is = absurd is
  open_by (causes.NoOutput path) is = absurd is
  open_by (causes.Older out out_stamp member member_stamp) is = absurd is
  open_by causes.NoRecord is = absurd is
  open_by (causes.OtherText logged) is = absurd is
  open_by (causes.OtherOutput path logged now) is = absurd is
  open_by (causes.OtherInput path logged now) is = absurd is
  open_by causes.Fresh is = absurd is

  by_open : IsUnjudged y.board.sched i → (cause : Cause) → IsCause u k.on.step cause → IsOpenBy k.work.reach.members cause
  by_open unjudged (causes.Lacks path) is = (lacked path).1 is
  by_open unjudged (causes.Waits path) is =
      (λ n missing. (let (own, at) = survey.path_of_member u disk plan y w i needed k n missing.among in is.0 own ((found.lacked_is u disk plan y w i needed k own).1 (n, missing, at))), (waited path).1 is.1)
  by_open unjudged causes.All is = open_not unjudged is.0
  by_open unjudged causes.Always is = open_not unjudged is.0
  by_open unjudged causes.NotFile is = open_not unjudged is.0
  by_open unjudged (causes.NoOutput path) is = open_not unjudged is.0.closed
  by_open unjudged (causes.Older out out_stamp member member_stamp) is = open_not unjudged is.0.ordinary.closed
  by_open unjudged causes.NoRecord is = open_not unjudged is.0.has_outputs.ordinary.closed
  by_open unjudged (causes.OtherText logged) is = open_not unjudged is.0.has_outputs.ordinary.closed
  by_open unjudged (causes.OtherOutput path logged now) is = open_not unjudged is.1.up_to_date.has_outputs.ordinary.closed
  by_open unjudged (causes.OtherInput path logged now) is = open_not unjudged is.1.has_text.up_to_date.has_outputs.ordinary.closed
  by_open unjudged causes.Fresh is = open_not unjudged is.1.has_text.up_to_date.has_outputs.ordinary.closed

  pub checked_open_is : (cause : Cause) → IsCheckedOpen y i cause → IsCause u k.on.step cause
  checked_open_is cause is = open_by cause (subst (λ ms. IsOpenBy ms cause) members_same (checked_by cause is))

  pub open_is_checked : IsUnjudged y.board.sched i → (cause : Cause) → IsCause u k.on.step cause → IsCheckedOpen y i cause
  open_is_checked unjudged cause is = by_checked cause (subst (λ ms. IsOpenBy ms cause) (sym members_same) (by_open unjudged cause is))

-- ---- each claim

module _ (u : Update) (disk : Disk) (plan : Plan) (y : Survey) (w : IsWholeSurvey u disk plan y) (why : Why) where
  proper_records : HasProperRecords u
  proper_records outs r e = w.surveyed.proper outs r (w.truth.tells outs ∙ e)

  -- what was found of a needed step that was judged
  judged_so : (judged : Judged) → IsNeeded y.board.sched why.step → judged_at y why.step ≡ Some judged → survey.IsOverSo u disk plan y w why.step judged
  judged_so judged needed at = elim (w.surveyed.each why.step (w.sound.steps why.step needed)) [
    | inl unjudged ↦ absurd (none_some judged (sym (w.surveyed.unjudged why.step unjudged) ∙ at))
    | inr (other, other_at, so) ↦ (
        let same : other ≡ judged = some_is other judged (sym other_at ∙ at) in
        survey.over_so u disk plan y w why.step judged (w.sound.steps why.step needed) (subst (IsJudged plan u.all y why.step) same so))
  ]

  -- and one of which nothing was found was not judged
  unjudged_so : IsNeeded y.board.sched why.step → judged_at y why.step ≡ None → IsUnjudged y.board.sched why.step
  unjudged_so needed none = elim (w.surveyed.each why.step (w.sound.steps why.step needed)) [
    | inl unjudged ↦ unjudged
    | inr (other, at, so) ↦ absurd (none_some other (sym none ∙ at))
  ]

  forth : IsCheckedWhy plan u.all y why → IsWhy u why
  forth c = record {
    needed = (survey.needed_is u disk plan y w why.step).0 c.needed;
    step = worked.on.step;
    at = worked.on.at;
    reads = survey.reads u disk plan y w why.step c.needed worked;
    reads_are = survey.reads_are u disk plan y w why.step c.needed worked;
    cause = go (judged_at y why.step) refl c.cause;
  }
    where
      worked : survey.IsWorked u disk plan y w why.step
      worked = survey.worked u disk plan y w why.step c.needed

      own : (step : Step) → step_at u.build.steps why.step ≡ Some step → c.step ≡ step
      own step at = one_step u.build.steps why.step c.step step (subst (λ (steps : List Step). step_at steps why.step ≡ Some c.step) (sym (survey.steps_are u disk plan y w)) c.at) at

      go : (told : Option Judged) → judged_at y why.step ≡ told → IsCheckedBy u.all y c.step why.step told why.cause → IsCause u worked.on.step why.cause
      go None e is = checked_open_is u disk plan y w why.step c.needed worked why.cause is
      go (Some judged) e is =
          let over = judged_so judged c.needed e in
          subst (λ (s : Step). IsCause u s why.cause) (one_step u.build.steps why.step over.on.step worked.on.step over.on.at worked.on.at)
          (closed_cause_is u disk plan y w why.step judged over why.cause
          (subst (λ (s : Step). IsClosedCause u.all y.sights.facts s judged.numbers (find_record s.outs y.sights.journal) why.cause) (own over.on.step over.on.at) is))

  back : IsWhy u why → IsCheckedWhy plan u.all y why
  back is = record {
    step = is.step;
    at = subst (λ (steps : List Step). step_at steps why.step ≡ Some is.step) (survey.steps_are u disk plan y w) is.at;
    needed = needed;
    cause = go (judged_at y why.step) refl;
  }
    where
      needed : IsNeeded y.board.sched why.step
      needed = (survey.needed_is u disk plan y w why.step).1 is.needed

      worked : survey.IsWorked u disk plan y w why.step
      worked = survey.worked u disk plan y w why.step needed

      go : (told : Option Judged) → judged_at y why.step ≡ told → IsCheckedBy u.all y is.step why.step told why.cause
      go None e = open_is_checked u disk plan y w why.step needed worked (unjudged_so needed e) why.cause
          (subst (λ (s : Step). IsCause u s why.cause) (one_step u.build.steps why.step is.step worked.on.step is.at worked.on.at) is.cause)
      go (Some judged) e =
          let over = judged_so judged needed e in
          let (cause, told) = own_cause u disk plan y w why.step judged over in
          let same_step : over.on.step ≡ is.step = one_step u.build.steps why.step over.on.step is.step over.on.at is.at in
          let so : IsCause u is.step cause = subst (λ (s : Step). IsCause u s cause) same_step (closed_cause_is u disk plan y w why.step judged over cause told) in
          let same : cause ≡ why.cause = cause_is_one u is.step cause why.cause proper_records so is.cause in
          subst (λ (x : Cause). IsClosedCause u.all y.sights.facts is.step judged.numbers (find_record is.step.outs y.sights.journal) x) same
          (subst (λ (s : Step). IsClosedCause u.all y.sights.facts s judged.numbers (find_record s.outs y.sights.journal) cause) same_step told)

pub checked_is_why : CheckedIsWhy
checked_is_why u disk plan y why w = (forth u disk plan y w why, back u disk plan y w why)
