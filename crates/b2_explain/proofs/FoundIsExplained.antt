-- What a survey that is whole has found is so where the update begins.
use Rattle.std.proofs.Common.{◌≡◌, ◌≢◌, ◌↔◌, inl, inr, ℕ, zero, suc, ◌<◌, ◌≤◌, Bool, true, false, List, [], ◌∷◌, length, get_or, slice_get, take, Option, Some, None, option_map, refl, sym, ap, subst, ◌∙◌, arith}
use Rattle.std.specs.List.{Contains, AllZip}
use Rattle.std.proofs.lemmas.Bool.{cases_lt}
use Rattle.std.proofs.lemmas.Option.{slice_get_within, get_or_from_slice_get}
use Rattle.b2_base.specs.Bytes.{Before}
use Rattle.b2_host.specs.Disks.{File, Disk}
use Rattle.b2_host.specs.FileCalls.{stamp_at}
use Rattle.b2_plan.specs.declared.step.Step.{Step}
use Rattle.b2_plan.specs.declared.plan.Plan.{Plan}
use Rattle.b2_plan.specs.Plans.{step_at}
use Rattle.b2_plan.specs.Closures.{Value, IsClosure}
use Rattle.b2_log.specs.declared.line.Record.{Record}
use Rattle.b2_log.specs.Finding.{find_record}
use Rattle.b2_log.specs.Good.{IsRising}
use Rattle.b2_runs.specs.Staleness.{Update, AreStamped, paths_with_bytes}
use Rattle.b2_runs.specs.Runs.{on_settled}
use Rattle.b2_runs.proofs.ClosureIsOne.{Before_trans}
use Rattle.b2_runs.proofs.NumberHasOneStep.{one_step}
use Rattle.b2_sched.specs.Schedules.{IsNeeded}
use Rattle.b2_facts.specs.Facts.{Knowledge, path_at}
use Rattle.b2_facts.proofs.ListsAtPlaces.{some_is, none_some, get_some, at_place, among_at, cut_at}
use Rattle.b2_reach.specs.Reaches.{IsMissingMember}
use Rattle.b2_verdicts.specs.declared.point.Point.{Point}
use Rattle.b2_verdicts.specs.declared.point.Point.TheVariants as points
use Rattle.b2_verdicts.specs.Sights.{stamp_of, IsAsked, IsStanding, AllAsked}
use Rattle.b2_verdicts.specs.Stamps.{IsFirstGone, IsFirstOlder, IsNotOlder, AgreeUpTo, AreLogged, IsFirstOther}
use Rattle.b2_verdicts.specs.Points.{IsByStamps, IsOrdinary as IsOrdinaryBy, HasOutputs as HasOutputsBy, IsUpToDate as IsUpToDateBy, HasText as HasTextBy}
use Rattle.b2_verdicts.proofs.ListsAtPlaces.{zip_forth, zip_back, zip_count, zip_made, index_at}
use Rattle.b2_verdicts.proofs.TrueFactsTell.{stamp_tells}
use Rattle.b2_verdicts.proofs.WhatIsKnownStays.{standing_asked}
use Rattle.b2_looks.proofs.FilesAreNumbered.{ins_rise}
use Rattle.b2_explain.specs.declared.cause.Cause.{Cause}
use Rattle.b2_explain.specs.declared.cause.Cause.TheVariants as causes
use Rattle.b2_explain.specs.declared.cause.Why.{Why}
use Rattle.b2_explain.specs.declared.survey.Judged.{Judged}
use Rattle.b2_explain.specs.declared.survey.Survey.{Survey}
use Rattle.b2_explain.specs.Firsts.{IsFirstPath, IsFirstIn}
use Rattle.b2_explain.specs.Sights.{IsFirstFile, IsUnsettledMember, IsSeenAt}
use Rattle.b2_explain.specs.SeenCauses.{IsOlderCause, IsOutputCause, IsInputCause, IsInputCause.both as input_both, IsInputCause.left as input_left, IsInputCause.came as input_came, IsCauseBy, IsOpenCause}
use Rattle.b2_explain.specs.Surveys.{IsJudged}
use Rattle.b2_explain.specs.Found.{IsLackTold, IsLackTold.lacks as lack_told, IsLackTold.lacks_none as none_told, IsFoundCause, IsFoundCause.judged as found_judged, IsFoundCause.open_still as found_open}
use Rattle.b2_explain.specs.Whys.{IsRead, IsLacked, IsWaitedFor, IsGone, IsNewer, IsOlder, IsFound, HasOtherStamp, IsLogged, IsPresent, Differs, LacksNothing, IsClosed, IsOrdinary, HasOutputs, IsUpToDate, HasText, HasStamps, IsCause, IsWhy, step_in}
use Rattle.b2_explain.specs.Laws.{IsWholeSurvey, FoundIsExplained}
use Rattle.b2_explain.proofs.OrderOfPaths.{not_behind, not_same}
use Rattle.b2_explain.proofs.CauseTellsStart.{settled_given, settled_stands, read_settled, name_read, read_name, stamped_same}
use Rattle.b2_explain.proofs.SortedPaths.{IsStampedSo}
use Rattle.b2_explain.proofs.SurveysTell.{map_has}
use Rattle.b2_explain.proofs.SurveysTell as survey

-- ---- what stands first in a list

take_among : {X : Type 0} (xs : List X) (place : ℕ) (x : X) → Contains (take place xs) x → (k : ℕ) × (k < place) × (slice_get xs k ≡ Some x)
take_among [] zero x among = absurd (let low = among.1 in omega (arith, low))
take_among [] (suc place) x among = absurd (let low = among.1 in omega (arith, low))
take_among (y ∷ xs) zero x among = absurd (let low = among.1 in omega (arith, low))
take_among (y ∷ xs) (suc place) x (zero, low, e) = (zero, omega arith, ap Some e)
take_among (y ∷ xs) (suc place) x (suc k, low, e) =
    let (j, less, at) = take_among xs place x (k, omega (arith, low), e) in
    (suc j, omega (arith, less), at)

-- an element at a place is the first with a property, where none before that place has it
first_at : {X : Type 0} (P : X → Type 0) (xs : List X) (place : ℕ) (x : X) → slice_get xs place ≡ Some x → P x → ((k : ℕ) (other : X) → k < place → slice_get xs k ≡ Some other → P other → ⊥) → IsFirstIn P xs x
first_at P xs place x at so none =
    let (rest, is) = cut_at xs place x at in
    record { before = take place xs; after = rest; list_is = is; so = so; none_before = λ other among has. let (k, less, here) = take_among xs place other among in none k other less here has }

-- ---- a step that was judged

module _ (u : Update) (disk : Disk) (plan : Plan) (y : Survey) (w : IsWholeSurvey u disk plan y) (i : ℕ) (judged : Judged) (o : survey.IsOverSo u disk plan y w i judged) where
  abbrev f : Knowledge
  f = y.sights.facts

  abbrev step : Step
  step = o.on.step

  abbrev outs : List ℕ
  outs = judged.numbers.outs

  abbrev ins : List ℕ
  ins = judged.numbers.ins

  abbrev last : Option Record
  last = find_record step.outs y.sights.journal

  abbrev members : List (List ℕ × Value)
  members = (survey.found u disk plan y w i judged o).members

  closure : IsClosure u.build (on_settled u []) step members
  closure = (survey.found u disk plan y w i judged o).closure

  pub zip_outs : AllZip (λ n path. path_at f n ≡ Some path) outs step.outs
  zip_outs = (survey.found u disk plan y w i judged o).numbered.outs

  zip_ins : AllZip (λ n path. path_at f n ≡ Some path) ins (paths_with_bytes members)
  zip_ins = (survey.found u disk plan y w i judged o).numbered.ins

  -- ---- files by their numbers

  -- the stamp of a file that was asked for is that of the file as it stands
  pub stamp_is : (n : ℕ) (path : List ℕ) → path_at f n ≡ Some path → IsAsked f n → stamp_at u.build.folder path ≡ stamp_of f n
  stamp_is n path at asked = ap (λ folder. stamp_at folder path) w.folder ∙ stamp_tells u.build disk.now f n path w.truth.sight.facts at asked

  pub stamp_stands : (n stamp : ℕ) (path : List ℕ) → path_at f n ≡ Some path → stamp_of f n ≡ Some stamp → stamp_at u.build.folder path ≡ Some stamp
  stamp_stands n stamp path at stands = stamp_is n path at (standing_asked f n stamp stands) ∙ stands

  -- an output at a place, by its path and by its number
  pub out_at : (k : ℕ) → k < length outs → (path : List ℕ) × (slice_get step.outs k ≡ Some path) × (path_at f (get_or outs k 0) ≡ Some path)
  out_at k low = zip_forth (λ n path. path_at f n ≡ Some path) outs step.outs k (get_or outs k 0) zip_outs (index_at outs k low)

  pub out_number : (k : ℕ) (path : List ℕ) → slice_get step.outs k ≡ Some path → (k < length outs) × (path_at f (get_or outs k 0) ≡ Some path)
  out_number k path at =
      let (n, n_at, is) = zip_back (λ n path. path_at f n ≡ Some path) outs step.outs k path zip_outs at in
      let low = slice_get_within outs k n n_at in
      (low, subst (λ m. path_at f m ≡ Some path) (some_is n (get_or outs k 0) (sym n_at ∙ index_at outs k low)) is)

  -- so is a member
  pub in_at : (k : ℕ) → k < length ins → (path : List ℕ) × (slice_get (paths_with_bytes members) k ≡ Some path) × (path_at f (get_or ins k 0) ≡ Some path)
  in_at k low = zip_forth (λ n path. path_at f n ≡ Some path) ins (paths_with_bytes members) k (get_or ins k 0) zip_ins (index_at ins k low)

  pub in_number : (path : List ℕ) → IsRead u step path → (k : ℕ) × (k < length ins) × (path_at f (get_or ins k 0) ≡ Some path)
  in_number path read =
      let (k, at) = at_place (paths_with_bytes members) path (read_name u w.entry.apart step members closure path read) in
      let (n, n_at, is) = zip_back (λ n path. path_at f n ≡ Some path) ins (paths_with_bytes members) k path zip_ins at in
      let low = slice_get_within ins k n n_at in
      (k, low, subst (λ m. path_at f m ≡ Some path) (some_is n (get_or ins k 0) (sym n_at ∙ index_at ins k low)) is)

  -- a member at a place is read
  pub in_read : (k : ℕ) (path : List ℕ) → k < length ins → path_at f (get_or ins k 0) ≡ Some path → IsRead u step path
  in_read k path low at =
      let (own, own_at, own_is) = in_at k low in
      name_read u w.entry.apart step members closure path (subst (Contains (paths_with_bytes members)) (some_is own path (sym own_is ∙ at)) (among_at (paths_with_bytes members) k own own_at))

  -- ---- what does not call for a run

  pub closed_is : IsClosed u step
  closed_is = record {
    lacks_nothing = λ path lacked. lacked.1 (settled_given u w.entry.apart path (read_settled u w.entry.apart step members closure path lacked.0));
    settled = read_settled u w.entry.apart step members closure;
  }

  pub ordinary_is : IsOrdinaryBy u.all step → IsOrdinary u step
  ordinary_is is = record { closed = closed_is; not_all = is.not_all; not_always = is.not_always; not_notfile = is.not_notfile }

  file_stands : (o : Option File) (stamp : ℕ) → option_map (λ (x : File). x.stamp) o ≡ Some stamp → (file : File) × (o ≡ Some file)
  file_stands None stamp e = absurd (none_some stamp e)
  file_stands (Some file) stamp e = (file, refl)

  pub outputs_are : HasOutputsBy u.all step judged.numbers f → HasOutputs u step
  outputs_are is = record {
    ordinary = ordinary_is is.ordinary;
    stand = λ out among. (
        let (k, at) = at_place step.outs out among in
        let (low, number) = out_number k out at in
        let (stamp, stands) = is.stand k low in
        file_stands (u.build.folder out) stamp (stamp_stands (get_or outs k 0) stamp out number stands));
  }

  pub up_to_date_is : IsUpToDateBy u.all step judged.numbers f → IsUpToDate u step
  up_to_date_is is = record {
    has_outputs = outputs_are is.has_outputs;
    none_older = λ out member written read among is_read out_stands in_stands. (
        let (k, at) = at_place step.outs out among in
        let (low, number) = out_number k out at in
        let (j, within, named) = in_number member is_read in
        let (stamp, stands) = is.has_outputs.stand k low in
        let own : stamp_of f (get_or outs k 0) ≡ Some written = stands ∙ sym (stamp_stands (get_or outs k 0) stamp out number stands) ∙ out_stands in
        is.none_older k low written own j within read (sym (stamp_is (get_or ins j 0) member named (is.asked j within)) ∙ in_stands));
  }

  pub found_is : (r : Record) → last ≡ Some r → IsFound u step r
  found_is r e = survey.last_is u disk plan y w i judged o ∙ e

  pub text_is : (r : Record) → IsUpToDateBy u.all step judged.numbers f → HasTextBy step last r → HasText u step r
  text_is r up has = record { up_to_date = up_to_date_is up; found = found_is r has.is; text = has.text }

  -- ---- what a record has

  logged_stands : (one : List ℕ × ℕ) (n : ℕ) → path_at f n ≡ Some one.0 → stamp_of f n ≡ Some one.1 → stamp_at u.build.folder one.0 ≡ Some one.1
  logged_stands one n at stands = stamp_stands n one.1 one.0 at stands

  pub stamps_are : (r : Record) → HasText u step r → AreLogged f r.outs outs → HasStamps u step r
  stamps_are r has logged = record {
    has_text = has;
    stamps = λ one among. (
        let (k, at) = at_place r.outs one among in
        let within = slice_get_within r.outs k one at in
        let count = logged.count in
        let (path_is, stands) = logged.each k one (omega (arith, within, count)) at in
        logged_stands one (get_or outs k 0) path_is stands);
  }

  -- the inputs that agree are those that the step reads
  ins_are : (r : Record) → AreLogged f r.ins ins → AreStamped u.build.folder (paths_with_bytes members) r.ins
  ins_are r logged = zip_made (IsStampedSo u.build.folder) (paths_with_bytes members) r.ins (sym (zip_count (λ n path. path_at f n ≡ Some path) ins (paths_with_bytes members) zip_ins) ∙ sym logged.count)
      (λ k path one at one_at. (
      let within = slice_get_within r.ins k one one_at in
      let count = logged.count in
      let (path_is, stands) = logged.each k one (omega (arith, within, count)) one_at in
      let (own, own_at, own_is) = in_at k (omega (arith, within, count)) in
      let same : own ≡ path = some_is own path (sym own_at ∙ at) in
      let is : one.0 ≡ path = some_is one.0 path (sym path_is ∙ own_is ∙ ap Some same) in
      (is, subst (λ p. stamp_at u.build.folder p ≡ Some one.1) is (logged_stands one (get_or ins k 0) path_is stands))))

  pub same_inputs : (r : Record) → AreLogged f r.ins ins → (path : List ℕ) → Differs u step r path → ⊥
  same_inputs r logged path d = stamped_same u w.entry.apart step members closure r path (ins_are r logged) d

  -- ---- where outputs differ

  pub other_output : (r : Record) (place : ℕ) (path : List ℕ) (logged now : ℕ) → HasText u step r → IsFirstOther f r.outs outs place → slice_get r.outs place ≡ Some (path, logged) → IsSeenAt f outs place path now → IsCause u step (causes.OtherOutput path logged now)
  other_output r place path logged now has first at seen = (
    r,
    has,
    first_at (HasOtherStamp u) r.outs place (path, logged) at
        (λ same. first.other (path, logged) at seen.within (seen.path_is, seen.stamp_is ∙ sym (stamp_stands (get_or outs place 0) now path seen.path_is seen.stamp_is) ∙ same))
        (λ k other low there differs. (let (path_is, stands) = first.before k other low there in differs (logged_stands other (get_or outs k 0) path_is stands))),
    stamp_stands (get_or outs place 0) now path seen.path_is seen.stamp_is,
  )

  -- ---- where inputs differ

  module _ (r : Record) (rising : IsRising r.ins) (place : ℕ) (before : AgreeUpTo f r.ins ins place) (in_files : place ≤ length r.ins) (in_members : place ≤ length ins) (asked : AllAsked f ins) (members_rise : (k j : ℕ) (one other : List ℕ) → k < j → j < length ins → path_at f (get_or ins k 0) ≡ Some one → path_at f (get_or ins j 0) ≡ Some other → Before one other) where
    -- an input before the place is what the step reads
    agree_at : (k : ℕ) (one : List ℕ × ℕ) → k < place → slice_get r.ins k ≡ Some one → IsRead u step one.0 × (stamp_at u.build.folder one.0 ≡ Some one.1)
    agree_at k one low at =
        let (path_is, stands) = before k one low at in
        (in_read k one.0 (omega (arith, low, in_members)) path_is, logged_stands one (get_or ins k 0) path_is stands)

    pub files_rise : (k j : ℕ) (one other : List ℕ × ℕ) → k < j → slice_get r.ins k ≡ Some one → slice_get r.ins j ≡ Some other → Before one.0 other.0
    files_rise k j one other low at_k at_j =
        subst (λ (x : List ℕ × ℕ). Before x.0 other.0) (get_or_from_slice_get r.ins k one one at_k)
        (subst (λ (x : List ℕ × ℕ). Before (get_or r.ins k one).0 x.0) (get_or_from_slice_get r.ins j other one at_j) (rising k j one low (slice_get_within r.ins j other at_j)))

    -- they do not differ at a path that stands before what both have from the place on
    pub no_difference_before : (path other : List ℕ) → Before other path → ((k : ℕ) (one : List ℕ × ℕ) → place ≤ k → slice_get r.ins k ≡ Some one → Before one.0 path → ⊥)
        → ((k : ℕ) (one : List ℕ) → place ≤ k → k < length ins → path_at f (get_or ins k 0) ≡ Some one → Before one path → ⊥) → Differs u step r other → ⊥
    no_difference_before path other less no_file no_member d = go d.logged d.now d.is_logged d.is_present d.other
      where
        -- an input of the record at this path stands before the place, so it agrees
        from_file : (s : ℕ) → Contains r.ins (other, s) → IsRead u step other × (stamp_at u.build.folder other ≡ Some s)
        from_file s among =
            let (k, at) = at_place r.ins (other, s) among in
            elim (cases_lt k place) [
              | inl low ↦ agree_at k (other, s) low at
              | inr past ↦ absurd (no_file k (other, s) past at less)
            ]

        -- so does a member
        from_member : IsRead u step other → (s : ℕ) × Contains r.ins (other, s)
        from_member read =
            let (k, within, named) = in_number other read in
            elim (cases_lt k place) [
              | inl low ↦ (
                  let (one, at) = get_some r.ins k (omega (arith, low, in_files)) in
                  let (path_is, stands) = before k one low at in
                  let same : one.0 ≡ other = some_is one.0 other (sym path_is ∙ named) in
                  (one.1, subst (λ p. Contains r.ins (p, one.1)) same (among_at r.ins k one at)))
              | inr past ↦ absurd (no_member k other past within named less)
            ]

        go : (logged now : Option ℕ) → IsLogged r other logged → IsPresent u step other now → logged ≢ now → ⊥
        go None None logged present differs = differs refl
        go None (Some t) logged present differs = (let (s, among) = from_member present.0 in logged s among)
        go (Some s) None logged present differs = (let (read, stands) = from_file s logged in present s read stands)
        go (Some s) (Some t) logged present differs = (let (read, stands) = from_file s logged in differs (sym stands ∙ present.1))

    -- what the record has from the place on does not stand before its input there
    files_past : (path : List ℕ) (stamp : ℕ) → slice_get r.ins place ≡ Some (path, stamp) → (k : ℕ) (one : List ℕ × ℕ) → place ≤ k → slice_get r.ins k ≡ Some one → Before one.0 path → ⊥
    files_past path stamp at k one past there less = elim (cases_lt place k) [
      | inl low ↦ not_behind path one.0 (files_rise place k (path, stamp) one low at there) less
      | inr also ↦ (let same : k ≡ place = omega (arith, past, also) in not_same one.0 path less (ap (λ (x : List ℕ × ℕ). x.0) (some_is one (path, stamp) (sym there ∙ ap (slice_get r.ins) same ∙ at))))
    ]

    members_past : (path : List ℕ) → place < length ins → path_at f (get_or ins place 0) ≡ Some path → (k : ℕ) (one : List ℕ) → place ≤ k → k < length ins → path_at f (get_or ins k 0) ≡ Some one → Before one path → ⊥
    members_past path low at k one past within there less = elim (cases_lt place k) [
      | inl later ↦ not_behind path one (members_rise place k path one later within at there) less
      | inr also ↦ (let same : k ≡ place = omega (arith, past, also) in not_same one path less (some_is one path (sym there ∙ ap (λ m. path_at f (get_or ins m 0)) same ∙ at)))
    ]

    -- the stamp with which a member was seen to stand is its own
    member_now : (k : ℕ) (path : List ℕ) → k < length ins → path_at f (get_or ins k 0) ≡ Some path → IsPresent u step path (stamp_of f (get_or ins k 0))
    member_now k path low at = go (stamp_of f (get_or ins k 0)) refl
      where
        go : (o : Option ℕ) → stamp_of f (get_or ins k 0) ≡ o → IsPresent u step path o
        go None e = λ s read stands. none_some s (sym e ∙ sym (stamp_is (get_or ins k 0) path at (asked k low)) ∙ stands)
        go (Some s) e = (in_read k path low at, stamp_stands (get_or ins k 0) s path at e)

    -- a path that the record has, and that no member has
    file_alone : (path : List ℕ) (stamp : ℕ) → slice_get r.ins place ≡ Some (path, stamp) → ((other : List ℕ) → place < length ins → path_at f (get_or ins place 0) ≡ Some other → Before path other) → IsPresent u step path None
    file_alone path stamp at first = λ s read stands. (
        let (k, within, named) = in_number path read in
        elim (cases_lt k place) [
          | inl low ↦ (
              let (one, there) = get_some r.ins k (omega (arith, low, in_files)) in
              let (path_is, stood) = before k one low there in
              let same : one.0 ≡ path = some_is one.0 path (sym path_is ∙ named) in
              not_same one.0 path (files_rise k place one (path, stamp) low there at) same)
          | inr past ↦ (
              let (here, here_is) = at_member (omega (arith, past, within)) in
              let less = first here (omega (arith, past, within)) here_is in
              elim (cases_lt place k) [
                | inl later ↦ not_behind path here less (members_rise place k here path later within here_is named)
                | inr also ↦ (let same : k ≡ place = omega (arith, past, also) in not_same path here less (some_is path here (sym named ∙ ap (λ m. path_at f (get_or ins m 0)) same ∙ here_is)))
              ])
        ])
      where
        at_member : place < length ins → (here : List ℕ) × (path_at f (get_or ins place 0) ≡ Some here)
        at_member low = (let (own, own_at, own_is) = in_at place low in (own, own_is))

    -- a path that a member has, and the record has not
    member_alone : (path : List ℕ) → place < length ins → path_at f (get_or ins place 0) ≡ Some path → ((other : List ℕ) (logged : ℕ) → slice_get r.ins place ≡ Some (other, logged) → Before path other) → IsLogged r path None
    member_alone path low at first = λ s among. (
        let (k, there) = at_place r.ins (path, s) among in
        elim (cases_lt k place) [
          | inl less ↦ (
              let (path_is, stood) = before k (path, s) less there in
              not_same path path (members_rise k place path path less low path_is at) refl)
          | inr past ↦ (
              let within = slice_get_within r.ins k (path, s) there in
              let (here, here_is) = get_some r.ins place (omega (arith, past, within)) in
              let before_here = first here.0 here.1 here_is in
              elim (cases_lt place k) [
                | inl later ↦ not_behind path here.0 before_here (files_rise place k here (path, s) later here_is there)
                | inr also ↦ (let same : k ≡ place = omega (arith, past, also) in not_same path here.0 before_here (ap (λ (x : List ℕ × ℕ). x.0) (some_is (path, s) here (sym there ∙ ap (slice_get r.ins) same ∙ here_is))))
              ])
        ])

    pub other_input : HasStamps u step r → (cause : Cause) → ((one : List ℕ × ℕ) → slice_get r.ins place ≡ Some one → place < length ins → path_at f (get_or ins place 0) ≡ Some one.0 → stamp_of f (get_or ins place 0) ≡ Some one.1 → ⊥) → IsInputCause f ins r place cause → IsCause u step cause
    other_input has cause differs (input_both path logged at low named told) = subst (IsCause u step) (sym told) (
      r,
      has,
      record {
        so = record { logged = Some logged; is_logged = among_at r.ins place (path, logged) at; now = stamp_of f (get_or ins place 0); is_present = member_now place path low named; other = λ e. differs (path, logged) at low named (sym e) };
        none_before = λ other less d. no_difference_before path other less (files_past path logged at) (members_past path low named) d;
      },
      among_at r.ins place (path, logged) at,
      member_now place path low named,
    )
    other_input has cause differs (input_left path logged at first told) = subst (IsCause u step) (sym told) (
      r,
      has,
      record {
        so = record { logged = Some logged; is_logged = among_at r.ins place (path, logged) at; now = None; is_present = file_alone path logged at first; other = λ e. none_some logged (sym e) };
        none_before = λ other less d. no_difference_before path other less (files_past path logged at)
            (λ k one past within there less_one. (let (own, own_at, own_is) = in_at place (omega (arith, past, within)) in members_past own (omega (arith, past, within)) own_is k one past within there (Before_trans one path own less_one (first own (omega (arith, past, within)) own_is)))) d;
      },
      among_at r.ins place (path, logged) at,
      file_alone path logged at first,
    )
    other_input has cause differs (input_came path low named first told) = subst (IsCause u step) (sym told) (
      r,
      has,
      record {
        so = record { logged = None; is_logged = member_alone path low named first; now = stamp_of f (get_or ins place 0); is_present = member_now place path low named; other = λ e. came_now (stamp_of f (get_or ins place 0)) e (member_now place path low named) };
        none_before = λ other less d. no_difference_before path other less
            (λ k one past there less_one. (let within = slice_get_within r.ins k one there in let (here, here_is) = get_some r.ins place (omega (arith, past, within)) in files_past here.0 here.1 here_is k one past there (Before_trans one.0 path here.0 less_one (first here.0 here.1 here_is)))) (members_past path low named) d;
      },
      member_alone path low named first,
      member_now place path low named,
    )
      where
        -- a member that the step reads stands
        came_now : (o : Option ℕ) → None ≡ o → IsPresent u step path o → ⊥
        came_now (Some s) e present = none_some s e
        came_now None e present =
            let read = in_read place path low named in
            let (file, stands) = settled_stands u w.entry.apart path (read_settled u w.entry.apart step members closure path read) in
            present file.stamp read (ap (option_map (λ (x : File). x.stamp)) stands)

  -- ---- the cause of a point

  pub ins_rise_so : (k j : ℕ) (one other : List ℕ) → k < j → j < length ins → path_at f (get_or ins k 0) ≡ Some one → path_at f (get_or ins j 0) ≡ Some other → Before one other
  ins_rise_so k j one other low high at_k at_j = ins_rise u.build.steps f step o.work.reach.members judged.numbers o.by.files k j 0 low high one other at_k at_j

  proper : (r : Record) → last ≡ Some r → IsRising r.ins
  proper r e = w.surveyed.proper step.outs r e

  same_record : (r q : Record) → last ≡ Some r → last ≡ Some q → q ≡ r
  same_record r q a b = some_is q r (sym b ∙ a)

  pub gone_is : (place : ℕ) (path : List ℕ) → AllAsked f outs → IsFirstGone f outs place → path_at f (get_or outs place 0) ≡ Some path → IsFirstIn (IsGone u) step.outs path
  gone_is place path asked first at =
      let (own, own_at, own_is) = out_at place first.within in
      let same : own ≡ path = some_is own path (sym own_is ∙ at) in
      first_at (IsGone u) step.outs place path (subst (λ p. slice_get step.outs place ≡ Some p) same own_at)
      (no_stamp (u.build.folder path) (stamp_is (get_or outs place 0) path at (asked place first.within) ∙ first.gone))
      (λ k other low there gone. (
      let (within, number) = out_number k other there in
      let (stamp, stands) = first.others k low in
      none_some stamp (sym (ap (option_map (λ (x : File). x.stamp)) gone) ∙ stamp_stands (get_or outs k 0) stamp other number stands)))
    where
      no_stamp : (o : Option File) → option_map (λ (x : File). x.stamp) o ≡ None → o ≡ None
      no_stamp None e = refl
      no_stamp (Some file) e = absurd (none_some file.stamp (sym e))

  -- an output that is not older by its number is not older
  not_older : (k : ℕ) (out : List ℕ) → AllAsked f ins → k < length outs → path_at f (get_or outs k 0) ≡ Some out → IsStanding f (get_or outs k 0) → IsNotOlder f ins (get_or outs k 0) → IsOlder u step out → ⊥
  not_older k out asked low at (stamp, stands) not older =
      let newer = older.newer in
      let (j, within, named) = in_number older.member newer.read in
      let own : stamp_of f (get_or outs k 0) ≡ Some older.stamp = stands ∙ sym (stamp_stands (get_or outs k 0) stamp out at stands) ∙ older.stands in
      let read = not older.stamp own j within newer.stamp (sym (stamp_is (get_or ins j 0) older.member named (asked j within)) ∙ newer.stands) in
      let more = newer.newer in
      omega (arith, read, more)

  pub older_is : (k m : ℕ) (cause : Cause) → HasOutputsBy u.all step judged.numbers f → AllAsked f ins → IsFirstOlder f outs ins k m → IsOlderCause judged.numbers f k m cause → IsCause u step cause
  older_is k m cause has asked first c = subst (IsCause u step) (sym c.told) (
    outputs_are has,
    first_at (IsOlder u step) step.outs k c.out_path out_there (record { stamp = c.out_stamp; stands = out_stands; member = c.member_path; newer = newer })
        (λ j other low there older. (
        let (within, number) = out_number j other there in
        not_older j other asked within number (has.stand j within) (first.others j low) older)),
    out_stands,
    record {
      so = newer;
      none_before = λ other less of. (
          let (j, within, named) = in_number other of.read in
          let own : stamp_of f (get_or ins j 0) ≡ Some of.stamp = sym (stamp_is (get_or ins j 0) other named (asked j within)) ∙ of.stands in
          elim (cases_lt j m) [
            | inl low ↦ (let not = first.newer.others j low of.stamp own in let more = of.newer in let same = written_is in omega (arith, not, more, same))
            | inr past ↦ elim (cases_lt m j) [
              | inl later ↦ not_behind other c.member_path less (ins_rise_so m j c.member_path other later within c.member_is.path_is named)
              | inr also ↦ (let same : j ≡ m = omega (arith, past, also) in not_same other c.member_path less (some_is other c.member_path (sym named ∙ ap (λ n. path_at f (get_or ins n 0)) same ∙ c.member_is.path_is)))
            ]
          ]);
    },
    member_stands,
  )
    where
      out_stands : stamp_at u.build.folder c.out_path ≡ Some c.out_stamp
      out_stands = stamp_stands (get_or outs k 0) c.out_stamp c.out_path c.out_is.path_is c.out_is.stamp_is

      member_stands : stamp_at u.build.folder c.member_path ≡ Some c.member_stamp
      member_stands = stamp_stands (get_or ins m 0) c.member_stamp c.member_path c.member_is.path_is c.member_is.stamp_is

      out_there : slice_get step.outs k ≡ Some c.out_path
      out_there = (let (own, own_at, own_is) = out_at k first.within in own_at ∙ ap Some (some_is own c.out_path (sym own_is ∙ c.out_is.path_is)))

      written_is : first.written ≡ c.out_stamp
      written_is = some_is first.written c.out_stamp (sym first.written_is ∙ c.out_is.stamp_is)

      newer : IsNewer u step c.out_stamp c.member_path
      newer = (
          let (read, read_is, more) = first.newer.newer in
          let same = written_is in
          let equal : read ≡ c.member_stamp = some_is read c.member_stamp (sym read_is ∙ c.member_is.stamp_is) in
          record { read = in_read m c.member_path c.member_is.within c.member_is.path_is; stamp = c.member_stamp; stands = member_stands; newer = omega (arith, more, same, equal) })

  pub cause_is : (point : Option Point) (cause : Cause) → IsByStamps u.all step judged.numbers last f point → IsCauseBy judged.numbers last f point cause → IsCause u step cause
  cause_is None cause (up, no_notfile, (undone, r, has, outs_logged, ins_logged)) told = subst (IsCause u step) (sym told) (r, stamps_are r (text_is r up has) outs_logged, same_inputs r ins_logged)
  cause_is (Some points.All) cause is told = subst (IsCause u step) (sym told) (closed_is, is)
  cause_is (Some points.Always) cause is told = subst (IsCause u step) (sym told) (closed_is, is.0, is.1)
  cause_is (Some points.Notfile) cause is told = subst (IsCause u step) (sym told) (closed_is, is.0, is.1, is.2)
  cause_is (Some (points.Lacks place)) cause (ordinary, asked, first) (path, at, told) = subst (IsCause u step) (sym told) (ordinary_is ordinary, gone_is place path asked first at)
  cause_is (Some (points.Older k m)) cause (has, asked, first) told = older_is k m cause has asked first told
  cause_is (Some (points.FromNotfile m)) cause is told = absurd told
  cause_is (Some (points.Done m)) cause is told = absurd told
  cause_is (Some points.NoRecord) cause (up, no_notfile, (undone, none)) told = subst (IsCause u step) (sym told) (up_to_date_is up, survey.last_is u disk plan y w i judged o ∙ none)
  cause_is (Some points.Text) cause (up, no_notfile, (undone, r, found, other)) (q, found_q, told) =
      let same = same_record r q found found_q in
      subst (IsCause u step) (sym told) (up_to_date_is up, r, found_is r found, ap (λ (x : Record). x.text) (sym same), λ e. other (ap (λ (x : Record). x.text) (sym same) ∙ e))
  cause_is (Some (points.Outputs place)) cause (up, no_notfile, (undone, r, has, first)) (q, found_q, c) =
      let same = same_record r q has.is found_q in
      let d = subst (λ (x : Record). IsOutputCause judged.numbers f x place cause) same c in
      subst (IsCause u step) (sym d.told) (other_output r place d.path d.logged d.now (text_is r up has) first d.logged_is d.now_is)
  cause_is (Some (points.Inputs place)) cause (up, no_notfile, (undone, r, has, outs_logged, first)) (q, found_q, c) =
      let same = same_record r q has.is found_q in
      other_input r (proper r has.is) place first.before first.in_logged first.in_files up.asked ins_rise_so (stamps_are r (text_is r up has) outs_logged) cause
      (λ one at low path_is stands. first.other one at low (path_is, stands)) (subst (λ (x : Record). IsInputCause f ins x place cause) same c)

-- ---- a step that was not judged

module _ (u : Update) (disk : Disk) (plan : Plan) (y : Survey) (w : IsWholeSurvey u disk plan y) (i : ℕ) (needed : IsNeeded y.board.sched i) (k : survey.IsWorked u disk plan y w i) where
  abbrev seen_members : List ℕ
  seen_members = k.work.reach.members

  -- the step lacks a path exactly where a member there is missing
  pub lacked_is : (path : List ℕ) → IsLacked u k.on.step path ↔ ((n : ℕ) × IsMissingMember y.sights.facts seen_members n × (path_at y.sights.facts n ≡ Some path))
  lacked_is path = (
    λ lacked. let (n, among, at) = (survey.known_is u disk plan y w i needed k path).0 lacked.0 in (n, survey.missing_is u disk plan y w i needed k n path among at lacked.1, at),
    λ missing. let (n, is, at) = missing in ((survey.known_is u disk plan y w i needed k path).1 (n, is.among, at), survey.is_missing u disk plan y w i needed k n path is at),
  )

  -- it waits for a path exactly where a member there is an output of a step that is not settled
  pub waited_is : (path : List ℕ) → IsWaitedFor u k.on.step path ↔ ((n : ℕ) × IsUnsettledMember y.board.sched y.sights.facts seen_members n × (path_at y.sights.facts n ≡ Some path))
  waited_is path = (
    λ waits.
        let (n, among, at) = (survey.known_is u disk plan y w i needed k path).0 waits.read in
        let (file, known) = survey.file_of u disk plan y w i needed k n among in
        let made = survey.made_member u disk plan y w i needed k n waits.number waits.maker path file at known waits.makes in
        (n, record { among = among; file = file; file_is = known; maker = waits.number; made = made; unsettled = λ settled. waits.unsettled (w.truth.settled waits.number settled waits.maker path waits.makes) }, at),
    λ waiting.
        let (n, is, at) = waiting in
        let read = (survey.known_is u disk plan y w i needed k path).1 (n, is.among, at) in
        let (maker, makes) = survey.maker_of_member u disk plan y w i needed k n is.maker path is.file at is.file_is is.made in
        record { read = read; number = is.maker; maker = maker; makes = makes; unsettled = λ settled. is.unsettled (survey.settled_by u disk plan y w i needed k is.maker maker path read makes settled) },
  )

  -- the first such file is the first such path
  pub first_path : (P : List ℕ → Type 0) (Q : ℕ → Type 0) (path : List ℕ) → ((p : List ℕ) → P p ↔ ((n : ℕ) × Q n × (path_at y.sights.facts n ≡ Some p))) → IsFirstFile y.sights.facts Q path ↔ IsFirstPath P path
  first_path P Q path both = (
    λ first. record {
      so = (both path).1 (first.number, first.so, first.path_is);
      none_before = λ other less has. let (n, so, at) = (both other).0 has in first.none_before n other so at less;
    },
    λ first.
        let (n, so, at) = (both path).0 first.so in
        record { number = n; so = so; path_is = at; none_before = λ other one has one_is less. first.none_before one less ((both one).1 (other, has, one_is)) },
  )

  pub lacks_nothing : ((n : ℕ) → IsMissingMember y.sights.facts seen_members n → ⊥) → LacksNothing u k.on.step
  lacks_nothing none path lacked = let (n, is, at) = (lacked_is path).0 lacked in none n is

  pub open_is : (lacks : Bool) (cause : Cause) → IsLackTold y.sights.facts seen_members lacks → IsOpenCause y.board.sched y.sights.facts seen_members lacks cause → IsCause u k.on.step cause
  open_is true cause (lack_told n is) (path, first, told) = subst (IsCause u k.on.step) (sym told) ((first_path (IsLacked u k.on.step) (IsMissingMember y.sights.facts seen_members) path lacked_is).0 first)
  open_is false cause (none_told none) (path, first, told) =
      subst (IsCause u k.on.step) (sym told) (lacks_nothing none, (first_path (IsWaitedFor u k.on.step) (IsUnsettledMember y.board.sched y.sights.facts seen_members) path waited_is).0 first)

-- ---- each needed step

module _ (u : Update) (disk : Disk) (plan : Plan) (y : Survey) (w : IsWholeSurvey u disk plan y) where
  -- a step that is needed, with what it is known to read and its cause
  why_is : (why : Why) → IsNeeded y.board.sched why.step → IsFoundCause plan y why.step why.cause → IsWhy u why
  why_is why needed found = record {
    needed = (survey.needed_is u disk plan y w why.step).0 needed;
    step = worked.on.step;
    at = worked.on.at;
    reads = survey.reads u disk plan y w why.step needed worked;
    reads_are = survey.reads_are u disk plan y w why.step needed worked;
    cause = go found;
  }
    where
      worked : survey.IsWorked u disk plan y w why.step
      worked = survey.worked u disk plan y w why.step needed

      go : IsFoundCause plan y why.step why.cause → IsCause u worked.on.step why.cause
      go (found_judged judged step at step_is told) = elim (w.surveyed.each why.step (w.sound.steps why.step needed)) [
        | inl unjudged ↦ absurd (none_some judged (sym (w.surveyed.unjudged why.step unjudged) ∙ at))
        | inr (other, other_at, so) ↦ (
            let same : other ≡ judged = some_is other judged (sym other_at ∙ at) in
            let over = survey.over_so u disk plan y w why.step judged (w.sound.steps why.step needed) (subst (IsJudged plan u.all y why.step) same so) in
            let own : step ≡ over.on.step = one_step u.build.steps why.step step over.on.step (subst (λ steps. step_at steps why.step ≡ Some step) (sym (survey.steps_are u disk plan y w)) step_is) over.on.at in
            subst (λ (s : Step). IsCause u s why.cause) (one_step u.build.steps why.step over.on.step worked.on.step over.on.at worked.on.at)
            (cause_is u disk plan y w why.step judged over judged.point why.cause over.first (subst (λ (s : Step). IsCauseBy judged.numbers (find_record s.outs y.sights.journal) y.sights.facts judged.point why.cause) own told)))
      ]
      go (found_open lacks at lack told) =
          let same = survey.members_are u disk plan y w why.step needed worked in
          open_is u disk plan y w why.step needed worked lacks why.cause (subst (λ ms. IsLackTold y.sights.facts ms lacks) same lack) (subst (λ ms. IsOpenCause y.board.sched y.sights.facts ms lacks why.cause) same told)

pub found_is_explained : FoundIsExplained
found_is_explained u disk plan y whys w found = record {
  steps = record {
    rising = found.steps.rising;
    each = λ i among. (survey.needed_is u disk plan y w i).0 (found.steps.each i among);
    whole = λ i needed. found.steps.whole i ((survey.needed_is u disk plan y w i).1 needed);
  };
  each = λ why among. why_is u disk plan y w why (found.steps.each why.step (map_has step_in whys why among)) (found.each why among);
}
