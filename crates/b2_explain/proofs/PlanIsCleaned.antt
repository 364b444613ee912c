-- What cleaning of a plan leaves: its log is true, and nothing but outputs is gone.
use Rattle.std.proofs.Common.{◌≡◌, ◌≢◌, inl, inr, ℕ, zero, suc, ◌<◌, Bool, true, false, cond, List, [], ◌∷◌, ◌++◌, length, slice_get, Option, Some, None, is_some, Result, Ok, Err, refl, sym, ap, subst, ◌∙◌, arith, append-nil}
use Rattle.std.specs.List.{Contains, AllByRecursion}
use Rattle.std.specs.Option.{IfSome}
use Rattle.std.proofs.lemmas.Bool.{cases_Bool}
use Rattle.std.proofs.lemmas.List.Elements.{Contains-append_left, Contains-append_cases}
use Rattle.b2_host.specs.Disks.{Folder, Disk, Past}
use Rattle.b2_host.specs.Output.{Output}
use Rattle.b2_host.specs.LogChanges.{ChangesOnlyAt}
use Rattle.b2_host.specs.FileCalls.{log_path}
use Rattle.b2_plan.specs.declared.step.Step.{Step}
use Rattle.b2_plan.specs.Plans.{step_at, Makes, Apart}
use Rattle.b2_log.specs.declared.line.Record.{Record}
use Rattle.b2_log.specs.declared.line.LogLine.{LogLine}
use Rattle.b2_log.specs.declared.line.LogLine.TheVariants as lines
use Rattle.b2_log.specs.Lines.{log_bytes}
use Rattle.b2_log.specs.Good.{IsGood}
use Rattle.b2_log.specs.Readings.{IsReading}
use Rattle.b2_log.specs.Finding.{find_record, kept}
use Rattle.b2_log.proofs.BytesHaveOneReading.{reading_whole}
use Rattle.b2_runs.specs.Logs.{Making, LogTrue}
use Rattle.b2_runs.specs.LogFiles.{IsLogOf, IsLogOf.is_read as log_read, IsLogOf.is_large as log_large, IsTrueFile, IsLogHeld, IsLogIn, IsTrueOn}
use Rattle.b2_runs.specs.LogCourses.{Opening.to_cut, FirstLines, FirstLines.as_it_is as first_as_it_is, FirstLines.torn as first_torn_tail, FirstLines.long as first_long, FirstLines.large as first_large, held_bytes, log_file, left_file}
use Rattle.b2_runs.proofs.FirstElementOrLater.{Contains_there, Contains_cases, Contains_nil}
use Rattle.b2_runs.proofs.LastLineIsFound.{last_drop, others_unsaid, outs_same}
use Rattle.b2_runs.proofs.FileIsOneLog.{file_is_one_log}
use Rattle.b2_runs.proofs.TrueFileTells.{none_true, true_front, empty_file_is_true, true_with_torn_spelling}
use Rattle.b2_runs.proofs.TrueByFile.{true_by_file, true_where_missing, true_where_still}
use Rattle.b2_runs.proofs.TrueWithLine.{true_with_line, true_with_fewer, true_as_past_grows}
use Rattle.b2_runs.proofs.KeptTellsSame.{kept_among}
use Rattle.b2_runs.proofs.FirstLinesAreOne.{begin_is_read}
use Rattle.b2_journal.specs.Notes.{HasLines, IsNoteCut, IsNoteCut.untouched as note_untouched, IsNoteCut.within as note_within}
use Rattle.b2_journal.specs.Openings.{IsOpened, IsOpeningCut, IsOpeningCut.untouched as open_untouched, IsOpeningCut.replacing as open_replacing}
use Rattle.b2_facts.proofs.ListsAtPlaces.{some_is, none_some, get_front, at_place, among_at}
use Rattle.b2_explain.specs.declared.fault.CleanFault.{CleanFault}
use Rattle.b2_explain.specs.declared.fault.CleanFault.TheVariants as faults
use Rattle.b2_explain.specs.Cleaning.{removed_of, removals, with_drop, after_drops, IsToClean, MayBeCleaned, IsCleaned, CleanedBy, IsWrittenBy}
use Rattle.b2_explain.specs.Removing.{IsUpTo, Wrote, outs_to_clean, all_to_clean, HaveOwnOuts, HasFirstDrops, HasFirstDrops.whole as first_whole, HasFirstDrops.torn as first_torn, CleanedSteps}
use Rattle.b2_explain.proofs.StepsAreCleaned.{standing_same, removed_standing}

-- ---- the steps of a plan

-- the outputs of a list of steps are those of one at a place
of_step : (steps : List Step) (path : List ℕ) → Contains (all_to_clean steps) path → (k : ℕ) × (step : Step) × (slice_get steps k ≡ Some step) × Contains step.outs path × (step.notfile ≡ false)
of_step [] path among = absurd (Contains_nil path among)
of_step (step ∷ steps) path among = elim (Contains-append_cases (outs_to_clean step) (all_to_clean steps) path among) [
  | inl here ↦ (let (inside, file) = by_kind step.notfile refl here in (zero, step, refl, inside, file))
  | inr later ↦ (let (k, other, at, inside, file) = of_step steps path later in (suc k, other, at, inside, file))
]
  where
    by_kind : (b : Bool) → step.notfile ≡ b → Contains (cond b [] step.outs) path → Contains step.outs path × (step.notfile ≡ false)
    by_kind true e none = absurd (Contains_nil path none)
    by_kind false e inside = (inside, e)

pub to_clean_of : (steps : List Step) (path : List ℕ) → Contains (all_to_clean steps) path → IsToClean steps path
to_clean_of steps path among = let (k, step, at, inside, file) = of_step steps path among in (suc k, step, record { at = at; among = inside }, file)

pub of_to_clean : (steps : List Step) (path : List ℕ) → IsToClean steps path → Contains (all_to_clean steps) path
of_to_clean steps path (zero, step, makes, file) = absurd (none_some step makes.at)
of_to_clean steps path (suc k, step, makes, file) = go steps k makes.at
  where
    later : (xs ys : List (List ℕ)) → Contains ys path → Contains (xs ++ ys) path
    later [] ys among = among
    later (x ∷ xs) ys among = Contains_there x path (xs ++ ys) (later xs ys among)

    go : (l : List Step) (k : ℕ) → slice_get l k ≡ Some step → Contains (all_to_clean l) path
    go [] k at = absurd (none_some step at)
    go (s ∷ l) zero at =
        let same : s ≡ step = some_is s step at in
        Contains-append_left (outs_to_clean s) (all_to_clean l) path
        (subst (λ (t : Step). Contains (outs_to_clean t) path) (sym same) (subst (λ b. Contains (cond b [] step.outs) path) (sym file) makes.among))
    go (s ∷ l) (suc k) at = later (outs_to_clean s) (all_to_clean l) (go l k at)

at_behind : (front rest : List Step) (step : Step) → slice_get (front ++ step ∷ rest) (length front) ≡ Some step
at_behind [] rest step = refl
at_behind (s ∷ front) rest step = at_behind front rest step

pub own_outs : (steps : List Step) (roots : List (List ℕ)) → Apart steps roots → HaveOwnOuts steps
own_outs steps roots apart = record {
  some_out = λ step among. (let (k, at) = at_place steps step among in not_empty step.outs (apart.some_out (suc k) step at));
  not_log = λ step among inside. (let (k, at) = at_place steps step among in apart.not_log (suc k) step (record { at = at; among = inside }));
  one_maker = λ front rest step path is among inside. (
      let (k, other, at, own, file) = of_step front path among in
      let low = slice_low front k other at in
      let here : slice_get steps k ≡ Some other = ap (λ l. slice_get l k) is ∙ get_front front (step ∷ rest) k low ∙ at in
      let there : slice_get steps (length front) ≡ Some step = ap (λ l. slice_get l (length front)) is ∙ at_behind front rest step in
      let same = apart.one_maker (suc k) (suc (length front)) other step path (record { at = here; among = own }) (record { at = there; among = inside }) in
      omega (arith, same, low));
}
  where
    not_empty : (outs : List (List ℕ)) → outs ≢ [] → 0 < length outs
    not_empty [] some = absurd (some refl)
    not_empty (out ∷ outs) some = omega arith

    slice_low : (l : List Step) (k : ℕ) (s : Step) → slice_get l k ≡ Some s → k < length l
    slice_low [] k s at = absurd (none_some s at)
    slice_low (t ∷ l) zero s at = omega arith
    slice_low (t ∷ l) (suc k) s at = let less = slice_low l k s at in omega (arith, less)

-- what is removed depends on the outputs alone
pub removals_same : (f g : Folder) (steps : List Step) → ((path : List ℕ) → Contains (all_to_clean steps) path → g path ≡ f path) → removals g steps ≡ removals f steps
removals_same f g [] same = refl
removals_same f g (step ∷ steps) same =
    ap (λ l. l ++ removals g steps) (removed_standing g step ∙ standing_same f g (outs_to_clean step) (λ path among. same path (Contains-append_left (outs_to_clean step) (all_to_clean steps) path among)) ∙ sym (removed_standing f step))
    ∙ ap (λ l. removed_of f step ++ l) (removals_same f g steps (λ path among. same path (later (outs_to_clean step) path among)))
  where
    later : (xs : List (List ℕ)) (path : List ℕ) → Contains (all_to_clean steps) path → Contains (xs ++ all_to_clean steps) path
    later [] path among = among
    later (x ∷ xs) path among = Contains_there x path (xs ++ all_to_clean steps) (later xs path among)

-- ---- the log tells no record of the steps

-- where a log tells no record it tells none after a drop
none_after : (outs : List (List ℕ)) (log : List LogLine) (others : List (List ℕ)) → find_record outs log ≡ None → find_record outs (log ++ lines.Drop others ∷ []) ≡ None
none_after outs log others none = go (find_record outs (log ++ lines.Drop others ∷ [])) refl
  where
    go : (o : Option Record) → find_record outs (log ++ lines.Drop others ∷ []) ≡ o → o ≡ None
    go None e = refl
    go (Some r) e =
        let apart : others ≡ outs → ⊥ = λ same. none_some r (sym (last_drop log outs) ∙ ap (λ p. find_record outs (log ++ lines.Drop p ∷ [])) (sym same) ∙ e) in
        absurd (none_some r (sym none ∙ sym (others_unsaid outs log (lines.Drop others) (λ same. apart (outs_same others outs same))) ∙ e))

by_found : (step : Step) (log : List LogLine) (b : Bool) → is_some (find_record step.outs log) ≡ b → with_drop step log ≡ cond b (log ++ lines.Drop step.outs ∷ []) log
by_found step log b e = ap (λ b. cond b (log ++ lines.Drop step.outs ∷ []) log) e

none_with : (outs : List (List ℕ)) (log : List LogLine) (step : Step) → find_record outs log ≡ None → find_record outs (with_drop step log) ≡ None
none_with outs log step none = elim (cases_Bool (is_some (find_record step.outs log))) [
  | inl some ↦ ap (find_record outs) (by_found step log true some) ∙ none_after outs log step.outs none
  | inr not ↦ ap (find_record outs) (by_found step log false not) ∙ none
]

none_dropped : (log : List LogLine) (step : Step) → find_record step.outs (with_drop step log) ≡ None
none_dropped log step = elim (cases_Bool (is_some (find_record step.outs log))) [
  | inl some ↦ ap (find_record step.outs) (by_found step log true some) ∙ last_drop log step.outs
  | inr not ↦ ap (find_record step.outs) (by_found step log false not) ∙ none_of (find_record step.outs log) not
]
  where
    none_of : (o : Option Record) → is_some o ≡ false → o ≡ None
    none_of None e = refl
    none_of (Some r) e = absurd (let f : true ≡ false = e in cc)

none_through : (outs : List (List ℕ)) (log : List LogLine) (steps : List Step) → find_record outs log ≡ None → find_record outs (after_drops log steps) ≡ None
none_through outs log [] none = none
none_through outs log (step ∷ steps) none = none_through outs (with_drop step log) steps (none_with outs log step none)

pub none_told : (log : List LogLine) (steps : List Step) (step : Step) → Contains steps step → find_record step.outs (after_drops log steps) ≡ None
none_told log [] step among = absurd (Contains_nil step among)
none_told log (s ∷ steps) step among = elim (Contains_cases s step steps among) [
  | inl same ↦ subst (λ (t : Step). find_record t.outs (after_drops (with_drop s log) steps) ≡ None) same (none_through s.outs (with_drop s log) steps (none_dropped log s))
  | inr later ↦ none_told (with_drop s log) steps step later
]

-- ---- true lines

drop_true : (m : Making) (past : List Past) (log : List LogLine) (step : Step) → LogTrue m past log → LogTrue m past (with_drop step log)
drop_true m past log step so = elim (cases_Bool (is_some (find_record step.outs log))) [
  | inl some ↦ subst (LogTrue m past) (sym (by_found step log true some)) (true_with_line m past log (lines.Drop step.outs) so tt)
  | inr not ↦ subst (LogTrue m past) (sym (by_found step log false not)) so
]

pub drops_true : (m : Making) (past : List Past) (log : List LogLine) (steps : List Step) → LogTrue m past log → LogTrue m past (after_drops log steps)
drops_true m past log [] so = so
drops_true m past log (step ∷ steps) so = drops_true m past (with_drop step log) steps (drop_true m past log step so)

-- the lines that a log is opened with are true where its file is
pub first_true : (m : Making) (past : List Past) (bytes : List ℕ) (first : List LogLine) → IsTrueFile m past bytes → FirstLines to_cut bytes first → LogTrue m past first
first_true m past bytes first so (first_as_it_is log within r short) = so log (log_read (length bytes) within r)
first_true m past bytes first so (first_torn_tail log good within r less) = true_with_fewer m past log (kept log) (kept_among log) (so log (log_read good within r))
first_true m past bytes first so (first_long log good within r much) = absurd much
first_true m past bytes first so (first_large above) = none_true m past [] refl

held_true : (m : Making) (disk : Disk) → IsTrueOn m disk → IsTrueFile m disk.past (held_bytes (log_file disk.now))
held_true m disk so = go (log_file disk.now) refl
  where
    go : (o : Option (List ℕ)) → log_file disk.now ≡ o → IsTrueFile m disk.past (held_bytes o)
    go None e = empty_file_is_true m disk.past
    go (Some bytes) e = (true_by_file m disk bytes e).0 so

-- a file that has true lines that are good is true, and so is one with the first part of a drop more
file_true : (m : Making) (past : List Past) (log : List LogLine) → AllByRecursion IsGood log → LogTrue m past log → IsTrueFile m past (log_bytes log)
file_true m past log good so =
    true_front m past (log_bytes log) [] log (length (log_bytes log)) (subst (λ (bytes : List ℕ). IsReading bytes log (length (log_bytes log))) (sym (append-nil (log_bytes log))) (reading_whole log good)) so

on_file : (m : Making) (disk : Disk) (bytes : List ℕ) → log_file disk.now ≡ Some bytes → IsTrueFile m disk.past bytes → IsTrueOn m disk
on_file m disk bytes e so = (true_by_file m disk bytes e).1 so

on_left : (m : Making) (disk : Disk) (entry : Option (List ℕ)) (log : List LogLine) → HasLines entry disk.now log → AllByRecursion IsGood log → LogTrue m disk.past log → IsTrueOn m disk
on_left m disk entry log has good so = go entry (log_bytes log) refl has
  where
    go : (o : Option (List ℕ)) (bytes : List ℕ) → log_bytes log ≡ bytes → log_file disk.now ≡ left_file o bytes → IsTrueOn m disk
    go (Some old) bytes e file = on_file m disk bytes file (subst (IsTrueFile m disk.past) e (file_true m disk.past log good so))
    go None [] e file = true_where_missing m disk file
    go None (byte ∷ more) e file = on_file m disk (byte ∷ more) file (subst (IsTrueFile m disk.past) e (file_true m disk.past log good so))

on_cut : (m : Making) (before : Folder) (disk : Disk) (entry : Option (List ℕ)) (log : List LogLine) (outs : List (List ℕ)) → HasLines entry before log → AllByRecursion IsGood log → LogTrue m disk.past log → IsNoteCut before disk.now log (lines.Drop outs) → IsTrueOn m disk
on_cut m before disk entry log outs has good so (note_untouched same) = on_left m disk entry log (same ∙ has) good so
on_cut m before disk entry log outs has good so (note_within part missing line_good split file) =
    on_file m disk (log_bytes log ++ part) file (true_with_torn_spelling m disk.past (log_bytes log) log (lines.Drop outs) part missing (reading_whole log good) (file_true m disk.past log good so) line_good tt split)

on_drops : (m : Making) (disk : Disk) (entry : Option (List ℕ)) (log : List LogLine) (steps : List Step) → LogTrue m disk.past log → HasFirstDrops entry log steps disk.now → IsTrueOn m disk
on_drops m disk entry log steps so (first_whole front rest is good has) = on_left m disk entry (after_drops log front) has good (drops_true m disk.past log front so)
on_drops m disk entry log steps so (first_torn front rest step before is good has cut) =
    on_cut m before disk entry (after_drops log front) step.outs has good (drops_true m disk.past log front so) cut

-- ---- the log is opened

pub opening_cut_true : (m : Making) (before after : Disk) → ((old : Past) → Contains before.past old → Contains after.past old) → IsOpeningCut to_cut before.now after.now → IsTrueOn m before → IsTrueOn m after
opening_cut_true m before after grows (open_untouched same) so = true_where_still m before after same grows so
opening_cut_true m before after grows (open_replacing first part missing begins other split file) so =
    let read = begin_is_read to_cut (held_bytes (log_file before.now)) first begins in
    on_file m after part file (true_front m after.past part missing first (length (log_bytes first))
    (subst (λ (bytes : List ℕ). IsReading bytes first (length (log_bytes first))) split (reading_whole first read.0))
    (true_as_past_grows m before.past after.past first grows (first_true m before.past (held_bytes (log_file before.now)) first (held_true m before so) begins)))

-- ---- a plan

-- opening that failed has cleaned nothing
pub open_failed : (steps : List Step) (before after : Disk) → ChangesOnlyAt log_path before after → IsOpeningCut to_cut before.now after.now → MayBeCleaned steps before after
open_failed steps before after only cut = record {
  true_log = λ m so. opening_cut_true m before after (λ old among. subst (λ l. Contains l old) (sym only.past) (Contains-append_left before.past only.more old among)) cut so;
  others = λ path apart none. only.others path apart;
  outputs = λ path apart. inl (only.others path apart);
}

pub open_still : (steps : List Step) (before after : Disk) → after ≡ before → MayBeCleaned steps before after
open_still steps before after same = record {
  true_log = λ m so. subst (IsTrueOn m) (sym same) so;
  others = λ path apart none. ap (λ (d : Disk). d.now path) same;
  outputs = λ path apart. inl (ap (λ (d : Disk). d.now path) same);
}

module _ (steps : List Step) (roots : List (List ℕ)) (apart : Apart steps roots) (before mid after : Disk) (first more : List LogLine) (only : ChangesOnlyAt log_path before mid) (opened : IsOpened to_cut before mid first) (later : (old : Past) → Contains mid.past old → Contains after.past old) (good : AllByRecursion IsGood first) where
  past_stays : (old : Past) → Contains before.past old → Contains after.past old
  past_stays old among = later old (subst (λ l. Contains l old) (sym only.past) (Contains-append_left before.past only.more old among))

  first_so : (m : Making) → IsTrueOn m before → LogTrue m after.past first
  first_so m so = true_as_past_grows m before.past after.past first past_stays (first_true m before.past (held_bytes (log_file before.now)) first (held_true m before so) opened.begins)

  true_after : (r : Result ℕ CleanFault) → (AllByRecursion IsGood more) → CleanedSteps steps 0 first mid after more r → (m : Making) → IsTrueOn m before → IsTrueOn m after
  true_after (Ok count) good_more is m so =
      let told = is.drops (log_file before.now) opened.file good in
      on_left m after (log_file before.now) more told.1 good_more (subst (LogTrue m after.past) (sym told.0) (drops_true m after.past first steps (first_so m so)))
  true_after (Err fault) good_more is m so = on_drops m after (log_file before.now) first steps (first_so m so) (is.drops (log_file before.now) opened.file good)

  pub may_be : (r : Result ℕ CleanFault) → AllByRecursion IsGood more → CleanedSteps steps 0 first mid after more r → MayBeCleaned steps before after
  may_be r good_more is = record {
    true_log = true_after r good_more is;
    others = λ path not none. is.others path not (λ among. none (to_clean_of steps path among)) ∙ only.others path not;
    outputs = λ path not. elim (is.gone path not) [ inl same ↦ inl (same ∙ only.others path not) | inr away ↦ inr away ];
  }

  -- an output is not the log
  out_not_log : (path : List ℕ) → Contains (all_to_clean steps) path → path ≢ log_path
  out_not_log path among same = let (k, step, makes, file) = to_clean_of steps path among in apart.not_log k step (subst (Makes steps k step) same makes)

  pub removals_are : removals mid.now steps ≡ removals before.now steps
  removals_are = removals_same before.now mid.now steps (λ path among. only.others path (out_not_log path among))

  -- the log's file has these lines and no others
  no_record_in : AllByRecursion IsGood more → HasLines (log_file before.now) after.now more → (log : List LogLine) → IsLogIn after.now log → (outs : List (List ℕ)) → find_record outs more ≡ None → find_record outs log ≡ None
  no_record_in good_more has log is outs none = go (log_file before.now) (log_bytes more) refl has
    where
      is_none : log ≡ [] → find_record outs log ≡ None
      is_none e = ap (find_record outs) e

      by_bytes : (bytes : List ℕ) → log_bytes more ≡ bytes → log_file after.now ≡ Some bytes → find_record outs log ≡ None
      by_bytes bytes e file = read_as (subst (λ o. IsLogHeld o log) file is)
        where
          read_as : IsLogOf bytes log → find_record outs log ≡ None
          read_as (log_large above empty) = is_none empty
          read_as (log_read n within f) =
              let own : IsLogOf bytes more = log_read (length (log_bytes more)) within (subst (λ (b : List ℕ). IsReading b more (length (log_bytes more))) e (reading_whole more good_more)) in
              ap (find_record outs) (file_is_one_log bytes log more (log_read n within f) own) ∙ none

      go : (o : Option (List ℕ)) (bytes : List ℕ) → log_bytes more ≡ bytes → log_file after.now ≡ left_file o bytes → find_record outs log ≡ None
      go (Some old) bytes e file = by_bytes bytes e file
      go None [] e file = is_none (subst (λ o. IsLogHeld o log) file is)
      go None (byte ∷ rest) e file = by_bytes (byte ∷ rest) e file

  pub is_cleaned : (count : ℕ) → AllByRecursion IsGood more → CleanedSteps steps 0 first mid after more (Ok count) → IsCleaned steps before after × (count ≡ length (removals before.now steps))
  is_cleaned count good_more is =
      let told = is.drops (log_file before.now) opened.file good in (
        record {
          gone = λ path to_clean. is.taken.0 path (of_to_clean steps path to_clean);
          no_record = λ log in_log i step at. no_record_in good_more told.1 log in_log step.outs (ap (find_record step.outs) told.0 ∙ none_told first steps step (step_among i step at));
          first = first;
          opened = opened.begins;
          file = subst (λ l. log_file after.now ≡ left_file (log_file before.now) (log_bytes l)) told.0 told.1;
        },
        (let sum = is.taken.1 in let same = ap length removals_are in omega (arith, sum, same)),
      )
    where
      step_among : (i : ℕ) (step : Step) → step_at steps i ≡ Some step → Contains steps step
      step_among zero step at = absurd (none_some step at)
      step_among (suc k) step at = among_at steps k step at

  pub cleaned_by : (r : Result ℕ CleanFault) → AllByRecursion IsGood more → CleanedSteps steps 0 first mid after more r → CleanedBy steps before after r
  cleaned_by (Ok count) good_more is = is_cleaned count good_more is
  cleaned_by (Err fault) good_more is = tt

-- ---- what was written

pub written_by : (steps : List Step) (f : Folder) (before after : Output) (r : Result ℕ CleanFault) → Wrote (removals f steps) before after r
    → IfSome before.written (λ so_far. (written : List ℕ) × (after.written ≡ Some (so_far ++ written)) × IsWrittenBy steps f r written)
written_by steps f before after r told = go before.written told
  where
    by_result : (r : Result ℕ CleanFault) (text : List ℕ) → IsUpTo (removals f steps) r text → IsWrittenBy steps f r text
    by_result (Ok count) text is = is
    by_result (Err faults.Host) text is = is
    by_result (Err faults.Sink) text is = is
    by_result (Err faults.OutOfMemory) text is = is

    go : (o : Option (List ℕ)) → IfSome o (λ so_far. (text : List ℕ) × (after.written ≡ Some (so_far ++ text)) × IsUpTo (removals f steps) r text) → IfSome o (λ so_far. (written : List ℕ) × (after.written ≡ Some (so_far ++ written)) × IsWrittenBy steps f r written)
    go None told = tt
    go (Some so_far) (text, at, is) = (text, at, by_result r text is)
