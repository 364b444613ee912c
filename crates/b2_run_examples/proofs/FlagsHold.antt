use Rattle.std.proofs.Common.{◌≡◌, ℕ, zero, suc, ◌<◌, ◌+◌, Bool, true, false, List, [], ◌∷◌, inl, inr, refl, sym, subst, arith, Some, None, codes}
use Rattle.std.specs.List.{Contains}
use Rattle.b2_host.specs.declared.children.ChildEvent.{ChildEvent}
use Rattle.b2_host.specs.declared.children.ChildEvent.TheVariants.{Start, Done}
use Rattle.b2_host.specs.Disks.{Folder, bytes_at}
use Rattle.b2_plan.specs.declared.step.Step.{Step}
use Rattle.b2_plan.specs.Plans.{Apart, Makes, step_at}
use Rattle.b2_plan.specs.Sources.{Build, IsSource}
use Rattle.b2_plan.specs.Closures.{Value, Values, Known, Known.input as input_of, Known.include as include_of, IsClosure}
use Rattle.b2_plan.specs.Cleans.{Clean}
use Rattle.b2_log.specs.declared.line.LogLine.{LogLine}
use Rattle.b2_runs.specs.Staleness.{Update, NoneDone, Agrees.by_stamps, IsFresh, IsStale}
use Rattle.b2_runs.specs.Events.{IsOpen}
use Rattle.b2_runs.specs.Runs.{Settled.source, Settled.done_well, on_settled, Needed.wanted, CanStart, IsRun}
use Rattle.b2_runs.specs.Outcomes.{AllWent}
use Rattle.b2_runs.specs.Afterwards.{IsMadeEachTime.always as is_always}
use Rattle.b2_runs.specs.LogCourses.{IsLogAfter.begins, IsLogAfter.starts, IsLogAfter.owes_none}
use Rattle.b2_run_examples.specs.Examples.{in_path, out_path, copy_step, at_entry, disk_after, copy_record, log_after, copied, in_members}
use Rattle.b2_run_examples.specs.Flags.{flagged_step, flagged, flagged_update, FlagsHold}
use Rattle.b2_runs.proofs.FirstElementOrLater.{Contains_here, Contains_cases, Contains_nil}
use Rattle.b2_runs.proofs.SourcesAreKept.{source_clean}
use Rattle.b2_runs.proofs.SkippedExactly.{all_went_by_settled}
use Rattle.b2_runs.proofs.NeededByNumbers.{cannot_start_fresh}
use Rattle.b2_run_examples.proofs.OneStepPlan.{one_of, in_outside, is_apart, lacks_none}
use Rattle.b2_run_examples.proofs.CopyingJudged.{unchanged}
use Rattle.b2_run_examples.proofs.OverlapHolds.{skip, start_not_done, start_number}

-- the only step, whatever its flags
module _ (always notfile : Bool) where
  abbrev S : Step
  S = flagged_step always notfile

  only : (i : ℕ) (step : Step) → step_at (S ∷ []) i ≡ Some step → (i ≡ 1) × (S ≡ step)
  only zero step e = absurd (let f : None ≡ Some step = e in cc)
  only (suc zero) step e = (refl, (let f : Some S ≡ Some step = e in cc))
  only (suc (suc i)) step e = absurd (let f : None ≡ Some step = e in cc)

  -- it makes what the step without flags makes
  plain : (i : ℕ) (step : Step) (path : List ℕ) → Makes (S ∷ []) i step path → Makes (copy_step ∷ []) i copy_step path
  plain i step path m =
      let (e, s) = only i step m.at in
      record { at = subst (λ j. step_at (copy_step ∷ []) j ≡ Some copy_step) (sym e) refl; among = subst (λ (t : Step). Contains t.outs path) (sym s) m.among }

  makes : Makes (S ∷ []) 1 S out_path
  makes = record { at = refl; among = Contains_here out_path [] }

  are_apart : Apart (S ∷ []) (codes "bin" ∷ [])
  are_apart =
      let a = is_apart (in_path ∷ []) in
      record {
        under_root = λ i step path m. a.under_root i copy_step path (plain i step path m);
        one_maker = λ i k step other path m n. a.one_maker i k copy_step copy_step path (plain i step path m) (plain k other path n);
        no_folder = λ i k step other path folder m n u. a.no_folder i k copy_step copy_step path folder (plain i step path m) (plain k other folder n) u;
        not_log = λ i step m. a.not_log i copy_step (plain i step _ m);
        not_below_log = λ i step path m u. a.not_below_log i copy_step path (plain i step path m) u;
        some_out = λ i step at. subst (λ (t : Step). t.outs ≡ [] → ⊥) (only i step at).1 (λ e. let f : out_path ∷ [] ≡ [] = e in cc);
        bin = a.bin;
        few = a.few;
      }

  module _ (folder : Folder) (log : List LogLine) (stands : bytes_at folder in_path ≡ Some (7 ∷ [])) where
    abbrev B : Build
    B = flagged always notfile folder

    abbrev U : Update
    U = flagged_update always notfile folder log

    in_source : IsSource B in_path (7 ∷ [])
    in_source = record { outside = in_outside; stands = stands }

    in_clean : Clean B in_path (Some (7 ∷ []))
    in_clean = source_clean B are_apart in_path (7 ∷ []) in_source

    known_in : (v : Values) (path : List ℕ) → Known B v S path → in_path ≡ path
    known_in v path (input_of p c) = one_of in_path p c
    known_in v path (include_of p bytes found k says i) = absurd (Contains_nil i.include i.listed)

    close_of : (v : Values) → v in_path (Some (7 ∷ [])) → IsClosure B v S in_members
    close_of v has = record {
      ordered = λ i j d lt h. absurd (omega arith);
      each = λ path x c.
          let e : ◌≡◌ {A = List ℕ × Value} (in_path, Some (7 ∷ [])) (path, x) = one_of (in_path, Some (7 ∷ [])) (path, x) c in
          (subst (λ (z : List ℕ × Value). Known B v S z.0) e (input_of in_path (Contains_here in_path [])), subst (λ (z : List ℕ × Value). v z.0 z.1) e has);
      whole = λ path k. (Some (7 ∷ []), subst (λ p. Contains in_members (p, Some (7 ∷ []))) (known_in v path k) (Contains_here (in_path, Some (7 ∷ [])) []));
    }

    on : (events : List ChildEvent) → IsClosure B (on_settled U events) S in_members
    on events = close_of (on_settled U events) (source in_path (7 ∷ []) in_source, in_clean)

    first_open : IsOpen (Start 1 ∷ []) 1
    first_open = (Contains_here (Start 1) [], λ well. skip (Start 1) (Done 1 well) [] (start_not_done 1 1 well) (λ d. Contains_nil (Done 1 well) d))

    none_open : (i : ℕ) → IsOpen copied i → ⊥
    none_open i o = elim (Contains_cases (Start 1) (Start i) (Done 1 true ∷ []) o.0) [
      | inl e ↦ o.1 true (subst (λ j. Contains copied (Done j true)) (start_number 1 i e) (1, omega arith, refl))
      | inr d ↦ (let e : Done 1 true ≡ Start i = one_of (Done 1 true) (Start i) d in cc)
    ]

    can : IsStale U [] S in_members → CanStart U [] 1
    can stale = record {
      step = S;
      at = refl;
      needed = wanted 1 S out_path (Contains_here out_path []) makes;
      not_started = λ c. Contains_nil (Start 1) c;
      members = in_members;
      closure = on [];
      stale = stale;
      room = (let h : 0 < 0 + 1 = omega arith in h);
      goes_on = λ quit k c. Contains_nil (Done k false) c;
    }

    runs : IsStale U [] S in_members → IsRun U copied
    runs stale = record {
      each = ((can stale, λ k less c. (let e = (only k c.step c.at).0 in omega (arith, less, e))), ((first_open, λ i c. (let h : 1 < 0 + 1 = c.room in omega (arith, h))), tt));
      none_open = none_open;
      none_left = λ i c. c.not_started (subst (λ j. Contains copied (Start j)) (sym (only i c.step c.at).0) (Contains_here (Start 1) (Done 1 true ∷ [])));
    }

    idles : IsFresh U [] S in_members → IsRun U []
    idles f = record {
      each = tt;
      none_open = λ i o. Contains_nil (Start i) o.0;
      none_left = λ i c. cannot_start_fresh U [] 1 S in_members are_apart refl (on []) f (subst (CanStart U []) (only i c.step c.at).0 c);
    }

    -- a run in which the step ended well went well
    went : AllWent U copied
    went = all_went_by_settled U copied (λ path c. inr (1, S, subst (Makes (S ∷ []) 1 S) (one_of out_path path c) makes))
        (λ i needed step path m. done_well i step path m (subst (λ j. Contains copied (Done j true)) (sym (only i step m.at).0) (1, omega arith, refl))) none_failed
      where
        none_failed : (i : ℕ) → Contains copied (Done i false) → ⊥
        none_failed i c = elim (Contains_cases (Start 1) (Done i false) (Done 1 true ∷ []) c) [
          | inl e ↦ start_not_done 1 i false e
          | inr d ↦ (let e : Done 1 true ≡ Done i false = one_of (Done 1 true) (Done i false) d in let f : true ≡ false = cc in cc)
        ]

always_stale : IsStale (flagged_update true false disk_after.now log_after) [] (flagged_step true false) in_members
always_stale f = let e : true ≡ false = f.not_always in cc

notfile_stale : (folder : Folder) → IsStale (flagged_update false true folder []) [] (flagged_step false true) in_members
notfile_stale folder f = let e : true ≡ false = f.not_notfile in cc

plain_none_done : NoneDone (flagged_update false false disk_after.now log_after) [] in_members
plain_none_done member value i other well c makes d = Contains_nil (Done i well) d

-- the step without flags is judged as the one that copied
plain_fresh : IsFresh (flagged_update false false disk_after.now log_after) [] (flagged_step false false) in_members
plain_fresh =
    let f = unchanged in
    record {
      not_all = refl;
      not_always = refl;
      not_notfile = refl;
      stand = f.stand;
      none_older = f.none_older;
      none_notfile = f.none_notfile;
      none_done = λ off. plain_none_done;
      recorded = record { last = copy_record; found = refl; agrees = by_stamps (record { text = refl; outs = ((refl, refl), tt); ins = ((refl, refl), tt); none_done = plain_none_done }) };
    }

pub flags_hold : FlagsHold
flags_hold = record {
  apart = λ always notfile folder. are_apart always notfile;
  always_runs = runs true false disk_after.now log_after refl always_stale;
  always_not_idle = λ r. r.none_left 1 (can true false disk_after.now log_after refl always_stale);
  always_made_each_time = is_always 1 (flagged_step true false) out_path (makes true false) refl;
  notfile_runs = runs false true at_entry [] refl (notfile_stale at_entry);
  notfile_again = runs false true disk_after.now [] refl (notfile_stale disk_after.now);
  notfile_log = owes_none (Start 1 ∷ []) [] 1 (flagged_step false true) (starts [] [] 1 begins (lacks_none (flagged_update false true at_entry []) [] at_entry [] (λ path. refl) refl))
      (lacks_none (flagged_update false true at_entry []) (Start 1 ∷ []) at_entry [] (λ path. refl) refl) refl refl;
  notfile_went = went false true at_entry [] refl;
  notfile_clean = λ path c. inr (1, flagged_step false true, subst (Makes (flagged_step false true ∷ []) 1 (flagged_step false true)) (one_of out_path path c) (makes false true), refl);
  plain_idle = idles false false disk_after.now log_after refl plain_fresh;
}
