use Rattle.std.proofs.Common.{◌≡◌, ℕ, true, false, List, [], ◌∷◌, refl, sym, ap, subst, ◌∙◌, arith, Option, Some, None, codes}
use Rattle.b2_host.specs.declared.children.ChildEvent.TheVariants.{Done}
use Rattle.b2_host.specs.Disks.{Folder, put}
use Rattle.b2_plan.specs.declared.step.Step.{Step}
use Rattle.b2_plan.specs.Closures.{Value}
use Rattle.b2_log.specs.declared.line.Record.{Record}
use Rattle.b2_log.specs.Finding.{find_record}
use Rattle.b2_host.specs.declared.children.ChildEvent.{ChildEvent}
use Rattle.b2_runs.specs.Staleness.{Update, AreStamped, AgreesByStamps, Agrees, Agrees.by_stamps, Agrees.by_digests, IsFresh, IsRecorded, paths_with_bytes}
use Rattle.b2_run_examples.specs.Examples.{in_path, out_path, out_file, new_file, disk_after, log_after, copy_record, copy_step, in_members, after_copying, CopyingJudged}
use Rattle.b2_runs.proofs.FirstElementOrLater.{Contains_here, Contains_nil}
use Rattle.b2_run_examples.proofs.OneStepPlan.{different, only_out, one_of}
use Rattle.b2_run_examples.proofs.CopyingHolds.{none_older}

-- with nothing to do
pub unchanged : IsFresh (after_copying disk_after.now log_after) [] copy_step in_members
unchanged = record {
  not_all = refl;
  not_always = refl;
  not_notfile = refl;
  stand = λ out c. (out_file, ap disk_after.now (sym (one_of out_path out c)));
  none_older = λ off. none_older;
  none_done = λ off member value i other well c makes d. Contains_nil (Done i well) d;
  none_notfile = λ member value i other c makes.
      let read : in_path ≡ member = ap (λ (z : List ℕ × Value). z.0) (one_of (in_path, Some (7 ∷ [])) (member, value) c) in
      let made : out_path ≡ member = only_out (in_path ∷ []) i other member makes in
      absurd (different out_path in_path refl (made ∙ sym read));
  recorded = record { last = copy_record; found = refl; agrees = by_stamps (record { text = refl; outs = ((refl, refl), tt); ins = ((refl, refl), tt); none_done = λ member value i other well c makes d. Contains_nil (Done i well) d }) };
}

-- where judging is by stamps, a record agrees by them
agreed : (u : Update) (events : List ChildEvent) (step : Step) (members : List (List ℕ × Value)) (r : Record) → u.by_digest ≡ false → Agrees u events step members r → AgreesByStamps u events step members r
agreed u events step members r off (by_stamps a) = a
agreed u events step members r off (by_digests on a) = absurd (let e : true ≡ false = sym on ∙ off in cc)

-- the record of the copy agrees, where the log has it last
last_agrees : (folder : Folder) (step : Step) (members : List (List ℕ × Value)) → find_record step.outs log_after ≡ Some copy_record → IsRecorded (after_copying folder log_after) [] step members → AgreesByStamps (after_copying folder log_after) [] step members copy_record
last_agrees folder step members e r =
    let f : Some copy_record ≡ Some r.last = sym e ∙ r.found in
    let same : copy_record ≡ r.last = cc in
    subst (AgreesByStamps (after_copying folder log_after) [] step members) (sym same) (agreed (after_copying folder log_after) [] step members r.last refl r.agrees)

-- it names stamps that must stand
stamped_out : (folder : Folder) (members : List (List ℕ × Value)) → IsRecorded (after_copying folder log_after) [] copy_step members → AreStamped folder (out_path ∷ []) copy_record.outs
stamped_out folder members r = (last_agrees folder copy_step members refl r).outs

stamped_in : (folder : Folder) (members : List (List ℕ × Value)) → IsRecorded (after_copying folder log_after) [] copy_step members → AreStamped folder (paths_with_bytes members) copy_record.ins
stamped_in folder members r = (last_agrees folder copy_step members refl r).ins

-- how the copy is judged
pub copying_judged : CopyingJudged
copying_judged = record {
  unchanged = unchanged;
  run_all = λ f. (let e : true ≡ false = f.not_all in cc);
  input_edited = λ f.
      let s = stamped_in (put in_path (Some new_file) disk_after.now) ((in_path, Some (8 ∷ [])) ∷ []) f.recorded in
      let e : ◌≡◌ {A = Option ℕ} (Some 3) (Some 1) = s.0.1 in
      let g : ◌≡◌ {A = ℕ} 3 1 = cc in
      omega (arith, g);
  output_edited = λ f.
      let s = stamped_out (put out_path (Some new_file) disk_after.now) in_members f.recorded in
      let e : ◌≡◌ {A = Option ℕ} (Some 3) (Some 2) = s.0.1 in
      let g : ◌≡◌ {A = ℕ} 3 2 = cc in
      omega (arith, g);
  output_removed = λ f.
      let (file, at) = f.stand out_path (Contains_here out_path []) in
      let e : None ≡ Some file = at in
      cc;
  log_deleted = λ f. (let e : None ≡ Some f.recorded.last = f.recorded.found in cc);
  record_dropped = λ f. (let e : None ≡ Some f.recorded.last = f.recorded.found in cc);
  member_lost = λ f. stamped_in disk_after.now [] f.recorded;
  text_changed = λ f.
      different copy_record.text (codes "cat in") refl (last_agrees disk_after.now (record copy_step { text = codes "cat in" }) in_members refl f.recorded).text;
}
