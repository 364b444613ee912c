use Rattle.std.proofs.Common.{sym, subst, ◌≡◌, Bool, true, false, cond, refl, ap, ◌∙◌, None}
use Rattle.std.specs.Prelude.{option_map}
use Rattle.std.specs.List.{Contains}
use Rattle.std.specs.Str.{bytes_eq}
use Rattle.std.proofs.lemmas.List.Elements.{Contains-append_left}
use Rattle.std.proofs.lemmas.Slice.Eq.{bytes_eq-Decides}
use Rattle.b2_host.specs.Disks.{File, without}
use Rattle.b2_host.specs.ChildProcesses.{IsWritten}
use Rattle.b2_plan.specs.Plans.{Makes}
use Rattle.b2_host.specs.FileCalls.{log_path}
use Rattle.b2_runs.specs.LogFiles.{IsLogHeld}
use Rattle.b2_runs.specs.LogFileLaws.{TrueByFile, TrueWhereMissing, TrueWhereStill, TrueThroughWork, TrueThroughRemoval}
use Rattle.b2_runs.specs.Staleness.{making}
use Rattle.b2_runs.proofs.TrueWithLine as logs
use Rattle.b2_runs.proofs.TrueFileTells.{none_true}

-- the log on a disk
pub true_by_file : TrueByFile
true_by_file m disk bytes at = (λ t log is. t log (subst (λ o. IsLogHeld o log) (sym at) is), λ t log is. t log (subst (λ o. IsLogHeld o log) at is))

pub true_where_missing : TrueWhereMissing
true_where_missing m disk none log is = none_true m disk.past log (subst (λ o. IsLogHeld o log) none is)

pub true_where_still : TrueWhereStill
true_where_still m before after still grows t log is = logs.true_as_past_grows m before.past after.past log grows (t log (subst (λ o. IsLogHeld o log) still is))

-- no child at work writes to the log
pub true_through_work : TrueThroughWork
true_through_work u events running before after apart at_work w t =
    true_where_still (making u) before after (ap (option_map (λ (file : File). file.bytes)) (w.others log_path untouched)) (λ old c. subst (λ past. Contains past old) (sym w.past) (Contains-append_left before.past w.more old c)) t
  where
    untouched : IsWritten running log_path → ⊥
    untouched written =
        let a = at_work.each written.child written.runs in
        apart.not_log written.child.step a.given_closure.step (record { at = a.given_closure.at; among = subst (λ outs. Contains outs log_path) (a.outs ∙ a.given_closure.outs) written.out })

-- an output is not the log
pub true_through_removal : TrueThroughRemoval
true_through_removal b m disk i step path apart makes t = true_where_still m disk (without path disk) (ap (option_map (λ (file : File). file.bytes)) (still (bytes_eq path log_path) refl)) (λ old c. c) t
  where
    still : (s : Bool) → bytes_eq path log_path ≡ s → cond s None (disk.now log_path) ≡ disk.now log_path
    still true e = absurd (apart.not_log i step (subst (Makes b.steps i step) ((bytes_eq-Decides path log_path).0 e) makes))
    still false e = refl
