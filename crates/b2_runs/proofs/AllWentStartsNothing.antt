use Rattle.std.proofs.Common.{◌≡◌, ◌<◌, true, false, length, inl, inr, refl, sym, subst, ◌∙◌, arith}
use Rattle.b2_runs.specs.Staleness.{making}
use Rattle.b2_runs.specs.Soundness.{Holds}
use Rattle.b2_runs.specs.AnswerLaws.{AllWentStartsNothing, CycleEndsNoReport, AllWentHasNoBadEnd, SinkFaultIsFirst, NoneLeftWithoutRisk, NoneLeftWithoutFault, UpdateReadsOnce, DoneWellStands, SoundAtExit}
use Rattle.b2_runs.proofs.TrueWithLine.{record_grows}
use Rattle.b2_runs.proofs.OutputsAreClean.{out_bytes}
use Rattle.b2_runs.proofs.CountedInOrder.{bad_by_count}
use Rattle.b2_runs.proofs.NothingStartsAfterwards.{nothing_starts_afterwards}
use Rattle.b2_runs.proofs.ReadsOnce.{scanned_is_not_read}
use Rattle.b2_runs.proofs.AnswersExcludeEachOther.{none_stuck_none_cycle}

pub all_went_starts_nothing : AllWentStartsNothing
all_went_starts_nothing u events later disk quit jobs i step path apart sound told fits run_later makes calm c =
    nothing_starts_afterwards u events later disk told.0.log quit jobs i step path apart told.0.run.each sound (told.0.noted fits) told.1 run_later makes calm c

pub cycle_ends_no_report : CycleEndsNoReport
cycle_ends_no_report u events list written cycle stops = none_stuck_none_cycle u events list stops.none_stuck cycle

pub all_went_has_no_bad_end : AllWentHasNoBadEnd
all_went_has_no_bad_end steps jobs disk old new i h c = h.none_failed refl i ((bad_by_count h.short h.events i).1 (inl c))

pub sink_fault_is_first : SinkFaultIsFirst
sink_fault_is_first before after below (rose, quiet) same = elim quiet [
  | inl stay ↦ stay.0
  | inr failed ↦ absurd (let more : before.host.failed_waits < after.host.failed_waits = failed.waits.more below in omega (arith, more, same))
]

pub none_left_without_risk : NoneLeftWithoutRisk
none_left_without_risk before after left none = elim left [
  | inl nobody ↦ nobody
  | inr (failed, each) ↦ absurd (let e : false ≡ true = sym none ∙ failed.may in cc)
]

pub none_left_without_fault : NoneLeftWithoutFault
none_left_without_fault before after left below same = elim left [
  | inl nobody ↦ nobody
  | inr (failed, each) ↦ absurd (let more : before.failed_waits < after.failed_waits = failed.waits.more below in omega (arith, more, same))
]

pub update_reads_once : UpdateReadsOnce
update_reads_once u answer old new before after read stamp log s off one h c not_log at then found = scanned_is_not_read u h.events after.past h.reads read stamp log s off one h.once c not_log at then found

pub done_well_stands : DoneWellStands
done_well_stands u answer old new before after i step path apart h makes owes well =
    let (value, clean, holds) = h.done_well i step path makes well in
    let (bytes, e) = out_bytes u.build apart (length u.build.steps) i step path value makes owes clean in
    (bytes, subst (Holds after.now path) e holds)

pub sound_at_exit : SoundAtExit
sound_at_exit u answer old new before after consistent keeps grows records_true same distinct h = record {
  keeps = keeps;
  entry_stood = λ path file at. grows _ (consistent.stands path file (sym (same path) ∙ at));
  records_true = λ off r c. record_grows (making u) before.past after.past r grows (records_true off r c);
  done_well = h.done_well;
  only_outputs = λ path not_log none. h.changed path not_log none ∙ sym (same path);
  distinct = distinct;
}
