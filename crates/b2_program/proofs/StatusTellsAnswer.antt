-- A status tells of which kind the answer is.
use Rattle.std.proofs.Common.{◌≡◌, ◌≤◌, refl, arith}
use Rattle.b2_endings.specs.declared.failed_lists.FailedLists.{FailedLists}
use Rattle.b2_refusals.specs.declared.fault.Fault.{Fault}
use Rattle.b2_top.specs.Statuses.{status_of}
use Rattle.b2_top.specs.declared.answer.Answer.{Answer}
use Rattle.b2_top.specs.declared.answer.Answer.TheVariants as answers

pub status_at_most : (a : Answer) → status_of a ≤ 6
status_at_most answers.Ok = omega arith
status_at_most (answers.Failed lists) = omega arith
status_at_most (answers.Refused fault) = omega arith
status_at_most answers.Usage = omega arith
status_at_most answers.HostFault = omega arith
status_at_most answers.OutOfMemory = omega arith
status_at_most answers.SinkFault = omega arith

pub is_ok : (a : Answer) → status_of a ≡ 0 → a ≡ answers.Ok
is_ok answers.Ok e = refl
is_ok (answers.Failed lists) e = absurd (omega (arith, e))
is_ok (answers.Refused fault) e = absurd (omega (arith, e))
is_ok answers.Usage e = absurd (omega (arith, e))
is_ok answers.HostFault e = absurd (omega (arith, e))
is_ok answers.OutOfMemory e = absurd (omega (arith, e))
is_ok answers.SinkFault e = absurd (omega (arith, e))

pub is_failed : (a : Answer) → status_of a ≡ 1 → (lists : FailedLists) × (a ≡ answers.Failed lists)
is_failed answers.Ok e = absurd (omega (arith, e))
is_failed (answers.Failed lists) e = (lists, refl)
is_failed (answers.Refused fault) e = absurd (omega (arith, e))
is_failed answers.Usage e = absurd (omega (arith, e))
is_failed answers.HostFault e = absurd (omega (arith, e))
is_failed answers.OutOfMemory e = absurd (omega (arith, e))
is_failed answers.SinkFault e = absurd (omega (arith, e))

pub is_refused : (a : Answer) → status_of a ≡ 2 → (fault : Fault) × (a ≡ answers.Refused fault)
is_refused answers.Ok e = absurd (omega (arith, e))
is_refused (answers.Failed lists) e = absurd (omega (arith, e))
is_refused (answers.Refused fault) e = (fault, refl)
is_refused answers.Usage e = absurd (omega (arith, e))
is_refused answers.HostFault e = absurd (omega (arith, e))
is_refused answers.OutOfMemory e = absurd (omega (arith, e))
is_refused answers.SinkFault e = absurd (omega (arith, e))

pub is_usage : (a : Answer) → status_of a ≡ 3 → a ≡ answers.Usage
is_usage answers.Ok e = absurd (omega (arith, e))
is_usage (answers.Failed lists) e = absurd (omega (arith, e))
is_usage (answers.Refused fault) e = absurd (omega (arith, e))
is_usage answers.Usage e = refl
is_usage answers.HostFault e = absurd (omega (arith, e))
is_usage answers.OutOfMemory e = absurd (omega (arith, e))
is_usage answers.SinkFault e = absurd (omega (arith, e))
