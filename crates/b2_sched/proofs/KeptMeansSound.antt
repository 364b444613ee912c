-- What all calls keep of a scheduler has each part of what it promises to its callers.
use Rattle.std.proofs.Common.{ℕ, Bool, List}
use Rattle.b2_sched.specs.Schedules.{Schedule}
use Rattle.b2_sched.specs.Keeping.{IsKept}
use Rattle.b2_sched.specs.Sound.{IsSound}
use Rattle.b2_sched.proofs.ChangesKeepTheInvariant.{asked_if_needed, step_if_asked, asked_if_judged}

-- what a scheduler keeps makes it sound
pub sound_if_kept : (s : Schedule) (starts : List Bool) (count : ℕ) → IsKept s starts count → IsSound s
sound_if_kept s starts count is = record {
  dependents_size = is.dependents_size;
  lacking_size = is.lacking_size;
  looks_size = is.looks_size;
  request = is.request;
  steps = λ i needed. step_if_asked s starts count is i (asked_if_needed s i needed);
  looks = λ i h. (is.needed i (is.looks i h).0, (is.looks i h).1);
  judged = λ i step_is judged. is.needed i (asked_if_judged s starts count i is step_is judged);
}
