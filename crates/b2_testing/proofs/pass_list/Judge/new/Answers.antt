use Rattle.std.proofs.Common.{◌+◌, length, refl, ap}
use Rattle.b2_testing.proofs.LeadingIsReached.{first_within, all_within, made_judge}
use Rattle.b2_testing.proofs.pass_list.Judge.new.Goals as goal

pub reached-requires-clause-first : goal.reached-requires-clause-first
reached-requires-clause-first c =
    first_within c.args.plan.now.steps c.as_slice-2.result.now c.as_slice-4.result.now c.as_slice-5.result.now c.in_ok-dependents.dependents.items _ c.in_ok-failed.failed (ap (λ n. n + 1) (ap length c.as_slice.ensures)) c.in_ok-failed.ensures c.as_slice-4.ensures.value c.as_slice-5.ensures.value c.in_ok-dependents.ensures

pub reached-requires-clause-within : goal.reached-requires-clause-within
reached-requires-clause-within c = all_within c.args.plan.now.steps c.as_slice-5.result.now c.in_ok-dependents.dependents.items c.as_slice-5.ensures.value c.in_ok-dependents.ensures

pub returns : goal.returns
returns c =
    made_judge c.args.plan.now.steps c.args.plan.now.roots c.args.lists.now c.as_slice-2.result.now c.as_slice-3.result.now c.as_slice-4.result.now c.as_slice-5.result.now c.in_ok-dependents.dependents.items _ _ c.requires (ap (λ n. n + 1) (ap length c.as_slice.ensures))
    refl c.in_ok-failed.ensures c.in_ok-skipped.ensures c.as_slice-2.ensures c.as_slice-3.ensures c.as_slice-4.ensures.value c.as_slice-5.ensures.value c.in_ok-dependents.ensures c.in_ok-led.ensures.marks
