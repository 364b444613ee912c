use Rattle.std.proofs.Common.{◌<◌, ◌+◌, inr, subst, arith, ◌∙◌, ap}
use Rattle.jam_expand.specs.Limits.{limit}
use Rattle.jam_expand.proofs.SumTellsIfTooLarge.{sum_small, too_long}
use Rattle.jam_expand.proofs.limit.LimitedList.fault_with.Goals as goal

pub overflow_add-self-inside : goal.overflow_add-self-inside
overflow_add-self-inside c = omega (arith, sum_small c.self.inside.texts c.self.inside.sum c.self.invariant)

pub returns-in-Some : goal.returns-in-Some
returns-in-Some c = λ text e. inr (rw (c.self.view_is) at (too_long c.self.inside.texts text c.self.inside.sum c.in-Some.bytes c.self.invariant (subst (λ n. limit < n) e c.requires) (c.in-Some.ensures.1 ∙ ap (λ n. n + (c.self.inside.sum + 1)) e)))
