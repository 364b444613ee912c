use Rattle.std.proofs.Common.{◌≡◌, List, ℕ, ◌-◌, Some, None, get_or, ap, sym, ◌∙◌}
use Rattle.std.specs.FinMap.{get}
use Rattle.b2_plan.specs.declared.step.Step.{Step}
use Rattle.b2_plan.specs.Plans.{step_at}
use Rattle.b2_virtual.specs.Joining.{number_of}
use Rattle.b2_virtual.proofs.MapHoldsExactlyTheOutputs.{none_by_first, same_by_first, other_by_first, in_steps}
use Rattle.b2_virtual.proofs.builder.Builder.find_by_output.Goals as goal

pub returns-in-None : goal.returns-in-None
returns-in-None c =
    let steps : List Step = c.self.inside.steps in
    let none : get c.self.inside.numbers _ ≡ None = ap (get c.self.inside.numbers) (sym c.requires.2) ∙ sym c.get.ensures ∙ sym c.copied.ensures ∙ c.in-None.is in
    sym (ap (λ (l : List Step). number_of l c.args.step.now) (sym c.self.view_is) ∙ none_by_first steps c.self.inside.numbers c.args.step.now c.requires.0 c.self.invariant c.requires.1 none)

pub returns-then-is_same : goal.returns-then-is_same
returns-then-is_same c =
    let steps : List Step = c.self.inside.steps in
    let step : Step = c.args.step.now in
    let other : Step = c.index-as_slice-number.result in
    let i : ℕ = c.in-Some.number in
    let at_first : get c.self.inside.numbers c.args.first.now ≡ Some i = sym c.get.ensures ∙ sym c.copied.ensures ∙ c.in-Some.is in
    let at : step_at steps i ≡ Some other =
    (in_steps steps c.self.inside.numbers c.args.first.now i c.self.invariant at_first).2 other ∙ ap Some (sym (c.index-as_slice-number.is ∙ ap (λ (l : List Step). get_or l (i - 1) other) c.as_slice.ensures)) in
    sym (ap (λ (l : List Step). number_of l step) (sym c.self.view_is)
    ∙ same_by_first steps c.self.inside.numbers step other c.requires.0 i c.self.invariant c.requires.1 (ap (get c.self.inside.numbers) (sym c.requires.2) ∙ at_first) at (sym c.is_same.ensures ∙ c.if-is_same.true))

pub returns-else-is_same : goal.returns-else-is_same
returns-else-is_same c =
    let steps : List Step = c.self.inside.steps in
    let step : Step = c.args.step.now in
    let other : Step = c.index-as_slice-number.result in
    let i : ℕ = c.in-Some.number in
    let at_first : get c.self.inside.numbers c.args.first.now ≡ Some i = sym c.get.ensures ∙ sym c.copied.ensures ∙ c.in-Some.is in
    let at : step_at steps i ≡ Some other =
    (in_steps steps c.self.inside.numbers c.args.first.now i c.self.invariant at_first).2 other ∙ ap Some (sym (c.index-as_slice-number.is ∙ ap (λ (l : List Step). get_or l (i - 1) other) c.as_slice.ensures)) in
    sym (ap (λ (l : List Step). number_of l step) (sym c.self.view_is)
    ∙ other_by_first steps c.self.inside.numbers step other c.requires.0 i c.self.invariant c.requires.1 (ap (get c.self.inside.numbers) (sym c.requires.2) ∙ at_first) at (sym c.is_same.ensures ∙ c.if-is_same.false))
