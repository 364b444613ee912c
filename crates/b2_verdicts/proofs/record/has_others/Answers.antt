use Rattle.std.proofs.Common.{sym, ◌∙◌}
use Rattle.std.proofs.lemmas.Bool.{true≢false}
use Rattle.b2_verdicts.proofs.StampsAreCompared.{logged_along, other_found, none_found}
use Rattle.b2_verdicts.proofs.record.has_others.Goals as goal

pub returns-then-is_some-clause-others : goal.returns-then-is_some-clause-others
returns-then-is_some-clause-others c = λ e both. other_found c.args.facts.now c.as_slice.result.now c.as_slice-2.result.now c.first_other.result (sym c.is_some.ensures ∙ e) c.first_other.ensures (logged_along c.args.facts.now c.args.last.now.outs c.as_slice.result.now c.args.numbers.now.outs c.as_slice-2.result.now (sym c.as_slice.ensures) (sym c.as_slice-2.ensures) both.0)

pub returns-then-is_some-clause-logged : goal.returns-then-is_some-clause-logged
returns-then-is_some-clause-logged c = λ e. absurd (true≢false (sym c.if-is_some.true ∙ e))

pub returns-else-is_some-clause-others : goal.returns-else-is_some-clause-others
returns-else-is_some-clause-others c = λ e both. other_found c.args.facts.now c.as_slice-else-is_some.result.now c.as_slice-else-is_some-2.result.now c.first_other-else-is_some.result (sym c.is_some-else-is_some.ensures ∙ e) c.first_other-else-is_some.ensures (logged_along c.args.facts.now c.args.last.now.ins c.as_slice-else-is_some.result.now c.args.numbers.now.ins c.as_slice-else-is_some-2.result.now (sym c.as_slice-else-is_some.ensures) (sym c.as_slice-else-is_some-2.ensures) both.1)

pub returns-else-is_some-clause-logged : goal.returns-else-is_some-clause-logged
returns-else-is_some-clause-logged c = λ e. (
  logged_along c.args.facts.now c.as_slice.result.now c.args.last.now.outs c.as_slice-2.result.now c.args.numbers.now.outs c.as_slice.ensures c.as_slice-2.ensures (none_found c.args.facts.now c.as_slice.result.now c.as_slice-2.result.now c.first_other.result (sym c.is_some.ensures ∙ c.if-is_some.false) c.first_other.ensures),
  logged_along c.args.facts.now c.as_slice-else-is_some.result.now c.args.last.now.ins c.as_slice-else-is_some-2.result.now c.args.numbers.now.ins c.as_slice-else-is_some.ensures c.as_slice-else-is_some-2.ensures (none_found c.args.facts.now c.as_slice-else-is_some.result.now c.as_slice-else-is_some-2.result.now c.first_other-else-is_some.result (sym c.is_some-else-is_some.ensures ∙ e) c.first_other-else-is_some.ensures),
)
