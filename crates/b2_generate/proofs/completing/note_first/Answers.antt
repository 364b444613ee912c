use Rattle.std.proofs.Common.{ap, sym, ◌∙◌}
use Rattle.std.specs.Prelude.{unwrap_or}
use Rattle.std.specs.FinMap as finite
use Rattle.b2_generate.proofs.NewNodeIsDatedRightly.{noted_before, noted_now}
use Rattle.b2_generate.proofs.completing.note_first.Goals as goal

pub returns-in-Some-clause-first : goal.returns-in-Some-clause-first
returns-in-Some-clause-first c = sym (ap (λ o. unwrap_or o c.args.place) (sym c.get.ensures ∙ sym c.copied.ensures ∙ c.in-Some.is))

pub returns-in-Some-clause-firsts : goal.returns-in-Some-clause-firsts
returns-in-Some-clause-firsts c = noted_before c.args.firsts.now c.args.name.now c.args.place c.in-Some.first (sym c.get.ensures ∙ sym c.copied.ensures ∙ c.in-Some.is)

pub returns-in_ok-insert-in-None-clause-first : goal.returns-in_ok-insert-in-None-clause-first
returns-in_ok-insert-in-None-clause-first c = sym (ap (λ o. unwrap_or o c.args.place) (sym c.get.ensures ∙ sym c.copied.ensures ∙ c.in-None.is))

pub returns-in_ok-insert-in-None-clause-firsts : goal.returns-in_ok-insert-in-None-clause-firsts
returns-in_ok-insert-in-None-clause-firsts c = λ other.
    ap (λ m. finite.get m other) c.in_ok-insert-in-None.ensures.given ∙ noted_now c.args.firsts.now c.args.name.now c.args.place (sym c.get.ensures ∙ sym c.copied.ensures ∙ c.in-None.is) other
