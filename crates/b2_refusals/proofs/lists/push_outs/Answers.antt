use Rattle.std.proofs.Common.{◌++◌, ◌∙◌, ap, string_bytes, codes}
use Rattle.b2_runs.specs.Reports.{first_out}
use Rattle.b2_refusals.proofs.TextsGrowByOneElement.{one_more_at}
use Rattle.b2_refusals.proofs.lists.push_outs.Goals as goal

pub loop-number-preserved : goal.loop-number-preserved
loop-number-preserved c =
    one_more_at (λ number. codes " -> " ++ first_out c.args.steps.now number) c.args.numbers.now c.loop-number.number-index 0 (string_bytes c.args.line.now) _ _ c.loop-number-test.true c.loop-number.invariant
    (c.in_ok-push_both.ensures ∙ ap (λ text. string_bytes c.loop-number.line ++ (codes " -> " ++ text)) c.first_out.ensures)
