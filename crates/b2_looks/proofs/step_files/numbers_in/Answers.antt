use Rattle.std.proofs.Common.{ℕ, [], ◌∷◌, ◌++◌, ap, ◌∙◌}
use Rattle.b2_looks.specs.Numbers.{number_in}
use Rattle.b2_looks.proofs.FilesAreNumbered.{mapped_more}
use Rattle.b2_looks.proofs.step_files.numbers_in.Goals as goal

pub loop-one-preserved : goal.loop-one-preserved
loop-one-preserved c =
    let item = c.one-item.result in
    c.in_ok-push.ensures.items ∙ ap (λ (n : ℕ). c.loop-one.numbers.items ++ n ∷ []) (ap number_in c.one-item.is)
    ∙ mapped_more number_in c.args.named.now c.loop-one.one-index item c.loop-one.numbers.items c.loop-one-test.true c.loop-one.invariant
