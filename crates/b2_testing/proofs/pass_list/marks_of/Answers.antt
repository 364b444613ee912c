use Rattle.std.proofs.Common.{ℕ, List, take, sym, subst}
use Rattle.std.proofs.lemmas.List.{take_more}
use Rattle.b2_testing.specs.Leading.{AreMarks}
use Rattle.b2_testing.proofs.pass_list.marks_of.Goals as goal

pub loop-number-preserved : goal.loop-number-preserved
loop-number-preserved c =
    let numbers : List ℕ = c.args.numbers.now in
    subst (λ (xs : List ℕ). AreMarks c.args.size xs c.mark.new.self) (sym (take_more c.args.numbers.now c.loop-number.number-index 0 c.loop-number-test.true)) (c.in_ok-mark.ensures c.args.size (take c.loop-number.number-index numbers) c.loop-number.invariant)
