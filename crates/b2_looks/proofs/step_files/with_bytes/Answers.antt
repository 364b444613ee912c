use Rattle.std.proofs.Common.{◌≤◌, length, get_or, refl, ap, ◌∙◌, cond, ◌++◌, ◌∷◌, [], arith}
use Rattle.std.proofs.lemmas.List.Elements.{Contains-get_or}
use Rattle.b2_looks.specs.Numbers.{has_bytes}
use Rattle.b2_looks.proofs.FilesAreNumbered.{kept_more, kept_all}
use Rattle.b2_looks.proofs.step_files.with_bytes.Goals as goal

pub has_bytes-requires-clause-number : goal.has_bytes-requires-clause-number
has_bytes-requires-clause-number c = c.requires.numbers (get_or c.args.order.now c.loop-number.number-index 0) (Contains-get_or c.args.order.now c.loop-number.number-index 0 c.loop-number-test.true)

pub loop-number-preserved : goal.loop-number-preserved
loop-number-preserved c =
    let number = get_or c.args.order.now c.loop-number.number-index 0 in
    let ins = c.loop-number.ins in
    kept_more (has_bytes c.args.plan.now.steps c.args.facts.now) c.args.order.now c.loop-number.number-index 0 number ins c.push_if.new.numbers c.loop-number-test.true refl
    (c.in_ok-push_if.ensures ∙ ap (λ b. cond b (ins ++ number ∷ []) ins) c.has_bytes.ensures) c.loop-number.invariant

pub returns : goal.returns
returns c =
    let past : length c.args.order.now ≤ c.loop-number.number-index = omega (arith, c.loop-number-test.false) in
    kept_all (has_bytes c.args.plan.now.steps c.args.facts.now) c.args.order.now c.loop-number.number-index c.loop-number.ins past c.loop-number.invariant
