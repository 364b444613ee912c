use Rattle.b2_turns.proofs.OutputsAreForgotten.{next_numbered, next_unread, next_forgotten}
use Rattle.b2_turns.proofs.starts.forget_all.Goals as goal

pub forget-requires-clause-number : goal.forget-requires-clause-number
forget-requires-clause-number c = next_numbered c.args.numbers.now c.loop-number.number-index c.args.facts.now c.loop-number.facts c.loop-number-test.true c.loop-number.invariant c.requires.numbered

pub forget-requires-clause-unread : goal.forget-requires-clause-unread
forget-requires-clause-unread c = next_unread c.args.numbers.now c.loop-number.number-index c.args.facts.now c.loop-number.facts c.loop-number-test.true c.loop-number.invariant c.requires.unread

pub loop-number-preserved : goal.loop-number-preserved
loop-number-preserved c =
    let numbers = c.args.numbers.now in
    let i = c.loop-number.number-index in
    let number = next_numbered numbers i c.args.facts.now c.loop-number.facts c.loop-number-test.true c.loop-number.invariant c.requires.numbered in
    next_forgotten numbers i c.args.facts.now c.loop-number.facts c.loop-number-test.true c.loop-number.invariant c.forget.new.self number c.forget.ensures.exact
