use Rattle.std.proofs.Common.{ℕ, get_or, ap, ◌∙◌, arith, length}
use Rattle.std.proofs.lemmas.List.Elements.{Contains-get_or}
use Rattle.b2_sched.specs.Searches.{found_too, pending_too}
use Rattle.b2_sched.proofs.SearchFindsAllSkipped.{found_more}
use Rattle.b2_sched.proofs.skips.SkipSearch.find_all.Goals as goal

pub find-requires-clause-within : goal.find-requires-clause-within
find-requires-clause-within c =
    let within = c.requires.within (get_or c.args.numbers.now c.loop-number.number-index 0) (Contains-get_or c.args.numbers.now c.loop-number.number-index 0 c.loop-number-test.true) in
    omega (arith, within, ap length c.loop-number.invariant.left)

pub loop-number-preserved : goal.loop-number-preserved
loop-number-preserved c =
    let k : ℕ = get_or c.args.numbers.now c.loop-number.number-index 0 in
    let now = c.loop-number.self.found.items in
    let after = c.loop-number.self.pending.items in
    record {
      left = c.in_ok-find.ensures.left ∙ c.loop-number.invariant.left;
      found = found_more c.args.self.now.left.items c.args.numbers.now c.loop-number.number-index c.args.self.now.found.items c.args.self.now.pending.items now after c.find.new.self.found.items c.find.new.self.pending.items
          c.loop-number-test.true c.requires.size (c.requires.within k (Contains-get_or c.args.numbers.now c.loop-number.number-index 0 c.loop-number-test.true))
          (c.in_ok-find.ensures.found ∙ ap (λ l. found_too l now k) c.loop-number.invariant.left) (c.in_ok-find.ensures.pending ∙ ap (λ l. pending_too l now after k) c.loop-number.invariant.left) c.loop-number.invariant.found;
    }
