use Rattle.std.proofs.Common.{◌≡◌, ℕ, ◌<◌, List, false, length, get_or, set, sym, ◌∙◌, subst, arith, true}
use Rattle.std.proofs.lemmas.List.{get_or_default}
use Rattle.b2_sched.specs.Cycles.{IsPathTo, IsRestFrom}
use Rattle.b2_sched.proofs.WalkComesToTheCycle.{path_goes_on, path_ends}
use Rattle.b2_sched.proofs.cycles.cycle_from.Goals as goal

pub loop-seen-preserved : goal.loop-seen-preserved
loop-seen-preserved c =
    let within : c.loop-seen.at < length c.loop-seen.seen.items = omega (arith, c.loop-seen.invariant.size, c.loop-seen.invariant.within) in
    let fresh : get_or c.loop-seen.seen.items c.loop-seen.at false ≡ false = get_or_default c.loop-seen.seen.items c.loop-seen.at false c.index.result.now within ∙ sym c.index.ensures ∙ c.loop-seen-test.true in
    subst (λ (path : List ℕ). IsPathTo c.args.next.now c.args.first path (get_or c.args.next.now c.loop-seen.at 0) (set c.loop-seen.seen.items c.loop-seen.at true)) (sym c.in_ok-push.ensures.items)
    (path_goes_on c.args.next.now c.args.first c.loop-seen.path.items c.loop-seen.at c.loop-seen.seen.items c.requires.within fresh c.loop-seen.invariant)

pub returns : goal.returns
returns c =
    let within : c.loop-seen.at < length c.loop-seen.seen.items = omega (arith, c.loop-seen.invariant.size, c.loop-seen.invariant.within) in
    let seen : get_or c.loop-seen.seen.items c.loop-seen.at false ≡ true = get_or_default c.loop-seen.seen.items c.loop-seen.at false c.index.result.now within ∙ sym c.index.ensures ∙ c.loop-seen-test.false in
    path_ends c.args.next.now c.args.first c.loop-seen.path.items c.loop-seen.at c.loop-seen.seen.items c.in_ok-cycle.cycle.items c.loop-seen.invariant seen
    (subst (λ (path : List ℕ). IsRestFrom path c.loop-seen.at c.in_ok-cycle.cycle.items) c.deref.ensures.value c.in_ok-cycle.ensures)
