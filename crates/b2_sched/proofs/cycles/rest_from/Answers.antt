use Rattle.std.proofs.Common.{List, ℕ, ◌-◌, length, drop, sym, ◌∙◌, subst, arith, length-drop}
use Rattle.std.proofs.lemmas.List.{take_all}
use Rattle.b2_sched.specs.Cycles.{IsRestFrom}
use Rattle.b2_sched.proofs.WalkComesToTheCycle.{cut_at, place_within}
use Rattle.b2_sched.proofs.cycles.rest_from.Goals as goal

pub returns : goal.returns
returns c =
    let within = place_within c.args.path.now c.loop-place.place c.args.back c.requires c.loop-place.invariant in
    subst (λ (list : List ℕ). IsRestFrom c.args.path.now c.args.back list) (sym (c.in_ok-from_slice.ensures.items ∙ take_all (length c.args.path.now - c.loop-place.place) (drop c.loop-place.place c.args.path.now) (omega (arith, length-drop {A = ℕ})))) (cut_at c.args.path.now c.loop-place.place c.args.back within c.loop-place-test.false)
