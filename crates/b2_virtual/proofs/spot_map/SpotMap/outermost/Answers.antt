use Rattle.std.proofs.Common.{List, ℕ, sym, subst}
use Rattle.b2_virtual.specs.Spots.{Numbers}
use Rattle.b2_virtual.proofs.OutermostSpotsCoverTheOthers.{Entries, Sifting, sifting_starts, next_is_new, sifting_goes_on}
use Rattle.b2_virtual.proofs.spot_map.SpotMap.outermost.Goals as goal

pub loop-text-init : goal.loop-text-init
loop-text-init c =
    let given = c.into_iter-text-iterator.ensures.into_iter_gives in
    let every : Numbers = c.args.self.now in
    let kept : Numbers = c.new-made.result in
    subst (λ (l : Entries). Sifting every kept l) (sym given.0) (sifting_starts c.self.inside.numbers.entries every kept c.self.view_is c.new-made.ensures given.5 given.6)

pub insert_outermost-requires-clause-none : goal.insert_outermost-requires-clause-none
insert_outermost-requires-clause-none c =
    let x : List ℕ × ℕ = (c.in-Some.text.now, c.in-Some.number.now) in
    next_is_new c.args.self.now c.loop-text.made x c.next.new.self (subst (λ (l : Entries). Sifting c.args.self.now c.loop-text.made l) c.in-Some.ensures.steps c.loop-text.invariant)

pub loop-text-preserved : goal.loop-text-preserved
loop-text-preserved c =
    let x : List ℕ × ℕ = (c.in-Some.text.now, c.in-Some.number.now) in
    sifting_goes_on c.args.self.now c.loop-text.made c.insert_outermost.new.self x c.loop-text.text-iterator c.next.new.self c.in-Some.ensures.steps c.loop-text.invariant c.in_ok-insert_outermost.ensures
