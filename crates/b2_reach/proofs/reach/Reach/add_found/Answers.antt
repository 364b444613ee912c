use Rattle.std.proofs.Common.{sym, subst}
use Rattle.std.specs.List.{Contains}
use Rattle.b2_reach.specs.Reaches.{IsTarget}
use Rattle.b2_reach.proofs.MembersAreAdded.{adds_map}
use Rattle.b2_reach.proofs.reach.Reach.add_found.Goals as goal

pub returns-in-Some-clause-adds : goal.returns-in-Some-clause-adds
returns-in-Some-clause-adds c =
    let f = c.args.sights.now.facts in
    let list = c.args.self.now.list in
    let targets = c.in-Some.found.now in
    adds_map (Contains c.as_slice.result.now) (IsTarget f list c.args.number) c.args.self.now.members c.add_all.new.self.members
    (λ n among. record { targets = targets; found = sym c.in-Some.ensures; among = subst (λ l. Contains l n) c.as_slice.ensures among }) c.add_all.ensures.adds
