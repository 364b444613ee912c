use Rattle.std.proofs.Common.{[], ◌∷◌, option_map}
use Rattle.jam_scope.specs.Lines.{line, in_each, dotted}
use Rattle.jam_scope.proofs.ParentLinesAlwaysEnd.{found_first, found_later}
use Rattle.jam_scope.proofs.world.finding.find.Goals as goal

pub returns-in-Some : goal.returns-in-Some
returns-in-Some g c =
    let above = line c.args.parents.now.0 c.args.owner.now in
    found_first c.args.table.now.0 (in_each c.args.name.now (c.args.owner.now ∷ above)) (([], c.args.name.now) ∷ dotted c.args.name.now) (c.in-Some.module.now, c.args.name.now)
    (c.in-Some.ensures above (c.lined.ensures c.args.owner.now))

pub returns-in-None : goal.returns-in-None
returns-in-None g c =
    let above = line c.args.parents.now.0 c.args.owner.now in
    found_later c.args.table.now.0 (in_each c.args.name.now (c.args.owner.now ∷ above)) (([], c.args.name.now) ∷ dotted c.args.name.now)
    (option_map (λ found. (found.module.now, found.name.now)) c.beyond.result) (c.in-None.ensures above (c.lined.ensures c.args.owner.now)) c.beyond.ensures
