use Rattle.std.proofs.Common.{true, false}
use Rattle.b2_project_walk.proofs.FirstFileThereIsFound.{in_roots, seen_below, seen_if, looks_nowhere}
use Rattle.b2_project_walk.proofs.project_file.read_seen.Goals as goal

pub returns-then-is_below_any-clause-told : goal.returns-then-is_below_any-clause-told
returns-then-is_below_any-clause-told g c =
    let w = c.args.world.now.now in
    let path = c.args.path.now in
    seen_below (g.F.Files.outside c.args.files.now).disk w path (in_roots w path c.roots.result.now c.is_below_any.result true c.roots.ensures.same c.is_below_any.ensures c.if-is_below_any.true)

pub returns-then-is_below_any-clause-effect : goal.returns-then-is_below_any-clause-effect
returns-then-is_below_any-clause-effect g c = looks_nowhere _ (g.F.Files.outside c.args.files.now)

pub returns-clause-told : goal.returns-clause-told
returns-clause-told g c =
    let w = c.args.world.now.now in
    let path = c.args.path.now in
    seen_if (g.F.Files.outside c.args.files.now).disk w path c.read.result (in_roots w path c.roots.result.now c.is_below_any.result false c.roots.ensures.same c.is_below_any.ensures c.if-is_below_any.false) c.read.ensures.told
