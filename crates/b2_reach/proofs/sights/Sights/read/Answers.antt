use Rattle.std.proofs.Common.{◌∙◌, [], ◌∷◌, Ok, Err, ap}
use Rattle.std.proofs.lemmas.Result.{err_from_is_err_and}
use Rattle.b2_reach.specs.Files.{IsMakerOf}
use Rattle.b2_reach.proofs.GrowthComposes.{grows_err_as, grows_ok}
use Rattle.b2_reach.proofs.ReachGrows.{number_grows, list_grows}
use Rattle.b2_reach.proofs.ScansAreNoted.{scan_then}
use Rattle.b2_reach.proofs.sights.Sights.read.Goals as goal

pub returns-in_err-scan-clause-grows : goal.returns-in_err-scan-clause-grows
returns-in_err-scan-clause-grows g c =
    let (y, e, q) = err_from_is_err_and c.from_residual.result c.from_residual.ensures.1 in
    let stop = c.in_err-scan.field-0.0 in
    grows_err_as stop c.from_residual.result (e ∙ ap Err q) (c.in_err-scan.ensures.grows c.args.plan.now.steps c.args.plan.now.roots c.requires.at_hand)

pub find-requires-clause-list : goal.find-requires-clause-list
find-requires-clause-list g c =
    list_grows c.args.self.now.facts c.scan.new.self.facts c.args.list (c.scan.ensures.grows c.args.plan.now.steps c.args.plan.now.roots c.requires.at_hand).learns.grows c.requires.list

pub find-requires-clause-number : goal.find-requires-clause-number
find-requires-clause-number g c =
    number_grows c.args.self.now.facts c.scan.new.self.facts c.args.number (c.scan.ensures.grows c.args.plan.now.steps c.args.plan.now.roots c.requires.at_hand).learns.grows c.requires.number

pub returns-in_err-find-clause-grows : goal.returns-in_err-find-clause-grows
returns-in_err-find-clause-grows g c =
    let (y, e, q) = err_from_is_err_and c.from_residual-in_err-find.result c.from_residual-in_err-find.ensures.1 in
    let s = c.args.self.now in
    let (file, at, scanned) = c.requires.known in
    let stop = c.in_err-find.field-0.0 in
    grows_err_as {T = Unit {0}} stop c.from_residual-in_err-find.result (e ∙ ap Err q)
    (scan_then {S = Unit {0}} c.args.plan.now.steps c.args.plan.now.roots s c.scan.new.self c.find.new.self c.args.number file (g.F.Files.outside c.args.files.now) (g.F.Files.outside c.scan.new.files) (g.F.Files.outside c.find.new.files) c.in_ok-scan.field-0 (Err stop) at
    (c.in_ok-scan.ensures.grows c.args.plan.now.steps c.args.plan.now.roots c.requires.at_hand) (c.in_err-find.ensures.grows c.args.notes))

pub returns-in_ok-find-clause-grows : goal.returns-in_ok-find-clause-grows
returns-in_ok-find-clause-grows g c =
    let s = c.args.self.now in
    let (file, at, scanned) = c.requires.known in
    scan_then c.args.plan.now.steps c.args.plan.now.roots s c.scan.new.self c.find.new.self c.args.number file (g.F.Files.outside c.args.files.now) (g.F.Files.outside c.scan.new.files) (g.F.Files.outside c.find.new.files) c.in_ok-scan.field-0 (Ok tt) at
    (c.in_ok-scan.ensures.grows c.args.plan.now.steps c.args.plan.now.roots c.requires.at_hand) (c.in_ok-find.ensures.grows c.args.notes)

pub returns-else-branch-clause-grows : goal.returns-else-branch-clause-grows
returns-else-branch-clause-grows g c =
    let s = c.args.self.now in
    grows_ok c.args.plan.now.steps c.args.plan.now.roots (IsMakerOf s.facts c.args.number) (c.args.number ∷ []) s c.scan.new.self (g.F.Files.outside c.args.files.now) (g.F.Files.outside c.scan.new.files) c.in_ok-scan.field-0 tt
    (c.in_ok-scan.ensures.grows c.args.plan.now.steps c.args.plan.now.roots c.requires.at_hand)
