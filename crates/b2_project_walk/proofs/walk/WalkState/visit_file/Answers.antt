use Rattle.std.proofs.Common.{Err, sym, subst}
use Rattle.jam_values.specs.FileReadings.{reading_of}
use Rattle.b2_project_walk.specs.declared.fault.LoadFault.TheVariants as faults
use Rattle.b2_project_walk.specs.WalkParts.{stand, found_as, IsNext, Does}
use Rattle.b2_project_walk.specs.Faults.{of_lex}
use Rattle.b2_project_walk.proofs.VisitDoesWhatIsDefined.{is_next, file_too_big, file_has_no_tokens, no_tree_there}
use Rattle.b2_project_walk.proofs.walk.WalkState.visit_file.Goals as goal

pub visit_tree-requires : goal.visit_tree-requires
visit_tree-requires g c =
    subst (λ v. IsNext v c.args.self.now.visits) (sym c.in_ok-visit-in-File.ensures) (is_next c.args.dir.now c.args.path c.args.self.now.visits c.requires)

pub returns-in-TooBig : goal.returns-in-TooBig
returns-in-TooBig g c =
    let a = stand c.args.self.now c.args.turns.now (g.F.Files.outside c.args.files.now) in
    let dir = c.args.dir.now in
    let path = c.args.path in
    subst (λ r. Does (found_as dir (path, reading_of r)) a a (Err (faults.TooBig path c.in-TooBig.size))) (sym c.in-TooBig.is) (file_too_big dir path c.in-TooBig.size a)

pub returns-in-NoTokens : goal.returns-in-NoTokens
returns-in-NoTokens g c =
    let a = stand c.args.self.now c.args.turns.now (g.F.Files.outside c.args.files.now) in
    let dir = c.args.dir.now in
    let path = c.args.path in
    let fault = c.in-NoTokens.fault in
    subst (λ e. Does (found_as dir (path, reading_of c.args.reading)) a a (Err e)) (sym c.lex_fault.ensures)
    (subst (λ r. Does (found_as dir (path, reading_of r)) a a (Err (of_lex path fault))) (sym c.in-NoTokens.is) (file_has_no_tokens dir path fault a))

pub returns-in-NoTree : goal.returns-in-NoTree
returns-in-NoTree g c =
    let a = stand c.args.self.now c.args.turns.now (g.F.Files.outside c.args.files.now) in
    let dir = c.args.dir.now in
    let path = c.args.path in
    no_tree_there dir path c.args.reading c.in-NoTree.line c.in-NoTree.found c.syntax_fault.result a c.in-NoTree.is c.syntax_fault.ensures
