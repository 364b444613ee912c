use Rattle.std.proofs.Common.{Err, sym, subst}
use Rattle.jam_values.specs.declared.files.FileReading.TheVariants as readings
use Rattle.jam_values.specs.FileReadings.{reading_of}
use Rattle.b2_project_walk.specs.WalkParts.{stand, reads_text, RunsBeside}
use Rattle.b2_project_walk.specs.declared.fault.LoadFault.TheVariants as faults
use Rattle.b2_project_walk.proofs.TextRunsBesideProjects.{text_read, text_too_big, text_has_no_tree, text_has_no_tokens}
use Rattle.b2_project_walk.proofs.walk.WalkState.run_reading.Goals as goal

pub returns-in-TooBig-clause-ran : goal.returns-in-TooBig-clause-ran
returns-in-TooBig-clause-ran g c =
    let a = stand c.args.self.now c.args.turns.now (g.F.Files.outside c.args.files.now) in
    text_read c.args.path c.args.reading (readings.TooBig c.in-TooBig.size) a a (Err (faults.TooBig c.args.path c.in-TooBig.size)) c.in-TooBig.is (text_too_big c.args.path c.in-TooBig.size a)

pub returns-in-NoTokens-clause-ran : goal.returns-in-NoTokens-clause-ran
returns-in-NoTokens-clause-ran g c =
    let a = stand c.args.self.now c.args.turns.now (g.F.Files.outside c.args.files.now) in
    subst (λ e. RunsBeside (reads_text c.args.path (reading_of c.args.reading)) a a (Err e)) (sym c.lex_fault.ensures)
    (text_read c.args.path c.args.reading (readings.NoTokens c.in-NoTokens.fault) a a _ c.in-NoTokens.is (text_has_no_tokens c.args.path c.in-NoTokens.fault a))

pub returns-in-NoTree-clause-ran : goal.returns-in-NoTree-clause-ran
returns-in-NoTree-clause-ran g c =
    let a = stand c.args.self.now c.args.turns.now (g.F.Files.outside c.args.files.now) in
    subst (λ e. RunsBeside (reads_text c.args.path (reading_of c.args.reading)) a a (Err e)) (sym c.syntax_fault.ensures)
    (text_read c.args.path c.args.reading (readings.NoTree c.in-NoTree.line c.in-NoTree.found) a a _ c.in-NoTree.is (text_has_no_tree c.args.path c.in-NoTree.line c.in-NoTree.found a))
