use Rattle.std.proofs.Common.{inr, ℕ, List, [], sym}
use Rattle.b2_host.specs.Disks.{Disk}
use Rattle.b2_plan.specs.declared.step.Step.{Step}
use Rattle.b2_plan.specs.Sources.{Build}
use Rattle.b2_facts.specs.Growth.{OfOne}
use Rattle.b2_facts.specs.Truth.{StaysTrue, StaysTrueOf, ScansTell}
use Rattle.b2_facts.proofs.FactsGrow.{learns_equal, true_equal, told_map, told_all}
use Rattle.b2_facts.proofs.BytesAreKept.{scans_after}
use Rattle.b2_facts.proofs.LooksAreKept.{number_file}
use Rattle.b2_facts.proofs.ReadsTell.{line_learns, line_true, line_read, read_scans}
use Rattle.b2_facts.proofs.facts.Facts.scan_standing.Goals as goal

pub returns-in-None-clause-effect : goal.returns-in-None-clause-effect
returns-in-None-clause-effect g c =
    let file = number_file c.args.self.now c.args.number c.requires.number in
    let grown = (c.read_includes.ensures.learns [] []).grows in
    scans_after c.args.self.now c.read_includes.new.self c.args.number c.args.log.now.lines c.path.result.now file.0 c.args.stamp (g.F.Files.outside c.args.files.now) (g.F.Files.outside c.read_includes.new.files) grown c.path.ensures file.1 (c.requires.unread file.0 file.1).stands c.in-None.ensures c.read_includes.result (c.read_includes.ensures.effect c.path.result.now c.path.ensures)

pub returns-in-None-clause-answer : goal.returns-in-None-clause-answer
returns-in-None-clause-answer g c = read_scans (g.F.Files.outside c.args.files.now).disk c.args.log.now.lines c.args.self.now c.read_includes.new.self c.args.number c.read_includes.result c.read_includes.ensures.answer

pub returns-in-None-clause-told : goal.returns-in-None-clause-told
returns-in-None-clause-told g c =
    told_map (g.F.Files.outside c.args.files.now).disk (λ (d : Disk). (steps : List Step) (roots : List (List ℕ)) → StaysTrue steps roots d.now c.args.self.now c.read_includes.new.self) (λ (d : Disk). (steps : List Step) (roots : List (List ℕ)) (b : Build) → ScansTell b d.now c.args.log.now.lines → StaysTrueOf steps roots d.now c.args.self.now c.read_includes.new.self b)
    (λ d h steps roots b tells. h steps roots b) c.read_includes.ensures.told

pub returns-in_err-keep_line-in-Some-clause-learns : goal.returns-in_err-keep_line-in-Some-clause-learns
returns-in_err-keep_line-in-Some-clause-learns g c = λ steps roots. learns_equal steps roots (OfOne c.args.number) c.args.self.now c.keep_line.new.self c.in_err-keep_line-in-Some.ensures.err

pub returns-in_err-keep_line-in-Some-clause-told : goal.returns-in_err-keep_line-in-Some-clause-told
returns-in_err-keep_line-in-Some-clause-told g c = told_all (g.F.Files.outside c.args.files.now).disk (λ (d : Disk). (steps : List Step) (roots : List (List ℕ)) (b : Build) → ScansTell b d.now c.args.log.now.lines → StaysTrueOf steps roots d.now c.args.self.now c.keep_line.new.self b) (λ d steps roots b tells. true_equal steps roots d.now c.args.self.now c.keep_line.new.self c.in_err-keep_line-in-Some.ensures.err b)

pub returns-in_ok-keep_line-in-Some-clause-answer : goal.returns-in_ok-keep_line-in-Some-clause-answer
returns-in_ok-keep_line-in-Some-clause-answer g c = λ path file is. inr (line_read c.args.self.now c.keep_line.new.self c.args.number c.requires.number c.args.log.now.lines c.in-Some.line.now c.args.stamp c.requires.unread c.path.result.now c.path.ensures (sym c.in-Some.ensures) c.in_ok-keep_line-in-Some.ensures.ok path file is)

pub returns-in_ok-keep_line-in-Some-clause-learns : goal.returns-in_ok-keep_line-in-Some-clause-learns
returns-in_ok-keep_line-in-Some-clause-learns g c = line_learns c.args.self.now c.keep_line.new.self c.args.number c.requires.number c.args.log.now.lines c.in-Some.line.now c.args.stamp c.requires.unread c.path.result.now c.path.ensures (sym c.in-Some.ensures) c.in_ok-keep_line-in-Some.ensures.ok

pub returns-in_ok-keep_line-in-Some-clause-told : goal.returns-in_ok-keep_line-in-Some-clause-told
returns-in_ok-keep_line-in-Some-clause-told g c = told_all (g.F.Files.outside c.args.files.now).disk (λ (d : Disk). (steps : List Step) (roots : List (List ℕ)) (b : Build) → ScansTell b d.now
    c.args.log.now.lines → StaysTrueOf steps roots d.now c.args.self.now c.keep_line.new.self b) (λ d steps roots b tells. line_true c.args.self.now c.keep_line.new.self c.args.number c.requires.number c.args.log.now.lines
    c.in-Some.line.now c.args.stamp c.requires.unread c.path.result.now c.path.ensures (sym c.in-Some.ensures) c.in_ok-keep_line-in-Some.ensures.ok d.now steps roots b tells)
