use Rattle.std.proofs.Common.{ap}
use Rattle.jam_meaning.specs.Faults.{include, lex, syntax_at, too_big}
use Rattle.jam_meaning.specs.Includes.{in_file}
use Rattle.jam_values.specs.FileReadings.{reading_of}
use Rattle.jam_effects.specs.Including.{read_of}
use Rattle.jam_effects.specs.Spots.{spot_of}
use Rattle.jam_effects.proofs.FilesAreToldAsRead.{read_fault}
use Rattle.jam_effects.proofs.including.statements.Goals as goal

pub returns-in-Missing-clause-tree : goal.returns-in-Missing-clause-tree
returns-in-Missing-clause-tree c =
    read_fault (read_of (reading_of c.args.reading) c.args.path.now (spot_of c.args.at.now)) (spot_of c.args.at.now) (include c.args.path.now) c.missing.result
    (ap (λ r. read_of (reading_of r) c.args.path.now (spot_of c.args.at.now)) c.in-Missing.is) c.missing.ensures

pub returns-in-TooBig-clause-tree : goal.returns-in-TooBig-clause-tree
returns-in-TooBig-clause-tree c =
    read_fault (read_of (reading_of c.args.reading) c.args.path.now (spot_of c.args.at.now)) (in_file c.args.path.now (spot_of c.args.at.now)) (too_big c.args.path.now c.in-TooBig.size) c.too_big.result
    (ap (λ r. read_of (reading_of r) c.args.path.now (spot_of c.args.at.now)) c.in-TooBig.is) c.too_big.ensures

pub returns-in-NoTokens-clause-tree : goal.returns-in-NoTokens-clause-tree
returns-in-NoTokens-clause-tree c =
    read_fault (read_of (reading_of c.args.reading) c.args.path.now (spot_of c.args.at.now)) (in_file c.args.path.now (spot_of c.args.at.now)) (lex c.in-NoTokens.fault) c.lexed.result
    (ap (λ r. read_of (reading_of r) c.args.path.now (spot_of c.args.at.now)) c.in-NoTokens.is) c.lexed.ensures

pub returns-in-NoTree-clause-tree : goal.returns-in-NoTree-clause-tree
returns-in-NoTree-clause-tree c =
    read_fault (read_of (reading_of c.args.reading) c.args.path.now (spot_of c.args.at.now)) (in_file c.args.path.now (spot_of c.args.at.now)) (syntax_at c.in-NoTree.line c.in-NoTree.found) c.fault_in.result
    (ap (λ r. read_of (reading_of r) c.args.path.now (spot_of c.args.at.now)) c.in-NoTree.is) c.fault_in.ensures
