use Rattle.std.proofs.Common.{reverse}
use Rattle.b2_generate.specs.Machine.{standing_of}
use Rattle.b2_generate.specs.OpenTargets.{under}
use Rattle.b2_generate.proofs.EarlyExitGivesTheFault.{exit_is, none_made}
use Rattle.b2_generate.proofs.NodeIsTakenOrClashes.{takes_node, clashes_node, added, conflict_out}
use Rattle.b2_generate.proofs.taking.take.Goals as goal

pub add-requires : goal.add-requires
add-requires g c = c.requires.kept.stand.is_set

pub returns-in_err-found-clause-taken : goal.returns-in_err-found-clause-taken
returns-in_err-found-clause-taken g c = none_made c.from_residual.result _ _ (exit_is c.from_residual.result _ c.from_residual.ensures.1)

pub returns-in_err-found-clause-clash : goal.returns-in_err-found-clause-clash
returns-in_err-found-clause-clash g c = conflict_out c.args.index.now c.args.frame.now.name _ c.from_residual.result (exit_is c.from_residual.result _ c.from_residual.ensures.1)

pub returns-in_err-conflict_fault-in-Some-clause-taken : goal.returns-in_err-conflict_fault-in-Some-clause-taken
returns-in_err-conflict_fault-in-Some-clause-taken g c =
    none_made c.from_residual-in_err-conflict_fault-in-Some.result _ _ (exit_is c.from_residual-in_err-conflict_fault-in-Some.result _ c.from_residual-in_err-conflict_fault-in-Some.ensures.1)

pub returns-in_err-conflict_fault-in-Some-clause-clash : goal.returns-in_err-conflict_fault-in-Some-clause-clash
returns-in_err-conflict_fault-in-Some-clause-clash g c =
    conflict_out c.args.index.now c.args.frame.now.name _ c.from_residual-in_err-conflict_fault-in-Some.result
    (exit_is c.from_residual-in_err-conflict_fault-in-Some.result _ c.from_residual-in_err-conflict_fault-in-Some.ensures.1)

pub returns-in_err-note-in-None-clause-taken : goal.returns-in_err-note-in-None-clause-taken
returns-in_err-note-in-None-clause-taken g c =
    none_made c.from_residual-in_err-note-in-None.result _ _ (exit_is c.from_residual-in_err-note-in-None.result _ c.from_residual-in_err-note-in-None.ensures.1)

pub returns-in_err-note-in-None-clause-clash : goal.returns-in_err-note-in-None-clause-clash
returns-in_err-note-in-None-clause-clash g c =
    conflict_out c.args.index.now c.args.frame.now.name _ c.from_residual-in_err-note-in-None.result (exit_is c.from_residual-in_err-note-in-None.result _ c.from_residual-in_err-note-in-None.ensures.1)

pub returns-in_ok-conflict_fault-in-Some-clause-clash : goal.returns-in_ok-conflict_fault-in-Some-clause-clash
returns-in_ok-conflict_fault-in-Some-clause-clash g c =
    let n = c.index-nodes-place.result in
    clashes_node c.args.index.now c.args.nodes.now c.args.place c.args.frame.now n c.add.new.self c.in-Some.found c.in_ok-conflict_fault-in-Some.field-0 c.requires.there c.index-nodes-place.is
    (added c.args.index.now c.args.frame.now (reverse c.args.nodes.now) n.name n.usage c.add.new.self c.add.result c.in_ok-found.field-0 _
    (c.add.ensures c.args.frame.now.chosen.target.now (under (standing_of (reverse c.args.nodes.now) c.args.frame.now)) c.requires.kept.stand) c.in_ok-found.was c.in-Some.is)
    c.in_ok-conflict_fault-in-Some.ensures

pub returns-in_ok-note-in-None-clause-taken : goal.returns-in_ok-note-in-None-clause-taken
returns-in_ok-note-in-None-clause-taken g c =
    let n = c.index-nodes-place.result in
    takes_node c.args.index.now c.args.nodes.now c.args.place c.args.frame.now c.note.new.frame n c.add.new.self c.requires.kept c.requires.there c.index-nodes-place.is
    (added c.args.index.now c.args.frame.now (reverse c.args.nodes.now) n.name n.usage c.add.new.self c.add.result c.in_ok-found.field-0 _
    (c.add.ensures c.args.frame.now.chosen.target.now (under (standing_of (reverse c.args.nodes.now) c.args.frame.now)) c.requires.kept.stand) c.in_ok-found.was c.in-None.is)
    c.in_ok-note-in-None.ensures.notes
