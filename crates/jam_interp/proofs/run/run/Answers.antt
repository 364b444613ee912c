use Rattle.std.proofs.Common.{drop, Ok, Err, refl, sym, ap, ◌∙◌, subst}
use Rattle.jam_grammar.specs.Trees.{whole_tree, stmts_tree}
use Rattle.jam_effects.specs.Machines.{machine}
use Rattle.jam_effects.specs.Does.{Does}
use Rattle.jam_effects.specs.Views.{flow_of}
use Rattle.jam_interp.specs.FunctionParts.{stmts_at}
use Rattle.jam_effects.proofs.WhatEachKeepsAllKeep.{may_leave}
use Rattle.jam_interp.proofs.CodeDoesWhatTreesDo.{block_holds}
use Rattle.jam_effects.proofs.FramesCloseEvenAfterFaults.{all_frames}
use Rattle.jam_interp.proofs.MarkedWorldsComeBack.{file_runs, run_ends, run_fails}
use Rattle.jam_interp.proofs.run.run.Goals as goal

pub leave-requires : goal.leave-requires
leave-requires g c = may_leave _ _ c.stmts-ended.ensures.stays c.in_ok-enter_here.ensures.newer

pub returns-in-Ok : goal.returns-in-Ok
returns-in-Ok g c =
    let before = machine c.args.world.now c.args.turns.now (g.N.Natives.kept c.args.natives.now) (g.N.Natives.meaning c.args.natives.now) (g.F.Files.outside c.args.files.now) in
    let ended = machine c.stmts-ended.new.world c.stmts-ended.new.turns (g.N.Natives.kept c.stmts-ended.new.natives) (g.N.Natives.meaning c.stmts-ended.new.natives) (g.F.Files.outside c.stmts-ended.new.files) in
    let does = file_runs c.args.path.now (whole_tree c.args.tree.now) c.as_slice.result.now 256 before c.enter_here.new.world ended c.leave.new.self (Ok c.in-Ok.field-0) c.in_ok-enter_here.ensures.ok refl
    (ap stmts_tree c.as_slice.ensures.value ∙ sym (block_holds c.args.tree.now.block))
    (subst (λ path. Does flow_of (stmts_at c.as_slice.result.now path 256) (record before { worlds = c.enter_here.new.world }) ended (Ok c.in-Ok.field-0)) c.as_text.ensures.value c.in-Ok.ensures) c.leave.ensures in
    record {
      told = run_ends c.args.path.now (whole_tree c.args.tree.now) before (record ended { worlds = c.leave.new.self }) c.in-Ok.field-0 does;
      turns = does.stays.turns;
      budget = does.stays.budget;
      frames = all_frames before c.enter_here.new.world ended c.leave.new.self (ap (λ ws. drop 1 ws.now.scopes.frames) c.in_ok-enter_here.ensures.ok) c.stmts-ended.ensures.stays c.leave.ensures;
      step = does.stays.step;
      marked = does.stays.marks;
      meaning = does.stays.meaning;
      disk = does.stays.disk;
      children = does.stays.children;
      keeps = does.stays.keeps;
      counts = does.counts;
      whole = tt;
      took = tt;
    }

pub returns : goal.returns
returns g c =
    let before = machine c.args.world.now c.args.turns.now (g.N.Natives.kept c.args.natives.now) (g.N.Natives.meaning c.args.natives.now) (g.F.Files.outside c.args.files.now) in
    let ended = machine c.stmts-ended.new.world c.stmts-ended.new.turns (g.N.Natives.kept c.stmts-ended.new.natives) (g.N.Natives.meaning c.stmts-ended.new.natives) (g.F.Files.outside c.stmts-ended.new.files) in
    let does = file_runs c.args.path.now (whole_tree c.args.tree.now) c.as_slice.result.now 256 before c.enter_here.new.world ended c.leave.new.self (Err c.in-Err.fault) c.in_ok-enter_here.ensures.ok refl
    (ap stmts_tree c.as_slice.ensures.value ∙ sym (block_holds c.args.tree.now.block))
    (subst (λ path. Does flow_of (stmts_at c.as_slice.result.now path 256) (record before { worlds = c.enter_here.new.world }) ended (Err c.in-Err.fault)) c.as_text.ensures.value c.in-Err.ensures) c.leave.ensures in
    record {
      told = run_fails c.args.path.now (whole_tree c.args.tree.now) before (record ended { worlds = c.leave.new.self }) c.in-Err.fault does;
      turns = does.stays.turns;
      budget = does.stays.budget;
      frames = all_frames before c.enter_here.new.world ended c.leave.new.self (ap (λ ws. drop 1 ws.now.scopes.frames) c.in_ok-enter_here.ensures.ok) c.stmts-ended.ensures.stays c.leave.ensures;
      step = does.stays.step;
      marked = does.stays.marks;
      meaning = does.stays.meaning;
      disk = does.stays.disk;
      children = does.stays.children;
      keeps = does.stays.keeps;
      counts = does.counts;
      whole = does.whole;
      took = does.took;
    }
