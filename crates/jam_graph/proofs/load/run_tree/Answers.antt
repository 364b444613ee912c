use Rattle.std.proofs.Common.{sym, ap, subst, ◌∙◌}
use Rattle.jam_grammar.specs.Trees.{whole_tree}
use Rattle.jam_meaning.specs.Laws.{bounds}
use Rattle.jam_meaning.specs.Settings.{is_file}
use Rattle.jam_graph.specs.Loading.{TellsReading}
use Rattle.jam_graph.proofs.FilesLoad.{tree_told, tree_counts, no_frames, leaves_same}
use Rattle.jam_graph.proofs.load.run_tree.Goals as goal

pub returns-in_err-world-clause-leaves : goal.returns-in_err-world-clause-leaves
returns-in_err-world-clause-leaves g c = leaves_same _ _

pub ended_graph-result-requires-clause-frames : goal.ended_graph-result-requires-clause-frames
ended_graph-result-requires-clause-frames g c = no_frames _ (c.run-ended.ensures.frames ∙ ap (λ ws. bounds ws.now.scopes.frames) c.in_ok-world.ensures)

pub ended_graph-result-requires-clause-whole : goal.ended_graph-result-requires-clause-whole
ended_graph-result-requires-clause-whole g c = c.run-ended.ensures.whole

pub returns-in_err-echoes-clause-leaves : goal.returns-in_err-echoes-clause-leaves
returns-in_err-echoes-clause-leaves g c = record {
  turns_fall = c.run-ended.ensures.turns;
  budget = c.run-ended.ensures.budget;
  disk = c.run-ended.ensures.disk;
  children = c.run-ended.ensures.children;
  keeps = c.run-ended.ensures.keeps;
}

pub returns-clause-told : goal.returns-clause-told
returns-clause-told g c =
    let outside = g.F.Files.outside in
    subst (λ e. TellsReading (is_file (whole_tree c.args.tree.now)) (outside c.args.files.now) c.args.path.now c.args.turns.now c.run-ended.new.turns e c.ended_graph-result.result) (sym (c.in_ok-echoes.ensures ∙ c.echoes.ensures))
    (tree_told c.args.path.now (whole_tree c.args.tree.now) (outside c.args.files.now) (outside c.run-ended.new.files) c.args.turns.now c.run-ended.new.turns c.in_ok-world.world c.run-ended.new.world c.new-natives.result c.run-ended.new.natives
    c.in_ok-world.ensures c.new-natives.ensures c.run-ended.result c.ended_graph-result.result c.run-ended.ensures.told c.ended_graph-result.ensures.ends)

pub returns-clause-leaves : goal.returns-clause-leaves
returns-clause-leaves g c = record {
  turns_fall = c.run-ended.ensures.turns;
  budget = c.run-ended.ensures.budget;
  disk = c.run-ended.ensures.disk;
  children = c.run-ended.ensures.children;
  keeps = c.run-ended.ensures.keeps;
}

pub returns-clause-counts : goal.returns-clause-counts
returns-clause-counts g c =
    tree_counts c.args.path.now c.run-ended.new.world c.run-ended.new.natives c.run-ended.result c.ended_graph-result.result (g.F.Files.outside c.args.files.now) (g.F.Files.outside c.run-ended.new.files) c.run-ended.ensures.counts c.ended_graph-result.ensures.ends
