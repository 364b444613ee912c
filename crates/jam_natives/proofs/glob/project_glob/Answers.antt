use Rattle.std.proofs.Common.{◌∙◌}
use Rattle.jam_natives.proofs.SearchesFindNameByName.{project_step, project_done}
use Rattle.jam_natives.proofs.glob.project_glob.Goals as goal

pub loop-pattern-preserved : goal.loop-pattern-preserved
loop-pattern-preserved g c = record {
  files = c.in_ok-add_globbed.ensures.files ∙ c.loop-pattern.invariant.files;
  so_far = project_step (g.F.Files.outside c.args.files.now) (g.F.Files.outside c.loop-pattern.files) c.args.roots.now c.args.place.now c.args.excluded.now c.args.patterns.now c.loop-pattern.pattern-index c.pattern-item.result _ _
      c.loop-pattern-test.true c.pattern-item.is c.loop-pattern.invariant.files c.loop-pattern.invariant.so_far c.in_ok-add_globbed.ensures.found;
}

pub returns-clause-value : goal.returns-clause-value
returns-clause-value g c =
    project_done (g.F.Files.outside c.args.files.now).disk c.args.roots.now c.args.place.now c.args.excluded.now c.args.patterns.now c.loop-pattern.pattern-index _ _ _
    c.loop-pattern-test.false c.loop-pattern.invariant.so_far c.as_slice.ensures c.in_ok-once.ensures
