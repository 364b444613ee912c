use Rattle.std.proofs.Common.{◌∙◌, ap}
use Rattle.b2_base.specs.Segments.{normal_of}
use Rattle.jam_natives.proofs.SearchesFindNameByName.{glob_step, glob_done}
use Rattle.jam_natives.proofs.glob.glob.Goals as goal

pub loop-dir-preserved : goal.loop-dir-preserved
loop-dir-preserved g c = record {
  files = c.in_ok-add_found.ensures.files ∙ c.loop-dir.invariant.files;
  so_far = glob_step (g.F.Files.outside c.args.files.now) (g.F.Files.outside c.loop-dir.files) c.args.roots.now c.args.patterns.now c.args.dirs.now c.loop-dir.dir-index c.dir-item.result _ _ _
      c.loop-dir-test.true c.dir-item.is c.loop-dir.invariant.files (c.in_ok-listed.ensures ∙ ap normal_of c.as_str.ensures.value) c.loop-dir.invariant.so_far c.in_ok-add_found.ensures.found;
}

pub returns-clause-value : goal.returns-clause-value
returns-clause-value g c = glob_done (g.F.Files.outside c.args.files.now).disk c.args.roots.now c.args.patterns.now c.args.dirs.now c.loop-dir.dir-index _ c.loop-dir-test.false c.loop-dir.invariant.so_far
