use Rattle.std.proofs.Common.{◌∙◌, ◌++◌, ap, sym, get_or}
use Rattle.b2_references.specs.References.{listed_targets}
use Rattle.b2_references.proofs.LoopsTakeOneMore.{flat_more}
use Rattle.b2_references.proofs.projects.listed.Goals as goal

pub loop-project-preserved : goal.loop-project-preserved
loop-project-preserved c =
    let i = c.loop-project.project-index in
    let projects = c.args.projects.now in
    c.in_ok-push_listed.ensures ∙ ap (λ ns. ns ++ listed_targets c.args.index.now (get_or projects i 0)) c.loop-project.invariant ∙ sym (flat_more projects i (listed_targets c.args.index.now) c.loop-project-test.true)
