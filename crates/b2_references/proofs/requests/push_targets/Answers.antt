use Rattle.std.proofs.Common.{◌∙◌, ◌++◌, ap, sym, append_assoc, take}
use Rattle.std.specs.List.{flat_map}
use Rattle.b2_references.specs.Requests.{asked_for}
use Rattle.b2_references.proofs.LoopsTakeOneMore.{flat_next}
use Rattle.b2_references.proofs.requests.push_targets.Goals as goal

pub loop-name-preserved : goal.loop-name-preserved
loop-name-preserved c =
    let pieces = asked_for c.args.index.now c.args.set.now in
    let names = c.args.names.now in
    let i = c.loop-name.name-index in
    let x = c.name-item.result in
    c.in_ok-push_target.ensures ∙ ap (λ ps. ps ++ pieces x) c.loop-name.invariant ∙ append_assoc c.args.made.now (flat_map pieces (take i names)) (pieces x)
    ∙ ap (λ ps. c.args.made.now ++ ps) (sym (flat_next names i x c.loop-name-test.true c.name-item.is pieces))
