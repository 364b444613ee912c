use Rattle.std.proofs.Common.{◌∙◌, ◌++◌, List, ap, sym}
use Rattle.b2_references.specs.declared.asked.AskedPiece.{AskedPiece}
use Rattle.b2_references.specs.Requests.{asked_of}
use Rattle.b2_references.proofs.LoopsTakeOneMore.{flat_next}
use Rattle.b2_references.proofs.requests.pieces_of.Goals as goal

pub loop-set-preserved : goal.loop-set-preserved
loop-set-preserved c =
    let asked = asked_of c.args.index.now c.args.words.now in
    let x = c.set-item.result in
    c.in_ok-push_words.ensures ∙ ap (λ (ps : List AskedPiece). ps ++ asked x) c.loop-set.invariant ∙ sym (flat_next c.args.sets.now c.loop-set.set-index x c.loop-set-test.true c.set-item.is asked)
