use Rattle.std.proofs.Common.{◌∙◌, ◌++◌, List, ap, sym, append_assoc, take}
use Rattle.std.specs.List.{flat_map}
use Rattle.b2_references.specs.declared.asked.AskedPiece.{AskedPiece}
use Rattle.b2_references.specs.declared.request_word.RequestWord.{RequestWord}
use Rattle.b2_references.specs.Requests.{asked_by}
use Rattle.b2_references.proofs.LoopsTakeOneMore.{flat_next}
use Rattle.b2_references.proofs.requests.push_words.Goals as goal

pub loop-word-preserved : goal.loop-word-preserved
loop-word-preserved c =
    let pieces = λ (w : RequestWord). asked_by c.args.index.now c.args.set.now w.text w.meaning in
    let words = c.args.words.now in
    let i = c.loop-word.word-index in
    let x = c.word-item.result in
    c.in_ok-push_word.ensures ∙ ap (λ (ps : List AskedPiece). ps ++ pieces x) c.loop-word.invariant ∙ append_assoc c.args.made.now (flat_map pieces (take i words)) (pieces x)
    ∙ ap (λ (ps : List AskedPiece). c.args.made.now ++ ps) (sym (flat_next words i x c.loop-word-test.true c.word-item.is pieces))
