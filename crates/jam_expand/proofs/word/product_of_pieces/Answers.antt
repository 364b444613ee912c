use Rattle.std.proofs.Common.{ℕ, List, ap, ◌∙◌}
use Rattle.std.proofs.lemmas.Result.{err_from_is_err_and}
use Rattle.b2_base.specs.Results.{and_then}
use Rattle.jam_expand.specs.Expansions.{elements_at}
use Rattle.jam_expand.specs.Limits.{Answer}
use Rattle.jam_expand.specs.OwnPieces.{owned}
use Rattle.jam_expand.specs.Shown.{shown}
use Rattle.jam_expand.specs.Values.{values_of_all}
use Rattle.jam_expand.proofs.PiecesExpandOneByOne.{found_nothing}
use Rattle.jam_expand.proofs.WordsAreReadOnce.{own_fault, own_list, own_lists}
use Rattle.jam_expand.proofs.word.product_of_pieces.Goals as goal

abbrev values : (List ℕ → List (List ℕ)) → List ℕ → Answer
values names inside = and_then (values_of_all names) (elements_at 15 names inside)

pub loop-piece-init : goal.loop-piece-init
loop-piece-init g c = rw c.in_ok-lists.ensures (found_nothing _)

pub returns-in_err-list : goal.returns-in_err-list
returns-in_err-list g c =
    let p = err_from_is_err_and c.from_residual-in_err-list.result c.from_residual-in_err-list.ensures.1 in
    rw (p.1, p.2)
    (own_fault (values (g.L.Look.answer c.args.look.now)) c.loop-piece.lists.items c.args.pieces.now c.loop-piece.piece-index _ (shown c.lent.result) c.in_err-list.field-0.0
    c.loop-piece-test.true (c.lent.ensures.value ∙ ap owned c.piece-item.is) c.loop-piece.invariant c.in_err-list.ensures)

pub loop-piece-preserved : goal.loop-piece-preserved
loop-piece-preserved g c =
    rw c.in_ok-push_list.ensures
    (own_list (values (g.L.Look.answer c.args.look.now)) c.loop-piece.lists.items c.args.pieces.now c.loop-piece.piece-index _ (shown c.lent.result) c.in_ok-list.list
    c.loop-piece-test.true (c.lent.ensures.value ∙ ap owned c.piece-item.is) c.loop-piece.invariant c.in_ok-list.ensures)

pub returns : goal.returns
returns g c =
    rw (own_lists (values (g.L.Look.answer c.args.look.now)) c.loop-piece.lists.items c.args.pieces.now c.loop-piece.piece-index c.loop-piece-test.false c.loop-piece.invariant) c.product.ensures
