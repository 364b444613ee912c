use Rattle.std.proofs.Common.{◌≡◌, List, [], ◌∷◌, length, refl, sym, subst, ◌∙◌, arith}
use Rattle.std.specs.Vec.Iter.{into_iter_items}
use Rattle.b2_generate.specs.Generating.{nodes_of}
use Rattle.b2_generate.specs.Opening.{AreReady}
use Rattle.b2_generate.proofs.EarlyExitGivesTheFault.{exit_is}
use Rattle.b2_generate.proofs.PiecesAnswerTheRequest.{way_first, piece_at, way_ends, way_next, way_stops, way_out}
use Rattle.b2_generate.proofs.pieces.give_all.Goals as goal

nothing_left : {X : Type 0} (xs : List X) → length xs ≡ 0 → xs ≡ []
nothing_left [] e = refl
nothing_left (x ∷ xs) e = absurd (omega (arith, e))

pub loop-piece-init : goal.loop-piece-init
loop-piece-init g c = (way_first c.new-places.result (c.into_iter-piece-iterator.ensures.into_iter_gives.0 ∙ c.into_vec-piece-items.ensures) c.new-places.ensures c.requires, refl, refl)

pub give-requires : goal.give-requires
give-requires g c = subst (λ d. AreReady d (nodes_of c.loop-piece.generation) c.loop-piece.generation.nodes.firsts) (sym c.loop-piece.invariant.1) c.loop-piece.invariant.0.ready

pub returns-in_err-place-clause-pieces : goal.returns-in_err-place-clause-pieces
returns-in_err-place-clause-pieces g c =
    way_stops c.loop-piece.invariant.0 c.from_residual.result c.in_err-place.field-0.0 (exit_is c.from_residual.result _ c.from_residual.ensures.1) c.in-Some.ensures.steps.0
    (piece_at c.loop-piece.invariant.1 c.loop-piece.invariant.2 c.in_err-place.ensures.piece)

pub returns-in_err-push-clause-pieces : goal.returns-in_err-push-clause-pieces
returns-in_err-push-clause-pieces g c =
    way_out c.loop-piece.invariant.0 c.from_residual-in_err-push.result c.in_ok-place.place (exit_is c.from_residual-in_err-push.result _ c.from_residual-in_err-push.ensures.1)
    (piece_at c.loop-piece.invariant.1 c.loop-piece.invariant.2 c.in_ok-place.ensures.piece)

pub loop-piece-preserved : goal.loop-piece-preserved
loop-piece-preserved g c = (
  way_next c.loop-piece.invariant.0 c.in_ok-place.place c.push.new.self c.in-Some.ensures.steps.0 c.in_ok-push.ensures.ok
      (piece_at c.loop-piece.invariant.1 c.loop-piece.invariant.2 c.in_ok-place.ensures.piece),
  c.in_ok-place.ensures.project ∙ c.loop-piece.invariant.1,
  c.in_ok-place.ensures.roots ∙ c.loop-piece.invariant.2,
)

pub returns-clause-pieces : goal.returns-clause-pieces
returns-clause-pieces g c = way_ends c.loop-piece.invariant.0 (nothing_left (into_iter_items c.loop-piece.piece-iterator) (omega (arith, c.in-None.ensures.steps.0)))

pub returns-in_err-place-clause-project : goal.returns-in_err-place-clause-project
returns-in_err-place-clause-project g c = c.in_err-place.ensures.project ∙ c.loop-piece.invariant.1

pub returns-in_err-place-clause-roots : goal.returns-in_err-place-clause-roots
returns-in_err-place-clause-roots g c = c.in_err-place.ensures.roots ∙ c.loop-piece.invariant.2

pub returns-in_err-push-clause-project : goal.returns-in_err-push-clause-project
returns-in_err-push-clause-project g c = c.in_ok-place.ensures.project ∙ c.loop-piece.invariant.1

pub returns-in_err-push-clause-roots : goal.returns-in_err-push-clause-roots
returns-in_err-push-clause-roots g c = c.in_ok-place.ensures.roots ∙ c.loop-piece.invariant.2

pub returns-clause-project : goal.returns-clause-project
returns-clause-project g c = c.loop-piece.invariant.1

pub returns-clause-roots : goal.returns-clause-roots
returns-clause-roots g c = c.loop-piece.invariant.2
