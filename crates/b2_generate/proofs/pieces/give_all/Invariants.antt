use Rattle.std.proofs.Common.{◌≡◌}
use Rattle.std.specs.Vec.Iter.{into_iter_items}
use Rattle.b2_generate.specs.Generating.{nodes_of}
use Rattle.b2_generate.proofs.PiecesAnswerTheRequest.{IsOnTheWay}
use Rattle.b2_generate.proofs.pieces.give_all.Given as goal

-- what comes of the pieces that are left comes of all of them
abbrev pub invariant-loop-piece : goal.invariant-loop-piece
invariant-loop-piece g l =
    IsOnTheWay g.E.Evaluate.answers g.E.Evaluate.kept g.E.Evaluate.faults l.fn.generation.asker.index.now l.fn.generation.roots.now l.fn.pieces (nodes_of l.fn.generation) l.fn.generation.builder l.fn.generation.asker.evaluator
    (into_iter_items l.piece-iterator) l.places (nodes_of l.generation) l.generation.nodes.firsts l.generation.builder l.generation.asker.evaluator
    × (l.generation.asker.index.now ≡ l.fn.generation.asker.index.now) × (l.generation.roots.now ≡ l.fn.generation.roots.now)
