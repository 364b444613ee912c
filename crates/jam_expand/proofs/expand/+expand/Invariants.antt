use Rattle.std.proofs.Common.{◌≡◌, ◌+◌, ◌*◌, ◌-◌, drop}
use Rattle.b2_base.specs.Results.{and_then}
use Rattle.jam_expand.specs.Values.{values_of_all}
use Rattle.jam_expand.specs.Words.{pieces_of}
use Rattle.jam_expand.specs.Expansions.{elements_at, lists_of}
use Rattle.jam_expand.proofs.PiecesExpandOneByOne.{after_lists}
use Rattle.jam_expand.proofs.expand.+expand.Given as goal

abbrev pub decreases-elements_at : goal.decreases-elements_at
decreases-elements_at g l = 3 * l.levels

abbrev pub decreases-list_of : goal.decreases-list_of
decreases-list_of g l = 3 * l.levels + 2

abbrev pub decreases-values_at : goal.decreases-values_at
decreases-values_at g l = 3 * l.levels + 1

abbrev pub invariant-elements_at-loop-piece : goal.invariant-elements_at-loop-piece
invariant-elements_at-loop-piece g l =
    after_lists l.lists.items (lists_of (λ inside. and_then (values_of_all (g.L.Look.answer l.look)) (elements_at (l.levels - 1) (g.L.Look.answer l.look) inside)) (drop l.piece-index (pieces_of l.word)))
    ≡ lists_of (λ inside. and_then (values_of_all (g.L.Look.answer l.look)) (elements_at (l.levels - 1) (g.L.Look.answer l.look) inside)) (pieces_of l.word)
