use Rattle.jam_lexer.proofs.DepthCountsOpenBraces.{IsAtDepth}
use Rattle.jam_lexer.proofs.body.body_end.Given as goal

abbrev pub invariant-loop-at : goal.invariant-loop-at
invariant-loop-at l = IsAtDepth l.bytes l.start l.at l.depth
