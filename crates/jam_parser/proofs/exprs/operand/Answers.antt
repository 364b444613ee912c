use Rattle.std.proofs.Common.{◌∷◌, [], arith}
use Rattle.jam_grammar.specs.Grammar.{OneArg, Compared}
use Rattle.jam_parser.proofs.ReadingsCompose.{in_order}
use Rattle.jam_parser.proofs.exprs.operand.Goals as goal

pub returns : goal.returns
returns c =
    let d = c.args.depth in
    let h = c.in_ok-whole.ensures in
    rw h.whole (in_order (OneArg ∷ []) (Compared ∷ []) d d (omega arith) c.in_ok-left.ensures h.comes)
