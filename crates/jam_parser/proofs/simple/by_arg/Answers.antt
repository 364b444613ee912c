use Rattle.std.proofs.Common.{◌∷◌, [], arith}
use Rattle.jam_grammar.specs.Grammar.{OneArg, Tail}
use Rattle.jam_parser.proofs.ReadingsCompose.{in_order}
use Rattle.jam_parser.proofs.simple.by_arg.Goals as goal

pub returns : goal.returns
returns c =
    let d = c.args.depth in
    let h = c.in_ok-form.ensures in
    rw h.whole (in_order (OneArg ∷ []) (Tail ∷ []) d d (omega arith) c.in_ok-head.ensures h.comes)
