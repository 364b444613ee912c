use Rattle.std.proofs.Common.{◌∷◌, [], arith}
use Rattle.jam_grammar.specs.declared.mark.TokenMark.TheVariants as marks
use Rattle.jam_grammar.specs.Grammar.{Args, Key}
use Rattle.jam_parser.proofs.ReadingsCompose.{in_order}
use Rattle.jam_parser.proofs.simple.list_end.Goals as goal

pub returns : goal.returns
returns c =
    let d = c.args.depth in
    in_order (Args ∷ []) (Key marks.Semicolon ∷ []) d d (omega arith) c.in_ok-list.ensures c.in_ok-after.ensures
