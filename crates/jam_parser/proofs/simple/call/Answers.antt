use Rattle.std.proofs.Common.{◌∷◌, [], arith, refl}
use Rattle.jam_grammar.specs.declared.mark.TokenMark.TheVariants as marks
use Rattle.jam_grammar.specs.Grammar.{Args, More, Key}
use Rattle.jam_parser.proofs.ReadingsCompose.{in_order}
use Rattle.jam_parser.proofs.simple.call.Goals as goal

pub returns : goal.returns
returns c =
    let d = c.args.depth in
    record {
      syms = _;
      whole = refl;
      comes = in_order (Args ∷ More 8 ∷ []) (Key marks.Semicolon ∷ []) d d (omega arith) c.in_ok-lists.ensures c.in_ok-after.ensures;
    }
