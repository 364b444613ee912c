use Rattle.std.proofs.Common.{◌∷◌, [], arith, refl}
use Rattle.jam_grammar.specs.Grammar.{Args, LocalTail}
use Rattle.jam_parser.proofs.ReadingsCompose.{in_order}
use Rattle.jam_parser.proofs.simple.local.Goals as goal

pub returns : goal.returns
returns c =
    let d = c.args.depth in
    record {
      syms = _;
      whole = refl;
      comes = in_order (Args ∷ []) (LocalTail ∷ []) d d (omega arith) c.in_ok-names.ensures c.in_ok-value.ensures;
    }
