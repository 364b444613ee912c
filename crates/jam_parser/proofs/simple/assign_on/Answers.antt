use Rattle.std.proofs.Common.{◌∷◌, [], ◌++◌, append_assoc, sym, arith}
use Rattle.jam_grammar.specs.declared.mark.TokenMark.TheVariants as marks
use Rattle.jam_grammar.specs.Spelling as spelling
use Rattle.jam_grammar.specs.Spelling.{arg_syms, args_syms, set_syms, sign_mark}
use Rattle.jam_grammar.specs.Grammar.{Args, Assigned, Key}
use Rattle.jam_parser.proofs.ReadingsCompose.{in_order, then_all}
use Rattle.jam_parser.proofs.simple.assign_on.Goals as goal

pub returns : goal.returns
returns c =
    let d = c.args.depth in
    let on = args_syms c.in_ok-on.on.items in
    let value = set_syms (sign_mark c.in_ok-sign.sign) (args_syms c.in_ok-value.value.items) in
    record {
      syms = on ++ value;
      whole = sym (append_assoc (arg_syms c.args.target) (spelling.Key marks.On ∷ []) (on ++ value));
      comes = in_order (Args ∷ []) (Assigned ∷ []) d d (omega arith) c.in_ok-on.ensures
          (then_all (Assigned ∷ []) (Args ∷ Key marks.Semicolon ∷ []) d c.in_ok-sign.ensures c.in_ok-value.ensures);
    }
