use Rattle.std.proofs.Common.{◌∷◌, [], sym, refl}
use Rattle.std.proofs.lemmas.List.{append-nil}
use Rattle.std.proofs.lemmas.Result.{MatchResult-weaker}
use Rattle.jam_grammar.specs.declared.mark.TokenMark.TheVariants as marks
use Rattle.jam_grammar.specs.Spelling.{WithinAnd, expr_syms, arg_syms}
use Rattle.jam_grammar.specs.Grammar.{Compared, OneArg, Args}
use Rattle.jam_parser.proofs.ReadingsCompose.{then_fault, takes_past, continued}
use Rattle.jam_parser.proofs.MembersMakeTheCondition.{bare_comes}
use Rattle.jam_parser.proofs.exprs.compared.Goals as goal

pub returns-in-Some : goal.returns-in-Some
returns-in-Some c =
    let d = c.args.depth in
    let rest = c.args.rest.now in
    let at = c.in-Some in
    MatchResult-weaker c.equal.result c.equal.ensures
    (λ r h. continued Compared (OneArg ∷ []) marks.Equals (arg_syms c.args.left) (expr_syms WithinAnd r.0) rest at.after.now r.1.now d at.ensures refl h)
    (λ e h. then_fault (Compared ∷ []) (OneArg ∷ []) d e (takes_past Compared (OneArg ∷ []) marks.Equals rest at.after.now d at.ensures refl) h)

pub returns-in-Some-past : goal.returns-in-Some-past
returns-in-Some-past c =
    let d = c.args.depth in
    let rest = c.args.rest.now in
    let at = c.in-Some-past in
    MatchResult-weaker c.differ.result c.differ.ensures
    (λ r h. continued Compared (OneArg ∷ []) marks.NotEquals (arg_syms c.args.left) (expr_syms WithinAnd r.0) rest at.after.now r.1.now d at.ensures refl h)
    (λ e h. then_fault (Compared ∷ []) (OneArg ∷ []) d e (takes_past Compared (OneArg ∷ []) marks.NotEquals rest at.after.now d at.ensures refl) h)

pub returns-in-Some-past-2 : goal.returns-in-Some-past-2
returns-in-Some-past-2 c =
    let d = c.args.depth in
    let rest = c.args.rest.now in
    let at = c.in-Some-past-2 in
    MatchResult-weaker c.within.result c.within.ensures
    (λ r h. continued Compared (Args ∷ []) marks.In (arg_syms c.args.left) (expr_syms WithinAnd r.0) rest at.after.now r.1.now d at.ensures refl h)
    (λ e h. then_fault (Compared ∷ []) (Args ∷ []) d e (takes_past Compared (Args ∷ []) marks.In rest at.after.now d at.ensures refl) h)

pub returns-in-None : goal.returns-in-None
returns-in-None c = record {
  syms = [];
  whole = sym (append-nil (arg_syms c.args.left));
  comes = bare_comes c.args.rest.now c.args.depth c.in_default.ensures c.in_default-past.ensures c.in-None.ensures;
}
