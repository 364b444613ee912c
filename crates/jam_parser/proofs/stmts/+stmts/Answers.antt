use Rattle.std.proofs.Common.{◌∷◌, [], ◌++◌, ◌+◌, append_assoc, sym, ap, ◌∙◌, arith, refl}
use Rattle.std.proofs.lemmas.Result.{MatchResult-weaker, err_from_is_err_and}
use Rattle.jam_grammar.specs.declared.mark.TokenMark.TheVariants as marks
use Rattle.jam_grammar.specs.Trees.{params_of}
use Rattle.jam_grammar.specs.Spelling as spelling
use Rattle.jam_grammar.specs.Spelling.{spell_stmts, spell_form, arg_syms, block_syms, stmt_syms, params_syms, braced}
use Rattle.jam_grammar.specs.Grammar.{Stmts, OneStmt, OneBlock, OneExpr, OneElse, ElseTail, CaseBlock, Cases, OneWord, OneArg, Args, Params, Shut, Key}
use Rattle.jam_grammar.proofs.TreesAreThoseOfElements.{block_is, switch_is}
use Rattle.jam_parser.specs.Params.{params_read}
use Rattle.jam_parser.proofs.ReadingsCompose.{chain, chain_fault, then_all, then_fault, composed, led, in_order, later_fault, shut, shut_fault, takes_past, opens_past}
use Rattle.jam_parser.proofs.ParametersAreReadInTurn.{in_parens}
use Rattle.jam_parser.proofs.StatementsAreReadInTurn.{stmt_comes, more_stmts, more_cases, case_is, lined}
use Rattle.jam_parser.proofs.stmts.+stmts.Goals as goal

pub block-returns-in_ok-after-in-Some : goal.block-returns-in_ok-after-in-Some
block-returns-in_ok-after-in-Some t c =
    let d = c.args.depth in
    rw (ap spell_stmts (block_is c.in_ok-stmts-in-Some.stmts))
    (then_all (OneBlock ∷ []) (Stmts ∷ Key marks.BraceClose ∷ []) d
    (opens_past OneBlock (Stmts ∷ Key marks.BraceClose ∷ []) marks.BraceOpen c.args.rest.now c.in-Some.after.now 1 d (omega (arith, c.if-depth-lt-MAX_OPEN.true)) c.in-Some.ensures refl)
    (in_order (Stmts ∷ []) (Key marks.BraceClose ∷ []) d (d + 1) (omega arith) c.in_ok-stmts-in-Some.ensures c.in_ok-after-in-Some.ensures))

pub case_block-returns-in_ok-after-in-Some : goal.case_block-returns-in_ok-after-in-Some
case_block-returns-in_ok-after-in-Some t c =
    let d = c.args.depth in
    then_all (CaseBlock ∷ []) (Cases ∷ Key marks.BraceClose ∷ []) d
    (opens_past CaseBlock (Cases ∷ Key marks.BraceClose ∷ []) marks.BraceOpen c.args.rest.now c.in-Some.after.now 1 d (omega (arith, c.if-depth-lt-MAX_OPEN.true)) c.in-Some.ensures refl)
    (in_order (Cases ∷ []) (Key marks.BraceClose ∷ []) d (d + 1) (omega arith) c.in_ok-found-in-Some.ensures c.in_ok-after-in-Some.ensures)

pub cases-each-preserved : goal.cases-each-preserved
cases-each-preserved t c =
    let d = c.args.depth in
    let left = c.each.left.now in
    let h = c.in_ok-one.ensures in
    rw (more_cases c.each.found.items c.push.new.self.items c.in_ok-one.one c.in_ok-push.ensures.items, h.whole)
    (composed (Cases ∷ []) (Cases ∷ []) (Cases ∷ []) d c.each.invariant
    (chain (Cases ∷ []) (OneWord ∷ Key marks.Colon ∷ Stmts ∷ []) (Cases ∷ []) d d (omega arith)
    (takes_past Cases (OneWord ∷ Key marks.Colon ∷ Stmts ∷ Cases ∷ []) marks.Case left c.in-Some.after.now d c.in-Some.ensures refl) h.comes))

pub else_tail-returns-in-Some : goal.else_tail-returns-in-Some
else_tail-returns-in-Some t c =
    let d = c.args.depth in
    let rest = c.args.rest.now in
    let after = c.in-Some.after.now in
    let come = opens_past ElseTail (OneExpr ∷ OneBlock ∷ OneElse ∷ Shut ∷ []) marks.If rest after 2 d (omega arith) c.in-Some.ensures refl in
    MatchResult-weaker c.else_if.result c.else_if.ensures
    (λ r h. record {
      syms = spelling.From c.line_of.result ∷ spelling.Key marks.If ∷ h.syms;
      whole = h.whole;
      comes = then_all (ElseTail ∷ []) (OneExpr ∷ OneBlock ∷ OneElse ∷ Shut ∷ []) d
          (lined (ElseTail ∷ []) (OneExpr ∷ OneBlock ∷ OneElse ∷ Shut ∷ []) marks.If rest after after d c.line_of.result c.in-Some.ensures c.line_of.ensures come)
          (shut (OneExpr ∷ OneBlock ∷ OneElse ∷ []) d h.comes);
    })
    (λ e h. then_fault (ElseTail ∷ []) (OneExpr ∷ OneBlock ∷ OneElse ∷ Shut ∷ []) d e come (shut_fault (OneExpr ∷ OneBlock ∷ OneElse ∷ []) after d e h))

pub form-returns-in-On : goal.form-returns-in-On
form-returns-in-On t c =
    let d = c.args.depth in
    let come = opens_past OneStmt (OneArg ∷ OneStmt ∷ Shut ∷ []) marks.On c.args.rest.now c.in-On.after.now 1 d (omega arith) c.in-On.ensures refl in
    MatchResult-weaker c.on_form.result c.on_form.ensures
    (λ r h. rw h.whole (then_all (OneStmt ∷ []) (OneArg ∷ OneStmt ∷ Shut ∷ []) d come (shut (OneArg ∷ OneStmt ∷ []) d h.comes)))
    (λ e h. then_fault (OneStmt ∷ []) (OneArg ∷ OneStmt ∷ Shut ∷ []) d e come (shut_fault (OneArg ∷ OneStmt ∷ []) c.in-On.after.now d e h))

pub for_rest-returns : goal.for_rest-returns
for_rest-returns t c =
    let d = c.args.depth in
    record {
      syms = _;
      whole = refl;
      comes = (in_order (OneWord ∷ []) (Key marks.In ∷ Args ∷ OneBlock ∷ []) d d (omega arith) c.in_ok-name.ensures (in_order (Key marks.In ∷ []) (Args ∷ OneBlock ∷ []) d d (omega arith) c.in_ok-after.ensures (in_order (Args ∷ []) (OneBlock ∷ []) d d (omega arith) c.in_ok-items.ensures c.in_ok-block.ensures)));
    }

pub branches-returns : goal.branches-returns
branches-returns t c =
    let d = c.args.depth in
    in_order (OneBlock ∷ []) (OneElse ∷ []) d d (omega arith) c.in_ok-then.ensures c.in_ok-other.ensures

pub if_form-returns-in-Ok : goal.if_form-returns-in-Ok
if_form-returns-in-Ok t c =
    let d = c.args.depth in
    record {
      syms = _;
      whole = refl;
      comes = in_order (OneExpr ∷ []) (OneBlock ∷ OneElse ∷ []) d d (omega arith) c.in_ok-test.ensures c.in-Ok.ensures;
    }

pub if_form-returns-in-Err : goal.if_form-returns-in-Err
if_form-returns-in-Err t c =
    let d = c.args.depth in
    later_fault (OneExpr ∷ []) (OneBlock ∷ OneElse ∷ []) d d c.in-Err.fault (omega arith) c.in_ok-test.ensures c.in-Err.ensures

pub module_form-returns : goal.module_form-returns
module_form-returns t c =
    let d = c.args.depth in
    record {
      syms = _;
      whole = refl;
      comes = (in_order (Args ∷ []) (OneBlock ∷ []) d d (omega arith) c.in_ok-name.ensures c.in_ok-block.ensures);
    }

pub while_form-returns-in-Ok : goal.while_form-returns-in-Ok
while_form-returns-in-Ok t c =
    let d = c.args.depth in
    record {
      syms = _;
      whole = refl;
      comes = in_order (OneExpr ∷ []) (OneBlock ∷ []) d d (omega arith) c.in_ok-test.ensures c.in-Ok.ensures;
    }

pub while_form-returns-in-Err : goal.while_form-returns-in-Err
while_form-returns-in-Err t c =
    let d = c.args.depth in
    later_fault (OneExpr ∷ []) (OneBlock ∷ []) d d c.in-Err.fault (omega arith) c.in_ok-test.ensures c.in-Err.ensures

pub switch_form-returns : goal.switch_form-returns
switch_form-returns t c =
    let d = c.args.depth in
    record {
      syms = _;
      whole = ap spell_form (switch_is c.in_ok-value.value c.in_ok-cases.cases);
      comes = (in_order (Args ∷ []) (CaseBlock ∷ []) d d (omega arith) c.in_ok-value.ensures c.in_ok-cases.ensures);
    }

pub on_form-returns : goal.on_form-returns
on_form-returns t c =
    let d = c.args.depth in
    record {
      syms = _;
      whole = ap (λ s. spelling.Key marks.On ∷ (arg_syms c.in_ok-target.target ++ stmt_syms s)) c.in_ok-stmt-2.ensures.ok;
      comes = (in_order (OneArg ∷ []) (OneStmt ∷ []) d d (omega arith) c.in_ok-target.ensures c.in_ok-stmt.ensures);
    }

pub one_case-returns : goal.one_case-returns
one_case-returns t c =
    let d = c.args.depth in
    record {
      syms = _;
      whole = case_is c.in_ok-pattern.pattern c.in_ok-stmts.stmts;
      comes = (in_order (OneWord ∷ []) (Key marks.Colon ∷ Stmts ∷ []) d d (omega arith) c.in_ok-pattern.ensures (in_order (Key marks.Colon ∷ []) (Stmts ∷ []) d d (omega arith) c.in_ok-after.ensures c.in_ok-stmts.ensures));
    }

pub with_params-returns : goal.with_params-returns
with_params-returns t c =
    let d = c.args.depth in
    let name = c.args.name in
    let params = params_of c.in_ok-params.params in
    let block = braced (block_syms c.in_ok-block.block) in
    let close = spelling.Key marks.ParenClose ∷ [] in
    record {
      syms = params_read params ++ (close ++ block);
      whole =
          ap (λ b. spelling.Key marks.Rule ∷ spelling.Says name ∷ (params_syms params ++ braced (block_syms b))) c.in_ok-block-2.ensures.ok
          ∙ ap (λ s. spelling.Key marks.Rule ∷ spelling.Says name ∷ (s ++ block)) (in_parens c.args.rest.now c.in_ok-params.after.now params c.in_ok-params.ensures.spells)
          ∙ ap (λ s. spelling.Key marks.Rule ∷ spelling.Says name ∷ spelling.Key marks.ParenOpen ∷ s) (append_assoc (params_read params) close block);
      comes = in_order (Params ∷ []) (Key marks.ParenClose ∷ OneBlock ∷ []) d (d + 1) (omega arith) c.in_ok-params.ensures
          (in_order (Key marks.ParenClose ∷ []) (OneBlock ∷ []) d d (omega arith) c.in_ok-after.ensures c.in_ok-block.ensures);
    }

pub stmts-returns-in_err-one : goal.stmts-returns-in_err-one
stmts-returns-in_err-one t c =
    let p = err_from_is_err_and c.from_residual.result c.from_residual.ensures.1 in
    let d = c.args.depth in
    let left = c.each.left.now in
    rw (p.1, p.2) (chain_fault (Stmts ∷ []) (OneStmt ∷ []) (Stmts ∷ []) d d c.in_err-one.field-0.0 (omega arith)
    (led (Stmts ∷ []) (Stmts ∷ []) (OneStmt ∷ Stmts ∷ []) d c.each.invariant (stmt_comes left d (sym c.at_stmt.ensures ∙ c.each-test.true))) c.in_err-one.ensures)

pub stmts-each-preserved : goal.stmts-each-preserved
stmts-each-preserved t c =
    let d = c.args.depth in
    let left = c.each.left.now in
    rw (more_stmts c.each.found.items c.push.new.self.items c.in_ok-one.one c.in_ok-push.ensures.items)
    (chain (Stmts ∷ []) (OneStmt ∷ []) (Stmts ∷ []) d d (omega arith)
    (led (Stmts ∷ []) (Stmts ∷ []) (OneStmt ∷ Stmts ∷ []) d c.each.invariant (stmt_comes left d (sym c.at_stmt.ensures ∙ c.each-test.true))) c.in_ok-one.ensures)
