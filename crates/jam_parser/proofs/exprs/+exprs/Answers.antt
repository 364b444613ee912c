use Rattle.std.proofs.Common.{◌∷◌, [], ◌++◌, ◌+◌, length, length-append, ap, ◌∙◌, arith, refl}
use Rattle.std.proofs.lemmas.Result.{MatchResult-weaker, err_from_is_err_and}
use Rattle.jam_grammar.specs.declared.mark.TokenMark.TheVariants as marks
use Rattle.jam_grammar.specs.Trees.{expr_tree}
use Rattle.jam_grammar.specs.Spelling as spelling
use Rattle.jam_grammar.specs.Spelling.{Anywhere, WithinOr, WithinAnd, spell_expr, expr_syms}
use Rattle.jam_grammar.specs.Grammar.{OneExpr, Both, OrTail, Single, AndTail, Shut, Key}
use Rattle.jam_grammar.proofs.TreesAreThoseOfElements.{or_is, and_is}
use Rattle.jam_parser.proofs.ReadingsCompose.{chain, chain_fault, then_all, then_fault, composed, led, in_order, first_fault, later_fault, shut, shut_fault, takes_past, opens_past, stay}
use Rattle.jam_parser.proofs.MembersMakeTheCondition.{raise_and, raise_or, first_signed, more_signed, last_signed, or_comes, and_comes, no_or_comes, no_and_comes}
use Rattle.jam_parser.proofs.exprs.+exprs.Goals as goal

pub single-returns-in-Some : goal.single-returns-in-Some
single-returns-in-Some t c =
    let d = c.args.depth in
    let come = opens_past Single (Single ∷ Shut ∷ []) marks.Not c.args.rest.now c.in-Some.after.now 1 d (omega (arith, c.if-depth-lt-MAX_OPEN.true)) c.in-Some.ensures refl in
    MatchResult-weaker c.negated.result c.negated.ensures
    (λ r h. rw h.whole (then_all (Single ∷ []) (Single ∷ Shut ∷ []) d come (shut (Single ∷ []) d h.comes)))
    (λ e h. then_fault (Single ∷ []) (Single ∷ Shut ∷ []) d e come (shut_fault (Single ∷ []) c.in-Some.after.now d e h))

pub group-returns : goal.group-returns
group-returns t c =
    let d = c.args.depth in
    record {
      syms = _;
      whole = ap (λ e. spelling.Key marks.ParenOpen ∷ (expr_syms Anywhere e ++ spelling.Key marks.ParenClose ∷ [])) c.in_ok-inner-2.ensures.ok;
      comes = in_order (OneExpr ∷ []) (Key marks.ParenClose ∷ []) d (d + 1) (omega arith) c.in_ok-inner.ensures c.in_ok-after.ensures;
    }

pub both-returns-in_err-first : goal.both-returns-in_err-first
both-returns-in_err-first t c =
    let p = err_from_is_err_and c.from_residual.result c.from_residual.ensures.1 in
    let d = c.args.depth in
    let rest = c.args.rest.now in
    let e = c.in_err-first.field-0.0 in
    rw (p.1, p.2) (then_fault (Both ∷ []) (Single ∷ AndTail ∷ []) d e (and_comes rest d) (first_fault (Single ∷ []) (AndTail ∷ []) rest d d e (omega arith) c.in_err-first.ensures))

pub both-returns-in_err-whole-in-Some : goal.both-returns-in_err-whole-in-Some
both-returns-in_err-whole-in-Some t c =
    let from = c.from_residual-in_err-whole-in-Some in
    let p = err_from_is_err_and from.result from.ensures.1 in
    let d = c.args.depth in
    let e = c.in_err-whole-in-Some.field-0.0 in
    let taken = takes_past AndTail (Single ∷ AndTail ∷ []) marks.And c.in_ok-first.after.now c.in-Some.right.now d c.in-Some.ensures refl in
    rw (p.1, p.2) (then_fault (Both ∷ []) (Single ∷ AndTail ∷ []) d e (and_comes c.args.rest.now d)
    (later_fault (Single ∷ []) (AndTail ∷ []) d d e (omega arith) c.in_ok-first.ensures
    (then_fault (AndTail ∷ []) (Single ∷ AndTail ∷ []) d e taken c.in_err-whole-in-Some.ensures)))

pub both-returns-in_ok-whole-in-Some : goal.both-returns-in_ok-whole-in-Some
both-returns-in_ok-whole-in-Some t c =
    let d = c.args.depth in
    let h = c.in_ok-whole-in-Some.ensures in
    let first = chain (Both ∷ []) (Single ∷ []) (AndTail ∷ []) d d (omega arith) (and_comes c.args.rest.now d) c.in_ok-first.ensures in
    let taken = takes_past AndTail (Single ∷ AndTail ∷ []) marks.And c.in_ok-first.after.now c.in-Some.right.now d c.in-Some.ensures refl in
    rw h.whole (then_all (Both ∷ []) (Single ∷ AndTail ∷ []) d (composed (Both ∷ []) (AndTail ∷ []) (Single ∷ AndTail ∷ []) d first taken) h.comes)

pub both-returns-in-None : goal.both-returns-in-None
both-returns-in-None t c =
    let d = c.args.depth in
    let mid = c.in_ok-first.after.now in
    let first = chain (Both ∷ []) (Single ∷ []) (AndTail ∷ []) d d (omega arith) (and_comes c.args.rest.now d) c.in_ok-first.ensures in
    rw (raise_and (expr_tree c.in_ok-first.first) c.args.rest.now mid c.in_ok-first.ensures.spells)
    (led (Both ∷ []) (AndTail ∷ []) [] d first (no_and_comes mid d c.in-None.ensures))

pub and_rest-each-init : goal.and_rest-each-init
and_rest-each-init t c = record {
  some = omega (arith, ap length c.in_ok-push.ensures.items, length-append c.new-members.result.items (c.args.first ∷ []));
  continues = record {
    syms = [];
    whole = first_signed WithinAnd marks.And c.new-members.result.items c.push.new.self.items c.args.first c.new-members.ensures.items c.in_ok-push.ensures.items;
    comes = stay (Single ∷ AndTail ∷ []) c.args.rest.now c.args.depth;
  };
}

pub and_rest-returns-in_err-one : goal.and_rest-returns-in_err-one
and_rest-returns-in_err-one t c =
    let p = err_from_is_err_and c.from_residual-in_err-one.result c.from_residual-in_err-one.ensures.1 in
    let d = c.args.depth in
    rw (p.1, p.2) (chain_fault (Single ∷ AndTail ∷ []) (Single ∷ []) (AndTail ∷ []) d d c.in_err-one.field-0.0 (omega arith) c.each.invariant.continues.comes c.in_err-one.ensures)

pub and_rest-each-preserved : goal.and_rest-each-preserved
and_rest-each-preserved t c =
    let d = c.args.depth in
    let old = c.each.members.items in
    let one = c.in_ok-one.one in
    let inv = c.each.invariant in
    let grown = c.in_ok-push-2.ensures.items in
    let prefix = expr_syms WithinAnd c.args.first ++ spelling.Key marks.And ∷ [] in
    record {
      some = omega (arith, ap length grown, length-append old (one ∷ []));
      continues = record {
        syms = (inv.continues.syms ++ expr_syms WithinAnd one) ++ spelling.Key marks.And ∷ [];
        whole = more_signed WithinAnd marks.And prefix inv.continues.syms old c.push-in-each.new.self.items one grown inv.continues.whole;
        comes = composed (Single ∷ AndTail ∷ []) (AndTail ∷ []) (Single ∷ AndTail ∷ []) d
            (chain (Single ∷ AndTail ∷ []) (Single ∷ []) (AndTail ∷ []) d d (omega arith) inv.continues.comes c.in_ok-one.ensures)
            (takes_past AndTail (Single ∷ AndTail ∷ []) marks.And c.in_ok-one.after.now c.in-Some.right.now d c.in-Some.ensures refl);
      };
    }

pub and_rest-returns-in-None : goal.and_rest-returns-in-None
and_rest-returns-in-None t c =
    let d = c.args.depth in
    let one = c.in_ok-one.one in
    let after = c.in_ok-one.after.now in
    let inv = c.each.invariant in
    let prefix = expr_syms WithinAnd c.args.first ++ spelling.Key marks.And ∷ [] in
    record {
      syms = inv.continues.syms ++ expr_syms WithinAnd one;
      whole = ap (spell_expr WithinOr) (and_is c.push-in-each.new.self) ∙ last_signed WithinAnd marks.And prefix inv.continues.syms c.each.members.items c.push-in-each.new.self.items one inv.some c.in_ok-push-2.ensures.items inv.continues.whole;
      comes = led (Single ∷ AndTail ∷ []) (AndTail ∷ []) [] d
          (chain (Single ∷ AndTail ∷ []) (Single ∷ []) (AndTail ∷ []) d d (omega arith) inv.continues.comes c.in_ok-one.ensures)
          (no_and_comes after d c.in-None.ensures);
    }

pub expr-returns-in_err-first : goal.expr-returns-in_err-first
expr-returns-in_err-first t c =
    let p = err_from_is_err_and c.from_residual.result c.from_residual.ensures.1 in
    let d = c.args.depth in
    let rest = c.args.rest.now in
    let e = c.in_err-first.field-0.0 in
    rw (p.1, p.2) (then_fault (OneExpr ∷ []) (Both ∷ OrTail ∷ []) d e (or_comes rest d) (first_fault (Both ∷ []) (OrTail ∷ []) rest d d e (omega arith) c.in_err-first.ensures))

pub expr-returns-in_err-whole-in-Some : goal.expr-returns-in_err-whole-in-Some
expr-returns-in_err-whole-in-Some t c =
    let from = c.from_residual-in_err-whole-in-Some in
    let p = err_from_is_err_and from.result from.ensures.1 in
    let d = c.args.depth in
    let e = c.in_err-whole-in-Some.field-0.0 in
    let taken = takes_past OrTail (Both ∷ OrTail ∷ []) marks.Or c.in_ok-first.after.now c.in-Some.right.now d c.in-Some.ensures refl in
    rw (p.1, p.2) (then_fault (OneExpr ∷ []) (Both ∷ OrTail ∷ []) d e (or_comes c.args.rest.now d)
    (later_fault (Both ∷ []) (OrTail ∷ []) d d e (omega arith) c.in_ok-first.ensures
    (then_fault (OrTail ∷ []) (Both ∷ OrTail ∷ []) d e taken c.in_err-whole-in-Some.ensures)))

pub expr-returns-in_ok-whole-in-Some : goal.expr-returns-in_ok-whole-in-Some
expr-returns-in_ok-whole-in-Some t c =
    let d = c.args.depth in
    let h = c.in_ok-whole-in-Some.ensures in
    let first = chain (OneExpr ∷ []) (Both ∷ []) (OrTail ∷ []) d d (omega arith) (or_comes c.args.rest.now d) c.in_ok-first.ensures in
    let taken = takes_past OrTail (Both ∷ OrTail ∷ []) marks.Or c.in_ok-first.after.now c.in-Some.right.now d c.in-Some.ensures refl in
    rw h.whole (then_all (OneExpr ∷ []) (Both ∷ OrTail ∷ []) d (composed (OneExpr ∷ []) (OrTail ∷ []) (Both ∷ OrTail ∷ []) d first taken) h.comes)

pub expr-returns-in-None : goal.expr-returns-in-None
expr-returns-in-None t c =
    let d = c.args.depth in
    let mid = c.in_ok-first.after.now in
    let first = chain (OneExpr ∷ []) (Both ∷ []) (OrTail ∷ []) d d (omega arith) (or_comes c.args.rest.now d) c.in_ok-first.ensures in
    rw (raise_or (expr_tree c.in_ok-first.first) c.args.rest.now mid c.in_ok-first.ensures.spells)
    (led (OneExpr ∷ []) (OrTail ∷ []) [] d first (no_or_comes mid d c.in-None.ensures))

pub or_rest-each-init : goal.or_rest-each-init
or_rest-each-init t c = record {
  some = omega (arith, ap length c.in_ok-push.ensures.items, length-append c.new-members.result.items (c.args.first ∷ []));
  continues = record {
    syms = [];
    whole = first_signed WithinOr marks.Or c.new-members.result.items c.push.new.self.items c.args.first c.new-members.ensures.items c.in_ok-push.ensures.items;
    comes = stay (Both ∷ OrTail ∷ []) c.args.rest.now c.args.depth;
  };
}

pub or_rest-returns-in_err-one : goal.or_rest-returns-in_err-one
or_rest-returns-in_err-one t c =
    let p = err_from_is_err_and c.from_residual-in_err-one.result c.from_residual-in_err-one.ensures.1 in
    let d = c.args.depth in
    rw (p.1, p.2) (chain_fault (Both ∷ OrTail ∷ []) (Both ∷ []) (OrTail ∷ []) d d c.in_err-one.field-0.0 (omega arith) c.each.invariant.continues.comes c.in_err-one.ensures)

pub or_rest-each-preserved : goal.or_rest-each-preserved
or_rest-each-preserved t c =
    let d = c.args.depth in
    let old = c.each.members.items in
    let one = c.in_ok-one.one in
    let inv = c.each.invariant in
    let grown = c.in_ok-push-2.ensures.items in
    let prefix = expr_syms WithinOr c.args.first ++ spelling.Key marks.Or ∷ [] in
    record {
      some = omega (arith, ap length grown, length-append old (one ∷ []));
      continues = record {
        syms = (inv.continues.syms ++ expr_syms WithinOr one) ++ spelling.Key marks.Or ∷ [];
        whole = more_signed WithinOr marks.Or prefix inv.continues.syms old c.push-in-each.new.self.items one grown inv.continues.whole;
        comes = composed (Both ∷ OrTail ∷ []) (OrTail ∷ []) (Both ∷ OrTail ∷ []) d
            (chain (Both ∷ OrTail ∷ []) (Both ∷ []) (OrTail ∷ []) d d (omega arith) inv.continues.comes c.in_ok-one.ensures)
            (takes_past OrTail (Both ∷ OrTail ∷ []) marks.Or c.in_ok-one.after.now c.in-Some.right.now d c.in-Some.ensures refl);
      };
    }

pub or_rest-returns-in-None : goal.or_rest-returns-in-None
or_rest-returns-in-None t c =
    let d = c.args.depth in
    let one = c.in_ok-one.one in
    let after = c.in_ok-one.after.now in
    let inv = c.each.invariant in
    let prefix = expr_syms WithinOr c.args.first ++ spelling.Key marks.Or ∷ [] in
    record {
      syms = inv.continues.syms ++ expr_syms WithinOr one;
      whole = ap (spell_expr Anywhere) (or_is c.push-in-each.new.self) ∙ last_signed WithinOr marks.Or prefix inv.continues.syms c.each.members.items c.push-in-each.new.self.items one inv.some c.in_ok-push-2.ensures.items inv.continues.whole;
      comes = led (Both ∷ OrTail ∷ []) (OrTail ∷ []) [] d
          (chain (Both ∷ OrTail ∷ []) (Both ∷ []) (OrTail ∷ []) d d (omega arith) inv.continues.comes c.in_ok-one.ensures)
          (no_or_comes after d c.in-None.ensures);
    }
