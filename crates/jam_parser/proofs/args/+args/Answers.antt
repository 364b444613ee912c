use Rattle.std.proofs.Common.{length-append, suc, ◌≡◌, ◌∷◌, [], ◌++◌, ◌+◌, ◌-◌, length, sym, ap, ◌∙◌, arith, refl}
use Rattle.std.proofs.lemmas.Result.{MatchResult-weaker, err_from_is_err_and}
use Rattle.jam_grammar.specs.declared.mark.TokenMark.TheVariants as marks
use Rattle.jam_grammar.specs.Spelling as spelling
use Rattle.jam_grammar.specs.Spelling.{spell_inner, arg_syms, inner_syms}
use Rattle.jam_grammar.specs.Grammar.{OneArg, Args, More, OneInner, InnerTail, Shut, Key}
use Rattle.jam_parser.proofs.ReadingsCompose.{chain, chain_fault, then_all, then_fault, composed, led, in_order, shut, shut_fault, takes_past, opens_past}
use Rattle.jam_grammar.proofs.TreesAreThoseOfElements.{call_is, on_return_is}
use Rattle.jam_parser.proofs.ArgumentsAreReadInTurn.{arg_comes, more_args, call_comes, inner_comes, more_lists, colon_comes, lists_stop}
use Rattle.jam_parser.proofs.args.+args.Goals as goal

pub arg-returns-in-Some : goal.arg-returns-in-Some
arg-returns-in-Some t c =
    let d = c.args.depth in
    let at = c.in-Some in
    let come = opens_past OneArg (OneInner ∷ Key marks.SquareClose ∷ []) marks.SquareOpen c.args.rest.now at.after.now 1 d (omega (arith, c.if-depth-lt-MAX_OPEN.true)) at.ensures refl in
    MatchResult-weaker c.bracket.result c.bracket.ensures
    (λ r h. rw h.whole (then_all (OneArg ∷ []) (OneInner ∷ Key marks.SquareClose ∷ []) d come h.comes))
    (λ e h. then_fault (OneArg ∷ []) (OneInner ∷ Key marks.SquareClose ∷ []) d e come h)

pub bracket-returns : goal.bracket-returns
bracket-returns t c =
    let d = c.args.depth in
    record {
      syms = _;
      whole = ap (λ i. spelling.Key marks.SquareOpen ∷ (inner_syms i ++ spelling.Key marks.SquareClose ∷ [])) c.in_ok-inner-2.ensures.ok;
      comes = in_order (OneInner ∷ []) (Key marks.SquareClose ∷ []) d (d + 1) (omega arith) c.in_ok-inner.ensures c.in_ok-after.ensures;
    }

pub call_inside-returns : goal.call_inside-returns
call_inside-returns t c =
    let d = c.args.depth in
    rw (ap spell_inner (call_is c.in_ok-head.head c.in_ok-lists.lists))
    (in_order (OneArg ∷ []) (Args ∷ More 8 ∷ []) d d (omega arith) c.in_ok-head.ensures c.in_ok-lists.ensures)

pub inside-returns-in-Some : goal.inside-returns-in-Some
inside-returns-in-Some t c =
    let d = c.args.depth in
    let at = c.in-Some in
    let come = opens_past OneInner (OneArg ∷ InnerTail ∷ Shut ∷ []) marks.On c.args.rest.now at.after.now 1 d (omega (arith, c.if-depth-lt-MAX_OPEN.true)) at.ensures refl in
    MatchResult-weaker c.on_inside.result c.on_inside.ensures
    (λ r h. rw h.whole (then_all (OneInner ∷ []) (OneArg ∷ InnerTail ∷ Shut ∷ []) d come (shut (OneArg ∷ InnerTail ∷ []) d h.comes)))
    (λ e h. then_fault (OneInner ∷ []) (OneArg ∷ InnerTail ∷ Shut ∷ []) d e come (shut_fault (OneArg ∷ InnerTail ∷ []) at.after.now d e h))

pub inside-returns-in-None : goal.inside-returns-in-None
inside-returns-in-None t c =
    let d = c.args.depth in
    let come = call_comes c.args.rest.now d c.in-None.ensures in
    MatchResult-weaker c.call_inside.result c.call_inside.ensures
    (λ r h. then_all (OneInner ∷ []) (OneArg ∷ Args ∷ More 8 ∷ []) d come h)
    (λ e h. then_fault (OneInner ∷ []) (OneArg ∷ Args ∷ More 8 ∷ []) d e come h)

pub on_inside-returns-in_ok-value-in-Some : goal.on_inside-returns-in_ok-value-in-Some
on_inside-returns-in_ok-value-in-Some t c =
    let d = c.args.depth in
    let target = c.in_ok-target in
    let value = c.in_ok-value-in-Some in
    record {
      syms = _;
      whole = ap spell_inner (on_return_is target.target value.value);
      comes = in_order (OneArg ∷ []) (InnerTail ∷ []) d d (omega arith) target.ensures
          (then_all (InnerTail ∷ []) (Args ∷ []) d (takes_past InnerTail (Args ∷ []) marks.Return target.after.now c.in-Some.after.now d c.in-Some.ensures refl) value.ensures);
    }

pub on_inside-returns-in_ok-inner-in-None-2 : goal.on_inside-returns-in_ok-inner-in-None-2
on_inside-returns-in_ok-inner-in-None-2 t c =
    let d = c.args.depth in
    let target = c.in_ok-target in
    record {
      syms = _;
      whole = ap (λ i. spelling.Key marks.On ∷ (arg_syms target.target ++ inner_syms i)) c.in_ok-inner-in-None-2.ensures.ok;
      comes = in_order (OneArg ∷ []) (InnerTail ∷ []) d d (omega arith) target.ensures
          (then_all (InnerTail ∷ []) (OneInner ∷ []) d (inner_comes target.after.now d c.in-None.ensures) c.in_ok-inner-in-None.ensures);
    }

pub args-returns-in_err-one : goal.args-returns-in_err-one
args-returns-in_err-one t c =
    let p = err_from_is_err_and c.from_residual.result c.from_residual.ensures.1 in
    let d = c.args.depth in
    let left = c.each.left.now in
    rw (p.1, p.2) (chain_fault (Args ∷ []) (OneArg ∷ []) (Args ∷ []) d d c.in_err-one.field-0.0 (omega arith)
    (led (Args ∷ []) (Args ∷ []) (OneArg ∷ Args ∷ []) d c.each.invariant (arg_comes left d (sym c.at_arg.ensures ∙ c.each-test.true))) c.in_err-one.ensures)

pub args-each-preserved : goal.args-each-preserved
args-each-preserved t c =
    let d = c.args.depth in
    let left = c.each.left.now in
    rw (more_args c.each.found.items c.push.new.self.items c.in_ok-one.one c.in_ok-push.ensures.items)
    (chain (Args ∷ []) (OneArg ∷ []) (Args ∷ []) d d (omega arith)
    (led (Args ∷ []) (Args ∷ []) (OneArg ∷ Args ∷ []) d c.each.invariant (arg_comes left d (sym c.at_arg.ensures ∙ c.each-test.true))) c.in_ok-one.ensures)

pub lists-colon-preserved : goal.lists-colon-preserved
lists-colon-preserved t c =
    let d = c.args.depth in
    let left = c.colon.left.now in
    let old = c.colon.found.items in
    let new = c.push-in-Some.new.self.items in
    let list = c.in_ok-list.list in
    let grown = c.in_ok-push-2.ensures.items in
    let fewer : 9 - length old ≡ suc (9 - length new) = omega (arith, ap length grown, length-append old (list ∷ []), c.in-Some.ensures.0, c.len.ensures) in
    rw (more_lists c.args.rest.now left old new list c.colon.invariant.spells grown)
    (composed (Args ∷ More 8 ∷ []) (More (9 - length old) ∷ []) (More (9 - length new) ∷ []) d c.colon.invariant
    (chain (More (9 - length old) ∷ []) (Args ∷ []) (More (9 - length new) ∷ []) d d (omega arith) (colon_comes left c.in-Some.after.now (9 - length new) (9 - length old) d fewer c.in-Some.ensures.1) c.in_ok-list.ensures))

pub lists-returns : goal.lists-returns
lists-returns t c =
    let d = c.args.depth in
    led (Args ∷ More 8 ∷ []) (More (9 - length c.colon.found.items) ∷ []) [] d c.colon.invariant (lists_stop c.colon.left.now (length c.colon.found.items) d (λ h. c.in_default.ensures (omega (arith, c.len.ensures))))
