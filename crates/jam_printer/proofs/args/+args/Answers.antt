use Rattle.std.proofs.Common.{ap, ◌∙◌, arith}
use Rattle.std.proofs.lemmas.List.{append_assoc}
use Rattle.jam_grammar.specs.Spelling.{arg_syms, args_syms, further_syms, inner_syms, spell_inner}
use Rattle.jam_printer.proofs.PartsAreWrittenInTurn.{written_append, at_end, args_flat, after_colon, further_flat}
use Rattle.jam_grammar.proofs.TreesAreThoseOfElements.{call_is, on_return_is}
use Rattle.jam_printer.proofs.args.+args.Goals as goal

pub push_args-returns : goal.push_args-returns
push_args-returns t c = at_end arg_syms args_syms c.args.args.now c.loop-arg.arg-index _ _ (omega arith) (args_flat c.args.args.now) c.loop-arg.invariant

pub push_further-returns : goal.push_further-returns
push_further-returns t c = at_end after_colon further_syms c.args.lists.now c.loop-list.list-index _ _ (omega arith) (further_flat c.args.lists.now) c.loop-list.invariant

pub push_inner-returns-in_ok-push_arg-in-Call : goal.push_inner-returns-in_ok-push_arg-in-Call
push_inner-returns-in_ok-push_arg-in-Call t c =
    rw (ap inner_syms c.in-Call.is ∙ ap spell_inner (call_is c.in-Call.head c.in-Call.lists))
    (simp (written_append, append_assoc)
    (simp (c.deref.ensures.value, c.in_ok-push_arg-in-Call.ensures, append_assoc) at c.push_lists.ensures))

pub push_inner-returns-in_ok-push_key-in-OnReturn-2 : goal.push_inner-returns-in_ok-push_key-in-OnReturn-2
push_inner-returns-in_ok-push_key-in-OnReturn-2 t c =
    rw (ap inner_syms c.in-OnReturn.is ∙ ap spell_inner (on_return_is c.in-OnReturn.target c.in-OnReturn.value))
    (simp (written_append, append_assoc)
    (simp (c.deref-in-OnReturn.ensures.value, c.in_ok-push_key-in-OnReturn-2.ensures, c.in_ok-push_arg-in-OnReturn.ensures, c.in_ok-push_key-in-OnReturn.ensures, append_assoc) at c.push_args.ensures))
