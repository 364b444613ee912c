use Rattle.std.proofs.Common.{ap, ◌∙◌, arith}
use Rattle.jam_grammar.proofs.TreesAreThoseOfElements.{or_is, and_is}
use Rattle.jam_grammar.specs.Spelling.{Anywhere, spell_expr, joined_syms, expr_syms}
use Rattle.jam_printer.specs.Joints.{joint_mark, joint_level}
use Rattle.jam_printer.specs.Lexemes.{written_as}
use Rattle.jam_printer.proofs.PartsAreWrittenInTurn.{at_end, joined_flat, after_mark}
use Rattle.jam_printer.proofs.exprs.+exprs.Goals as goal

pub push_after-returns : goal.push_after-returns
push_after-returns t c = at_end (after_mark c.args.joint) (joined_syms (joint_level c.args.joint) (joint_mark c.args.joint)) c.args.members.now c.loop-member.member-index _ _ (omega arith) (joined_flat c.args.joint c.args.members.now) c.loop-member.invariant

pub push_expr-returns-in-Or : goal.push_expr-returns-in-Or
push_expr-returns-in-Or t c =
    rw (ap (λ e. written_as (expr_syms Anywhere e)) c.in-Or.is ∙ ap (λ e. written_as (spell_expr Anywhere e)) (or_is c.in-Or.members))
    (rw c.deref.ensures.value at c.push_members.ensures)

pub push_expr-returns-in-And : goal.push_expr-returns-in-And
push_expr-returns-in-And t c =
    rw (ap (λ e. written_as (expr_syms Anywhere e)) c.in-And.is ∙ ap (λ e. written_as (spell_expr Anywhere e)) (and_is c.in-And.members))
    (rw c.deref-in-And.ensures.value at c.push_members-in-And.ensures)
