use Rattle.std.proofs.Common.{◌≡◌, ℕ, inr, Result, Err, ap, subst}
use Rattle.std.specs.Global.{Vec}
use Rattle.b2_base.specs.declared.token.Token.{Token}
use Rattle.jam_lexer.specs.declared.fault.LexFault.{LexFault}
use Rattle.jam_lexer.specs.declared.fault.LexFault.TheVariants as faults
use Rattle.jam_lexer.specs.Answers.{IsFirstBad}
use Rattle.jam_lexer.proofs.FirstBadByteEndsText.{one_bad, bad_is_no_text}
use Rattle.jam_lexer.proofs.CallGivesTheOnlyAnswer.{bad_given, text_given, text_is_no_bad}
use Rattle.jam_lexer.proofs.lex.Goals as goal

as_error : LexFault → Result (Vec Token) LexFault
as_error fault = Err fault

same_place : (at other : ℕ) → as_error (faults.NotUtf8 at) ≡ as_error (faults.NotUtf8 other) → at ≡ other
unfolding as_error
same_place at other e = cc

pub returns-in-Some-clause-not_utf8 : goal.returns-in-Some-clause-not_utf8
unfolding as_error
returns-in-Some-clause-not_utf8 c =
    λ at. (
      (λ e. subst (IsFirstBad c.args.bytes.now) (same_place c.in-Some.at at e) c.in-Some.ensures.found),
      (λ bad. ap (λ (x : ℕ). as_error (faults.NotUtf8 x)) (one_bad c.args.bytes.now c.in-Some.at at c.in-Some.ensures.found bad)),
    )

pub returns-in-Some-clause-no_other : goal.returns-in-Some-clause-no_other
returns-in-Some-clause-no_other c = λ answer is. inr (bad_given c.args.bytes.now c.in-Some.at c.in-Some.ensures.found answer is)

pub returns-clause-not_utf8 : goal.returns-clause-not_utf8
returns-clause-not_utf8 c =
    λ at. (
      (λ e. absurd (text_is_no_bad c.args.bytes.now c.read_text.result at c.read_text.ensures.err e)),
      (λ bad. absurd (bad_is_no_text c.args.bytes.now at bad c.in_default.ensures.none)),
    )

pub returns-clause-no_other : goal.returns-clause-no_other
returns-clause-no_other c = text_given c.args.bytes.now c.read_text.result c.in_default.ensures.none c.read_text.ensures.ok c.read_text.ensures.err
