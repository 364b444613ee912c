-- Any answer that bytes can have is the one that the call gave, be they text or not, unless memory ran out.
use Rattle.std.proofs.Common.{◌≡◌, ℕ, inl, inr, List, [], refl, Result, Ok, Err}
use Rattle.std.specs.Result.{IfOk, IfErr, IsErrOf}
use Rattle.std.specs.Global.{Vec}
use Rattle.b2_base.specs.declared.token.Token.{Token}
use Rattle.jam_lexer.specs.declared.fault.LexFault.{LexFault}
use Rattle.jam_lexer.specs.declared.fault.LexFault.TheVariants as faults
use Rattle.jam_lexer.specs.Tokens.{Stand, IsEnd, IsText}
use Rattle.jam_lexer.specs.Answers.{IsFirstBad, IsAnswer, IsGivenBy}
use Rattle.jam_lexer.specs.Progress.{IsMet}
use Rattle.jam_lexer.proofs.OneAnswer.{one_answer, refused}

-- bytes that are no text have one fault
pub bad_given : (bytes : List ℕ) (at : ℕ) → IsFirstBad bytes at → (answer : Result (List Token) LexFault) → IsAnswer bytes answer → answer ≡ refused (faults.NotUtf8 at)
bad_given bytes at bad answer is = one_answer bytes answer (Err (faults.NotUtf8 at)) is bad

-- what reading a text gives
pub text_given : (bytes : List ℕ) (r : Result (Vec Token) LexFault) → IsText bytes → IfOk r (λ tokens. Stand bytes (IsEnd bytes) [] tokens.items) → IfErr r (IsMet bytes) → (answer : Result (List Token) LexFault) → IsAnswer bytes answer → IsGivenBy r answer
text_given bytes (Ok tokens) text ok err answer is = one_answer bytes answer (Ok tokens.items) is (text, ok)
text_given bytes (Err (faults.NotUtf8 at)) text ok err answer is = absurd err
text_given bytes (Err (faults.OpenQuote line)) text ok err answer is = inr (one_answer bytes answer (Err (faults.OpenQuote line)) is (text, err))
text_given bytes (Err (faults.OpenActions line)) text ok err answer is = inr (one_answer bytes answer (Err (faults.OpenActions line)) is (text, err))
text_given bytes (Err faults.OutOfMemory) text ok err answer is = inl refl

-- a text is never refused as none
pub text_is_no_bad : (bytes : List ℕ) (r : Result (Vec Token) LexFault) (at : ℕ) → IfErr r (IsMet bytes) → IsErrOf r (faults.NotUtf8 at) → ⊥
text_is_no_bad bytes (Ok tokens) at err is = cc
text_is_no_bad bytes (Err (faults.NotUtf8 other)) at err is = err
text_is_no_bad bytes (Err (faults.OpenQuote line)) at err is = cc
text_is_no_bad bytes (Err (faults.OpenActions line)) at err is = cc
text_is_no_bad bytes (Err faults.OutOfMemory) at err is = cc
