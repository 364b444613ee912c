-- A text with a sign or zeros in front is no number's; any other that parses is the decimal of what it parses as.
use Rattle.std.proofs.Common.{◌≡◌, ◌≢◌, ℕ, ◌^◌, ◌<◌, true, false, List, Result, Ok, Err, sym, subst, arith}
use Rattle.std.specs.Prelude.{MatchOption, ⊤}
use Rattle.std.specs.Result.{result_ok}
use Rattle.std.specs.Fmt.{decimal}
use Rattle.std.specs.Str.Parse.{ParsesUnsigned}
use Rattle.std.proofs.lemmas.List.{get_or_default}
use Rattle.std.proofs.lemmas.Str.{IsUtf8-from_ascii}
use Rattle.std.proofs.lemmas.Str.Parse.{parse_plain, digit_at}
use Rattle.std.proofs.lemmas.Fmt.{decimal-digits_value, digits_decimal, parse-decimal, IsAscii-decimal}
use Rattle.b2_base.specs.Decimals.{has_lead}
use Rattle.b2_base.proofs.DecimalsLackSignAndPadding.{numeral_model as own, no_lead, first_plain, zero_alone}
use Rattle.b2_log.specs.Good.{IsText}

-- a text with one of these is no number's
pub number_lead : (text : List ℕ) → has_lead text ≡ true → (n : ℕ) → n < 2 ^ 64 → text ≢ decimal n
number_lead text lead n lt e = no_lead n text lt e lead

abbrev is_err_of : {E : Type 0} → Result ℕ E → Type 0
is_err_of (Ok n) = ⊥
is_err_of (Err d) = ⊤

-- what else parses is the number's text
pub number_parsed : {E : Type 0} (text : List ℕ) (r : Result ℕ E) → ParsesUnsigned 64 10 text r → has_lead text ≡ false → MatchOption (result_ok r) ((n : ℕ) → n < 2 ^ 64 → text ≢ decimal n) (λ n. text ≡ decimal n)
number_parsed {E} text (Ok n) parses lead =
    let p = parse_plain own {E = E} 64 text (Ok n) parses (first_plain text lead) in
    rw p.1 (sym (decimal-digits_value own text p.0.0 p.0.1 (zero_alone text lead) p.0.2))
number_parsed text (Err d) parses lead = λ n lt is. subst is_err_of (parse-decimal 64 n text (Err d) lt lt is parses) tt

-- a number is written as text
pub decimal_text : (n : ℕ) → n < 2 ^ 64 → IsText (decimal n)
decimal_text n lt = record {
  utf8 = IsUtf8-from_ascii (decimal n) (IsAscii-decimal n lt);
  no_zero = λ k d below. let range = digit_at (decimal n) k (digits_decimal own n lt) below in omega (arith, range.0, get_or_default (decimal n) k d 0 below);
}
