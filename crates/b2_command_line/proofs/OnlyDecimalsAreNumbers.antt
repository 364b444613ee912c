-- A word is a number from 1 to a limit exactly where it is that number in decimal; for reading numbers of options.
use Rattle.std.proofs.Common.{◌≡◌, ◌≢◌, ℕ, zero, suc, ◌^◌, ◌<◌, ◌≤◌, Bool, true, false, cond, List, ◌∷◌, get_or, Option, Some, None, Result, Ok, Err, refl, sym, ap, subst, ◌∙◌, ⊎_elim, arith, true≢false}
use Rattle.std.specs.Prelude.{MatchOption, ⊤}
use Rattle.std.specs.Result.{result_ok}
use Rattle.std.specs.Fmt.{decimal}
use Rattle.std.specs.Str.{bytes_eq}
use Rattle.std.specs.Str.Parse.{ParsesUnsigned}
use Rattle.std.proofs.lemmas.Bool.{cases_eq, cases_Bool}
use Rattle.std.proofs.lemmas.Slice.Eq.{bytes_eq-Decides}
use Rattle.std.proofs.lemmas.Str.Parse.{parse_plain}
use Rattle.std.proofs.lemmas.Fmt.{decimal_injective, first_decimal, decimal-digits_value, parse-decimal}
use Rattle.b2_base.specs.Decimals.{has_lead}
use Rattle.b2_base.proofs.DecimalsLackSignAndPadding.{numeral_model as own, no_lead, first_plain, zero_alone}
use Rattle.b2_command_line.specs.Words.{number}

-- a text with one of these is no number's
pub number_lead : (text : List ℕ) → has_lead text ≡ true → (n : ℕ) → n < 2 ^ 32 → text ≢ decimal n
number_lead text lead n lt e = no_lead n text (omega arith) e lead

abbrev is_err_of : {E : Type 0} → Result ℕ E → Type 0
is_err_of (Ok n) = ⊥
is_err_of (Err d) = ⊤

-- what else parses is the number's text
pub number_parsed : {E : Type 0} (text : List ℕ) (r : Result ℕ E) → ParsesUnsigned 32 10 text r → has_lead text ≡ false → MatchOption (result_ok r) ((n : ℕ) → n < 2 ^ 32 → text ≢ decimal n) (λ n. (text ≡ decimal n) × (n < 2 ^ 32))
number_parsed {E} text (Ok n) parses lead =
    let p = parse_plain own {E = E} 32 text (Ok n) parses (first_plain text lead) in
    rw p.1 ((sym (decimal-digits_value own text p.0.0 p.0.1 (zero_alone text lead) (omega (arith, p.0.2))), p.0.2))
number_parsed text (Err d) parses lead = λ n lt is. subst is_err_of (parse-decimal 32 n text (Err d) lt (omega arith) is parses) tt

-- ---- numbers from 1 to a limit

module _ (text : List ℕ) where
  -- whether the text is that of the greatest number
  abbrev number_by : ℕ → Bool → Option ℕ
  number_by m b = cond b (Some (suc m)) (number m text)

  pub number_none : (most : ℕ) → ((n : ℕ) → 0 < n → n ≤ most → text ≢ decimal n) → number most text ≡ None
  unfolding number
  number_none zero none = refl
  number_none (suc m) none = ⊎_elim
      (λ e. absurd (none (suc m) (omega arith) (omega arith) (sym ((bytes_eq-Decides (decimal (suc m)) text).0 e))))
      (λ e. ap (number_by m) e ∙ number_none m (λ n some le. none n some (omega arith)))
      (cases_Bool (bytes_eq (decimal (suc m)) text))

  pub number_some : (most n : ℕ) → most < 2 ^ 32 → 0 < n → n ≤ most → text ≡ decimal n → number most text ≡ Some n
  unfolding number
  number_some zero n small some le is = absurd (omega arith)
  number_some (suc m) n small some le is = ⊎_elim
      (λ e. ap (number_by m) e ∙ ap (λ (k : ℕ). Some k) (decimal_injective (suc m) n (omega arith) (omega arith) ((bytes_eq-Decides (decimal (suc m)) text).0 e ∙ is)))
      (λ e. ap (number_by m) e ∙ number_some m n (omega arith) some (less e) is)
      (cases_Bool (bytes_eq (decimal (suc m)) text))
    where
      less : bytes_eq (decimal (suc m)) text ≡ false → n ≤ m
      less e = ⊎_elim
          (λ same. absurd (true≢false (sym ((bytes_eq-Decides (decimal (suc m)) text).1 (sym (is ∙ ap decimal same))) ∙ e)))
          (λ other. omega (arith, le, other))
          (cases_eq n (suc m))

-- no number begins with a hyphen
pub number_hyphen : (most : ℕ) (rest : List ℕ) → most < 2 ^ 32 → number most (45 ∷ rest) ≡ None
number_hyphen most rest small = number_none (45 ∷ rest) most (λ n some le e.
    let big = first_decimal n some (omega arith) in
    let same = ap (λ (t : List ℕ). get_or t 0 0) e in
    omega (arith, big, same))

-- what the code's number is, by its tests
pub number_found : (text : List ℕ) (most n : ℕ) → most < 2 ^ 32 → text ≡ decimal n → 0 < n → n ≤ most → Some n ≡ number most text
number_found text most n small is some le = sym (number_some text most n small some le is)

pub number_outside : (text : List ℕ) (most n : ℕ) → most < 2 ^ 32 → n < 2 ^ 32 → text ≡ decimal n → ((0 < n) → n ≤ most → ⊥) → None ≡ number most text
number_outside text most n small small_n is outside = sym (number_none text most (λ m some le e.
    let same = decimal_injective n m (omega arith) (omega arith) (sym is ∙ e) in
    outside (omega (arith, same, some)) (omega (arith, same, le))))

pub number_untold : (text : List ℕ) (most : ℕ) → most < 2 ^ 32 → ((n : ℕ) → n < 2 ^ 32 → text ≢ decimal n) → None ≡ number most text
number_untold text most small none = sym (number_none text most (λ n some le. none n (omega arith)))
