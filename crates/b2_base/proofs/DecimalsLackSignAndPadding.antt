-- A number's text has no sign and no leading zero, which `has_lead` tests; for the parsing of numbers.
use Rattle.std.proofs.Common.{◌≡◌, ◌≢◌, ℕ, ◌^◌, ◌<◌, true, false, List, [], ◌∷◌, length, get_or, refl, sym, ap, subst, ◌∙◌, inl, inr, arith}
use Rattle.std.specs.Fmt.{decimal}
use Rattle.std.specs.Str.Parse.{AllDigits, digits_value}
use Rattle.std.proofs.lemmas.Bool.{cases_lt}
use Rattle.std.proofs.lemmas.Bool.Decides.{eqb_tells}
use Rattle.std.proofs.lemmas.Str.Parse.{IsNumeralModel, numerals_by_value, tells_digits, not_in_digits}
use Rattle.std.proofs.lemmas.Fmt.{decimal_digit, first_decimal, digits_decimal}
use Rattle.b2_base.specs.Decimals.{has_lead}

pub numeral_model : IsNumeralModel (AllDigits 10) (digits_value 10)
numeral_model = numerals_by_value (AllDigits 10) tells_digits

no_plus : (n : ℕ) (text : List ℕ) → n < 2 ^ 64 → text ≡ decimal n → 0 < length text → get_or text 0 0 ≢ 43
no_plus n text lt e long = rw e (not_in_digits numeral_model (decimal n) 43 (digits_decimal numeral_model n lt) (λ r. omega arith) 0 (subst (λ (t : List ℕ). 0 < length t) e long))

false_true : false ≡ true → ⊥
false_true e = cc

no_zero_first : (n first second : ℕ) (more : List ℕ) → n < 2 ^ 64 → first ∷ second ∷ more ≡ decimal n → first ≡ 48 → ⊥
no_zero_first n first second more lt e z = elim (cases_lt 0 n) [
  | inl low ↦ let big = first_decimal n low lt in let same = ap (λ (t : List ℕ). get_or t 0 0) e in omega (arith, big, same, z)
  | inr high ↦
      let zero : n ≡ 0 = omega arith in
      let one = ap length (e ∙ ap decimal zero ∙ decimal_digit 0 (omega arith)) in
      omega (arith, one)
]

-- a number's text has no sign and no leading zero
pub no_lead : (n : ℕ) (text : List ℕ) → n < 2 ^ 64 → text ≡ decimal n → has_lead text ≡ true → ⊥
no_lead n [] lt e lead = false_true lead
no_lead n (first ∷ []) lt e lead = elim (eqb_tells first 43) [
  | inl y ↦ no_plus n (first ∷ []) lt e (omega arith) y.1
  | inr m ↦ false_true (sym m.0 ∙ lead)
]
no_lead n (first ∷ second ∷ more) lt e lead = elim (eqb_tells first 43) [
  | inl y ↦ no_plus n (first ∷ second ∷ more) lt e (omega arith) y.1
  | inr m ↦ elim (eqb_tells first 48) [
    | inl y ↦ no_zero_first n first second more lt e y.1
    | inr k ↦ false_true (rw (m.0, k.0) at lead)
  ]
]

pub first_plain : (text : List ℕ) → has_lead text ≡ false → get_or text 0 0 ≢ 43
first_plain [] lead e = absurd (omega arith)
first_plain (first ∷ []) lead e = elim (eqb_tells first 43) [ inl y ↦ false_true (sym lead ∙ y.0) | inr m ↦ m.1 e ]
first_plain (first ∷ second ∷ more) lead e = elim (eqb_tells first 43) [ inl y ↦ false_true (sym (rw y.0 at lead)) | inr m ↦ m.1 e ]

pub zero_alone : (text : List ℕ) → has_lead text ≡ false → get_or text 0 0 ≡ 48 → length text ≡ 1
zero_alone [] lead e = absurd (omega arith)
zero_alone (first ∷ []) lead e = refl
zero_alone (first ∷ second ∷ more) lead e = elim (eqb_tells first 43) [
  | inl y ↦ absurd (omega arith)
  | inr m ↦ elim (eqb_tells first 48) [ inl y ↦ absurd (false_true (sym (rw (m.0, y.0) at lead))) | inr k ↦ absurd (k.1 e) ]
]
