-- Each word is `--`, goes on after `--` or after one `-`, or is plain; for reading words case by case.
use Rattle.std.proofs.Common.{◌≡◌, ℕ, Bool, false, cond, ◌&&◌, ◌==◌, [], ◌∷◌, None, Some, refl, sym, ap, subst, ⊎_elim, option_and_then}
use Rattle.std.proofs.lemmas.Bool.{cases_Bool, eqb-true}
use Rattle.std.specs.Str.{bytes_eq}
use Rattle.clap.specs.Lexer.{long_of, long_of_rest, short_of, short_of_rest, strip_byte}
use Rattle.clap.specs.Words.{Text}
use Rattle.b2_command_line.specs.Words.{after_hyphen}

pub data Kind (w : Text) : Type 0 where
  dashes : w ≡ 45 ∷ 45 ∷ [] → Kind w
  long : (x : ℕ) (xs : Text) → w ≡ 45 ∷ 45 ∷ x ∷ xs → Kind w
  short : (d : ℕ) (rest : Text) → (d == 45) ≡ false → w ≡ 45 ∷ d ∷ rest → Kind w
  plain : bytes_eq w (45 ∷ 45 ∷ []) ≡ false → long_of w ≡ None → short_of w ≡ None → after_hyphen w ≡ None → Kind w

two_dashes : (rest : Text) → Kind (45 ∷ 45 ∷ rest)
two_dashes [] = dashes refl
two_dashes (x ∷ xs) = long x xs refl

pub kind_of_word : (w : Text) → Kind w
kind_of_word [] = plain refl refl refl refl
kind_of_word (c ∷ []) = ⊎_elim
    (λ e. subst (λ (x : ℕ). Kind (x ∷ [])) (sym (eqb-true c 45 e)) (plain refl refl refl refl))
    (λ e. plain (ap (λ (b : Bool). b && false) e)
    (ap (λ (b : Bool). option_and_then long_of_rest (option_and_then (strip_byte 45) (cond b (Some []) None))) e)
    (ap (λ (b : Bool). option_and_then short_of_rest (cond b (Some []) None)) e) refl)
    (cases_Bool (c == 45))
kind_of_word (c ∷ d ∷ rest) = ⊎_elim
    (λ e. subst (λ (x : ℕ). Kind (x ∷ d ∷ rest)) (sym (eqb-true c 45 e)) (⊎_elim
    (λ h. subst (λ (x : ℕ). Kind (45 ∷ x ∷ rest)) (sym (eqb-true d 45 h)) (two_dashes rest))
    (λ h. short d rest h refl)
    (cases_Bool (d == 45))))
    (λ e. plain (ap (λ (b : Bool). b && bytes_eq (d ∷ rest) (45 ∷ [])) e)
    (ap (λ (b : Bool). option_and_then long_of_rest (option_and_then (strip_byte 45) (cond b (Some (d ∷ rest)) None))) e)
    (ap (λ (b : Bool). option_and_then short_of_rest (cond b (Some (d ∷ rest)) None)) e)
    (ap (λ (b : Bool). cond b (Some (d ∷ rest)) None) e))
    (cases_Bool (c == 45))
