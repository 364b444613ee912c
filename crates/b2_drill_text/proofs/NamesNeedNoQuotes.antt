-- A letter and the digits of a number are a word that needs no quotes, and a plain one.
use Rattle.std.proofs.Common.{◌≡◌, ℕ, ◌<◌, ◌≤◌, ◌^◌, ◌+◌, ◌%◌, suc, false, eqb, List, [], ◌∷◌, ◌++◌, length, ◌||◌, refl, ap, ◌∙◌, arith}
use Rattle.std.specs.Fmt.{decimal}
use Rattle.std.specs.List.{AllByRecursion, list_any}
use Rattle.std.proofs.lemmas.Fmt.{decimal_by_steps, IsAscii-decimal}
use Rattle.std.proofs.lemmas.List.Elements.{All-from_recursion, All-append}
use Rattle.std.proofs.lemmas.Str.{IsUtf8-append, IsUtf8-from_ascii}
use Rattle.jam_lexer.specs.Tokens.{IsText}
use Rattle.jam_spelling.proofs.SpelledLexemesAreText.{one_text}
use Rattle.jam_grammar.specs.Marks.{mark_of_word}
use Rattle.jam_grammar.specs.declared.mark.TokenMark.TheVariants as m
use Rattle.jam_spelling.specs.Spelling.{needs_quotes, is_special}

-- the byte of a digit
pub record IsDigit (byte : ℕ) : Type 0 where
  pub low : 47 < byte
  pub high : byte < 58

with_last : (ds : List ℕ) (d : ℕ) → AllByRecursion IsDigit ds → IsDigit d → AllByRecursion IsDigit (ds ++ d ∷ [])
with_last [] d h last = (last, tt)
with_last (b ∷ ds) d h last = (h.0, with_last ds d h.1 last)

pub all_digits : (n : ℕ) → n < 2 ^ 64 → AllByRecursion IsDigit (decimal n)
all_digits =
    decimal_by_steps (λ n ds. AllByRecursion IsDigit ds) (λ n h. (record { low = omega arith; high = omega arith }, tt))
    (λ n ds h before. with_last ds (48 + n % 10) before (record { low = omega arith; high = omega arith }))

digit_is_ordinary : (d : ℕ) → IsDigit d → is_special d ≡ false
digit_is_ordinary d h = let low : 47 < d = h.low in let high : d < 58 = h.high in grind (arith, low, high)

differs : (d other : ℕ) → IsDigit d → 58 ≤ other → eqb d other ≡ false
differs d other h above = let high : d < 58 = h.high in grind (arith, high, above)

pub some_bytes : (k : ℕ) → eqb (suc k) 0 ≡ false
some_bytes k = grind arith

not_special : (ds : List ℕ) → AllByRecursion IsDigit ds → list_any is_special ds ≡ false
not_special [] h = refl
not_special (d ∷ ds) h = ap (λ b. b || list_any is_special ds) (digit_is_ordinary d h.0) ∙ not_special ds h.1

source_bare : (ds : List ℕ) → AllByRecursion IsDigit ds → needs_quotes (115 ∷ ds) ≡ false
unfolding needs_quotes
source_bare [] h = refl
source_bare (d ∷ ds) h = rw (some_bytes (suc (length ds)), differs d 119 h.0 (omega arith), not_special (d ∷ ds) h) refl

target_bare : (ds : List ℕ) → AllByRecursion IsDigit ds → needs_quotes (116 ∷ ds) ≡ false
unfolding needs_quotes
target_bare ds h = rw (some_bytes (length ds), not_special ds h) refl

source_plain : (ds : List ℕ) → mark_of_word (115 ∷ ds) ≡ m.Plain
unfolding mark_of_word
source_plain ds = refl

target_plain : (ds : List ℕ) → AllByRecursion IsDigit ds → mark_of_word (116 ∷ ds) ≡ m.Plain
unfolding mark_of_word
target_plain [] h = refl
target_plain (d ∷ ds) h = rw (differs d 111 h.0 (omega arith)) refl

-- ---- the names

pub source_needs_none : (n : ℕ) → n < 2 ^ 64 → needs_quotes (115 ∷ decimal n) ≡ false
source_needs_none n small = source_bare (decimal n) (all_digits n small)

pub target_needs_none : (n : ℕ) → n < 2 ^ 64 → needs_quotes (116 ∷ decimal n) ≡ false
target_needs_none n small = target_bare (decimal n) (all_digits n small)

pub source_is_plain : (n : ℕ) → mark_of_word (115 ∷ decimal n) ≡ m.Plain
source_is_plain n = source_plain (decimal n)

pub target_is_plain : (n : ℕ) → n < 2 ^ 64 → mark_of_word (116 ∷ decimal n) ≡ m.Plain
target_is_plain n small = target_plain (decimal n) (all_digits n small)

positive : (ds : List ℕ) → AllByRecursion IsDigit ds → AllByRecursion (λ c. 0 < c) ds
positive [] h = tt
positive (d ∷ ds) h = let low : 47 < d = h.0.low in (omega (arith, low), positive ds h.1)

-- a letter before digits is a text
pub named_text : (letter n : ℕ) → 0 < letter → letter < 128 → n < 2 ^ 64 → IsText (letter ∷ decimal n)
named_text letter n some low small =
    let first : IsText (letter ∷ []) = one_text letter some low in (
      IsUtf8-append (letter ∷ []) (decimal n) first.0 (IsUtf8-from_ascii (decimal n) (IsAscii-decimal n small)),
      All-append (λ c. 0 < c) (letter ∷ []) (decimal n) first.1 (All-from_recursion (λ c. 0 < c) (decimal n) (positive (decimal n) (all_digits n small))),
    )
