-- Looking for an `n` letter by letter, and for a grouped word, word by word.
use Rattle.std.proofs.Common.{◌≡◌, ◌≢◌, ℕ, ◌+◌, ◌<◌, ◌≤◌, ◌==◌, Bool, true, false, cond, ◌||◌, List, length, get_or, drop, codes, sym, ap, ◌∙◌, eq-eqb, ne_eqb}
use Rattle.std.proofs.lemmas.List.{at_drop_more, at_drop_all}
use Rattle.std.specs.Str.{bytes_eq}
use Rattle.b2_command_line.specs.Words.{Word}
use Rattle.b2_command_line.specs.Grouped.{has_n, is_grouped, any_grouped}

-- the letter at a place decides, or those after it do
abbrev letter_by : Word → ℕ → Bool → Bool → Bool
letter_by xs i n j = cond n true (cond j false (has_n (drop (i + 1) xs)))

letter_at : (xs : Word) (i d : ℕ) → i < length xs → has_n (drop i xs) ≡ letter_by xs i (get_or xs i d == 110) (get_or xs i d == 106)
unfolding has_n
letter_at xs i d lt = at_drop_more has_n xs i d lt

letters_end : (xs : Word) (i : ℕ) → length xs ≤ i → has_n (drop i xs) ≡ false
unfolding has_n
letters_end xs i le = at_drop_all has_n xs i le

module _ (xs : Word) (i d : ℕ) (lt : i < length xs) where
  pub n_found : get_or xs i d ≡ 110 → has_n (drop i xs) ≡ has_n xs → true ≡ has_n xs
  n_found is rest = sym (letter_at xs i d lt ∙ ap (λ (b : Bool). letter_by xs i b (get_or xs i d == 106)) (eq-eqb (get_or xs i d) 110 is)) ∙ rest

  pub j_found : get_or xs i d ≢ 110 → get_or xs i d ≡ 106 → has_n (drop i xs) ≡ has_n xs → false ≡ has_n xs
  j_found other is rest =
      sym (letter_at xs i d lt ∙ ap (λ (b : Bool). letter_by xs i b (get_or xs i d == 106)) (ne_eqb (get_or xs i d) 110 other)
      ∙ ap (letter_by xs i false) (eq-eqb (get_or xs i d) 106 is)) ∙ rest

  pub letter_passed : get_or xs i d ≢ 110 → get_or xs i d ≢ 106 → has_n (drop i xs) ≡ has_n xs → has_n (drop (i + 1) xs) ≡ has_n xs
  letter_passed other last rest =
      sym (letter_at xs i d lt ∙ ap (λ (b : Bool). letter_by xs i b (get_or xs i d == 106)) (ne_eqb (get_or xs i d) 110 other)
      ∙ ap (letter_by xs i false) (ne_eqb (get_or xs i d) 106 last)) ∙ rest

pub no_letter : (xs : Word) (i : ℕ) → length xs ≤ i → has_n (drop i xs) ≡ has_n xs → false ≡ has_n xs
no_letter xs i le rest = sym (letters_end xs i le) ∙ rest

-- the word at a place decides, or those after it do
abbrev word_by : List Word → ℕ → Bool → Bool → Bool
word_by xs i ends grouped = cond ends false (grouped || any_grouped (drop (i + 1) xs))

word_at : (xs : List Word) (i : ℕ) (w : Word) → i < length xs → w ≡ get_or xs i w → any_grouped (drop i xs) ≡ word_by xs i (bytes_eq w (codes "--")) (is_grouped w)
unfolding any_grouped
word_at xs i w lt is = at_drop_more any_grouped xs i w lt ∙ sym (ap (λ (t : Word). word_by xs i (bytes_eq t (codes "--")) (is_grouped t)) is)

words_end : (xs : List Word) (i : ℕ) → length xs ≤ i → any_grouped (drop i xs) ≡ false
unfolding any_grouped
words_end xs i le = at_drop_all any_grouped xs i le

module _ (xs : List Word) (i : ℕ) (w : Word) (lt : i < length xs) (is : w ≡ get_or xs i w) where
  pub ends_here : bytes_eq w (codes "--") ≡ true → any_grouped (drop i xs) ≡ any_grouped xs → false ≡ any_grouped xs
  ends_here end rest = sym (word_at xs i w lt is ∙ ap (λ (b : Bool). word_by xs i b (is_grouped w)) end) ∙ rest

  pub grouped_here : bytes_eq w (codes "--") ≡ false → is_grouped w ≡ true → any_grouped (drop i xs) ≡ any_grouped xs → true ≡ any_grouped xs
  grouped_here on grouped rest =
      sym (word_at xs i w lt is ∙ ap (λ (b : Bool). word_by xs i b (is_grouped w)) on ∙ ap (word_by xs i false) grouped) ∙ rest

  pub word_passed : bytes_eq w (codes "--") ≡ false → is_grouped w ≡ false → any_grouped (drop i xs) ≡ any_grouped xs → any_grouped (drop (i + 1) xs) ≡ any_grouped xs
  word_passed on plain rest =
      sym (word_at xs i w lt is ∙ ap (λ (b : Bool). word_by xs i b (is_grouped w)) on ∙ ap (word_by xs i false) plain) ∙ rest

pub no_word : (xs : List Word) (i : ℕ) → length xs ≤ i → any_grouped (drop i xs) ≡ any_grouped xs → false ≡ any_grouped xs
no_word xs i le rest = sym (words_end xs i le) ∙ rest
