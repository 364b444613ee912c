-- Words taken in turn: the first one that asks for something decides, `--` or the end that nothing is asked for.
use Rattle.std.proofs.Common.{◌≡◌, ℕ, ◌+◌, ◌<◌, ◌≤◌, Bool, true, false, cond, List, length, get_or, drop, codes, Option, Some, None, is_some, refl, sym, ap, ◌∙◌}
use Rattle.std.proofs.lemmas.List.{at_drop_more, at_drop_all}
use Rattle.std.specs.Option.{option_map}
use Rattle.std.specs.Str.{bytes_eq}
use Rattle.b2_command_line.specs.Words.{Word}
use Rattle.b2_top.specs.declared.mode.Mode.{Mode}
use Rattle.b2_top.specs.Modes.{mode_named, first_mode, mode_asked}

pub some_mapped : {A B : Type 0} (f : A → B) (o : Option A) → is_some (option_map f o) ≡ is_some o
some_mapped f None = refl
some_mapped f (Some x) = refl

here_first : (mode later : Option Mode) → is_some mode ≡ true → mode ≡ first_mode mode later
here_first None later e = absurd (let f : false ≡ true = e in cc)
here_first (Some mode) later e = refl

later_first : (mode later : Option Mode) → is_some mode ≡ false → first_mode mode later ≡ later
later_first None later e = refl
later_first (Some mode) later e = absurd (let f : true ≡ false = e in cc)

-- the word at a place decides, or those after it do
abbrev word_by : List Word → ℕ → Bool → Option Mode → Option Mode
word_by xs i ends mode = cond ends None (first_mode mode (mode_asked (drop (i + 1) xs)))

word_at : (xs : List Word) (i : ℕ) (w : Word) → i < length xs → w ≡ get_or xs i w → mode_asked (drop i xs) ≡ word_by xs i (bytes_eq w (codes "--")) (mode_named w)
unfolding mode_asked
word_at xs i w lt is = at_drop_more mode_asked xs i w lt ∙ sym (ap (λ (t : Word). word_by xs i (bytes_eq t (codes "--")) (mode_named t)) is)

words_end : (xs : List Word) (i : ℕ) → length xs ≤ i → mode_asked (drop i xs) ≡ None
unfolding mode_asked
words_end xs i le = at_drop_all mode_asked xs i le

module _ (xs : List Word) (i : ℕ) (w : Word) (lt : i < length xs) (is : w ≡ get_or xs i w) where
  pub ends_here : bytes_eq w (codes "--") ≡ true → mode_asked (drop i xs) ≡ mode_asked xs → None ≡ mode_asked xs
  ends_here end rest = sym (word_at xs i w lt is ∙ ap (λ (b : Bool). word_by xs i b (mode_named w)) end) ∙ rest

  pub mode_here : bytes_eq w (codes "--") ≡ false → is_some (mode_named w) ≡ true → mode_asked (drop i xs) ≡ mode_asked xs → mode_named w ≡ mode_asked xs
  mode_here on some rest =
      here_first (mode_named w) (mode_asked (drop (i + 1) xs)) some ∙ sym (word_at xs i w lt is ∙ ap (λ (b : Bool). word_by xs i b (mode_named w)) on) ∙ rest

  pub word_passed : bytes_eq w (codes "--") ≡ false → is_some (mode_named w) ≡ false → mode_asked (drop i xs) ≡ mode_asked xs → mode_asked (drop (i + 1) xs) ≡ mode_asked xs
  word_passed on none rest =
      sym (word_at xs i w lt is ∙ ap (λ (b : Bool). word_by xs i b (mode_named w)) on ∙ later_first (mode_named w) (mode_asked (drop (i + 1) xs)) none) ∙ rest

pub no_word : (xs : List Word) (i : ℕ) → length xs ≤ i → mode_asked (drop i xs) ≡ mode_asked xs → None ≡ mode_asked xs
no_word xs i le rest = sym (words_end xs i le) ∙ rest
