-- A text that is cut at its first white space.
use Rattle.std.specs.Prelude.{◌≡◌, ℕ, true, false, List, ◌∷◌, ◌++◌, All}
use Rattle.b2_base.specs.Bytes.{is_white}

-- a word, the white space after it, and the rest
pub record IsCut (text word : List ℕ) (white : ℕ) (rest : List ℕ) : Type 0 where
  pub text_is : text ≡ word ++ white ∷ rest
  pub is_space : is_white white ≡ true
  pub no_space : All (λ byte. is_white byte ≡ false) word
