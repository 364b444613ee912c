-- Lists of lexemes that can stand in a text.
use Rattle.std.specs.Prelude.{◌≡◌, ◌≢◌, ℕ, ◌≤◌, ◌==◌, List, [], ◌∷◌, ◌++◌, take, map, codes, count_by, slice_index, IsTrue}
use Rattle.b2_base.specs.declared.token.TokenKind.TheVariants.{Word, Key, Body}
use Rattle.jam_lexer.specs.Signs.{left_brace, right_brace}
use Rattle.b2_base.specs.Bytes.{is_white}
use Rattle.jam_lexer.specs.Word.{is_key_text}
use Rattle.jam_spelling.specs.declared.lexeme.Lexeme.{Lexeme}

-- the lexemes of each kind
abbrev pub word : List ℕ → Lexeme
word text = record { kind = Word; text = text }

abbrev pub key : List ℕ → Lexeme
key text = record { kind = Key; text = text }

abbrev pub body : List ℕ → Lexeme
body text = record { kind = Body; text = text }

-- how often a byte stands in a text
abbrev pub count : ℕ → List ℕ → ℕ
count sign text = count_by (λ byte. byte == sign) text

-- What can stand between the braces of an action: white space comes first, since it ends the key `{`; no `}` comes
-- before its `{`; and each `{` has its `}`. Every brace counts.
pub record IsRaw (text : List ℕ) : Type 0 where
  pub white_first : IsTrue (is_white (slice_index text 0))
  pub matched : (k : ℕ) → count right_brace (take k text) ≤ count left_brace (take k text)
  pub all_closed : count right_brace text ≡ count left_brace text

-- Words of any text, keys but `actions`, and whole actions, in any order. An action is the key `actions`, words, and a
-- body in its braces.
pub data CanStand : List Lexeme → Type 0 where
  nothing : CanStand []
  a_word : (text : List ℕ) (more : List Lexeme) → CanStand more → CanStand (word text ∷ more)
  a_key : (text : List ℕ) (more : List Lexeme) → IsTrue (is_key_text text) → text ≢ codes "actions" → CanStand more → CanStand (key text ∷ more)
  an_action : (words : List (List ℕ)) (raw : List ℕ) (more : List Lexeme) → IsRaw raw → CanStand more → CanStand (key (codes "actions") ∷ (map word words ++ key (codes "{") ∷ body raw ∷ key (codes "}") ∷ more))
