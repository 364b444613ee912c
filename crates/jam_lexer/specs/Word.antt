-- Words: where one ends, and the text that it stands for.
use Rattle.std.specs.Prelude.{◌≡◌, ℕ, ◌≤◌, ◌==◌, Bool, true, false, not, ◌&&◌, ◌||◌, ◌⊎◌, List, [], ◌∷◌, length, take, codes, slice_index, slice_index_or, slice_range, if◌then◌else◌, IsTrue}
use Rattle.std.specs.List.{flat_map, list_any, list_all}
use Rattle.std.specs.Str.{bytes_eq}
use Rattle.jam_lexer.specs.Signs.{quote}
use Rattle.b2_base.specs.Bytes.{is_white, backslash}
use Rattle.b2_base.specs.declared.token.TokenKind.{TokenKind}
use Rattle.b2_base.specs.declared.token.TokenKind.TheVariants.{Word, Key}

-- a byte as it stands; a byte after a backslash; or a backslash with nothing after it
pub data Letter : Type 0 where
  Plain : ℕ → Letter
  Literal : ℕ → Letter
  Lone : Letter

-- the letters of a word: a backslash takes the byte after it literally
abbrev pub letters : List ℕ → List Letter
letters [] = []
letters (byte ∷ []) = (if byte == backslash then Lone else Plain byte) ∷ []
letters (byte ∷ next ∷ more) = if byte == backslash then Literal next ∷ letters more else Plain byte ∷ letters (next ∷ more)

-- a quote that opens or closes quotes
abbrev pub is_quote : Letter → Bool
is_quote (Plain byte) = byte == quote
is_quote (Literal byte) = false
is_quote Lone = false

-- white space that ends the word, unless it stands in quotes
abbrev pub is_space : Letter → Bool
is_space (Plain byte) = is_white byte
is_space (Literal byte) = false
is_space Lone = false

-- a backslash with nothing after it
abbrev pub is_lone : Letter → Bool
is_lone (Plain byte) = false
is_lone (Literal byte) = false
is_lone Lone = true

-- the quotes are open after these letters: an odd number of quotes is among them
abbrev pub in_quotes : List Letter → Bool
in_quotes [] = false
in_quotes (letter ∷ more) = if is_quote letter then not (in_quotes more) else in_quotes more

-- all white space among the letters stands in quotes or after a backslash
abbrev pub IsUnbroken : List Letter → Type 0
IsUnbroken word = (k : ℕ) → is_space (slice_index_or word k Lone) ≡ true → in_quotes (take k word) ≡ true

-- The bytes between the places are a word: no white space ends it before, its quotes are closed, and after it stands
-- white space, or the input ends.
pub record IsWord (bytes : List ℕ) (start end : ℕ) : Type 0 where
  pub order : start ≤ end
  pub within : end ≤ length bytes
  pub unbroken : IsUnbroken (letters (slice_range bytes start end))
  pub closed : in_quotes (letters (slice_range bytes start end)) ≡ false
  pub ends : (end ≡ length bytes) ⊎ (IsTrue (is_white (slice_index bytes end)) × (list_any is_lone (letters (slice_range bytes start end)) ≡ false))

-- the word that begins at the place goes on to the end of the input, and its quotes are open there
pub record IsOpenWord (bytes : List ℕ) (start : ℕ) : Type 0 where
  pub unbroken : IsUnbroken (letters (slice_range bytes start (length bytes)))
  pub in_open_quotes : in_quotes (letters (slice_range bytes start (length bytes))) ≡ true

-- what a letter stands for: quotes and backslashes are no part of the text
abbrev pub text_of_letter : Letter → List ℕ
text_of_letter (Plain byte) = if byte == quote then [] else byte ∷ []
text_of_letter (Literal byte) = byte ∷ []
text_of_letter Lone = []

-- the text of a word
abbrev pub text_of : List ℕ → List ℕ
text_of word = flat_map text_of_letter (letters word)

-- the signs of the language
abbrev pub signs : List (List ℕ)
signs = codes ";" ∷ codes ":" ∷ codes "{" ∷ codes "}" ∷ codes "[" ∷ codes "]" ∷ codes "(" ∷ codes ")" ∷ codes "=" ∷ codes "+=" ∷ codes "?=" ∷ codes "!=" ∷ codes "!" ∷ codes "&&" ∷ codes "||" ∷ []

-- the words that the language keeps for itself
abbrev pub reserved_words : List (List ℕ)
reserved_words = codes "actions" ∷ codes "case" ∷ codes "else" ∷ codes "for" ∷ codes "if" ∷ codes "in" ∷ codes "include" ∷ codes "local" ∷ codes "module" ∷ codes "on" ∷ codes "return" ∷ codes "rule" ∷ codes "switch" ∷ codes "while" ∷ []

-- the text of a key
abbrev pub is_key_text : List ℕ → Bool
is_key_text text = list_any (bytes_eq text) signs || list_any (bytes_eq text) reserved_words

-- neither a quote nor a backslash stands in the word
abbrev pub is_bare : List ℕ → Bool
is_bare word = list_all (λ byte. not (byte == quote || byte == backslash)) word

-- a word is a key where it is bare and its text is a key's; every other one is a word
abbrev pub kind_of : List ℕ → TokenKind
kind_of word = if is_bare word && is_key_text (text_of word) then Key else Word
