-- How a list of lexemes is written.
use Rattle.std.specs.Prelude.{ℕ, ◌==◌, Bool, true, false, ◌&&◌, ◌||◌, List, [], ◌∷◌, ◌++◌, length, codes, slice_index, if◌then◌else◌}
use Rattle.std.specs.List.{list_any, flat_map}
use Rattle.std.specs.Str.{bytes_eq}
use Rattle.b2_base.specs.declared.token.TokenKind.{TokenKind}
use Rattle.b2_base.specs.declared.token.TokenKind.TheVariants.{Word, Key, Body}
use Rattle.jam_lexer.specs.Signs.{quote, hash}
use Rattle.b2_base.specs.Bytes.{is_white, line_feed, backslash}
use Rattle.jam_lexer.specs.Word.{is_key_text}
use Rattle.jam_lexer.specs.Tokens.{is_key, is_body}
use Rattle.jam_spelling.specs.declared.lexeme.Lexeme.{Lexeme}

-- the space between two lexemes of a line
abbrev pub space : ℕ
space = 32

-- the kind of words
abbrev pub is_word : TokenKind → Bool
is_word Word = true
is_word Key = false
is_word Body = false

-- a byte that means something within quotes too: a quote or a backslash
abbrev pub is_escaped : ℕ → Bool
is_escaped byte = byte == quote || byte == backslash

-- a byte that a word holds only in quotes
abbrev pub is_special : ℕ → Bool
is_special byte = is_white byte || is_escaped byte

-- a Word's text that is written in quotes: it is empty, is a key's, begins with `#`, or holds white space, a quote or a
-- backslash
unfoldable pub needs_quotes : List ℕ → Bool
needs_quotes text = length text == 0 || is_key_text text || slice_index text 0 == hash || list_any is_special text

-- a byte as it stands within quotes: after a backslash where it means something there
abbrev pub escaped : ℕ → List ℕ
escaped byte = if is_escaped byte then backslash ∷ byte ∷ [] else byte ∷ []

-- a text in quotes
abbrev pub quoted : List ℕ → List ℕ
quoted text = (quote ∷ flat_map escaped text) ++ quote ∷ []

-- a Word that needs quotes in quotes; other words, keys and bodies as they are
abbrev pub spelling : Lexeme → List ℕ
spelling lexeme = if is_word lexeme.kind && needs_quotes lexeme.text then quoted lexeme.text else lexeme.text

-- the keys `;`, `{` and `}` end a line
abbrev pub ends_line : Lexeme → Bool
ends_line lexeme = is_key lexeme.kind && (bytes_eq lexeme.text (codes ";") || bytes_eq lexeme.text (codes "{") || bytes_eq lexeme.text (codes "}"))

-- the first of the lexemes is a body
abbrev pub begins_body : List Lexeme → Bool
begins_body [] = false
begins_body (first ∷ more) = is_body first.kind

-- what stands after a lexeme and before those that follow it: nothing at a body, a line feed after the end of a line,
-- nothing after the last one, else a space
abbrev pub separator : Lexeme → List Lexeme → List ℕ
separator lexeme more =
    if is_body lexeme.kind || begins_body more then []
    else (if ends_line lexeme then line_feed ∷ []
    else (if length more == 0 then []
    else space ∷ []))

-- the lexemes as bytes
abbrev pub bytes_of : List Lexeme → List ℕ
bytes_of [] = []
bytes_of (lexeme ∷ more) = spelling lexeme ++ separator lexeme more ++ bytes_of more
