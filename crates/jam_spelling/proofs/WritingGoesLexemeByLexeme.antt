-- The bytes grow by a lexeme and what parts it from the next one, until all are written, which then read back.
use Rattle.std.proofs.Common.{◌≡◌, ℕ, ◌+◌, ◌<◌, ◌≤◌, List, ◌∷◌, ◌++◌, length, get_or, take, drop, sym, ◌∙◌, ap, subst}
use Rattle.std.proofs.lemmas.List.{append_assoc, append-nil, drop_more, drop_all, take_all}
use Rattle.std.proofs.lemmas.List.Elements.{All-more}
use Rattle.jam_lexer.specs.Tokens.{IsText}
use Rattle.jam_spelling.specs.declared.lexeme.Lexeme.{Lexeme}
use Rattle.jam_spelling.specs.Spelling.{spelling, separator, bytes_of}
use Rattle.jam_spelling.specs.LexemeLists.{CanStand}
use Rattle.jam_spelling.specs.Readings.{ReadsAs, AreTexts}
use Rattle.jam_spelling.proofs.SpelledReadsBack.{all_said}

-- these bytes are the lexemes before the place, which are texts
pub record HasWritten (lexemes : List Lexeme) (place : ℕ) (bytes : List ℕ) : Type 0 where
  pub exact : bytes ++ bytes_of (drop place lexemes) ≡ bytes_of lexemes
  pub texts : AreTexts (take place lexemes)

pub written_more : (lexemes : List Lexeme) (place : ℕ) (lexeme : Lexeme) (bytes : List ℕ) → place < length lexemes → lexeme ≡ get_or lexemes place lexeme → IsText lexeme.text → HasWritten lexemes place bytes → HasWritten lexemes (place + 1) ((bytes ++ spelling lexeme) ++ separator lexeme (drop (place + 1) lexemes))
written_more lexemes place lexeme bytes within is text has =
    let more : List Lexeme = drop (place + 1) lexemes in
    let piece : List ℕ = spelling lexeme in
    let sep : List ℕ = separator lexeme more in
    let first : drop place lexemes ≡ lexeme ∷ more = drop_more lexemes place lexeme within ∙ ap (λ l. l ∷ more) (sym is) in
    record {
      exact =
          ap (λ b. b ++ bytes_of more) (append_assoc bytes piece sep)
          ∙ append_assoc bytes (piece ++ sep) (bytes_of more)
          ∙ ap (λ ls. bytes ++ bytes_of ls) (sym first)
          ∙ has.exact;
      texts = All-more (λ l. IsText l.text) lexemes place lexeme within has.texts (subst (λ l. IsText l.text) is text);
    }

pub all_texts : (lexemes : List Lexeme) (place : ℕ) (bytes : List ℕ) → length lexemes ≤ place → HasWritten lexemes place bytes → AreTexts lexemes
all_texts lexemes place bytes past has = subst AreTexts (take_all place lexemes past) has.texts

pub all_written : (lexemes : List Lexeme) (place : ℕ) (bytes : List ℕ) → length lexemes ≤ place → HasWritten lexemes place bytes → bytes ≡ bytes_of lexemes
all_written lexemes place bytes past has = sym (append-nil bytes) ∙ ap (λ ls. bytes ++ bytes_of ls) (sym (drop_all place lexemes past)) ∙ has.exact

pub read_back : (lexemes : List Lexeme) (place : ℕ) (bytes : List ℕ) → length lexemes ≤ place → HasWritten lexemes place bytes → CanStand lexemes → ReadsAs bytes lexemes
read_back lexemes place bytes past has can =
    subst (λ b. ReadsAs b lexemes) (sym (all_written lexemes place bytes past has)) (all_said lexemes can (all_texts lexemes place bytes past has))
