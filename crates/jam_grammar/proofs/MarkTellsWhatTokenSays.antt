-- A token says the text of its mark, or its own where it is a word or body, and equal sayings have equal marks.
use Rattle.std.proofs.Common.{◌≡◌, ℕ, List, [], ◌∷◌, Bool, true, false, codes, if◌then◌else◌, refl, sym, ap, ◌∙◌, subst}
use Rattle.std.specs.Str.{bytes_eq}
use Rattle.std.proofs.lemmas.Slice.Eq.{bytes_eq-Decides}
use Rattle.b2_base.specs.declared.token.Token.{Token}
use Rattle.b2_base.specs.declared.token.TokenKind.{TokenKind}
use Rattle.b2_base.specs.declared.token.TokenKind.TheVariants as kinds
use Rattle.jam_grammar.specs.declared.mark.TokenMark.{TokenMark}
use Rattle.jam_grammar.specs.declared.mark.TokenMark.TheVariants as m
use Rattle.jam_grammar.specs.Marks.{mark_of_word, mark_of_key, word_marks, key_marks, mark_in, mark_by_kind, mark_of_token, is_word, is_name}
use Rattle.jam_grammar.specs.Alike.{said_of, word_said, key_said, body_said, mark_said}

-- the marks whose tokens say one text
abbrev pub has_text : TokenMark → Bool
has_text m.Plain = false
has_text m.Body = false
has_text m.Unknown = false
has_text _ = true

-- what a text says by its mark
abbrev SaidBy : TokenKind → List ℕ → TokenMark → Type 0
SaidBy kind text mark = has_text mark ≡ true → record { kind = kind; text = text } ≡ mark_said mark

pick : (kind : TokenKind) (text sign : List ℕ) (mark next : TokenMark) → record { kind = kind; text = sign } ≡ mark_said mark → SaidBy kind text next → SaidBy kind text (if bytes_eq text sign then mark else next)
pick kind text sign mark next is rest = by (bytes_eq text sign) refl
  where
    by : (b : Bool) → bytes_eq text sign ≡ b → SaidBy kind text (if b then mark else next)
    by true e = λ h. ap (λ x. record { kind = kind; text = x }) ((bytes_eq-Decides text sign).0 e) ∙ is
    by false e = rest

-- the marks of keys
abbrev IsKeyMark : TokenMark → Type 0
IsKeyMark m.Plain = ⊥
IsKeyMark m.Query = ⊥
IsKeyMark m.Star = ⊥
IsKeyMark m.Plus = ⊥
IsKeyMark m.Together = ⊥
IsKeyMark m.Existing = ⊥
IsKeyMark m.Quietly = ⊥
IsKeyMark m.Body = ⊥
IsKeyMark _ = Unit {0}

-- each row has a key's mark, whose tokens say the row's text
abbrev AreKeys : List (List ℕ × TokenMark) → Type 0
AreKeys [] = Unit {0}
AreKeys (row ∷ rows) = ((key_said row.0 ≡ mark_said row.1) × IsKeyMark row.1) × AreKeys rows

are_keys : AreKeys key_marks
are_keys = (
  (refl, tt),
  (
    (refl, tt),
    (
      (refl, tt),
      (
        (refl, tt),
        (
          (refl, tt),
          (
            (refl, tt),
            (
              (refl, tt),
              (
                (refl, tt),
                (
                  (refl, tt),
                  (
                    (refl, tt),
                    (
                      (refl, tt),
                      (
                        (refl, tt),
                        (
                          (refl, tt),
                          (
                            (refl, tt),
                            (
                              (refl, tt),
                              (
                                (refl, tt),
                                (
                                  (refl, tt),
                                  (
                                    (refl, tt),
                                    (
                                      (refl, tt),
                                      (
                                        (refl, tt),
                                        ((refl, tt), ((refl, tt), ((refl, tt), ((refl, tt), ((refl, tt), ((refl, tt), ((refl, tt), ((refl, tt), ((refl, tt), tt))))))))),
                                      ),
                                    ),
                                  ),
                                ),
                              ),
                            ),
                          ),
                        ),
                      ),
                    ),
                  ),
                ),
              ),
            ),
          ),
        ),
      ),
    ),
  ),
)

-- the first row with a text says it, where other marks than those of the rows have no text
abbrev AllSay : TokenKind → List (List ℕ × TokenMark) → Type 0
AllSay kind [] = Unit {0}
AllSay kind (row ∷ rows) = (record { kind = kind; text = row.0 } ≡ mark_said row.1) × AllSay kind rows

rows_say : (kind : TokenKind) (rows : List (List ℕ × TokenMark)) (other : TokenMark) (text : List ℕ) → has_text other ≡ false → AllSay kind rows → SaidBy kind text (mark_in rows other text)
rows_say kind [] other text none all = λ h. cc
rows_say kind (row ∷ rows) other text none all = pick kind text row.0 row.1 (mark_in rows other text) all.0 (rows_say kind rows other text none all.1)

words_say : AllSay kinds.Word word_marks
words_say = (refl, (refl, (refl, (refl, (refl, (refl, tt))))))

word_says : (text : List ℕ) → SaidBy kinds.Word text (mark_of_word text)
unfolding mark_of_word
word_says text = rows_say kinds.Word word_marks m.Plain text refl words_say

keys_say : (rows : List (List ℕ × TokenMark)) → AreKeys rows → AllSay kinds.Key rows
keys_say [] are = tt
keys_say (row ∷ rows) are = (are.0.0, keys_say rows are.1)

key_says : (text : List ℕ) → SaidBy kinds.Key text (mark_of_key text)
unfolding mark_of_key
key_says text = rows_say kinds.Key key_marks m.Unknown text refl (keys_say key_marks are_keys)

-- a token of a mark with one text says that
by_kind : (kind : TokenKind) (text : List ℕ) → SaidBy kind text (mark_by_kind kind text)
by_kind kinds.Word text = word_says text
by_kind kinds.Key text = key_says text
by_kind kinds.Body text = λ h. cc

pub token_says : (token : Token) (mark : TokenMark) → mark_of_token token ≡ mark → has_text mark ≡ true → said_of token ≡ mark_said mark
unfolding mark_of_token
token_says token mark e h = by_kind token.kind token.text (subst (λ x. has_text x ≡ true) (sym e) h) ∙ ap mark_said e

-- the marks of words and of keys
choose : (P : TokenMark → Type 0) (b : Bool) (x y : TokenMark) → P x → P y → P (if b then x else y)
choose P true x y p q = p
choose P false x y p q = q

-- the mark of a row, or the other, has what each of them has
abbrev AllHave : (TokenMark → Type 0) → List (List ℕ × TokenMark) → Type 0
AllHave P [] = Unit {0}
AllHave P (row ∷ rows) = P row.1 × AllHave P rows

rows_have : (P : TokenMark → Type 0) (rows : List (List ℕ × TokenMark)) (other : TokenMark) (text : List ℕ) → P other → AllHave P rows → P (mark_in rows other text)
rows_have P [] other text p all = p
rows_have P (row ∷ rows) other text p all = choose P (bytes_eq text row.0) row.1 (mark_in rows other text) all.0 (rows_have P rows other text p all.1)

abbrev IsWordMark : TokenMark → Type 0
IsWordMark mark = is_word mark ≡ true

word_mark : (text : List ℕ) → IsWordMark (mark_of_word text)
unfolding mark_of_word
word_mark text = rows_have IsWordMark word_marks m.Plain text refl (refl, (refl, (refl, (refl, (refl, (refl, tt))))))

keys_have : (rows : List (List ℕ × TokenMark)) → AreKeys rows → AllHave IsKeyMark rows
keys_have [] are = tt
keys_have (row ∷ rows) are = (are.0.1, keys_have rows are.1)

key_mark : (text : List ℕ) → IsKeyMark (mark_of_key text)
unfolding mark_of_key
key_mark text = rows_have IsKeyMark key_marks m.Unknown text tt (keys_have key_marks are_keys)

no_key_word : (mark : TokenMark) → IsKeyMark mark → is_word mark ≡ true → ⊥
no_key_word m.Plain k h = k
no_key_word m.Query k h = k
no_key_word m.Star k h = k
no_key_word m.Plus k h = k
no_key_word m.Together k h = k
no_key_word m.Existing k h = k
no_key_word m.Quietly k h = k
no_key_word _ k h = cc

no_key_body : (mark : TokenMark) → IsKeyMark mark → mark ≡ m.Body → ⊥
no_key_body mark k h = subst IsKeyMark h k

pub word_is : (token : Token) → is_word (mark_of_token token) ≡ true → said_of token ≡ word_said token.text
unfolding mark_of_token
word_is token h = by token.kind refl h
  where
    by : (kind : TokenKind) → token.kind ≡ kind → is_word (mark_by_kind kind token.text) ≡ true → said_of token ≡ word_said token.text
    by kinds.Word e h = ap (λ x. record { kind = x; text = token.text }) e
    by kinds.Key e h = absurd (no_key_word (mark_of_key token.text) (key_mark token.text) h)
    by kinds.Body e h = cc

pub body_is : (token : Token) → mark_of_token token ≡ m.Body → said_of token ≡ body_said token.text
unfolding mark_of_token
body_is token h = by token.kind refl h
  where
    no_word_body : (mark : TokenMark) → is_word mark ≡ true → mark ≡ m.Body → ⊥
    no_word_body mark w e = let f : false ≡ true = ap is_word (sym e) ∙ w in cc

    by : (kind : TokenKind) → token.kind ≡ kind → mark_by_kind kind token.text ≡ m.Body → said_of token ≡ body_said token.text
    by kinds.Word e h = absurd (no_word_body (mark_of_word token.text) (word_mark token.text) h)
    by kinds.Key e h = absurd (no_key_body (mark_of_key token.text) (key_mark token.text) h)
    by kinds.Body e h = ap (λ x. record { kind = x; text = token.text }) e

-- the mark is settled by what is said
pub same_said : (a b : Token) → said_of a ≡ said_of b → mark_of_token a ≡ mark_of_token b
unfolding mark_of_token
same_said a b e = ap (λ x. mark_by_kind x.kind x.text) e

-- what is said settles the mark of a text of this kind
pub said_is : (t : Token) (mark : TokenMark) → said_of t ≡ mark_said mark → mark_by_kind (mark_said mark).kind (mark_said mark).text ≡ mark → mark_of_token t ≡ mark
unfolding mark_of_token
said_is t mark e h = ap (λ x. mark_by_kind x.kind x.text) e ∙ h

pub is_together : (t : Token) → said_of t ≡ mark_said m.Together → mark_of_token t ≡ m.Together
unfolding mark_of_word
is_together t e = said_is t m.Together e refl

pub is_existing : (t : Token) → said_of t ≡ mark_said m.Existing → mark_of_token t ≡ m.Existing
unfolding mark_of_word
is_existing t e = said_is t m.Existing e refl

pub is_quietly : (t : Token) → said_of t ≡ mark_said m.Quietly → mark_of_token t ≡ m.Quietly
unfolding mark_of_word
is_quietly t e = said_is t m.Quietly e refl

-- names are words
pub name_is_word : (mark : TokenMark) → is_name mark ≡ true → is_word mark ≡ true
name_is_word m.Plain h = refl
name_is_word m.Together h = refl
name_is_word m.Existing h = refl
name_is_word m.Quietly h = refl
name_is_word _ h = cc

star_is_no_name : (text : List ℕ) → text ≡ codes "*" → is_name (mark_of_word text) ≡ false
unfolding mark_of_word
star_is_no_name text e = ap (λ x. is_name (mark_of_word x)) e

word_no_star : (text : List ℕ) → is_name (mark_of_word text) ≡ true → bytes_eq text (codes "*") ≡ false
word_no_star text h = by (bytes_eq text (codes "*")) refl
  where
    by : (b : Bool) → bytes_eq text (codes "*") ≡ b → b ≡ false
    by true e = let f : false ≡ true = sym (star_is_no_name text ((bytes_eq-Decides text (codes "*")).0 e)) ∙ h in cc
    by false e = refl

-- a word that may name a parameter is not `*`
pub name_no_star : (token : Token) → is_name (mark_of_token token) ≡ true → bytes_eq token.text (codes "*") ≡ false
unfolding mark_of_token
name_no_star token h = by token.kind h
  where
    by : (kind : TokenKind) → is_name (mark_by_kind kind token.text) ≡ true → bytes_eq token.text (codes "*") ≡ false
    by kinds.Word h = word_no_star token.text h
    by kinds.Key h = absurd (no_key_word (mark_of_key token.text) (key_mark token.text) (name_is_word (mark_of_key token.text) h))
    by kinds.Body h = cc
