-- Written lexemes are the tokens of their text.
use Rattle.std.proofs.Common.{◌≡◌, ◌≢◌, ℕ, zero, suc, ◌+◌, ◌-◌, ◌<◌, ◌≤◌, Bool, true, false, not, ◌&&◌, ◌||◌, cond, ◌==◌, inl, inr, List, [], ◌∷◌, ◌++◌, length, get_or, map, codes, refl, sym, ◌∙◌, ap, subst, arith, Result, Ok, IsOkAnd}
use Rattle.std.specs.Str.{bytes_eq}
use Rattle.std.proofs.lemmas.Bool.{false≢true, ne_eqb, and_right, or_from, false_from_ne_true}
use Rattle.std.proofs.lemmas.List.{append_assoc, append-nil, get_or_append_left}
use Rattle.std.proofs.lemmas.Slice.Eq.{bytes_eq-Decides}
use Rattle.b2_base.specs.declared.token.Token.{Token}
use Rattle.b2_base.specs.Bytes.{is_white}
use Rattle.jam_lexer.specs.Gap.{IsGap}
use Rattle.jam_lexer.specs.Answers.{IsAnswer}
use Rattle.jam_lexer.specs.declared.fault.LexFault.{LexFault}
use Rattle.jam_lexer.proofs.OneAnswer.{one_answer}
use Rattle.jam_lexer.specs.Word.{is_key_text}
use Rattle.jam_lexer.specs.Tokens.{NextWord, NextBody, next_after, place_after, awaits_brace, is_body, IsNextToken, Follows, Stand, IsEnd}
use Rattle.jam_spelling.specs.declared.lexeme.Lexeme.{Lexeme}
use Rattle.jam_spelling.specs.Spelling.{spelling, ends_line, begins_body, separator, bytes_of}
use Rattle.jam_spelling.specs.LexemeLists.{word, key, body, IsRaw, CanStand, nothing, a_word, a_key, an_action}
use Rattle.jam_spelling.specs.Readings.{lexeme_of, ReadsAs, AreTexts}
use Rattle.jam_spelling.proofs.PlainTextsNeedNoQuotes.{IsWordOf, key_word}
use Rattle.jam_spelling.proofs.QuotedTextsAreWords.{spelled_word}
use Rattle.jam_spelling.proofs.SpelledLexemesAreText.{text_of_lexemes}
use Rattle.jam_spelling.proofs.SpelledPiecesAreTokens.{IsAt, at_length, at_byte, at_more, IsWhite, white_gap, EndsWord, the_token, word_token, body_token}

-- ---- what stands after a lexeme

-- a separator is white space, and a word ends before it
record Separates (sep rest : List ℕ) : Type 0 where
  white : (k : ℕ) → k < length sep → is_white (get_or sep k 0) ≡ true
  ends : EndsWord (sep ++ rest)

one_white : (b : ℕ) (rest : List ℕ) → is_white b ≡ true → Separates (b ∷ []) rest
one_white b rest white = record { white = at; ends = inr white }
  where
    at : (k : ℕ) → k < 1 → is_white (get_or (b ∷ []) k 0) ≡ true
    at zero low = white
    at (suc k) low = let never : ⊥ = omega (arith, low) in absurd never

no_white : Separates [] []
no_white = record { white = λ k low. let never : ⊥ = omega (arith, low) in absurd never; ends = inl refl }

separates : (lexeme : Lexeme) (more : List Lexeme) → is_body lexeme.kind ≡ false → begins_body more ≡ false → Separates (separator lexeme more) (bytes_of more)
separates lexeme more no_body none_next = subst (λ t. Separates (cond t [] (cond (ends_line lexeme) (10 ∷ []) (cond (length more == 0) [] (32 ∷ [])))) (bytes_of more)) (sym (or_from (is_body lexeme.kind) (begins_body more) no_body none_next)) (line (ends_line lexeme) more)
  where
    line : (t : Bool) (more : List Lexeme) → Separates (cond t (10 ∷ []) (cond (length more == 0) [] (32 ∷ []))) (bytes_of more)
    line true more = one_white 10 (bytes_of more) refl
    line false [] = no_white
    line false (next ∷ more) = subst (λ t. Separates (cond t [] (32 ∷ [])) (bytes_of (next ∷ more))) (sym (ne_eqb (length (next ∷ more)) 0 (λ e. absurd (omega (arith, e))))) (one_white 32 (bytes_of (next ∷ more)) refl)

-- a separator is white where it stands
white_more : (bytes : List ℕ) (place : ℕ) (sep rest : List ℕ) → IsAt bytes place (sep ++ rest) → Separates sep rest → IsWhite bytes place (place + length sep)
white_more bytes place sep rest at parts k low high =
    let short : k - place < length sep = omega arith in
    let spot : k ≡ place + (k - place) = omega arith in
    ap (λ i. is_white (get_or bytes i 0)) spot ∙ ap is_white (at_byte bytes place (sep ++ rest) (k - place) at ∙ get_or_append_left sep rest 0 (k - place) short) ∙ parts.white (k - place) short

-- ---- one word more

-- these tokens have been read, the last one first, white space alone stands after them up to the place, and a word may follow
record IsReadTo (bytes : List ℕ) (read : List Token) (place : ℕ) (awaits : Bool) : Type 0 where
  outside : next_after read ≡ NextWord
  awaited : awaits_brace read ≡ awaits
  order : place_after read ≤ place
  white : IsWhite bytes (place_after read) place

-- the lexemes are what the tokens after those that have been read say
record Rest (bytes : List ℕ) (read : List Token) (lexemes : List Lexeme) : Type 0 where
  tokens : List Token
  stand : Stand bytes (IsEnd bytes) read tokens
  say : map lexeme_of tokens ≡ lexemes

rest_more : (bytes : List ℕ) (read : List Token) (token : Token) (lexeme : Lexeme) (more : List Lexeme) → Follows bytes read token → lexeme_of token ≡ lexeme → Rest bytes (token ∷ read) more → Rest bytes read (lexeme ∷ more)
rest_more bytes read token lexeme more follows says rest =
    record { tokens = token ∷ rest.tokens; stand = (follows, rest.stand); say = ap (λ l. l ∷ map lexeme_of rest.tokens) says ∙ ap (λ ls. lexeme ∷ ls) rest.say }

-- the place after a lexeme and its separator
abbrev after : ℕ → Lexeme → List Lexeme → ℕ
after place lexeme more = place + length (spelling lexeme) + length (separator lexeme more)

abbrev token_of : List ℕ → ℕ → Lexeme → Token
token_of bytes place lexeme = the_token bytes lexeme.kind lexeme.text place (spelling lexeme)

-- a lexeme that is a word follows, and white space after it
record Goes (bytes : List ℕ) (read : List Token) (place : ℕ) (lexeme : Lexeme) (more : List Lexeme) : Type 0 where
  follows : Follows bytes read (token_of bytes place lexeme)
  next_at : IsAt bytes (after place lexeme more) (bytes_of more)
  white : IsWhite bytes (place + length (spelling lexeme)) (after place lexeme more)

follows_word : (bytes : List ℕ) (read : List Token) (place : ℕ) (awaits : Bool) (lexeme : Lexeme) (tail : List ℕ) → IsReadTo bytes read place awaits → IsAt bytes place (spelling lexeme ++ tail) → IsWordOf lexeme.kind lexeme.text (spelling lexeme) → EndsWord tail → Follows bytes read (token_of bytes place lexeme)
follows_word bytes read place awaits lexeme tail has at is ends =
    subst (λ n. IsNextToken n bytes (place_after read) (token_of bytes place lexeme)) (sym has.outside)
    (word_token bytes (place_after read) place lexeme.kind lexeme.text (spelling lexeme) tail has.order has.white at is ends)

goes : (bytes : List ℕ) (read : List Token) (place : ℕ) (awaits : Bool) (lexeme : Lexeme) (more : List Lexeme) → IsReadTo bytes read place awaits → IsAt bytes place (bytes_of (lexeme ∷ more)) → IsWordOf lexeme.kind lexeme.text (spelling lexeme) → is_body lexeme.kind ≡ false → begins_body more ≡ false → Goes bytes read place lexeme more
goes bytes read place awaits lexeme more has at is no_body none_next =
    let piece : List ℕ = spelling lexeme in
    let sep : List ℕ = separator lexeme more in
    let parts : Separates sep (bytes_of more) = separates lexeme more no_body none_next in
    let here : IsAt bytes place (piece ++ (sep ++ bytes_of more)) = subst (IsAt bytes place) (append_assoc piece sep (bytes_of more)) at in
    let next : IsAt bytes (place + length piece) (sep ++ bytes_of more) = at_more bytes place piece (sep ++ bytes_of more) here in
    record {
      follows = follows_word bytes read place awaits lexeme (sep ++ bytes_of more) has here is parts.ends;
      next_at = at_more bytes (place + length piece) sep (bytes_of more) next;
      white = white_more bytes (place + length piece) sep (bytes_of more) next parts;
    }

read_more : (bytes : List ℕ) (read : List Token) (place : ℕ) (lexeme : Lexeme) (more : List Lexeme) (awaits : Bool) → Goes bytes read place lexeme more → next_after (token_of bytes place lexeme ∷ read) ≡ NextWord → awaits_brace (token_of bytes place lexeme ∷ read) ≡ awaits → IsReadTo bytes (token_of bytes place lexeme ∷ read) (after place lexeme more) awaits
read_more bytes read place lexeme more awaits g outside awaited = record { outside = outside; awaited = awaited; order = omega arith; white = g.white }

-- ---- words and keys

-- what follows a list that has been read is told from its place on
abbrev Continues : List ℕ → Bool → List Lexeme → Type 0
Continues bytes awaits lexemes = (read : List Token) (place : ℕ) → IsReadTo bytes read place awaits → IsAt bytes place (bytes_of lexemes) → Rest bytes read lexemes

word_more : (bytes : List ℕ) (awaits : Bool) (text : List ℕ) (more : List Lexeme) → begins_body more ≡ false → Continues bytes awaits more → Continues bytes awaits (word text ∷ more)
word_more bytes awaits text more none_next rest read place has at =
    let g : Goes bytes read place (word text) more = goes bytes read place awaits (word text) more has at (spelled_word text) refl none_next in
    rest_more bytes read (token_of bytes place (word text)) (word text) more g.follows refl (rest (token_of bytes place (word text) ∷ read) (after place (word text) more) (read_more bytes read place (word text) more awaits g refl has.awaited) g.next_at)

key_more : (bytes : List ℕ) (text : List ℕ) (more : List Lexeme) → is_key_text text ≡ true → text ≢ codes "actions" → begins_body more ≡ false → Continues bytes false more → Continues bytes false (key text ∷ more)
key_more bytes text more is_key other none_next rest read place has at =
    let token : Token = token_of bytes place (key text) in
    let g : Goes bytes read place (key text) more = goes bytes read place false (key text) more has at (key_word text is_key) refl none_next in
    let no_actions : bytes_eq text (codes "actions") ≡ false = false_from_ne_true (bytes_eq text (codes "actions")) (λ e. other ((bytes_eq-Decides text (codes "actions")).0 e)) in
    let outside : next_after (token ∷ read) ≡ NextWord = ap (λ t. cond t NextBody NextWord) (and_right (bytes_eq text (codes "{")) (awaits_brace read) has.awaited) in
    let awaited : awaits_brace (token ∷ read) ≡ false = ap (λ t. t || (not (bytes_eq text (codes "{")) && awaits_brace read)) no_actions ∙ and_right (not (bytes_eq text (codes "{"))) (awaits_brace read) has.awaited in
    rest_more bytes read token (key text) more g.follows refl (rest (token ∷ read) (after place (key text) more) (read_more bytes read place (key text) more false g outside awaited) g.next_at)

actions_more : (bytes : List ℕ) (more : List Lexeme) → begins_body more ≡ false → Continues bytes true more → Continues bytes false (key (codes "actions") ∷ more)
actions_more bytes more none_next rest read place has at =
    let token : Token = token_of bytes place (key (codes "actions")) in
    let g : Goes bytes read place (key (codes "actions")) more = goes bytes read place false (key (codes "actions")) more has at (key_word (codes "actions") refl) refl none_next in
    rest_more bytes read token (key (codes "actions")) more g.follows refl (rest (token ∷ read) (after place (key (codes "actions")) more) (read_more bytes read place (key (codes "actions")) more true g refl refl) g.next_at)

begins_words : (words : List (List ℕ)) (more : List Lexeme) → begins_body more ≡ false → begins_body (map word words ++ more) ≡ false
begins_words [] more none_next = none_next
begins_words (first ∷ words) more none_next = refl

words_more : (bytes : List ℕ) (words : List (List ℕ)) (more : List Lexeme) → begins_body more ≡ false → Continues bytes true more → Continues bytes true (map word words ++ more)
words_more bytes [] more none_next rest = rest
words_more bytes (text ∷ words) more none_next rest = word_more bytes true text (map word words ++ more) (begins_words words more none_next) (words_more bytes words more none_next rest)

-- ---- a body in its braces

abbrev braces : List ℕ → List Lexeme → List Lexeme
braces raw more = key (codes "{") ∷ body raw ∷ key (codes "}") ∷ more

-- a body is not empty
some_raw : (raw : List ℕ) → is_white (get_or raw 0 0) ≡ true → 0 < length raw
some_raw [] white = absurd (false≢true white)
some_raw (b ∷ raw) white = omega arith

braces_more : (bytes raw : List ℕ) (more : List Lexeme) → IsRaw raw → begins_body more ≡ false → Continues bytes false more → Continues bytes true (braces raw more)
braces_more bytes raw more is_raw none_next rest read place has at =
    let sep : List ℕ = separator (key (codes "}")) more in
    let closing : List ℕ = 125 ∷ (sep ++ bytes_of more) in
    let parts : Separates sep (bytes_of more) = separates (key (codes "}")) more refl none_next in
    let here : IsAt bytes place (123 ∷ (raw ++ closing)) = subst (λ r. IsAt bytes place (123 ∷ (r ++ closing))) (append-nil raw) at in
    let ends : EndsWord (raw ++ closing) = inr (ap is_white (get_or_append_left raw closing 0 0 (some_raw raw is_raw.white_first)) ∙ is_raw.white_first) in
    let at_body : IsAt bytes (place + 1) (raw ++ closing) = at_more bytes place (123 ∷ []) (raw ++ closing) here in
    let at_brace : IsAt bytes (place + 1 + length raw) closing = at_more bytes (place + 1) raw closing at_body in
    let at_sep : IsAt bytes (place + 1 + length raw + 1) (sep ++ bytes_of more) = at_more bytes (place + 1 + length raw) (125 ∷ []) (sep ++ bytes_of more) at_brace in
    let left : Token = token_of bytes place (key (codes "{")) in
    let inside : Token = token_of bytes (place + 1) (body raw) in
    let right : Token = token_of bytes (place + 1 + length raw) (key (codes "}")) in
    let opens : next_after (left ∷ read) ≡ NextBody = ap (λ t. cond t NextBody NextWord) has.awaited in
    let left_follows : Follows bytes read left = follows_word bytes read place true (key (codes "{")) (raw ++ closing) has here (key_word (codes "{") refl) ends in
    let body_follows : Follows bytes (left ∷ read) inside = subst (λ n. IsNextToken n bytes (place + 1) inside) (sym opens) (body_token bytes (place + 1) raw (sep ++ bytes_of more) at_body is_raw) in
    let right_follows : Follows bytes (inside ∷ left ∷ read) right = record { begins = refl; one_byte = refl; has_text = refl; has_kind = refl; has_line = refl } in
    let end : ℕ = place + 1 + length raw + 1 + length sep in
    let read_on : IsReadTo bytes (right ∷ inside ∷ left ∷ read) end false = record { outside = refl; awaited = refl; order = omega arith; white = white_more bytes (place + 1 + length raw + 1) sep (bytes_of more) at_sep parts } in
    rest_more bytes read left (key (codes "{")) (body raw ∷ key (codes "}") ∷ more) left_follows refl
    (rest_more bytes (left ∷ read) inside (body raw) (key (codes "}") ∷ more) body_follows refl
    (rest_more bytes (inside ∷ left ∷ read) right (key (codes "}")) more right_follows refl
    (rest (right ∷ inside ∷ left ∷ read) end read_on (at_more bytes (place + 1 + length raw + 1) sep (bytes_of more) at_sep))))

-- ---- all lexemes

can_begin : (lexemes : List Lexeme) → CanStand lexemes → begins_body lexemes ≡ false
can_begin _ nothing = refl
can_begin _ (a_word text more can) = refl
can_begin _ (a_key text more is_key other can) = refl
can_begin _ (an_action words raw more is_raw can) = refl

nothing_more : (bytes : List ℕ) → Continues bytes false []
nothing_more bytes read place has at =
    let end : place ≡ length bytes = omega (arith, at_length bytes place [] at) in
    record { tokens = []; stand = record { outside = has.outside; gap = subst (IsGap bytes (place_after read)) end (white_gap bytes (place_after read) place has.white) }; say = refl }

continues : (bytes : List ℕ) (lexemes : List Lexeme) → CanStand lexemes → Continues bytes false lexemes
continues bytes _ nothing = nothing_more bytes
continues bytes _ (a_word text more can) = word_more bytes false text more (can_begin more can) (continues bytes more can)
continues bytes _ (a_key text more is_key other can) = key_more bytes text more is_key other (can_begin more can) (continues bytes more can)
continues bytes _ (an_action words raw more is_raw can) = actions_more bytes (map word words ++ braces raw more) (begins_words words (braces raw more) refl) (words_more bytes words (braces raw more) refl (braces_more bytes raw more is_raw (can_begin more can) (continues bytes more can)))

pub can_join : (first second : List Lexeme) → CanStand first → CanStand second → CanStand (first ++ second)
can_join _ second nothing after = after
can_join _ second (a_word text more can) after = a_word text (more ++ second) (can_join more second can after)
can_join _ second (a_key text more is_key other can) after = a_key text (more ++ second) is_key other (can_join more second can after)
can_join _ second (an_action words raw more is_raw can) after = subst CanStand (ap (λ ls. key (codes "actions") ∷ ls) (sym (append_assoc (map word words) (braces raw more) second))) (an_action words raw (more ++ second) is_raw (can_join more second can after))

-- the tokens of the bytes say the lexemes
pub all_said : (lexemes : List Lexeme) → CanStand lexemes → AreTexts lexemes → ReadsAs (bytes_of lexemes) lexemes
all_said lexemes can texts =
    let bytes : List ℕ = bytes_of lexemes in
    let rest : Rest bytes [] lexemes = continues bytes lexemes can [] 0 (record { outside = refl; awaited = refl; order = omega arith; white = λ k low high. let never : ⊥ = omega (arith, high) in absurd never }) (record { within = omega arith; rest_is = refl }) in
    record { tokens = rest.tokens; are_tokens = (text_of_lexemes lexemes texts, rest.stand); say = rest.say }

-- and the bytes have no other answer
pub all_answered : (lexemes : List Lexeme) (answer : Result (List Token) LexFault) → CanStand lexemes → AreTexts lexemes → IsAnswer (bytes_of lexemes) answer → IsOkAnd answer (λ tokens. map lexeme_of tokens ≡ lexemes)
all_answered lexemes answer can texts is =
    let reading : ReadsAs (bytes_of lexemes) lexemes = all_said lexemes can texts in
    subst (λ (a : Result (List Token) LexFault). IsOkAnd a (λ tokens. map lexeme_of tokens ≡ lexemes)) (sym (one_answer (bytes_of lexemes) answer (Ok reading.tokens) is reading.are_tokens)) reading.say
