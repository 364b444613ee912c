-- The project file of a drill is written as its lexemes are spelled, and these can stand in a text.
use Rattle.std.proofs.Common.{◌≡◌, ℕ, zero, suc, ◌<◌, ◌^◌, ◌/◌, ◌+◌, Bool, true, false, ltb, eqb, ◌&&◌, List, [], ◌∷◌, ◌++◌, length, take, codes, refl, sym, ap, ap₂, ◌∙◌, append_assoc, arith}
use Rattle.std.specs.List.{AllByRecursion, list_all}
use Rattle.std.proofs.lemmas.Bool.{and_parts, ltb-true}
use Rattle.std.proofs.lemmas.List.Sums.{sum_by-append}
use Rattle.std.proofs.lemmas.List.Elements.{All-from_recursion, All-append}
use Rattle.std.proofs.lemmas.Str.{IsUtf8-append, IsUtf8-nil}
use Rattle.b2_drill.specs.Drills.{source_name, target_name, make_line, make_lines, join_line, jamroot}
use Rattle.jam_lexer.specs.Tokens.{IsText, is_body}
use Rattle.jam_spelling.specs.declared.lexeme.Lexeme.{Lexeme}
use Rattle.jam_spelling.specs.Spelling.{needs_quotes, spelling, ends_line, begins_body, separator, bytes_of}
use Rattle.jam_spelling.specs.LexemeLists.{word, key, body, count, IsRaw, CanStand, nothing, a_word, a_key, an_action}
use Rattle.jam_spelling.specs.Readings.{AreTexts}
use Rattle.jam_spelling.proofs.SpelledLexemesAreText.{one_text}
use Rattle.b2_drill_text.proofs.NamesNeedNoQuotes.{some_bytes, source_needs_none, target_needs_none, named_text}

-- ---- the lexemes

-- those after the sources of a target, before others
abbrev pub after_sources : List Lexeme → List Lexeme
after_sources rest = key (codes ":") ∷ word (codes "@join") ∷ key (codes ";") ∷ rest

-- those of the line of a target
abbrev pub make_before : ℕ → List Lexeme → List Lexeme
make_before zero rest = word (codes "make") ∷ word (target_name 0) ∷ key (codes ":") ∷ word (source_name 0) ∷ after_sources rest
make_before (suc i) rest =
    word (codes "make") ∷ word (target_name (suc i)) ∷ key (codes ":") ∷ word (source_name (suc i)) ∷ word (target_name (suc i / 2)) ∷ after_sources rest

-- those of the lines of so many targets
abbrev pub makes_before : ℕ → List Lexeme → List Lexeme
makes_before zero rest = rest
makes_before (suc n) rest = makes_before n (make_before n rest)

-- the body of the actions
abbrev pub raw : List ℕ
raw = codes " cat $(>) > $(<) "

-- those of the line of the actions
abbrev pub join_before : List Lexeme → List Lexeme
join_before rest = key (codes "actions") ∷ word (codes "join") ∷ key (codes "{") ∷ body raw ∷ key (codes "}") ∷ rest

-- those of the file
abbrev pub lexemes : ℕ → List Lexeme
lexemes n = join_before (makes_before n [])

-- ---- one lexeme and what stands after it

after : (lexeme next : Lexeme) (more : List Lexeme) → is_body lexeme.kind ≡ false → ends_line lexeme ≡ false → is_body next.kind ≡ false → separator lexeme (next ∷ more) ≡ 32 ∷ []
after lexeme next more no_body no_end none_next = rw (no_body, none_next, no_end, some_bytes (length more)) refl

spelled : (text : List ℕ) → needs_quotes text ≡ false → spelling (word text) ≡ text
spelled text bare = rw bare refl

word_piece : (text : List ℕ) (next : Lexeme) (more : List Lexeme) → needs_quotes text ≡ false → is_body next.kind ≡ false → bytes_of (word text ∷ next ∷ more) ≡ text ++ 32 ∷ bytes_of (next ∷ more)
word_piece text next more bare none_next =
    ap₂ (λ piece sep. (piece ++ sep) ++ bytes_of (next ∷ more)) (spelled text bare) (after (word text) next more refl refl none_next)
    ∙ append_assoc text (32 ∷ []) (bytes_of (next ∷ more))

colon_piece : (next : Lexeme) (more : List Lexeme) → is_body next.kind ≡ false → bytes_of (key (codes ":") ∷ next ∷ more) ≡ codes ": " ++ bytes_of (next ∷ more)
colon_piece next more none_next = ap (λ sep. (codes ":" ++ sep) ++ bytes_of (next ∷ more)) (after (key (codes ":")) next more refl refl none_next)

after_end : (rest : List Lexeme) → begins_body rest ≡ false → separator (key (codes ";")) rest ≡ 10 ∷ []
after_end rest none_next = rw none_next refl

after_close : (rest : List Lexeme) → begins_body rest ≡ false → separator (key (codes "}")) rest ≡ 10 ∷ []
after_close rest none_next = rw none_next refl

bare_make : needs_quotes (codes "make") ≡ false
unfolding needs_quotes
bare_make = refl

bare_rule : needs_quotes (codes "@join") ≡ false
unfolding needs_quotes
bare_rule = refl

bare_join : needs_quotes (codes "join") ≡ false
unfolding needs_quotes
bare_join = refl

ended : (rest : List Lexeme) → begins_body rest ≡ false → bytes_of (after_sources rest) ≡ codes ": @join ;" ++ 10 ∷ bytes_of rest
ended rest none_next =
    colon_piece (word (codes "@join")) (key (codes ";") ∷ rest) refl
    ∙ ap (λ b. codes ": " ++ b) (word_piece (codes "@join") (key (codes ";")) rest bare_rule refl)
    ∙ ap (λ sep. codes ": @join " ++ ((codes ";" ++ sep) ++ bytes_of rest)) (after_end rest none_next)

-- ---- the line of a target

headed : (target : List ℕ) (first : Lexeme) (more : List Lexeme) → needs_quotes target ≡ false → is_body first.kind ≡ false
    → bytes_of (word (codes "make") ∷ word target ∷ key (codes ":") ∷ first ∷ more) ≡ codes "make " ++ (target ++ (codes " : " ++ bytes_of (first ∷ more)))
headed target first more bare none_next =
    word_piece (codes "make") (word target) (key (codes ":") ∷ first ∷ more) bare_make refl
    ∙ ap (λ b. codes "make " ++ b) (word_piece target (key (codes ":")) (first ∷ more) bare refl)
    ∙ ap (λ b. codes "make " ++ (target ++ 32 ∷ b)) (colon_piece first more none_next)

one_source : (a b c d e tail : List ℕ) → (((((a ++ b) ++ c) ++ d) ++ e) ++ 10 ∷ []) ++ tail ≡ a ++ (b ++ (c ++ (d ++ (e ++ 10 ∷ tail))))
one_source a b c d e tail = simp append_assoc

two_sources : (a b c s t e tail : List ℕ) → (((((a ++ b) ++ c) ++ ((s ++ 32 ∷ []) ++ t)) ++ e) ++ 10 ∷ []) ++ tail ≡ a ++ (b ++ (c ++ (s ++ 32 ∷ (t ++ (e ++ 10 ∷ tail)))))
two_sources a b c s t e tail = simp append_assoc

made : (i : ℕ) (rest : List Lexeme) → i < 2 ^ 64 → begins_body rest ≡ false → bytes_of (make_before i rest) ≡ make_line i ++ bytes_of rest
made zero rest small none_next =
    headed (target_name 0) (word (source_name 0)) (after_sources rest) (target_needs_none 0 small) refl
    ∙ ap (λ b. codes "make " ++ (target_name 0 ++ (codes " : " ++ b)))
    (word_piece (source_name 0) (key (codes ":")) (word (codes "@join") ∷ key (codes ";") ∷ rest) (source_needs_none 0 small) refl
    ∙ ap (λ b. source_name 0 ++ 32 ∷ b) (ended rest none_next))
    ∙ sym (one_source (codes "make ") (target_name 0) (codes " : ") (source_name 0) (codes " : @join ;") (bytes_of rest))
made (suc i) rest small none_next =
    let half : suc i / 2 < 2 ^ 64 = omega (arith, small) in
    headed (target_name (suc i)) (word (source_name (suc i))) (word (target_name (suc i / 2)) ∷ after_sources rest) (target_needs_none (suc i) small) refl
    ∙ ap (λ b. codes "make " ++ (target_name (suc i) ++ (codes " : " ++ b)))
    (word_piece (source_name (suc i)) (word (target_name (suc i / 2))) (after_sources rest) (source_needs_none (suc i) small) refl
    ∙ ap (λ b. source_name (suc i) ++ 32 ∷ b)
    (word_piece (target_name (suc i / 2)) (key (codes ":")) (word (codes "@join") ∷ key (codes ";") ∷ rest) (target_needs_none (suc i / 2) half) refl
    ∙ ap (λ b. target_name (suc i / 2) ++ 32 ∷ b) (ended rest none_next)))
    ∙ sym (two_sources (codes "make ") (target_name (suc i)) (codes " : ") (source_name (suc i)) (target_name (suc i / 2)) (codes " : @join ;") (bytes_of rest))

make_begins : (i : ℕ) (rest : List Lexeme) → begins_body (make_before i rest) ≡ false
make_begins zero rest = refl
make_begins (suc i) rest = refl

makes_begin : (n : ℕ) (rest : List Lexeme) → begins_body rest ≡ false → begins_body (makes_before n rest) ≡ false
makes_begin zero rest h = h
makes_begin (suc n) rest h = makes_begin n (make_before n rest) (make_begins n rest)

makes : (n : ℕ) (rest : List Lexeme) → n < 2 ^ 64 → begins_body rest ≡ false → bytes_of (makes_before n rest) ≡ make_lines n ++ bytes_of rest
unfolding make_lines
makes zero rest small none_next = refl
makes (suc n) rest small none_next =
    makes n (make_before n rest) (omega (arith, small)) (make_begins n rest)
    ∙ ap (λ b. make_lines n ++ b) (made n rest (omega (arith, small)) none_next)
    ∙ sym (append_assoc (make_lines n) (make_line n) (bytes_of rest))

-- ---- the whole file

joined : (rest : List Lexeme) → begins_body rest ≡ false → bytes_of (join_before rest) ≡ join_line ++ bytes_of rest
joined rest none_next =
    ap (λ sep. (codes "actions" ++ sep) ++ bytes_of (word (codes "join") ∷ key (codes "{") ∷ body raw ∷ key (codes "}") ∷ rest))
    (after (key (codes "actions")) (word (codes "join")) (key (codes "{") ∷ body raw ∷ key (codes "}") ∷ rest) refl refl refl)
    ∙ ap (λ b. codes "actions " ++ b) (word_piece (codes "join") (key (codes "{")) (body raw ∷ key (codes "}") ∷ rest) bare_join refl)
    ∙ ap (λ sep. codes "actions join {" ++ (raw ++ ((codes "}" ++ sep) ++ bytes_of rest))) (after_close rest none_next)

add_nothing : (xs : List ℕ) → xs ++ [] ≡ xs
add_nothing [] = refl
add_nothing (x ∷ xs) = ap (λ l. x ∷ l) (add_nothing xs)

pub file_is : (n : ℕ) → n < 2 ^ 64 → jamroot n ≡ bytes_of (lexemes n)
file_is n small = sym (joined (makes_before n []) (makes_begin n [] refl) ∙ ap (λ b. join_line ++ b) (makes n [] small refl ∙ add_nothing (make_lines n)))

-- ---- they can stand

one_is_none : (sign b : ℕ) → eqb b sign ≡ false → count sign (b ∷ []) ≡ 0
one_is_none sign b h = rw h refl

none_of : (sign : ℕ) (text : List ℕ) (k : ℕ) → AllByRecursion (λ b. eqb b sign ≡ false) text → count sign (take k text) ≡ 0
none_of sign text zero h = refl
none_of sign [] (suc k) h = refl
none_of sign (b ∷ bs) (suc k) h =
    let first : count sign (b ∷ []) ≡ 0 = one_is_none sign b h.0 in
    let both : count sign (b ∷ take k bs) ≡ count sign (b ∷ []) + count sign (take k bs) = sum_by-append _ (b ∷ []) (take k bs) in
    omega (arith, both, first, none_of sign bs k h.1)

raw_is_raw : IsRaw raw
raw_is_raw = record {
  white_first = refl;
  matched = λ k. let none : count 125 (take k raw) ≡ 0 = none_of 125 raw k (refl, (refl, (refl, (refl, (refl, (refl, (refl, (refl, (refl, (refl, (refl, (refl, (refl, (refl, (refl, (refl, (refl, tt))))))))))))))))) in omega (arith, none);
  all_closed = refl;
}

make_stands : (i : ℕ) (rest : List Lexeme) → CanStand rest → CanStand (make_before i rest)
make_stands zero rest h =
    a_word _ _ (a_word _ _ (a_key (codes ":") _ refl (λ e. cc) (a_word _ _ (a_key (codes ":") _ refl (λ e. cc) (a_word _ _ (a_key (codes ";") _ refl (λ e. cc) h))))))
make_stands (suc i) rest h =
    a_word _ _ (a_word _ _ (a_key (codes ":") _ refl (λ e. cc) (a_word _ _ (a_word _ _ (a_key (codes ":") _ refl (λ e. cc) (a_word _ _ (a_key (codes ";") _ refl (λ e. cc) h)))))))

makes_stand : (n : ℕ) (rest : List Lexeme) → CanStand rest → CanStand (makes_before n rest)
makes_stand zero rest h = h
makes_stand (suc n) rest h = makes_stand n (make_before n rest) (make_stands n rest h)

pub can_stand : (n : ℕ) → CanStand (lexemes n)
can_stand n = an_action (codes "join" ∷ []) raw (makes_before n []) raw_is_raw (makes_stand n [] nothing)

-- ---- they are texts

abbrev is_plain : ℕ → Bool
is_plain b = ltb 0 b && ltb b 128

joined_text : (xs ys : List ℕ) → IsText xs → IsText ys → IsText (xs ++ ys)
joined_text xs ys first second = (IsUtf8-append xs ys first.0 second.0, All-append (λ c. 0 < c) xs ys first.1 second.1)

plain_text : (text : List ℕ) → list_all is_plain text ≡ true → IsText text
plain_text [] h = (IsUtf8-nil, All-from_recursion (λ c. 0 < c) [] tt)
plain_text (b ∷ bs) h =
    let both = and_parts (is_plain b) (list_all is_plain bs) h in
    let own = and_parts (ltb 0 b) (ltb b 128) both.0 in
    joined_text (b ∷ []) bs (one_text b (ltb-true 0 b own.0) (ltb-true b 128 own.1)) (plain_text bs both.1)

abbrev Texts : List Lexeme → Type 0
Texts = AllByRecursion (λ (l : Lexeme). IsText l.text)

make_texts : (i : ℕ) (rest : List Lexeme) → i < 2 ^ 64 → Texts rest → Texts (make_before i rest)
make_texts zero rest small h = (
  plain_text (codes "make") refl,
  (
    named_text 116 0 (omega arith) (omega arith) small,
    (
      plain_text (codes ":") refl,
      (
        named_text 115 0 (omega arith) (omega arith) small,
        (plain_text (codes ":") refl, (plain_text (codes "@join") refl, (plain_text (codes ";") refl, h))),
      ),
    ),
  ),
)
make_texts (suc i) rest small h = (
  plain_text (codes "make") refl,
  (
    named_text 116 (suc i) (omega arith) (omega arith) small,
    (
      plain_text (codes ":") refl,
      (
        named_text 115 (suc i) (omega arith) (omega arith) small,
        (named_text 116 (suc i / 2) (omega arith) (omega arith) (omega (arith, small)), (plain_text (codes ":") refl, (plain_text (codes "@join") refl, (plain_text (codes ";") refl, h)))),
      ),
    ),
  ),
)

makes_texts : (n : ℕ) (rest : List Lexeme) → n < 2 ^ 64 → Texts rest → Texts (makes_before n rest)
makes_texts zero rest small h = h
makes_texts (suc n) rest small h = makes_texts n (make_before n rest) (omega (arith, small)) (make_texts n rest (omega (arith, small)) h)

pub are_texts : (n : ℕ) → n < 2 ^ 64 → AreTexts (lexemes n)
are_texts n small =
    All-from_recursion (λ (l : Lexeme). IsText l.text) (lexemes n)
    (plain_text (codes "actions") refl, (plain_text (codes "join") refl, (plain_text (codes "{") refl, (plain_text raw refl, (plain_text (codes "}") refl, makes_texts n [] small tt)))))
