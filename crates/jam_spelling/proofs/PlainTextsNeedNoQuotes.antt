-- A text with no white space, quote, backslash or `#` in front is a word as it stands, or the key that it is.
use Rattle.std.proofs.Common.{◌≡◌, ◌≢◌, ℕ, zero, suc, ◌<◌, Bool, true, false, cond, not, ◌==◌, ◌&&◌, ◌||◌, ◌⊎◌, inl, inr, List, [], ◌∷◌, ◌++◌, length, get_or, refl, sym, ◌∙◌, ap, arith}
use Rattle.std.specs.List.{list_any, list_all, flat_map}
use Rattle.std.specs.Str.{bytes_eq}
use Rattle.std.proofs.lemmas.Bool.{true≢false, false≢true, or_parts, or_cases, and_parts, not-true, eqb-false}
use Rattle.std.proofs.lemmas.Slice.Eq.{bytes_eq-Decides}
use Rattle.b2_base.specs.declared.token.TokenKind.{TokenKind}
use Rattle.b2_base.specs.declared.token.TokenKind.TheVariants as kinds
use Rattle.b2_base.specs.Bytes.{is_white}
use Rattle.jam_lexer.specs.Word.{Letter, Plain, Lone, letters, is_quote, is_space, is_lone, in_quotes, IsUnbroken, text_of, text_of_letter, is_bare, is_key_text, kind_of, signs, reserved_words}
use Rattle.jam_lexer.proofs.WordsGrowLetterByLetter.{letters_plain}
use Rattle.jam_spelling.specs.Spelling.{is_escaped, is_special}

-- bytes that are a word of this kind and text wherever white space or the end follows them
pub record IsWordOf (kind : TokenKind) (text word : List ℕ) : Type 0 where
  pub unbroken : IsUnbroken (letters word)
  pub closed : in_quotes (letters word) ≡ false
  pub whole : list_any is_lone (letters word) ≡ false
  pub has_text : text_of word ≡ text
  pub has_kind : kind_of word ≡ kind
  pub some : 0 < length word
  pub no_white : is_white (get_or word 0 0) ≡ false
  pub no_hash : get_or word 0 0 ≢ 35

-- ---- lists of letters

-- what no element passes, none at a place passes
pub none_at : {X : Type 0} (p : X → Bool) (xs : List X) (k : ℕ) (d : X) → list_any p xs ≡ false → p d ≡ false → p (get_or xs k d) ≡ false
none_at p [] k d none last = last
none_at p (x ∷ xs) zero d none last = (or_parts (p x) (list_any p xs) none).0
none_at p (x ∷ xs) (suc k) d none last = none_at p xs k d (or_parts (p x) (list_any p xs) none).1 last

-- letters with no white space are unbroken
pub unbroken_without_space : (ls : List Letter) → list_any is_space ls ≡ false → IsUnbroken ls
unbroken_without_space ls none k space = absurd (true≢false (sym space ∙ none_at is_space ls k Lone none refl))

-- letters without a quote are outside quotes
pub outside_without_quote : (ls : List Letter) → list_any is_quote ls ≡ false → in_quotes ls ≡ false
outside_without_quote [] none = refl
outside_without_quote (l ∷ ls) none =
    let parts : (is_quote l ≡ false) × (list_any is_quote ls ≡ false) = or_parts (is_quote l) (list_any is_quote ls) none in
    ap (λ t. cond t (not (in_quotes ls)) (in_quotes ls)) parts.0 ∙ outside_without_quote ls parts.1

-- ---- bytes that mean nothing special

-- a byte that is neither white space nor a quote nor a backslash
record IsOrdinary (b : ℕ) : Type 0 where
  white : is_white b ≡ false
  quote : (b == 34) ≡ false
  slash : (b == 92) ≡ false

ordinary : (b : ℕ) → is_special b ≡ false → IsOrdinary b
ordinary b none =
    let parts : (is_white b ≡ false) × (is_escaped b ≡ false) = or_parts (is_white b) (is_escaped b) none in
    let signs : ((b == 34) ≡ false) × ((b == 92) ≡ false) = or_parts (b == 34) (b == 92) parts.1 in
    record { white = parts.0; quote = signs.0; slash = signs.1 }

-- what the letters of such bytes are
record IsPlain (text : List ℕ) : Type 0 where
  space : list_any is_space (letters text) ≡ false
  quote : list_any is_quote (letters text) ≡ false
  lone : list_any is_lone (letters text) ≡ false
  same : text_of text ≡ text
  bare : is_bare text ≡ true

plain : (text : List ℕ) → list_any is_special text ≡ false → IsPlain text
plain [] none = record { space = refl; quote = refl; lone = refl; same = refl; bare = refl }
plain (b ∷ text) none = go (ordinary b parts.0) (plain text parts.1)
  where
    parts : (is_special b ≡ false) × (list_any is_special text ≡ false)
    parts = or_parts (is_special b) (list_any is_special text) none

    go : IsOrdinary b → IsPlain text → IsPlain (b ∷ text)
    go o p =
        let first : letters (b ∷ text) ≡ Plain b ∷ letters text = letters_plain b text o.slash in
        record {
          space = ap (list_any is_space) first ∙ ap (λ t. t || list_any is_space (letters text)) o.white ∙ p.space;
          quote = ap (list_any is_quote) first ∙ ap (λ t. t || list_any is_quote (letters text)) o.quote ∙ p.quote;
          lone = ap (list_any is_lone) first ∙ p.lone;
          same = ap (flat_map text_of_letter) first ∙ ap (λ t. cond t [] (b ∷ []) ++ text_of text) o.quote ∙ ap (λ t. b ∷ t) p.same;
          bare = ap (λ t. not (t || b == 92) && is_bare text) o.quote ∙ ap (λ t. not t && is_bare text) o.slash ∙ p.bare;
        }

-- a text of such bytes is a word as it stands, and a key where it is a key's
pub bare_word : (text : List ℕ) (is_key : Bool) → list_any is_special text ≡ false → 0 < length text → get_or text 0 0 ≢ 35 → is_key_text text ≡ is_key → IsWordOf (cond is_key kinds.Key kinds.Word) text text
bare_word text is_key none some no_hash key_is = go (plain text none)
  where
    go : IsPlain text → IsWordOf (cond is_key kinds.Key kinds.Word) text text
    go p =
        record {
          unbroken = unbroken_without_space (letters text) p.space;
          closed = outside_without_quote (letters text) p.quote;
          whole = p.lone;
          has_text = p.same;
          has_kind = ap (λ t. cond (t && is_key_text (text_of text)) kinds.Key kinds.Word) p.bare ∙ ap (λ t. cond (is_key_text t) kinds.Key kinds.Word) p.same ∙ ap (λ t. cond t kinds.Key kinds.Word) key_is;
          some = some;
          no_white = (ordinary (get_or text 0 0) (none_at is_special text 0 0 none refl)).white;
          no_hash = no_hash;
        }

-- ---- keys

pub some_of : (text : List ℕ) → (length text == 0) ≡ false → 0 < length text
some_of text e = let none : length text ≡ 0 → ⊥ = eqb-false (length text) 0 e in omega (arith, none)

-- what the texts of keys have in common
abbrev is_good : List ℕ → Bool
is_good text = not (list_any is_special text) && (not (length text == 0) && not (get_or text 0 0 == 35))

all_have : (p : List ℕ → Bool) (text : List ℕ) (texts : List (List ℕ)) → list_all p texts ≡ true → list_any (bytes_eq text) texts ≡ true → p text ≡ true
all_have p text [] all any = absurd (false≢true any)
all_have p text (t ∷ texts) all any = go (or_cases (bytes_eq text t) (list_any (bytes_eq text) texts) any) (all_have p text texts parts.1)
  where
    parts : (p t ≡ true) × (list_all p texts ≡ true)
    parts = and_parts (p t) (list_all p texts) all

    go : (bytes_eq text t ≡ true) ⊎ (list_any (bytes_eq text) texts ≡ true) → (list_any (bytes_eq text) texts ≡ true → p text ≡ true) → p text ≡ true
    go (inl here) rest = ap p ((bytes_eq-Decides text t).0 here) ∙ parts.0
    go (inr later) rest = rest later

key_is_good : (text : List ℕ) → is_key_text text ≡ true → is_good text ≡ true
key_is_good text is = go (or_cases (list_any (bytes_eq text) signs) (list_any (bytes_eq text) reserved_words) is)
  where
    go : (list_any (bytes_eq text) signs ≡ true) ⊎ (list_any (bytes_eq text) reserved_words ≡ true) → is_good text ≡ true
    go (inl sign) = all_have is_good text signs refl sign
    go (inr reserved) = all_have is_good text reserved_words refl reserved

pub key_word : (text : List ℕ) → is_key_text text ≡ true → IsWordOf kinds.Key text text
key_word text is =
    let good : (not (list_any is_special text) ≡ true) × ((not (length text == 0) && not (get_or text 0 0 == 35)) ≡ true) = and_parts (not (list_any is_special text)) (not (length text == 0) && not (get_or text 0 0 == 35)) (key_is_good text is) in
    let shape : (not (length text == 0) ≡ true) × (not (get_or text 0 0 == 35) ≡ true) = and_parts (not (length text == 0)) (not (get_or text 0 0 == 35)) good.1 in
    bare_word text true (not-true (list_any is_special text) good.0) (some_of text (not-true (length text == 0) shape.0)) (eqb-false (get_or text 0 0) 35 (not-true (get_or text 0 0 == 35) shape.1)) is
