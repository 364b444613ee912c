-- Letters are read in turn, with the quotes they open, until white space outside of quotes or the end ends the word.
use Rattle.std.proofs.Common.{◌≡◌, ℕ, ◌+◌, ◌<◌, ◌≤◌, Bool, true, false, cond, not, ◌||◌, ◌==◌, ◌⊎◌, inl, inr, List, [], ◌∷◌, ◌++◌, length, get_or, take, slice_range, min, refl, sym, ◌∙◌, ap, subst, arith}
use Rattle.std.specs.List.{list_any}
use Rattle.std.proofs.lemmas.Bool.{cases_lt, cases_order, true≢false, false≢true, or_parts, eq-eqb, ne_eqb}
use Rattle.std.proofs.lemmas.List.{append_assoc, get_or_append_left, get_or_past, get_or_push, take-append-le, take_at, length_push}
use Rattle.b2_base.specs.Bytes.{is_white}
use Rattle.jam_lexer.specs.Word.{Letter, Plain, Literal, Lone, letters, is_quote, is_space, is_lone, in_quotes, IsUnbroken, IsWord, IsOpenWord}
use Rattle.jam_lexer.proofs.SlicesJoinAndStayTexts.{slice_none, slice_more}

-- ---- one letter more

pub in_quotes_push : (xs : List Letter) (l : Letter) → in_quotes (xs ++ l ∷ []) ≡ cond (is_quote l) (not (in_quotes xs)) (in_quotes xs)
in_quotes_push [] l = refl
in_quotes_push (x ∷ xs) l =
    elim (is_quote x) as (λ t. cond t (not (in_quotes (xs ++ l ∷ []))) (in_quotes (xs ++ l ∷ [])) ≡ cond (is_quote l) (not (cond t (not (in_quotes xs)) (in_quotes xs))) (cond t (not (in_quotes xs)) (in_quotes xs))) [
      | true ↦ ap not (in_quotes_push xs l) ∙ elim (is_quote l) as (λ u. not (cond u (not (in_quotes xs)) (in_quotes xs)) ≡ cond u (not (not (in_quotes xs))) (not (in_quotes xs))) [ true ↦ refl | false ↦ refl ]
      | false ↦ in_quotes_push xs l
    ]

pub lone_append : (xs ys : List Letter) → list_any is_lone xs ≡ false → list_any is_lone (xs ++ ys) ≡ list_any is_lone ys
lone_append [] ys none = refl
lone_append (x ∷ xs) ys none =
    let parts : (is_lone x ≡ false) × (list_any is_lone xs ≡ false) = or_parts (is_lone x) (list_any is_lone xs) none in
    ap (λ t. t || list_any is_lone (xs ++ ys)) parts.0 ∙ lone_append xs ys parts.1

pub unbroken_push : (xs : List Letter) (l : Letter) → IsUnbroken xs → (is_space l ≡ true → in_quotes xs ≡ true) → IsUnbroken (xs ++ l ∷ [])
unbroken_push xs l unbroken last k space = go (cases_order k (length xs))
  where
    go : (k ≡ length xs) ⊎ ((k < length xs) ⊎ (length xs < k)) → in_quotes (take k (xs ++ l ∷ [])) ≡ true
    go (inl same) = ap in_quotes (take_at xs (l ∷ []) k (sym same)) ∙ last (sym (ap is_space (get_or_push xs l Lone k (sym same))) ∙ space)
    go (inr (inl less)) = ap in_quotes (take-append-le k xs (l ∷ []) (omega arith)) ∙ unbroken k (sym (ap is_space (get_or_append_left xs (l ∷ []) Lone k less)) ∙ space)
    go (inr (inr more)) = absurd (false≢true (sym (ap is_space (get_or_past (xs ++ l ∷ []) k Lone (omega (arith, length_push xs l)))) ∙ space))

-- ---- the letters of the bytes

pub letters_plain : (b : ℕ) (more : List ℕ) → (b == 92) ≡ false → letters (b ∷ more) ≡ Plain b ∷ letters more
letters_plain b [] e = ap (λ t. cond t Lone (Plain b) ∷ []) e
letters_plain b (c ∷ more) e = ap (λ t. cond t (Literal c ∷ letters more) (Plain b ∷ letters (c ∷ more))) e

pub letters_literal : (b c : ℕ) (more : List ℕ) → (b == 92) ≡ true → letters (b ∷ c ∷ more) ≡ Literal c ∷ letters more
letters_literal b c more e = ap (λ t. cond t (Literal c ∷ letters more) (Plain b ∷ letters (c ∷ more))) e

pub letters_lone : (b : ℕ) → (b == 92) ≡ true → letters (b ∷ []) ≡ Lone ∷ []
letters_lone b e = ap (λ t. cond t Lone (Plain b) ∷ []) e

-- bytes after whole letters have letters of their own
pub letters_append : (xs ys : List ℕ) → list_any is_lone (letters xs) ≡ false → letters (xs ++ ys) ≡ letters xs ++ letters ys
letters_append [] ys whole = refl
letters_append (b ∷ []) ys whole = go (b == 92) refl
  where
    go : (t : Bool) → (b == 92) ≡ t → letters (b ∷ ys) ≡ letters (b ∷ []) ++ letters ys
    go true e = absurd (true≢false (sym (ap (list_any is_lone) (letters_lone b e)) ∙ whole))
    go false e = letters_plain b ys e ∙ sym (ap (λ ls. ls ++ letters ys) (letters_plain b [] e))
letters_append (b ∷ c ∷ xs) ys whole = go (b == 92) refl (letters_append xs ys) (letters_append (c ∷ xs) ys)
  where
    go : (t : Bool) → (b == 92) ≡ t → (list_any is_lone (letters xs) ≡ false → letters (xs ++ ys) ≡ letters xs ++ letters ys) → (list_any is_lone (letters (c ∷ xs)) ≡ false → letters (c ∷ (xs ++ ys)) ≡ letters (c ∷ xs) ++ letters ys) → letters (b ∷ c ∷ (xs ++ ys)) ≡ letters (b ∷ c ∷ xs) ++ letters ys
    go true e past next =
        letters_literal b c (xs ++ ys) e ∙ ap (λ ls. Literal c ∷ ls) (past (sym (ap (list_any is_lone) (letters_literal b c xs e)) ∙ whole))
        ∙ sym (ap (λ ls. ls ++ letters ys) (letters_literal b c xs e))
    go false e past next =
        letters_plain b (c ∷ (xs ++ ys)) e ∙ ap (λ ls. Plain b ∷ ls) (next (sym (ap (list_any is_lone) (letters_plain b (c ∷ xs) e)) ∙ whole))
        ∙ sym (ap (λ ls. ls ++ letters ys) (letters_plain b (c ∷ xs) e))

-- ---- one letter further in the bytes

-- the letters from the start up to here, with the quotes as the code has them
pub record IsReading (bytes : List ℕ) (start at : ℕ) (quoted : Bool) : Type 0 where
  pub order : start ≤ at
  pub within : at ≤ length bytes
  pub quotes : in_quotes (letters (slice_range bytes start at)) ≡ quoted
  pub unbroken : IsUnbroken (letters (slice_range bytes start at))
  pub whole : (list_any is_lone (letters (slice_range bytes start at)) ≡ false) ⊎ (at ≡ length bytes)

pub reading_start : (bytes : List ℕ) (start : ℕ) → start ≤ length bytes → IsReading bytes start start false
reading_start bytes start within =
    let none : letters (slice_range bytes start start) ≡ [] = ap letters (slice_none bytes start) in
    record {
      order = omega arith;
      within = within;
      quotes = ap in_quotes none;
      unbroken = subst IsUnbroken (sym none) (λ k space. absurd (false≢true space));
      whole = inl (ap (list_any is_lone) none);
    }

-- with one letter more
grown : (bytes : List ℕ) (start at to : ℕ) (quoted : Bool) (l : Letter) → IsReading bytes start at quoted → at < to → to ≤ length bytes → letters (slice_range bytes start to) ≡ letters (slice_range bytes start at) ++ l ∷ [] → (is_space l ≡ true → quoted ≡ true) → (is_lone l ≡ false) ⊎ (to ≡ length bytes) → list_any is_lone (letters (slice_range bytes start at)) ≡ false → IsReading bytes start to (cond (is_quote l) (not quoted) quoted)
grown bytes start at to quoted l r less within more space lone old =
    let ls : List Letter = letters (slice_range bytes start at) in
    record {
      order = omega (arith, r.order, less);
      within = within;
      quotes = ap in_quotes more ∙ in_quotes_push ls l ∙ ap (λ q. cond (is_quote l) (not q) q) r.quotes;
      unbroken = subst IsUnbroken (sym more) (unbroken_push ls l r.unbroken (λ s. r.quotes ∙ space s));
      whole = go lone;
    }
  where
    go : (is_lone l ≡ false) ⊎ (to ≡ length bytes) → (list_any is_lone (letters (slice_range bytes start to)) ≡ false) ⊎ (to ≡ length bytes)
    go (inl no_lone) = inl (ap (list_any is_lone) more ∙ lone_append (letters (slice_range bytes start at)) (l ∷ []) old ∙ ap (λ t. t || false) no_lone)
    go (inr end) = inr end

whole_before : (bytes : List ℕ) (start at : ℕ) (quoted : Bool) → IsReading bytes start at quoted → at < length bytes → list_any is_lone (letters (slice_range bytes start at)) ≡ false
whole_before bytes start at quoted r less = go r.whole
  where
    go : (list_any is_lone (letters (slice_range bytes start at)) ≡ false) ⊎ (at ≡ length bytes) → list_any is_lone (letters (slice_range bytes start at)) ≡ false
    go (inl whole) = whole
    go (inr end) = let never : ⊥ = omega (arith, end, less) in absurd never

-- the letters with one byte more
letters_more : (bytes : List ℕ) (start at : ℕ) → start ≤ at → at < length bytes → list_any is_lone (letters (slice_range bytes start at)) ≡ false → letters (slice_range bytes start (at + 1)) ≡ letters (slice_range bytes start at) ++ letters (get_or bytes at 0 ∷ [])
letters_more bytes start at order less whole = ap letters (slice_more bytes start at order less) ∙ letters_append (slice_range bytes start at) (get_or bytes at 0 ∷ []) whole

-- the letters with two bytes more
letters_two_more : (bytes : List ℕ) (start at : ℕ) → start ≤ at → at + 1 < length bytes → list_any is_lone (letters (slice_range bytes start at)) ≡ false → letters (slice_range bytes start (at + 2)) ≡ letters (slice_range bytes start at) ++ letters (get_or bytes at 0 ∷ get_or bytes (at + 1) 0 ∷ [])
letters_two_more bytes start at order less whole =
    let two : at + 2 ≡ (at + 1) + 1 = omega arith in
    ap letters
    (ap (slice_range bytes start) two
    ∙ slice_more bytes start (at + 1) (omega arith) less
    ∙ ap (λ prefix. prefix ++ get_or bytes (at + 1) 0 ∷ []) (slice_more bytes start at order (omega arith))
    ∙ append_assoc (slice_range bytes start at) (get_or bytes at 0 ∷ []) (get_or bytes (at + 1) 0 ∷ []))
    ∙ letters_append (slice_range bytes start at) (get_or bytes at 0 ∷ get_or bytes (at + 1) 0 ∷ []) whole

pub reading_plain : (bytes : List ℕ) (start at : ℕ) (quoted : Bool) → IsReading bytes start at quoted → at < length bytes → (get_or bytes at 0 ≡ 92 → ⊥) → (get_or bytes at 0 ≡ 34 → ⊥) → (is_white (get_or bytes at 0) ≡ true → quoted ≡ true) → IsReading bytes start (at + 1) quoted
reading_plain bytes start at quoted r less no_slash no_quote space =
    let b : ℕ = get_or bytes at 0 in
    let whole : list_any is_lone (letters (slice_range bytes start at)) ≡ false = whole_before bytes start at quoted r less in
    let more : letters (slice_range bytes start (at + 1)) ≡ letters (slice_range bytes start at) ++ Plain b ∷ [] = letters_more bytes start at r.order less whole ∙ ap (λ ls. letters (slice_range bytes start at) ++ ls) (letters_plain b [] (ne_eqb b 92 no_slash)) in
    subst (IsReading bytes start (at + 1)) (ap (λ t. cond t (not quoted) quoted) (ne_eqb b 34 no_quote))
    (grown bytes start at (at + 1) quoted (Plain b) r (omega arith) (omega arith) more space (inl refl) whole)

pub reading_quote : (bytes : List ℕ) (start at : ℕ) (quoted : Bool) → IsReading bytes start at quoted → at < length bytes → get_or bytes at 0 ≡ 34 → IsReading bytes start (at + 1) (not quoted)
reading_quote bytes start at quoted r less is_34 =
    let b : ℕ = get_or bytes at 0 in
    let whole : list_any is_lone (letters (slice_range bytes start at)) ≡ false = whole_before bytes start at quoted r less in
    let more : letters (slice_range bytes start (at + 1)) ≡ letters (slice_range bytes start at) ++ Plain b ∷ [] = letters_more bytes start at r.order less whole ∙ ap (λ ls. letters (slice_range bytes start at) ++ ls) (letters_plain b [] (ap (λ n. n == 92) is_34)) in
    subst (IsReading bytes start (at + 1)) (ap (λ n. cond (n == 34) (not quoted) quoted) is_34)
    (grown bytes start at (at + 1) quoted (Plain b) r (omega arith) (omega arith) more (λ s. absurd (false≢true (ap is_white (sym is_34) ∙ s))) (inl refl) whole)

pub reading_literal : (bytes : List ℕ) (start at : ℕ) (quoted : Bool) → IsReading bytes start at quoted → at < length bytes → get_or bytes at 0 ≡ 92 → IsReading bytes start (min (at + 2) (length bytes)) quoted
reading_literal bytes start at quoted r less is_92 = go (cases_lt (at + 1) (length bytes))
  where
    whole : list_any is_lone (letters (slice_range bytes start at)) ≡ false
    whole = whole_before bytes start at quoted r less

    go : (at + 1 < length bytes) ⊎ (length bytes ≤ at + 1) → IsReading bytes start (min (at + 2) (length bytes)) quoted
    go (inl two) =
        let place : at + 2 ≡ min (at + 2) (length bytes) = omega arith in
        let more : letters (slice_range bytes start (at + 2)) ≡ letters (slice_range bytes start at) ++ Literal (get_or bytes (at + 1) 0) ∷ [] = letters_two_more bytes start at r.order two whole ∙ ap (λ ls. letters (slice_range bytes start at) ++ ls) (letters_literal (get_or bytes at 0) (get_or bytes (at + 1) 0) [] (eq-eqb (get_or bytes at 0) 92 is_92)) in
        subst (λ to. IsReading bytes start to quoted) place
        (grown bytes start at (at + 2) quoted (Literal (get_or bytes (at + 1) 0)) r (omega arith) (omega arith) more (λ s. absurd (false≢true s)) (inl refl) whole)
    go (inr one) =
        let place : at + 1 ≡ min (at + 2) (length bytes) = omega arith in
        let more : letters (slice_range bytes start (at + 1)) ≡ letters (slice_range bytes start at) ++ Lone ∷ [] = letters_more bytes start at r.order less whole ∙ ap (λ ls. letters (slice_range bytes start at) ++ ls) (letters_lone (get_or bytes at 0) (eq-eqb (get_or bytes at 0) 92 is_92)) in
        subst (λ to. IsReading bytes start to quoted) place
        (grown bytes start at (at + 1) quoted Lone r (omega arith) (omega arith) more (λ s. absurd (false≢true s)) (inr (omega arith)) whole)

-- white space outside quotes ends the word
pub word_before_white : (bytes : List ℕ) (start at : ℕ) (quoted : Bool) → IsReading bytes start at quoted → at < length bytes → quoted ≡ false → is_white (get_or bytes at 0) ≡ true → IsWord bytes start at
word_before_white bytes start at quoted r less closed white =
    record { order = r.order; within = r.within; unbroken = r.unbroken; closed = r.quotes ∙ closed; ends = inr (white, whole_before bytes start at quoted r less) }

-- the end of the input ends the word, or leaves its quotes open
pub word_before_end : (bytes : List ℕ) (start at : ℕ) (quoted : Bool) → IsReading bytes start at quoted → at ≡ length bytes → quoted ≡ false → IsWord bytes start at
word_before_end bytes start at quoted r end closed =
    record { order = r.order; within = r.within; unbroken = r.unbroken; closed = r.quotes ∙ closed; ends = inl end }

pub open_word : (bytes : List ℕ) (start at : ℕ) (quoted : Bool) → IsReading bytes start at quoted → at ≡ length bytes → quoted ≡ true → IsOpenWord bytes start
open_word bytes start at quoted r end is_open =
    record {
      unbroken = subst (λ to. IsUnbroken (letters (slice_range bytes start to))) end r.unbroken;
      in_open_quotes = sym (ap (λ to. in_quotes (letters (slice_range bytes start to))) end) ∙ r.quotes ∙ is_open;
    }
