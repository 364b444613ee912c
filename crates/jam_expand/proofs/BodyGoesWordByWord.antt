-- A body is cut at its first white space, and its texts grow by those of one word, with the white space kept between.
use Rattle.std.proofs.Common.{◌≡◌, ℕ, ◌+◌, ◌-◌, ◌<◌, ◌≤◌, true, false, cond, List, [], ◌∷◌, ◌++◌, length, take, drop, get_or, reverse, slice_range, refl, ap, ap₂, sym, ◌∙◌, subst, append_assoc, arith, Ok, Err, ◌⊎◌, inl, inr}
use Rattle.std.specs.List.{All, AllByRecursion, position_or_len, prefix_len, suffix_len, join_with_byte}
use Rattle.std.proofs.lemmas.List.{take_more, drop_more, length-append, length-take, get_or-take, drop_at, get_or_at, get_or-reverse}
use Rattle.std.proofs.lemmas.List.Elements.{All-tail, recursion_from_All, All-from_recursion, filter-append}
use Rattle.std.proofs.lemmas.List.Splits.{slice_split_at, slice_split_none}
use Rattle.std.proofs.lemmas.List.Sums.{split_at_first, fails_before_first, passes_at_first, prefix_len-le-length, prefix_len_passes, suffix_len-le-length}
use Rattle.std.specs.Str.{IsUtf8, IsCharBoundary}
use Rattle.std.proofs.lemmas.Str.{IsUtf8-drop, IsCharBoundary-after_ascii, IsCharBoundary-before_ascii}
use Rattle.std.proofs.lemmas.Bool.Decides.{nat_tests}
use Rattle.b2_base.specs.Bytes.{HasNoZero, is_white}
use Rattle.b2_base.specs.declared.expand_fault.ExpandFault.{ExpandFault}
use Rattle.b2_base.specs.declared.expand_fault.ExpandFault.TheVariants as faults
use Rattle.b2_base.specs.Results.{and_then}
use Rattle.jam_expand.specs.Limits.{Answer, within}
use Rattle.jam_expand.specs.Expansions.{expansion}
use Rattle.jam_expand.specs.Bodies.{words, spaces, interleaved, body_texts}
use Rattle.jam_expand.specs.BodyCuts.{IsCut}
use Rattle.jam_expand.proofs.SumTellsIfTooLarge.{and_then_more}

-- ---- texts with spaces between

join-push : (xs : List (List ℕ)) (y : List ℕ) → 0 < length xs → join_with_byte 32 (xs ++ y ∷ []) ≡ (join_with_byte 32 xs ++ 32 ∷ []) ++ y
join-push [] y h = grind arith
join-push (x ∷ []) y h = simp append_assoc
join-push (x ∷ z ∷ xs) y h = let more : join_with_byte 32 ((z ∷ xs) ++ y ∷ []) ≡ (join_with_byte 32 (z ∷ xs) ++ 32 ∷ []) ++ y = join-push (z ∷ xs) y (omega arith) in rw more (simp append_assoc)

-- one more text written
join_more : (texts : List (List ℕ)) (i : ℕ) (d : List ℕ) → i < length texts → 0 < i → join_with_byte 32 (take (i + 1) texts) ≡ (join_with_byte 32 (take i texts) ++ 32 ∷ []) ++ get_or texts i d
join_more texts i d h p = ap (join_with_byte 32) (take_more texts i d h) ∙ join-push (take i texts) (get_or texts i d) (rw length-take (omega arith))

-- the first text written
join_first : (texts : List (List ℕ)) (d : List ℕ) → 0 < length texts → join_with_byte 32 (take 1 texts) ≡ get_or texts 0 d
join_first [] d h = grind arith
join_first (x ∷ xs) d h = refl

-- the same beside the text before
pub joined_more : (texts : List (List ℕ)) (i : ℕ) (x old : List ℕ) → i < length texts → 0 < i → x ≡ get_or texts i x → old ≡ join_with_byte 32 (take i texts) → (old ++ 32 ∷ []) ++ x ≡ join_with_byte 32 (take (i + 1) texts)
joined_more texts i x old h p is e = ap₂ (λ (a b : List ℕ). (a ++ 32 ∷ []) ++ b) e is ∙ sym (join_more texts i x h p)

at_first : (texts : List (List ℕ)) (x old : List ℕ) → 0 < length texts → x ≡ get_or texts 0 x → old ≡ join_with_byte 32 (take 0 texts) → old ++ x ≡ join_with_byte 32 (take (0 + 1) texts)
at_first texts x old h is e = ap (λ (o : List ℕ). o ++ x) e ∙ is ∙ sym (join_first texts x h)

pub joined_first : (texts : List (List ℕ)) (i : ℕ) (x old : List ℕ) → i < length texts → i ≤ 0 → x ≡ get_or texts i x → old ≡ join_with_byte 32 (take i texts) → old ++ x ≡ join_with_byte 32 (take (i + 1) texts)
joined_first texts i x old h z is e =
    let zero : 0 ≡ i = omega arith in
    subst (λ k. k < length texts → x ≡ get_or texts k x → old ≡ join_with_byte 32 (take k texts) → old ++ x ≡ join_with_byte 32 (take (k + 1) texts)) zero (at_first texts x old) h is e

-- ---- a cut text

-- the first word, the white space after it and the rest
pub cut_at : (text word : List ℕ) (white : ℕ) (rest : List ℕ) (end : ℕ) → end ≡ position_or_len is_white text → end < length text → word ≡ slice_range text 0 end → white ≡ get_or text end 0 → rest ≡ drop (end + 1) text → IsCut text word white rest
cut_at text word white rest end e h w b r =
    let n : ℕ = position_or_len is_white text in
    let within : n < length text = subst (λ k. k < length text) e h in
    let whole : end - 0 ≡ end = omega arith in
    let word_is : word ≡ take n text = w ∙ ap (λ k. take k text) (whole ∙ e) in
    let white_is : white ≡ get_or text n 0 = b ∙ ap (λ k. get_or text k 0) e in
    let rest_is : rest ≡ drop (n + 1) text = r ∙ ap (λ k. drop (k + 1) text) e in
    record {
      text_is = split_at_first is_white text 0 within ∙ ap (λ w. w ++ get_or text n 0 ∷ drop (n + 1) text) (sym word_is) ∙ ap (λ b. word ++ b ∷ drop (n + 1) text) (sym white_is) ∙ ap (λ r. word ++ white ∷ r) (sym rest_is);
      is_space = ap is_white white_is ∙ passes_at_first is_white text 0 within;
      no_space = subst (All (λ byte. is_white byte ≡ false)) (sym word_is) (λ k e l.
          let m : k < n = omega (arith, l, length-take n text) in
          ap is_white (get_or-take n text k e m) ∙ fails_before_first is_white text k e m);
    }

pub cut_none : (text : List ℕ) (end : ℕ) → end ≡ position_or_len is_white text → length text ≤ end → All (λ byte. is_white byte ≡ false) text
cut_none text end e h = λ k d l. fails_before_first is_white text k d (subst (λ n. k < n) e (omega (arith, l, h)))

pub words_cut : (text word : List ℕ) (white : ℕ) (rest : List ℕ) → IsCut text word white rest → words text ≡ word ∷ words rest
words_cut text word white rest c = ap words c.text_is ∙ slice_split_at is_white word white rest c.no_space c.is_space

none_kept : (word : List ℕ) → AllByRecursion (λ byte. is_white byte ≡ false) word → spaces word ≡ []
none_kept [] a = refl
none_kept (b ∷ word) a = ap (λ t. cond t (b ∷ spaces word) (spaces word)) a.0 ∙ none_kept word a.1

pub no_spaces : (word : List ℕ) → All (λ byte. is_white byte ≡ false) word → spaces word ≡ []
no_spaces word a = none_kept word (recursion_from_All (λ byte. is_white byte ≡ false) word a)

spaces_cut : (text word : List ℕ) (white : ℕ) (rest : List ℕ) → IsCut text word white rest → spaces text ≡ white ∷ spaces rest
spaces_cut text word white rest c =
    ap spaces c.text_is ∙ filter-append is_white word (white ∷ rest) ∙ ap (λ s. s ++ spaces (white ∷ rest)) (no_spaces word c.no_space)
    ∙ ap (λ t. cond t (white ∷ spaces rest) (spaces rest)) c.is_space

-- ---- white space is of ASCII, and no zero

pub white_small : (b : ℕ) → is_white b ≡ true → b < 128
white_small b h = grind (arith, nat_tests)

-- the rest of a text is a text
pub rest_utf8 : (text word : List ℕ) (white : ℕ) (rest : List ℕ) → IsCut text word white rest → IsUtf8 text → IsUtf8 rest
rest_utf8 text word white rest c u =
    let n : length text ≡ length word + length (white ∷ rest) = ap length c.text_is ∙ length-append word (white ∷ rest) in
    let within : length word < length text = omega (arith, n) in
    let here : get_or text (length word) 0 ≡ white = ap (λ t. get_or t (length word) 0) c.text_is ∙ get_or_at word white rest 0 (length word) refl in
    let small : get_or text (length word) 0 < 128 = subst (λ b. b < 128) (sym here) (white_small white c.is_space) in
    let whole : text ≡ (word ++ white ∷ []) ++ rest = c.text_is ∙ sym (append_assoc word (white ∷ []) rest) in
    let long : length (word ++ white ∷ []) ≡ length word + 1 = length-append word (white ∷ []) in
    subst IsUtf8 (ap (drop (length word + 1)) whole ∙ drop_at (word ++ white ∷ []) rest (length word + 1) long) (IsUtf8-drop text (length word + 1) u (IsCharBoundary-after_ascii text (length word) u within small))

-- a text may be cut before its first white space
pub word_boundary : (text : List ℕ) (end : ℕ) → end ≡ position_or_len is_white text → end < length text → IsCharBoundary text end
word_boundary text end e h =
    let within : position_or_len is_white text < length text = subst (λ k. k < length text) e h in
    IsCharBoundary-before_ascii text end h (white_small (get_or text end 0) (ap (λ k. is_white (get_or text k 0)) e ∙ passes_at_first is_white text 0 within))

-- and after it
pub rest_boundary : (text : List ℕ) (end : ℕ) → IsUtf8 text → end ≡ position_or_len is_white text → end < length text → IsCharBoundary text (end + 1)
rest_boundary text end u e h =
    let within : position_or_len is_white text < length text = subst (λ k. k < length text) e h in
    IsCharBoundary-after_ascii text end u h (white_small (get_or text end 0) (ap (λ k. is_white (get_or text k 0)) e ∙ passes_at_first is_white text 0 within))

-- a text may be cut after white space that comes first
pub front_boundary : (text : List ℕ) → IsUtf8 text → 0 < prefix_len is_white text → IsCharBoundary text (prefix_len is_white text)
front_boundary text u some =
    let n : ℕ = prefix_len is_white text in
    let within : n ≤ length text = prefix_len-le-length is_white text in
    let last : n - 1 < length text = omega (arith, within, some) in
    let inside : n - 1 < n = omega (arith, some) in
    let same : n - 1 + 1 ≡ n = omega (arith, some) in
    subst (IsCharBoundary text) same (IsCharBoundary-after_ascii text (n - 1) u last (white_small (get_or text (n - 1) 0) (prefix_len_passes is_white text (n - 1) 0 inside)))

-- white space comes last
last_white : (text : List ℕ) → 0 < suffix_len is_white text → is_white (get_or text (length text - suffix_len is_white text) 0) ≡ true
last_white text some =
    let n : ℕ = suffix_len is_white text in
    let within : n ≤ length text = suffix_len-le-length is_white text in
    let inside : n - 1 < n = omega (arith, some) in
    let same : length text - 1 - (n - 1) ≡ length text - n = omega (arith, some, within) in
    let short : n - 1 < length text = omega (arith, some, within) in
    sym (ap is_white (get_or-reverse text (n - 1) 0 short ∙ ap (λ k. get_or text k 0) same)) ∙ prefix_len_passes is_white (reverse text) (n - 1) 0 inside

-- a text may be cut before white space that comes last
pub end_boundary : (text : List ℕ) → IsCharBoundary text (length text - suffix_len is_white text)
end_boundary text = (
  omega arith,
  λ less high.
      let n : ℕ = suffix_len is_white text in
      let some : 0 < n = omega (arith, less) in
      absurd (omega (arith, high, white_small (get_or text (length text - n) 0) (last_white text some))),
)

-- ---- texts with no zero

all_left : (P : ℕ → Type 0) (xs ys : List ℕ) → AllByRecursion P (xs ++ ys) → AllByRecursion P xs × AllByRecursion P ys
all_left P [] ys a = (tt, a)
all_left P (x ∷ xs) ys a = let b : AllByRecursion P xs × AllByRecursion P ys = all_left P xs ys a.1 in ((a.0, b.0), b.1)

pub all_parts : (P : ℕ → Type 0) (xs ys : List ℕ) → All P (xs ++ ys) → All P xs × All P ys
all_parts P xs ys a = let b : AllByRecursion P xs × AllByRecursion P ys = all_left P xs ys (recursion_from_All P (xs ++ ys) a) in (All-from_recursion P xs b.0, All-from_recursion P ys b.1)

pub cut_no_zero : (text word : List ℕ) (white : ℕ) (rest : List ℕ) → IsCut text word white rest → HasNoZero text → HasNoZero word × HasNoZero rest
cut_no_zero text word white rest c h =
    let P : ℕ → Type 0 = λ b. 0 < b in
    let both : All P word × All P (white ∷ rest) = all_parts P word (white ∷ rest) (subst HasNoZero c.text_is h) in
    (both.0, All-tail P white rest both.1)

-- ---- the texts of the words

-- the texts with that of one more word
abbrev pub with_word : (List ℕ → List (List ℕ)) → List (List ℕ) → List ℕ → Answer
with_word names texts word = and_then (λ elements. within (texts ++ join_with_byte 32 elements ∷ [])) (expansion names word)

pub opened : (names : List ℕ → List (List ℕ)) (texts : List (List ℕ)) (word : List ℕ) (more : List (List ℕ)) → body_texts names texts (word ∷ more) ≡ and_then (λ longer. body_texts names longer more) (with_word names texts word)
unfolding body_texts
opened names texts word more = and_then_more (expansion names word) (λ elements. within (texts ++ join_with_byte 32 elements ∷ [])) (λ longer. body_texts names longer more)

-- one more word
pub word_ok : (names : List ℕ → List (List ℕ)) (texts longer : List (List ℕ)) (text word : List ℕ) (white : ℕ) (rest : List ℕ) → IsCut text word white rest → with_word names texts word ≡ Ok longer → body_texts names longer (words rest) ≡ body_texts names texts (words text)
word_ok names texts longer text word white rest c e =
    sym (ap (body_texts names texts) (words_cut text word white rest c) ∙ opened names texts word (words rest) ∙ ap (λ found. and_then (λ more. body_texts names more (words rest)) found) e)

pub word_fault : (names : List ℕ → List (List ℕ)) (texts : List (List ℕ)) (text word : List ℕ) (white : ℕ) (rest : List ℕ) (fault : ExpandFault) (answer : Answer) → IsCut text word white rest → body_texts names texts (words text) ≡ answer
    → (fault ≡ faults.OutOfMemory) ⊎ (with_word names texts word ≡ Err fault) → (fault ≡ faults.OutOfMemory) ⊎ (answer ≡ Err fault)
word_fault names texts text word white rest fault answer c so_far (inl e) = inl e
word_fault names texts text word white rest fault answer c so_far (inr e) =
    inr (sym so_far ∙ ap (body_texts names texts) (words_cut text word white rest c) ∙ opened names texts word (words rest) ∙ ap (λ found. and_then (λ more. body_texts names more (words rest)) found) e)

-- the last word
last_word : (names : List ℕ → List (List ℕ)) (texts : List (List ℕ)) (text : List ℕ) → All (λ byte. is_white byte ≡ false) text → body_texts names texts (words text) ≡ and_then (λ longer. body_texts names longer []) (with_word names texts text)
last_word names texts text none = ap (body_texts names texts) (slice_split_none is_white text none) ∙ opened names texts text []

pub last_ok : (names : List ℕ → List (List ℕ)) (texts longer : List (List ℕ)) (text : List ℕ) (answer : Answer) → All (λ byte. is_white byte ≡ false) text → body_texts names texts (words text) ≡ answer → with_word names texts text ≡ Ok longer → answer ≡ Ok longer
unfolding body_texts
last_ok names texts longer text answer none so_far e = sym so_far ∙ last_word names texts text none ∙ ap (λ found. and_then (λ more. body_texts names more []) found) e

pub last_fault : (names : List ℕ → List (List ℕ)) (texts : List (List ℕ)) (text : List ℕ) (fault : ExpandFault) (answer : Answer) → All (λ byte. is_white byte ≡ false) text → body_texts names texts (words text) ≡ answer
    → (fault ≡ faults.OutOfMemory) ⊎ (with_word names texts text ≡ Err fault) → (fault ≡ faults.OutOfMemory) ⊎ (answer ≡ Err fault)
last_fault names texts text fault answer none so_far (inl e) = inl e
last_fault names texts text fault answer none so_far (inr e) = inr (sym so_far ∙ last_word names texts text none ∙ ap (λ found. and_then (λ more. body_texts names more []) found) e)

-- ---- texts and white space

-- one more text, and the white space after it
pub interleaved_more : (whole made with_text with_white : List ℕ) (texts : List (List ℕ)) (place : ℕ) (d text rest word : List ℕ) (white : ℕ) (more : List ℕ) → place < length texts → text ≡ get_or texts place d → IsCut rest word white more
    → with_text ≡ made ++ text → with_white ≡ with_text ++ white ∷ [] → made ++ interleaved (drop place texts) (spaces rest) ≡ whole → with_white ++ interleaved (drop (place + 1) texts) (spaces more) ≡ whole
interleaved_more whole made with_text with_white texts place d text rest word white more inside here c a b so_far =
    ap (λ s. s ++ interleaved (drop (place + 1) texts) (spaces more)) (b ∙ ap (λ s. s ++ white ∷ []) a)
    ∙ append_assoc (made ++ text) (white ∷ []) (interleaved (drop (place + 1) texts) (spaces more))
    ∙ append_assoc made text (white ∷ interleaved (drop (place + 1) texts) (spaces more))
    ∙ sym (ap (λ s. made ++ interleaved s (spaces rest)) (drop_more texts place d inside ∙ ap (λ s. s ∷ drop (place + 1) texts) (sym here)) ∙ ap (λ s. made ++ interleaved (text ∷ drop (place + 1) texts) s) (spaces_cut rest word white more c))
    ∙ so_far

-- the last text
pub interleaved_last : (whole made with_text : List ℕ) (texts : List (List ℕ)) (place : ℕ) (d text rest : List ℕ) → place < length texts → text ≡ get_or texts place d → All (λ byte. is_white byte ≡ false) rest
    → with_text ≡ made ++ text → made ++ interleaved (drop place texts) (spaces rest) ≡ whole → with_text ≡ whole
interleaved_last whole made with_text texts place d text rest inside here none a so_far =
    a ∙ sym (ap (λ s. made ++ interleaved s (spaces rest)) (drop_more texts place d inside ∙ ap (λ s. s ∷ drop (place + 1) texts) (sym here)) ∙ ap (λ s. made ++ interleaved (text ∷ drop (place + 1) texts) s) (no_spaces rest none)) ∙ so_far
