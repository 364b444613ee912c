use Rattle.std.proofs.Common.{◌≡◌, ◌≢◌, ◌↔◌, ◌⊎◌, inl, inr, ℕ, ◌≤◌, Bool, true, false, cond, not, ◌&&◌, ◌||◌, suc, List, [], ◌∷◌, ◌++◌, length, refl, ap, sym, ◌∙◌, subst, arith, append_assoc}
use Rattle.std.proofs.lemmas.Bool.{ne_eqb, true≢false, or_right}
use Rattle.std.proofs.lemmas.List.{length-append, append-nil, append_cancel_left}
use Rattle.b2_base.specs.Bytes.{Lacks}
use Rattle.b2_base.specs.Segments.{file_name, without_suffix}
use Rattle.b2_base.proofs.NamesAreCutAtLastSigns.{has_not, has_at, before_last_at, file_name_at}
use Rattle.jam_path.specs.Names.{has, begins_with, closes_with, before_end, grist_of, path_of, dir_of, has_member, member_of, stem_of, suffix_of, is_empty, grist_text, slash_text, member_text, joined, parts_of, IsPlain}
use Rattle.jam_path.proofs.CutAtSign.{Last, dir_at, stem_at, member_at, has_member_at}
use Rattle.jam_path.proofs.PartsMakeTheText.{Archive, last_or, member_or, whole_grist, grist_begins, whole_suffix}

not_empty : (x : ℕ) (xs : List ℕ) → is_empty (x ∷ xs) ≡ false
not_empty x xs = ne_eqb (suc (length xs)) 0 (λ e. omega (arith, e))

-- what is written of a file: its stem and its member
abbrev written : List ℕ → List ℕ
written file = stem_of file ++ member_text (member_of file)

abbrev Filled : List ℕ → Type 0
Filled file = has_member file ≡ true → member_of file ≢ []

-- a file comes back just where its member is not empty, and nothing longer comes back
record Back (file : List ℕ) : Type 0 where
  short : length (written file) ≤ length file
  same : Filled file → written file ≡ file
  filled : written file ≡ file → Filled file

back : (file : List ℕ) → Back file
back file = go (member_or file)
  where
    with_member : (stem member : List ℕ) → has_member file ≡ true → file ≡ stem ++ 40 ∷ (member ++ 41 ∷ []) → stem_of file ≡ stem → member_of file ≡ member → Back file
    with_member stem [] t e s m = record {
      short = rw (s, m, e) (omega (arith, length-append stem [], length-append stem (40 ∷ 41 ∷ [])));
      same = λ f. absurd (f t m);
      filled = λ w _ _. let n : length (stem ++ []) ≡ length (stem ++ 40 ∷ 41 ∷ []) = ap length (sym (ap (λ r. r ++ member_text (member_of file)) s ∙ ap (λ r. stem ++ member_text r) m) ∙ w ∙ e) in omega (arith, n, length-append stem [], length-append stem (40 ∷ 41 ∷ []));
    }
    with_member stem (x ∷ member) t e s m = record {
      short = rw (s, m, e, not_empty x member) (omega arith);
      same = λ _. rw (s, m, e, not_empty x member) refl;
      filled = λ _ _ n. let k : suc (length member) ≡ 0 = ap length (sym m ∙ n) in omega (arith, k);
    }

    go : (has_member file ≡ false) ⊎ Archive file → Back file
    go (inl n) = record {
      short = rw n (rw (append-nil file) (omega arith));
      same = λ _. rw n (append-nil file);
      filled = λ _ t. absurd (true≢false (sym t ∙ n));
    }
    go (inr p) = with_member p.stem p.member (has_member_at file p.stem p.member p.whole) p.whole (stem_at file p.stem p.member p.whole p.lacks) (member_at file p.stem p.member p.whole p.lacks)

-- the slash, by the stem in place of base and suffix
abbrev slash : List ℕ → List ℕ → List ℕ
slash dir stem = cond (not (is_empty dir) && not (closes_with 47 dir) && not (is_empty stem)) (47 ∷ []) []

empty_both : (a b : List ℕ) → not (is_empty (a ++ b)) ≡ (not (is_empty a) || not (is_empty b))
empty_both [] b = refl
empty_both (x ∷ a) b = rw (not_empty x (a ++ b), not_empty x a) refl

-- what is written after the grist
abbrev made : List ℕ → List ℕ → List ℕ
made dir file = dir ++ (slash dir (stem_of file) ++ written file)

abbrev tail_text : List ℕ → List ℕ
tail_text path = made (dir_of path) (file_name path)

record PlainPath (path : List ℕ) : Type 0 where
  single : has 47 path ≡ true → closes_with 47 (before_end 47 path) ≡ false
  named : has 47 path ≡ true → before_end 47 path ≢ [] → stem_of (file_name path) ≢ []
  filled : Filled (file_name path)

-- without a slash the path is the file
no_slash : (path : List ℕ) → has 47 path ≡ false → (tail_text path ≡ path) ↔ PlainPath path
no_slash path n =
    let d : dir_of path ≡ [] = rw n refl in
    let f : file_name path ≡ path = rw n refl in
    let t : tail_text path ≡ written path = ap (λ r. made r (file_name path)) d ∙ ap (made []) f in (
      λ e. record {
        single = λ s. absurd (true≢false (sym s ∙ n));
        named = λ s. absurd (true≢false (sym s ∙ n));
        filled = subst Filled (sym f) ((back path).filled (sym t ∙ e));
      },
      λ p. t ∙ (back path).same (subst Filled f p.filled),
    )

-- a file at the root
at_root : (path b : List ℕ) → path ≡ 47 ∷ b → dir_of path ≡ 47 ∷ [] → file_name path ≡ b → before_end 47 path ≡ [] → (tail_text path ≡ path) ↔ PlainPath path
at_root path b e d f n =
    let t : tail_text path ≡ 47 ∷ written b = ap (λ r. made r (file_name path)) d ∙ ap (made (47 ∷ [])) f in (
      λ same. record {
        single = λ _. ap (closes_with 47) n;
        named = λ _ m. absurd (m n);
        filled = subst Filled (sym f) ((back b).filled (append_cancel_left (47 ∷ []) (written b) b (sym t ∙ same ∙ e)));
      },
      λ p. t ∙ ap (λ r. 47 ∷ r) ((back b).same (subst Filled f p.filled)) ∙ sym e,
    )

-- with no slash between them, directory and file are too short
too_short : (a b : List ℕ) → a ++ written b ≡ a ++ 47 ∷ b → ⊥
too_short a b e = let n : length (written b) ≡ suc (length b) = ap length (append_cancel_left a (written b) (47 ∷ b) e) in omega (arith, n, (back b).short)

-- a file in a directory
record In (path a b : List ℕ) : Type 0 where
  whole : path ≡ a ++ 47 ∷ b
  has_slash : has 47 path ≡ true
  filled_dir : a ≢ []
  dir : dir_of path ≡ a
  file : file_name path ≡ b
  before : before_end 47 path ≡ a

in_text : (path a b : List ℕ) → In path a b → tail_text path ≡ made a b
in_text path a b i = ap (λ r. made r (file_name path)) i.dir ∙ ap (made a) i.file

-- no slash is written
bare : (path a b : List ℕ) → In path a b → slash a (stem_of b) ≡ [] → (PlainPath path → ⊥) → (tail_text path ≡ path) ↔ PlainPath path
bare path a b i s never = (
  λ e. absurd (too_short a b (ap (λ r. a ++ (r ++ written b)) (sym s) ∙ sym (in_text path a b i) ∙ e ∙ i.whole)),
  λ p. absurd (never p),
)

-- a slash is written
slashed : (path a b : List ℕ) → In path a b → slash a (stem_of b) ≡ 47 ∷ [] → closes_with 47 a ≡ false → stem_of b ≢ [] → (tail_text path ≡ path) ↔ PlainPath path
slashed path a b i s c n =
    let t : tail_text path ≡ a ++ 47 ∷ written b = in_text path a b i ∙ ap (λ r. a ++ (r ++ written b)) s in (
      λ e. record {
        single = λ _. ap (closes_with 47) i.before ∙ c;
        named = λ _ _. λ m. n (ap stem_of (sym i.file) ∙ m);
        filled = subst Filled (sym i.file) ((back b).filled (append_cancel_left (47 ∷ []) (written b) b (append_cancel_left a (47 ∷ written b) (47 ∷ b) (sym t ∙ e ∙ i.whole))));
      },
      λ p. t ∙ ap (λ r. a ++ 47 ∷ r) ((back b).same (subst Filled i.file p.filled)) ∙ sym i.whole,
    )

filled_is : (a : List ℕ) → a ≢ [] → not (is_empty a) ≡ true
filled_is [] h = absurd (h refl)
filled_is (x ∷ a) h = rw (not_empty x a) refl

inside : (path a b : List ℕ) → In path a b → (tail_text path ≡ path) ↔ PlainPath path
inside path a b i = go (closes_with 47 a) refl (stem_of b) refl
  where
    go : (t : Bool) → closes_with 47 a ≡ t → (stem : List ℕ) → stem_of b ≡ stem → (tail_text path ≡ path) ↔ PlainPath path
    go true e stem m = bare path a b i (rw (filled_is a i.filled_dir, e) refl) (λ p. true≢false (sym e ∙ ap (closes_with 47) (sym i.before) ∙ p.single i.has_slash))
    go false e [] m = bare path a b i (rw (filled_is a i.filled_dir, e, m) refl) (λ p. p.named i.has_slash (λ n. i.filled_dir (sym i.before ∙ n)) (ap stem_of i.file ∙ m))
    go false e (y ∷ ys) m = slashed path a b i (rw (filled_is a i.filled_dir, e, m, not_empty y ys) refl) e (λ n. let k : suc (length ys) ≡ 0 = ap length (sym m ∙ n) in omega (arith, k))

tail_plain : (path : List ℕ) → (tail_text path ≡ path) ↔ PlainPath path
tail_plain path = go (last_or 47 path)
  where
    cut : (a b : List ℕ) → path ≡ a ++ 47 ∷ b → Lacks 47 b → (tail_text path ≡ path) ↔ PlainPath path
    cut [] b e h = at_root path b e (dir_at path [] b e h) (file_name_at path [] b e h) (ap (before_end 47) e ∙ before_last_at 47 [] b h)
    cut (x ∷ a) b e h = inside path (x ∷ a) b (record {
      whole = e;
      has_slash = ap (has 47) e ∙ has_at 47 (x ∷ a) b;
      filled_dir = λ n. let k : suc (length a) ≡ 0 = ap length n in omega (arith, k);
      dir = dir_at path (x ∷ a) b e h;
      file = file_name_at path (x ∷ a) b e h;
      before = ap (before_end 47) e ∙ before_last_at 47 (x ∷ a) b h;
    })

    go : Lacks 47 path ⊎ Last 47 path → (tail_text path ≡ path) ↔ PlainPath path
    go (inl n) = no_slash path (has_not 47 path n)
    go (inr p) = cut p.front p.back p.whole p.lacks

regroup : (g d s b x m : List ℕ) → g ++ d ++ s ++ b ++ x ++ m ≡ g ++ (d ++ (s ++ ((b ++ x) ++ m)))
regroup g d s b x m = simp append_assoc

grist_same : (text : List ℕ) → grist_text (grist_of text) ≡ grist_of text
grist_same text = go (grist_begins text)
  where
    go : (grist_of text ≡ []) ⊎ (begins_with 60 (grist_of text) ≡ true) → grist_text (grist_of text) ≡ grist_of text
    go (inl e) = ap grist_text e ∙ sym e
    go (inr e) = ap (λ t. cond t (grist_of text) ((60 ∷ grist_of text) ++ 62 ∷ [])) (or_right (is_empty (grist_of text)) (begins_with 60 (grist_of text)) e)

joined_is : (text : List ℕ) → joined (parts_of text) ≡ grist_of text ++ tail_text (path_of text)
joined_is text =
    let file : List ℕ = file_name (path_of text) in
    let stem : List ℕ = stem_of file in
    let dir : List ℕ = dir_of (path_of text) in
    let s : slash_text (parts_of text) ≡ slash dir stem = ap (λ t. cond (not (is_empty dir) && not (closes_with 47 dir) && t) (47 ∷ []) []) (sym (ap (λ r. not (is_empty r)) (whole_suffix stem) ∙ empty_both (without_suffix stem) (suffix_of stem))) in
    regroup (grist_text (grist_of text)) dir (slash_text (parts_of text)) (without_suffix stem) (suffix_of stem) (member_text (member_of file))
    ∙ ap (λ g. g ++ (dir ++ (slash_text (parts_of text) ++ ((without_suffix stem ++ suffix_of stem) ++ member_text (member_of file))))) (grist_same text)
    ∙ ap (λ r. grist_of text ++ (dir ++ (r ++ ((without_suffix stem ++ suffix_of stem) ++ member_text (member_of file))))) s
    ∙ ap (λ r. grist_of text ++ (dir ++ (slash dir stem ++ (r ++ member_text (member_of file))))) (sym (whole_suffix stem))

-- joining the parts gives a plain name back, and no other
pub gives_back : (text : List ℕ) → (joined (parts_of text) ≡ text) ↔ IsPlain text
gives_back text =
    let path : List ℕ = path_of text in (
      λ e. let p = (tail_plain path).0 (append_cancel_left (grist_of text) (tail_text path) path (sym (joined_is text) ∙ e ∙ whole_grist text)) in
          record { single = p.single; named = p.named; filled = p.filled },
      λ p. joined_is text ∙ ap (λ r. grist_of text ++ r) ((tail_plain path).1 (record { single = p.single; named = p.named; filled = p.filled })) ∙ sym (whole_grist text),
    )
