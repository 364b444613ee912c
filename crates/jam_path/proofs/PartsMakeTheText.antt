use Rattle.std.proofs.Common.{◌≡◌, ◌≢◌, ◌⊎◌, inl, inr, ℕ, ◌<◌, ◌+◌, Bool, true, false, eqb, List, [], ◌∷◌, ◌++◌, length, get_or, refl, ap, sym, ◌∙◌, subst, arith, append_assoc}
use Rattle.std.specs.List.{AllByRecursion}
use Rattle.std.proofs.lemmas.Bool.{eqb-true, eqb-false, and_parts, true≢false, and_right}
use Rattle.std.proofs.lemmas.List.{length-append, append-nil}
use Rattle.std.proofs.lemmas.List.Elements.{All-from_recursion, recursion_from_All}
use Rattle.b2_base.specs.Bytes.{HasNoZero, Lacks}
use Rattle.b2_base.specs.Segments.{file_name, without_suffix}
use Rattle.b2_base.proofs.NamesAreCutAtLastSigns.{has_not, file_name_at, without_suffix_at}
use Rattle.jam_path.specs.Names.{has, begins_with, closes_with, has_grist, grist_of, path_of, or_root, dir_of, has_member, member_of, stem_of, suffix_of, grist_text, slash_text, member_text, path_text, joined}
use Rattle.jam_path.specs.declared.name_parts.NameParts.{NameParts}
use Rattle.jam_path.proofs.CutAtSign.{First, Last, grist_at, path_at, dir_at, suffix_at, stem_at, member_at, no_member}

-- ---- a text has a sign or not

pub first_or : (c : ℕ) (s : List ℕ) → Lacks c s ⊎ First c s
first_or c [] = inl tt
first_or c (b ∷ bs) = go (eqb b c) refl (first_or c bs)
  where
    go : (t : Bool) → eqb b c ≡ t → Lacks c bs ⊎ First c bs → Lacks c (b ∷ bs) ⊎ First c (b ∷ bs)
    go true e more = inr (record { front = []; back = bs; whole = ap (λ d. d ∷ bs) (eqb-true b c e); lacks = tt })
    go false e (inl h) = inl (eqb-false b c e, h)
    go false e (inr f) = inr (record { front = b ∷ f.front; back = f.back; whole = ap (λ r. b ∷ r) f.whole; lacks = (eqb-false b c e, f.lacks) })

pub last_or : (c : ℕ) (s : List ℕ) → Lacks c s ⊎ Last c s
last_or c [] = inl tt
last_or c (b ∷ bs) = go (eqb b c) refl (last_or c bs)
  where
    go : (t : Bool) → eqb b c ≡ t → Lacks c bs ⊎ Last c bs → Lacks c (b ∷ bs) ⊎ Last c (b ∷ bs)
    go t e (inr f) = inr (record { front = b ∷ f.front; back = f.back; whole = ap (λ r. b ∷ r) f.whole; lacks = f.lacks })
    go true e (inl h) = inr (record { front = []; back = bs; whole = ap (λ d. d ∷ bs) (eqb-true b c e); lacks = h })
    go false e (inl h) = inl (eqb-false b c e, h)

-- ---- what each cut keeps

pub whole_grist : (text : List ℕ) → text ≡ grist_of text ++ path_of text
whole_grist text = go (has_grist text) refl
  where
    at : begins_with 60 text ≡ true → Lacks 62 text ⊎ First 62 text → has 62 text ≡ true → text ≡ grist_of text ++ path_of text
    at f (inl h) t = absurd (true≢false (sym t ∙ has_not 62 text h))
    at f (inr p) t = p.whole ∙ sym (append_assoc p.front (62 ∷ []) p.back) ∙ sym (rw (grist_at text p.front p.back p.whole p.lacks f, path_at text p.front p.back p.whole p.lacks f) refl)

    go : (t : Bool) → has_grist text ≡ t → text ≡ grist_of text ++ path_of text
    go false e = rw e refl
    go true e = let both = and_parts (begins_with 60 text) (has 62 text) e in at both.0 (first_or 62 text) both.1

-- a grist is empty or begins with its sign
pub grist_begins : (text : List ℕ) → (grist_of text ≡ []) ⊎ (begins_with 60 (grist_of text) ≡ true)
grist_begins text = go (has_grist text) refl
  where
    first : (front back : List ℕ) → begins_with 60 (front ++ 62 ∷ back) ≡ true → begins_with 60 (front ++ 62 ∷ []) ≡ true
    first [] back h = absurd (let e : 62 ≡ 60 = eqb-true 62 60 h in omega (arith, e))
    first (b ∷ front) back h = h

    at : begins_with 60 text ≡ true → Lacks 62 text ⊎ First 62 text → has 62 text ≡ true → (grist_of text ≡ []) ⊎ (begins_with 60 (grist_of text) ≡ true)
    at f (inl h) t = absurd (true≢false (sym t ∙ has_not 62 text h))
    at f (inr p) t = inr (ap (begins_with 60) (grist_at text p.front p.back p.whole p.lacks f) ∙ first p.front p.back (ap (begins_with 60) (sym p.whole) ∙ f))

    go : (t : Bool) → has_grist text ≡ t → (grist_of text ≡ []) ⊎ (begins_with 60 (grist_of text) ≡ true)
    go false e = inl (rw e refl)
    go true e = let both = and_parts (begins_with 60 text) (has 62 text) e in at both.0 (first_or 62 text) both.1

pub whole_suffix : (stem : List ℕ) → stem ≡ without_suffix stem ++ suffix_of stem
whole_suffix stem = go (last_or 46 stem)
  where
    go : Lacks 46 stem ⊎ Last 46 stem → stem ≡ without_suffix stem ++ suffix_of stem
    go (inl h) = rw (has_not 46 stem h) (sym (append-nil stem))
    go (inr p) = p.whole ∙ sym (rw (without_suffix_at stem p.front p.back p.whole p.lacks, suffix_at stem p.front p.back p.whole p.lacks) refl)

-- a file with a member: what stands before it, and the member
pub record Archive (file : List ℕ) : Type 0 where
  pub stem : List ℕ
  pub member : List ℕ
  pub whole : file ≡ stem ++ 40 ∷ (member ++ 41 ∷ [])
  pub lacks : Lacks 40 stem

ends_or : (s : List ℕ) → ((front : List ℕ) → s ≢ front ++ 41 ∷ []) ⊎ ((front : List ℕ) × (s ≡ front ++ 41 ∷ []))
ends_or [] = inl (λ front e. nil_is_short front e)
  where
    nil_is_short : (front : List ℕ) → [] ≡ front ++ 41 ∷ [] → ⊥
    nil_is_short front e = let n : 0 ≡ length front + 1 = ap length e ∙ length-append front (41 ∷ []) in omega (arith, n)
ends_or (b ∷ bs) = go bs (ends_or bs)
  where
    one : (front : List ℕ) → b ≢ 41 → b ∷ [] ≡ front ++ 41 ∷ [] → ⊥
    one [] h e = h (ap (λ s. get_or s 0 0) e)
    one (x ∷ front) h e = let n : 1 ≡ length (x ∷ front) + 1 = ap length e ∙ length-append (x ∷ front) (41 ∷ []) in omega (arith, n)

    more : (c : ℕ) (cs front : List ℕ) → ((front : List ℕ) → c ∷ cs ≢ front ++ 41 ∷ []) → b ∷ c ∷ cs ≡ front ++ 41 ∷ [] → ⊥
    more c cs [] h e = let n : 2 + length cs ≡ 1 = grind (arith, ap length e) in omega (arith, n)
    more c cs (x ∷ front) h e = h front (grind (arith, e))

    go : (rest : List ℕ) → ((front : List ℕ) → rest ≢ front ++ 41 ∷ []) ⊎ ((front : List ℕ) × (rest ≡ front ++ 41 ∷ [])) → ((front : List ℕ) → b ∷ rest ≢ front ++ 41 ∷ []) ⊎ ((front : List ℕ) × (b ∷ rest ≡ front ++ 41 ∷ []))
    go rest (inr p) = inr (b ∷ p.0, ap (λ r. b ∷ r) p.1)
    go [] (inl h) = single (eqb b 41) refl
      where
        single : (t : Bool) → eqb b 41 ≡ t → ((front : List ℕ) → b ∷ [] ≢ front ++ 41 ∷ []) ⊎ ((front : List ℕ) × (b ∷ [] ≡ front ++ 41 ∷ []))
        single true e = inr ([], ap (λ d. d ∷ []) (eqb-true b 41 e))
        single false e = inl (λ front. one front (eqb-false b 41 e))
    go (c ∷ cs) (inl h) = inl (λ front. more c cs front h)

pub member_or : (file : List ℕ) → (has_member file ≡ false) ⊎ Archive file
member_or file = go (first_or 40 file)
  where
    cut : (p : First 40 file) → ((front : List ℕ) → p.back ≢ front ++ 41 ∷ []) ⊎ ((front : List ℕ) × (p.back ≡ front ++ 41 ∷ [])) → (has_member file ≡ false) ⊎ Archive file
    cut p (inl h) = inl (no_member file p.front p.back p.whole h)
    cut p (inr m) = inr (record { stem = p.front; member = m.0; whole = p.whole ∙ ap (λ r. p.front ++ 40 ∷ r) m.1; lacks = p.lacks })

    go : Lacks 40 file ⊎ First 40 file → (has_member file ≡ false) ⊎ Archive file
    go (inl h) = inl (and_right (closes_with 41 file) (has 40 file) (has_not 40 file h))
    go (inr p) = cut p (ends_or p.back)

-- ---- no part has a zero byte where the text has none

abbrev NoZero : List ℕ → Type 0
NoZero = AllByRecursion (λ byte. 0 < byte)

left_part : (a b : List ℕ) → NoZero (a ++ b) → NoZero a
left_part [] b h = tt
left_part (x ∷ a) b h = (h.0, left_part a b h.1)

right_part : (a b : List ℕ) → NoZero (a ++ b) → NoZero b
right_part [] b h = h
right_part (x ∷ a) b h = right_part a b h.1

no_zero_root : (a : List ℕ) → NoZero a → NoZero (or_root a)
no_zero_root [] h = (omega arith, tt)
no_zero_root (x ∷ a) h = h

no_zero_dir : (path : List ℕ) → NoZero path → NoZero (dir_of path) × NoZero (file_name path)
no_zero_dir path h = go (last_or 47 path)
  where
    go : Lacks 47 path ⊎ Last 47 path → NoZero (dir_of path) × NoZero (file_name path)
    go (inl n) = rw (has_not 47 path n) (tt, h)
    go (inr p) =
        let both : NoZero (p.front ++ 47 ∷ p.back) = subst NoZero p.whole h in (
          subst NoZero (sym (dir_at path p.front p.back p.whole p.lacks)) (no_zero_root p.front (left_part p.front (47 ∷ p.back) both)),
          subst NoZero (sym (file_name_at path p.front p.back p.whole p.lacks)) (right_part p.front (47 ∷ p.back) both).1,
        )

pub clean_dir : (path : List ℕ) → HasNoZero path → HasNoZero (dir_of path) × HasNoZero (file_name path)
clean_dir path h =
    let P : ℕ → Type 0 = λ byte. 0 < byte in
    let both = no_zero_dir path (recursion_from_All P path h) in (All-from_recursion P _ both.0, All-from_recursion P _ both.1)

no_zero_member : (file : List ℕ) → NoZero file → NoZero (stem_of file) × NoZero (member_of file)
no_zero_member file h = go (member_or file)
  where
    go : (has_member file ≡ false) ⊎ Archive file → NoZero (stem_of file) × NoZero (member_of file)
    go (inl n) = rw n (h, tt)
    go (inr p) =
        let both : NoZero (p.stem ++ 40 ∷ (p.member ++ 41 ∷ [])) = subst NoZero p.whole h in (
          subst NoZero (sym (stem_at file p.stem p.member p.whole p.lacks)) (left_part p.stem (40 ∷ (p.member ++ 41 ∷ [])) both),
          subst NoZero (sym (member_at file p.stem p.member p.whole p.lacks)) (left_part p.member (41 ∷ []) (right_part p.stem (40 ∷ (p.member ++ 41 ∷ [])) both).1),
        )

pub record NoZeros (text : List ℕ) : Type 0 where
  pub grist : HasNoZero (grist_of text)
  pub dir : HasNoZero (dir_of (path_of text))
  pub base : HasNoZero (without_suffix (stem_of (file_name (path_of text))))
  pub suffix : HasNoZero (suffix_of (stem_of (file_name (path_of text))))
  pub member : HasNoZero (member_of (file_name (path_of text)))

pub no_zeros : (text : List ℕ) → HasNoZero text → NoZeros text
no_zeros text h =
    let P : ℕ → Type 0 = λ byte. 0 < byte in
    let whole : NoZero (grist_of text ++ path_of text) = subst NoZero (whole_grist text) (recursion_from_All P text h) in
    let path : NoZero (path_of text) = right_part (grist_of text) (path_of text) whole in
    let dir = no_zero_dir (path_of text) path in
    let file = no_zero_member (file_name (path_of text)) dir.1 in
    let stem : List ℕ = stem_of (file_name (path_of text)) in
    let cut : NoZero (without_suffix stem ++ suffix_of stem) = subst NoZero (whole_suffix stem) file.0 in
    record {
      grist = All-from_recursion P _ (left_part (grist_of text) (path_of text) whole);
      dir = All-from_recursion P _ dir.0;
      base = All-from_recursion P _ (left_part (without_suffix stem) (suffix_of stem) cut);
      suffix = All-from_recursion P _ (right_part (without_suffix stem) (suffix_of stem) cut);
      member = All-from_recursion P _ file.1;
    }

regroup : (grist dir slash base suffix member : List ℕ) → ((((grist ++ dir) ++ slash) ++ base) ++ suffix) ++ member ≡ grist ++ ((((dir ++ slash) ++ base) ++ suffix) ++ member)
regroup grist dir slash base suffix member = simp append_assoc

-- the grist, and then the rest
pub joined_parts : (name : NameParts) → joined name ≡ grist_text name.grist ++ path_text name
joined_parts name = regroup (grist_text name.grist) name.dir (slash_text name) name.base name.suffix (member_text name.member)
