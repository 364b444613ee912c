-- A text read from its end, with a count of `)` to spare, tells each `$(` that nothing closes; no part begins there.
use Rattle.std.proofs.Common.{◌≡◌, ◌≢◌, ℕ, ◌<◌, ◌≤◌, ◌+◌, ◌-◌, Bool, true, false, eqb, ltb, suc, zero, List, [], ◌∷◌, ◌++◌, length, drop, take, get_or, refl, ap, subst, sym, ◌∙◌, arith, cond, Option, Some, None, ◌&&◌}
use Rattle.std.specs.List.{All}
use Rattle.std.specs.Option.{is_none}
use Rattle.std.proofs.lemmas.List.{drop_more, length-drop, append-nil}
use Rattle.std.proofs.Math.ListN.{drop_of_length-le}
use Rattle.std.proofs.lemmas.List.Elements.{All-nil, All-cons, All-append, All-same, All-take, All-weaker}
use Rattle.std.proofs.lemmas.Bool.{ltb-true, ltb-false, lt-ltb, le-ltb, eqb-true, ne_eqb, eq-eqb}
use Rattle.jam_expand.specs.Words.{closing, inside_len}
use Rattle.jam_expand.specs.Unclosed.{spare_with, spare, opens, is_unclosed, unclosed_after, ends_at}

same_test : (a b c d : ℕ) → (a < b → c < d) → (c < d → a < b) → ltb a b ≡ ltb c d
same_test a b c d f g = go (ltb a b) refl (ltb c d) refl
  where
    go : (t : Bool) → ltb a b ≡ t → (u : Bool) → ltb c d ≡ u → t ≡ u
    go true e true h = refl
    go true e false h = let inside : c < d = f (ltb-true a b e) in absurd (omega (arith, inside, ltb-false c d h))
    go false e true h = let inside : a < b = g (ltb-true c d h) in absurd (omega (arith, inside, ltb-false a b e))
    go false e false h = refl

-- nothing closes where no more `)` are to spare than are needed
pub closed_by_spare : (depth at : ℕ) (bytes : List ℕ) → is_none (closing depth at bytes) ≡ ltb (spare bytes) (depth + 1)
closed_by_spare depth at [] = sym (lt-ltb 0 (depth + 1) (omega arith))
closed_by_spare zero at (byte ∷ bytes) = go (eqb byte 41) (eqb byte 40) (closed_by_spare 1 (at + 1) bytes) (closed_by_spare 0 (at + 1) bytes)
  where
    go : (t u : Bool) → is_none (closing 1 (at + 1) bytes) ≡ ltb (spare bytes) 2 → is_none (closing 0 (at + 1) bytes) ≡ ltb (spare bytes) 1
        → is_none (cond t (Some at) (cond u (closing 1 (at + 1) bytes) (closing 0 (at + 1) bytes))) ≡ ltb (cond t (spare bytes + 1) (cond u (spare bytes - 1) (spare bytes))) 1
    go true u deeper same = sym (le-ltb (spare bytes + 1) 1 (omega arith))
    go false true deeper same = deeper ∙ same_test (spare bytes) 2 (spare bytes - 1) 1 (λ h. omega (arith, h)) (λ h. omega (arith, h))
    go false false deeper same = same
closed_by_spare (suc depth) at (byte ∷ bytes) = go (eqb byte 41) (eqb byte 40) (closed_by_spare depth (at + 1) bytes) (closed_by_spare (suc (suc depth)) (at + 1) bytes) (closed_by_spare (suc depth) (at + 1) bytes)
  where
    go : (t u : Bool) → is_none (closing depth (at + 1) bytes) ≡ ltb (spare bytes) (depth + 1) → is_none (closing (suc (suc depth)) (at + 1) bytes) ≡ ltb (spare bytes) (suc (suc depth) + 1) → is_none (closing (suc depth) (at + 1) bytes) ≡ ltb (spare bytes) (suc depth + 1)
        → is_none (cond t (closing depth (at + 1) bytes) (cond u (closing (suc (suc depth)) (at + 1) bytes) (closing (suc depth) (at + 1) bytes))) ≡ ltb (cond t (spare bytes + 1) (cond u (spare bytes - 1) (spare bytes))) (suc depth + 1)
    go true u less deeper same = less ∙ same_test (spare bytes) (depth + 1) (spare bytes + 1) (suc depth + 1) (λ h. omega (arith, h)) (λ h. omega (arith, h))
    go false true less deeper same = deeper ∙ same_test (spare bytes) (suc (suc depth) + 1) (spare bytes - 1) (suc depth + 1) (λ h. omega (arith, h)) (λ h. omega (arith, h))
    go false false less deeper same = same

no_spare : (bytes : List ℕ) → eqb (spare bytes) 0 ≡ is_none (closing 0 0 bytes)
no_spare bytes = go (spare bytes) ∙ sym (closed_by_spare 0 0 bytes)
  where
    go : (n : ℕ) → eqb n 0 ≡ ltb n (0 + 1)
    go zero = sym (lt-ltb 0 1 (omega arith))
    go (suc n) = ne_eqb (suc n) 0 (λ e. omega (arith, e)) ∙ sym (le-ltb (suc n) 1 (omega arith))

-- How far a text has been read from its end.
pub record IsRead (bytes : List ℕ) (at : ℕ) (places : List ℕ) (count : ℕ) (open_here : Bool) : Type 0 where
  pub within : at ≤ length bytes
  pub places_are : places ≡ unclosed_after at (drop at bytes)
  pub spare_is : count ≡ spare (drop at bytes)
  pub opens_is : open_here ≡ opens (drop at bytes)

pub read_nothing : (bytes : List ℕ) → IsRead bytes (length bytes) [] 0 false
read_nothing bytes =
    let e : [] ≡ drop (length bytes) bytes = sym (drop_of_length-le bytes (omega arith)) in
    record {
      within = omega arith;
      places_are = ap (unclosed_after (length bytes)) e;
      spare_is = ap spare e;
      opens_is = ap opens e;
    }

spare_within : (bytes : List ℕ) → spare bytes ≤ length bytes
spare_within [] = omega arith
spare_within (byte ∷ bytes) = go (eqb byte 41) (eqb byte 40) (spare_within bytes)
  where
    go : (t u : Bool) → spare bytes ≤ length bytes → cond t (spare bytes + 1) (cond u (spare bytes - 1) (spare bytes)) ≤ suc (length bytes)
    go true u h = omega (arith, h)
    go false true h = omega (arith, h)
    go false false h = omega (arith, h)

pub spare_fits : (bytes : List ℕ) (at : ℕ) (places : List ℕ) (count : ℕ) (open_here : Bool) → IsRead bytes at places count open_here → count ≤ length bytes
spare_fits bytes at places count open_here h = omega (arith, h.spare_is, spare_within (drop at bytes), length-drop at bytes)

-- one more byte, in front of those that were read
pub read_byte : (bytes : List ℕ) (at : ℕ) (places : List ℕ) (count : ℕ) (open_here : Bool) (byte : ℕ) (more : List ℕ) → IsRead bytes (at + 1) places count open_here → byte ≡ get_or bytes at 0
    → more ≡ places ++ cond (open_here && eqb byte 36) (at ∷ []) [] → IsRead bytes at more (spare_with byte count) (eqb byte 40 && eqb count 0)
read_byte bytes at places count open_here byte more h here more_is =
    let e : drop at bytes ≡ byte ∷ drop (at + 1) bytes = drop_more bytes at 0 (omega (arith, h.within)) ∙ ap (λ b. b ∷ drop (at + 1) bytes) (sym here) in
    record {
      within = omega (arith, h.within);
      places_are = more_is ∙ ap (λ s. s ++ cond (open_here && eqb byte 36) (at ∷ []) []) h.places_are
          ∙ ap (λ b. unclosed_after (at + 1) (drop (at + 1) bytes) ++ cond (b && eqb byte 36) (at ∷ []) []) h.opens_is
          ∙ ap (unclosed_after at) (sym e);
      spare_is = ap (spare_with byte) h.spare_is ∙ ap spare (sym e);
      opens_is = ap (λ n. eqb byte 40 && eqb n 0) h.spare_is ∙ ap (λ b. eqb byte 40 && b) (no_spare (drop (at + 1) bytes)) ∙ ap opens (sym e);
    }

pub read_all : (bytes : List ℕ) (at : ℕ) (places : List ℕ) (count : ℕ) (open_here : Bool) → IsRead bytes at places count open_here → at ≡ 0 → places ≡ unclosed_after 0 bytes
read_all bytes at places count open_here h e = h.places_are ∙ ap (λ n. unclosed_after n (drop n bytes)) e

none_is : {A : Type 0} (found : Option A) → is_none found ≡ true → found ≡ None
none_is None h = refl
none_is (Some value) h = cc

-- such a part has no end
no_inside : (bytes : List ℕ) → is_unclosed bytes ≡ true → inside_len bytes ≡ None
no_inside [] h = refl
no_inside (dollar ∷ []) h = refl
no_inside (dollar ∷ next ∷ bytes) h = go (eqb dollar 36) (eqb next 40) h
  where
    go : (t u : Bool) → (u && is_none (closing 0 0 bytes)) && t ≡ true → cond t (cond u (closing 0 0 bytes) None) None ≡ None
    go false u h = refl
    go true false h = refl
    go true true h = none_is (closing 0 0 bytes) (both (is_none (closing 0 0 bytes)) h)
      where
        both : (b : Bool) → b && true ≡ true → b ≡ true
        both true h = refl
        both false h = h

places_from : (at : ℕ) (bytes : List ℕ) → All (λ place. (at ≤ place) × (inside_len (drop (place - at) bytes) ≡ None)) (unclosed_after at bytes)
places_from at [] = All-nil (λ place. (at ≤ place) × (inside_len (drop (place - at) []) ≡ None))
places_from at (byte ∷ bytes) =
    All-append P (unclosed_after (at + 1) bytes) (cond (is_unclosed (byte ∷ bytes)) (at ∷ []) [])
    (All-weaker (λ place. (at + 1 ≤ place) × (inside_len (drop (place - (at + 1)) bytes) ≡ None)) P later (unclosed_after (at + 1) bytes) (places_from (at + 1) bytes))
    (here (is_unclosed (byte ∷ bytes)) refl)
  where
    P : ℕ → Type 0
    P place = (at ≤ place) × (inside_len (drop (place - at) (byte ∷ bytes)) ≡ None)

    later : (place : ℕ) → (at + 1 ≤ place) × (inside_len (drop (place - (at + 1)) bytes) ≡ None) → P place
    later place h =
        let n : place - at ≡ suc (place - (at + 1)) = omega (arith, h.0) in
        (omega (arith, h.0), ap (λ n. inside_len (drop n (byte ∷ bytes))) n ∙ h.1)

    here : (t : Bool) → is_unclosed (byte ∷ bytes) ≡ t → All P (cond t (at ∷ []) [])
    here false e = All-nil P
    here true e =
        let n : at - at ≡ 0 = omega arith in
        All-cons P at [] (omega arith, ap (λ n. inside_len (drop n (byte ∷ bytes))) n ∙ no_inside (byte ∷ bytes) e) (All-nil P)

-- at each of the places no part begins
pub no_parts : (word : List ℕ) → All (λ place. inside_len (drop place word) ≡ None) (unclosed_after 0 word)
no_parts word =
    All-weaker (λ place. (0 ≤ place) × (inside_len (drop (place - 0) word) ≡ None)) (λ place. inside_len (drop place word) ≡ None)
    (λ place h. let n : place ≡ place - 0 = omega arith in ap (λ n. inside_len (drop n word)) n ∙ h.1) (unclosed_after 0 word) (places_from 0 word)

pub kept_place : (places now : List ℕ) (at byte : ℕ) (open_here : Bool) → open_here ≡ true → byte ≡ 36 → now ≡ places ++ at ∷ [] → now ≡ places ++ cond (open_here && eqb byte 36) (at ∷ []) []
kept_place places now at byte open_here e f now_is = now_is ∙ ap (λ b. places ++ cond b (at ∷ []) []) (sym (ap (λ b. b && eqb byte 36) e ∙ eq-eqb byte 36 f))

pub no_dollar : (places now : List ℕ) (at byte : ℕ) (open_here : Bool) → open_here ≡ true → byte ≢ 36 → now ≡ places → now ≡ places ++ cond (open_here && eqb byte 36) (at ∷ []) []
no_dollar places now at byte open_here e f now_is = now_is ∙ sym (append-nil places) ∙ ap (λ b. places ++ cond b (at ∷ []) []) (sym (ap (λ b. b && eqb byte 36) e ∙ ne_eqb byte 36 f))

pub no_sign : (places now : List ℕ) (at byte : ℕ) (open_here : Bool) → open_here ≡ false → now ≡ places → now ≡ places ++ cond (open_here && eqb byte 36) (at ∷ []) []
no_sign places now at byte open_here e now_is = now_is ∙ sym (append-nil places) ∙ ap (λ b. places ++ cond b (at ∷ []) []) (sym (ap (λ b. b && eqb byte 36) e))

pub is_sign : (byte count : ℕ) (now : Bool) → byte ≡ 40 → now ≡ eqb count 0 → now ≡ (eqb byte 40 && eqb count 0)
is_sign byte count now e now_is = now_is ∙ ap (λ b. b && eqb count 0) (sym (eq-eqb byte 40 e))

pub is_other : (byte count : ℕ) (now : Bool) → byte ≢ 40 → now ≡ eqb byte 40 → now ≡ (eqb byte 40 && eqb count 0)
is_other byte count now e now_is = now_is ∙ ne_eqb byte 40 e ∙ ap (λ b. b && eqb count 0) (sym (ne_eqb byte 40 e))

pub read_back : (bytes : List ℕ) (at : ℕ) (places : List ℕ) (count : ℕ) (open_here : Bool) (byte : ℕ) (more : List ℕ) (next : ℕ) (now : Bool) → IsRead bytes at places count open_here → 0 < at → byte ≡ get_or bytes (at - 1) 0
    → more ≡ places ++ cond (open_here && eqb byte 36) ((at - 1) ∷ []) [] → next ≡ spare_with byte count → now ≡ (eqb byte 40 && eqb count 0) → IsRead bytes (at - 1) more next now
read_back bytes at places count open_here byte more next now h some here more_is next_is now_is =
    let e : at ≡ at - 1 + 1 = omega (arith, some) in
    let r : IsRead bytes (at - 1) more (spare_with byte count) (eqb byte 40 && eqb count 0) = read_byte bytes (at - 1) places count open_here byte more (subst (λ n. IsRead bytes n places count open_here) e h) here more_is in
    record { within = r.within; places_are = r.places_are; spare_is = next_is ∙ r.spare_is; opens_is = now_is ∙ r.opens_is }

-- what holds of each place holds of the last one, and of those before it
pub last_place : (P : ℕ → Type 0) (places : List ℕ) (place : ℕ) → ends_at place places ≡ true → All P places → P place
last_place P places place e all =
    let t : (ltb 0 (length places) ≡ true) × (eqb (get_or places (length places - 1) 0) place ≡ true) = both (ltb 0 (length places)) (eqb (get_or places (length places - 1) 0) place) e in
    let some : 0 < length places = ltb-true 0 (length places) t.0 in
    subst P (eqb-true (get_or places (length places - 1) 0) place t.1) (all (length places - 1) 0 (omega (arith, some)))
  where
    both : (a b : Bool) → a && b ≡ true → (a ≡ true) × (b ≡ true)
    both true b h = (refl, h)
    both false b h = cc

pub places_left : (P : ℕ → Type 0) (places left : List ℕ) (taken : Bool) → left ≡ cond taken (take (length places - 1) places) places → All P places → All P left
places_left P places left true e all = All-same P left (take (length places - 1) places) e (All-take P (length places - 1) places all)
places_left P places left false e all = All-same P left places e all
