-- A path is a folder or lies in it exactly where the folder's spot begins its own; and how a spot is written.
use Rattle.std.proofs.Common.{◌≡◌, ◌≢◌, ℕ, Bool, true, false, cond, ◌||◌, ◌⊎◌, inl, inr, List, [], ◌∷◌, ◌++◌, codes, replicate, length, refl, ap, ap₂, sym, ◌∙◌, subst, length-append, append_assoc, append-nil, arith}
use Rattle.std.specs.List.{AllByRecursion, join_with_byte}
use Rattle.std.proofs.lemmas.Bool.{true≢false}
use Rattle.b2_base.specs.Segments.{is_rooted, is_up, is_dropped, written}
use Rattle.b2_base.specs.Normal.{IsNormal, IsUnder, parts, first_part}
use Rattle.b2_base.proofs.NormalMakesNormalForms.{IsWhole, two_dots}
use Rattle.b2_base.proofs.BeginningTellsWhatIsUnder.{IsPart, all_are, parts_written, cut_is, one_text}
use Rattle.b2_base.specs.Bytes.{IsFrontOf}
use Rattle.b2_virtual.specs.Spots.{lead_of, way, ended, spot}

abbrev Texts : Type 0
Texts = List (List ℕ)

-- ---- heads and tails

no_first : (x : ℕ) (xs : List ℕ) → [] ≡ x ∷ xs → ⊥
no_first x xs e = cc

head_of : (x y : ℕ) (xs ys : List ℕ) → x ∷ xs ≡ y ∷ ys → x ≡ y
head_of x y xs ys e = cc

tail_of : (x y : ℕ) (xs ys : List ℕ) → x ∷ xs ≡ y ∷ ys → xs ≡ ys
tail_of x y xs ys e = cc

no_head : (a : List ℕ) (xs : Texts) → [] ≡ a ∷ xs → ⊥
no_head a xs e = cc

heads : (a b : List ℕ) (xs ys : Texts) → a ∷ xs ≡ b ∷ ys → a ≡ b
heads a b xs ys e = cc

tails : (a b : List ℕ) (xs ys : Texts) → a ∷ xs ≡ b ∷ ys → xs ≡ ys
tails a b xs ys e = cc

-- ---- segments with a slash after each

cut_first : (x y a b : List ℕ) → IsWhole x → IsWhole y → x ++ 47 ∷ a ≡ y ++ 47 ∷ b → (x ≡ y) × (a ≡ b)
cut_first [] [] a b wx wy e = (refl, tail_of 47 47 a b e)
cut_first [] (y ∷ ys) a b wx wy e = absurd (wy.0 (sym (head_of 47 y a (ys ++ 47 ∷ b) e)))
cut_first (x ∷ xs) [] a b wx wy e = absurd (wx.0 (head_of x 47 (xs ++ 47 ∷ a) b e))
cut_first (x ∷ xs) (y ∷ ys) a b wx wy e =
    let both : (xs ≡ ys) × (a ≡ b) = cut_first xs ys a b wx.1 wy.1 (tail_of x y (xs ++ 47 ∷ a) (ys ++ 47 ∷ b) e) in
    (ap₂ ◌∷◌ (head_of x y (xs ++ 47 ∷ a) (ys ++ 47 ∷ b) e) both.0, both.1)

ended-append : (xs ys : Texts) → ended (xs ++ ys) ≡ ended xs ++ ended ys
ended-append [] ys = refl
ended-append (x ∷ xs) ys = ap (λ r. x ++ 47 ∷ r) (ended-append xs ys) ∙ sym (append_assoc x (47 ∷ ended xs) (ended ys))

not_nil : (x : List ℕ) (a rest : List ℕ) → [] ≡ (x ++ 47 ∷ a) ++ rest → ⊥
not_nil [] a rest e = no_first 47 (a ++ rest) e
not_nil (c ∷ x) a rest e = no_first c ((x ++ 47 ∷ a) ++ rest) e

-- the beginning of such a text ends with a segment
ended_begins : (xs ys : Texts) (rest : List ℕ) → AllByRecursion IsWhole xs → AllByRecursion IsWhole ys → ended ys ≡ ended xs ++ rest → (zs : Texts) × (ys ≡ xs ++ zs)
ended_begins [] ys rest a b e = (ys, refl)
ended_begins (x ∷ xs) [] rest a b e = absurd (not_nil x (ended xs) rest e)
ended_begins (x ∷ xs) (y ∷ ys) rest a b e =
    let both : (y ≡ x) × (ended ys ≡ ended xs ++ rest) = cut_first y x (ended ys) (ended xs ++ rest) b.0 a.0 (e ∙ append_assoc x (47 ∷ ended xs) rest) in
    let more : (zs : Texts) × (ys ≡ xs ++ zs) = ended_begins xs ys rest a.1 b.1 both.1 in
    (more.0, ap₂ ◌∷◌ both.0 more.1)

-- ---- the parts of a path in normal form

pub are_parts : (path : List ℕ) → IsNormal path → AllByRecursion IsPart (parts path)
are_parts path n =
    let each : AllByRecursion IsPart (replicate n.ups two_dots ++ n.names) = all_are n.ups n.names n.each in
    subst (AllByRecursion IsPart) (sym (ap parts n.text_is ∙ parts_written n.rooted (replicate n.ups two_dots ++ n.names) each)) each

wholes : (found : Texts) → AllByRecursion IsPart found → AllByRecursion IsWhole found
wholes [] a = tt
wholes (s ∷ found) a = (a.0.whole, wholes found a.1)

abbrev first_or_none : Texts → List ℕ
first_or_none [] = []
first_or_none (s ∷ more) = s

first_is : (path : List ℕ) → first_part path ≡ first_or_none (parts path)
first_is path = go (parts path) refl
  where
    go : (p : Texts) → parts path ≡ p → first_part path ≡ first_or_none (parts path)
    go [] e = rw e refl
    go (s ∷ more) e = rw e refl

whole_lead : (rooted up : Bool) (ps : Texts) → AllByRecursion IsWhole ps → AllByRecursion IsWhole (lead_of rooted up ++ ps)
whole_lead true up ps a = (tt, a)
whole_lead false true ps a = a
whole_lead false false ps a = ((λ e. absurd (omega (arith, e)), tt), a)

whole_way : (path : List ℕ) → IsNormal path → AllByRecursion IsWhole (way path)
whole_way path n = whole_lead (is_rooted path) (is_up (first_part path)) (parts path) (wholes (parts path) (are_parts path n))

-- ---- ways

-- what a way says that begins as another one
record GoesOnSo (r u s v : Bool) (ps ds zs : Texts) : Type 0 where
  rooted : r ≡ s
  up : s ≡ false → u ≡ v
  parts_are : ps ≡ ds ++ zs

no_up : (u : Bool) → u ≡ is_up (first_or_none []) → u ≡ true → ⊥
no_up u e t = true≢false (sym t ∙ e)

-- no part is empty, and none is `.`
not_dropped : (p : List ℕ) → is_dropped p ≡ true → IsPart p → ⊥
not_dropped p d h = true≢false (sym d ∙ h.shown)

part_not : (p q : List ℕ) → IsPart p → p ≡ q → is_dropped q ≡ true → ⊥
part_not p q h e d = not_dropped q d (subst IsPart e h)

no_dot : ◌≡◌ {A = List ℕ} [] (codes ".") → ⊥
no_dot e = no_first 46 [] e

same_lead : (r u s v : Bool) (ps ds zs : Texts) → AllByRecursion IsPart ps → AllByRecursion IsPart ds → v ≡ is_up (first_or_none ds) → lead_of r u ++ ps ≡ (lead_of s v ++ ds) ++ zs → GoesOnSo r u s v ps ds zs
same_lead true u true v ps ds zs hp hd w e = record { rooted = refl; up = λ h. absurd (true≢false h); parts_are = tails [] [] ps (ds ++ zs) e }
same_lead true u false true ps [] zs hp hd w e = absurd (no_up true w refl)
same_lead true u false true ps (d ∷ ds) zs hp hd w e = absurd (part_not d [] hd.0 (sym (heads [] d ps (ds ++ zs) e)) refl)
same_lead true u false false ps ds zs hp hd w e = absurd (no_dot (heads [] (codes ".") ps (ds ++ zs) e))
same_lead false true true v [] ds zs hp hd w e = absurd (no_head [] (ds ++ zs) e)
same_lead false true true v (p ∷ ps) ds zs hp hd w e = absurd (part_not p [] hp.0 (heads p [] ps (ds ++ zs) e) refl)
same_lead false true false true ps ds zs hp hd w e = record { rooted = refl; up = λ _. refl; parts_are = e }
same_lead false true false false [] ds zs hp hd w e = absurd (no_head (codes ".") (ds ++ zs) e)
same_lead false true false false (p ∷ ps) ds zs hp hd w e = absurd (part_not p (codes ".") hp.0 (heads p (codes ".") ps (ds ++ zs) e) refl)
same_lead false false true v ps ds zs hp hd w e = absurd (no_dot (sym (heads (codes ".") [] ps (ds ++ zs) e)))
same_lead false false false true ps [] zs hp hd w e = absurd (no_up true w refl)
same_lead false false false true ps (d ∷ ds) zs hp hd w e = absurd (part_not d (codes ".") hd.0 (sym (heads (codes ".") d ps (ds ++ zs) e)) refl)
same_lead false false false false ps ds zs hp hd w e = record { rooted = refl; up = λ _. refl; parts_are = tails (codes ".") (codes ".") ps (ds ++ zs) e }

-- the folder itself has no parts, and is the only relative path without
no_parts : (d : List ℕ) → d ≡ codes "." → parts d ≡ []
no_parts d e = ap parts e

-- ---- the spot of a folder begins those in it

pub under_from_spot : (p d : List ℕ) → IsNormal p → IsNormal d → IsFrontOf (spot d) (spot p) → (p ≡ d) ⊎ IsUnder p d
unfolding spot
under_from_spot p d np nd b =
    let more : (zs : Texts) × (way p ≡ way d ++ zs) = ended_begins (way d) (way p) b.0 (whole_way d nd) (whole_way p np) b.1 in
    let so : GoesOnSo (is_rooted p) (is_up (first_part p)) (is_rooted d) (is_up (first_part d)) (parts p) (parts d) more.0 =
    same_lead (is_rooted p) (is_up (first_part p)) (is_rooted d) (is_up (first_part d)) (parts p) (parts d) more.0 (are_parts p np) (are_parts d nd) (ap is_up (first_is d)) more.1 in
    go more.0 so
  where
    go : (zs : Texts) → GoesOnSo (is_rooted p) (is_up (first_part p)) (is_rooted d) (is_up (first_part d)) (parts p) (parts d) zs → (p ≡ d) ⊎ IsUnder p d
    go [] so = inl (one_text p d np nd so.rooted (so.parts_are ∙ append-nil (parts d)))
    go (next ∷ rest) so = inr (record {
      next = next;
      more = rest;
      rooted = so.rooted;
      goes_on = so.parts_are;
      not_above = λ here.
          let first : first_part p ≡ next = first_is p ∙ ap first_or_none (so.parts_are ∙ ap (λ ds. ds ++ next ∷ rest) (no_parts d here)) in
          sym (ap is_up first) ∙ so.up (ap is_rooted here) ∙ ap (λ t. is_up (first_part t)) here;
    })

lead_under : (p d : List ℕ) → IsNormal d → IsUnder p d → lead_of (is_rooted p) (is_up (first_part p)) ≡ lead_of (is_rooted d) (is_up (first_part d))
lead_under p d nd u = go (parts d) refl (is_rooted d) refl
  where
    first_p : (ds : Texts) → parts d ≡ ds → first_part p ≡ first_or_none (ds ++ u.next ∷ u.more)
    first_p ds e = first_is p ∙ ap first_or_none (u.goes_on ∙ ap (λ l. l ++ u.next ∷ u.more) e)

    first_d : (ds : Texts) → parts d ≡ ds → first_part d ≡ first_or_none ds
    first_d ds e = first_is d ∙ ap first_or_none e

    go : (ds : Texts) → parts d ≡ ds → (r : Bool) → is_rooted d ≡ r → lead_of (is_rooted p) (is_up (first_part p)) ≡ lead_of (is_rooted d) (is_up (first_part d))
    go ds e true q = ap (λ r. lead_of r (is_up (first_part p))) (u.rooted ∙ q) ∙ sym (ap (λ r. lead_of r (is_up (first_part d))) q)
    go [] e false q =
        let here : d ≡ codes "." = cut_is d nd ∙ ap (λ r. written r (parts d)) q ∙ ap (written false) e in
        ap₂ lead_of u.rooted (ap is_up (first_p [] e) ∙ u.not_above here ∙ sym (ap is_up (first_d [] e)))
    go (s ∷ ds) e false q = ap₂ lead_of u.rooted (ap is_up (first_p (s ∷ ds) e) ∙ sym (ap is_up (first_d (s ∷ ds) e)))

spot_of_inner : (p d : List ℕ) → IsNormal d → (u : IsUnder p d) → spot p ≡ spot d ++ (u.next ++ 47 ∷ ended u.more)
unfolding spot
spot_of_inner p d nd u =
    let same : way p ≡ way d ++ u.next ∷ u.more =
    ap₂ ◌++◌ (lead_under p d nd u) u.goes_on ∙ sym (append_assoc (lead_of (is_rooted d) (is_up (first_part d))) (parts d) (u.next ∷ u.more)) in
    ap ended same ∙ ended-append (way d) (u.next ∷ u.more)

pub spot_from_under : (p d : List ℕ) → IsNormal d → IsUnder p d → IsFrontOf (spot d) (spot p)
spot_from_under p d nd u = (u.next ++ 47 ∷ ended u.more, spot_of_inner p d nd u)

pub spot_differs : (p d : List ℕ) → IsNormal d → IsUnder p d → spot d ≢ spot p
spot_differs p d nd u same =
    omega (arith, ap length same, ap length (spot_of_inner p d nd u), length-append (spot d) (u.next ++ 47 ∷ ended u.more), length-append u.next (47 ∷ ended u.more))

-- ---- how a spot is written

ended_join : (s : List ℕ) (found : Texts) → ended (s ∷ found) ≡ join_with_byte 47 (s ∷ found) ++ codes "/"
ended_join s [] = refl
ended_join s (t ∷ found) = ap (λ r. s ++ 47 ∷ r) (ended_join t found) ∙ sym (append_assoc s (47 ∷ join_with_byte 47 (t ∷ found)) (codes "/"))

spot_form : (path s : List ℕ) (found : Texts) (r u : Bool) → path ≡ written r (s ∷ found) → ended (lead_of r u ++ s ∷ found) ≡ cond (r || u) (path ++ codes "/") (codes "./" ++ (path ++ codes "/"))
spot_form path s found true u e = ap (λ t. 47 ∷ t) (ended_join s found) ∙ ap (λ t. t ++ codes "/") (sym e)
spot_form path s found false true e = ended_join s found ∙ ap (λ t. t ++ codes "/") (sym e)
spot_form path s found false false e = ap (λ t. codes "./" ++ t) (ended_join s found ∙ ap (λ t. t ++ codes "/") (sym e))

-- the spot of a path other than the folder and the root
pub spot_is : (path : List ℕ) → IsNormal path → path ≢ codes "." → path ≢ codes "/" → spot path ≡ cond (is_rooted path || is_up (first_part path)) (path ++ codes "/") (codes "./" ++ (path ++ codes "/"))
unfolding spot
spot_is path n here root = go (parts path) refl
  where
    bare : (r : Bool) → path ≡ written r [] → ⊥
    bare true e = root e
    bare false e = here e

    go : (ps : Texts) → parts path ≡ ps → ended (way path) ≡ cond (is_rooted path || is_up (first_part path)) (path ++ codes "/") (codes "./" ++ (path ++ codes "/"))
    go [] e = absurd (bare (is_rooted path) (cut_is path n ∙ ap (written (is_rooted path)) e))
    go (s ∷ found) e =
        ap (λ ps. ended (lead_of (is_rooted path) (is_up (first_part path)) ++ ps)) e
        ∙ spot_form path s found (is_rooted path) (is_up (first_part path)) (cut_is path n ∙ ap (written (is_rooted path)) e)

pub spot_here : spot (codes ".") ≡ codes "./"
unfolding spot
spot_here = refl

pub spot_root : spot (codes "/") ≡ codes "/"
unfolding spot
spot_root = refl
