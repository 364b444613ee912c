-- A normal form is its root and parts written again, and how it begins tells whether it is under a directory.
use Rattle.std.proofs.Common.{◌≡◌, ◌≢◌, ◌<◌, ℕ, Bool, length, get_or, true, false, cond, not, eqb, suc, zero, List, [], ◌∷◌, ◌++◌, codes, replicate, filter, refl, ap, sym, ◌∙◌, append_assoc, arith}
use Rattle.std.proofs.Math.Nat.{suc-ne-zero}
use Rattle.std.proofs.lemmas.Bool.{true≢false}
use Rattle.std.proofs.lemmas.List.Splits.{length-slice_split}
use Rattle.std.specs.Bool.{Decides}
use Rattle.std.specs.Str.{bytes_eq}
use Rattle.std.specs.List.{AllByRecursion, onto_first, join_with_byte}
use Rattle.std.proofs.lemmas.List.{append-nil, append_cancel_left}
use Rattle.std.proofs.lemmas.List.Elements.{filter-append}
use Rattle.std.proofs.lemmas.Slice.Eq.{bytes_eq-Decides}
use Rattle.b2_base.specs.Segments.{segments, is_rooted, is_dropped, is_up, written}
use Rattle.b2_base.specs.Normal.{IsName, IsNormal, IsUnder, parts, first_part}
use Rattle.b2_base.proofs.NormalMakesNormalForms.{IsWhole, two_dots}
use Rattle.b2_base.proofs.NormalFormsStay.{cut_joined, not_rooted, whole_dots, dot_is_no_slash}

-- ---- the parts of a normal form

-- a segment that a normal form has: neither empty nor `.`, with no slash
pub record IsPart (segment : List ℕ) : Type 0 where
  pub shown : is_dropped segment ≡ false
  pub whole : IsWhole segment

-- the root or not, and then parts
record Cut (text : List ℕ) : Type 0 where
  rooted : Bool
  found : List (List ℕ)
  text_is : text ≡ written rooted found
  each : AllByRecursion IsPart found

names_are : (names : List (List ℕ)) → AllByRecursion IsName names → AllByRecursion IsPart names
names_are [] a = tt
names_are (n ∷ names) a = (record { shown = a.0.shown; whole = a.0.whole }, names_are names a.1)

pub all_are : (ups : ℕ) (names : List (List ℕ)) → AllByRecursion IsName names → AllByRecursion IsPart (replicate ups two_dots ++ names)
all_are zero names a = names_are names a
all_are (suc n) names a = (record { shown = refl; whole = whole_dots }, all_are n names a)

cut_normal : (text : List ℕ) → IsNormal text → Cut text
cut_normal text n = record { rooted = n.rooted; found = replicate n.ups two_dots ++ n.names; text_is = n.text_is; each = all_are n.ups n.names n.each }

wholes : (found : List (List ℕ)) → AllByRecursion IsPart found → AllByRecursion IsWhole found
wholes [] a = tt
wholes (s ∷ found) a = (a.0.whole, wholes found a.1)

all_shown : (found : List (List ℕ)) → AllByRecursion IsPart found → filter (λ s. not (is_dropped s)) found ≡ found
all_shown [] a = refl
all_shown (s ∷ found) a = ap (λ d. cond (not d) (s ∷ filter (λ s. not (is_dropped s)) found) (filter (λ s. not (is_dropped s)) found)) a.0.shown ∙ ap (λ r. s ∷ r) (all_shown found a.1)

pub parts_written : (rooted : Bool) (found : List (List ℕ)) → AllByRecursion IsPart found → parts (written rooted found) ≡ found
parts_written true [] a = refl
parts_written false [] a = refl
parts_written true (s ∷ found) a = ap (filter (λ s. not (is_dropped s))) (cut_joined s found a.0.whole (wholes found a.1)) ∙ all_shown (s ∷ found) a
parts_written false (s ∷ found) a = ap (filter (λ s. not (is_dropped s))) (cut_joined s found a.0.whole (wholes found a.1)) ∙ all_shown (s ∷ found) a

pub rooted_written : (rooted : Bool) (found : List (List ℕ)) → AllByRecursion IsPart found → is_rooted (written rooted found) ≡ rooted
rooted_written true found a = refl
rooted_written false [] a = refl
rooted_written false ([] ∷ found) a = absurd (true≢false a.0.shown)
rooted_written false ((b ∷ bs) ∷ found) a = not_rooted b bs found a.0.whole.0

parts_cut : (text : List ℕ) (n : Cut text) → parts text ≡ n.found
parts_cut text n = ap parts n.text_is ∙ parts_written n.rooted n.found n.each

rooted_cut : (text : List ℕ) (n : Cut text) → is_rooted text ≡ n.rooted
rooted_cut text n = ap is_rooted n.text_is ∙ rooted_written n.rooted n.found n.each

-- the text is its root and parts again
pub cut_is : (text : List ℕ) → IsNormal text → text ≡ written (is_rooted text) (parts text)
cut_is text n =
    let m = cut_normal text n in
    m.text_is ∙ ap (λ r. written r m.found) (sym (rooted_cut text m)) ∙ ap (written (is_rooted text)) (sym (parts_cut text m))

-- the root and the parts settle the text
pub one_text : (a b : List ℕ) → IsNormal a → IsNormal b → is_rooted a ≡ is_rooted b → parts a ≡ parts b → a ≡ b
one_text a b n m root same = cut_is a n ∙ ap (λ r. written r (parts a)) root ∙ ap (written (is_rooted b)) same ∙ sym (cut_is b m)

first_is : (path s : List ℕ) (more : List (List ℕ)) → parts path ≡ s ∷ more → first_part path ≡ s
first_is path s more e = rw e refl

first_none : (path : List ℕ) → parts path ≡ [] → first_part path ≡ []
first_none path e = rw e refl

-- ---- a text that goes on with a slash

onto_on : (x : ℕ) (found more : List (List ℕ)) → 0 < length found → onto_first x (found ++ more) ≡ onto_first x found ++ more
onto_on x [] more h = absurd (omega arith)
onto_on x (s ∷ found) more h = refl

split_on : (xs ys : List ℕ) → segments (xs ++ 47 ∷ ys) ≡ segments xs ++ segments ys
split_on [] ys = refl
split_on (x ∷ xs) ys =
    elim (eqb x 47) as (λ b. cond b ([] ∷ segments (xs ++ 47 ∷ ys)) (onto_first x (segments (xs ++ 47 ∷ ys))) ≡ cond b ([] ∷ segments xs) (onto_first x (segments xs)) ++ segments ys) [
      | true ↦ ap (λ r. [] ∷ r) (split_on xs ys)
      | false ↦ ap (onto_first x) (split_on xs ys) ∙ onto_on x (segments xs) (segments ys) (omega (arith, length-slice_split (λ b. eqb b 47) xs))
    ]

parts_on : (xs ys : List ℕ) → parts (xs ++ 47 ∷ ys) ≡ parts xs ++ parts ys
parts_on xs ys = ap (filter (λ s. not (is_dropped s))) (split_on xs ys) ∙ filter-append (λ s. not (is_dropped s)) (segments xs) (segments ys)

join_on : (s : List ℕ) (found : List (List ℕ)) (next : List ℕ) (more : List (List ℕ)) → join_with_byte 47 ((s ∷ found) ++ next ∷ more) ≡ join_with_byte 47 (s ∷ found) ++ 47 ∷ join_with_byte 47 (next ∷ more)
join_on s [] next more = refl
join_on s (t ∷ found) next more = ap (λ r. s ++ 47 ∷ r) (join_on t found next more) ∙ sym (append_assoc s (47 ∷ join_with_byte 47 (t ∷ found)) (47 ∷ join_with_byte 47 (next ∷ more)))

-- what `!=` says of two texts
pub differs : (xs ys : List ℕ) (r : Bool) → r ≡ not (bytes_eq xs ys) → r ≡ true → xs ≢ ys
differs xs ys r e t same = true≢false (sym t ∙ e ∙ ap not ((bytes_eq-Decides xs ys).1 same))

pub not_true : (a b : Bool) → a ≡ not b → a ≡ true → b ≡ false
not_true a true e t = absurd (true≢false (sym t ∙ e))
not_true a false e t = refl

-- ---- below `.`

pub under_here : (path : List ℕ) → IsNormal path → path ≢ codes "." → is_rooted path ≡ false → is_up (first_part path) ≡ false → IsUnder path (codes ".")
under_here path n other here above = go (parts path) refl
  where
    go : (p : List (List ℕ)) → parts path ≡ p → IsUnder path (codes ".")
    go [] e = absurd (other (cut_is path n ∙ ap (λ r. written r (parts path)) here ∙ ap (written false) e))
    go (s ∷ more) e = record { next = s; more = more; rooted = here; goes_on = e; not_above = λ _. rw e at above }

pub here_above : (path : List ℕ) → IsUnder path (codes ".") → is_up (first_part path) ≡ false
here_above path u = rw u.goes_on (u.not_above refl)

-- ---- below the root

pub under_root : (path : List ℕ) → IsNormal path → path ≢ codes "/" → is_rooted path ≡ true → IsUnder path (codes "/")
under_root path n other root = go (parts path) refl
  where
    go : (p : List (List ℕ)) → parts path ≡ p → IsUnder path (codes "/")
    go [] e = absurd (other (cut_is path n ∙ ap (λ r. written r (parts path)) root ∙ ap (written true) e))
    go (s ∷ more) e = record { next = s; more = more; rooted = root; goes_on = e; not_above = λ same. absurd (dot_is_no_slash 47 (ap (λ t. get_or t 0 0) same) refl) }

-- ---- below another folder

-- at least one part
record HasParts (dir : List ℕ) : Type 0 where
  first : List ℕ
  more : List (List ℕ)
  parts_are : parts dir ≡ first ∷ more

some_parts : (dir : List ℕ) → IsNormal dir → dir ≢ codes "." → dir ≢ codes "/" → HasParts dir
some_parts dir m here root = go (parts dir) refl
  where
    no_parts : (r : Bool) → dir ≡ written r [] → HasParts dir
    no_parts true e = absurd (root e)
    no_parts false e = absurd (here e)

    go : (p : List (List ℕ)) → parts dir ≡ p → HasParts dir
    go [] e = no_parts (is_rooted dir) (cut_is dir m ∙ ap (written (is_rooted dir)) e)
    go (s ∷ more) e = record { first = s; more = more; parts_are = e }

rooted_on : (dir rest s : List ℕ) (more : List (List ℕ)) → parts dir ≡ s ∷ more → is_rooted (dir ++ rest) ≡ is_rooted dir
rooted_on [] rest s more e = let h : [] ≡ s ∷ more = e in cc
rooted_on (b ∷ bs) rest s more e = refl

pub under_on : (path dir : List ℕ) → IsNormal path → IsNormal dir → dir ≢ codes "." → dir ≢ codes "/" → (rest : List ℕ) → path ≡ dir ++ 47 ∷ rest → IsUnder path dir
under_on path dir n m here root rest e = go (parts rest) refl
  where
    has : HasParts dir
    has = some_parts dir m here root

    same_root : is_rooted path ≡ is_rooted dir
    same_root = ap is_rooted e ∙ rooted_on dir (47 ∷ rest) has.first has.more has.parts_are

    both : parts path ≡ parts dir ++ parts rest
    both = ap parts e ∙ parts_on dir rest

    ends : parts rest ≡ [] → path ≡ dir
    ends q =
        cut_is path n
        ∙ ap (λ r. written r (parts path)) same_root
        ∙ ap (written (is_rooted dir)) (both ∙ ap (λ r. parts dir ++ r) q ∙ append-nil (parts dir))
        ∙ sym (cut_is dir m)

    go : (p : List (List ℕ)) → parts rest ≡ p → IsUnder path dir
    go [] q = let h : [] ≡ 47 ∷ rest = append_cancel_left dir [] (47 ∷ rest) (append-nil dir ∙ sym (ends q) ∙ e) in cc
    go (s ∷ more) q = record { next = s; more = more; rooted = same_root; goes_on = both ∙ ap (λ r. parts dir ++ r) q; not_above = λ same. absurd (here same) }

written_on : (rooted : Bool) (s : List ℕ) (found : List (List ℕ)) (next : List ℕ) (more : List (List ℕ)) → written rooted ((s ∷ found) ++ next ∷ more) ≡ written rooted (s ∷ found) ++ 47 ∷ join_with_byte 47 (next ∷ more)
written_on true s found next more = ap (λ r. 47 ∷ r) (join_on s found next more)
written_on false s found next more = join_on s found next more

pub on_under : (path dir : List ℕ) → IsNormal path → IsNormal dir → dir ≢ codes "." → dir ≢ codes "/" → IsUnder path dir → (rest : List ℕ) × (path ≡ dir ++ 47 ∷ rest)
on_under path dir n m here root u =
    let has : HasParts dir = some_parts dir m here root in (
      join_with_byte 47 (u.next ∷ u.more),
      cut_is path n
          ∙ ap (λ r. written r (parts path)) u.rooted
          ∙ ap (written (is_rooted dir)) (u.goes_on ∙ ap (λ p. p ++ u.next ∷ u.more) has.parts_are)
          ∙ written_on (is_rooted dir) has.first has.more u.next u.more
          ∙ ap (λ t. t ++ 47 ∷ join_with_byte 47 (u.next ∷ u.more)) (sym (cut_is dir m ∙ ap (written (is_rooted dir)) has.parts_are)),
    )

-- ---- a text that begins with `..`

pub up_on : (rest : List ℕ) → is_up (first_part (codes "../" ++ rest)) ≡ true
up_on rest = ap is_up (first_is (codes "../" ++ rest) two_dots (parts rest) (parts_on two_dots rest))

-- a normal form whose first part is `..`, other than `..`, goes on with a slash
pub up_goes_on : (path : List ℕ) → IsNormal path → path ≢ codes ".." → is_up (first_part path) ≡ true → (rest : List ℕ) × (path ≡ codes "../" ++ rest)
up_goes_on path n other up = go n.rooted n.ups n.names n.at_root n.each n.text_is
  where
    none : (rooted : Bool) → path ≡ written rooted [] → ⊥
    none rooted e = let h : is_up [] ≡ true = sym (ap is_up (first_none path (ap parts e ∙ parts_written rooted [] tt))) ∙ up in cc

    alone : (found : List (List ℕ)) → path ≡ written false (two_dots ∷ found) → (rest : List ℕ) × (path ≡ codes "../" ++ rest)
    alone [] e = absurd (other e)
    alone (s ∷ found) e = (join_with_byte 47 (s ∷ found), e)

    go : (rooted : Bool) (ups : ℕ) (names : List (List ℕ)) → (rooted ≡ true → ups ≡ 0) → AllByRecursion IsName names → path ≡ written rooted (replicate ups two_dots ++ names) → (rest : List ℕ) × (path ≡ codes "../" ++ rest)
    go rooted zero [] r a e = absurd (none rooted e)
    go rooted zero (s ∷ names) r a e = let h : is_up s ≡ true = sym (ap is_up (first_is path s names (ap parts e ∙ parts_written rooted (s ∷ names) (names_are (s ∷ names) a)))) ∙ up in absurd (true≢false (sym h ∙ a.0.name))
    go true (suc k) names r a e = absurd (suc-ne-zero k (r refl))
    go false (suc k) names r a e = alone (replicate k two_dots ++ names) e

pub begins : (path : List ℕ) → IsNormal path → path ≢ codes ".." → (r : Bool) → Decides r ((rest : List ℕ) × (path ≡ codes "../" ++ rest)) → r ≡ is_up (first_part path)
begins path n other r d = go (is_up (first_part path)) refl r d
  where
    go : (u : Bool) → is_up (first_part path) ≡ u → (r : Bool) → Decides r ((rest : List ℕ) × (path ≡ codes "../" ++ rest)) → r ≡ is_up (first_part path)
    go true e r d = d.1 (up_goes_on path n other e) ∙ sym e
    go false e true d = let h : is_up (first_part path) ≡ true = ap (λ t. is_up (first_part t)) (d.0 refl).1 ∙ up_on (d.0 refl).0 in sym h
    go false e false d = sym e
