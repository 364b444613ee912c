-- Texts with no zero byte stay so when joined or cut: stems, suffixes, and segments of which each `..` becomes `up`.
use Rattle.std.proofs.Common.{ℕ, ◌<◌, true, false, cond, eqb, List, [], ◌∷◌, ◌++◌, Option, Some, None, map, lit<}
use Rattle.std.specs.Prelude.{codes}
use Rattle.std.specs.Option.{IfSome}
use Rattle.std.specs.List.{AllByRecursion, onto_first, join_with_byte, list_any, before_last}
use Rattle.std.proofs.lemmas.List.Elements.{All-append, All-take, All-from_recursion, recursion_from_All}
use Rattle.b2_base.specs.Bytes.{HasNoZero}
use Rattle.b2_base.specs.Segments.{segments, is_up, without_suffix}
use Rattle.b2_virtual.specs.Paths.{up_shown, dotted}

pub clean_both : (xs ys : List ℕ) → HasNoZero xs → HasNoZero ys → HasNoZero (xs ++ ys)
clean_both xs ys x y = All-append (λ byte. 0 < byte) xs ys x y

pub clean_slash : HasNoZero (codes "/")
clean_slash = All-from_recursion (λ byte. 0 < byte) (codes "/") (lit< tt, tt)

pub clean_here : HasNoZero (codes "./")
clean_here = All-from_recursion (λ byte. 0 < byte) (codes "./") (lit< tt, (lit< tt, tt))

pub clean_bin : HasNoZero (codes "bin/")
clean_bin = All-from_recursion (λ byte. 0 < byte) (codes "bin/") (lit< tt, (lit< tt, (lit< tt, (lit< tt, tt))))

pub clean_root : HasNoZero (codes "root")
clean_root = All-from_recursion (λ byte. 0 < byte) (codes "root") (lit< tt, (lit< tt, (lit< tt, (lit< tt, tt))))

abbrev IsMore : ℕ → Type 0
IsMore byte = 0 < byte

abbrev IsClean : List ℕ → Type 0
IsClean = AllByRecursion IsMore

cut_clean : (xs ys : List ℕ) → IsClean (xs ++ ys) → IsClean xs × IsClean ys
cut_clean [] ys a = (tt, a)
cut_clean (x ∷ xs) ys a = let more : IsClean xs × IsClean ys = cut_clean xs ys a.1 in ((a.0, more.0), more.1)

-- the parts of a text
pub clean_parts : (xs ys : List ℕ) → HasNoZero (xs ++ ys) → HasNoZero xs × HasNoZero ys
clean_parts xs ys h =
    let both : IsClean xs × IsClean ys = cut_clean xs ys (recursion_from_All IsMore (xs ++ ys) h) in
    (All-from_recursion IsMore xs both.0, All-from_recursion IsMore ys both.1)

pub clean_stem : (name : List ℕ) → HasNoZero name → HasNoZero (without_suffix name)
clean_stem name h =
    elim (list_any (λ byte. eqb byte 46) name) as (λ b. HasNoZero (cond b (before_last (λ byte. eqb byte 46) name) name)) [
      | true ↦ All-take IsMore _ name h
      | false ↦ h
    ]

-- ---- segments

join_clean : (xs ys : List ℕ) → IsClean xs → IsClean ys → IsClean (xs ++ ys)
join_clean [] ys a b = b
join_clean (x ∷ xs) ys a b = (a.0, join_clean xs ys a.1 b)

onto_clean : (x : ℕ) (parts : List (List ℕ)) → 0 < x → AllByRecursion IsClean parts → AllByRecursion IsClean (onto_first x parts)
onto_clean x [] h a = ((h, tt), tt)
onto_clean x (part ∷ parts) h a = ((h, a.0), a.1)

split_clean : (xs : List ℕ) → IsClean xs → AllByRecursion IsClean (segments xs)
split_clean [] a = (tt, tt)
split_clean (x ∷ xs) a =
    elim (eqb x 47) as (λ b. AllByRecursion IsClean (cond b ([] ∷ segments xs) (onto_first x (segments xs)))) [
      | true ↦ (tt, split_clean xs a.1)
      | false ↦ onto_clean x (segments xs) a.0 (split_clean xs a.1)
    ]

up_clean : (segment : List ℕ) → IsClean segment → IsClean (up_shown segment)
up_clean segment a =
    elim (is_up segment) as (λ b. IsClean (cond b (codes "up") segment)) [
      | true ↦ (lit< tt, (lit< tt, tt))
      | false ↦ a
    ]

ups_clean : (parts : List (List ℕ)) → AllByRecursion IsClean parts → AllByRecursion IsClean (map up_shown parts)
ups_clean [] a = tt
ups_clean (part ∷ parts) a = (up_clean part a.0, ups_clean parts a.1)

joined_clean : (parts : List (List ℕ)) → AllByRecursion IsClean parts → IsClean (join_with_byte 47 parts)
joined_clean [] a = tt
joined_clean (x ∷ []) a = a.0
joined_clean (x ∷ y ∷ parts) a = join_clean x (47 ∷ join_with_byte 47 (y ∷ parts)) a.0 (lit< tt, joined_clean (y ∷ parts) a.1)

pub clean_ups : (text : List ℕ) → HasNoZero text → HasNoZero (join_with_byte 47 (map up_shown (segments text)))
clean_ups text h =
    All-from_recursion IsMore (join_with_byte 47 (map up_shown (segments text)))
    (joined_clean (map up_shown (segments text)) (ups_clean (segments text) (split_clean text (recursion_from_All IsMore text h))))

pub clean_nothing : HasNoZero []
clean_nothing = All-from_recursion IsMore [] tt

pub clean_dotted : (suffix : Option (List ℕ)) → IfSome suffix HasNoZero → HasNoZero (dotted suffix)
clean_dotted None h = clean_nothing
clean_dotted (Some suffix) h = All-append IsMore (codes ".") suffix (All-from_recursion IsMore (codes ".") (lit< tt, tt)) h
