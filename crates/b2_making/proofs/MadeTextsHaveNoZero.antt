-- The texts of copies and the names of libraries have no zero byte; location and include directories, one pair more.
use Rattle.std.proofs.Common.{◌≡◌, ℕ, ◌<◌, ◌+◌, cond, List, [], ◌∷◌, ◌++◌, Option, Some, map, take, get_or, length, ◌∙◌, ap, lit<}
use Rattle.std.specs.Prelude.{codes}
use Rattle.std.specs.List.{filter}
use Rattle.std.specs.Option.{IfSome}
use Rattle.std.specs.Str.{bytes_eq}
use Rattle.std.proofs.lemmas.List.{reverse-append, map-append}
use Rattle.std.proofs.lemmas.List.Elements.{All-from_recursion, filter-append}
use Rattle.b2_base.specs.Bytes.{HasNoZero}
use Rattle.b2_base.specs.Segments.{normal_of}
use Rattle.b2_props.specs.Sets.{Pair, value_of}
use Rattle.b2_props.proofs.DraftHoldsEachGainedPair.{next_take}
use Rattle.b2_virtual.specs.Paths.{dotted}
use Rattle.b2_virtual.proofs.PiecesBringNoZero.{clean_both, clean_dotted}
use Rattle.b2_making.specs.Steps.{location_of, include_dirs, values_of}

-- ---- no zero byte

quote_clean : HasNoZero (codes "\"")
quote_clean = All-from_recursion (λ byte. 0 < byte) (codes "\"") (lit< tt, tt)

pub clean_copy : (from to : List ℕ) → HasNoZero from → HasNoZero to → HasNoZero (codes "cp \"" ++ (from ++ (codes "\" \"" ++ (to ++ codes "\""))))
clean_copy from to f t =
    clean_both (codes "cp \"") (from ++ (codes "\" \"" ++ (to ++ codes "\""))) (All-from_recursion (λ byte. 0 < byte) (codes "cp \"") (lit< tt, (lit< tt, (lit< tt, (lit< tt, tt)))))
    (clean_both from (codes "\" \"" ++ (to ++ codes "\"")) f
    (clean_both (codes "\" \"") (to ++ codes "\"") (All-from_recursion (λ byte. 0 < byte) (codes "\" \"") (lit< tt, (lit< tt, (lit< tt, tt)))) (clean_both to (codes "\"") t quote_clean)))

pub clean_library : (name : List ℕ) (suffix : Option (List ℕ)) → HasNoZero name → IfSome suffix HasNoZero → HasNoZero (codes "lib" ++ (name ++ dotted suffix))
clean_library name suffix n s =
    clean_both (codes "lib") (name ++ dotted suffix) (All-from_recursion (λ byte. 0 < byte) (codes "lib") (lit< tt, (lit< tt, (lit< tt, tt)))) (clean_both name (dotted suffix) n (clean_dotted suffix s))

-- ---- the location

pub location_next : (set : List Pair) (i : ℕ) (p : Pair) → i < length set → p ≡ get_or set i p
    → location_of (take (i + 1) set) ≡ cond (bytes_eq (codes "location") p.0) (Some p.1) (location_of (take i set))
location_next set i p within is = ap (λ (ps : List Pair). location_of ps) (next_take set i p within is) ∙ ap (λ (ps : List Pair). value_of ps (codes "location")) (reverse-append (take i set) (p ∷ []))

-- ---- the directories of `<include>`

pub include_next : (set : List Pair) (i : ℕ) (p : Pair) → i < length set → p ≡ get_or set i p → include_dirs (take (i + 1) set) ≡ include_dirs (take i set) ++ include_dirs (p ∷ [])
include_next set i p within is =
    ap (λ (ps : List Pair). include_dirs ps) (next_take set i p within is)
    ∙ ap (λ (ps : List Pair). map normal_of (map (λ (x : Pair). x.1) ps)) (filter-append (λ (x : Pair). bytes_eq (codes "include") x.0) (take i set) (p ∷ []))
    ∙ ap (map normal_of) (map-append (λ (x : Pair). x.1) (filter (λ (x : Pair). bytes_eq (codes "include") x.0) (take i set)) (filter (λ (x : Pair). bytes_eq (codes "include") x.0) (p ∷ [])))
    ∙ map-append normal_of (values_of (take i set) (codes "include")) (values_of (p ∷ []) (codes "include"))
