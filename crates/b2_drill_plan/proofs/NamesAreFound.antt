-- The main targets of a drill by their names, and what their sources name.
use Rattle.std.proofs.Common.{◌≡◌, ◌≢◌, ℕ, ◌<◌, ◌≤◌, ◌⊎◌, inl, inr, Bool, true, false, not, cond, eqb, List, [], ◌∷◌, ◌++◌, length, filter, map, refl, sym, ap, ap₂, subst, ◌∙◌, arith}
use Rattle.std.specs.Prelude.{◌==◌, if◌then◌else◌}
use Rattle.std.specs.Fmt.{decimal}
use Rattle.std.specs.List.{AllByRecursion}
use Rattle.std.specs.Option.{option_map_or}
use Rattle.std.specs.Str.{bytes_eq}
use Rattle.std.proofs.lemmas.Fmt.{decimal_injective}
use Rattle.std.proofs.lemmas.List.Elements.{All-from_recursion}
use Rattle.std.proofs.lemmas.List.Splits.{slice_split_none}
use Rattle.std.proofs.lemmas.Slice.Eq.{bytes_eq-Decides}
use Rattle.b2_base.specs.Segments.{here, normal_of, path_from}
use Rattle.b2_drill.specs.Drills.{source_name, target_name}
use Rattle.b2_drill_clean.specs.Steps.{output}
use Rattle.b2_drill_clean.proofs.StepsByNumber.{below}
use Rattle.b2_drill_project.specs.Project.{drill_target, drill_targets, drill_project}
use Rattle.b2_drill_project.proofs.NamesAreGood.{IsNoSlash, not_cut, target_has_no_slash, source_has_no_slash}
use Rattle.b2_declared.specs.declared.place.Target.{Target}
use Rattle.b2_references.specs.Names.{is_same, name_of, first_list, lineage, dir_of, alternatives, default_build}
use Rattle.b2_references.specs.References.{reference_meaning, target_or_file, source_meaning}
use Rattle.b2_references.specs.declared.meaning.Meaning.TheVariants.{File, Targets}
use Rattle.b2_virtual.specs.Paths.{output_path, named_tail}

-- ---- names

-- the line of a target, where the line of the last one comes first
abbrev pub line_of : List ℕ → ℕ → ℕ
line_of [] i = 0
line_of (line ∷ lines) i = if i == length lines then line else line_of lines i

cons_tail : {X : Type 0} (x y : X) (xs ys : List X) → x ∷ xs ≡ y ∷ ys → xs ≡ ys
cons_tail x y xs ys e = cc

pub own_name : (i : ℕ) → is_same (0, target_name i) (0, target_name i) ≡ true
own_name i = (bytes_eq-Decides (target_name i) (target_name i)).1 refl

pub other_name : (i k : ℕ) → i < 2000 → k < 2000 → i ≢ k → is_same (0, target_name i) (0, target_name k) ≡ false
other_name i k small few other = go (bytes_eq (target_name i) (target_name k)) refl
  where
    go : (b : Bool) → bytes_eq (target_name i) (target_name k) ≡ b → b ≡ false
    go true e =
        absurd (other (decimal_injective i k (omega (arith, small)) (omega (arith, few)) (cons_tail 116 116 (decimal i) (decimal k) ((bytes_eq-Decides (target_name i) (target_name k)).0 e))))
    go false e = refl

pub filter_append : {X : Type 0} (p : X → Bool) (xs ys : List X) → filter p (xs ++ ys) ≡ filter p xs ++ filter p ys
filter_append p [] ys = refl
filter_append {X} p (x ∷ xs) ys = go (p x) (filter_append p xs ys)
  where
    go : (b : Bool) → filter p (xs ++ ys) ≡ filter p xs ++ filter p ys → cond b (x ∷ filter p (xs ++ ys)) (filter p (xs ++ ys)) ≡ cond b (x ∷ filter p xs) (filter p xs) ++ filter p ys
    go true e = ap (λ l. x ∷ l) e
    go false e = e

-- ---- the alternatives of a name

abbrev is_named : List ℕ → Target → Bool
is_named text t = is_same (0, text) (name_of t)

kept_or_not : (text : List ℕ) (t : Target) (b : Bool) → is_named text t ≡ b → filter (is_named text) (t ∷ []) ≡ cond b (t ∷ []) []
kept_or_not text t b e = ap (λ c. cond c (t ∷ []) []) e

later_not_found : (i : ℕ) (lines : List ℕ) → length lines ≤ i → i < 2000 → filter (is_named (target_name i)) (drill_targets lines) ≡ []
later_not_found i [] low small = refl
later_not_found i (line ∷ lines) low small =
    filter_append (is_named (target_name i)) (drill_targets lines) (drill_target (length lines) line ∷ [])
    ∙ ap₂ (λ xs ys. xs ++ ys) (later_not_found i lines (omega (arith, low)) small)
    (kept_or_not (target_name i) (drill_target (length lines) line) false (other_name i (length lines) small (omega (arith, low, small)) (λ e. omega (arith, e, low))))

source_not_found : (i : ℕ) (lines : List ℕ) → filter (is_named (source_name i)) (drill_targets lines) ≡ []
source_not_found i [] = refl
source_not_found i (line ∷ lines) =
    filter_append (is_named (source_name i)) (drill_targets lines) (drill_target (length lines) line ∷ []) ∙ ap₂ (λ xs ys. xs ++ ys) (source_not_found i lines) refl

add_none : {X : Type 0} (xs : List X) → xs ++ [] ≡ xs
add_none [] = refl
add_none (x ∷ xs) = ap (λ l. x ∷ l) (add_none xs)

found : (i : ℕ) (lines : List ℕ) → i < length lines → length lines ≤ 2000 → filter (is_named (target_name i)) (drill_targets lines) ≡ drill_target i (line_of lines i) ∷ []
found i [] less few = absurd (omega (arith, less))
found i (line ∷ lines) less few =
    filter_append (is_named (target_name i)) (drill_targets lines) (drill_target (length lines) line ∷ []) ∙ go (below i (length lines) less) (λ lower. found i lines lower (omega (arith, few)))
  where
    before : i < length lines → (i == length lines) ≡ false
    before lower = grind (arith, lower)

    at_last : i ≡ length lines → (i == length lines) ≡ true
    at_last same = grind (arith, same)

    go : (i < length lines) ⊎ (i ≡ length lines) → (i < length lines → filter (is_named (target_name i)) (drill_targets lines) ≡ drill_target i (line_of lines i) ∷ [])
        → filter (is_named (target_name i)) (drill_targets lines) ++ filter (is_named (target_name i)) (drill_target (length lines) line ∷ []) ≡ drill_target i (line_of (line ∷ lines) i) ∷ []
    go (inl lower) earlier =
        ap₂ (λ xs ys. xs ++ ys) (earlier lower)
        (kept_or_not (target_name i) (drill_target (length lines) line) false (other_name i (length lines) (omega (arith, lower, few)) (omega (arith, few)) (λ e. omega (arith, e, lower))))
        ∙ ap (λ b. drill_target i (if b then line else line_of lines i) ∷ []) (sym (before lower))
    go (inr same) earlier =
        ap₂ (λ xs ys. xs ++ ys) (later_not_found i lines (omega (arith, same)) (omega (arith, same, few)))
        (kept_or_not (target_name i) (drill_target (length lines) line) true (subst (λ k. is_same (0, target_name i) (0, target_name k) ≡ true) same (own_name i)))
        ∙ ap (λ k. drill_target k line ∷ []) (sym same)
        ∙ ap (λ b. drill_target i (if b then line else line_of lines i) ∷ []) (sym (at_last same))

pub alternatives_are : (i : ℕ) (lines : List ℕ) → i < length lines → length lines ≤ 2000 → alternatives (drill_project lines) (0, target_name i) ≡ drill_target i (line_of lines i) ∷ []
unfolding alternatives
alternatives_are i lines less few = found i lines less few

no_alternatives : (i : ℕ) (lines : List ℕ) → alternatives (drill_project lines) (0, source_name i) ≡ []
unfolding alternatives
no_alternatives i lines = source_not_found i lines

-- no `default-build` is given
pub no_defaults : (i : ℕ) (lines : List ℕ) → i < length lines → length lines ≤ 2000 → default_build (drill_project lines) (0, target_name i) ≡ []
unfolding default_build lineage
no_defaults i lines less few = ap (λ (list : List Target). first_list (map (λ (t : Target). t.defaults) list ++ [] ∷ [])) (alternatives_are i lines less few)

-- ---- paths

firsts : (text : List ℕ) → AllByRecursion IsNoSlash text → AllByRecursion (λ b. eqb b 47 ≡ false) text
firsts [] h = tt
firsts (b ∷ text) h = (h.0.first, firsts text h.1)

source_stays : (i : ℕ) → i < 2000 → normal_of (46 ∷ 47 ∷ source_name i) ≡ source_name i
source_stays i small =
    rw (slice_split_none (λ b. eqb b 47) (source_name i) (All-from_recursion (λ b. eqb b 47 ≡ false) (source_name i) (firsts (source_name i) (source_has_no_slash i (omega (arith, small)))))) refl

pub tail_is : (i : ℕ) → i < 2000 → named_tail here (target_name i) ≡ target_name i
tail_is i small =
    rw (slice_split_none (λ b. eqb b 47) (target_name i) (All-from_recursion (λ b. eqb b 47 ≡ false) (target_name i) (firsts (target_name i) (target_has_no_slash i (omega (arith, small)))))) refl

pub path_is : (i : ℕ) → i < 2000 → output_path [] (target_name i) ≡ output i
path_is i small =
    rw (slice_split_none (λ b. eqb b 47) (target_name i) (All-from_recursion (λ b. eqb b 47 ≡ false) (target_name i) (firsts (target_name i) (target_has_no_slash i (omega (arith, small)))))) refl

-- ---- what sources name

pub file_meaning : (i : ℕ) (lines : List ℕ) → i < 2000 → source_meaning (drill_project lines) 0 (source_name i) ≡ File (source_name i)
unfolding source_meaning target_or_file dir_of
file_meaning i lines small =
    ap (λ cut. option_map_or (reference_meaning (drill_project lines) here) cut (target_or_file (drill_project lines) 0 (source_name i))) (not_cut (source_name i) (source_has_no_slash i (omega (arith, small))))
    ∙ ap (λ (list : List Target). if not (length list == 0) then Targets ((0, source_name i) ∷ []) else File (path_from here (source_name i))) (no_alternatives i lines)
    ∙ ap File (source_stays i small)

pub target_meaning : (i : ℕ) (lines : List ℕ) → i < length lines → length lines ≤ 2000 → source_meaning (drill_project lines) 0 (target_name i) ≡ Targets ((0, target_name i) ∷ [])
unfolding source_meaning target_or_file dir_of
target_meaning i lines less few =
    ap (λ cut. option_map_or (reference_meaning (drill_project lines) here) cut (target_or_file (drill_project lines) 0 (target_name i))) (not_cut (target_name i) (target_has_no_slash i (omega (arith, less, few))))
    ∙ ap (λ (list : List Target). if not (length list == 0) then Targets ((0, target_name i) ∷ []) else File (path_from here (target_name i))) (alternatives_are i lines less few)
