-- Output roots in calls of `project`: the lists add up in order, and one directory that is no root refuses all.
use Rattle.std.proofs.Common.{◌≡◌, ℕ, ◌+◌, ◌<◌, true, false, cond, ◌||◌, List, [], ◌∷◌, ◌++◌, length, get_or, take, drop, filter, map, Some, None, sym, ap, ◌∙◌, append-nil}
use Rattle.std.specs.List.{flat_map, list_any}
use Rattle.std.proofs.lemmas.Bool.{cond-true, cond-false}
use Rattle.std.proofs.lemmas.List.Concat.{flat_map-append}
use Rattle.std.proofs.lemmas.List.Folds.{list_any_more, list_any_at}
use Rattle.jam_natives.specs.OutputDirs.{is_output_dirs, is_no_root}
use Rattle.b2_base.specs.Segments.{normal_of}
use Rattle.jam_natives.proofs.StrippingLeavesTheRest.{filter-append}

abbrev pub dirs_in : List (List (List ℕ)) → List (List ℕ)
dirs_in lists = flat_map (drop 1) (filter is_output_dirs lists)

pub dirs_in-append : (xs ys : List (List (List ℕ))) → dirs_in (xs ++ ys) ≡ dirs_in xs ++ dirs_in ys
dirs_in-append xs ys = ap (flat_map (drop 1)) (filter-append is_output_dirs xs ys) ∙ flat_map-append (drop 1) (filter is_output_dirs xs) (filter is_output_dirs ys)

pub no_dirs : (list now : List (List ℕ)) → is_output_dirs list ≡ false → now ≡ now ++ dirs_in (list ∷ [])
no_dirs list now h = sym (append-nil now) ∙ ap (λ (ls : List (List (List ℕ))). now ++ flat_map (drop 1) ls) (sym (cond-false (is_output_dirs list) (list ∷ []) [] h))

pub some_dirs : (list now next : List (List ℕ)) → is_output_dirs list ≡ true → next ≡ now ++ drop 1 list → next ≡ now ++ dirs_in (list ∷ [])
some_dirs list now next h e =
    e ∙ ap (λ l. now ++ l) (sym (append-nil (drop 1 list))) ∙ ap (λ (ls : List (List (List ℕ))). now ++ flat_map (drop 1) ls) (sym (cond-true (is_output_dirs list) (list ∷ []) [] h))

pub still_roots : (dirs : List (List ℕ)) (i : ℕ) (dir : List ℕ) → i < length dirs → dir ≡ get_or dirs i dir → list_any is_no_root (take i dirs) ≡ false → is_no_root dir ≡ false → list_any is_no_root (take (i + 1) dirs) ≡ false
still_roots dirs i dir low is so_far root =
    list_any_more is_no_root dirs i dir low ∙ ap (λ b. b || is_no_root (get_or dirs i dir)) so_far ∙ ap is_no_root (sym is) ∙ root

pub no_roots : (dirs : List (List ℕ)) (i : ℕ) (dir : List ℕ) → i < length dirs → dir ≡ get_or dirs i dir → is_no_root dir ≡ true → None ≡ cond (list_any is_no_root dirs) None (Some (map normal_of dirs))
no_roots dirs i dir low is bad = sym (cond-true (list_any is_no_root dirs) None (Some (map normal_of dirs)) (list_any_at is_no_root dirs i dir low (ap is_no_root (sym is) ∙ bad)))

pub all_roots : (dirs roots : List (List ℕ)) → list_any is_no_root dirs ≡ false → roots ≡ map normal_of dirs → Some roots ≡ cond (list_any is_no_root dirs) None (Some (map normal_of dirs))
all_roots dirs roots good is = ap Some is ∙ sym (cond-false (list_any is_no_root dirs) None (Some (map normal_of dirs)) good)
