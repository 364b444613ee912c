-- What the code lists of a project are its main targets that no `explicit` call names; and how filters and maps swap.
use Rattle.std.proofs.Common.{◌≡◌, ℕ, Bool, true, false, cond, not, List, [], ◌∷◌, Option, Some, None, map, eqb, refl, sym, ◌∙◌, ap, ap₂}
use Rattle.std.specs.List.{filter, list_any, slice_get}
use Rattle.std.specs.Option.{option_map_or}
use Rattle.std.specs.Str.{bytes_eq}
use Rattle.b2_declared.specs.declared.place.Place.{Place}
use Rattle.b2_declared.specs.declared.whole.Declared.{Declared}
use Rattle.b2_references.specs.Indexing.{named_in, targets_in}
use Rattle.b2_references.specs.Names.{Name, name_of, first_names}
use Rattle.b2_references.specs.References.{is_explicit, listed_targets}
use Rattle.b2_references.proofs.FiltersKeepFirstNames.{filter_both, first_names-filter}

-- a test of what is mapped
pub filter-map : {X Y : Type 0} (f : X → Y) (t : Y → Bool) (xs : List X) → filter t (map f xs) ≡ map f (filter (λ x. t (f x)) xs)
filter-map f t [] = refl
filter-map {X} f t (x ∷ xs) = go (t (f x)) (filter-map f t xs)
  where
    go : (b : Bool) → filter t (map f xs) ≡ map f (filter (λ y. t (f y)) xs) → cond b (f x ∷ filter t (map f xs)) (filter t (map f xs)) ≡ map f (cond b (x ∷ filter (λ y. t (f y)) xs) (filter (λ y. t (f y)) xs))
    go true e = ap (λ ys. f x ∷ ys) e
    go false e = e

-- two tests that answer alike
pub filter_alike : {X : Type 0} (s t : X → Bool) (xs : List X) → ((x : X) → s x ≡ t x) → filter s xs ≡ filter t xs
filter_alike s t [] same = refl
filter_alike s t (x ∷ xs) same = ap₂ (λ b ys. cond b (x ∷ ys) ys) (same x) (filter_alike s t xs same)

-- the main targets of a project that its `explicit` calls do not name
pub listed : (d : Declared) (project : ℕ) (own explicit : List (List ℕ)) (known : List ℕ → Bool)
    → explicit ≡ option_map_or (λ p. p.explicit) (slice_get d.places project) []
    → map (named_in project) own ≡ first_names (map name_of (targets_in project d.targets))
    → ((name : List ℕ) → known name ≡ list_any (bytes_eq name) explicit)
    → map (named_in project) (filter (λ name. not (known name)) own) ≡ listed_targets d project
unfolding listed_targets
listed d project own explicit known are names same =
    sym (filter-map (named_in project) others own ∙ ap (map (named_in project)) (filter_alike (λ name. not (is_explicit d project name)) (λ name. not (known name)) own (λ name. ap not (sym (same name ∙ alike name)))))
    ∙ ap (filter others) names ∙ sym (first_names-filter others (map name_of (targets_in project d.targets)))
    ∙ ap first_names (filter-map name_of others (targets_in project d.targets) ∙ ap (map name_of) (sym (filter_both (λ t. eqb t.project project) (λ t. not (is_explicit d project t.name)) d.targets)))
  where
    others : Name → Bool
    others name = not (is_explicit d project name.1)

    alike : (name : List ℕ) → list_any (bytes_eq name) explicit ≡ is_explicit d project name
    alike name = ap (list_any (bytes_eq name)) are ∙ go (slice_get d.places project)
      where
        go : (o : Option Place) → list_any (bytes_eq name) (option_map_or (λ p. p.explicit) o []) ≡ option_map_or (λ p. list_any (bytes_eq name) p.explicit) o false
        go None = refl
        go (Some p) = refl
