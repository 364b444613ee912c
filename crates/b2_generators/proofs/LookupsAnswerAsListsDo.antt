-- The maps of types and generators have what their lists have, also with one more; and which texts stand twice.
use Rattle.std.proofs.Common.{◌≡◌, ℕ, Bool, true, false, cond, ◌||◌, List, [], ◌∷◌, ◌++◌, map, length, is_some, position, Option, Some, None, refl, sym, ◌∙◌, ap, ap₂, string_bytes, ◌⊎◌, inl, inr}
use Rattle.std.specs.Prelude.{String}
use Rattle.std.specs.Global.{Global}
use Rattle.std.specs.Borrow.{Bor}
use Rattle.std.specs.Option.{option_map, option_copied, option_or}
use Rattle.std.specs.List.{find, list_any}
use Rattle.std.specs.Map.{lookup}
use Rattle.std.specs.Str.{bytes_eq}
use Rattle.std.proofs.lemmas.Bool.{or_cases, or_parts, or_left, or_right, both_ways}
use Rattle.std.proofs.lemmas.List.{map-append}
use Rattle.std.proofs.lemmas.List.Folds.{list_any-append}
use Rattle.b2_features.proofs.ListSearchesAgree.{option_map-cond, position-push, position-none}
use Rattle.b2_props.proofs.RepeatedPairsAddNothing.{text_is, text_sym}
use Rattle.b2_generators.specs.declared.generator.Generator.{Generator}
use Rattle.b2_generators.specs.Table.{FileType, has_text, has_repeat, type_named, type_with, generator_named}
use Rattle.b2_generators.specs.Index.{types_in, HasPlaces}

-- ---- types

-- the suffixes that the map has at a name are those of the type of this name
pub suffixes_at : (name : List ℕ) (es : List (String Global × List (List ℕ))) → lookup (λ k. bytes_eq name (string_bytes k)) es ≡ option_map (λ (t : FileType). t.suffixes) (type_named (types_in es) name)
suffixes_at name [] = refl
suffixes_at name (e ∷ es) =
    ap (cond (bytes_eq name (string_bytes e.0)) (Some e.1)) (suffixes_at name es)
    ∙ sym (option_map-cond (λ (t : FileType). t.suffixes) (bytes_eq name (string_bytes e.0)) (record { name = string_bytes e.0; suffixes = e.1 }) (type_named (types_in es) name))

-- there is a type where there are its suffixes
pub has_type : (r : Option (Bor (List (List ℕ)))) (o : Option FileType) → option_copied r ≡ option_map (λ (t : FileType). t.suffixes) o → is_some r ≡ is_some o
has_type None None e = refl
has_type None (Some t) e = cc
has_type (Some b) None e = cc
has_type (Some b) (Some t) e = refl

-- no suffixes are there where there is no type
pub no_suffixes : (name : List ℕ) (es : List (String Global × List (List ℕ))) → type_named (types_in es) name ≡ None → lookup (λ k. bytes_eq name (string_bytes k)) es ≡ None
no_suffixes name es none = suffixes_at name es ∙ ap (option_map (λ (t : FileType). t.suffixes)) none

pub types_push : (es : List (String Global × List (List ℕ))) (k : String Global) (suffixes : List (List ℕ)) → types_in (es ++ (k, suffixes) ∷ []) ≡ types_in es ++ record { name = string_bytes k; suffixes = suffixes } ∷ []
types_push es k suffixes = map-append (λ e. record { name = string_bytes e.0; suffixes = e.1 }) es ((k, suffixes) ∷ [])

-- a text among strings
pub among : (q : List ℕ) (keys : List (String Global)) → list_any (λ suffix. bytes_eq q (string_bytes suffix)) keys ≡ has_text (map string_bytes keys) q
among q [] = refl
among q (k ∷ keys) = ap (λ b. bytes_eq q (string_bytes k) || b) (among q keys)

-- a suffix among those that are not taken is not taken
pub untaken_at : (types : List FileType) (suffixes : List (List ℕ)) (q : List ℕ) → list_any (λ suffix. is_some (type_with types suffix)) suffixes ≡ false → has_text suffixes q ≡ true → is_some (type_with types q) ≡ false
untaken_at types [] q free here = let bad : false ≡ true = here in absurd (both_ways false refl bad)
untaken_at types (s ∷ suffixes) q free here = go (or_cases (bytes_eq q s) (has_text suffixes q) here) (λ later. untaken_at types suffixes q (or_parts (is_some (type_with types s)) (list_any (λ suffix. is_some (type_with types suffix)) suffixes) free).1 later)
  where
    go : (bytes_eq q s ≡ true) ⊎ (has_text suffixes q ≡ true) → (has_text suffixes q ≡ true → is_some (type_with types q) ≡ false) → is_some (type_with types q) ≡ false
    go (inl e) later = ap (λ (x : List ℕ). is_some (type_with types x)) (text_is q s e) ∙ (or_parts (is_some (type_with types s)) (list_any (λ suffix. is_some (type_with types suffix)) suffixes) free).0
    go (inr e) later = later e

nothing_found : {X Y : Type 0} (f : X → Y) (o : Option X) → is_some (option_map f o) ≡ false → o ≡ None
nothing_found f None e = refl
nothing_found f (Some x) e = cc

or_none : {X : Type 0} (o : Option X) → option_or o None ≡ o
or_none None = refl
or_none (Some x) = refl

-- a type whose suffixes are not taken keeps the places
pub places_push : (types : List FileType) (old new : List (List ℕ × ℕ)) (t : FileType) (place : ℕ) → HasPlaces types old → place ≡ length types
    → ((q : List ℕ) → has_text t.suffixes q ≡ true → is_some (type_with types q) ≡ false)
    → ((q : List ℕ) → lookup (bytes_eq q) new ≡ cond (has_text t.suffixes q) (Some place) (lookup (bytes_eq q) old))
    → HasPlaces (types ++ t ∷ []) new
places_push types old new t place indexed end untaken added = record {
  places = λ q. added q ∙ go q (has_text t.suffixes q) refl ∙ sym (position-push (λ (u : FileType). has_text u.suffixes q) types t);
}
  where
    go : (q : List ℕ) (b : Bool) → has_text t.suffixes q ≡ b → cond b (Some place) (lookup (bytes_eq q) old) ≡ option_or (position (λ (u : FileType). has_text u.suffixes q) types) (cond b (Some (length types)) None)
    go q true e =
        let none : find (λ (u : FileType). has_text u.suffixes q) types ≡ None = nothing_found (λ (u : FileType). u.name) (find (λ (u : FileType). has_text u.suffixes q) types) (untaken q e) in
        ap (λ n. Some n) end ∙ sym (ap (λ o. option_or o (Some (length types))) (position-none (λ (u : FileType). has_text u.suffixes q) types none))
    go q false e = indexed.places q ∙ sym (or_none (position (λ (u : FileType). has_text u.suffixes q) types))

-- ---- texts that stand twice

pub has_text-push : (xs : List (List ℕ)) (y q : List ℕ) → has_text (xs ++ y ∷ []) q ≡ (has_text xs q || bytes_eq q y)
has_text-push [] y q = go (bytes_eq q y)
  where
    go : (b : Bool) → (b || false) ≡ b
    go true = refl
    go false = refl
has_text-push (x ∷ xs) y q = ap (λ b. bytes_eq q x || b) (has_text-push xs y q) ∙ go (bytes_eq q x) (has_text xs q) (bytes_eq q y)
  where
    go : (a b c : Bool) → (a || (b || c)) ≡ ((a || b) || c)
    go true b c = refl
    go false b c = refl

pub copied_some : {X : Type 0} (r : Option (Bor X)) → is_some (option_copied r) ≡ is_some r
copied_some None = refl
copied_some (Some b) = refl

-- a value that was given, or was there
pub some_or : {X : Type 0} (b : Bool) (x : X) (o : Option X) → is_some (cond b (Some x) o) ≡ (is_some o || b)
some_or true x None = refl
some_or true x (Some y) = refl
some_or false x None = refl
some_or false x (Some y) = refl

-- one text more stands twice where it was there
pub has_repeat-push : (xs : List (List ℕ)) (y : List ℕ) → has_repeat (xs ++ y ∷ []) ≡ (has_repeat xs || has_text xs y)
has_repeat-push [] y = refl
has_repeat-push (x ∷ xs) y = ap₂ ◌||◌ (has_text-push xs y x) (has_repeat-push xs y) ∙ go (has_text xs x) (bytes_eq x y) (has_repeat xs) (has_text xs y) ∙ ap (λ b. (has_text xs x || has_repeat xs) || (b || has_text xs y)) (text_sym x y)
  where
    go : (a b c d : Bool) → ((a || b) || (c || d)) ≡ ((a || c) || (b || d))
    go true b c d = refl
    go false true true d = refl
    go false true false d = refl
    go false false true d = refl
    go false false false d = refl

-- what stands twice in the beginning of a list stands twice in it
pub has_repeat-more : (xs ys : List (List ℕ)) → has_repeat xs ≡ true → has_repeat (xs ++ ys) ≡ true
has_repeat-more [] ys e = let bad : false ≡ true = e in absurd (both_ways false refl bad)
has_repeat-more (x ∷ xs) ys e = go (or_cases (has_text xs x) (has_repeat xs) e) (λ later. has_repeat-more xs ys later)
  where
    go : (has_text xs x ≡ true) ⊎ (has_repeat xs ≡ true) → (has_repeat xs ≡ true → has_repeat (xs ++ ys) ≡ true) → (has_text (xs ++ ys) x || has_repeat (xs ++ ys)) ≡ true
    go (inl here) later = or_left (has_text (xs ++ ys) x) (has_repeat (xs ++ ys)) (list_any-append (bytes_eq x) xs ys ∙ or_left (has_text xs x) (has_text ys x) here)
    go (inr f) later = or_right (has_text (xs ++ ys) x) (has_repeat (xs ++ ys)) (later f)

-- ---- generators

abbrev pub generator_keys : List (String Global × Generator) → List (List ℕ)
generator_keys es = map (λ e. string_bytes e.0) es

abbrev pub generator_ids : List (String Global × Generator) → List (List ℕ)
generator_ids es = map (λ e. e.1.id) es

-- the generator that the map has at an id is the one of this id
pub generator_at : (id : List ℕ) (es : List (String Global × Generator)) → generator_keys es ≡ generator_ids es → lookup (λ k. bytes_eq id (string_bytes k)) es ≡ generator_named (map (λ e. e.1) es) id
generator_at id [] keys = refl
generator_at id (e ∷ es) keys =
    let same : string_bytes e.0 ≡ e.1.id = cc in
    let more : generator_keys es ≡ generator_ids es = cc in
    ap (λ bytes. cond (bytes_eq id bytes) (Some e.1) (lookup (λ k. bytes_eq id (string_bytes k)) es)) same ∙ ap (cond (bytes_eq id e.1.id) (Some e.1)) (generator_at id es more)

pub keys_push : (es : List (String Global × Generator)) (k : String Global) (g : Generator) → generator_keys es ≡ generator_ids es → string_bytes k ≡ g.id → generator_keys (es ++ (k, g) ∷ []) ≡ generator_ids (es ++ (k, g) ∷ [])
keys_push es k g keys same =
    map-append (λ e. string_bytes e.0) es ((k, g) ∷ []) ∙ ap₂ (λ xs x. xs ++ x ∷ []) keys same ∙ sym (map-append (λ e. e.1.id) es ((k, g) ∷ []))

pub generators_push : (es : List (String Global × Generator)) (k : String Global) (g : Generator) → map (λ e. e.1) (es ++ (k, g) ∷ []) ≡ map (λ e. e.1) es ++ g ∷ []
generators_push es k g = map-append (λ e. e.1) es ((k, g) ∷ [])
