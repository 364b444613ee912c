-- A generator that is not refused has an id of its own; and the name of a type that is found has no zero byte.
use Rattle.std.proofs.Common.{◌≡◌, ℕ, zero, suc, ◌<◌, ◌||◌, Bool, true, false, not, cond, List, [], ◌∷◌, ◌++◌, Option, Some, None, is_some, length, get_or, refl, sym, ◌∙◌, ap₂, subst, codes, arith, rules}
use Rattle.std.specs.List.{AllByRecursion, find, list_all}
use Rattle.std.specs.Borrow.{Bor}
use Rattle.std.specs.Option.{unwrap_or, option_map, option_copied}
use Rattle.std.specs.Str.{bytes_eq}
use Rattle.std.proofs.lemmas.Bool.{or_parts, false≢true}
use Rattle.std.proofs.lemmas.List.Quantifiers.{all_pairs_push}
use Rattle.b2_base.specs.Bytes.{HasNoZero}
use Rattle.b2_props.proofs.RepeatedPairsAddNothing.{text_sym}
use Rattle.b2_generators.specs.declared.generator.Generator.{Generator}
use Rattle.b2_generators.specs.Table.{FileType, Registered, generator_named, is_type, is_generator_refused, has_text, type_with, HaveDistinctIds}

-- ---- generators

none_at : (id : List ℕ) (gs : List Generator) → is_some (generator_named gs id) ≡ false → (k : ℕ) (d : Generator) → k < length gs → bytes_eq (get_or gs k d).id id ≡ false
none_at id [] e k d l = absurd (omega (arith, l))
none_at id (g ∷ gs) e zero d l = text_sym g.id id ∙ go (bytes_eq id g.id) e
  where
    go : (b : Bool) → is_some (cond b (Some g) (generator_named gs id)) ≡ false → b ≡ false
    go true f = absurd (false≢true (sym f))
    go false f = refl
none_at id (g ∷ gs) e (suc k) d l = none_at id gs (go (bytes_eq id g.id) e) k d (omega (arith, l))
  where
    go : (b : Bool) → is_some (cond b (Some g) (generator_named gs id)) ≡ false → is_some (generator_named gs id) ≡ false
    go true f = absurd (false≢true (sym f))
    go false f = f

-- a generator whose id is not there has another id than all others
pub distinct_push : (registered : Registered) (g : Generator) → is_generator_refused registered g ≡ false → HaveDistinctIds registered.generators → HaveDistinctIds (registered.generators ++ g ∷ [])
distinct_push registered g free distinct =
    let absent : is_some (generator_named registered.generators g.id) ≡ false =
    (or_parts (is_some (generator_named registered.generators g.id)) (not (list_all (is_type registered.types) g.sources))
    (or_parts (is_some (generator_named registered.generators g.id) || not (list_all (is_type registered.types) g.sources)) (not (list_all (is_type registered.types) g.targets)) free).0).0 in
    all_pairs_push (λ (a b : Generator). bytes_eq a.id b.id ≡ false) registered.generators g distinct (none_at g.id registered.generators absent)

-- ---- types

found_name : (p : FileType → Bool) (types : List FileType) → AllByRecursion (λ t. HasNoZero t.name) types → HasNoZero (unwrap_or (option_map (λ (t : FileType). t.name) (find p types)) (codes "FILE"))
found_name p [] all = search rules
found_name p (t ∷ types) all = go (p t) (found_name p types all.1)
  where
    go : (b : Bool) → HasNoZero (unwrap_or (option_map (λ (u : FileType). u.name) (find p types)) (codes "FILE")) → HasNoZero (unwrap_or (option_map (λ (u : FileType). u.name) (cond b (Some t) (find p types))) (codes "FILE"))
    go true more = all.0
    go false more = more

-- the name of a type that is found, or `FILE`, has no zero byte
unwrapped : (o : Option (Bor (List ℕ))) (b : Bor (List ℕ)) → (unwrap_or o b).now ≡ unwrap_or (option_copied o) b.now
unwrapped None b = refl
unwrapped (Some x) b = refl

pub no_zero_of : (o : Option (Bor (List ℕ))) (b : Bor (List ℕ)) (types : List FileType) (suffix : List ℕ) → option_copied o ≡ type_with types suffix → b.now ≡ codes "FILE" → AllByRecursion (λ t. HasNoZero t.name) types → HasNoZero (unwrap_or o b).now
no_zero_of o b types suffix e d all =
    subst HasNoZero (sym (unwrapped o b ∙ ap₂ (λ (x : Option (List ℕ)) (y : List ℕ). unwrap_or x y) e d)) (found_name (λ (t : FileType). has_text t.suffixes suffix) types all)
