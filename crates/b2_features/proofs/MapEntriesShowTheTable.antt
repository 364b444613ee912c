-- The map of features and its index give what the table has, also after a change of it: for the registry.
use Rattle.std.proofs.Common.{◌≡◌, ℕ, Bool, cond, ◌&&◌, List, [], ◌∷◌, ◌++◌, map, length, is_some, position, slice_get, Option, Some, None, refl, sym, ◌∙◌, ap, ap₂, string_bytes, true, false}
use Rattle.std.specs.Prelude.{String}
use Rattle.std.specs.Global.{Global}
use Rattle.std.specs.Option.{option_map, option_copied, option_or}
use Rattle.std.specs.List.{find, list_all, AllByRecursion, IsDistinct}
use Rattle.std.specs.String.{string_eq}
use Rattle.std.specs.Map.{lookup, set_value}
use Rattle.std.specs.Str.{bytes_eq}
use Rattle.std.proofs.lemmas.List.{map-append}
use Rattle.std.proofs.lemmas.List.Folds.{list_all-append}
use Rattle.b2_features.specs.declared.feature.Feature.{Feature}
use Rattle.std.specs.Borrow.{Bor}
use Rattle.b2_features.specs.Table.{DeclaredFeature, HasDistinctNames, seen, is_whole, is_named, feature_of, place_of, implicit_of, is_implicit_in, with_parts, composed}
use Rattle.b2_features.specs.Faults.{is_implicit}
use Rattle.b2_features.specs.Index.{IsIndexed}
use Rattle.b2_features.proofs.ListSearchesAgree.{option_map-cond, position-map, find-at_position, find-none, position-push, position-none, keys-set_value, values-set_value}
use Rattle.b2_features.proofs.TablesFindWhatWasAdded.{or_none}

-- the table that entries show
abbrev pub shown : List (String Global × Feature) → List DeclaredFeature
shown es = map (λ e. seen e.1) es

abbrev pub key_texts : List (String Global × Feature) → List (List ℕ)
key_texts es = map (λ e. string_bytes e.0) es

abbrev pub feature_names : List (String Global × Feature) → List (List ℕ)
feature_names es = map (λ e. e.1.name) es

-- the feature that the map has at a name is the one of this name in the table
pub feature_at : (name : List ℕ) (es : List (String Global × Feature)) → key_texts es ≡ feature_names es → option_map seen (lookup (λ k. bytes_eq name (string_bytes k)) es) ≡ feature_of (shown es) name
feature_at name [] keys = refl
feature_at name (e ∷ es) keys =
    let same : string_bytes e.0 ≡ e.1.name = cc in
    let more : key_texts es ≡ feature_names es = cc in
    option_map-cond seen (bytes_eq name (string_bytes e.0)) e.1 (lookup (λ k. bytes_eq name (string_bytes k)) es)
    ∙ ap (λ bytes. cond (bytes_eq name bytes) (Some (seen e.1)) (option_map seen (lookup (λ k. bytes_eq name (string_bytes k)) es))) same
    ∙ ap (cond (bytes_eq name e.1.name) (Some (seen e.1))) (feature_at name es more)

names_shown : (es : List (String Global × Feature)) → feature_names es ≡ map (λ f. f.name) (shown es)
names_shown [] = refl
names_shown (e ∷ es) = ap (λ names. e.1.name ∷ names) (names_shown es)

texts_of_keys : (es : List (String Global × Feature)) → map string_bytes (map (λ e. e.0) es) ≡ key_texts es
texts_of_keys [] = refl
texts_of_keys (e ∷ es) = ap (λ texts. string_bytes e.0 ∷ texts) (texts_of_keys es)

-- the place of a key is that of the name in the table
pub place_at : (name : List ℕ) (es : List (String Global × Feature)) → key_texts es ≡ feature_names es → position (λ k. bytes_eq name (string_bytes k)) (map (λ e. e.0) es) ≡ place_of (shown es) name
place_at name es keys =
    sym (position-map (bytes_eq name) string_bytes (map (λ e. e.0) es))
    ∙ ap (position (bytes_eq name)) (texts_of_keys es ∙ keys ∙ names_shown es)
    ∙ position-map (bytes_eq name) (λ f. f.name) (shown es)

pub seen_now : (r : Option (Bor Feature)) → option_map (λ f. seen f.now) r ≡ option_map seen (option_copied r)
seen_now None = refl
seen_now (Some f) = refl

abbrev name_in : Option DeclaredFeature → Option (List ℕ)
name_in o = option_map (λ f. f.name) o

-- the feature to which an implicit value leads
pub implicit_at : (value : List ℕ) (es : List (String Global × Feature)) (implicit : List (List ℕ × ℕ)) → IsIndexed es implicit → (i : ℕ) (f : DeclaredFeature) → lookup (bytes_eq value) implicit ≡ Some i → slice_get (shown es) i ≡ Some f → Some f.name ≡ implicit_of (shown es) value
implicit_at value es implicit indexed i f at read = sym (ap name_in (find-at_position (is_implicit_in value) (shown es) i (sym (indexed.places value) ∙ at) ∙ read))

-- a value that leads nowhere
pub implicit_nowhere : (value : List ℕ) (es : List (String Global × Feature)) (implicit : List (List ℕ × ℕ)) → IsIndexed es implicit → lookup (bytes_eq value) implicit ≡ None → None ≡ implicit_of (shown es) value
implicit_nowhere value es implicit indexed none = sym (ap name_in (find-none (is_implicit_in value) (shown es) (sym (indexed.places value) ∙ none)))

-- ---- a feature that takes the place of another

-- what a feature shows but for its components
abbrev pub bare : DeclaredFeature → DeclaredFeature
bare f = record f { parts = [] }

bare_shown : (es : List (String Global × Feature)) → map (λ e. bare (seen e.1)) es ≡ map bare (shown es)
bare_shown [] = refl
bare_shown (e ∷ es) = ap (λ fs. bare (seen e.1) ∷ fs) (bare_shown es)

same_places : (value : List ℕ) (es fs : List (String Global × Feature)) → map (λ e. bare (seen e.1)) es ≡ map (λ e. bare (seen e.1)) fs → position (is_implicit_in value) (shown es) ≡ position (is_implicit_in value) (shown fs)
same_places value es fs same =
    sym (position-map (is_implicit_in value) bare (shown es))
    ∙ ap (position (is_implicit_in value)) (sym (bare_shown es) ∙ same ∙ bare_shown fs)
    ∙ position-map (is_implicit_in value) bare (shown fs)

whole_bare : (fs : List DeclaredFeature) → list_all is_whole fs ≡ list_all is_whole (map bare fs)
whole_bare [] = refl
whole_bare (f ∷ fs) = ap (λ b. is_whole f && b) (whole_bare fs)

-- features that are the same but for their components are as whole
same_whole : (es fs : List (String Global × Feature)) → map (λ e. bare (seen e.1)) es ≡ map (λ e. bare (seen e.1)) fs → list_all is_whole (shown es) ≡ list_all is_whole (shown fs)
same_whole es fs same = whole_bare (shown es) ∙ ap (list_all is_whole) (sym (bare_shown es) ∙ same ∙ bare_shown fs) ∙ sym (whole_bare (shown fs))

-- one that differs in its components alone leaves the table indexed
pub stays_indexed : (test : String Global → Bool) (es : List (String Global × Feature)) (implicit : List (List ℕ × ℕ)) (f w : Feature) → lookup test es ≡ Some f → bare (seen w) ≡ bare (seen f) → IsIndexed es implicit → IsIndexed (set_value test es w) implicit
stays_indexed test es implicit f w found same indexed = record {
  keys = keys-set_value string_bytes test es w ∙ indexed.keys ∙ sym (values-set_value (λ f'. f'.name) test es f w found (ap (λ d. d.name) same));
  places = λ value. indexed.places value ∙ sym (same_places value (set_value test es w) es (values-set_value (λ f'. bare (seen f')) test es f w found same));
  whole = same_whole (set_value test es w) es (values-set_value (λ f'. bare (seen f')) test es f w found same) ∙ indexed.whole;
}

-- with more components it gives the composed table
pub shown_composed : (name value : List ℕ) (parts : List (List ℕ × List ℕ)) (es : List (String Global × Feature)) (f w : Feature) → key_texts es ≡ feature_names es → lookup (λ k. bytes_eq name (string_bytes k)) es ≡ Some f → seen w ≡ with_parts (seen f) value parts → shown (set_value (λ k. bytes_eq name (string_bytes k)) es w) ≡ composed (shown es) name value parts
shown_composed name value parts [] f w keys found more = refl
shown_composed name value parts (e ∷ es) f w keys found more =
    let same : string_bytes e.0 ≡ e.1.name = cc in
    let rest : key_texts es ≡ feature_names es = cc in
    go (bytes_eq name (string_bytes e.0)) found (shown_composed name value parts es f w rest) more
    ∙ ap (λ bytes. cond (bytes_eq name bytes) (with_parts (seen e.1) value parts ∷ shown es) (seen e.1 ∷ composed (shown es) name value parts)) same
  where
    go : (b : Bool) → cond b (Some e.1) (lookup (λ k. bytes_eq name (string_bytes k)) es) ≡ Some f
        → (lookup (λ k. bytes_eq name (string_bytes k)) es ≡ Some f → seen w ≡ with_parts (seen f) value parts → shown (set_value (λ k. bytes_eq name (string_bytes k)) es w) ≡ composed (shown es) name value parts)
        → seen w ≡ with_parts (seen f) value parts
        → shown (cond b ((e.0, w) ∷ es) (e ∷ set_value (λ k. bytes_eq name (string_bytes k)) es w)) ≡ cond b (with_parts (seen e.1) value parts ∷ shown es) (seen e.1 ∷ composed (shown es) name value parts)
    go true at again more' = let here : e.1 ≡ f = cc in ap (λ d. d ∷ shown es) (more' ∙ ap (λ f'. with_parts (seen f') value parts) (sym here))
    go false at again more' = ap (λ ds. seen e.1 ∷ ds) (again at more')

-- with none of this name nothing is composed
pub composed_none : (name value : List ℕ) (parts : List (List ℕ × List ℕ)) (es : List (String Global × Feature)) → key_texts es ≡ feature_names es → lookup (λ k. bytes_eq name (string_bytes k)) es ≡ None → shown es ≡ composed (shown es) name value parts
composed_none name value parts [] keys none = refl
composed_none name value parts (e ∷ es) keys none =
    let same : string_bytes e.0 ≡ e.1.name = cc in
    let rest : key_texts es ≡ feature_names es = cc in
    go (bytes_eq name (string_bytes e.0)) none (composed_none name value parts es rest)
    ∙ ap (λ bytes. cond (bytes_eq name bytes) (with_parts (seen e.1) value parts ∷ shown es) (seen e.1 ∷ composed (shown es) name value parts)) same
  where
    go : (b : Bool) → cond b (Some e.1) (lookup (λ k. bytes_eq name (string_bytes k)) es) ≡ None
        → (lookup (λ k. bytes_eq name (string_bytes k)) es ≡ None → shown es ≡ composed (shown es) name value parts)
        → seen e.1 ∷ shown es ≡ cond b (with_parts (seen e.1) value parts ∷ shown es) (seen e.1 ∷ composed (shown es) name value parts)
    go true at again = cc
    go false at again = ap (λ ds. seen e.1 ∷ ds) (again at)

-- ---- a feature more

pub shown_push : (es : List (String Global × Feature)) (k : String Global) (f : Feature) → shown (es ++ (k, f) ∷ []) ≡ shown es ++ seen f ∷ []
shown_push es k f = map-append (λ e. seen e.1) es ((k, f) ∷ [])

-- no feature is there under a name that the table does not have
pub absent_key : (name : List ℕ) (es : List (String Global × Feature)) → key_texts es ≡ feature_names es → feature_of (shown es) name ≡ None → lookup (λ k. bytes_eq name (string_bytes k)) es ≡ None
absent_key name es keys none = go (lookup (λ k. bytes_eq name (string_bytes k)) es) (feature_at name es keys ∙ none)
  where
    go : (o : Option Feature) → option_map seen o ≡ None → o ≡ None
    go None e = refl
    go (Some f) e = cc

nothing : (o : Option DeclaredFeature) → is_some (option_map (λ f. f.name) o) ≡ false → o ≡ None
nothing None e = refl
nothing (Some f) e = cc

-- a feature with a new name, whose implicit values are not taken, keeps the table indexed
pub indexed_push : (es : List (String Global × Feature)) (old new : List (List ℕ × ℕ)) (k : String Global) (f : Feature) (place : ℕ) → IsIndexed es old → string_bytes k ≡ f.name → place ≡ length (shown es)
    → ((q : List ℕ) → is_implicit_in q (seen f) ≡ true → is_implicit (shown es) q ≡ false)
    → ((q : List ℕ) → lookup (bytes_eq q) new ≡ cond (is_implicit_in q (seen f)) (Some place) (lookup (bytes_eq q) old))
    → is_whole (seen f) ≡ true
    → IsIndexed (es ++ (k, f) ∷ []) new
indexed_push es old new k f place indexed same end untaken added valued = record {
  keys = map-append (λ e. string_bytes e.0) es ((k, f) ∷ []) ∙ ap₂ (λ xs x. xs ++ x ∷ []) indexed.keys same ∙ sym (map-append (λ e. e.1.name) es ((k, f) ∷ []));
  places = λ q.
      added q ∙ go q (is_implicit_in q (seen f)) refl
      ∙ sym (position-push (is_implicit_in q) (shown es) (seen f)) ∙ sym (ap (position (is_implicit_in q)) (shown_push es k f));
  whole = ap (list_all is_whole) (shown_push es k f) ∙ list_all-append is_whole (shown es) (seen f ∷ []) ∙ ap₂ (λ (a b : Bool). a && (b && true)) indexed.whole valued;
}
  where
    go : (q : List ℕ) (b : Bool) → is_implicit_in q (seen f) ≡ b → cond b (Some place) (lookup (bytes_eq q) old) ≡ option_or (position (is_implicit_in q) (shown es)) (cond b (Some (length (shown es))) None)
    go q true e =
        let none : find (is_implicit_in q) (shown es) ≡ None = nothing (find (is_implicit_in q) (shown es)) (untaken q e) in
        ap (λ n. Some n) end ∙ sym (ap (λ o. option_or o (Some (length (shown es)))) (position-none (is_implicit_in q) (shown es) none))
    go q false e = indexed.places q ∙ sym (or_none (position (is_implicit_in q) (shown es)))

-- ---- names

others : (name : List ℕ) (k : String Global) (es : List (String Global × Feature)) → string_bytes k ≡ name → key_texts es ≡ feature_names es → AllByRecursion (λ k'. string_eq k k' ≡ false) (map (λ e. e.0) es) → AllByRecursion (λ other. is_named name other ≡ false) (shown es)
others name k [] same keys apart = tt
others name k (e ∷ es) same keys apart =
    let here : string_bytes e.0 ≡ e.1.name = cc in
    let more : key_texts es ≡ feature_names es = cc in
    (sym (ap₂ bytes_eq same here) ∙ apart.0, others name k es same more apart.1)

-- the keys of a map are apart, and so are the names
pub names_apart : (es : List (String Global × Feature)) → key_texts es ≡ feature_names es → IsDistinct string_eq (map (λ e. e.0) es) → HasDistinctNames (shown es)
unfolding IsDistinct
names_apart [] keys apart = tt
names_apart (e ∷ es) keys apart =
    let here : string_bytes e.0 ≡ e.1.name = cc in
    let more : key_texts es ≡ feature_names es = cc in
    (others e.1.name e.0 es here more apart.0, names_apart es more apart.1)
