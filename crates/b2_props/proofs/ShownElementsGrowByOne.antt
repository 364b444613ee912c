-- The elements that a set shows, as one more pair is looked at, and the text of pieces with slashes between them.
use Rattle.std.proofs.Common.{◌≡◌, ℕ, ◌+◌, ◌<◌, ◌≤◌, Bool, true, false, cond, List, [], ◌∷◌, ◌++◌, Option, map, take, get_or, length, refl, sym, ◌∙◌, ap, arith, append_assoc}
use Rattle.std.specs.List.{filter, join_with_byte}
use Rattle.std.specs.Option.{option_or}
use Rattle.std.proofs.lemmas.List.{map-append, length-take}
use Rattle.std.proofs.lemmas.List.Elements.{filter-append, All-push, All-append}
use Rattle.b2_base.specs.Bytes.{HasNoZero}
use Rattle.b2_features.specs.declared.attribute.Attribute.TheVariants.{Free}
use Rattle.b2_features.specs.Table.{DeclaredFeature, default_of}
use Rattle.b2_features.specs.Faults.{is_with}
use Rattle.b2_props.specs.Sets.{Pair, value_of}
use Rattle.b2_props.specs.Refinement.{components}
use Rattle.b2_props.specs.Elements.{shows_beside, shows, element}
use Rattle.b2_props.proofs.DraftHoldsEachGainedPair.{next_take}

-- what the composites give need be known of features alone that are not free
pub shows_given : (table : List DeclaredFeature) (set : List Pair) (x : Pair) (o : Option (List ℕ)) → (is_with Free table x.0 ≡ false → o ≡ value_of (components table set) x.0) → shows_beside table (option_or o (default_of table x.0)) x ≡ shows table set x
shows_given table set x o agree = go (is_with Free table x.0) refl
  where
    hidden : (u : Option (List ℕ)) → is_with Free table x.0 ≡ true → shows_beside table u x ≡ false
    hidden u e = rw e refl

    go : (b : Bool) → is_with Free table x.0 ≡ b → shows_beside table (option_or o (default_of table x.0)) x ≡ shows table set x
    go true e = hidden (option_or o (default_of table x.0)) e ∙ sym (hidden (option_or (value_of (components table set) x.0) (default_of table x.0)) e)
    go false e = ap (λ u. shows_beside table (option_or u (default_of table x.0)) x) (agree e)

-- one more pair
pub elements_next : (table : List DeclaredFeature) (set : List Pair) (i : ℕ) (x : Pair) (b : Bool) → i < length set → x ≡ get_or set i x → shows table set x ≡ b
    → map (element table) (filter (shows table set) (take (i + 1) set)) ≡ map (element table) (filter (shows table set) (take i set)) ++ cond b (element table x ∷ []) []
elements_next table set i x b within is e =
    ap (λ ps. map (element table) (filter (shows table set) ps)) (next_take set i x within is)
    ∙ ap (map (element table)) (filter-append (shows table set) (take i set) (x ∷ []))
    ∙ map-append (element table) (filter (shows table set) (take i set)) (filter (shows table set) (x ∷ []))
    ∙ ap (λ ps. map (element table) (filter (shows table set) (take i set)) ++ ps) (one b e)
  where
    one : (b : Bool) → shows table set x ≡ b → map (element table) (filter (shows table set) (x ∷ [])) ≡ cond b (element table x ∷ []) []
    one true e = ap (λ c. map (element table) (cond {A = List Pair} c (x ∷ []) [])) e
    one false e = ap (λ c. map (element table) (cond {A = List Pair} c (x ∷ []) [])) e

-- ---- pieces with slashes between them

join-push : (x : List ℕ) (xs : List (List ℕ)) (y : List ℕ) → join_with_byte 47 (x ∷ xs ++ y ∷ []) ≡ join_with_byte 47 (x ∷ xs) ++ 47 ∷ y
join-push x [] y = refl
join-push x (z ∷ xs) y = ap (λ rest. x ++ 47 ∷ rest) (join-push z xs y) ∙ sym (append_assoc x (47 ∷ join_with_byte 47 (z ∷ xs)) (47 ∷ y))

pub join_more : (pieces : List (List ℕ)) (i : ℕ) (x text : List ℕ) → i < length pieces → 0 < i → x ≡ get_or pieces i x → text ≡ join_with_byte 47 (take i pieces) → (text ++ 47 ∷ []) ++ x ≡ join_with_byte 47 (take (i + 1) pieces)
join_more pieces i x text within later is so_far =
    ap (λ t. (t ++ 47 ∷ []) ++ x) so_far ∙ append_assoc (join_with_byte 47 (take i pieces)) (47 ∷ []) x
    ∙ sym (ap (join_with_byte 47) (next_take pieces i x within is) ∙ push (take i pieces) (rw length-take (omega arith)))
  where
    push : (xs : List (List ℕ)) → 0 < length xs → join_with_byte 47 (xs ++ x ∷ []) ≡ join_with_byte 47 xs ++ 47 ∷ x
    push [] some = absurd (omega (arith, some))
    push (y ∷ xs) some = join-push y xs x

pub join_first : (pieces : List (List ℕ)) (i : ℕ) (x text : List ℕ) → i < length pieces → i ≤ 0 → x ≡ get_or pieces i x → text ≡ join_with_byte 47 (take i pieces) → text ++ x ≡ join_with_byte 47 (take (i + 1) pieces)
join_first pieces i x text within none is so_far =
    let at : i ≡ 0 = omega (arith, none) in
    let taken : take i pieces ≡ [] = ap (λ n. take n pieces) at in
    ap (λ t. t ++ x) (so_far ∙ ap (join_with_byte 47) taken) ∙ sym (ap (join_with_byte 47) (next_take pieces i x within is ∙ ap (λ ps. ps ++ x ∷ []) taken))

pub no_zero_joined : (text x : List ℕ) → HasNoZero text → HasNoZero x → HasNoZero ((text ++ 47 ∷ []) ++ x)
no_zero_joined text x t h = All-append (λ byte. 0 < byte) (text ++ 47 ∷ []) x (All-push (λ byte. 0 < byte) text 47 t (omega arith)) h
