-- Ways join the first factor with their key, else they stand last; and the map of keys tells where each factor stands.
use Rattle.std.proofs.Common.{◌≡◌, ℕ, zero, suc, ◌<◌, Bool, true, false, cond, List, [], ◌∷◌, ◌++◌, Option, Some, None, map, get_or, length, refl, sym, ◌∙◌, ap, ap₂, arith}
use Rattle.std.proofs.Math.ListN.{set}
use Rattle.std.specs.FinMap.{get, insert}
use Rattle.std.specs.Option.{option_map, option_or}
use Rattle.std.specs.Str.{bytes_eq}
use Rattle.b2_features.proofs.NewValuesKeepAllApart.{get_put}
use Rattle.b2_props.specs.declared.word_choice.WordChoice.{WordChoice}
use Rattle.b2_props.specs.declared.word_choice.Factor.{Factor}
use Rattle.b2_props.specs.declared.ways.WayList.{WayList}
use Rattle.b2_props.specs.Requests.{Ways, is_key, joined}
use Rattle.b2_props.specs.Ways.{ways_of, ways_in, place_of, longer_at, IsPlaced}
use Rattle.b2_props.proofs.RepeatedPairsAddNothing.{text_is, text_sym, option_or-none}

-- ---- places

-- ways without a key join none
pub no_key : (vs : List Ways) → place_of None vs ≡ None
no_key [] = refl
no_key (v ∷ more) = go v.key (no_key more)
  where
    go : (key : Option (List ℕ)) → place_of None more ≡ None → cond (is_key key None) (Some 0) (option_map (λ n. suc n) (place_of None more)) ≡ None
    go None e = ap (option_map (λ n. suc n)) e
    go (Some f) e = ap (option_map (λ n. suc n)) e

pub place_within : (key : Option (List ℕ)) (vs : List Ways) (i : ℕ) → place_of key vs ≡ Some i → i < length vs
place_within key [] i e = cc
place_within key (v ∷ more) i e = go (is_key v.key key) (place_of key more) refl e (place_within key more)
  where
    go : (b : Bool) (o : Option ℕ) → place_of key more ≡ o → cond b (Some 0) (option_map (λ n. suc n) o) ≡ Some i → ((n : ℕ) → place_of key more ≡ Some n → n < length more) → i < suc (length more)
    go true o p e' more' = let here : 0 ≡ i = cc in omega (arith, here)
    go false None p e' more' = cc
    go false (Some n) p e' more' = let here : suc n ≡ i = cc in omega (arith, here, more' n p)

-- with none of their key ways stand after all others
pub joined_new : (vs : List Ways) (w : Ways) → place_of w.key vs ≡ None → joined vs w ≡ vs ++ w ∷ []
joined_new [] w none = refl
joined_new (v ∷ more) w none = go (is_key v.key w.key) (place_of w.key more) refl none (joined_new more w)
  where
    go : (b : Bool) (o : Option ℕ) → place_of w.key more ≡ o → cond b (Some 0) (option_map (λ n. suc n) o) ≡ None → (place_of w.key more ≡ None → joined more w ≡ more ++ w ∷ [])
        → cond {A = List Ways} b (record v { choices = v.choices ++ w.choices } ∷ more) (v ∷ joined more w) ≡ v ∷ more ++ w ∷ []
    go true o e none' again = cc
    go false None e none' again = ap (λ us. v ∷ us) (again e)
    go false (Some n) e none' again = cc

-- else they join the first of their key
pub joined_at : (vs : List Ways) (w : Ways) (i : ℕ) → place_of w.key vs ≡ Some i → joined vs w ≡ longer_at i w.choices vs
joined_at [] w i at = cc
joined_at (v ∷ more) w i at = go (is_key v.key w.key) (place_of w.key more) refl at (joined_at more w)
  where
    go : (b : Bool) (o : Option ℕ) → place_of w.key more ≡ o → cond b (Some 0) (option_map (λ n. suc n) o) ≡ Some i → ((n : ℕ) → place_of w.key more ≡ Some n → joined more w ≡ longer_at n w.choices more)
        → cond {A = List Ways} b (record v { choices = v.choices ++ w.choices } ∷ more) (v ∷ joined more w) ≡ longer_at i w.choices (v ∷ more)
    go true o e at' again = let here : 0 ≡ i = cc in ap (λ n. longer_at n w.choices (v ∷ more)) here
    go false None e at' again = cc
    go false (Some n) e at' again = let here : suc n ≡ i = cc in ap (λ us. v ∷ us) (again n e) ∙ ap (λ m. longer_at m w.choices (v ∷ more)) here

-- ---- what keeps places

place_longer : (key : Option (List ℕ)) (i : ℕ) (more : List WordChoice) (vs : List Ways) → place_of key (longer_at i more vs) ≡ place_of key vs
place_longer key i more [] = refl
place_longer key zero more (v ∷ vs) = refl
place_longer key (suc i) more (v ∷ vs) = ap (λ o. cond (is_key v.key key) (Some 0) (option_map (λ n. suc n) o)) (place_longer key i more vs)

place_push : (key : Option (List ℕ)) (vs : List Ways) (w : Ways) → place_of key (vs ++ w ∷ []) ≡ option_or (place_of key vs) (cond (is_key w.key key) (Some (length vs)) None)
place_push key [] w = go (is_key w.key key)
  where
    go : (b : Bool) → cond b (Some 0) (option_map (λ n. suc n) None) ≡ cond b (Some 0) None
    go true = refl
    go false = refl
place_push key (v ∷ vs) w = ap (λ o. cond (is_key v.key key) (Some 0) (option_map (λ n. suc n) o)) (place_push key vs w) ∙ go (is_key v.key key) (is_key w.key key) (place_of key vs)
  where
    go : (first last : Bool) (o : Option ℕ) → cond first (Some 0) (option_map (λ n. suc n) (option_or o (cond last (Some (length vs)) None))) ≡ option_or (cond first (Some 0) (option_map (λ n. suc n) o)) (cond last (Some (suc (length vs))) None)
    go true last o = refl
    go false last (Some n) = refl
    go false true None = refl
    go false false None = refl

-- ---- the list of factors

-- one factor is longer
pub longer_set : (fs : List Factor) (i : ℕ) (f made : Factor) (more : List WordChoice) → i < length fs → f ≡ get_or fs i f → made.key ≡ f.key → made.choices.items ≡ f.choices.items ++ more → map ways_of (set fs i made) ≡ longer_at i more (map ways_of fs)
longer_set [] i f made more l is keys choices = absurd (omega (arith, l))
longer_set (z ∷ zs) zero f made more l is keys choices =
    ap₂ (λ (k : Option (List ℕ)) (cs : List WordChoice). let w : Ways = record { key = k; choices = cs } in w ∷ map ways_of zs) (keys ∙ ap (λ (g : Factor). g.key) is) (choices ∙ ap (λ (g : Factor). g.choices.items ++ more) is)
longer_set (z ∷ zs) (suc i) f made more l is keys choices = ap (λ ws. ways_of z ∷ ws) (longer_set zs i f made more (omega (arith, l)) is keys choices)

-- places stay where one factor is longer
pub placed_longer : (old : WayList) (i : ℕ) (more : List WordChoice) (news : List Ways) → news ≡ longer_at i more (ways_in old) → IsPlaced old → (q : List ℕ) → get old.places q ≡ place_of (Some q) news
placed_longer old i more news is placed q = placed.places q ∙ sym (ap (place_of (Some q)) is ∙ place_longer (Some q) i more (ways_in old))

-- one factor more, which has no key
pub placed_plain : (old : WayList) (news : List Ways) (w : Ways) → news ≡ ways_in old ++ w ∷ [] → w.key ≡ None → IsPlaced old → (q : List ℕ) → get old.places q ≡ place_of (Some q) news
placed_plain old news w is no_key placed q =
    placed.places q
    ∙ sym (ap (place_of (Some q)) is ∙ place_push (Some q) (ways_in old) w ∙ ap (λ k. option_or (place_of (Some q) (ways_in old)) (cond (is_key k (Some q)) (Some (length (ways_in old))) None)) no_key ∙ option_or-none (place_of (Some q) (ways_in old)))

-- one factor more, with a key that no other has
pub placed_keyed : (old : WayList) (news : List Ways) (w : Ways) (f : List ℕ) (n : ℕ) → news ≡ ways_in old ++ w ∷ [] → w.key ≡ Some f → n ≡ length (ways_in old) → place_of w.key (ways_in old) ≡ None → IsPlaced old → (q : List ℕ) → get (insert old.places f n) q ≡ place_of (Some q) news
placed_keyed old news w f n is key place absent placed q =
    get_put old.places f n q ∙ go (bytes_eq q f) refl (placed.places q)
    ∙ sym (ap (place_of (Some q)) is ∙ place_push (Some q) (ways_in old) w ∙ ap (λ k. option_or (place_of (Some q) (ways_in old)) (cond (is_key k (Some q)) (Some (length (ways_in old))) None)) key)
  where
    go : (b : Bool) → bytes_eq q f ≡ b → get old.places q ≡ place_of (Some q) (ways_in old) → cond b (Some n) (get old.places q) ≡ option_or (place_of (Some q) (ways_in old)) (cond (bytes_eq f q) (Some (length (ways_in old))) None)
    go true e there =
        let none : place_of (Some q) (ways_in old) ≡ None = ap (λ k. place_of k (ways_in old)) (ap Some (text_is q f e) ∙ sym key) ∙ absent in
        ap Some place ∙ sym (ap₂ (λ (o : Option ℕ) (b : Bool). option_or o (cond b (Some (length (ways_in old))) None)) none (text_sym f q ∙ e))
    go false e there = there ∙ sym (option_or-none (place_of (Some q) (ways_in old))) ∙ sym (ap (λ b. option_or (place_of (Some q) (ways_in old)) (cond b (Some (length (ways_in old))) None)) (text_sym f q ∙ e))
