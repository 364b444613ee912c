-- Looking at a project takes a turn at least, so the walk over `build-project` calls comes to the list defined.
use Rattle.std.proofs.Common.{◌≡◌, ℕ, zero, suc, ◌+◌, ◌<◌, ◌≤◌, Bool, true, false, cond, ◌||◌, List, [], ◌∷◌, ◌++◌, Option, Some, None, reverse, length, eqb, refl, sym, ◌∙◌, ap, ap₂, subst, arith, length-append}
use Rattle.std.specs.List.{filter_map, cons_option, flat_map, slice_get}
use Rattle.std.specs.Option.{option_map_or}
use Rattle.std.proofs.lemmas.List.{reverse-append, reverse-reverse, length-reverse}
use Rattle.std.proofs.lemmas.List.Folds.{list_any-append}
use Rattle.b2_base.specs.Numbers.{is_among}
use Rattle.b2_declared.specs.declared.place.Place.{Place}
use Rattle.b2_declared.specs.declared.whole.Declared.{Declared}
use Rattle.b2_references.specs.References.{builds_of, walked, place_at, projects_under}
use Rattle.b2_references.specs.Walking.{found_after, Steps, builds_left, turns_left}
use Rattle.b2_references.proofs.FiltersKeepFirstNames.{number_is, number_itself}

-- ---- builds that are left

found_push : (found : List ℕ) (q p : ℕ) → is_among (found ++ q ∷ []) p ≡ (is_among found p || eqb q p)
found_push found q p = list_any-append (λ x. eqb x p) found (q ∷ []) ∙ ap (λ b. is_among found p || b) (go (eqb q p))
  where
    go : (b : Bool) → (b || false) ≡ b
    go true = refl
    go false = refl

apart : (a b : ℕ) → a < b → eqb a b ≡ false
apart a b less = go (eqb a b) refl
  where
    go : (t : Bool) → eqb a b ≡ t → t ≡ false
    go false e = refl
    go true e = absurd (omega (arith, less, number_is a b e))

apart_after : (a b : ℕ) → a < b → eqb b a ≡ false
apart_after a b less = go (eqb b a) refl
  where
    go : (t : Bool) → eqb b a ≡ t → t ≡ false
    go false e = refl
    go true e = absurd (omega (arith, less, number_is b a e))

still : (found : List ℕ) (q p : ℕ) → eqb q p ≡ false → is_among (found ++ q ∷ []) p ≡ is_among found p
still found q p e = found_push found q p ∙ ap (λ b. is_among found p || b) e ∙ go (is_among found p)
  where
    go : (b : Bool) → (b || false) ≡ b
    go true = refl
    go false = refl

now_found : (found : List ℕ) (p : ℕ) → is_among (found ++ p ∷ []) p ≡ true
now_found found p = found_push found p p ∙ ap (λ b. is_among found p || b) (number_itself p) ∙ go (is_among found p)
  where
    go : (b : Bool) → (b || true) ≡ true
    go true = refl
    go false = refl

left_none : (first : ℕ) (ps : List Place) → builds_left [] first ps ≡ length (flat_map (λ p. p.builds) ps)
left_none first [] = refl
left_none first (p ∷ ps) = ap (λ (n : ℕ). length p.builds + n) (left_none (suc first) ps) ∙ sym (length-append p.builds (flat_map (λ q. q.builds) ps))

-- a project before all of them changes nothing
left_before : (found : List ℕ) (q first : ℕ) (ps : List Place) → q < first → builds_left (found ++ q ∷ []) first ps ≡ builds_left found first ps
left_before found q first [] less = refl
left_before found q first (p ∷ ps) less = ap₂ (λ (b : Bool) (n : ℕ). cond b 0 (length p.builds) + n) (still found q first (apart q first less)) (left_before found q (suc first) ps (omega (arith, less)))

builds_at : List Place → ℕ → ℕ
builds_at ps k = option_map_or (λ p. length p.builds) (slice_get ps k) 0

-- those of a project that is found are no longer left
left_at : (found : List ℕ) (first k : ℕ) (ps : List Place) → is_among found (first + k) ≡ false → builds_at ps k + builds_left (found ++ (first + k) ∷ []) first ps ≡ builds_left found first ps
unfolding builds_at
left_at found first k [] new = refl
left_at found first zero (p ∷ ps) new =
    ap₂ (λ (b : Bool) (n : ℕ). length p.builds + (cond b 0 (length p.builds) + n)) (ap (λ q. is_among (found ++ q ∷ []) first) here ∙ now_found found first) (left_before found (first + 0) (suc first) ps before)
    ∙ shift (length p.builds) (builds_left found (suc first) ps) ∙ ap (λ b. cond b 0 (length p.builds) + builds_left found (suc first) ps) (sym new ∙ ap (is_among found) here)
  where
    here : first + 0 ≡ first
    here = omega arith

    before : first + 0 < suc first
    before = omega arith

    shift : (n m : ℕ) → n + (0 + m) ≡ n + m
    shift n m = omega arith
left_at found first (suc k) (p ∷ ps) new =
    let there : first + suc k ≡ suc first + k = omega arith in
    let more : builds_at ps k + builds_left (found ++ (suc first + k) ∷ []) (suc first) ps ≡ builds_left found (suc first) ps = left_at found (suc first) k ps (ap (is_among found) (sym there) ∙ new) in
    let head : is_among (found ++ (first + suc k) ∷ []) first ≡ is_among found first = still found (first + suc k) first (apart_after first (first + suc k) (omega arith)) in
    ap₂ (λ (b : Bool) (q : ℕ). builds_at ps k + (cond b 0 (length p.builds) + builds_left (found ++ q ∷ []) (suc first) ps)) head there
    ∙ go (cond (is_among found first) 0 (length p.builds)) (builds_left (found ++ (suc first + k) ∷ []) (suc first) ps) more
  where
    go : (n m : ℕ) → builds_at ps k + m ≡ builds_left found (suc first) ps → builds_at ps k + (n + m) ≡ n + builds_left found (suc first) ps
    go n m e = omega (arith, e)

left_of : (d : Declared) (found : List ℕ) (project : ℕ) → is_among found project ≡ false → builds_at d.places project + builds_left (found ++ project ∷ []) 0 d.places ≡ builds_left found 0 d.places
left_of d found project new = sym (ap (λ q. builds_at d.places project + builds_left (found ++ q ∷ []) 0 d.places) same) ∙ left_at found 0 project d.places (ap (is_among found) same ∙ new)
  where
    same : 0 + project ≡ project
    same = omega arith

-- no more projects are found than are named
fewer : {X Y : Type 0} (f : X → Option Y) (xs : List X) → length (filter_map f xs) ≤ length xs
fewer f [] = omega arith
fewer {Y = Y} f (x ∷ xs) = go (f x) (fewer f xs)
  where
    go : (o : Option Y) → length (filter_map f xs) ≤ length xs → length (cons_option o (filter_map f xs)) ≤ suc (length xs)
    go None more = omega (arith, more)
    go (Some y) more = omega (arith, more)

few_builds : (d : Declared) (project : ℕ) → length (builds_of d project) ≤ builds_at d.places project
unfolding builds_at
few_builds d project = go (slice_get d.places project)
  where
    go : (o : Option Place) → length (filter_map (place_at d) (option_map_or (λ p. p.builds) o [])) ≤ option_map_or (λ p. length p.builds) o 0
    go None = omega arith
    go (Some p) = fewer (place_at d) p.builds

-- ---- turns

-- looking at a project takes a turn at least
pub fewer_turns : (d : Declared) (project : ℕ) (found next found_then next_then : List ℕ) → Steps d project found next found_then next_then → turns_left d found_then next_then < turns_left d found (next ++ project ∷ [])
fewer_turns d project found next found_then next_then s = subst (λ xs. turns_left d xs next_then < turns_left d found (next ++ project ∷ [])) (sym s.found_is) (subst (λ ys. turns_left d (found_after project found) ys < turns_left d found (next ++ project ∷ [])) (sym s.next_is) (go (is_among found project) refl))
  where
    go : (b : Bool) → is_among found project ≡ b → turns_left d (cond b found (found ++ project ∷ [])) (cond b next (next ++ reverse (builds_of d project))) < turns_left d found (next ++ project ∷ [])
    go true e = omega (arith, length-append next (project ∷ []))
    go false e = omega (arith, length-append next (project ∷ []), length-append next (reverse (builds_of d project)), length-reverse (builds_of d project), few_builds d project, left_of d found project e)

-- a walk that is under way, and leads to a list in turns that are enough
pub record LeadsTo (d : Declared) (end found next : List ℕ) : Type 0 where
  pub turns : ℕ
  pub enough : turns_left d found next ≤ turns
  pub leads : walked d turns found (reverse next) ≡ end

pub walk_begins : (d : Declared) (project : ℕ) → LeadsTo d (walked d (suc (length (flat_map (λ p. p.builds) d.places))) [] (project ∷ [])) [] (project ∷ [])
walk_begins d project = record {
  turns = suc (length (flat_map (λ p. p.builds) d.places));
  enough = omega (arith, left_none 0 d.places);
  leads = refl;
}

pub walk_goes_on : (d : Declared) (end : List ℕ) (project : ℕ) (found next found_then next_then : List ℕ) → LeadsTo d end found (next ++ project ∷ []) → Steps d project found next found_then next_then → LeadsTo d end found_then next_then
walk_goes_on d end project found next found_then next_then w s = go w.turns w.enough w.leads
  where
    less : turns_left d found_then next_then < turns_left d found (next ++ project ∷ [])
    less = fewer_turns d project found next found_then next_then s

    back : reverse next_then ≡ cond (is_among found project) (reverse next) (builds_of d project ++ reverse next)
    back = ap reverse s.next_is ∙ each (is_among found project)
      where
        each : (b : Bool) → reverse (cond b next (next ++ reverse (builds_of d project))) ≡ cond b (reverse next) (builds_of d project ++ reverse next)
        each true = refl
        each false = reverse-append next (reverse (builds_of d project)) ∙ ap (λ xs. xs ++ reverse next) (reverse-reverse (builds_of d project))

    one : (t : ℕ) → walked d (suc t) found (project ∷ reverse next) ≡ walked d t found_then (reverse next_then)
    one t = each (is_among found project) ∙ ap₂ (λ (xs ys : List ℕ). walked d t xs ys) (sym s.found_is) (sym back)
      where
        each : (b : Bool) → cond b (walked d t found (reverse next)) (walked d t (found ++ project ∷ []) (builds_of d project ++ reverse next)) ≡ walked d t (cond b found (found ++ project ∷ [])) (cond b (reverse next) (builds_of d project ++ reverse next))
        each true = refl
        each false = refl

    go : (t : ℕ) → turns_left d found (next ++ project ∷ []) ≤ t → walked d t found (reverse (next ++ project ∷ [])) ≡ end → LeadsTo d end found_then next_then
    go zero enough leads = absurd (omega (arith, less, enough))
    go (suc t) enough leads = record {
      turns = t;
      enough = omega (arith, less, enough);
      leads = sym (ap (λ xs. walked d (suc t) found xs) (reverse-append next (project ∷ [])) ∙ one t) ∙ leads;
    }

pub walk_begins_at : (d : Declared) (project : ℕ) (found next : List ℕ) → found ≡ [] → next ≡ project ∷ [] → LeadsTo d (projects_under d project) found next
unfolding projects_under
walk_begins_at d project found next none one = subst (λ xs. LeadsTo d (projects_under d project) xs next) (sym none) (subst (λ xs. LeadsTo d (projects_under d project) [] xs) (sym one) (walk_begins d project))
