-- The first of some places at which an act is like another one, and acts that join in a loop.
use Rattle.std.proofs.Common.{◌≡◌, ℕ, zero, suc, ◌+◌, ◌<◌, ◌≤◌, Bool, true, false, cond, not, ◌&&◌, List, [], ◌∷◌, ◌++◌, length, get_or, take, drop, All, Option, Some, None, Result, Ok, Err, OnOk, refl, sym, ap, ap₂, ◌∙◌, subst, arith}
use Rattle.std.specs.Prelude.{slice_get, unwrap_or}
use Rattle.std.specs.FinMap.{get}
use Rattle.std.specs.List.{find, slice_set, AllByRecursion}
use Rattle.std.specs.Option.{option_map_or}
use Rattle.std.specs.Str.{bytes_eq}
use Rattle.std.proofs.lemmas.Bool.{true≢false}
use Rattle.std.proofs.lemmas.List.{at_drop_more, at_drop_all}
use Rattle.std.proofs.lemmas.List.Elements.{All-from_recursion}
use Rattle.std.proofs.lemmas.Option.{same_Some, slice_get_within, slice_get-get_or, get_or_from_slice_get}
use Rattle.std.proofs.lemmas.Slice.Eq.{bytes_eq-Decides}
use Rattle.jam_journal.specs.Tables.{Text}
use Rattle.jam_journal.specs.Scopes.{Value}
use Rattle.jam_scope.specs.Worlds.{World}
use Rattle.jam_graph.specs.declared.graph.Act.{Act}
use Rattle.jam_graph.proofs.ListsGrow.{taken}
use Rattle.jam_engine.specs.declared.joining.Joined.{Joined}
use Rattle.jam_engine.specs.Acts.{is_together_in, are_alike, same_texts}
use Rattle.jam_engine.specs.Joining.{begins, begins_with, together_at, is_alike_at, IsFirstAlike, AreJoined}
use Rattle.jam_engine.specs.Tables.{HasOneMore}
use Rattle.jam_engine.proofs.ActsJoin.{texts_differ, joins_found, joins_none}
use Rattle.jam_engine.proofs.LabelsGrow.{none_some, all_map}

-- ---- elements at their places

pub at_get : {X : Type 0} (xs : List X) (k : ℕ) (x : X) → k < length xs → x ≡ get_or xs k x → slice_get xs k ≡ Some x
at_get {X = X} [] k x low is = absurd (omega (arith, low))
at_get {X = X} (y ∷ ys) zero x low is = ap (λ (z : X). let o : Option X = Some z in o) (sym is)
at_get {X = X} (y ∷ ys) (suc k) x low is = at_get ys k x (omega (arith, low)) is

-- what is read at a place does not hang on what would be read past the end
pub same_get : (xs : List ℕ) (k d : ℕ) → k < length xs → get_or xs k d ≡ get_or xs k (get_or xs k d)
same_get xs k d low = sym (get_or_from_slice_get xs k (get_or xs k d) (get_or xs k d) (slice_get-get_or xs k d low))

-- ---- lists that differ at a place

pub not_true : (b c : Bool) → c ≡ not b → c ≡ true → b ≡ false
not_true true c e f = absurd (true≢false (sym f ∙ e))
not_true false c e f = refl

pub not_false : (b c : Bool) → c ≡ not b → c ≡ false → b ≡ true
not_false true c e f = refl
not_false false c e f = absurd (true≢false (sym e ∙ f))

pub differ_at : (xs ys : Value) (i : ℕ) (x y : Text) → i < length xs → i < length ys → x ≡ get_or xs i x → y ≡ get_or ys i y → bytes_eq x y ≡ false → same_texts xs ys ≡ false
differ_at xs ys i x y low low₁ is is₁ other = texts_differ xs ys (λ e. absurd (true≢false (sym (same e) ∙ other)))
  where
    same : xs ≡ ys → bytes_eq x y ≡ true
    same e = (bytes_eq-Decides x y).1 (same_Some x y (sym (at_get xs i x low is) ∙ ap (λ (l : Value). slice_get l i) e ∙ at_get ys i y low₁ is₁))

-- ---- places within a list

together_all : (w : World) (k : ℕ) (xs : List Act) (target : Text) → AllByRecursion (λ p. p < k + length xs) (together_at w k xs target)
together_all w k [] target = tt
together_all w k (x ∷ xs) target = go (is_together_in w x && begins_with target x) (together_all w (k + 1) xs target)
  where
    next : (p : ℕ) → p < (k + 1) + length xs → p < k + suc (length xs)
    next p low = omega (arith, low)

    go : (b : Bool) → AllByRecursion (λ p. p < (k + 1) + length xs) (together_at w (k + 1) xs target)
        → AllByRecursion (λ p. p < k + suc (length xs)) (cond b (k ∷ together_at w (k + 1) xs target) (together_at w (k + 1) xs target))
    go true h = (omega arith, all_map (λ p. p < (k + 1) + length xs) (λ p. p < k + suc (length xs)) (together_at w (k + 1) xs target) next h)
    go false h = all_map (λ p. p < (k + 1) + length xs) (λ p. p < k + suc (length xs)) (together_at w (k + 1) xs target) next h

-- the places by which an act is looked for are places of the acts
pub together_within : (w : World) (found xs : List Act) (target : Text) (places : List ℕ) → found ≡ xs → places ≡ together_at w 0 xs target → All (λ p. p < length found) places
together_within w found xs target places found_is places_are =
    subst (λ (l : List ℕ). All (λ p. p < length found) l) (sym places_are)
    (subst (λ (l : List Act). All (λ p. p < length l) (together_at w 0 xs target)) (sym found_is)
    (All-from_recursion (λ p. p < length xs) (together_at w 0 xs target)
    (all_map (λ p. p < 0 + length xs) (λ p. p < length xs) (together_at w 0 xs target) (λ p low. omega (arith, low)) (together_all w 0 xs target))))

-- ---- the first that is alike

module _ (acts : List Act) (places : List ℕ) (a one : Act) (i p : ℕ) (low : i < length places) (is : p ≡ get_or places i p) (within : p < length acts) (one_is : one ≡ get_or acts p one)
    (h : IsFirstAlike acts (drop i places) a (find (is_alike_at acts a) places)) where
  abbrev test : ℕ → Bool
  test = is_alike_at acts a

  alike_there : test p ≡ are_alike one a
  alike_there =
      ap (λ o. option_map_or (λ x. are_alike x a) o false) (slice_get-get_or acts p one within)
      ∙ ap (λ (x : Act). are_alike x a) (sym one_is)

  from_here : find test places ≡ cond (test p) (Some p) (find test (drop (i + 1) places))
  from_here = h ∙ at_drop_more (find test) places i p low ∙ ap (λ (n : ℕ). cond (test n) (let o : Option ℕ = Some n in o) (find test (drop (i + 1) places))) (sym is)

  pub alike_here : are_alike one a ≡ true → IsFirstAlike acts places a (Some p)
  alike_here e = sym (from_here ∙ ap (λ b. cond b (let o : Option ℕ = Some p in o) (find test (drop (i + 1) places))) (alike_there ∙ e))

  pub alike_later : are_alike one a ≡ false → IsFirstAlike acts (drop (i + 1) places) a (find (is_alike_at acts a) places)
  alike_later e = from_here ∙ ap (λ b. cond b (let o : Option ℕ = Some p in o) (find test (drop (i + 1) places))) (alike_there ∙ e)

pub none_alike : (acts : List Act) (places : List ℕ) (a : Act) (i : ℕ) → length places ≤ i → IsFirstAlike acts (drop i places) a (find (is_alike_at acts a) places) → IsFirstAlike acts places a None
none_alike acts places a i past h = sym (h ∙ at_drop_all (find (is_alike_at acts a)) places i past)

-- ---- an act was found

found_true : (test : ℕ → Bool) (xs : List ℕ) (x : ℕ) → find test xs ≡ Some x → test x ≡ true
found_true test [] x e = absurd (none_some x e)
found_true test (y ∷ ys) x e = go (test y) refl e (λ f. found_true test ys x f)
  where
    go : (b : Bool) → test y ≡ b → cond b (Some y) (find test ys) ≡ Some x → (find test ys ≡ Some x → test x ≡ true) → test x ≡ true
    go true f e rest = subst (λ z. test z ≡ true) (same_Some y x e) f
    go false f e rest = rest e

-- it stands at its place
pub found_act : (acts : List Act) (places : List ℕ) (a : Act) (place : ℕ) → IsFirstAlike acts places a (Some place) → (x : Act) × (slice_get acts place ≡ Some x)
found_act acts places a place finds = go (slice_get acts place) refl (found_true (is_alike_at acts a) places place (sym finds))
  where
    go : (o : Option Act) → slice_get acts place ≡ o → option_map_or (λ one. are_alike one a) (slice_get acts place) false ≡ true → (x : Act) × (slice_get acts place ≡ Some x)
    go (Some x) e alike = (x, e)
    go None e alike = absurd (true≢false (sym alike ∙ ap (λ o. option_map_or (λ one. are_alike one a) o false) e))

pub found_within : (acts : List Act) (places : List ℕ) (a : Act) (place : ℕ) → IsFirstAlike acts places a (Some place) → place < length acts
found_within acts places a place finds = let (x, at) = found_act acts places a place finds in slice_get_within acts place x at

-- ---- acts with targets

pub begins_so : (target : Text) (targets : Value) → begins target targets ≡ true → (more : Value) × (targets ≡ target ∷ more)
begins_so target [] e = absurd (true≢false (sym e))
begins_so target (first ∷ more) e = (more, ap (λ (t : Text). t ∷ more) ((bytes_eq-Decides first target).0 e))

pub begins_at : (first target : Text) (targets more : Value) → targets ≡ first ∷ more → target ≡ first → begins target targets ≡ true
begins_at first target targets more is same = ap₂ (λ (t : Text) (l : Value). begins t l) same is ∙ (bytes_eq-Decides first first).1 refl

-- what holds of each element holds of the one at a place
pub at_place : {X : Type 0} (P : X → Type 0) (xs : List X) (i : ℕ) (x : X) → AllByRecursion P xs → i < length xs → x ≡ get_or xs i x → P x
at_place P [] i x h low is = absurd (omega (arith, low))
at_place P (y ∷ ys) zero x h low is = subst P (sym is) h.0
at_place P (y ∷ ys) (suc i) x h low is = at_place P ys i x h.1 (omega (arith, low)) is

-- an act joins one that was found
pub found_joins : {T E : Type 0} (r : Result T E) (w : World) (a : Act) (target : Text) (acts : List Act) (places : List ℕ) (place : ℕ) (x : Act) (made sources : Value) (before : List Act) (old new : Joined)
    → OnOk r (made ≡ x.sources ++ sources) → sources ≡ a.sources → begins_with target a ≡ true → IsFirstAlike acts places a (Some place) → acts ≡ old.acts.items → places ≡ unwrap_or (get old.places target) []
    → slice_get old.acts.items place ≡ Some x → new.acts.items ≡ slice_set old.acts.items place (record x { sources = made }) → new.places ≡ old.places → AreJoined w before old → OnOk r (AreJoined w (before ++ a ∷ []) new)
found_joins (Err e) w a target acts places place x made sources before old new pushes are starts finds acts_are places_are at sets same h = tt
found_joins (Ok t) w a target acts places place x made sources before old new pushes are starts finds acts_are places_are at sets same h =
    let (more, is) = begins_so target a.targets starts in
    joins_found w a target more place x made before old new is (finds ∙ ap₂ (λ (l : List Act) (ps : List ℕ). find (is_alike_at l a) ps) acts_are (places_are ∙ h.places target)) at (pushes ∙ ap (λ (l : Value). x.sources ++ l) are) sets
    same h

-- none was found
pub none_joins : {T E : Type 0} (r : Result T E) (w : World) (a : Act) (target : Text) (acts : List Act) (places : List ℕ) (before : List Act) (old new : Joined) → OnOk r (new.acts.items ≡ old.acts.items ++ a ∷ [])
    → OnOk r (HasOneMore target (length old.acts.items) old.places new.places) → begins_with target a ≡ true → is_together_in w a ≡ true → IsFirstAlike acts places a None → acts ≡ old.acts.items
    → places ≡ unwrap_or (get old.places target) [] → AreJoined w before old → OnOk r (AreJoined w (before ++ a ∷ []) new)
none_joins (Err e) w a target acts places before old new pushes more_places starts together finds acts_are places_are h = tt
none_joins (Ok t) w a target acts places before old new pushes more_places starts together finds acts_are places_are h =
    let (more, is) = begins_so target a.targets starts in
    joins_none w a target more before old new is together (finds ∙ ap₂ (λ (l : List Act) (ps : List ℕ). find (is_alike_at l a) ps) acts_are (places_are ∙ h.places target)) pushes more_places h

pub no_targets : (targets found : Value) → found ≡ targets → length found ≡ 0 → targets ≡ []
no_targets targets [] is none = sym is
no_targets targets (x ∷ xs) is none = absurd (omega (arith, none))

-- one act more was joined
pub joined_step : (w : World) (acts : List Act) (i : ℕ) (act : Act) (joined : Joined) → i < length acts → act ≡ get_or acts i act → AreJoined w (take i acts ++ act ∷ []) joined → AreJoined w (take (i + 1) acts) joined
joined_step w acts i act joined low is h = subst (λ (l : List Act). AreJoined w l joined) (taken acts i act low is) h
