-- Names that are bound one after another.
use Rattle.std.proofs.Common.{◌≡◌, ◌≢◌, ℕ, zero, suc, List, [], ◌∷◌, ◌++◌, map, take, Result, Ok, Err, OnErr, refl, sym, ap, subst}
use Rattle.jam_journal.specs.Tables.{Text}
use Rattle.jam_journal.specs.Scopes.{Value, Binding, Frame, Scopes, with_binding, bind, bind_each}

abbrev is_nothing : List Frame → Type 0
is_nothing [] = Unit {0}
is_nothing (frame ∷ frames) = ⊥

pub still_framed : (b : Binding) (frames : List Frame) → frames ≢ [] → with_binding b frames ≢ []
still_framed b [] h e = h refl
still_framed b (frame ∷ frames) h e = absurd (subst is_nothing (sym e) tt)

-- a frame is there after a binding
pub framed_bind : (name : Text) (value : Value) (s : Scopes) → s.frames ≢ [] → (bind name value s).frames ≢ []
framed_bind name value s h = still_framed (name, value) s.frames h

-- what holds holds after an error
pub on_err : {A E : Type 0} {P : Type 0} (r : Result A E) → P → OnErr r P
on_err (Ok x) p = tt
on_err (Err e) p = p

-- the first elements, each changed
pub take_each : {A B : Type 0} (f : A → B) (n : ℕ) (xs : List A) → take n (map f xs) ≡ map f (take n xs)
take_each f zero xs = refl
take_each f (suc n) [] = refl
take_each f (suc n) (x ∷ xs) = ap (λ more. f x ∷ more) (take_each f n xs)

-- one more binding
pub bind_more : (bs : List Binding) (b : Binding) (s : Scopes) → bind_each (bs ++ b ∷ []) s ≡ bind b.0 b.1 (bind_each bs s)
bind_more [] b s = refl
bind_more (first ∷ bs) b s = bind_more bs b (bind first.0 first.1 s)
