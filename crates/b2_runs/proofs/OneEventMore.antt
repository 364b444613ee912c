use Rattle.std.proofs.Common.{◌≡◌, ℕ, ◌+◌, Bool, cond, List, [], ◌∷◌, ◌++◌, ◌⊎◌, inl, inr, arith, count_by}
use Rattle.std.specs.List.{Contains}
use Rattle.std.proofs.lemmas.List.Sums.{sum_by-append}
use Rattle.std.proofs.lemmas.List.Elements.{Contains-push_cases}
use Rattle.b2_host.specs.declared.children.ChildEvent.{ChildEvent}
use Rattle.b2_host.specs.declared.children.ChildEvent.TheVariants.{Start, Done}

-- what one event more holds of starts and ends
pub start_in_start : (events : List ChildEvent) (i k : ℕ) → Contains (events ++ Start i ∷ []) (Start k) → Contains events (Start k) ⊎ (i ≡ k)
start_in_start events i k c = elim (Contains-push_cases events (Start i) (Start k) c) [ inl d ↦ inl d | inr e ↦ inr (let f : Start i ≡ Start k = e in cc) ]

pub done_in_start : (events : List ChildEvent) (i k : ℕ) (well : Bool) → Contains (events ++ Start i ∷ []) (Done k well) → Contains events (Done k well)
done_in_start events i k well c = elim (Contains-push_cases events (Start i) (Done k well) c) [ inl d ↦ d | inr e ↦ absurd (let f : Start i ≡ Done k well = e in cc) ]

pub start_in_done : (events : List ChildEvent) (i k : ℕ) (well : Bool) → Contains (events ++ Done i well ∷ []) (Start k) → Contains events (Start k)
start_in_done events i k well c = elim (Contains-push_cases events (Done i well) (Start k) c) [ inl d ↦ d | inr e ↦ absurd (let f : Done i well ≡ Start k = e in cc) ]

pub done_in_done : (events : List ChildEvent) (i k : ℕ) (well w : Bool) → Contains (events ++ Done i well ∷ []) (Done k w) → Contains events (Done k w) ⊎ ((i ≡ k) × (well ≡ w))
done_in_done events i k well w c = elim (Contains-push_cases events (Done i well) (Done k w) c) [ inl d ↦ inl d | inr e ↦ inr (let f : Done i well ≡ Done k w = e in ((cc), (cc))) ]

pub count_one : (p : ChildEvent → Bool) (events : List ChildEvent) (e : ChildEvent) → count_by p (events ++ e ∷ []) ≡ count_by p events + cond (p e) 1 0
count_one p events e = let f = sum_by-append (λ x. cond (p x) 1 0) events (e ∷ []) in omega arith

pub count_first : (p : ChildEvent → Bool) (events : List ChildEvent) (e : ChildEvent) → count_by p (e ∷ events) ≡ cond (p e) 1 0 + count_by p events
count_first p events e = let f = sum_by-append (λ x. cond (p x) 1 0) (e ∷ []) events in omega arith
