-- Acts, which follow one another and join steps to those before.
use Rattle.std.specs.Prelude.{◌≡◌, ℕ, ◌<◌, true, false, List, [], ◌∷◌, ◌++◌, ◌⊎◌, Result, Ok, Err, length}
use Rattle.b2_plan.specs.declared.step.Step.{Step}
use Rattle.b2_virtual.specs.Joining.{stands_in, joined}
use Rattle.b2_virtual.specs.Clashes.{IsFirstClash, Fits}
use Rattle.b2_making.specs.Faults.{Fault, path_clash, too_many_steps, location_outside}

-- what comes, with the steps that are joined then, or the first refusal
abbrev pub Outcome : Type 0 → Type 0 → Type 0
Outcome E A = Result (A × List Step) (Fault E)

-- an act relates the steps before it to what comes of it
abbrev pub Act : Type 0 → Type 0 → Type 1
Act E A = List Step → Outcome E A → Type 0

abbrev pub gives : {E A : Type 0} → A → Act E A
gives value before outcome = outcome ≡ Ok (value, before)

abbrev pub refuses : {E A : Type 0} → Fault E → Act E A
refuses fault before outcome = outcome ≡ Err fault

-- what follows an outcome: a further act, unless it is a refusal
abbrev pub Follows : {E A B : Type 0} → (A → Act E B) → Outcome E A → Outcome E B → Type 0
Follows next (Ok (value, after)) outcome = next value after outcome
Follows next (Err fault) outcome = outcome ≡ Err fault

-- one act and then another
abbrev pub and_then : {E A B : Type 0} → Act E A → (A → Act E B) → Act E B
and_then {E} {A} act next before outcome = (first : Outcome E A) × act before first × Follows next first outcome

-- an act for each of some things, in order
abbrev pub for_each : {E X A : Type 0} → (X → Act E A) → List X → Act E (List A)
for_each act [] = gives []
for_each act (x ∷ more) = and_then (act x) (λ value. and_then (for_each act more) (λ values. gives (value ∷ values)))

-- an act for each of some things, in order, and all that they give as one list
abbrev pub for_all : {E X A : Type 0} → (X → Act E (List A)) → List X → Act E (List A)
for_all act [] = gives []
for_all act (x ∷ more) = and_then (act x) (λ values. and_then (for_all act more) (λ others. gives (values ++ others)))

-- a path, where this holds of it, else that it lies outside
abbrev pub InsideIf : {E : Type 0} → Type 0 → List ℕ → Act E (List ℕ)
InsideIf Inside path before (Ok (value, after)) = Inside × (value ≡ path) × (after ≡ before)
InsideIf Inside path before (Err fault) = ¬ Inside × (fault ≡ location_outside path)

-- A step joins those before: an equal one stands there, or all its outputs can stand beside theirs and there is room for it.
-- Else its first output that cannot stand clashes, or it is one too many.
abbrev pub Joins : {E A : Type 0} → A → Step → Act E A
Joins value step before (Ok (given, after)) =
    (given ≡ value) × (after ≡ joined before step) × ((stands_in before step ≡ true) ⊎ (Fits before step × (length before < 65536)))
Joins value step before (Err (path_clash path)) = (stands_in before step ≡ false) × IsFirstClash before step path
Joins value step before (Err (too_many_steps count)) = (stands_in before step ≡ false) × Fits before step × (length before ≡ 65536) × (count ≡ 65537)
Joins value step before (Err fault) = ⊥
