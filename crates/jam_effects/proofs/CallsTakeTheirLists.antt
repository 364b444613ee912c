-- The lists of a call are those of the call of a name, and a fault of one is that of the other.
use Rattle.std.proofs.Common.{◌≡◌, ◌⊎◌, inl, inr, List, [], ◌∷◌, ◌++◌, Option, Some, None, Result, Ok, Err, refl, ap, ◌∙◌}
use Rattle.b2_base.specs.declared.expand_fault.ExpandFault.{ExpandFault}
use Rattle.b2_base.specs.Results.{and_then}
use Rattle.jam_expand.specs.Limits.{within}
use Rattle.jam_journal.specs.Tables.{Text}
use Rattle.jam_journal.specs.Scopes.{Value}
use Rattle.jam_meaning.specs.Faults.{Spot}
use Rattle.jam_effects.specs.declared.fault.EvalFault.{EvalFault}
use Rattle.jam_effects.specs.Answers.{IsAnswered, named, lists_with}

abbrev named_with : Text → Result (List Value) ExpandFault → Result (Option (Text × List Value)) ExpandFault
named_with name lists = and_then (λ found. Ok (Some (name, found))) lists

named_is : (name : Text) (more : Value) (given : List Value) → named (name ∷ more) given ≡ named_with name (lists_with more given)
named_is name more [] = refl
named_is name more (first ∷ rest) = go (within (more ++ first))
  where
    go : (list : Result Value ExpandFault) → and_then (λ l. Ok (Some (name, l ∷ rest))) list ≡ named_with name (and_then (λ l. Ok (l ∷ rest)) list)
    go (Ok l) = refl
    go (Err f) = refl

pub named_gives : (name : Text) (more : Value) (given lists : List Value) → lists_with more given ≡ Ok lists → named (name ∷ more) given ≡ Ok (Some (name, lists))
named_gives name more given lists e = named_is name more given ∙ ap (named_with name) e

pub named_fails : {A B : Type 0} (view : A → List Value) (other : B → Option (Text × List Value)) (name : Text) (more : Value) (given : List Value) (spot : Spot) (e : EvalFault)
    → IsAnswered view (lists_with more given) spot (Err e) → IsAnswered other (named (name ∷ more) given) spot (Err e)
named_fails view other name more given spot e (inl memory) = inl memory
named_fails view other name more given spot e (inr (f, is, at)) = inr (f, named_is name more given ∙ ap (named_with name) is, at)

-- a first list that is too large
pub first_fails : {A B : Type 0} (view : A → Value) (other : B → List Value) (more first : Value) (rest : List Value) (spot : Spot) (e : EvalFault)
    → IsAnswered view (within (more ++ first)) spot (Err e) → IsAnswered other (lists_with more (first ∷ rest)) spot (Err e)
first_fails view other more first rest spot e (inl memory) = inl memory
first_fails view other more first rest spot e (inr (f, is, at)) = inr (f, ap (and_then (λ l. Ok (l ∷ rest))) is, at)

-- the fault of lists is seen in whatever way
pub lists_fail : {A B : Type 0} (view : A → List Value) (other : B → List Value) (answer : Result (List Value) ExpandFault) (spot : Spot) (e : EvalFault) → IsAnswered view answer spot (Err e) → IsAnswered other answer spot (Err e)
lists_fail view other answer spot e (inl memory) = inl memory
lists_fail view other answer spot e (inr p) = inr p
