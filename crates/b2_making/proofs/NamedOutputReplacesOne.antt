-- The named output takes the place of an output of its type among those of a step, for the loop that looks for it.
use Rattle.std.proofs.Common.{◌≡◌, ℕ, suc, zero, ◌<◌, ◌≤◌, ◌+◌, true, false, cond, List, [], ◌∷◌, ◌++◌, Option, None, length, take, drop, take_all, get_or, set, refl, sym, ◌∙◌, ap, ap₂, append_assoc, arith}
use Rattle.std.specs.Str.{bytes_eq}
use Rattle.std.proofs.lemmas.List.{append-nil, drop_more, at_drop_all, take-append-drop, take-set, drop-set}
use Rattle.b2_props.proofs.DraftHoldsEachGainedPair.{next_take}
use Rattle.b2_making.specs.declared.output.Output.{Output}
use Rattle.b2_making.specs.MakingParts.{if_last}
use Rattle.b2_making.specs.Conversions.{with_named}

-- a generator follows
pub last_none : (ids : List (List ℕ)) (place : ℕ) (named : Option Output) → place < length ids → if_last (drop place ids) named ≡ None
last_none [] place named within = absurd (omega (arith, within))
last_none (id ∷ ids) zero named within = refl
last_none (id ∷ ids) (suc place) named within = last_none ids place named (omega (arith, within))

module _ (named : Output) (outputs : List Output) (place : ℕ) (output : Output) (within : place < length outputs) (at : output ≡ get_or outputs place output) where
  rest_is : drop place outputs ≡ output ∷ drop (place + 1) outputs
  rest_is = drop_more outputs place output within ∙ ap (λ (o : Output). o ∷ drop (place + 1) outputs) (sym at)

  -- an output of another type
  pub named_next : bytes_eq named.file_type output.file_type ≡ false → with_named named outputs ≡ take place outputs ++ with_named named (drop place outputs)
      → with_named named outputs ≡ take (place + 1) outputs ++ with_named named (drop (place + 1) outputs)
  named_next other so_far =
      so_far
      ∙ ap (λ (os : List Output). take place outputs ++ os)
      (ap (with_named named) rest_is ∙ ap (λ b. cond b (named ∷ drop (place + 1) outputs) (output ∷ with_named named (drop (place + 1) outputs))) other)
      ∙ sym (append_assoc (take place outputs) (output ∷ []) (with_named named (drop (place + 1) outputs)))
      ∙ ap (λ (os : List Output). os ++ with_named named (drop (place + 1) outputs)) (sym (next_take outputs place output within at))

  -- the first output of the type
  pub named_here : bytes_eq named.file_type output.file_type ≡ true → with_named named outputs ≡ take place outputs ++ with_named named (drop place outputs) → set outputs place named ≡ with_named named outputs
  named_here same so_far =
      sym (take-append-drop place (set outputs place named)) ∙ ap₂ (λ (a b : List Output). a ++ b) (take-set outputs place named) (drop-set outputs place named within)
      ∙ sym
      (so_far
      ∙ ap (λ (os : List Output). take place outputs ++ os)
      (ap (with_named named) rest_is ∙ ap (λ b. cond b (named ∷ drop (place + 1) outputs) (output ∷ with_named named (drop (place + 1) outputs))) same))

-- no output of the type
pub named_none : (named : Output) (outputs : List Output) (place : ℕ) → length outputs ≤ place → with_named named outputs ≡ take place outputs ++ with_named named (drop place outputs) → outputs ≡ with_named named outputs
named_none named outputs place over so_far =
    sym (append-nil outputs) ∙ sym (so_far ∙ ap₂ (λ (a b : List Output). a ++ with_named named b) (take_all place outputs over) (at_drop_all (λ (os : List Output). os) outputs place over))
