-- Calls are carried out and read one by one; the first that is refused gives the fault of all; for the loops over them.
use Rattle.std.proofs.Common.{◌≡◌, ℕ, ◌+◌, ◌<◌, List, Ok, take, get_or, length, subst}
use Rattle.b2_features.specs.Table.{DeclaredFeature}
use Rattle.b2_declared.specs.declared.fault.DeclaringFault.{DeclaringFault}
use Rattle.b2_declared.specs.declared.visit.Visit.{Visit}
use Rattle.b2_declared.specs.declared.visit.Call.{Call}
use Rattle.b2_declared.specs.Outcomes.{all_steps, IsFaultOf}
use Rattle.b2_declared.specs.DeclaringCalls.{visit_of}
use Rattle.b2_declared.specs.Carrying.{Tables, carried_out, carrying, no_tables, tables_of}
use Rattle.b2_declared.specs.Gathering.{Gathered, gathered_of, gathering, nothing_gathered, gathered_by}
use Rattle.b2_declared.proofs.StepsComposeUntilAFault.{steps_next, steps_stop}

module _ (visits : List Visit) (calls : List Call) (i : ℕ) (c : Call) (v : Visit) (within : i < length calls) (is : c ≡ get_or calls i c) (owner : v ≡ visit_of visits c) where
  -- one more call that is carried out
  pub carried_next : (t u : Tables) → all_steps (carrying visits) (no_tables visits) (take i calls) ≡ Ok t → carried_out v c c.declaration t ≡ Ok u → all_steps (carrying visits) (no_tables visits) (take (i + 1) calls) ≡ Ok u
  carried_next t u so_far here = steps_next (carrying visits) (no_tables visits) calls i c t within is so_far u (subst (λ w. carried_out w c c.declaration t ≡ Ok u) owner here)

  -- the first call that is refused
  pub carried_stop : (t : Tables) (f : DeclaringFault) → all_steps (carrying visits) (no_tables visits) (take i calls) ≡ Ok t → IsFaultOf (carried_out v c c.declaration t) f → IsFaultOf (tables_of visits calls) f
  carried_stop t f so_far fault = steps_stop (carrying visits) (no_tables visits) calls i c t within is so_far f (subst (λ w. IsFaultOf (carried_out w c c.declaration t) f) owner fault)

  module _ (features : List DeclaredFeature) where
    -- one more call that was read
    pub gathered_next : (t u : Gathered) → all_steps (gathering features visits) (nothing_gathered visits) (take i calls) ≡ Ok t → gathered_of features v c c.declaration t ≡ Ok u → all_steps (gathering features visits) (nothing_gathered visits) (take (i + 1) calls) ≡ Ok u
    gathered_next t u so_far here = steps_next (gathering features visits) (nothing_gathered visits) calls i c t within is so_far u (subst (λ w. gathered_of features w c c.declaration t ≡ Ok u) owner here)

    -- the first call whose property texts are refused
    pub gathered_stop : (t : Gathered) (f : DeclaringFault) → all_steps (gathering features visits) (nothing_gathered visits) (take i calls) ≡ Ok t → IsFaultOf (gathered_of features v c c.declaration t) f → IsFaultOf (gathered_by features visits calls) f
    gathered_stop t f so_far fault = steps_stop (gathering features visits) (nothing_gathered visits) calls i c t within is so_far f (subst (λ w. IsFaultOf (gathered_of features w c c.declaration t) f) owner fault)
