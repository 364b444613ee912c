-- What the rule of a step does, if there is one.
use Rattle.std.proofs.Common.{◌≡◌, cond, is_some, List, [], ◌∷◌, Option, Some, None, Result, Ok, refl, sym, ap, ◌∙◌, subst}
use Rattle.std.specs.FinMap as map
use Rattle.jam_journal.specs.Tables.{Key, Table}
use Rattle.jam_journal.specs.Scopes.{Value}
use Rattle.jam_scope.specs.Changes.{module_in}
use Rattle.jam_scope.specs.Lines.{first_at, places_from, rule_place, at_key}
use Rattle.jam_meaning.specs.Args.{call}
use Rattle.jam_meaning.specs.Eval.{levels, most_levels, run_call}
use Rattle.jam_meaning.specs.Rolled.{Job, rule_if}
use Rattle.jam_effects.specs.declared.at.At.{At}
use Rattle.jam_effects.specs.declared.fault.EvalFault.{EvalFault}
use Rattle.jam_effects.specs.Spots.{spot_of}
use Rattle.jam_effects.specs.Machines.{Machine, state_of}
use Rattle.jam_effects.specs.Does.{Does}
use Rattle.jam_effects.specs.Views.{value}
use Rattle.jam_interp.specs.FunctionParts.{call_at, rule_if_at}
use Rattle.jam_effects.proofs.OrderedCallsDoAsDefined.{value_now}
use Rattle.jam_interp.proofs.ArgumentsDoAsDefined.{does_by}

-- at the first place at which something is, something is
one_there : {X : Type 0} (table : Table X) (first key : Key) (later : Option Key) (found : Option X) → map.get table first ≡ found → (later ≡ Some key → (x : X) × (map.get table key ≡ Some x))
    → cond (is_some found) (Some first) later ≡ Some key → (x : X) × (map.get table key ≡ Some x)
one_there table first key later None is rest e = rest e
one_there table first key later (Some x) is rest e = (let same : first ≡ key = cc in (x, subst (λ k. map.get table k ≡ Some x) same is))

pub first_there : {X : Type 0} (table : Table X) (keys : List Key) (key : Key) → first_at table keys ≡ Some key → (x : X) × (map.get table key ≡ Some x)
first_there table [] key e = cc
first_there table (first ∷ keys) key e = one_there table first key (first_at table keys) (map.get table first) refl (first_there table keys key) e

module _ {R : Type 0} where
  pub rule_none : (job : Job) (at : At) (m : Machine R) → rule_place job.name m.worlds.now ≡ None → Does value (rule_if_at job at) m m (Ok [])
  rule_none job at m none = value_now value (rule_if_at job at) m [] (λ setting right. ap (λ p. rule_if setting (at_key m.worlds.now.rules p) job (spot_of at) (state_of m)) none)

  pub rule_called : (job : Job) (at : At) (key : Key) (lists : List Value) (m n : Machine R) (result : Result Value EvalFault) → rule_place job.name m.worlds.now ≡ Some key → lists ≡ job.outs ∷ job.ins ∷ job.props ∷ [] → at.levels ≡ most_levels
      → Does value (call_at job.name lists at) m n result → Does value (rule_if_at job at) m n result
  rule_called job at key lists m n result is same full h =
      let found = first_there m.worlds.now.rules (places_from m.worlds.now.parents (module_in m.worlds.now) job.name) key is in
      does_by value (rule_if_at job at) (call_at job.name lists at) m n result
      (λ setting right. ap (λ p. rule_if setting (at_key m.worlds.now.rules p) job (spot_of at) (state_of m)) is
      ∙ ap (λ rule. rule_if setting rule job (spot_of at) (state_of m)) found.1
      ∙ ap (λ given. run_call setting job.name given (spot_of at) (state_of m)) (sym same)
      ∙ ap (λ n. call setting.budget (levels setting n) job.name lists (spot_of at) (state_of m)) (sym full)) h
