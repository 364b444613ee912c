-- What setting and binding names change in the worlds.
use Rattle.std.specs.Prelude.{◌≡◌, ◌⊎◌, ℕ, [], ◌∷◌, ◌++◌, is_some, Result, Ok, Err, if◌then◌else◌, drop}
use Rattle.std.specs.Option.{unwrap_or}
use Rattle.std.specs.FinMap as map
use Rattle.b2_base.specs.declared.expand_fault.ExpandFault.{ExpandFault}
use Rattle.b2_base.specs.declared.expand_fault.ExpandFault.TheVariants as expansions
use Rattle.jam_expand.specs.Limits.{within, IsWithin}
use Rattle.jam_grammar.specs.declared.tree.Sign.{Sign}
use Rattle.jam_grammar.specs.declared.tree.Sign.TheVariants as signs
use Rattle.jam_journal.specs.Tables.{Text}
use Rattle.jam_journal.specs.Scopes.{Value, assign, assigned}
use Rattle.jam_scope.specs.Worlds.{Worlds}
use Rattle.jam_scope.specs.Changes.{changed, rescoped, set_on}
use Rattle.jam_meaning.specs.Faults.{Spot, expand}
use Rattle.jam_meaning.specs.Laws.{bounds}
use Rattle.jam_effects.specs.Does.{kinds}
use Rattle.jam_meaning.specs.Forms.{is_empty}
use Rattle.jam_effects.specs.declared.fault.EvalFault.{EvalFault}
use Rattle.jam_effects.specs.declared.fault.EvalFault.TheVariants as faults
use Rattle.jam_effects.specs.Causes.{IsFault}

-- the worlds after a change, or the fault that kept it from being made, with the worlds then
pub data Change : Type 0 where
  made : Worlds → Change
  refused : ExpandFault → Worlds → Change

abbrev pub and_next : Change → (Worlds → Change) → Change
and_next (made ws) next = next ws
and_next (refused fault ws) next = refused fault ws

abbrev pub for_each : Value → (Text → Worlds → Change) → Worlds → Change
for_each [] act ws = made ws
for_each (text ∷ texts) act ws = and_next (act text ws) (for_each texts act)

abbrev pub put_within : Result Value ExpandFault → (Value → Worlds → Worlds) → Worlds → Change
put_within (Ok value) put ws = made (put value ws)
put_within (Err fault) put ws = refused fault ws

-- a value is set, added to what stands there, or set where the empty list stands there
abbrev pub by_sign : Sign → Value → Value → (Value → Worlds → Worlds) → Worlds → Change
by_sign signs.Set before value put ws = made (put value ws)
by_sign signs.Add before value put ws = put_within (within (before ++ value)) put ws
by_sign signs.Fill before value put ws = if is_empty before then made (put value ws) else made ws

abbrev pub set_name_in : Sign → Value → Text → Worlds → Change
set_name_in sign value name ws = by_sign sign (unwrap_or (assigned ws.now.scopes name) []) value (λ v. rescoped (assign name v)) ws

abbrev pub set_names_in : Value → Sign → Value → Worlds → Change
set_names_in names sign value = for_each names (set_name_in sign value)

abbrev pub set_own_in : Text → Sign → Value → Text → Worlds → Change
set_own_in target sign value name ws = by_sign sign (unwrap_or (map.get ws.now.own (target, name)) []) value (λ v. changed (set_on target name v)) ws

abbrev pub set_all_own_in : Value → Value → Sign → Value → Worlds → Change
set_all_own_in targets names sign value = for_each targets (λ target. for_each names (set_own_in target sign value))

-- the change was made, or is refused at a spot, unless memory ran out
abbrev pub IsRefused : Change → Spot → EvalFault → Worlds → Type 0
IsRefused change spot e ws = (e ≡ faults.OutOfMemory) ⊎ ((fault : ExpandFault) × (change ≡ refused fault ws) × IsFault spot (expand fault) e)

abbrev pub IsMade : {A : Type 0} → Change → Spot → Result A EvalFault → Worlds → Type 0
IsMade change spot (Ok a) ws = change ≡ made ws
IsMade change spot (Err e) ws = IsRefused change spot e ws

-- the frames but for what they bind, the marked worlds, and whether a step is open
pub record SameFrames (before after : Worlds) : Type 0 where
  pub frames : kinds after.now.scopes.frames ≡ kinds before.now.scopes.frames
  pub outer : bounds (drop 1 after.now.scopes.frames) ≡ bounds (drop 1 before.now.scopes.frames)
  pub marks : after.marked ≡ before.marked
  pub step : is_some after.now.step ≡ is_some before.now.step

-- the result is the sum of a list that is not too large, or the fault of one that is
abbrev pub IsSummed : Value → Result ℕ ExpandFault → Type 0
IsSummed list (Ok sum) = IsWithin list sum
IsSummed list (Err fault) = (fault ≡ expansions.OutOfMemory) ⊎ (within list ≡ Err fault)
