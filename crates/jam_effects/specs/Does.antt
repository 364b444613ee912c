-- What the code's calls do.
use Rattle.std.specs.Prelude.{◌≡◌, ◌≤◌, suc, is_some, List, drop, map as each, Option, Result, Ok, Err, IfErr}
use Rattle.b2_base.specs.Counts.{Rose}
use Rattle.b2_host.specs.Outside.{Outside}
use Rattle.b2_host.specs.OutsideLaws.{Keeps}
use Rattle.jam_journal.specs.Tables.{Text}
use Rattle.jam_journal.specs.Scopes.{Frame}
use Rattle.jam_scope.specs.Worlds.{Worlds}
use Rattle.jam_meaning.specs.States.{State}
use Rattle.jam_meaning.specs.Settings.{Meaning, Setting}
use Rattle.jam_meaning.specs.Outcomes.{Outcome, gives, faults}
use Rattle.jam_meaning.specs.Kept.{Begins}
use Rattle.jam_meaning.specs.Laws.{bounds}
use Rattle.jam_meaning.specs.Rolled.{back_to}
use Rattle.jam_meaning.specs.Refused.{NamesNone, Refuses, TookTurn}
use Rattle.jam_effects.specs.declared.turns.Turns.{Turns}
use Rattle.jam_effects.specs.declared.fault.EvalFault.{EvalFault}
use Rattle.jam_effects.specs.declared.fault.EvalFault.TheVariants as fault
use Rattle.jam_effects.specs.Causes.{cause_of, refused_of, HoldsNoMemory}
use Rattle.jam_effects.specs.Machines.{Machine, machine, state_of, IsSettingOf}

-- a frame without what it binds
abbrev pub kinds : List Frame → List (Text × Option Text)
kinds = each (λ frame. (frame.owner, frame.caller))

-- What no call changes: turns never rise; the frames are those that stood, but for the values of names, and for what the newest
-- one binds; the marked worlds, whether a step is open, what the natives mean, the files and the child processes are as before.
pub record Stays {R : Type 0} (before after : Machine R) : Type 0 where
  pub turns : after.left ≤ before.left
  pub budget : after.budget ≡ before.budget
  pub meaning : after.meaning ≡ before.meaning
  pub frames : kinds after.worlds.now.scopes.frames ≡ kinds before.worlds.now.scopes.frames
  pub outer : bounds (drop 1 after.worlds.now.scopes.frames) ≡ bounds (drop 1 before.worlds.now.scopes.frames)
  pub marks : after.worlds.marked ≡ before.worlds.marked
  pub step : is_some after.worlds.now.step ≡ is_some before.worlds.now.step
  pub disk : after.outside.disk ≡ before.outside.disk
  pub children : after.outside.children ≡ before.outside.children
  pub keeps : Keeps before.outside after.outside

-- a fault of the host comes only where the count of its faults rose; else, unless memory ran out, the count is as before
abbrev pub CountsFault : EvalFault → Outside → Outside → Type 0
CountsFault fault.Host before after = Rose before.faults after.faults
CountsFault fault.OutOfMemory before after = Unit {0}
CountsFault (fault.At path line why) before after = after.faults ≡ before.faults

abbrev pub Counts : {A : Type 0} → Result A EvalFault → Outside → Outside → Type 0
Counts (Ok a) before after = after.faults ≡ before.faults
Counts (Err e) before after = CountsFault e before after

-- The fault is that of the outcome, with this state. Where the host failed, texts to which natives only add begin those that are there
-- after the outcome; nothing is said where memory ran out.
abbrev pub Faults : {R B : Type 0} → Setting R → EvalFault → Outcome R B → State R → Type 0
Faults setting fault.Host outcome s = Begins setting s outcome
Faults setting fault.OutOfMemory outcome s = Unit {0}
Faults setting (fault.At path line why) outcome s =
    outcome ≡ faults (record { spot = record { path = path; line = line }; cause = cause_of why }) s

-- The result is the outcome, with this state.
abbrev pub Agrees : {R A B : Type 0} → Setting R → (A → B) → Result A EvalFault → Outcome R B → State R → Type 0
Agrees setting view (Ok a) outcome s = outcome ≡ gives (view a) s
Agrees setting view (Err e) outcome s = Faults setting e outcome s

module _ {R A B : Type 0} where
  -- The result is what is defined, for each right setting that names what was refused, if anything was.
  abbrev pub Tells : (A → B) → (Setting R → State R → Outcome R B) → Machine R → Machine R → Result A EvalFault → Type 0
  Tells view what before after result =
      (setting : Setting R) → IsSettingOf setting before → Refuses setting.refused before.left after.left (refused_of result) → Agrees setting view result (what setting (state_of before)) (state_of after)

-- What stands in a call, whose turn was taken before, does what is defined: where the meaning of natives and the files are told, for
-- each right setting that names what was refused from this call on, if anything was.
pub record DoesInCall {R A B : Type 0} (view : A → B) (what : Setting R → State R → Outcome R B) (before after : Machine R) (result : Result A EvalFault) : Type 0 where
  pub told : (setting : Setting R) → IsSettingOf setting before → Refuses setting.refused (suc before.left) after.left (refused_of result) → Agrees setting view result (what setting (state_of before)) (state_of after)
  pub stays : Stays before after
  pub counts : Counts result before.outside after.outside
  pub whole : IfErr result HoldsNoMemory

-- A call does what is defined: where the meaning of natives and the files are told, for each right setting that names what was
-- refused, if anything was. Where a pattern was refused, the turn of the call was taken in it.
pub record Does {R A B : Type 0} (view : A → B) (what : Setting R → State R → Outcome R B) (before after : Machine R) (result : Result A EvalFault) : Type 0 where
  pub told : (setting : Setting R) → IsSettingOf setting before → Refuses setting.refused before.left after.left (refused_of result) → Agrees setting view result (what setting (state_of before)) (state_of after)
  pub stays : Stays before after
  pub counts : Counts result before.outside after.outside
  pub whole : IfErr result HoldsNoMemory
  pub took : TookTurn (refused_of result) before.left after.left

-- The same of a call after which the world of entry stands again: of the worlds only the marks are told.
pub record DoesAside {R A B : Type 0} (view : A → B) (what : Setting R → State R → Outcome R B) (before after : Machine R) (result : Result A EvalFault) : Type 0 where
  pub told : (setting : Setting R) → IsSettingOf setting before → Refuses setting.refused before.left after.left (refused_of result)
      → Agrees setting view result (back_to before.worlds (what setting (state_of before))) (record (state_of after) { worlds = before.worlds })
  pub turns : after.left ≤ before.left
  pub budget : after.budget ≡ before.budget
  pub meaning : after.meaning ≡ before.meaning
  pub marks : after.worlds.marked ≡ before.worlds.marked
  pub disk : after.outside.disk ≡ before.outside.disk
  pub children : after.outside.children ≡ before.outside.children
  pub keeps : Keeps before.outside after.outside
  pub counts : Counts result before.outside after.outside
  pub whole : IfErr result HoldsNoMemory
  pub took : TookTurn (refused_of result) before.left after.left

-- So far what is defined was done, nothing was refused, and this is what is left to be done.
pub record Leads {R B : Type 0} (what rest : Setting R → State R → Outcome R B) (before after : Machine R) : Type 0 where
  pub told : (setting : Setting R) → IsSettingOf setting before → NamesNone setting.refused before.left after.left → what setting (state_of before) ≡ rest setting (state_of after)
  pub stays : Stays before after
  pub counts : after.outside.faults ≡ before.outside.faults

-- the same by what natives and files say of themselves
abbrev pub DoesOn : {K N F A B : Type 0} → (N → K) → (N → Option (Meaning K)) → (F → Outside) → (A → B) → (Setting K → State K → Outcome K B)
    → Worlds → Turns → N → F → Worlds → Turns → N → F → Result A EvalFault → Type 0
DoesOn kept meaning outside view what ws ts n f ws' ts' n' f' result =
    Does view what (machine ws ts (kept n) (meaning n) (outside f)) (machine ws' ts' (kept n') (meaning n') (outside f')) result

abbrev pub DoesInCallOn : {K N F A B : Type 0} → (N → K) → (N → Option (Meaning K)) → (F → Outside) → (A → B) → (Setting K → State K → Outcome K B)
    → Worlds → Turns → N → F → Worlds → Turns → N → F → Result A EvalFault → Type 0
DoesInCallOn kept meaning outside view what ws ts n f ws' ts' n' f' result =
    DoesInCall view what (machine ws ts (kept n) (meaning n) (outside f)) (machine ws' ts' (kept n') (meaning n') (outside f')) result

-- a call that looks at no files and takes no turn does what is defined, whatever both are
abbrev pub DoesApartOn : {K N A B : Type 0} → (N → K) → (N → Option (Meaning K)) → (A → B) → (Setting K → State K → Outcome K B) → Worlds → N → Worlds → N → Result A EvalFault → Type 0
DoesApartOn kept meaning view what ws n ws' n' result =
    (turns : Turns) (outside : Outside) → Does view what (machine ws turns (kept n) (meaning n) outside) (machine ws' turns (kept n') (meaning n') outside) result

abbrev pub TellsOn : {K N F A B : Type 0} → (N → K) → (N → Option (Meaning K)) → (F → Outside) → (A → B) → (Setting K → State K → Outcome K B)
    → Worlds → Turns → N → F → Worlds → Turns → N → F → Result A EvalFault → Type 0
TellsOn kept meaning outside view what ws ts n f ws' ts' n' f' result =
    Tells view what (machine ws ts (kept n) (meaning n) (outside f)) (machine ws' ts' (kept n') (meaning n') (outside f')) result

abbrev pub LeadsOn : {K N F B : Type 0} → (N → K) → (N → Option (Meaning K)) → (F → Outside) → (Setting K → State K → Outcome K B) → (Setting K → State K → Outcome K B)
    → Worlds → Turns → N → F → Worlds → Turns → N → F → Type 0
LeadsOn kept meaning outside what rest ws ts n f ws' ts' n' f' =
    Leads what rest (machine ws ts (kept n) (meaning n) (outside f)) (machine ws' ts' (kept n') (meaning n') (outside f'))

abbrev pub DoesAsideOn : {K N F A B : Type 0} → (N → K) → (N → Option (Meaning K)) → (F → Outside) → (A → B) → (Setting K → State K → Outcome K B)
    → Worlds → Turns → N → F → Worlds → Turns → N → F → Result A EvalFault → Type 0
DoesAsideOn kept meaning outside view what ws ts n f ws' ts' n' f' result =
    DoesAside view what (machine ws ts (kept n) (meaning n) (outside f)) (machine ws' ts' (kept n') (meaning n') (outside f')) result
