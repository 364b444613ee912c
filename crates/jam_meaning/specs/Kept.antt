-- What an evaluation leaves, after a value and after a fault.
use Rattle.std.specs.Prelude.{◌≡◌, ℕ, List, ◌++◌}
use Rattle.jam_journal.specs.Tables.{Text}
use Rattle.jam_journal.specs.Scopes.{Value}
use Rattle.jam_meaning.specs.States.{State}
use Rattle.jam_meaning.specs.Settings.{Setting, Told, answers, refuses}
use Rattle.jam_meaning.specs.Outcomes.{Outcome, gives, faults}
use Rattle.jam_meaning.specs.RuleCalls.{as_told, native_answer, acted_answer}

-- the state that an outcome leaves, after a value and after a fault, stands in a relation to an earlier one
abbrev pub Ends : {R A : Type 0} → (State R → State R → Type 0) → State R → Outcome R A → Type 0
Ends Rel s (gives a later) = Rel s later
Ends Rel s (faults fault later) = Rel s later

-- so does the state that natives tell
abbrev pub EndsTold : {R A : Type 0} → (State R → State R → Type 0) → State R → Told A R → Type 0
EndsTold Rel s (answers a worlds kept) = Rel s (as_told worlds kept s)
EndsTold Rel s (refuses cause worlds kept) = Rel s (as_told worlds kept s)

-- the texts that are seen of what natives keep are those from before, with more texts after them
abbrev pub Grows : {R : Type 0} → (R → List Text) → State R → State R → Type 0
Grows look s later = (more : List Text) × (look later.kept ≡ look s.kept ++ more)

-- whatever natives answer, of what they keep texts are only added to those that are seen
pub record OnlyAdds {R : Type 0} (setting : Setting R) (look : R → List Text) : Type 0 where
  pub called : (name : Text) (given : List Value) (line : ℕ) (s : State R) → EndsTold (Grows look) s (native_answer setting name given line s)
  pub acted : (name : Text) (given : List Value) (line : ℕ) (s : State R) → EndsTold (Grows look) s (acted_answer setting name given line s)

-- Of what natives keep, a state holds a first part of what the outcome leaves: texts to which they only add begin those that are
-- there at the end.
abbrev pub Begins : {R A : Type 0} → Setting R → State R → Outcome R A → Type 0
Begins setting s outcome = (look : _ → List Text) → OnlyAdds setting look → Ends (Grows look) s outcome
