-- What a world is, as plain data.
use Rattle.std.specs.Prelude.{Bool, List, Option}
use Rattle.jam_journal.specs.Tables.{Text, Table}
use Rattle.jam_journal.specs.Scopes.{Value, Scopes}
use Rattle.jam_scope.specs.declared.notes.StepNotes.{StepNotes}
use Rattle.jam_scope.specs.Rules.{Rule, Actions}

-- the frames and the modules' variables; the modules' rules and actions; the module above each module
-- that has one, by its name and the empty text; the targets' own values, by target and name; the project's directory; the
-- output roots, and whether no more can be added; the notes of the open step
pub record World : Type 0 where
  pub scopes : Scopes
  pub rules : Table Rule
  pub actions : Table Actions
  pub parents : Table Text
  pub own : Table Value
  pub place : Text
  pub roots : List Text
  pub frozen : Bool
  pub step : Option StepNotes

-- the present world, and the marked ones, the newest first
pub record Worlds : Type 0 where
  pub now : World
  pub marked : List World
