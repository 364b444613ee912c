-- What an included file does.
use Rattle.std.specs.Prelude.{Bool, [], ◌∷◌}
use Rattle.std.specs.List.{list_any}
use Rattle.b2_base.specs.Segments.{path_from}
use Rattle.b2_base.specs.Below.{is_below}
use Rattle.jam_journal.specs.Tables.{Text}
use Rattle.jam_journal.specs.Scopes.{Value}
use Rattle.jam_meaning.specs.Faults.{Spot, include, lex, syntax_at, too_big}
use Rattle.jam_scope.specs.Worlds.{World}
use Rattle.jam_scope.specs.Changes.{freeze_roots}
use Rattle.jam_meaning.specs.States.{State, with_world}
use Rattle.jam_meaning.specs.Settings.{Reading, is_missing, is_too_big, has_no_tokens, has_no_tree, is_file, Setting}
use Rattle.jam_meaning.specs.Outcomes.{Outcome, gives, faults, Flow, goes_on, then_do, fault_at, either, in_frame}
use Rattle.jam_meaning.specs.Levels.{Levels}

abbrev pub in_file : Text → Spot → Spot
in_file path spot = record spot { path = path }

abbrev pub is_in_roots : World → Text → Bool
is_in_roots w path = list_any (λ root. is_below path root) w.roots

module _ {R : Type 0} where
  -- `return` ends the file alone
  abbrev pub file_ended : Outcome R Flow → Outcome R (Unit {0})
  file_ended (gives flow s) = gives tt s
  file_ended (faults fault s) = faults fault s

module _ {R : Type 0} (setting : Setting R) (deep : Levels R) where
  -- the file runs in a frame of the present module, one level deeper; what cannot be read is a fault in that file
  abbrev pub read_so : Reading → Text → Spot → State R → Outcome R Flow
  read_so is_missing path spot s = fault_at spot (include path) s
  read_so (is_too_big size) path spot s = fault_at (in_file path spot) (too_big path size) s
  read_so (has_no_tokens fault) path spot s = fault_at (in_file path spot) (lex fault) s
  read_so (has_no_tree line found) path spot s = fault_at (in_file path spot) (syntax_at line found) s
  read_so (is_file tree) path spot s = then_do (file_ended (in_frame (λ s₁. deep.stmts tree path spot s₁) s)) (λ ended. λ s₁. gives goes_on s₁)

  -- a file under an output root counts as missing
  abbrev pub included_at : Text → Spot → State R → Outcome R Flow
  included_at path spot s =
      either (is_in_roots s.worlds.now path) (λ s₁. fault_at spot (include path) s₁) (λ s₁. read_so (setting.reading path) path spot s₁) s

  -- no file is meant by the empty list; else no output root is added from now on
  abbrev pub included : Value → Spot → State R → Outcome R Flow
  included [] spot s = gives goes_on s
  included (name ∷ more) spot s = included_at (path_from s.worlds.now.place name) spot (with_world freeze_roots s)
