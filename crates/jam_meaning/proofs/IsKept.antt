-- Relations of the state before to the state after that each single change of an evaluation keeps.
use Rattle.std.specs.Prelude.{◌≡◌, ℕ, suc, List}
use Rattle.jam_grammar.specs.declared.tree.Param.{Param}
use Rattle.jam_grammar.specs.Trees.{StmtTrees}
use Rattle.jam_journal.specs.Tables.{Text}
use Rattle.jam_journal.specs.Scopes.{Value, enter, enter_call, bind, assign}
use Rattle.jam_scope.specs.Rules.{Actions}
use Rattle.jam_scope.specs.Changes.{define_rule, define_actions, set_on, freeze_roots}
use Rattle.jam_meaning.specs.States.{State, with_world, with_scopes, after_frame}
use Rattle.jam_meaning.specs.Settings.{Setting}
use Rattle.jam_meaning.specs.RuleCalls.{native_answer, acted_answer}
use Rattle.jam_meaning.specs.Kept.{EndsTold}

-- Two relations, of which the loose one follows from the tight one: all changes keep the tight one, but for bindings in the newest frame; and
-- where a frame is opened, what keeps the loose one up to its end keeps the tight one with the frame closed.
pub record IsKept {R : Type 0} (setting : Setting R) (Tight Loose : State R → State R → Type 0) : Type 0 where
  pub same : (s : State R) → Tight s s
  pub chain : (a b c : State R) → Tight a b → Tight b c → Tight a c
  pub chain_loose : (a b c : State R) → Loose a b → Loose b c → Loose a c
  pub loosen : (s later : State R) → Tight s later → Loose s later
  pub turn : (s : State R) (left : ℕ) → s.left ≡ suc left → Tight s (record s { left = left })
  pub assigns : (name : Text) (value : Value) (s : State R) → Tight s (with_scopes (assign name value) s)
  pub binds : (name : Text) (value : Value) (s : State R) → Loose s (with_scopes (bind name value) s)
  pub frame : (owner : Text) (s later : State R) → Loose (with_scopes (enter owner) s) later → Tight s (after_frame later)
  pub call_frame : (owner : Text) (s later : State R) → Loose (with_scopes (enter_call owner) s) later → Tight s (after_frame later)
  pub sets_own : (target name : Text) (value : Value) (s : State R) → Tight s (with_world (set_on target name value) s)
  pub rules : (name : Text) (params : List (List Param)) (block : StmtTrees) (path : Text) (line : ℕ) (s : State R) → Tight s (with_world (define_rule name params block path line) s)
  pub actions : (name : Text) (body : Actions) (s : State R) → Tight s (with_world (define_actions name body) s)
  pub roots : (s : State R) → Tight s (with_world freeze_roots s)
  pub native : (name : Text) (given : List Value) (line : ℕ) (s : State R) → EndsTold Tight s (native_answer setting name given line s)
  pub records : (name : Text) (given : List Value) (line : ℕ) (s : State R) → EndsTold Tight s (acted_answer setting name given line s)
