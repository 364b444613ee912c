-- A generation under way, with its open main targets.
use Rattle.std.specs.Prelude.{ℕ, Bool, List, Option, Result, reverse}
use Rattle.b2_props.specs.Sets.{Pair}
use Rattle.b2_evaluator.specs.Answers.{Answers}
use Rattle.b2_references.specs.Names.{Name}
use Rattle.b2_alternatives.specs.Picking.{seen}
use Rattle.b2_alternatives.specs.declared.need.Next.{Next}
use Rattle.b2_generate.specs.Machine.{frame_of, standing_of, AreKept}
use Rattle.b2_generate.specs.Opening.{frames, AreReady}
use Rattle.b2_generate.specs.Stack.{Waits}
use Rattle.b2_generate.specs.OpenTargets.{next}
use Rattle.b2_generate.specs.Turning.{IsTurn, IsRequest}
use Rattle.b2_generate.specs.declared.fault.GenFault.{GenFault}
use Rattle.b2_generate.specs.declared.generation.Generation.{Generation}
use Rattle.b2_generate.specs.declared.node.Node.{Node}
use Rattle.b2_generate.specs.declared.stack.Stack.{Stack}

-- what was generated, the newest first
abbrev pub nodes_of : {S E : Type 0} → Generation S E → List Node
nodes_of g = reverse g.nodes.list.items

-- what it keeps of its nodes is kept rightly
abbrev pub IsReady : {S E : Type 0} → Generation S E → Type 0
IsReady g = AreReady g.asker.index.now (nodes_of g) g.nodes.firsts

-- so are the open main targets
abbrev pub IsKeptFor : {S E : Type 0} → Generation S E → Stack → Type 0
IsKeptFor g stack = AreKept (nodes_of g) g.asker.index.now (frames stack)

-- the newest open main target waits for this one, which is asked for with a set
abbrev pub NewestWaits : {S E : Type 0} → Generation S E → Stack → Name → List Pair → Type 0
NewestWaits g stack name asked = Waits g.asker.index.now (frame_of (nodes_of g) stack.newest) name asked

-- what comes next for the newest open main target
abbrev pub next_of : {S E : Type 0} → Generation S E → Stack → Next
next_of g stack = next g.asker.index.now (seen stack.newest.name stack.newest.chosen) (standing_of (nodes_of g) stack.newest)

module _ {S E K : Type 0} (answers : S → Option (Answers E)) (kept : S → K) (faults : S → ℕ) (is_host is_out : E → Bool) (CanFault : K → E → Type 0) where
  -- all that is promised of a turn
  abbrev pub Turns : Generation S E → Stack → Generation S E → Stack → Result (Option ℕ) (GenFault E) → Type 0
  Turns old before new after result =
      IsTurn answers kept faults is_host is_out CanFault old.asker.index.now old.roots.now
      (nodes_of old) (frames before) old.builder old.asker.evaluator (nodes_of new) new.nodes.firsts (frames after) new.builder new.asker.evaluator result

  -- all that is promised where a main target is asked for with a set
  abbrev pub Gives : Name → List Pair → Generation S E → Generation S E → Result ℕ (GenFault E) → Type 0
  Gives name set old new result =
      IsRequest answers kept faults is_host is_out CanFault old.asker.index.now old.roots.now name set
      (nodes_of old) old.builder old.asker.evaluator (nodes_of new) new.nodes.firsts new.builder new.asker.evaluator result
