-- The values of arguments and of lists, and what stands in brackets.
use Rattle.std.specs.Prelude.{ℕ, List, [], ◌∷◌}
use Rattle.jam_grammar.specs.Trees as tree
use Rattle.jam_grammar.specs.Trees.{ArgTree, InnerTree, ArgTrees, ListTrees}
use Rattle.jam_expand.specs.Expansions.{expansion}
use Rattle.jam_journal.specs.Tables.{Text}
use Rattle.jam_journal.specs.Scopes.{Value, look}
use Rattle.jam_meaning.specs.Faults.{Spot}
use Rattle.jam_meaning.specs.States.{State}
use Rattle.jam_meaning.specs.Outcomes.{Outcome, gives, then_do, take_turn, expanded, joined, on_target}
use Rattle.jam_meaning.specs.Levels.{Levels}

module _ {R : Type 0} (budget : ℕ) (deep : Levels R) where
  -- a word stands for its expansion; brackets open a level
  abbrev pub arg : ArgTree → Spot → State R → Outcome R Value
  arg (tree.Word text) spot s = expanded (expansion (look s.worlds.now.scopes) text) spot s
  arg (tree.Bracket inner) spot s = deep.bracket inner spot s

  -- the values of arguments, from left to right, each joined to those before it
  abbrev pub args_after : Value → ArgTrees → Spot → State R → Outcome R Value
  args_after found tree.NoArgs spot s = gives found s
  args_after found (tree.ArgAnd first rest) spot s =
      then_do (arg first spot s) (λ value. λ s₁. then_do (joined found value spot s₁) (λ more. λ s₂. args_after more rest spot s₂))

  abbrev pub args : ArgTrees → Spot → State R → Outcome R Value
  args trees spot s = args_after [] trees spot s

  abbrev pub lists : ListTrees → Spot → State R → Outcome R (List Value)
  lists tree.NoLists spot s = gives [] s
  lists (tree.ListAnd first rest) spot s =
      then_do (args first spot s) (λ value. λ s₁. then_do (lists rest spot s₁) (λ more. λ s₂. gives (value ∷ more) s₂))

  -- a call takes its turn, and then opens its level
  abbrev pub call : Text → List Value → Spot → State R → Outcome R Value
  call name given spot s = take_turn budget spot s (λ s₁. deep.call name given spot s₁)

  -- further elements of the first argument come before the first list
  abbrev pub call_with : Text → Value → List Value → Spot → State R → Outcome R Value
  call_with name more [] spot s = call name (more ∷ []) spot s
  call_with name more (first ∷ rest) spot s = then_do (joined more first spot s) (λ value. λ s₁. call name (value ∷ rest) spot s₁)

  -- the first element is the rule; where there is none, nothing is called, and the value is empty
  abbrev pub call_head : Value → List Value → Spot → State R → Outcome R Value
  call_head [] given spot s = gives [] s
  call_head (name ∷ more) given spot s = call_with name more given spot s

  -- a call evaluates its first argument, then its lists
  abbrev pub call_of : ArgTree → ListTrees → Spot → State R → Outcome R Value
  call_of head given spot s =
      then_do (arg head spot s) (λ names. λ s₁. then_do (lists given spot s₁) (λ values. λ s₂. call_head names values spot s₂))

  -- what stands in brackets: a call, one with a target's own values, or a list with these
  abbrev pub inner : InnerTree → Spot → State R → Outcome R Value
  inner (tree.CallOf head given) spot s = call_of head given spot s
  inner (tree.OnInner target more) spot s = then_do (arg target spot s) (λ targets. λ s₁. on_target targets (λ s₂. inner more spot s₂) s₁)
  inner (tree.OnReturn target value) spot s = then_do (arg target spot s) (λ targets. λ s₁. on_target targets (λ s₂. args value spot s₂) s₁)
