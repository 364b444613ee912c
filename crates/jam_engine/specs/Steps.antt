-- The step of a set of acts, and why there is none.
use Rattle.std.specs.Prelude.{◌≡◌, ◌≢◌, ℕ, ◌+◌, Bool, true, not, List, [], ◌∷◌, ◌++◌, codes, Option, Some, None, Result, Ok, Err, length, map as each, if◌then◌else◌}
use Rattle.std.specs.List.{flat_map, list_any, list_all, find}
use Rattle.std.specs.Option.{option_map_or}
use Rattle.b2_base.specs.Results.{and_then}
use Rattle.b2_base.specs.declared.expand_fault.ExpandFault.{ExpandFault}
use Rattle.b2_plan.specs.declared.step.Step.{Step}
use Rattle.b2_virtual.specs.Clashes.{IsFirstClash, Fits}
use Rattle.jam_expand.specs.Bodies.{body_expansion}
use Rattle.jam_journal.specs.Tables.{Text}
use Rattle.jam_journal.specs.Scopes.{Value}
use Rattle.jam_scope.specs.Rules.{Actions}
use Rattle.jam_meaning.specs.Faults.{expand}
use Rattle.jam_meaning.specs.Rolled.{body_names}
use Rattle.jam_natives.specs.Texts.{without_repeats}
use Rattle.jam_graph.specs.declared.graph.Act.{Act}
use Rattle.jam_graph.specs.declared.graph.Graph.{Graph}
use Rattle.jam_graph.specs.Loads.{Refusal, too_many, mixed, eval, outside, clash}
use Rattle.jam_engine.specs.Targets.{is_always, is_notfile, depends_of, is_in_roots, place, header_dirs}
use Rattle.jam_engine.specs.Acts.{actions_of, is_quiet}
use Rattle.jam_engine.specs.Spreads.{Spreads}

-- the most steps
abbrev pub most_steps : ℕ
most_steps = 65536

module _ (g : Graph) (stands : Text → Bool) where
  abbrev pub places : Value → List Text
  places texts = each (place g stands) texts

  -- the targets of some acts, each once, and their paths
  abbrev pub targets_of : List Act → Value
  targets_of set = without_repeats (flat_map (λ (a : Act). a.targets) set)

  abbrev pub outs_of : List Act → List Text
  outs_of set = without_repeats (places (targets_of set))

  -- the first target that is no file, where another is one
  abbrev pub first_mixed : List Act → Option Text
  first_mixed set = if list_all (is_notfile g) (targets_of set) then None else find (is_notfile g) (targets_of set)

  -- ---- the text

  -- the text of an act: the body of its actions, in their module, with the paths of its targets and sources
  abbrev pub body_of : Act → Text
  body_of a = option_map_or (λ (actions : Actions). actions.text) (actions_of g a) []

  abbrev pub text_of : Act → Result Text ExpandFault
  text_of a = body_expansion (body_names (places a.targets) (places a.sources) a.targets a.«module» g.world.now) (body_of a)

  -- a body without an expansion is a fault at the file and the act's line
  abbrev pub or_refused : Act → Result Text ExpandFault → Result Text Refusal
  or_refused a (Ok text) = Ok text
  or_refused a (Err fault) = Err (eval (record { spot = record { path = g.path; line = a.line }; cause = expand fault }))

  -- the texts of some acts in order, or the first refusal
  abbrev pub texts_of : List Act → Result (List Text) Refusal
  texts_of [] = Ok []
  texts_of (a ∷ more) = and_then (λ text. and_then (λ texts. Ok (text ∷ texts)) (texts_of more)) (or_refused a (text_of a))

-- in parentheses on lines of their own
abbrev pub in_parens : Text → Text
in_parens text = codes "(" ++ 10 ∷ text ++ 10 ∷ codes ")"

abbrev pub and_so_on : List Text → Text
and_so_on [] = []
and_so_on (text ∷ texts) = codes " && " ++ in_parens text ++ and_so_on texts

-- one text as it stands, and several one after another
abbrev pub whole_text : List Text → Text
whole_text [] = []
whole_text (text ∷ []) = text
whole_text (text ∷ next ∷ texts) = in_parens text ++ and_so_on (next ∷ texts)

module _ (g : Graph) (stands : Text → Bool) where
  -- the name of the first act that is not quiet, else none
  abbrev pub name_of : List Act → Text
  name_of set = option_map_or (λ (a : Act). a.name) (find (λ a. not (is_quiet g a)) set) []

  -- where headers are looked for, by the first target
  abbrev pub dirs_by : Value → List Text
  dirs_by [] = []
  dirs_by (first ∷ more) = header_dirs g first

  abbrev pub dirs_of : List Act → List Text
  dirs_of set = dirs_by (targets_of g stands set)

  -- the sources of the acts, then what the targets depend on
  abbrev pub asked_of : List Act → Value
  asked_of set = flat_map (λ (a : Act). a.sources) set ++ flat_map (depends_of g) (targets_of g stands set)

  -- the step of a set of acts
  pub record IsStep (set : List Act) (step : Step) : Type 0 where
    pub name : step.name ≡ name_of set
    pub texts : List Text
    pub texted : texts_of g stands set ≡ Ok texts
    pub text : step.text ≡ whole_text texts
    pub outs : step.outs ≡ outs_of g stands set
    pub found : Value
    pub spreads : Spreads g stands (asked_of set) found
    pub ins : step.ins ≡ each (place g stands) found
    pub dirs : step.dirs ≡ dirs_of set
    pub always : step.always ≡ list_any (is_always g) (targets_of g stands set)
    pub notfile : step.notfile ≡ list_all (is_notfile g) (targets_of g stands set)

  -- each output lies under a root
  abbrev pub are_in_roots : List Act → Bool
  are_in_roots set = list_all (is_in_roots g) (outs_of g stands set)

  -- Why a set has no step behind these steps: the first of these that holds.
  pub data Refuses (steps : List Step) (set : List Act) : Refusal → Type 0 where
    is_full : length steps ≡ most_steps → Refuses steps set (too_many (most_steps + 1))
    is_mixed : (target : Text) → length steps ≢ most_steps → first_mixed g stands set ≡ Some target → Refuses steps set (mixed target)
    no_text : (why : Refusal) → length steps ≢ most_steps → first_mixed g stands set ≡ None → texts_of g stands set ≡ Err why → Refuses steps set why
    lies_outside : (texts : List Text) (path : Text) → length steps ≢ most_steps → first_mixed g stands set ≡ None → texts_of g stands set ≡ Ok texts
        → find (λ out. not (is_in_roots g out)) (outs_of g stands set) ≡ Some path → Refuses steps set (outside path)
    clashes : (step : Step) (path : Text) → length steps ≢ most_steps → first_mixed g stands set ≡ None → IsStep set step → are_in_roots set ≡ true
        → IsFirstClash steps step path → Refuses steps set (clash path)

  -- a set has a step behind these steps
  pub record Accepts (steps : List Step) (set : List Act) (step : Step) : Type 0 where
    pub few : length steps ≢ most_steps
    pub pure : first_mixed g stands set ≡ None
    pub is : IsStep set step
    pub inside : are_in_roots set ≡ true
    pub fits : Fits steps step
