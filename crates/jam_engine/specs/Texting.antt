-- How the texts of acts are made.
use Rattle.std.specs.Prelude.{◌≡◌, ℕ, Bool, List, [], Option, Some, None, Result, Ok, Err, map as each, if◌then◌else◌}
use Rattle.std.specs.Option.{option_map_or}
use Rattle.b2_base.specs.declared.expand_fault.ExpandFault.{ExpandFault}
use Rattle.b2_base.specs.declared.expand_fault.ExpandFault.TheVariants as expansions
use Rattle.jam_expand.specs.Bodies.{body_expansion}
use Rattle.jam_expand.specs.Limits.{IsGivenBy}
use Rattle.jam_journal.specs.Tables.{Text}
use Rattle.jam_journal.specs.Scopes.{Value}
use Rattle.jam_scope.specs.Rules.{Actions}
use Rattle.jam_scope.specs.Worlds.{World}
use Rattle.jam_meaning.specs.Faults.{expand}
use Rattle.jam_meaning.specs.Rolled.{is_text, own_at}
use Rattle.jam_effects.specs.Rolling.{or_found}
use Rattle.jam_graph.specs.declared.fault.JamFault.{JamFault}
use Rattle.jam_graph.specs.declared.fault.JamFault.TheVariants as faults
use Rattle.jam_graph.specs.declared.graph.Act.{Act}
use Rattle.jam_graph.specs.declared.graph.Graph.{Graph}
use Rattle.jam_graph.specs.Loads.{Refusal, eval}
use Rattle.jam_graph.specs.Loading.{refusal_of}
use Rattle.jam_engine.specs.declared.scene.Scene.{Scene}
use Rattle.jam_engine.specs.Acts.{actions_in}
use Rattle.jam_engine.specs.Tables.{IsScene}
use Rattle.jam_engine.specs.Targets.{place}
use Rattle.jam_engine.specs.Steps.{text_of, or_refused, texts_of}

-- what a name stands for in a body, where the newest frame is one of the module of the actions and binds nothing
abbrev pub names_of : List Text → List Text → Value → World → Text → Value
names_of outs ins targets w name =
    if is_text 60 49 name then outs else (if is_text 62 50 name then ins else or_found (own_at targets name w) name w)

-- the body of an act's actions
abbrev pub body_in : World → Act → Text
body_in w a = option_map_or (λ (actions : Actions). actions.text) (actions_in w a) []

-- the expansion of a body in a world, with the paths of an act's targets and sources, unless memory ran out
abbrev pub IsExpansion : World → Scene → Act → Text → Result Text ExpandFault → Type 0
IsExpansion w scene a body result =
    (g : Graph) (stands : Text → Bool) → IsScene g stands scene → IsGivenBy result (body_expansion (names_of (each (place g stands) a.targets) (each (place g stands) a.sources) a.targets w) body)

-- the refusal of a body at a file and a line, or out of memory
abbrev pub IsExpandFault : Text → ℕ → ExpandFault → JamFault → Type 0
IsExpandFault path line expansions.OutOfMemory fault = fault ≡ faults.OutOfMemory
IsExpandFault path line why fault = refusal_of fault ≡ Some (eval (record { spot = record { path = path; line = line }; cause = expand why }))

-- the answer is that of the definition; nothing is said of out of memory, and no call of the host fails here
abbrev pub IsRefusedAs : {A : Type 0} → Option Refusal → Result A Refusal → Type 0
IsRefusedAs None answer = Unit {0}
IsRefusedAs (Some why) answer = answer ≡ Err why

abbrev pub IsAnswerOf : {A : Type 0} → Result A Refusal → Result A JamFault → Type 0
IsAnswerOf answer (Ok a) = answer ≡ Ok a
IsAnswerOf answer (Err faults.Host) = ⊥
IsAnswerOf answer (Err fault) = IsRefusedAs (refusal_of fault) answer

-- the text of an act, and those of several
abbrev pub IsTextOf : Graph → Scene → Act → Result Text JamFault → Type 0
IsTextOf g scene a result = (stands : Text → Bool) → IsScene g stands scene → IsAnswerOf (or_refused g stands a (text_of g stands a)) result

abbrev pub AreTextsOf : Graph → Scene → List Act → Result (List Text) JamFault → Type 0
AreTextsOf g scene acts result = (stands : Text → Bool) → IsScene g stands scene → IsAnswerOf (texts_of g stands acts) result
