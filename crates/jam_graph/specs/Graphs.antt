-- What a file's rules record, and the graph that it makes.
use Rattle.std.specs.Prelude.{◌≡◌, ◌≢◌, ℕ, Bool, true, false, List, [], ◌∷◌, ◌++◌, codes, Option, Some, None, map as each, if◌then◌else◌}
use Rattle.std.specs.FinMap as map
use Rattle.std.specs.List.{flat_map, filter_map, AllByRecursion}
use Rattle.std.specs.Str.{bytes_eq}
use Rattle.b2_base.specs.Lists.{list_at}
use Rattle.b2_base.specs.Shapes.{has_shape}
use Rattle.b2_base.specs.declared.shape.Count.{Count}
use Rattle.b2_base.specs.declared.shape.Count.TheVariants.{Any, AtLeastOne}
use Rattle.jam_journal.specs.Tables.{Text, Key}
use Rattle.jam_journal.specs.Scopes.{Value}
use Rattle.jam_scope.specs.Worlds.{World, Worlds}
use Rattle.jam_scope.specs.Lines.{actions_place}
use Rattle.jam_meaning.specs.declared.native_answer.NativeStep.{NativeStep}
use Rattle.jam_meaning.specs.declared.native_answer.NativeStep.TheVariants as steps
use Rattle.jam_meaning.specs.Settings.{Told, answers, refuses, of_arity, Meaning, Sight}
use Rattle.jam_natives.specs.Keeping.{Kept}
use Rattle.jam_natives.specs.Rules.{is_declaring}
use Rattle.jam_natives.specs.Rows.{jam_meaning}
use Rattle.jam_natives.specs.Texts.{without_repeats}
use Rattle.jam_graph.specs.declared.said.Pairing.{Pairing}
use Rattle.jam_graph.specs.declared.said.Pairing.TheVariants as pairings
use Rattle.jam_graph.specs.declared.said.Flag.{Flag}
use Rattle.jam_graph.specs.declared.said.Flag.TheVariants as flags
use Rattle.jam_graph.specs.declared.said.Said.{Said}
use Rattle.jam_graph.specs.declared.said.Said.TheVariants as said
use Rattle.jam_graph.specs.declared.rule.GraphRule.{GraphRule}
use Rattle.jam_graph.specs.declared.rule.GraphRule.TheVariants.{Pairs, Flags}
use Rattle.jam_graph.specs.declared.graph.Act.{Act}
use Rattle.jam_graph.specs.declared.graph.Graph.{Graph}

-- ---- what is recorded

-- what native rules keep, and the calls that declare a part of the graph, in order
pub record GraphKept : Type 0 where
  pub jam : Kept
  pub said : List Said

abbrev pub nothing_kept : GraphKept
nothing_kept = record { jam = record { decls = []; echoes = [] }; said = [] }

-- the rules of a graph
abbrev pub graph_rules : List (Text × GraphRule)
graph_rules =
    (codes "DEPENDS", Pairs pairings.Depends)
    ∷ (codes "INCLUDES", Pairs pairings.Includes)
    ∷ (codes "ALWAYS", Flags flags.Always)
    ∷ (codes "NOTFILE", Flags flags.NotFile)
    ∷ (codes "NOCARE", Flags flags.NoCare)
    ∷ []

abbrev pub rule_in : List (Text × GraphRule) → Text → Option GraphRule
rule_in [] name = None
rule_in (row ∷ rows) name = if bytes_eq name row.0 then Some row.1 else rule_in rows name

unfoldable pub graph_rule : Text → Option GraphRule
graph_rule name = rule_in graph_rules name

-- targets, one at least, and sources
abbrev pub shape_of : GraphRule → List Count
shape_of (Pairs pairing) = AtLeastOne ∷ Any ∷ []
shape_of (Flags flag) = AtLeastOne ∷ []

abbrev pub said_by : GraphRule → List Value → Said
said_by (Pairs pairing) lists = said.Pairs pairing (list_at 0 lists) (list_at 1 lists)
said_by (Flags flag) lists = said.Flags flag (list_at 0 lists)

abbrev pub and_said : Said → GraphKept → GraphKept
and_said one k = record k { said = k.said ++ one ∷ [] }

-- a call of a rule of a graph, which gives the empty list; lists of another shape are Arity
abbrev pub graph_call : GraphRule → List Value → Worlds → GraphKept → Told NativeStep GraphKept
graph_call rule lists ws kept = if has_shape (shape_of rule) lists then answers (steps.Value []) ws (and_said (said_by rule lists) kept) else refuses of_arity ws kept

-- what is answered to native rules, with what was recorded before
abbrev pub beside : {A : Type 0} → GraphKept → Told A Kept → Told A GraphKept
beside kept (answers a ws jam) = answers a ws (record kept { jam = jam })
beside kept (refuses cause ws jam) = refuses cause ws (record kept { jam = jam })

-- a name that is no rule of a graph: declaring rules are unknown, and native rules are as ever
abbrev pub other_call : Text → List Value → ℕ → Sight → Option Text → Worlds → GraphKept → Told NativeStep GraphKept
other_call name lists line sight refused ws kept =
    if is_declaring name then answers steps.Unknown ws kept else beside kept (jam_meaning.call name lists line sight refused ws kept.jam)

abbrev pub call_of : Option GraphRule → Text → List Value → ℕ → Sight → Option Text → Worlds → GraphKept → Told NativeStep GraphKept
call_of (Some rule) name lists line sight refused ws kept = graph_call rule lists ws kept
call_of None name lists line sight refused ws kept = other_call name lists line sight refused ws kept

-- what a call of a name says that has actions, by the place where these stand; none where it has no target
abbrev pub act_of : Key → Value → List Value → ℕ → Option Said
act_of at [] lists line = None
act_of at (target ∷ targets) lists line = Some (said.Acts at.1 at.0 (target ∷ targets) (list_at 1 lists) line)

abbrev pub act_said : Option Key → List Value → ℕ → Option Said
act_said None lists line = None
act_said (Some at) lists line = act_of at (list_at 0 lists) lists line

-- Such a call is recorded, and answered as one of which something is kept. Without a target it adds nothing.
abbrev pub and_said_if : Option Said → GraphKept → GraphKept
and_said_if None kept = kept
and_said_if (Some one) kept = and_said one kept

abbrev pub act_at : Option Key → List Value → ℕ → GraphKept → GraphKept
act_at at lists line kept = and_said_if (act_said at lists line) kept

-- what calls mean: those of the graph's rules and of names that have actions are recorded
abbrev pub graph_meaning : Meaning GraphKept
graph_meaning = record {
  call = λ name lists line sight refused ws kept. call_of (graph_rule name) name lists line sight refused ws kept;
  acted = λ name lists line ws kept. answers true ws (act_at (actions_place name ws.now) lists line kept);
}

-- ---- the graph

-- each of some texts with each of others, the first varying slowest
abbrev pub pairs_of : Value → Value → List (Text × Text)
pairs_of targets sources = flat_map (λ t. each (λ s. (t, s)) sources) targets

abbrev pub is_pairing : Pairing → Pairing → Bool
is_pairing pairings.Depends pairings.Depends = true
is_pairing pairings.Includes pairings.Includes = true
is_pairing _ _ = false

abbrev pub is_flag : Flag → Flag → Bool
is_flag flags.Always flags.Always = true
is_flag flags.NotFile flags.NotFile = true
is_flag flags.NoCare flags.NoCare = true
is_flag _ _ = false

abbrev pub pairs_in : Pairing → Said → List (Text × Text)
pairs_in pairing (said.Pairs other targets sources) = if is_pairing pairing other then pairs_of targets sources else []
pairs_in pairing _ = []

abbrev pub flagged_in : Flag → Said → Value
flagged_in flag (said.Flags other targets) = if is_flag flag other then targets else []
flagged_in flag _ = []

abbrev pub act_in : Said → Option Act
act_in (said.Acts name owner targets sources line) = Some (record { name = name; «module» = owner; targets = targets; sources = sources; line = line })
act_in _ = None

-- the texts of a call, its first list and then its second
abbrev pub texts_in : Said → Value
texts_in (said.Pairs pairing targets sources) = targets ++ sources
texts_in (said.Flags flag targets) = targets
texts_in (said.Acts name owner targets sources line) = targets ++ sources

-- the target that stands for a request without targets
abbrev pub everything : Text
everything = codes "all"

-- the graph of what was recorded, with the world that stands then
abbrev pub graph_of : Text → Worlds → List Said → Graph
graph_of path ws calls = record {
  path = path;
  world = ws;
  targets = without_repeats (everything ∷ flat_map texts_in calls);
  depends = flat_map (pairs_in pairings.Depends) calls;
  includes = flat_map (pairs_in pairings.Includes) calls;
  always = without_repeats (flat_map (flagged_in flags.Always) calls);
  notfile = without_repeats (everything ∷ flat_map (flagged_in flags.NotFile) calls);
  nocare = without_repeats (flat_map (flagged_in flags.NoCare) calls);
  acts = filter_map act_in calls;
}

-- actions stand at the name and the module of an act
abbrev pub HasActions : World → Act → Type 0
HasActions w a = map.get w.actions (a.«module», a.name) ≢ None

-- an act has a target
abbrev pub HasTarget : Act → Type 0
HasTarget a = a.targets ≢ []

-- A graph that can be planned: no frame is open in its world, there are actions at the name and module of each act, and each
-- act has a target.
pub record IsReady (g : Graph) : Type 0 where
  pub frames : g.world.now.scopes.frames ≡ []
  pub actions : AllByRecursion (HasActions g.world.now) g.acts
  pub targets : AllByRecursion HasTarget g.acts
