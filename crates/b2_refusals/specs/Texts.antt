-- The texts of refusals. What no refusal holds inside, a fault of the host or out of memory, has the empty text.
use Rattle.std.specs.Prelude.{ℕ, List, [], ◌∷◌, ◌++◌, codes}
use Rattle.std.specs.Fmt.{decimal}
use Rattle.b2_alternatives.specs.Choosing.{property_text}
use Rattle.b2_alternatives.specs.declared.fault.ChoiceFault.{ChoiceFault}
use Rattle.b2_alternatives.specs.declared.fault.ChoiceFault.TheVariants as choosing
use Rattle.b2_base.specs.declared.expand_fault.ExpandFault.{ExpandFault}
use Rattle.b2_base.specs.declared.expand_fault.ExpandFault.TheVariants as expanding
use Rattle.b2_making.specs.declared.fault.MakingFault.{MakingFault}
use Rattle.b2_making.specs.declared.fault.MakingFault.TheVariants as making
use Rattle.b2_features.specs.declared.fault.FeatureFault.{FeatureFault}
use Rattle.b2_features.specs.declared.fault.FeatureFault.TheVariants as features
use Rattle.b2_generate.specs.declared.fault.GenFault.{GenFault}
use Rattle.b2_generate.specs.declared.fault.GenFault.TheVariants as generating
use Rattle.b2_props.specs.declared.request_fault.RequestFault.{RequestFault}
use Rattle.b2_props.specs.declared.request_fault.RequestFault.TheVariants as requesting
use Rattle.b2_project_walk.specs.declared.fault.LoadFault.{LoadFault}
use Rattle.b2_project_walk.specs.declared.fault.LoadFault.TheVariants as loading
use Rattle.jam_effects.specs.declared.fault.EvalCause.{EvalCause}
use Rattle.jam_effects.specs.declared.fault.EvalCause.TheVariants as causes
use Rattle.jam_effects.specs.declared.fault.EvalFault.{EvalFault}
use Rattle.jam_effects.specs.declared.fault.EvalFault.TheVariants as evaluating
use Rattle.jam_graph.specs.declared.fault.JamFault.{JamFault}
use Rattle.jam_graph.specs.declared.fault.JamFault.TheVariants as jam
use Rattle.jam_lexer.specs.declared.fault.LexFault.{LexFault}
use Rattle.jam_lexer.specs.declared.fault.LexFault.TheVariants as lexing
use Rattle.jam_parser.specs.declared.fault.SyntaxFault.{SyntaxFault}
use Rattle.jam_parser.specs.declared.fault.SyntaxFault.TheVariants as parsing
use Rattle.jam_patterns.specs.declared.native_fault.NativeFault.{NativeFault}
use Rattle.jam_patterns.specs.declared.native_fault.NativeFault.TheVariants as natives
use Rattle.b2_refusals.specs.declared.fault.PlanRefusal.{PlanRefusal}
use Rattle.b2_refusals.specs.declared.fault.PlanRefusal.TheVariants as refusals
use Rattle.b2_refusals.specs.Pieces.{at_line, size_text, steps_text, joined, with_arrows, props_text}

-- ---- files

-- a file without tokens
abbrev pub lex_text : List ℕ → LexFault → List ℕ
lex_text path (lexing.NotUtf8 at) = path ++ codes ": byte " ++ decimal at ++ codes " is not text"
lex_text path (lexing.OpenQuote number) = at_line path number (codes "open quote")
lex_text path (lexing.OpenActions number) = at_line path number (codes "open actions")
lex_text path lexing.OutOfMemory = []

-- tokens without a tree, with the first one that is wrong; none at the end of the file
abbrev pub syntax_text : List ℕ → ℕ → List ℕ → List ℕ
syntax_text path number [] = at_line path number (codes "syntax error at end of file")
syntax_text path number (letter ∷ found) = at_line path number (codes "syntax error at " ++ letter ∷ found)

abbrev pub syntax_fault_text : List ℕ → SyntaxFault → List ℕ
syntax_fault_text path (parsing.At number found) = syntax_text path number found
syntax_fault_text path parsing.OutOfMemory = []

-- ---- evaluation

abbrev pub expand_text : List ℕ → ℕ → ExpandFault → List ℕ
expand_text path number (expanding.BadIndex text) = at_line path number (codes "bad index " ++ text)
expand_text path number (expanding.BadModifier text) = at_line path number (codes "bad modifier " ++ text)
expand_text path number expanding.TooDeep = at_line path number (codes "expansion too deep")
expand_text path number (expanding.TooLarge bytes) = at_line path number (codes "expansion of " ++ decimal bytes ++ codes " bytes")
expand_text path number expanding.OutOfMemory = []

abbrev pub native_text : List ℕ → ℕ → NativeFault → List ℕ
native_text path number (natives.PatternRefused pattern) = at_line path number (codes "bad pattern " ++ pattern)
native_text path number (natives.NoSuchRule home name) = at_line path number (codes "no rule " ++ name ++ codes " in module " ++ home)
native_text path number (natives.DependsElsewhere rule text) = at_line path number (rule ++ codes " on a foreign target " ++ text)

-- why evaluation ended at a line; a fault of tokens or syntax, or the size, of an included file stands at that file's own path and line
abbrev pub cause_text : List ℕ → ℕ → EvalCause → List ℕ
cause_text path number (causes.UnknownRule name) = at_line path number (codes "unknown rule " ++ name)
cause_text path number (causes.Arity rule) = at_line path number (codes "wrong arguments for " ++ rule)
cause_text path number (causes.Turns budget) = at_line path number (codes "more than " ++ decimal budget ++ codes " turns")
cause_text path number causes.Depth = at_line path number (codes "more than 256 levels")
cause_text path number (causes.Expand fault) = expand_text path number fault
cause_text path number (causes.Exit text) = at_line path number text
cause_text path number (causes.Native fault) = native_text path number fault
cause_text path number (causes.Include file) = at_line path number (codes "no file " ++ file)
cause_text path number (causes.Lex fault) = lex_text path fault
cause_text path number (causes.Syntax within found) = syntax_text path within found
cause_text path number (causes.TooBig file size) = size_text path size

abbrev pub eval_text : EvalFault → List ℕ
eval_text (evaluating.At path number cause) = cause_text path number cause
eval_text evaluating.Host = []
eval_text evaluating.OutOfMemory = []

-- ---- loading

abbrev pub feature_text : List ℕ → ℕ → FeatureFault → List ℕ
feature_text path number (features.Twice word) = at_line path number (word ++ codes " is there twice")
feature_text path number (features.Unknown word) = at_line path number (codes "unknown " ++ word)
feature_text path number (features.BadValue word) = at_line path number (codes "bad value " ++ word)
feature_text path number (features.ComposeConflict word) = at_line path number (codes "conflict in " ++ word)
feature_text path number features.OutOfMemory = []

abbrev pub load_text : LoadFault → List ℕ
load_text loading.NoJamroot = codes "no Jamroot"
load_text (loading.NoJamfile dir) = codes "no Jamfile in " ++ dir
load_text (loading.TooBig path size) = size_text path size
load_text (loading.Lex path fault) = lex_text path fault
load_text (loading.Syntax path fault) = syntax_fault_text path fault
load_text (loading.Eval fault) = eval_text fault
load_text (loading.Declaration path rule number) = at_line path number (codes "bad " ++ rule)
load_text (loading.Feature path number fault) = feature_text path number fault
load_text loading.Host = []
load_text loading.OutOfMemory = []

-- ---- the words of the command

abbrev pub request_text : RequestFault → List ℕ
request_text (requesting.UnknownWord word) = codes "unknown word " ++ word
request_text (requesting.UnknownValue word) = codes "unknown value " ++ word
request_text (requesting.Conflict word) = codes "conflict " ++ word
request_text requesting.OutOfMemory = []

-- ---- generation

abbrev pub choice_text : ChoiceFault EvalFault → List ℕ
choice_text (choosing.NoAlternative target set) = codes "no alternative of " ++ target ++ codes " for " ++ props_text set
choice_text (choosing.AmbiguousAlternative target set i k) = codes "alternatives " ++ decimal i ++ codes " and " ++ decimal k ++ codes " of " ++ target ++ codes " for " ++ props_text set
choice_text (choosing.Unstable target first second) = codes "unstable requirements of " ++ target
choice_text (choosing.BadAnswer target rule word) = codes "bad answer of " ++ rule ++ codes " in " ++ target ++ codes ": " ++ word
choice_text (choosing.Eval fault) = eval_text fault
choice_text choosing.OutOfMemory = []

abbrev pub making_text : MakingFault EvalFault → List ℕ
making_text (making.NoChain from to) = codes "no chain from " ++ from ++ codes " to " ++ to
making_text (making.TwoChains from to first second) = codes "two chains from " ++ from ++ codes " to " ++ to ++ codes ": " ++ joined (codes " ") first ++ codes "; " ++ joined (codes " ") second
making_text (making.PathClash path) = codes "path clash: " ++ path
making_text (making.LocationOutside path) = codes "location outside: " ++ path
making_text (making.TooManySteps count) = steps_text count
making_text (making.Eval fault) = eval_text fault
making_text making.OutOfMemory = []

abbrev pub gen_text : GenFault EvalFault → List ℕ
gen_text (generating.NoTarget name) = codes "no target " ++ name
gen_text (generating.TargetCycle targets) = codes "target cycle: " ++ with_arrows targets
gen_text (generating.UsageConflict target feature first second) = codes "usage conflict in " ++ target ++ codes ": " ++ property_text (feature, first) ++ codes " " ++ property_text (feature, second)
gen_text (generating.NotChosen fault) = choice_text fault
gen_text (generating.NotMade fault) = making_text fault
gen_text generating.OutOfMemory = []

-- ---- no plan

abbrev pub plan_text : PlanRefusal → List ℕ
plan_text (refusals.Load fault) = load_text fault
plan_text (refusals.Request fault) = request_text fault
plan_text (refusals.Generation fault) = gen_text fault

-- ---- plain Jam mode

abbrev pub jam_text : JamFault → List ℕ
jam_text (jam.NoFile path) = codes "no file " ++ path
jam_text (jam.TooBig path size) = size_text path size
jam_text (jam.Lex path fault) = lex_text path fault
jam_text (jam.Syntax path fault) = syntax_fault_text path fault
jam_text (jam.Eval fault) = eval_text fault
jam_text (jam.NoTarget name) = codes "no target " ++ name
jam_text (jam.MixedNotFile target) = codes "notfile and file in one action: " ++ target
jam_text (jam.PathClash path) = codes "path clash: " ++ path
jam_text (jam.LocationOutside path) = codes "location outside: " ++ path
jam_text (jam.TooManySteps count) = steps_text count
jam_text jam.Host = []
jam_text jam.OutOfMemory = []
