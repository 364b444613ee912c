-- What the declaring calls of a load make of its projects, main targets and tests, one call after another.
use Rattle.std.specs.Prelude.{ℕ, ◌+◌, Bool, true, false, not, ◌&&◌, List, [], ◌∷◌, ◌++◌, Option, Some, None, is_some, Result, Ok, map, length, slice_get, slice_set, if◌then◌else◌}
use Rattle.std.specs.List.{filter_map, list_all}
use Rattle.std.specs.Option.{option_map_or}
use Rattle.std.specs.Map.{lookup}
use Rattle.std.specs.Str.{bytes_eq}
use Rattle.b2_base.specs.Segments.{path_from}
use Rattle.b2_base.specs.Results.{and_then}
use Rattle.b2_features.specs.declared.fault.FeatureFault.{FeatureFault}
use Rattle.b2_features.specs.Table.{DeclaredFeature}
use Rattle.b2_props.specs.Sets.{Pair}
use Rattle.b2_props.specs.declared.requirement.Requirement.{Requirement}
use Rattle.b2_props.specs.declared.requirement.Requirement.TheVariants as requirements
use Rattle.b2_property_texts.specs.declared.reading.Conditional.{Conditional}
use Rattle.b2_property_texts.specs.declared.reading.RequirementText.{RequirementText}
use Rattle.b2_property_texts.specs.declared.reading.RequirementText.TheVariants.{Plain, Indirect}
use Rattle.b2_property_texts.specs.Clashes.{has_two_values, unconditional_pairs}
use Rattle.b2_property_texts.specs.Readings.{usage_reading, requirement_reading, all_read}
use Rattle.b2_declaring_calls.specs.declared.declaration.Declaration.{Declaration}
use Rattle.b2_declaring_calls.specs.declared.declaration.Declaration.TheVariants.{Project, Main, Explicit, BuildProject, UseProject, Test}
use Rattle.b2_declaring_calls.specs.declared.declaration.Attributes.{Attributes}
use Rattle.b2_declaring_calls.specs.declared.declaration.ListName.{ListName}
use Rattle.b2_declaring_calls.specs.declared.declaration.ListName.TheVariants.{Requirements, DefaultBuild, Usage}
use Rattle.b2_declaring_calls.specs.declared.declaration.MainTarget.{MainTarget}
use Rattle.b2_declaring_calls.specs.declared.declaration.PropertyList.{PropertyList}
use Rattle.b2_declaring_calls.specs.declared.declaration.Test.{Test as TestDeclared}
use Rattle.b2_declared.specs.declared.fault.DeclaringFault.{DeclaringFault}
use Rattle.b2_declared.specs.declared.visit.Visit.{Visit}
use Rattle.b2_declared.specs.declared.visit.Call.{Call}
use Rattle.b2_declared.specs.declared.lists.Lists.{Lists}
use Rattle.b2_declared.specs.declared.place.Place.{Place}
use Rattle.b2_declared.specs.declared.place.Target.{Target}
use Rattle.b2_declared.specs.declared.place.TestCall.{TestCall}
use Rattle.b2_declared.specs.declared.place.IndirectRule.{IndirectRule}
use Rattle.b2_declared.specs.Outcomes.{all_steps}
use Rattle.b2_declared.specs.DeclaringCalls.{visit_of, unless, after_reading}
use Rattle.b2_declared.specs.Carrying.{properties_in}

-- ---- the property lists of a project or a main target

-- the requirements of some texts, or the first fault
abbrev pub requirements_in : List DeclaredFeature → Visit → List (List ℕ) → Result (List RequirementText) FeatureFault
requirements_in features v texts = all_read (map (requirement_reading features v.dir) texts)

-- the usage requirements of some texts, which no rule answers, or the first fault
abbrev pub usages_in : List DeclaredFeature → Visit → List (List ℕ) → Result (List Conditional) FeatureFault
usages_in features v texts = all_read (map (usage_reading features v.dir) texts)

abbrev pub no_lists : Lists
no_lists = record { requirements = []; defaults = []; usage = [] }

-- what the lists so far say, with the texts of one more
unfoldable pub with_texts : List DeclaredFeature → Visit → Call → ListName → List (List ℕ) → Lists → Result Lists DeclaringFault
with_texts features v c Requirements texts l = after_reading v c (requirements_in features v texts) (λ rs. Ok (record l { requirements = l.requirements ++ rs }))
with_texts features v c DefaultBuild texts l = after_reading v c (properties_in features v texts) (λ ds. Ok (record l { defaults = l.defaults ++ ds }))
with_texts features v c Usage texts l = after_reading v c (usages_in features v texts) (λ us. Ok (record l { usage = l.usage ++ us }))

abbrev pub is_of_requirements : PropertyList → Bool
is_of_requirements list = is_name list.name
  where
    is_name : ListName → Bool
    is_name Requirements = true
    is_name DefaultBuild = false
    is_name Usage = false

-- whether no list is one of requirements
abbrev pub are_others : List PropertyList → Bool
are_others lists = list_all (λ list. not (is_of_requirements list)) lists

-- whether a list is the last one of requirements, where others stand after it
abbrev pub is_last : PropertyList → List PropertyList → Bool
is_last list more = is_of_requirements list && are_others more

-- whether the requirements give a feature that is not free two values without conditions, where the last list of them was
-- read
abbrev pub has_clash : List DeclaredFeature → PropertyList → List PropertyList → Lists → Bool
has_clash features list more l = is_last list more && has_two_values features (unconditional_pairs l.requirements)

-- one more list, where others stand after it
unfoldable pub with_list : List DeclaredFeature → Visit → Call → PropertyList → List PropertyList → Lists → Result Lists DeclaringFault
with_list features v c list more l = and_then (λ next. unless v c (has_clash features list more next) (Ok next)) (with_texts features v c list.name list.texts l)

-- further lists, read in order
abbrev pub with_lists : List DeclaredFeature → Visit → Call → Lists → List PropertyList → Result Lists DeclaringFault
with_lists features v c l [] = Ok l
with_lists features v c l (list ∷ more) = and_then (λ next. with_lists features v c next more) (with_list features v c list more l)

-- all property lists of a call
unfoldable pub lists_in : List DeclaredFeature → Visit → Call → List PropertyList → Result Lists DeclaringFault
lists_in features v c lists = with_lists features v c no_lists lists

-- ---- indirect requirements

-- the requirements, of which each indirect one has the next free number, from a first one on
unfoldable pub numbered : ℕ → List RequirementText → List Requirement
numbered first [] = []
numbered first (Plain p ∷ more) = requirements.Plain p.conditions p.property ∷ numbered first more
numbered first (Indirect rule ∷ more) = requirements.Indirect first ∷ numbered (first + 1) more

-- the rule that a requirement names
abbrev pub rule_of : Call → RequirementText → Option IndirectRule
rule_of c (Plain p) = None
rule_of c (Indirect rule) = Some (record { project = c.project; rule = rule; line = c.line })

-- the rules that some requirements of a call name, in order
unfoldable pub rules_in : Call → List RequirementText → List IndirectRule
rules_in c texts = filter_map (rule_of c) texts

-- a usage requirement as a requirement
abbrev pub plain : Conditional → Requirement
plain u = requirements.Plain u.conditions u.property

-- ---- ids

-- the directory of an id
abbrev pub dir_of : List (List ℕ × List ℕ) → List ℕ → Option (List ℕ)
dir_of ids id = lookup (bytes_eq id) ids

-- an id with its directory, where the id has none yet
abbrev pub with_id : List (List ℕ × List ℕ) → List ℕ → List ℕ → List (List ℕ × List ℕ)
with_id ids id dir = if is_some (dir_of ids id) then ids else ids ++ (id, dir) ∷ []

-- the id of a project, where its call gives one
abbrev pub with_own_id : List (List ℕ × List ℕ) → Option (List ℕ) → List ℕ → List (List ℕ × List ℕ)
with_own_id ids None dir = ids
with_own_id ids (Some id) dir = with_id ids id dir

-- ---- projects and main targets

-- what was gathered so far: the projects, the main targets, the tests, the ids, and the rules of indirect requirements
pub record Gathered : Type 0 where
  pub places : List Place
  pub targets : List Target
  pub tests : List TestCall
  pub ids : List (List ℕ × List ℕ)
  pub indirect : List IndirectRule

-- a project before its calls
abbrev pub bare : Visit → Place
bare v = record { dir = v.dir; file = v.file; «module» = v.module; parent = v.parent; requirements = []; usage = []; defaults = []; builds = []; explicit = [] }

-- a project of a number, changed
abbrev pub with_place : List Place → ℕ → (Place → Place) → List Place
with_place places project change = option_map_or (λ p. slice_set places project (change p)) (slice_get places project) places

-- a project with what its lists say; its indirect requirements have the next free numbers, from a first one on
abbrev pub attributed : ℕ → Lists → Place → Place
attributed first l p = record p { requirements = numbered first l.requirements; usage = map plain l.usage; defaults = l.defaults }

-- `project`: its lists, and its id
unfoldable pub with_attributes : List DeclaredFeature → Visit → Call → Attributes → Gathered → Result Gathered DeclaringFault
with_attributes features v c a g =
    and_then (λ l. Ok (record g {
      places = with_place g.places c.project (attributed (length g.indirect) l);
      ids = with_own_id g.ids a.id v.dir;
      indirect = g.indirect ++ rules_in c l.requirements;
    }))
    (lists_in features v c a.lists)

-- a main target of a call, with what its lists say
abbrev pub target_with : Call → MainTarget → List Requirement → List Requirement → List Pair → Target
target_with c m requirements usage defaults = record {
  project = c.project;
  name = m.name;
  kind = m.kind;
  sources = m.sources;
  rule = m.rule;
  requirements = requirements;
  usage = usage;
  defaults = defaults;
  line = c.line;
}

-- one main target more; its indirect requirements have the next free numbers
unfoldable pub one_target_more : Call → MainTarget → Lists → Gathered → Gathered
one_target_more c m l g = record g {
  targets = g.targets ++ target_with c m (numbered (length g.indirect) l.requirements) (map plain l.usage) l.defaults ∷ [];
  indirect = g.indirect ++ rules_in c l.requirements;
}

-- a main target: its lists are read
unfoldable pub with_target : List DeclaredFeature → Visit → Call → MainTarget → Gathered → Result Gathered DeclaringFault
with_target features v c m g = and_then (λ l. Ok (one_target_more c m l g)) (lists_in features v c m.lists)

-- a test of a call, with its requirements
abbrev pub test_with : Call → TestDeclared → List Requirement → TestCall
test_with c t requirements = record { project = c.project; rule = c.rule; name = t.name; sources = t.sources; requirements = requirements; line = c.line }

-- one test more; its indirect requirements have the next free numbers
unfoldable pub one_test_more : Call → TestDeclared → Lists → Gathered → Gathered
one_test_more c t l g = record g {
  tests = g.tests ++ test_with c t (numbered (length g.indirect) l.requirements) ∷ [];
  indirect = g.indirect ++ rules_in c l.requirements;
}

-- a test: its list is read
unfoldable pub with_test : List DeclaredFeature → Visit → Call → TestDeclared → Gathered → Result Gathered DeclaringFault
with_test features v c t g = and_then (λ l. Ok (one_test_more c t l g)) (lists_in features v c t.lists)

-- `explicit`: names that a request of the project does not stand for
abbrev pub with_explicit : Call → List (List ℕ) → Gathered → Gathered
with_explicit c names g = record g { places = with_place g.places c.project (λ p. record p { explicit = p.explicit ++ names }) }

-- `build-project`: a directory that a request of the project stands for
abbrev pub with_build : Visit → Call → List ℕ → Gathered → Gathered
with_build v c dir g = record g { places = with_place g.places c.project (λ p. record p { builds = p.builds ++ path_from v.dir dir ∷ [] }) }

-- `use-project`: an id of another directory
abbrev pub with_use : Visit → List ℕ → List ℕ → Gathered → Gathered
with_use v id dir g = record g { ids = with_id g.ids id (path_from v.dir dir) }

-- what a declaration adds
abbrev pub gathered : List DeclaredFeature → Visit → Call → Declaration → Gathered → Result Gathered DeclaringFault
gathered features v c (Project attributes) g = with_attributes features v c attributes g
gathered features v c (Main target) g = with_target features v c target g
gathered features v c (Test test) g = with_test features v c test g
gathered features v c (Explicit names) g = Ok (with_explicit c names g)
gathered features v c (BuildProject dir) g = Ok (with_build v c dir g)
gathered features v c (UseProject id dir) g = Ok (with_use v id dir g)
gathered features v c _ g = Ok g

-- what a call adds
abbrev pub gathered_of : List DeclaredFeature → Visit → Call → Option Declaration → Gathered → Result Gathered DeclaringFault
gathered_of features v c None g = Ok g
gathered_of features v c (Some d) g = gathered features v c d g

-- the projects before any call
abbrev pub nothing_gathered : List Visit → Gathered
nothing_gathered visits = record { places = map bare visits; targets = []; tests = []; ids = []; indirect = [] }

-- the step of a call among the projects of a load
abbrev pub gathering : List DeclaredFeature → List Visit → Gathered → Call → Result Gathered DeclaringFault
gathering features visits g c = gathered_of features (visit_of visits c) c c.declaration g

-- what all calls add in order, up to the first whose property texts are refused
abbrev pub gathered_by : List DeclaredFeature → List Visit → List Call → Result Gathered DeclaringFault
gathered_by features visits calls = all_steps (gathering features visits) (nothing_gathered visits) calls
