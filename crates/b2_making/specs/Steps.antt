-- A step: its outputs, its job and its text.
use Rattle.std.specs.Prelude.{ℕ, Bool, true, ◌||◌, List, ◌++◌, Option, Some, None, Result, Ok, Err, filter, map, reverse, codes, if◌then◌else◌}
use Rattle.std.specs.Str.{bytes_eq}
use Rattle.b2_base.specs.Segments.{normal_of, file_name}
use Rattle.b2_props.specs.Sets.{Pair, value_of}
use Rattle.b2_props.specs.Elements.{dir_text}
use Rattle.b2_props.specs.Texts.{property_text}
use Rattle.b2_plan.specs.declared.step.Step.{Step}
use Rattle.b2_plan.specs.Sources.{IsInRoots}
use Rattle.b2_virtual.specs.Paths.{output_path, located, IsPlaced}
use Rattle.jam_meaning.specs.Rolled.{Job, StepAnswer}
use Rattle.b2_virtual.specs.declared.entry.Entry.{Entry}
use Rattle.b2_making.specs.declared.output.Output.{Output}
use Rattle.b2_making.specs.Faults.{eval}
use Rattle.b2_making.specs.Acts.{Act, gives, refuses, and_then, for_each, InsideIf, Joins}
use Rattle.b2_making.specs.Contexts.{Context, Site}

abbrev pub paths_of : List Entry → List (List ℕ)
paths_of entries = map (λ e. e.path) entries

-- the values of a feature in a set, in order
abbrev pub values_of : List Pair → List ℕ → List (List ℕ)
values_of set feature = map (λ p. p.1) (filter (λ p. bytes_eq feature p.0) set)

-- the last `<location>` of a set
abbrev pub location_of : List Pair → Option (List ℕ)
location_of set = value_of (reverse set) (codes "location")

-- the directories of `<include>`, each in normal form
abbrev pub include_dirs : List Pair → List (List ℕ)
include_dirs set = map normal_of (values_of set (codes "include"))

-- programs and libraries move to a location
abbrev pub is_moved : List ℕ → Bool
is_moved type = bytes_eq type (codes "EXE") || bytes_eq type (codes "STATIC_LIB") || bytes_eq type (codes "SHARED_LIB")

-- the job of a step of this name
abbrev pub job : Site → List ℕ → List (List ℕ) → List (List ℕ) → Job
job s name outs ins =
    record { name = name; owner = s.owner; path = s.file; outs = outs; ins = ins; props = map property_text s.set; line = s.line }

-- the step of a job: what is only to be there before it stands after its inputs, then what its rule has noted
abbrev pub step_of : Site → Job → StepAnswer → Step
step_of s j answer = record {
  name = j.name;
  text = answer.text;
  outs = j.outs;
  ins = j.ins ++ s.order ++ answer.depends;
  dirs = include_dirs s.set;
  always = answer.always;
  notfile = answer.notfile;
}

module _ {E : Type 0} (c : Context E) where
  -- ---- outputs

  -- an output of this tail has a path at the location, where it moves and there is one, else in `bin`; it lies in the output roots
  abbrev pub path_in_bin : Site → Output → List ℕ
  path_in_bin s output = output_path (dir_text c.features s.set) output.tail

  abbrev pub placed_at : Site → Output → Option (List ℕ) → Act E (List ℕ)
  placed_at s output None = InsideIf (IsInRoots c.roots (path_in_bin s output)) (path_in_bin s output)
  placed_at s output (Some location) =
      InsideIf (IsPlaced c.roots (codes ".") location (file_name output.tail)) (located (codes ".") location (file_name output.tail))

  abbrev pub places : Site → Output → Act E Entry
  places s output =
      and_then (placed_at s output (if output.moves then location_of s.set else None)) (λ path.
      gives (record { path = path; file_type = output.file_type; tail = output.tail; is_made = true }))

  -- ---- steps

  abbrev pub texted : Site → Job → Result StepAnswer E → Act E Step
  texted s j (Ok answer) = gives (step_of s j answer)
  texted s j (Err fault) = refuses (eval fault)

  -- the step of a job gets its text and is joined
  abbrev pub asks : {A : Type 0} → Site → Job → A → Act E A
  asks s j made = and_then (texted s j (c.step_text j)) (λ step. Joins made step)

  -- a step of this name makes outputs of inputs: the outputs get their paths in order, then the step its text, and it is joined
  abbrev pub runs : Site → List ℕ → List Entry → List Output → Act E (List Entry)
  runs s name ins outputs = and_then (for_each (places s) outputs) (λ made. asks s (job s name (paths_of made) (paths_of ins)) made)
