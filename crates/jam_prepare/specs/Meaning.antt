-- What a Jam file on a disk comes to, and the targets that are asked for in it.
use Rattle.std.specs.Prelude.{◌≡◌, ℕ, Bool, List, ◌++◌, Option, None, is_some, Result, Ok, Err}
use Rattle.b2_host.specs.Disks.{Disk}
use Rattle.jam_journal.specs.Tables.{Text}
use Rattle.jam_meaning.specs.Settings.{Setting}
use Rattle.b2_own_text.specs.Readings.{reads}
use Rattle.b2_own_text.specs.DiskViews.{sight_of}
use Rattle.jam_graph.specs.declared.graph.Graph.{Graph}
use Rattle.jam_graph.specs.Graphs.{GraphKept, graph_meaning}
use Rattle.jam_graph.specs.Loads.{Refusal, Ending, loads}
use Rattle.jam_engine.specs.Plans.{requested, Target, PlansTo}

-- the turns that a file has
abbrev pub jam_turns : ℕ
jam_turns = 1000000

-- What a load over a disk is given: the files and patterns as they are seen, its own turns, and what is refused.
abbrev pub jam_setting : Disk → Option (ℕ × Text) → Setting GraphKept
jam_setting disk refused = record {
  budget = jam_turns;
  natives = graph_meaning;
  sight = sight_of disk;
  reading = λ path. (reads disk.now path).0;
  refused = refused;
}

-- what comes of a file
abbrev pub loaded : Disk → Option (ℕ × Text) → Text → Ending
loaded disk refused file = loads (jam_setting disk refused) file jam_turns

-- whether a file stands at a path
abbrev pub stands_on : Disk → Text → Bool
stands_on disk path = is_some (disk.now path)

-- what words come to in a graph, where there is one
abbrev pub PlansIn : Disk → List Text → Result Graph Refusal → Result Target Refusal → Type 0
PlansIn disk words (Ok g) result = PlansTo g (stands_on disk) (requested words) result
PlansIn disk words (Err why) result = result ≡ Err why

-- The file and the words come to lines of ECHO, and to a plan or the first refusal. `refused` is the call of which a pattern is
-- refused though it reads as one, by the turns left in it, if there is such a call.
pub record Means (disk : Disk) (refused : Option (ℕ × Text)) (file : Text) (words lines : List Text)
    (result : Result Target Refusal) : Type 0 where
  pub lines_are : lines ≡ (loaded disk refused file).echoes
  pub plans : PlansIn disk words (loaded disk refused file).result result

-- the lines begin those that the load of the file records to its end
abbrev pub BeginLoad : Disk → Text → List Text → Type 0
BeginLoad disk file lines = (more : List Text) × ((loaded disk None file).echoes ≡ lines ++ more)
