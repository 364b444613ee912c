-- A drill: the session of a generated project. The project is written and updated; five times one of its sources is edited and an
-- update follows; and a last update finds nothing changed.
use Rattle.std.specs.Prelude.{ℕ, zero, suc, ◌*◌, ◌/◌, ◌%◌, List, [], ◌∷◌, ◌++◌, Some, codes}
use Rattle.std.specs.Fmt.{decimal}
use Rattle.b2_drill.specs.declared.event.Event.{Event}
use Rattle.b2_drill.specs.declared.event.Event.TheVariants.{Edit, Update}

-- a line feed after the line
abbrev pub line : List ℕ → List ℕ
line text = text ++ 10 ∷ []

-- ---- the project

abbrev pub source_name : ℕ → List ℕ
source_name i = codes "s" ++ decimal i

abbrev pub target_name : ℕ → List ℕ
target_name i = codes "t" ++ decimal i

-- what a target is made of: its source, and, but for the first target, one with half its number
abbrev pub sources_of : ℕ → List ℕ
sources_of zero = source_name 0
sources_of (suc i) = source_name (suc i) ++ codes " " ++ target_name (suc i / 2)

-- the line that declares a target
abbrev pub make_line : ℕ → List ℕ
make_line i = line (codes "make " ++ target_name i ++ codes " : " ++ sources_of i ++ codes " : @join ;")

-- the lines of so many targets
unfoldable pub make_lines : ℕ → List ℕ
make_lines zero = []
make_lines (suc n) = make_lines n ++ make_line n

-- the line that says how each target is made
abbrev pub join_line : List ℕ
join_line = line (codes "actions join { cat $(>) > $(<) }")

abbrev pub jamroot : ℕ → List ℕ
jamroot n = join_line ++ make_lines n

-- ---- the events

-- the `Jamroot` of so many targets is written
abbrev pub project_edit : ℕ → Event
project_edit n = Edit (codes "Jamroot") (Some (jamroot n))

-- a source is written for the first time
abbrev pub first_edit : ℕ → Event
first_edit i = Edit (source_name i) (Some (line (decimal i)))

-- so many sources are
unfoldable pub first_edits : ℕ → List Event
first_edits zero = []
first_edits (suc n) = first_edits n ++ first_edit n ∷ []

abbrev pub update : Event
update = Update (codes "-j4" ∷ [])

-- the source that is edited in a round, of so many sources
abbrev pub edited_in : ℕ → ℕ → ℕ
edited_in n round = 31 * round % n

abbrev pub later_edit : ℕ → ℕ → Event
later_edit i round = Edit (source_name i) (Some (line (decimal i ++ codes " " ++ decimal round)))

abbrev pub round_of : ℕ → ℕ → List Event
round_of n round = later_edit (edited_in n round) round ∷ update ∷ []

-- the first rounds
unfoldable pub rounds : ℕ → ℕ → List Event
rounds n zero = []
rounds n (suc round) = rounds n round ++ round_of n (suc round)

-- the drill of a project with so many targets
abbrev pub drill_events : ℕ → List Event
drill_events n = project_edit n ∷ [] ++ first_edits n ++ update ∷ [] ++ rounds n 5 ++ update ∷ []
