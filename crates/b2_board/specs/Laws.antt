-- Laws of what an update knows of its steps.
use Rattle.std.specs.Prelude.{◌≡◌, ◌↔◌, ℕ, false, List, Some, None}
use Rattle.b2_host.specs.declared.children.ChildEvent.{ChildEvent}
use Rattle.b2_host.specs.Disks.{Disk}
use Rattle.b2_plan.specs.declared.plan.Plan.{Plan}
use Rattle.b2_runs.specs.Staleness.{Update}
use Rattle.b2_runs.specs.Numbers.{MakesWanted, NeedsStep, LacksSource}
use Rattle.b2_sched.specs.Schedules.{IsFirst, IsNeeded, IsSettled, Needs, Lacks, CanLook, AreJudged}
use Rattle.b2_sched.specs.Joins.{IsToldAll, HasSettled}
use Rattle.b2_facts.specs.declared.file_facts.FileFacts.{FileFacts}
use Rattle.b2_facts.specs.declared.file_facts.FileLook.TheVariants as seen
use Rattle.b2_facts.specs.Facts.{Knowledge, IsAbout, file_at, with_file}
use Rattle.b2_facts.specs.Growth as facts
use Rattle.b2_reach.specs.Laws.{IsTrueInRun}
use Rattle.b2_board.specs.declared.board.Board.{Board}
use Rattle.b2_board.specs.Boards.{IsBoard, IsLookOf}

-- what is known of the steps stays so as facts grow
abbrev pub BoardGrows : Type 0
BoardGrows = (plan : Plan) (but : ℕ) (f g : Knowledge) (b : Board) → IsAbout plan.steps plan.roots f
    → facts.Grows f g → IsBoard plan but f b → IsBoard plan but g b

-- it stays so as what was seen of an output is forgotten, whose maker is not settled
abbrev pub BoardStaysAsForgotten : Type 0
BoardStaysAsForgotten = (plan : Plan) (but : ℕ) (f : Knowledge) (b : Board) (n number : ℕ) (file : FileFacts)
    → IsAbout plan.steps plan.roots f → file_at f n ≡ Some file → file.maker ≡ Some number → (IsSettled b.sched number → ⊥)
    → IsBoard plan but f b → IsBoard plan but (with_file f n (record file { seen = seen.Unasked; digest = None })) b

-- where a step that was looked at lacks something or waits, it is no longer being looked at
abbrev pub BoardWaits : Type 0
BoardWaits = (plan : Plan) (number : ℕ) (f : Knowledge) (b : Board)
    → IsLookOf false f b number → IsBoard plan number f b → IsBoard plan 0 f b

-- where nothing is being looked at, or can be, each needed step was judged that can be
abbrev pub BoardIsJudged : Type 0
BoardIsJudged = (plan : Plan) (f : Knowledge) (b : Board) → IsBoard plan 0 f b → AreJudged b.sched

-- what the schedule was told is so in a run in which what is known is true
abbrev pub BoardTellsTrue : Type 0
BoardTellsTrue = (u : Update) (events : List ChildEvent) (disk : Disk) (plan : Plan) (but : ℕ) (f : Knowledge) (b : Board)
    → u.build.steps ≡ plan.steps → u.build.wanted ≡ plan.wanted → IsTrueInRun u events disk (IsSettled b.sched) f → IsBoard plan but f b
    → ((i : ℕ) → IsFirst b.sched i ↔ MakesWanted u i)
    × ((i k : ℕ) → IsNeeded b.sched i → Needs b.sched i k → NeedsStep u events i k)
    × ((i : ℕ) → IsNeeded b.sched i → Lacks b.sched i → LacksSource u events i)

-- where nothing can be looked at, it was told all that the run has, once what is settled in the run is settled
abbrev pub BoardTellsAll : Type 0
BoardTellsAll = (u : Update) (events : List ChildEvent) (disk : Disk) (plan : Plan) (f : Knowledge) (b : Board)
    → u.build.steps ≡ plan.steps → u.build.wanted ≡ plan.wanted → IsTrueInRun u events disk (IsSettled b.sched) f → IsBoard plan 0 f b
    → ((i : ℕ) → CanLook b.sched i → ⊥) → HasSettled u events b.sched → IsToldAll u events b.sched
