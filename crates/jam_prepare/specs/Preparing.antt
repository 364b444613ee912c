-- What is promised of the way from a Jam file to a plan.
use Rattle.std.specs.Prelude.{ℕ, List, Option, Some, None, Result, Ok, Err}
use Rattle.std.specs.Option.{option_map}
use Rattle.b2_host.specs.Disks.{Disk}
use Rattle.b2_plan.specs.declared.plan.Plan.{Plan}
use Rattle.jam_journal.specs.Tables.{Text}
use Rattle.jam_graph.specs.declared.fault.JamFault.{JamFault}
use Rattle.jam_graph.specs.declared.fault.JamFault.TheVariants as faults
use Rattle.jam_graph.specs.Loads.{Refusal}
use Rattle.jam_graph.specs.Loading.{refusal_of, refused_in}
use Rattle.jam_engine.specs.Planning.{target_of}
use Rattle.jam_prepare.specs.Meaning.{Means, BeginLoad}

-- the call of a pattern, by the turns left in it
abbrev pub call_of : ℕ → Option Text → Option (ℕ × Text)
call_of left pattern = option_map (λ text. (left, text)) pattern

-- the file and the words come to this refusal; nothing is said of faults of the host and of out of memory
abbrev pub IsRefusedFor : Disk → Text → List Text → List Text → Option Text → Option Refusal → Type 0
IsRefusedFor disk file words lines pattern None = Unit {0}
IsRefusedFor disk file words lines pattern (Some why) = (left : ℕ) × Means disk (call_of left pattern) file words lines (Err why)

-- The answer is what the file and the words come to. A fault that is a refused pattern names the pattern.
abbrev pub IsPrepared : Disk → Text → List Text → List Text → Result Plan JamFault → Type 0
IsPrepared disk file words lines (Ok plan) = Means disk None file words lines (Ok (target_of plan))
IsPrepared disk file words lines (Err fault) = IsRefusedFor disk file words lines (refused_in fault) (refusal_of fault)

-- Where the host failed, the lines begin those of the whole load.
abbrev pub LinesTold : Disk → Text → List Text → Result Plan JamFault → Type 0
LinesTold disk file lines (Ok plan) = Unit {0}
LinesTold disk file lines (Err faults.Host) = BeginLoad disk file lines
LinesTold disk file lines (Err _) = Unit {0}
