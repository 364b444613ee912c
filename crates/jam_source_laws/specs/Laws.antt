-- Laws of evaluation over files that differ under the output roots alone.
use Rattle.std.specs.Prelude.{◌≡◌, List, All}
use Rattle.b2_base.specs.Normal.{IsNormal}
use Rattle.b2_host.specs.Disks.{Folder}
use Rattle.jam_grammar.specs.Trees.{StmtTrees}
use Rattle.jam_journal.specs.Tables.{Text}
use Rattle.jam_journal.specs.Scopes.{Value}
use Rattle.jam_meaning.specs.Faults.{Spot}
use Rattle.jam_meaning.specs.States.{State}
use Rattle.jam_meaning.specs.Settings.{Reading, Setting, IsSetting}
use Rattle.jam_meaning.specs.Eval.{run, run_call}
use Rattle.jam_meaning.specs.Kept.{Ends}
use Rattle.jam_natives.specs.Keeping.{Kept}
use Rattle.jam_natives.specs.Rows.{jam_meaning}
use Rattle.jam_source_laws.specs.Sources.{over, Agree, ShowSame, BytesAgree, RootsStay}

-- what comes of a file, and of a call, is the same over settings that show the same outside the roots with which it ends
abbrev pub FileBySources : Type 0 → Type 0
FileBySources R =
    (roots : List Text) (setting : Setting R) (folder : Folder) (names : Text → List Text) (reading : Text → Reading)
    → ShowSame roots setting (over setting folder names reading) → (path : Text) (tree : StmtTrees) (s : State R)
    → Agree roots s (run setting path tree s) (run (over setting folder names reading) path tree s)

abbrev pub CallBySources : Type 0 → Type 0
CallBySources R =
    (roots : List Text) (setting : Setting R) (folder : Folder) (names : Text → List Text) (reading : Text → Reading)
    → ShowSame roots setting (over setting folder names reading) → (name : Text) (lists : List Value) (spot : Spot) (s : State R)
    → Agree roots s (run_call setting name lists spot s) (run_call (over setting folder names reading) name lists spot s)

-- with the native rules of projects, right settings over files that agree outside the roots show the same
abbrev pub FilesShowSame : Type 0
FilesShowSame =
    (roots : List Text) (setting : Setting Kept) (folder : Folder) (names : Text → List Text) (reading : Text → Reading)
    → All IsNormal roots → setting.natives ≡ jam_meaning → IsSetting setting → IsSetting (over setting folder names reading)
    → BytesAgree roots setting.sight.folder folder → ShowSame roots setting (over setting folder names reading)

-- with the native rules of projects, frozen output roots stay, each output root is what may be one, and none is taken away
abbrev pub FileKeepsRoots : Type 0
FileKeepsRoots = (setting : Setting Kept) → setting.natives ≡ jam_meaning → (path : Text) (tree : StmtTrees) (s : State Kept) → Ends RootsStay s (run setting path tree s)

abbrev pub CallKeepsRoots : Type 0
CallKeepsRoots =
    (setting : Setting Kept) → setting.natives ≡ jam_meaning → (name : Text) (lists : List Value) (spot : Spot) (s : State Kept)
    → Ends RootsStay s (run_call setting name lists spot s)
