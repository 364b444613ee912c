-- What a project file's calls of declaring rules are, and which directories they name.
use Rattle.std.specs.Prelude.{ℕ, List, [], Option, Some, None}
use Rattle.b2_declaring_calls.specs.declared.declaration.Declaration.{Declaration}
use Rattle.b2_declaring_calls.specs.Declarations.{shape_of}
use Rattle.b2_declaring_calls.specs.Directories.{named_directories}
use Rattle.b2_declared.specs.declared.visit.Call.{Call}
use Rattle.jam_journal.specs.Tables.{Text}
use Rattle.jam_natives.specs.declared.decl.Decl.{Decl}

-- a call of a declaring rule that the file of the project at a place made
abbrev pub call_of : ℕ → Decl → Call
call_of project decl = record {
  project = project;
  rule = decl.rule;
  line = decl.line;
  declaration = shape_of decl.rule decl.lists;
  refused = decl.refused;
}

-- the directories that a call names, also where what it declares is refused; one of a wrong shape names none
abbrev pub names_of : Text → Option Declaration → List Text
names_of dir None = []
names_of dir (Some declaration) = named_directories dir declaration
