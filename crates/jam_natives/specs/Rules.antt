-- The names of the native and declaring rules, and the lists that native rules take.
use Rattle.std.specs.Prelude.{Bool, List, [], ◌∷◌, codes, Option, Some, None, if◌then◌else◌}
use Rattle.std.specs.List.{list_any}
use Rattle.std.specs.Str.{bytes_eq}
use Rattle.jam_journal.specs.Tables.{Text}
use Rattle.b2_base.specs.declared.shape.Count.{Count}
use Rattle.b2_base.specs.declared.shape.Count.TheVariants.{One, AtMostOne, Any, AtLeastOne}
use Rattle.jam_natives.specs.declared.native.Native.{Native}
use Rattle.jam_natives.specs.declared.native.Native.TheVariants.{Echo, Reads, Notes, Import, Export, Glob, ProjectGlob}
use Rattle.jam_natives.specs.declared.native.ReadingRule.TheVariants as reads
use Rattle.jam_natives.specs.declared.native.Noting.TheVariants as notes

abbrev pub natives : List (Text × Native)
natives =
    (codes "ECHO", Echo)
    ∷ (codes "EXIT", Reads reads.Exit)
    ∷ (codes "MATCH", Reads reads.Match)
    ∷ (codes "feature.get-values", Reads reads.GetValues)
    ∷ (codes "GLOB", Glob)
    ∷ (codes "glob", ProjectGlob)
    ∷ (codes "DEPENDS", Notes notes.Depends)
    ∷ (codes "INCLUDES", Notes notes.Includes)
    ∷ (codes "ALWAYS", Notes notes.Always)
    ∷ (codes "NOTFILE", Notes notes.NotFile)
    ∷ (codes "IMPORT", Import)
    ∷ (codes "EXPORT", Export)
    ∷ (codes "RULENAMES", Reads reads.RuleNames)
    ∷ (codes "VARNAMES", Reads reads.VarNames)
    ∷ (codes "CALLER_MODULE", Reads reads.CallerModule)
    ∷ (codes "SORT", Reads reads.Sort)
    ∷ (codes "sequence.transform", Reads reads.Transform)
    ∷ (codes "sequence.filter", Reads reads.Filter)
    ∷ []

-- the first row with this name
abbrev pub native_in : List (Text × Native) → Text → Option Native
native_in [] name = None
native_in (row ∷ rows) name = if bytes_eq name row.0 then Some row.1 else native_in rows name

unfoldable pub native_of : Text → Option Native
native_of name = native_in natives name

-- IMPORT: a module, its rules, a module, and their names there; EXPORT: a module and its rules
abbrev pub shape_of : Native → List Count
shape_of Echo = Any ∷ []
shape_of (Reads reads.Exit) = Any ∷ []
shape_of (Reads reads.Match) = AtLeastOne ∷ Any ∷ []
shape_of (Reads reads.GetValues) = One ∷ Any ∷ []
shape_of (Reads reads.RuleNames) = AtMostOne ∷ []
shape_of (Reads reads.VarNames) = AtMostOne ∷ []
shape_of (Reads reads.CallerModule) = []
shape_of (Reads reads.Sort) = Any ∷ []
shape_of (Reads reads.Transform) = AtLeastOne ∷ Any ∷ []
shape_of (Reads reads.Filter) = AtLeastOne ∷ Any ∷ []
shape_of (Notes notes.Depends) = AtLeastOne ∷ Any ∷ []
shape_of (Notes notes.Includes) = AtLeastOne ∷ Any ∷ []
shape_of (Notes notes.Always) = AtLeastOne ∷ []
shape_of (Notes notes.NotFile) = AtLeastOne ∷ []
shape_of Import = AtMostOne ∷ Any ∷ AtMostOne ∷ Any ∷ []
shape_of Export = One ∷ Any ∷ []
shape_of Glob = AtLeastOne ∷ AtLeastOne ∷ []
shape_of ProjectGlob = AtLeastOne ∷ Any ∷ []

abbrev pub declaring : List Text
declaring =
    codes "project"
    ∷ codes "exe"
    ∷ codes "lib"
    ∷ codes "obj"
    ∷ codes "alias"
    ∷ codes "install"
    ∷ codes "make"
    ∷ codes "explicit"
    ∷ codes "build-project"
    ∷ codes "use-project"
    ∷ codes "using"
    ∷ codes "feature.feature"
    ∷ codes "feature.compose"
    ∷ codes "type.register"
    ∷ codes "generators.register-standard"
    ∷ codes "import"
    ∷ codes "compile"
    ∷ codes "compile-fail"
    ∷ codes "run"
    ∷ codes "run-fail"
    ∷ []

unfoldable pub is_declaring : Text → Bool
is_declaring name = list_any (bytes_eq name) declaring
