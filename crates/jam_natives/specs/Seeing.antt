-- What the native rules keep, as their type has it.
use Rattle.std.specs.Prelude.{Option, Result}
use Rattle.b2_host.specs.Outside.{Outside}
use Rattle.jam_journal.specs.Tables.{Text}
use Rattle.jam_scope.specs.Worlds.{Worlds}
use Rattle.jam_meaning.specs.declared.native_answer.NativeStep.{NativeStep}
use Rattle.jam_meaning.specs.declared.native_answer.NativeError.{NativeError}
use Rattle.jam_meaning.specs.Settings.{Sight}
use Rattle.jam_natives.specs.declared.natives.JamNatives.{JamNatives}
use Rattle.jam_natives.specs.NativeAnswers.{IsAnsweredBy}
use Rattle.jam_natives.specs.Keeping.{Kept}
use Rattle.jam_natives.specs.Rows.{Answer}

abbrev pub kept_of : JamNatives → Kept
kept_of natives = record { decls = natives.decls.items; echoes = natives.echoes }

-- all that is promised of their call
abbrev pub IsCalled : (Sight → Option Text → Worlds → Kept → Answer) → Result NativeStep NativeError → Worlds → Worlds → JamNatives → JamNatives → Outside → Outside → Type 0
IsCalled meant result before after natives now o later = IsAnsweredBy meant result before after (kept_of natives) (kept_of now) o later
