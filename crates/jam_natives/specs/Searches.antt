-- What a search finds.
use Rattle.std.specs.Prelude.{Bool}
use Rattle.jam_journal.specs.Tables.{Text}
use Rattle.jam_journal.specs.Scopes.{Value}
use Rattle.jam_meaning.specs.Settings.{Sight}
use Rattle.jam_natives.specs.declared.glob.GlobSearch.{GlobSearch}
use Rattle.jam_natives.specs.Globs.{picked, found_in}

abbrev pub picks : (Text → Text → Bool) → GlobSearch → Text → Value → Value
picks matching search dir names = picked matching search.patterns.now search.excluded.now dir names

abbrev pub finds : Sight → GlobSearch → Text → Text → Value
finds sight search dir shown = found_in sight search.roots.now search.patterns.now search.excluded.now dir shown
