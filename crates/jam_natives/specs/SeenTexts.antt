-- Texts that were seen.
use Rattle.std.specs.Prelude.{◌≡◌, Bool, is_some}
use Rattle.std.specs.List.{list_any}
use Rattle.std.specs.Str.{bytes_eq}
use Rattle.std.specs.FinMap as map
use Rattle.jam_journal.specs.Tables.{Text, Names}
use Rattle.jam_journal.specs.Scopes.{Value}

-- the map has these texts
abbrev pub HasSeen : Names Bool → Value → Type 0
HasSeen seen texts = (text : Text) → is_some (map.get seen text) ≡ list_any (bytes_eq text) texts
