-- Texts that several may hold.
use Rattle.std.specs.Prelude.{string_bytes}
use Rattle.jam_journal.specs.declared.name.Holding.{Holding}
use Rattle.jam_journal.specs.declared.name.Holding.TheVariants.{Fixed, Plain, Shared}
use Rattle.jam_journal.specs.Tables.{Text}
use Rattle.jam_journal.specs.Slots.{fixed_name}

abbrev pub held_text : Holding → Text
held_text (Fixed place) = fixed_name place
held_text (Plain text) = text
held_text (Shared text) = string_bytes text.value
