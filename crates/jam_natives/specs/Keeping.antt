-- What the native rules keep.
use Rattle.std.specs.Prelude.{List}
use Rattle.jam_journal.specs.Tables.{Text}
use Rattle.jam_natives.specs.declared.decl.Decl.{Decl}

-- the calls of declaring rules, and the lines of ECHO, both in order
pub record Kept : Type 0 where
  pub decls : List Decl
  pub echoes : List Text
