-- What evaluation changes.
use Rattle.std.specs.Prelude.{ℕ}
use Rattle.jam_scope.specs.Worlds.{World, Worlds}
use Rattle.jam_scope.specs.Changes.{changed, rescoped}
use Rattle.jam_journal.specs.Scopes.{Scopes, leave}

-- the worlds, the turns that are left, and what the natives keep
pub record State (R : Type 0) : Type 0 where
  pub worlds : Worlds
  pub left : ℕ
  pub kept : R

abbrev pub with_worlds : {R : Type 0} → (Worlds → Worlds) → State R → State R
with_worlds change s = record s { worlds = change s.worlds }

abbrev pub with_world : {R : Type 0} → (World → World) → State R → State R
with_world change = with_worlds (changed change)

abbrev pub with_scopes : {R : Type 0} → (Scopes → Scopes) → State R → State R
with_scopes change = with_worlds (rescoped change)

-- the newest frame is closed
abbrev pub after_frame : {R : Type 0} → State R → State R
after_frame = with_scopes leave
