-- That the numbers of what is declared lead somewhere.
use Rattle.std.specs.Prelude.{length}
use Rattle.b2_declared.specs.declared.whole.Declared.{Declared}
use Rattle.b2_declared.specs.Laws.{IsSound}

-- each number in what is declared is a place in the list that it leads to
abbrev pub IsNumbered : Declared → Type 0
IsNumbered d = IsSound (length d.places) d.places d.targets d.tests d.indirect
