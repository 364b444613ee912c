-- Which call has a pattern that is refused although it reads as one. Whether `regex` has room for a pattern is no question of
-- the language, so that evaluation is given this: a call, by the turns that are left in it, and the text of the pattern. No two
-- calls have the same number of turns left.
use Rattle.std.specs.Prelude.{◌≡◌, ℕ, ◌==◌, ◌<◌, ◌≤◌, Option, Some, None, if◌then◌else◌}
use Rattle.jam_journal.specs.Tables.{Text}

-- what is refused in the call with so many turns left
abbrev pub refused_here : Option (ℕ × Text) → ℕ → Option Text
refused_here None left = None
refused_here (Some call) left = if call.0 == left then Some call.1 else None

-- no call is named that was made while turns fell from one number to another
abbrev pub NamesNone : Option (ℕ × Text) → ℕ → ℕ → Type 0
NamesNone refused before after = (left : ℕ) → after ≤ left → left < before → refused_here refused left ≡ None

-- what was refused while turns fell from one number to another is what is named: a text in the last call, or nothing
abbrev pub Refuses : Option (ℕ × Text) → ℕ → ℕ → Option Text → Type 0
Refuses refused before after None = NamesNone refused before after
Refuses refused before after (Some text) = refused ≡ Some (after, text)

-- where a pattern was refused, a turn was taken for the call
abbrev pub TookTurn : Option Text → ℕ → ℕ → Type 0
TookTurn None before after = Unit {0}
TookTurn (Some text) before after = after < before
