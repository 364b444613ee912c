-- Something with what it was at marks.
use Rattle.std.specs.Prelude.{List, [], ◌∷◌, Option}
use Rattle.std.specs.Option.{unwrap_or}

-- the present state, and the state at each mark, the newest first
abbrev pub Marked : Type 0 → Type 0
Marked A = A × List A

-- a change of the present state alone
abbrev pub changed : {A : Type 0} → (A → A) → Marked A → Marked A
changed change p = (change p.0, p.1)

-- a new mark
abbrev pub marked : {A : Type 0} → Marked A → Marked A
marked p = (p.0, p.0 ∷ p.1)

-- the state at the newest mark is the present one again, and the mark is gone; without a mark nothing changes
abbrev pub rolled_to : {A : Type 0} → Marked A → List A → Marked A
rolled_to p [] = p
rolled_to p (before ∷ more) = (before, more)

abbrev pub rolled : {A : Type 0} → Marked A → Marked A
rolled p = rolled_to p p.1

-- the values at the marks, by what the first change since each replaced
abbrev pub saved_by : {A : Type 0} → A → Option A → List (Option A) → List A
saved_by now before [] = []
saved_by now before (older ∷ more) = unwrap_or before now ∷ saved_by (unwrap_or before now) older more
