-- How much is left to be done at most: a bound on the turns of generation.
use Rattle.std.specs.Prelude.{ℕ, zero, suc, ◌+◌, ◌*◌, List, [], ◌∷◌, ◌++◌, length, map, if◌then◌else◌}
use Rattle.b2_references.specs.Names.{Name, is_among}
use Rattle.b2_generate.specs.OpenTargets.{Standing}
use Rattle.b2_generate.specs.Stack.{Frame, opened}

-- how many of all names are not among some
abbrev pub left : List Name → List Name → ℕ
left [] names = 0
left (name ∷ all) names = (if is_among names name then 0 else 1) + left all names

-- the turns that a target can take while so many are not open
abbrev pub turns : ℕ → ℕ → ℕ
turns count zero = 1
turns count (suc levels) = suc (suc count * turns count levels)

abbrev pub done_names : Standing → List Name
done_names s = map (λ d. d.0) s.done

-- the turns of an open target for which these were generated
abbrev pub turns_of : List Name → List Frame → List Name → ℕ
turns_of all stack done = suc (left all done) * turns (length all) (left all (opened stack))

-- those of the targets that wait, the first of them for one of this name
abbrev pub waiting_turns : List Name → Name → List Frame → ℕ
waiting_turns all name [] = 0
waiting_turns all name (f ∷ rest) = turns_of all (f ∷ rest) (done_names f.stands ++ name ∷ []) + waiting_turns all f.name rest

-- those of all open targets, the newest first
abbrev pub turns_left : List Name → List Frame → ℕ
turns_left all [] = 0
turns_left all (f ∷ rest) = turns_of all (f ∷ rest) (done_names f.stands) + waiting_turns all f.name rest
