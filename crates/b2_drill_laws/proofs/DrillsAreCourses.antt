-- The events of a drill write its files, edit sources that stand, and ask for updates where all stand.
use Rattle.std.proofs.Common.{◌≡◌, ℕ, zero, suc, ◌<◌, ◌≤◌, ◌*◌, List, [], ◌∷◌, ◌++◌, take, Some, refl, sym, subst, arith}
use Rattle.std.proofs.Math.Nat.{mod-lt}
use Rattle.std.specs.Fmt.{decimal}
use Rattle.b2_drill.specs.Drills.{line, source_name, project_edit, first_edit, first_edits, update, edited_in, round_of, rounds, drill_events}
use Rattle.b2_drill.specs.declared.event.Event.{Event}
use Rattle.b2_drill.specs.declared.event.Event.TheVariants.{Edit}

-- what stands: nothing yet, or the project file and so many first sources
pub data Stage : Type 0 where
  unwritten : Stage
  written : ℕ → Stage

-- an event leads from a stage to the next one, in the drill of so many targets
pub data Leads (n : ℕ) : Stage → Event → Stage → Type 0 where
  writes_project : Leads n unwritten (project_edit n) (written 0)
  writes_source : (i : ℕ) (bytes : List ℕ) → i < n → Leads n (written i) (Edit (source_name i) (Some bytes)) (written (suc i))
  edits_source : (i : ℕ) (bytes : List ℕ) → i < n → Leads n (written n) (Edit (source_name i) (Some bytes)) (written n)
  asks : Leads n (written n) update (written n)

-- and so do events, one after another
abbrev pub Course : ℕ → Stage → List Event → Stage → Type 0
Course n from [] to = from ≡ to
Course n from (event ∷ events) to = (next : Stage) × Leads n from event next × Course n next events to

course_append : (n : ℕ) (from middle to : Stage) (xs ys : List Event) → Course n from xs middle → Course n middle ys to → Course n from (xs ++ ys) to
course_append n from middle to [] ys a b = subst (λ s. Course n s ys to) (sym a) b
course_append n from middle to (x ∷ xs) ys (next, leads, more) b = (next, leads, course_append n next middle to xs ys more b)

pub course_take : (n : ℕ) (from to : Stage) (xs : List Event) (count : ℕ) → Course n from xs to → (last : Stage) × Course n from (take count xs) last
course_take n from to xs zero a = (from, refl)
course_take n from to [] (suc count) a = (from, refl)
course_take n from to (x ∷ xs) (suc count) (next, leads, more) = let rest : (last : Stage) × Course n next (take count xs) last = course_take n next to xs count more in (rest.0, (next, leads, rest.1))

sources_written : (n k : ℕ) → k ≤ n → Course n (written 0) (first_edits k) (written k)
unfolding first_edits
sources_written n zero small = refl
sources_written n (suc k) small =
    course_append n (written 0) (written k) (written (suc k)) (first_edits k) (first_edit k ∷ []) (sources_written n k (omega (arith, small)))
    (written (suc k), writes_source k (line (decimal k)) (omega (arith, small)), refl)

edited_stands : (n round : ℕ) → 0 < n → edited_in n round < n
edited_stands n round some = mod-lt (31 * round) some

one_round : (n round : ℕ) → 0 < n → Course n (written n) (round_of n round) (written n)
one_round n round some = (written n, edits_source (edited_in n round) _ (edited_stands n round some), (written n, asks, refl))

all_rounds : (n count : ℕ) → 0 < n → Course n (written n) (rounds n count) (written n)
unfolding rounds
all_rounds n zero some = refl
all_rounds n (suc count) some =
    course_append n (written n) (written n) (written n) (rounds n count) (round_of n (suc count)) (all_rounds n count some) (one_round n (suc count) some)

pub drill_course : (n : ℕ) → 0 < n → Course n unwritten (drill_events n) (written n)
drill_course n some =
    course_append n unwritten (written n) (written n) ((project_edit n ∷ [] ++ first_edits n) ++ update ∷ [] ++ rounds n 5) (update ∷ [])
    (course_append n unwritten (written n) (written n) ((project_edit n ∷ [] ++ first_edits n) ++ update ∷ []) (rounds n 5)
    (course_append n unwritten (written n) (written n) (project_edit n ∷ [] ++ first_edits n) (update ∷ [])
    (course_append n unwritten (written 0) (written n) (project_edit n ∷ []) (first_edits n) (written 0, writes_project, refl) (sources_written n n (omega arith)))
    (written n, asks, refl))
    (all_rounds n 5 some))
    (written n, asks, refl)
