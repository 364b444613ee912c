-- The step that starts is given the members of its closure that have bytes.
use Rattle.std.proofs.Common.{◌≡◌, inl, ℕ, List, [], ◌∷◌, Some, refl, sym, ap, subst, ◌∙◌}
use Rattle.std.specs.List.{AllZip}
use Rattle.b2_runs.specs.Staleness.{paths_with_bytes}
use Rattle.b2_runs.specs.Runs.{on_settled}
use Rattle.b2_runs.proofs.NumberHasOneStep.{one_step}
use Rattle.b2_runs.proofs.CleanIsOne.{clean_is_one}
use Rattle.b2_runs.proofs.ClosureIsOne.{closure_is_one}
use Rattle.b2_plan.specs.Closures.{IsClosure}
use Rattle.b2_facts.specs.Facts.{Knowledge, path_at}
use Rattle.b2_facts.proofs.ListsAtPlaces.{some_is}
use Rattle.b2_turns.specs.Laws.{StartIsGiven}

-- the paths that numbers stand for are one list
paths_are_one : (f : Knowledge) (numbers : List ℕ) (paths others : List (List ℕ)) → AllZip (λ n path. path_at f n ≡ Some path) numbers paths → AllZip (λ n path. path_at f n ≡ Some path) numbers others → paths ≡ others
paths_are_one f [] [] [] z w = refl
paths_are_one f [] [] (other ∷ others) z w = absurd w
paths_are_one f [] (path ∷ paths) others z w = absurd z
paths_are_one f (n ∷ numbers) [] others z w = absurd z
paths_are_one f (n ∷ numbers) (path ∷ paths) [] z w = absurd w
paths_are_one f (n ∷ numbers) (path ∷ paths) (other ∷ others) z w =
    ap (λ p. p ∷ paths) (some_is path other (sym z.0 ∙ w.0)) ∙ ap (λ l. other ∷ l) (paths_are_one f numbers paths others z.1 w.1)

pub start_is_given : StartIsGiven
start_is_given u events disk plan s l i step numbers ins can apart looks stale at kept named =
    let has = looks.ready i numbers (inl stale) kept in
    let same : has.step ≡ can.step = one_step u.build.steps i has.step can.step has.at can.at in
    let closure : IsClosure u.build (on_settled u events) can.step has.members = subst (λ x. IsClosure u.build (on_settled u events) x has.members) same has.closure in
    let one : can.members ≡ has.members = closure_is_one (on_settled u events) u.build can.step can.members has.members (λ p x y a b. clean_is_one u.build apart p x y a.1 b.1) can.closure closure in (
      one_step u.build.steps i can.step step can.at at,
      ap paths_with_bytes one ∙ paths_are_one s.facts numbers.ins (paths_with_bytes has.members) ins has.named.ins named,
    )
