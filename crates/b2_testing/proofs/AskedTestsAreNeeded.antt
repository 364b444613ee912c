-- The step of a test that is asked for makes a wanted file, so it is needed.
use Rattle.std.proofs.Common.{◌≡◌, ℕ, true, List, sym, subst}
use Rattle.std.specs.List.{Contains, list_any}
use Rattle.std.specs.Str.{bytes_eq}
use Rattle.std.proofs.lemmas.List.Folds.{Any-from_list_any}
use Rattle.b2_reach.proofs.FoundMakerMakesPath.{maker_makes, same_bytes}
use Rattle.b2_runs.specs.Runs.{wanted}
use Rattle.b2_testing.specs.Laws.{AskedAreNeeded}
use Rattle.b2_testing.specs.Requested.{marker_path}

listed : (path : List ℕ) (paths : List (List ℕ)) → list_any (bytes_eq path) paths ≡ true → Contains paths path
listed path paths has = let (k, x, h, at, is) = Any-from_list_any (bytes_eq path) paths has in subst (λ (z : List ℕ). Contains paths z) (sym (same_bytes path x is)) (k, h, at)

pub asked_are_needed : AskedAreNeeded
asked_are_needed u events d test row asked =
    let (step, made) = maker_makes u.build.steps (marker_path d row) test.1 asked.made in
    wanted test.1 step (marker_path d row) (listed (marker_path d row) u.build.wanted asked.wants) made
