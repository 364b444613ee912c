use Rattle.std.specs.Prelude.{◌≡◌, ℕ, Bool, List}
use Rattle.std.specs.List.{list_any}
use Rattle.std.specs.List.Sorted.{IsStrictlySortedBy}
use Rattle.std.specs.Str.{bytes_eq}
use Rattle.std.specs.Ordering.{nat_cmp}
use Rattle.std.specs.Cmp.Lexicographic.{slice_cmp}

-- These are the paths that pass a test, each once, in byte order.
pub record AreKeys (test : List ℕ → Bool) (paths : List (List ℕ)) : Type 0 where
  pub each : (path : List ℕ) → list_any (bytes_eq path) paths ≡ test path
  pub rising : IsStrictlySortedBy (slice_cmp nat_cmp) paths
