use Rattle.std.specs.Prelude.{ℕ, List, []}
use Rattle.std.specs.Borrow.{Bor}
use Rattle.std.specs.Option.{option_map_or}
use Rattle.std.specs.Ordering.{nat_cmp}
use Rattle.std.specs.declared.cmp.Ordering.{Ordering}
use Rattle.std.specs.Cmp.Lexicographic.{slice_cmp}
use Rattle.std.specs.BTreeMap.{BTreeMap, get_by}

-- bytes by names, both as references
abbrev pub Found : Type 0
Found = BTreeMap (Bor (List ℕ)) (Bor (List ℕ))

-- the order of what references point to
abbrev pub ref_cmp : Bor (List ℕ) → Bor (List ℕ) → Ordering
ref_cmp x y = slice_cmp nat_cmp x.now y.now

-- the bytes that were found for a name, or none
abbrev pub bytes_found : Found → List ℕ → List ℕ
bytes_found found name = option_map_or (λ bytes. bytes.now) (get_by (λ key. slice_cmp nat_cmp name key.now) found) []
