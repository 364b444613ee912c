-- The write at the place of a path is the file that stands there, by its bytes and as it is read.
use Rattle.std.proofs.Common.{◌≡◌, ℕ, ◌<◌, List, length, get_or, Some, option_and_then, slice_get, ap, sym, ◌∙◌}
use Rattle.std.specs.Option.{option_map}
use Rattle.std.proofs.lemmas.Option.{slice_get-get_or}
use Rattle.b2_host.specs.ChildProcesses.{read_at}
use Rattle.b2_host.specs.Disks.{bytes_at}
use Rattle.b2_files.specs.Stores.{Write, PlaceMap, place_of, write_path, file_of, file_at, standing, IsPlaced}

-- the file at the place of a path
stands_here : (xs : List Write) (m : PlaceMap) (path : List ℕ) (place : ℕ) (x : Write) → place_of m path ≡ Some place → slice_get xs place ≡ Some x → standing xs m path ≡ Some (file_of place x)
stands_here xs m path place x at is = ap (option_and_then (file_at xs)) at ∙ ap (option_map (file_of place)) is

pub bytes_here : (xs : List Write) (m : PlaceMap) (path : List ℕ) (place : ℕ) (x : Write) → place < length xs → place_of m path ≡ Some place → x ≡ get_or xs place x → Some x.1 ≡ bytes_at (standing xs m) path
bytes_here xs m path place x low at is =
    sym (ap (option_map (λ file. file.bytes)) (stands_here xs m path place x at (slice_get-get_or xs place x low ∙ ap Some (sym is))))

pub file_here : (xs : List Write) (m : PlaceMap) (path : List ℕ) (place : ℕ) (x : Write) → IsPlaced xs m → place < length xs → place_of m path ≡ Some place → x ≡ get_or xs place x → Some x ≡ read_at (standing xs m) path
file_here xs m path place x placed low at is =
    let found : slice_get xs place ≡ Some x = slice_get-get_or xs place x low ∙ ap Some (sym is) in
    let named : Some x.0 ≡ Some path = sym (ap (option_map write_path) found) ∙ placed path place at in
    ap (option_map (λ p. (p, x.1))) named
    ∙ sym (ap (option_map (λ file. (path, file.bytes))) (stands_here xs m path place x at found))
