-- What the definitions say in other words.
use Rattle.std.specs.Prelude.{◌≡◌, ℕ, List, All}
use Rattle.std.specs.List.{list_any}
use Rattle.b2_base.specs.Normal.{IsNormal}
use Rattle.b2_base.specs.Below.{is_below}
use Rattle.b2_host.specs.Disks.{Folder}
use Rattle.b2_host.specs.Listings.{IsDirectlyIn}
use Rattle.jam_natives.specs.Globs.{is_output_dir}

-- a file directly in a directory lies below an output root exactly where the directory is an output root, or lies below one
abbrev pub HidesOutputs : Type 0
HidesOutputs =
    (folder : Folder) (roots : List (List ℕ)) (dir name : List ℕ) → All IsNormal roots → IsNormal dir → (file : IsDirectlyIn folder dir name)
    → list_any (λ root. is_below file.path root) roots ≡ is_output_dir roots dir
