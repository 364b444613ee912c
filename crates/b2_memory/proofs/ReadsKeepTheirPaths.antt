-- The reads made of paths and stamps, with one more of each; and their paths are those that were given.
use Rattle.std.proofs.Common.{◌≡◌, ℕ, List, [], ◌∷◌, ◌++◌, length, map, Option, refl, ap, arith}
use Rattle.b2_host.specs.Outside.{Read}
use Rattle.b2_memory.specs.ReadNotes.{note, reads_of}

-- one read more
pub reads_more : (paths : List (List ℕ)) (stamps : List (Option ℕ × Option ℕ)) (path : List ℕ) (stamp : Option ℕ × Option ℕ) → length stamps ≡ length paths → reads_of (paths ++ path ∷ []) (stamps ++ stamp ∷ []) ≡ reads_of paths stamps ++ note path stamp ∷ []
reads_more [] [] path stamp h = refl
reads_more [] (s ∷ ss) path stamp h = absurd (omega (arith, h))
reads_more (p ∷ ps) [] path stamp h = absurd (omega (arith, h))
reads_more (p ∷ ps) (s ∷ ss) path stamp h = ap (λ rs. note p s ∷ rs) (reads_more ps ss path stamp (omega (arith, h)))

-- the paths of the reads
pub paths_are : (paths : List (List ℕ)) (stamps : List (Option ℕ × Option ℕ)) → length stamps ≡ length paths → map (λ (r : Read). r.path) (reads_of paths stamps) ≡ paths
paths_are [] stamps h = refl
paths_are (p ∷ ps) [] h = absurd (omega (arith, h))
paths_are (p ∷ ps) (s ∷ ss) h = ap (λ xs. p ∷ xs) (paths_are ps ss (omega (arith, h)))
