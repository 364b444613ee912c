-- What is known of the file with a number.
use Rattle.std.specs.Prelude.{◌≡◌, ℕ, ◌<◌, List, length, slice_index, Option, Some, None}
use Rattle.b2_facts.specs.declared.file_facts.FileLook.{FileLook}
use Rattle.b2_facts.specs.declared.file_facts.FileLook.TheVariants as seen
use Rattle.b2_facts.specs.declared.file_facts.FileFacts.{FileFacts}
use Rattle.b2_facts.specs.Facts.{Knowledge, IsNumber, file_at}
use Rattle.b2_facts.specs.Asks.{seen_of}

-- ---- stamps

-- what was seen of a file, where there are facts of it
abbrev pub seen_in : Option FileFacts → FileLook
seen_in None = seen.Unasked
seen_in (Some file) = file.seen

-- what was seen of the file with a number
abbrev pub seen_at : Knowledge → ℕ → FileLook
seen_at g n = seen_in (file_at g n)

-- the stamp with which a file was seen to stand
abbrev pub stamp_in : FileLook → Option ℕ
stamp_in seen.Unasked = None
stamp_in seen.Gone = None
stamp_in (seen.Stands stamp) = Some stamp

-- the stamp with which the file with a number was seen to stand
abbrev pub stamp_of : Knowledge → ℕ → Option ℕ
stamp_of g n = stamp_in (seen_at g n)

-- The file with a number was asked for: it was seen to stand, or to be gone.
abbrev pub IsAsked : Knowledge → ℕ → Type 0
IsAsked g n = seen_at g n ≡ seen_of (stamp_of g n)

-- the file with a number was seen to stand
abbrev pub IsStanding : Knowledge → ℕ → Type 0
IsStanding g n = (stamp : ℕ) × (stamp_of g n ≡ Some stamp)

-- ---- digests

-- the digest of a file, where there are facts of it
abbrev pub digest_in : Option FileFacts → Option (List ℕ)
digest_in None = None
digest_in (Some file) = file.digest

-- the digest that is known of the file with a number
abbrev pub digest_at : Knowledge → ℕ → Option (List ℕ)
digest_at g n = digest_in (file_at g n)

-- ---- files of a list

-- each of these stands for a path
abbrev pub AreNumbers : Knowledge → List ℕ → Type 0
AreNumbers g ns = (k : ℕ) → k < length ns → IsNumber g (slice_index ns k)

-- each of these files was asked for
abbrev pub AllAsked : Knowledge → List ℕ → Type 0
AllAsked g ns = (k : ℕ) → k < length ns → IsAsked g (slice_index ns k)

-- each of these files was seen to stand
abbrev pub AllStand : Knowledge → List ℕ → Type 0
AllStand g ns = (k : ℕ) → k < length ns → IsStanding g (slice_index ns k)
