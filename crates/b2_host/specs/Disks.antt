use Rattle.std.specs.Prelude.{◌≡◌, ℕ, ◌<◌, ◌≤◌, List, length, Option, Some, None, if◌then◌else◌}
use Rattle.std.specs.Option.{option_map}
use Rattle.std.specs.List.{Contains}
use Rattle.std.specs.Str.{bytes_eq}
use Rattle.b2_host.specs.declared.files.ReadAnswer.{ReadAnswer}
use Rattle.b2_host.specs.declared.files.ReadAnswer.TheVariants as answers

-- a file: its stamp and its bytes
pub record File : Type 0 where
  pub stamp : ℕ
  pub bytes : List ℕ

-- what stands at each path
abbrev pub Folder : Type 0
Folder = List ℕ → Option File

-- a file that stood or stands at a path
pub record Past : Type 0 where
  pub path : List ℕ
  pub file : File

-- The visible files of a host: what stands now, and all that ever stood.
pub record Disk : Type 0 where
  pub now : List ℕ → Option File
  pub past : List Past

-- the same but at one path
abbrev pub put : {X : Type 0} → List ℕ → X → (List ℕ → X) → List ℕ → X
put path x before = λ other. if bytes_eq path other then x else before other

-- the bytes at a path
abbrev pub bytes_at : Folder → List ℕ → Option (List ℕ)
bytes_at folder path = option_map (λ file. file.bytes) (folder path)

-- this stood: the file at a path with a stamp had these bytes
abbrev pub Stood : List Past → List ℕ → File → Type 0
Stood past path file = Contains past (record { path = path; file = file })

-- one content for a path and a stamp
abbrev pub IsOneEach : List Past → Type 0
IsOneEach past = (path : List ℕ) (stamp : ℕ) (x y : List ℕ) → Stood past path (record { stamp = stamp; bytes = x }) → Stood past path (record { stamp = stamp; bytes = y }) → x ≡ y

-- What stands is among what stood, and there is one content for a path and a stamp.
pub record IsConsistent (disk : Disk) : Type 0 where
  pub one_each : IsOneEach disk.past
  pub stands : (path : List ℕ) (file : File) → disk.now path ≡ Some file → Stood disk.past path file

-- what is answered on a path: the stamp of the file there
abbrev pub StatTold : List ℕ → Option ℕ → Folder → Type 0
StatTold path stamp folder = stamp ≡ option_map (λ file. file.stamp) (folder path)

-- what a read of at most so many bytes answers
abbrev pub ReadTold : List ℕ → ℕ → ReadAnswer → Folder → Type 0
ReadTold path most (answers.Bytes bytes) folder = (bytes_at folder path ≡ Some bytes.items) × (length bytes.items ≤ most)
ReadTold path most answers.Missing folder = folder path ≡ None
ReadTold path most (answers.TooBig size) folder = (bytes : List ℕ) × (bytes_at folder path ≡ Some bytes) × (size ≡ length bytes) × (most < size)

-- the disk without the file at a path
abbrev pub without : List ℕ → Disk → Disk
without path disk = record { now = put path None disk.now; past = disk.past }
