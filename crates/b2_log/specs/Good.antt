-- Which lines are good.
use Rattle.std.specs.Prelude.{◌≡◌, ℕ, ◌+◌, ◌^◌, ◌<◌, Bool, ◌&&◌, ◌||◌, nat_le, List, length, Option, Some, None, ⊤, IsTrue}
use Rattle.std.specs.List.{All, AllByRecursion, AllPairs, slice_index_or}
use Rattle.std.specs.Str.{IsUtf8}
use Rattle.b2_base.specs.Bytes.{HasNoZero, Before}
use Rattle.b2_base.specs.Normal.{IsNormal}
use Rattle.b2_log.specs.declared.line.Record.{Record}
use Rattle.b2_log.specs.declared.line.Digests.{Digests}
use Rattle.b2_log.specs.declared.line.ScanLine.{ScanLine}
use Rattle.b2_log.specs.declared.line.LogLine.{LogLine}
use Rattle.b2_log.specs.declared.line.LogLine.TheVariants as lines

-- ---- parts of a line

-- text in UTF-8 with no zero byte
pub record IsText (text : List ℕ) : Type 0 where
  pub utf8 : IsUtf8 text
  pub no_zero : HasNoZero text

-- a path in normal form
pub record IsPath (path : List ℕ) : Type 0 where
  pub text : IsText path
  pub normal : IsNormal path

-- a number that is kept in 64 bits
abbrev pub IsNumber : ℕ → Type 0
IsNumber n = n < 2 ^ 64

-- a path with a stamp
pub record IsStamped (file : List ℕ × ℕ) : Type 0 where
  pub path : IsPath file.0
  pub stamp : IsNumber file.1

-- a hexadecimal digit: `0` to `9`, or `a` to `f`
abbrev pub IsHex : ℕ → Type 0
IsHex byte = IsTrue ((nat_le 48 byte && nat_le byte 57) || (nat_le 97 byte && nat_le byte 102))

-- a digest: 64 lower-case hexadecimal digits
pub record IsDigest (digest : List ℕ) : Type 0 where
  pub count : length digest ≡ 64
  pub digits : All IsHex digest

-- a path with a stamp and a digest
pub record IsDigested (file : (List ℕ × ℕ) × List ℕ) : Type 0 where
  pub named : IsStamped file.0
  pub digest : IsDigest file.1

-- the name of an include, which may be any text
abbrev pub IsIncluded : List ℕ × Bool → Type 0
IsIncluded include = IsText include.0

-- a list of which each is so, and no longer than a number can tell
pub record IsCounted {X : Type 0} (IsSo : X → Type 0) (xs : List X) : Type 0 where
  pub each : AllByRecursion IsSo xs
  pub count : IsNumber (length xs)

-- ---- what is asked of a line

-- in byte order of path, and no path twice
abbrev pub IsRising : List (List ℕ × ℕ) → Type 0
IsRising files = AllPairs (λ x y. Before x.0 y.0) files

-- the path at a place stands before the next one
abbrev pub RisesAt : List (List ℕ × ℕ) → ℕ → Type 0
RisesAt files place = (d : List ℕ × ℕ) → Before (slice_index_or files place d).0 (slice_index_or files (place + 1) d).0

-- a digest for each path
pub record AreDigests (files : List (List ℕ × ℕ)) (digests : List (List ℕ)) : Type 0 where
  pub count : length digests ≡ length files
  pub each : AllByRecursion IsDigest digests

-- digests of a record's outputs and inputs
pub record AreRecordDigests (r : Record) (d : Digests) : Type 0 where
  pub outs : AreDigests r.outs d.outs
  pub ins : AreDigests r.ins d.ins

-- there are no digests, or one for each path
abbrev pub HasDigests : Record → Option Digests → Type 0
HasDigests r None = ⊤
HasDigests r (Some d) = AreRecordDigests r d

-- What is asked of a record that is made: at least one output, inputs in byte order of path, none of them twice, and a
-- digest for each path where it has digests.
pub record IsProperRecord (r : Record) : Type 0 where
  pub some_out : 0 < length r.outs
  pub rising : IsRising r.ins
  pub digests : HasDigests r r.digests

-- what is asked of a line that is made: of a drop at least one output, of a scan nothing
abbrev pub IsProper : LogLine → Type 0
IsProper (lines.Record r) = IsProperRecord r
IsProper (lines.Drop outs) = 0 < length outs
IsProper (lines.Scan s) = ⊤

-- ---- good lines

-- a record that is good: its text is text, its paths are paths, its numbers are kept in 64 bits, and it is proper
pub record IsGoodRecord (r : Record) : Type 0 where
  pub text : IsText r.text
  pub outs : IsCounted IsStamped r.outs
  pub ins : IsCounted IsStamped r.ins
  pub proper : IsProperRecord r

-- a drop that is good: its outputs are paths, and there is at least one
pub record IsGoodDrop (paths : List (List ℕ)) : Type 0 where
  pub outs : IsCounted IsPath paths
  pub some_out : 0 < length paths

-- a scan that is good: its path is one, and its includes are texts
pub record IsGoodScan (s : ScanLine) : Type 0 where
  pub path : IsPath s.path
  pub stamp : IsNumber s.stamp
  pub includes : IsCounted IsIncluded s.includes

-- a line that is good
abbrev pub IsGood : LogLine → Type 0
IsGood (lines.Record r) = IsGoodRecord r
IsGood (lines.Drop outs) = IsGoodDrop outs
IsGood (lines.Scan s) = IsGoodScan s
