use Rattle.std.specs.Prelude.{◌≡◌, ℕ, List, Option, Some, None, ⊤, map}
use Rattle.std.specs.List.{Contains, AllZip}
use Rattle.b2_host.specs.Disks.{Past, Stood}
use Rattle.b2_plan.specs.Sources.{Include}
use Rattle.b2_log.specs.declared.line.Record.{Record}
use Rattle.b2_log.specs.declared.line.Digests.{Digests}
use Rattle.b2_log.specs.declared.line.ScanLine.{ScanLine}
use Rattle.b2_log.specs.declared.line.LogLine.{LogLine}
use Rattle.b2_log.specs.declared.line.LogLine.TheVariants as lines

-- What is made of bytes.
pub record Making : Type 0 where
  -- what a text makes of named inputs, at an output
  pub made : List ℕ → List (List ℕ × List ℕ) → List ℕ → List ℕ
  -- the includes of a file, by its path and its bytes
  pub inc : List ℕ → List ℕ → List Include
  -- the digest of bytes
  pub digest : List ℕ → List ℕ

-- The input that a record names stood, with these bytes.
pub record InputStood (past : List Past) (input : List ℕ × ℕ) (held : List ℕ × List ℕ) : Type 0 where
  pub path : held.0 ≡ input.0
  pub stood : Stood past input.0 (record { stamp = input.1; bytes = held.1 })

-- where a record has digests, they are those of what it made and of what its inputs held
abbrev pub AreTrueDigests : Making → Record → List (List ℕ × List ℕ) → Option Digests → Type 0
AreTrueDigests m r held None = ⊤
AreTrueDigests m r held (Some d) = (d.outs ≡ map (λ out. m.digest (m.made r.text held out.0)) r.outs) × (d.ins ≡ map (λ input. m.digest input.1) held)

-- A record is true: all that it names stood, with these stamps; each output was what the text makes of the inputs as they
-- stood; and where it has digests, each is that of the bytes that stood there.
pub record IsTrueRecord (m : Making) (past : List Past) (r : Record) : Type 0 where
  pub held : List (List ℕ × List ℕ)
  pub ins : AllZip (InputStood past) r.ins held
  pub outs : (path : List ℕ) (stamp : ℕ) → Contains r.outs (path, stamp) → Stood past path (record { stamp = stamp; bytes = m.made r.text held path })
  pub digests : AreTrueDigests m r held r.digests

-- A scan line is true: its path stood with its stamp, and its includes are those of the bytes that stood there.
pub record IsTrueScan (m : Making) (past : List Past) (s : ScanLine) : Type 0 where
  pub bytes : List ℕ
  pub stood : Stood past s.path (record { stamp = s.stamp; bytes = bytes })
  pub includes : s.includes ≡ m.inc s.path bytes

-- a line is true: a record or a scan where it is, and a drop always, for it tells of no file
abbrev pub IsTrueLine : Making → List Past → LogLine → Type 0
IsTrueLine m past (lines.Record r) = IsTrueRecord m past r
IsTrueLine m past (lines.Drop outs) = ⊤
IsTrueLine m past (lines.Scan s) = IsTrueScan m past s

-- a log is true: each of its lines is
abbrev pub LogTrue : Making → List Past → List LogLine → Type 0
LogTrue m past log = (line : LogLine) → Contains log line → IsTrueLine m past line

-- each record of a log is true
abbrev pub RecordsTrue : Making → List Past → List LogLine → Type 0
RecordsTrue m past log = (r : Record) → Contains log (lines.Record r) → IsTrueRecord m past r

-- each scan line of a log is true
abbrev pub ScansTrue : Making → List Past → List LogLine → Type 0
ScansTrue m past log = (s : ScanLine) → Contains log (lines.Scan s) → IsTrueScan m past s

-- no two contents of the past have one digest
abbrev pub NoCollision : (List ℕ → List ℕ) → List Past → Type 0
NoCollision digest past = (x y : Past) → Contains past x → Contains past y → digest x.file.bytes ≡ digest y.file.bytes → x.file.bytes ≡ y.file.bytes
