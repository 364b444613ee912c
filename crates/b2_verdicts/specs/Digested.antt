-- What the digests of a record tell of files.
use Rattle.std.specs.Prelude.{◌≡◌, ℕ, ◌<◌, Bool, true, List, length, slice_index, Option, Some, None}
use Rattle.std.specs.List.{AllZip}
use Rattle.std.specs.Option.{IfSome}
use Rattle.b2_host.specs.Disks.{Folder, Disk}
use Rattle.b2_plan.specs.declared.step.Step.{Step}
use Rattle.b2_log.specs.declared.line.Record.{Record}
use Rattle.b2_log.specs.declared.line.Digests.{Digests}
use Rattle.b2_runs.specs.Logs.{Making}
use Rattle.b2_runs.specs.LogLaws.{TellsDigest}
use Rattle.b2_facts.specs.Digests.{digest_of}
use Rattle.b2_facts.specs.Facts.{Knowledge, path_at}
use Rattle.b2_verdicts.specs.declared.step_numbers.StepNumbers.{StepNumbers}
use Rattle.b2_verdicts.specs.Sights.{digest_at, AllAsked}
use Rattle.b2_verdicts.specs.Points.{HavePaths}

-- where the digest of a file is not known, no file stands
abbrev pub IsGoneIfUnknown : Option Disk → Knowledge → ℕ → Type 0
IsGoneIfUnknown disk g n =
    digest_at g n ≡ None → IfSome disk (λ d. (path : List ℕ) → path_at g n ≡ Some path → d.now path ≡ None)

-- the digest of each of these files is known, or no file stands
abbrev pub AllDigested : Option Disk → Knowledge → List ℕ → Type 0
AllDigested disk g ns = (k : ℕ) → k < length ns → IsGoneIfUnknown disk g (slice_index ns k)

-- What a record has of these files is known: each was asked for, and by digests its digest is known, or no file stands.
pub record AreFound (by_digest : Bool) (disk : Option Disk) (g : Knowledge) (ns : List ℕ) : Type 0 where
  pub asked : AllAsked g ns
  pub digested : by_digest ≡ true → AllDigested disk g ns

-- A digest tells of the file with a number, where it stands with a stamp.
pub record TellsOne (g : Knowledge) (n stamp : ℕ) (digest : List ℕ) (now : Folder) : Type 0 where
  pub m : Making
  pub same : m.digest ≡ digest_of
  pub tells : (path : List ℕ) → path_at g n ≡ Some path → TellsDigest m now (path, stamp) digest

-- Digests tell of each path with a stamp, in order.
pub record TellEach (logged : List (List ℕ × ℕ)) (digests : List (List ℕ)) (now : Folder) : Type 0 where
  pub m : Making
  pub same : m.digest ≡ digest_of
  pub tells : AllZip (TellsDigest m now) logged digests

-- The digests of a record tell of its outputs and of its inputs.
pub record TellsBoth (found : Record) (digests : Digests) (now : Folder) : Type 0 where
  pub outs : TellEach found.outs digests.outs now
  pub ins : TellEach found.ins digests.ins now

-- A record has the step's text and the paths of its files.
pub record HasNames (step : Step) (numbers : StepNumbers) (g : Knowledge) (found : Record) : Type 0 where
  pub text : found.text ≡ step.text
  pub outs : HavePaths g found.outs numbers.outs
  pub ins : HavePaths g found.ins numbers.ins
