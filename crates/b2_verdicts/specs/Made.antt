-- The record of a step, by what is known of its files.
use Rattle.std.specs.Prelude.{◌≡◌, ℕ, Bool, true, false, List, Option, Some, None}
use Rattle.std.specs.List.{Contains, AllPairs}
use Rattle.std.specs.Option.{IfSome}
use Rattle.b2_base.specs.Bytes.{Before}
use Rattle.b2_host.specs.Disks.{Disk}
use Rattle.b2_plan.specs.declared.step.Step.{Step}
use Rattle.b2_log.specs.declared.line.Record.{Record}
use Rattle.b2_log.specs.declared.line.Digests.{Digests}
use Rattle.b2_facts.specs.Facts.{Knowledge, path_at}
use Rattle.b2_verdicts.specs.declared.step_numbers.StepNumbers.{StepNumbers}
use Rattle.b2_verdicts.specs.Sights.{stamp_of, IsAsked}
use Rattle.b2_verdicts.specs.Stamps.{AreLogged}
use Rattle.b2_verdicts.specs.Points.{HaveDigests}
use Rattle.b2_verdicts.specs.VerdictCalls.{IsOfStep}

-- where judging is by digests there are those of the outputs and of the members
abbrev pub HasDigestsBy : Bool → StepNumbers → Knowledge → Option Digests → Type 0
HasDigestsBy by_digest numbers g None = by_digest ≡ false
HasDigestsBy by_digest numbers g (Some d) =
    (by_digest ≡ true) × HaveDigests g numbers.outs d.outs × HaveDigests g numbers.ins d.ins

-- The record has the step's text, and its files with the stamps and, where judging is by digests, the digests that are known.
pub record IsMadeOf (by_digest : Bool) (step : Step) (numbers : StepNumbers) (g : Knowledge)
    (made : Record) : Type 0 where
  pub text : made.text ≡ step.text
  pub outs : AreLogged g made.outs numbers.outs
  pub ins : AreLogged g made.ins numbers.ins
  pub digests : HasDigestsBy by_digest numbers g made.digests

-- these files are in byte order of path, and none of them twice
abbrev pub AreRising : Knowledge → List ℕ → Type 0
AreRising g ns =
    AllPairs (λ n m. (one other : List ℕ) → path_at g n ≡ Some one → path_at g m ≡ Some other → Before one other) ns

-- ---- files that are missing

-- one of these files was not seen to stand
abbrev pub IsSomeUnseen : Knowledge → List ℕ → Type 0
IsSomeUnseen g ns = (n : ℕ) × Contains ns n × (stamp_of g n ≡ None)

-- where files are visible, none stands at the path of this number
abbrev pub IsGoneAt : Option Disk → Knowledge → ℕ → Type 0
IsGoneAt disk g n = IfSome disk (λ d. (path : List ℕ) → path_at g n ≡ Some path → d.now path ≡ None)

-- one of these files is gone
abbrev pub IsSomeGone : Option Disk → Knowledge → List ℕ → Type 0
IsSomeGone disk g ns = (n : ℕ) × Contains ns n × IsGoneAt disk g n

-- A file of the step is missing: it was asked for and not seen to stand, or it was gone when it was to be digested.
pub data IsWithoutFile (disk : Option Disk) (numbers : StepNumbers) (g : Knowledge) : Type 0 where
  unseen : (n : ℕ) → IsOfStep numbers n → IsAsked g n → stamp_of g n ≡ None → IsWithoutFile disk numbers g
  undigested : (n : ℕ) → IsOfStep numbers n → IsGoneAt disk g n → IsWithoutFile disk numbers g
