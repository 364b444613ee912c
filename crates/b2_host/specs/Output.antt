use Rattle.std.specs.Prelude.{◌≡◌, ℕ, List, ◌++◌, take, Bool, true, Option, Result, Ok, Err}
use Rattle.std.specs.Option.{option_map}
use Rattle.b2_host.specs.declared.fault.IoFault.{IoFault}
use Rattle.b2_host.specs.declared.fault.IoFault.TheVariants as faults
use Rattle.b2_base.specs.Counts.{Rose}

-- All that a sink is to its callers: the bytes so far, where they are visible; how often a write failed; and whether one
-- may, which no write changes.
pub record Output : Type 0 where
  pub written : Option (List ℕ)
  pub faults : ℕ
  pub may_fail : Bool

-- the output with a piece more
abbrev pub with_written : List ℕ → Output → Output
with_written piece before = record before { written = option_map (λ so_far. so_far ++ piece) before.written }

-- The write failed, where one may: a prefix of the piece was written, and the count of faults rose.
pub record WriteFails (piece : List ℕ) (before after : Output) : Type 0 where
  pub may_fail : before.may_fail ≡ true
  pub count : ℕ
  pub rose : Rose before.faults after.faults
  pub same : after ≡ record (with_written (take count piece) before) { faults = after.faults }

-- a piece is written
abbrev pub Prints : {T : Type 0} → List ℕ → Output → Output → Result T IoFault → Type 0
Prints piece before after (Ok x) = after ≡ with_written piece before
Prints piece before after (Err faults.Failed) = WriteFails piece before after
Prints piece before after (Err faults.OutOfMemory) = after ≡ before
