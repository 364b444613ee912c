-- How a count of the host's faults goes on.
use Rattle.std.specs.Prelude.{◌≡◌, ℕ, ◌<◌, ◌≤◌, Bool, true, false, Result, Ok, Err}

-- the largest count of faults; a count that stands there rises no more
abbrev pub greatest_count : ℕ
greatest_count = 18446744073709551615

-- a count of faults went up, or stands at the greatest
pub record Rose (before after : ℕ) : Type 0 where
  pub kept : before ≤ after
  pub more : before < greatest_count → before < after

-- A count of faults of the host before and after a call: it rises where the call's fault is one of the host, and stays with
-- every other answer; nothing is said of out of memory, which may stand in place of any fault. A fault that is both is a
-- pattern that was refused though it reads as one: no call of the host failed.
abbrev pub CountsFault : (is_host is_memory : Bool) → ℕ → ℕ → Type 0
CountsFault true false before after = Rose before after
CountsFault true true before after = after ≡ before
CountsFault false true before after = Unit {0}
CountsFault false false before after = after ≡ before

abbrev pub IsCounted : {A E : Type 0} → (E → Bool) → (E → Bool) → ℕ → ℕ → Result A E → Type 0
IsCounted is_host_fault is_out_of_memory before after (Ok answer) = after ≡ before
IsCounted is_host_fault is_out_of_memory before after (Err fault) = CountsFault (is_host_fault fault) (is_out_of_memory fault) before after
