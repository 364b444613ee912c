use Rattle.std.specs.Prelude.{◌≡◌, ℕ, ◌+◌, ◌-◌, ◌==◌, nat_lt, min, Bool, true, false, ◌&&◌, ◌||◌, List, [], ◌∷◌, ◌++◌, map, take, drop, Option, Some, None, is_some, if◌then◌else◌}
use Rattle.std.specs.List.{list_any}
use Rattle.b2_base.specs.Counts.{greatest_count}
use Rattle.b2_host.specs.Outside.{Risks}
use Rattle.b2_memory.specs.declared.script.CallKind.{CallKind}
use Rattle.b2_memory.specs.declared.script.CallKind.TheVariants as kinds

-- What a host in memory was told: which calls fail and which starts end badly, each by its number from now on; which
-- child each wait gives; after how many more calls every call fails; and how many bytes a failed write leaves.
pub record Listed : Type 0 where
  pub calls : List (CallKind × ℕ)
  pub starts : List ℕ
  pub picks : List ℕ
  pub fuse : Option ℕ
  pub tear : ℕ

-- nothing was told
abbrev pub nothing_listed : Listed
nothing_listed = record { calls = []; starts = []; picks = []; fuse = None; tear = 0 }

-- the kinds by numbers
abbrev pub number_of : CallKind → ℕ
number_of kinds.Stat = 0
number_of kinds.Read = 1
number_of kinds.List = 2
number_of kinds.Append = 3
number_of kinds.Replace = 4
number_of kinds.Remove = 5
number_of kinds.Start = 6
number_of kinds.Wait = 7

abbrev pub is_same : CallKind → CallKind → Bool
is_same kind other = number_of kind == number_of other

-- the next call of the kind is listed to fail
abbrev pub is_listed : CallKind → List (CallKind × ℕ) → Bool
is_listed kind calls = list_any (λ call. is_same kind call.0 && call.1 == 1) calls

-- every call fails
abbrev pub is_spent : Option ℕ → Bool
is_spent None = false
is_spent (Some left) = left == 0

-- the next call of the kind fails
abbrev pub is_to_fail : CallKind → Listed → Bool
is_to_fail kind listed = is_spent listed.fuse || is_listed kind listed.calls

-- a listed call, once a call of a kind was made
abbrev pub call_after : CallKind → CallKind × ℕ → CallKind × ℕ
call_after kind call = if is_same kind call.0 then (call.0, call.1 - 1) else call

-- the listed calls, once a call of a kind was made
abbrev pub calls_after : CallKind → List (CallKind × ℕ) → List (CallKind × ℕ)
calls_after kind calls = map (call_after kind) calls

abbrev pub fuse_after : Option ℕ → Option ℕ
fuse_after None = None
fuse_after (Some left) = Some (left - 1)

-- what is listed, once a call of a kind was made
abbrev pub listed_after : CallKind → Listed → Listed
listed_after kind listed = record listed { calls = calls_after kind listed.calls; fuse = fuse_after listed.fuse }

-- the next start is listed to end badly
abbrev pub is_bad : List ℕ → Bool
is_bad starts = list_any (λ start. start == 1) starts

-- the listed starts, once a child was started
abbrev pub starts_after : List ℕ → List ℕ
starts_after starts = map (λ start. start - 1) starts

-- The place of the child that a wait gives, among so many: the first for 1, and for 0; the last where fewer run; and the
-- first where no number is left.
abbrev pub place_picked : List ℕ → ℕ → ℕ
place_picked [] children = 0
place_picked (pick ∷ more) children = min (pick - 1) (children - 1)

-- what is listed, once a wait has given a child
abbrev pub picked : Listed → Listed
picked listed = record listed { picks = drop 1 listed.picks }

-- what is listed, with more calls, starts or numbers
abbrev pub with_calls : List (CallKind × ℕ) → Listed → Listed
with_calls more listed = record listed { calls = listed.calls ++ more }

abbrev pub with_starts : List ℕ → Listed → Listed
with_starts more listed = record listed { starts = listed.starts ++ more }

abbrev pub with_picks : List ℕ → Listed → Listed
with_picks more listed = record listed { picks = listed.picks ++ more }

-- ---- what may go wrong

-- nothing may
abbrev pub no_risks : Risks
no_risks = record { may_fail = false; wait_may_fail = false; may_end_badly = false }

-- one of the listed calls is still to fail
abbrev pub some_call_fails : List (CallKind × ℕ) → Bool
some_call_fails calls = list_any (λ call. nat_lt 0 call.1) calls

-- one of the listed waits is
abbrev pub some_wait_fails : List (CallKind × ℕ) → Bool
some_wait_fails calls = list_any (λ call. is_same kinds.Wait call.0 && nat_lt 0 call.1) calls

-- one of the listed starts is still to end badly
abbrev pub some_end_badly : List ℕ → Bool
some_end_badly starts = list_any (λ start. nat_lt 0 start) starts

-- what may go wrong by a fuse, calls and starts that are listed
abbrev pub risks_by : Option ℕ → List (CallKind × ℕ) → List ℕ → Risks
risks_by fuse calls starts = record {
  may_fail = is_some fuse || some_call_fails calls;
  wait_may_fail = is_some fuse || some_wait_fails calls;
  may_end_badly = some_end_badly starts;
}

abbrev pub risks_of : Listed → Risks
risks_of listed = risks_by listed.fuse listed.calls listed.starts

-- what may go wrong, once calls, starts or a fuse are listed too
abbrev pub risks_with_calls : List (CallKind × ℕ) → Risks → Risks
risks_with_calls calls risks = record risks { may_fail = risks.may_fail || some_call_fails calls; wait_may_fail = risks.wait_may_fail || some_wait_fails calls }

abbrev pub risks_with_starts : List ℕ → Risks → Risks
risks_with_starts starts risks = record risks { may_end_badly = risks.may_end_badly || some_end_badly starts }

abbrev pub risks_with_fuse : Risks → Risks
risks_with_fuse risks = record risks { may_fail = true; wait_may_fail = true }

-- All that may go wrong by the one may by the other.
pub record AreAmong (fewer more : Risks) : Type 0 where
  pub fail : fewer.may_fail ≡ true → more.may_fail ≡ true
  pub wait : fewer.wait_may_fail ≡ true → more.wait_may_fail ≡ true
  pub badly : fewer.may_end_badly ≡ true → more.may_end_badly ≡ true

-- a call of the kind may fail
abbrev pub MayFail : CallKind → Risks → Type 0
MayFail kinds.Stat risks = risks.may_fail ≡ true
MayFail kinds.Read risks = risks.may_fail ≡ true
MayFail kinds.List risks = risks.may_fail ≡ true
MayFail kinds.Append risks = risks.may_fail ≡ true
MayFail kinds.Replace risks = risks.may_fail ≡ true
MayFail kinds.Remove risks = risks.may_fail ≡ true
MayFail kinds.Start risks = risks.may_fail ≡ true
MayFail kinds.Wait risks = (risks.may_fail ≡ true) × (risks.wait_may_fail ≡ true)

-- ---- what calls leave

-- what a write of a kind leaves of its piece: the beginning where it fails, else all
abbrev pub left_of : CallKind → List ℕ → Listed → List ℕ
left_of kind piece listed = if is_to_fail kind listed then take listed.tear piece else piece

-- a count that went up, unless it stood at the greatest
abbrev pub raised : ℕ → ℕ
raised count = if nat_lt count greatest_count then count + 1 else count
