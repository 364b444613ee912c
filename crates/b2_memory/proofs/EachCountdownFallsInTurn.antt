-- One more of the listed calls or starts is counted down; for the loops that count a call or a start in all of them.
use Rattle.std.proofs.Common.{◌≡◌, ℕ, ◌+◌, ◌-◌, ◌<◌, List, ◌++◌, map, take, drop, get_or, set, length}
use Rattle.std.proofs.lemmas.List.{get_or_default}
use Rattle.std.proofs.lemmas.List.Edits.{map_over_more}
use Rattle.b2_memory.specs.declared.script.CallKind.{CallKind}
use Rattle.b2_memory.specs.Scripts.{call_after}

-- one more call counted
pub call_after_more : (kind : CallKind) (xs ys : List (CallKind × ℕ)) (i : ℕ) (d : CallKind × ℕ) → i < length xs → i < length ys → ys ≡ map (call_after kind) (take i xs) ++ drop i xs → set ys i (call_after kind (get_or ys i d)) ≡ map (call_after kind) (take (i + 1) xs) ++ drop (i + 1) xs
call_after_more kind xs ys i d h k e = map_over_more (call_after kind) xs ys i (get_or ys i d) h e (get_or_default ys i d _ k)

-- one more start counted
pub down_more : (xs ys : List ℕ) (i : ℕ) → i < length xs → i < length ys → ys ≡ map (λ start. start - 1) (take i xs) ++ drop i xs → set ys i (get_or ys i 0 - 1) ≡ map (λ start. start - 1) (take (i + 1) xs) ++ drop (i + 1) xs
down_more xs ys i h k e = map_over_more (λ start. start - 1) xs ys i (get_or ys i 0) h e (get_or_default ys i 0 _ k)
