use Rattle.std.proofs.Common.{◌≡◌, ◌-◌, inl, inr, ℕ, List, length, get_or, ap, sym, subst, ◌∙◌}
use Rattle.std.specs.List.{Contains}
use Rattle.b2_sched.specs.Schedules.{IsSettled}
use Rattle.b2_board.proofs.LastElementOrEarlier.{last_in, front_in, last_or_front}
use Rattle.b2_board.proofs.waiting.Waiting.is_over.Goals as goal

pub settled-requires : goal.settled-requires
settled-requires c =
    let xs = c.loop-number.self-inside.numbers.items in
    let (some, last) = c.in-Some.ensures.item.3 in
    c.requires c.in-Some.number.now (c.loop-number.invariant.fewer c.in-Some.number.now (subst (λ (l : List ℕ). Contains l c.in-Some.number.now) c.deref.ensures.value (last_in c.deref.result.now c.in-Some.number.now some (last 0))))

pub loop-number-preserved : goal.loop-number-preserved
loop-number-preserved c =
    let xs = c.loop-number.self-inside.numbers.items in
    let ys = c.pop-settled.new.self.items in
    let x = c.in-Some.number.now in
    let (some, last) = c.in-Some.ensures.item.3 in
    let settled : IsSettled c.args.sched.now x = c.settled.ensures.0 c.if-not-settled.false in
    record {
      fewer = λ k m. c.loop-number.invariant.fewer k (front_in xs ys c.pop-settled.result k c.pop-settled.ensures.items m);
      rest = λ k m. elim (c.loop-number.invariant.rest k m) [
        | inl done ↦ inl done
        | inr l ↦ elim (last_or_front xs ys c.pop-settled.result x k c.pop-settled.ensures.items (is_last c.deref.result.now xs x c.deref.ensures.value (last 0)) l) [
          | inl same ↦ inl (subst (IsSettled c.args.sched.now) (sym same) settled)
          | inr front ↦ inr front
        ]
      ];
    }
  where
    is_last : (ds xs : List ℕ) (x : ℕ) → ds ≡ xs → x ≡ get_or ds (length ds - 1) 0 → x ≡ get_or xs (length xs - 1) 0
    is_last ds xs x same e = e ∙ ap (λ l. get_or l (length l - 1) 0) same
