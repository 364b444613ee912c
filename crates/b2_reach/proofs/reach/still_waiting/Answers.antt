use Rattle.std.proofs.Common.{◌≡◌, ◌⊎◌, ◌+◌, ℕ, [], ◌∷◌, ◌++◌, ◌∙◌, sym, subst, get_or, take}
use Rattle.std.specs.List.{Contains}
use Rattle.std.proofs.lemmas.List.Elements.{Contains-get_or}
use Rattle.b2_sched.specs.Schedules.{IsSettled}
use Rattle.b2_reach.specs.Files.{IsOfSettled}
use Rattle.b2_reach.specs.Steps.{WaitsOn}
use Rattle.b2_reach.proofs.MembersAreAdded.{take_whole}
use Rattle.b2_reach.proofs.PendingComesIn.{kept_each, kept_whole, left_whole}
use Rattle.b2_reach.proofs.reach.still_waiting.Goals as goal
use Rattle.b2_reach.proofs.reach.still_waiting.Goals.{then-not-is_settled+in_ok-push, else-not-is_settled}

pub is_settled-requires-clause-number : goal.is_settled-requires-clause-number
is_settled-requires-clause-number c =
    let i = c.loop-number.number-index in
    let pending = c.args.pending.now in
    c.requires.numbers (get_or pending i 0) (Contains-get_or pending i 0 c.loop-number-test.true)

pub loop-number-preserved : goal.loop-number-preserved
loop-number-preserved c =
    let i = c.loop-number.number-index in
    let pending = c.args.pending.now in
    let settled = IsSettled c.args.sched.now in
    let facts = c.args.facts.now in
    let was = c.loop-number.invariant in
    let low = c.loop-number-test.true in
    elim c.if-not-is_settled.branch [
      | then-not-is_settled+in_ok-push w ↦ (
          let longer : c.if-not-is_settled.kept ≡ c.loop-number.kept ++ get_or pending i 0 ∷ [] = w.kept-is ∙ w.in_ok-push.ensures.ok in
          record {
            each = kept_each settled facts pending c.loop-number.kept c.if-not-is_settled.kept i low longer (c.is_settled.ensures.waits w.if-not-is_settled.true) was.each;
            whole = kept_whole settled facts pending c.loop-number.kept c.if-not-is_settled.kept i low longer was.whole;
          })
      | else-not-is_settled w ↦ record {
        each = subst (λ l. (n : ℕ) → Contains l n → Contains pending n × WaitsOn settled facts n) (sym w.kept-is) was.each;
        whole = subst (λ l. (n : ℕ) → Contains (take (i + 1) pending) n → Contains l n ⊎ IsOfSettled settled facts n) (sym w.kept-is) (left_whole settled facts pending c.loop-number.kept i low (c.is_settled.ensures.settled w.if-not-is_settled.false) was.whole);
      }
    ]

pub returns-clause-whole : goal.returns-clause-whole
returns-clause-whole c n among = c.loop-number.invariant.whole n (subst (λ l. Contains l n) (sym (take_whole c.args.pending.now c.loop-number.number-index c.loop-number-test.false)) among)
