use Rattle.std.proofs.Common.{◌≡◌, ◌∙◌, ◌+◌, ℕ, false, length, replicate, refl, ap}
use Rattle.b2_explain.specs.declared.survey.Survey.{Survey}
use Rattle.b2_explain.proofs.SurveyGoesOn.{surveyed_new, good_proper}
use Rattle.b2_explain.proofs.survey.Survey.new.Goals as goal

pub returns-clause-surveyed : goal.returns-clause-surveyed
returns-clause-surveyed c all =
    let size = length c.as_slice.result.now + 1 in
    let ran_is : c.in_ok-ran.ran.items ≡ replicate size false = c.in_ok-ran.ensures.items_if_clones_equal (λ y h. h) in
    let size_is = ap (λ xs. length xs + 1) c.as_slice.ensures in
    let made : Survey = record {
      board = c.in_ok-board.board;
      sights = record { facts = c.new-facts.result; journal = c.in_ok-journal.journal; marks = c.new-marks.result; by_digest = false };
      judged = c.in_ok-judged.judged;
      ran = c.in_ok-ran.ran;
    } in
    surveyed_new c.args.plan.now all made (c.in_ok-board.ensures.board c.new-facts.result) c.in_ok-board.ensures.jobs c.in_ok-board.ensures.unjudged (c.in_ok-judged.ensures.0 ∙ size_is) c.in_ok-judged.ensures.1 (ran_is ∙ ap (λ (n : ℕ). replicate n false) size_is) refl (good_proper c.in_ok-journal.journal c.in_ok-journal.ensures.good)
