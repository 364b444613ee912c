use Rattle.std.proofs.Common.{ℕ, not, List, IsTrue, ◌↔◌, sym, subst}
use Rattle.std.specs.List.{Contains}
use Rattle.b2_reach.specs.Reaches.{IsMissingMember}
use Rattle.b2_explain.specs.declared.cause.Cause.{Cause}
use Rattle.b2_explain.specs.Sights.{IsFirstFile, IsUnsettledMember}
use Rattle.b2_explain.specs.Checks.{IsCheckedOpen}
use Rattle.b2_explain.proofs.StepsAreExplained.{open_within, open_numbers, open_makers}
use Rattle.b2_explain.proofs.ClaimsAreChecked.{lacks_one}
use Rattle.b2_explain.proofs.check.is_open_cause.Goals as goal

pub members_of-members-requires : goal.members_of-members-requires
members_of-members-requires c = let (plan, all, o) = c.requires in open_within plan all c.args.survey.now c.args.number o

pub is_first_missing-requires : goal.is_first_missing-requires
is_first_missing-requires c n among = let (plan, all, o) = c.requires in open_numbers plan all c.args.survey.now c.args.number o n (subst (λ (ms : List ℕ). Contains ms n) c.members_of-members.ensures among)

pub returns-in-Lacks : goal.returns-in-Lacks
returns-in-Lacks c =
    let f = c.args.survey.now.sights.facts in
    let path = c.in-Lacks.path in
    subst (λ (cause : Cause). IsTrue c.is_first_missing.result ↔ IsCheckedOpen c.args.survey.now c.args.number cause) (sym c.in-Lacks.is)
    (subst (λ (ms : List ℕ). IsTrue c.is_first_missing.result ↔ IsFirstFile f (IsMissingMember f ms) path) c.members_of-members.ensures c.is_first_missing.ensures)

pub any_missing-requires : goal.any_missing-requires
any_missing-requires c n among = let (plan, all, o) = c.requires in open_numbers plan all c.args.survey.now c.args.number o n (subst (λ (ms : List ℕ). Contains ms n) c.members_of-members.ensures among)

pub is_first_unsettled-requires-clause-numbers : goal.is_first_unsettled-requires-clause-numbers
is_first_unsettled-requires-clause-numbers c n among = let (plan, all, o) = c.requires in open_numbers plan all c.args.survey.now c.args.number o n (subst (λ (ms : List ℕ). Contains ms n) c.members_of-members.ensures among)

pub is_first_unsettled-requires-clause-makers : goal.is_first_unsettled-requires-clause-makers
is_first_unsettled-requires-clause-makers c n maker file among = let (plan, all, o) = c.requires in open_makers plan all c.args.survey.now c.args.number o n maker file (subst (λ (ms : List ℕ). Contains ms n) c.members_of-members.ensures among)

pub returns-else-not-any_missing : goal.returns-else-not-any_missing
returns-else-not-any_missing c =
    let f = c.args.survey.now.sights.facts in
    let s = c.args.survey.now.board.sched in
    let path = c.in-Waits.path in
    subst (λ (cause : Cause). IsTrue (not c.any_missing.result) ↔ IsCheckedOpen c.args.survey.now c.args.number cause) (sym c.in-Waits.is)
    (subst (λ (ms : List ℕ). IsTrue (not c.any_missing.result) ↔ (((n : ℕ) → IsMissingMember f ms n → ⊥) × IsFirstFile f (IsUnsettledMember s f ms) path)) c.members_of-members.ensures
    (lacks_one f c.members_of-members.result.now c.any_missing.result (IsFirstFile f (IsUnsettledMember s f c.members_of-members.result.now) path) c.if-not-any_missing.false c.any_missing.ensures))
