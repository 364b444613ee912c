use Rattle.std.proofs.Common.{ℕ, ap, subst}
use Rattle.std.specs.List.{Contains}
use Rattle.b2_reach.specs.Reaches.{IsMissingMember}
use Rattle.b2_explain.specs.declared.cause.Cause.TheVariants as causes
use Rattle.b2_explain.specs.Sights.{IsFirstNumber, IsUnsettledMember}
use Rattle.b2_explain.proofs.StepsAreExplained.{open_within, open_numbers, open_makers, open_waits, lacks_found, waits_found}
use Rattle.b2_explain.proofs.explain.open_cause.Goals as goal

pub members_of-members-requires : goal.members_of-members-requires
members_of-members-requires c = let (plan, all, o) = c.requires in open_within plan all c.args.survey.now c.args.number o

pub first_missing-requires : goal.first_missing-requires
first_missing-requires c n among = let (plan, all, o) = c.requires in open_numbers plan all c.args.survey.now c.args.number o n (subst (λ ms. Contains ms n) c.members_of-members.ensures among)

pub returns-in-Some : goal.returns-in-Some
returns-in-Some c plan =
    let (own, all, o) = c.requires in
    let y = c.args.survey.now in
    let first = subst (λ ms. IsFirstNumber y.sights.facts (IsMissingMember y.sights.facts ms) c.in-Some.missing) c.members_of-members.ensures c.in-Some.ensures.1 in
    lacks_found own all y c.args.number o plan c.in-Some.missing c.path.result.now (causes.Lacks c.in_ok-copy.field-0) (ap causes.Lacks c.in_ok-copy.ensures) c.path.ensures first

pub first_unsettled-requires-clause-numbers : goal.first_unsettled-requires-clause-numbers
first_unsettled-requires-clause-numbers c n among = let (plan, all, o) = c.requires in open_numbers plan all c.args.survey.now c.args.number o n (subst (λ ms. Contains ms n) c.members_of-members.ensures among)

pub first_unsettled-requires-clause-makers : goal.first_unsettled-requires-clause-makers
first_unsettled-requires-clause-makers c n maker file among = let (plan, all, o) = c.requires in open_makers plan all c.args.survey.now c.args.number o n maker file (subst (λ ms. Contains ms n) c.members_of-members.ensures among)

pub unreachable-requires : goal.unreachable-requires
unreachable-requires c =
    let (plan, all, o) = c.requires in
    let y = c.args.survey.now in
    let lacks : (n : ℕ) → IsMissingMember y.sights.facts c.members_of-members.result.now n → ⊥ = c.in_default.ensures in
    let waits : (n : ℕ) → IsUnsettledMember y.board.sched y.sights.facts c.members_of-members.result.now n → ⊥ = c.in_default-first_unsettled.ensures in
    open_waits plan all y c.args.number o (subst (λ ms. (n : ℕ) → IsMissingMember y.sights.facts ms n → ⊥) c.members_of-members.ensures lacks)
    (subst (λ ms. (n : ℕ) → IsUnsettledMember y.board.sched y.sights.facts ms n → ⊥) c.members_of-members.ensures waits)

pub returns : goal.returns
returns c plan =
    let (own, all, o) = c.requires in
    let y = c.args.survey.now in
    let lacks : (n : ℕ) → IsMissingMember y.sights.facts c.members_of-members.result.now n → ⊥ = c.in_default.ensures in
    let first = subst (λ ms. IsFirstNumber y.sights.facts (IsUnsettledMember y.board.sched y.sights.facts ms) c.in-Some-first_unsettled.unsettled) c.members_of-members.ensures c.in-Some-first_unsettled.ensures.1 in
    waits_found own all y c.args.number o plan c.in-Some-first_unsettled.unsettled c.path-2.result.now (causes.Waits c.in_ok-copy-2.field-0) (ap causes.Waits c.in_ok-copy-2.ensures) c.path-2.ensures (subst (λ ms. (n : ℕ) → IsMissingMember y.sights.facts ms n → ⊥) c.members_of-members.ensures lacks) first
