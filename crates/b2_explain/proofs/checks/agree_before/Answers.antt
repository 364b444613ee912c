use Rattle.std.proofs.Common.{ℕ, List, IsTrue, ◌↔◌, subst}
use Rattle.b2_verdicts.specs.Stamps.{AgreeUpTo}
use Rattle.b2_explain.proofs.ChecksAreTold.{not_members, members_so}
use Rattle.b2_explain.proofs.checks.agree_before.Goals as goal

pub returns-else-place-members_before : goal.returns-else-place-members_before
returns-else-place-members_before c =
    let f = c.args.facts.now in
    let ins = c.args.ins.now in
    not_members f ins c.args.path.now c.args.place c.members_before.result (AgreeUpTo f c.args.last.now.ins ins c.args.place) c.requires.numbers c.members_before.ensures c.if-place-members_before.false

pub returns-then-place-members_before : goal.returns-then-place-members_before
returns-then-place-members_before c =
    let f = c.args.facts.now in
    let ins = c.args.ins.now in
    members_so f ins c.args.path.now c.args.place c.members_before.result (AgreeUpTo f c.args.last.now.ins ins c.args.place) c.agree_up_to.result c.if-place-members_before.true c.members_before.ensures
    (subst (λ (l : List (List ℕ × ℕ)). IsTrue c.agree_up_to.result ↔ AgreeUpTo f l ins c.args.place) c.as_slice.ensures c.agree_up_to.ensures)
