use Rattle.std.proofs.Common.{ℕ, List}
use Rattle.b2_verdicts.specs.Stamps.{AgreeUpTo}
use Rattle.b2_explain.specs.Checks.{AreBefore, IsLoggedAt, IsPresentAt}
use Rattle.b2_explain.proofs.ChecksAreTold.{options_differ, other_input}
use Rattle.b2_explain.proofs.RowsAreTold.{first_fails, second_decides}
use Rattle.b2_explain.proofs.checks.is_other_input.Goals as goal

pub returns-then-agree_before : goal.returns-then-agree_before
returns-then-agree_before c =
    let f = c.args.facts.now in
    let ins = c.args.ins.now in
    let r = c.args.last.now in
    let path : List ℕ = c.args.path.now in
    let place = c.logged_before-place.result in
    other_input f ins r path c.args.logged c.args.now place c.are_stamps_at.result c.logged_before-place.ensures (options_differ c.args.logged c.args.now c.eq.result c.eq.ensures c.if-eq.false)
    (second_decides (AreBefore f ins path place × AgreeUpTo f r.ins ins place) (IsLoggedAt r place path c.args.logged × IsPresentAt f ins place path c.args.now) c.agree_before.result c.are_stamps_at.result c.if-agree_before.true c.agree_before.ensures c.are_stamps_at.ensures)

pub returns-else-agree_before : goal.returns-else-agree_before
returns-else-agree_before c =
    let f = c.args.facts.now in
    let ins = c.args.ins.now in
    let r = c.args.last.now in
    let path : List ℕ = c.args.path.now in
    let place = c.logged_before-place.result in
    other_input f ins r path c.args.logged c.args.now place c.agree_before.result c.logged_before-place.ensures (options_differ c.args.logged c.args.now c.eq.result c.eq.ensures c.if-eq.false)
    (first_fails (AreBefore f ins path place × AgreeUpTo f r.ins ins place) (IsLoggedAt r place path c.args.logged × IsPresentAt f ins place path c.args.now) c.agree_before.result c.if-agree_before.false c.agree_before.ensures)
