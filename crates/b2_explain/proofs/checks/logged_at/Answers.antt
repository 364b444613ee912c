use Rattle.std.proofs.Common.{ℕ, List}
use Rattle.b2_explain.proofs.CausesAreTold.{given_there, given_past}
use Rattle.b2_explain.proofs.ChecksAreTold.{logged_same, logged_other, logged_none}
use Rattle.b2_explain.proofs.checks.logged_at.Goals as goal

pub returns-then-eq : goal.returns-then-eq
returns-then-eq c =
    let r = c.args.last.now in
    let one : List ℕ × ℕ = c.in-Some.field-0.now in
    logged_same r c.args.place c.args.path.now one c.eq.result (given_there r.ins c.as_slice.result.now c.args.place one c.as_slice.ensures c.in-Some.ensures.lookup.3.0 c.in-Some.ensures.lookup.1) c.eq.ensures c.if-eq.true

pub returns-else-eq : goal.returns-else-eq
returns-else-eq c =
    let r = c.args.last.now in
    let one : List ℕ × ℕ = c.in-Some.field-0.now in
    logged_other r c.args.place c.args.path.now one c.eq.result (given_there r.ins c.as_slice.result.now c.args.place one c.as_slice.ensures c.in-Some.ensures.lookup.3.0 c.in-Some.ensures.lookup.1) c.eq.ensures c.if-eq.false

pub returns-in-None : goal.returns-in-None
returns-in-None c = let r = c.args.last.now in logged_none r c.args.place c.args.path.now (given_past r.ins c.as_slice.result.now c.args.place c.as_slice.ensures c.in-None.ensures.lookup.3)
