use Rattle.std.proofs.Common.{ap, sym, subst, length, ◌≤◌, arith}
use Rattle.jam_expand.specs.Limits.{within, IsGivenBy}
use Rattle.jam_expand.proofs.PlainWordsExpandToThemselves.{only_list}
use Rattle.jam_expand.proofs.product.lone_or_product.Goals as goal

pub returns-in-Some : goal.returns-in-Some
returns-in-Some c =
    let few : length c.args.lists.items ≤ 1 = omega (arith, c.if-len-gt1.false, c.len.ensures) in
    subst (IsGivenBy c.lone.result) (ap within (sym (only_list c.args.lists.items c.pop.new.self.items c.in-Some.list c.in-Some.ensures.items few))) c.lone.ensures
