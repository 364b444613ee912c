use Rattle.std.proofs.Common.{◌≡◌, false, is_some, ◌++◌, ◌∷◌, [], sym, ap, ap₂, ◌∙◌}
use Rattle.std.specs.FinMap.{insert}
use Rattle.jam_scan.specs.Gatherings.{gathering, is_among, with_path}
use Rattle.jam_scan.proofs.GatheringsGrow.{found_among, path_there, path_new, path_added}
use Rattle.jam_scan.proofs.closure.Closure.add.Goals as goal

pub returns-then-is_some-clause-ok : goal.returns-then-is_some-clause-ok
returns-then-is_some-clause-ok c =
    let path = c.args.path.now in
    let found : is_some c.get.result ≡ is_among c.self.inside.members.items path = found_among c.self.inside.among c.self.inside.members.items c.as_text.result.now path c.get.result c.get.ensures c.as_text.ensures.value c.self.invariant.1 in
    sym (path_there c.args.self.now path (ap (λ g. is_among g.members path) (sym c.self.view_is) ∙ sym found ∙ sym c.if-is_some.ensures))

pub invariant_of-self-2 : goal.invariant_of-self-2
invariant_of-self-2 c =
    let path = c.args.path.now in
    let found : is_some c.get.result ≡ is_among c.self.inside.members.items path = found_among c.self.inside.among c.self.inside.members.items c.as_text.result.now path c.get.result c.get.ensures c.as_text.ensures.value c.self.invariant.1 in
    path_added c.self.inside.among c.insert.new.self tt c.self.inside.members.items c.push_reserved.new.self.items c.self.inside.scanned.items c.push_reserved-2.new.self.items path
    c.self.invariant (sym found ∙ sym c.if-is_some.ensures)
    (c.push_reserved.ensures.items ∙ ap₂ (λ xs x. xs ++ x ∷ []) c.in_ok-reserve.ensures.items c.in_ok-member.ensures)
    (c.push_reserved-2.ensures.items ∙ ap (λ xs. xs ++ false ∷ []) c.in_ok-reserve-2.ensures.items)
    (c.in_ok-_before.ensures.ok ∙ ap (λ t. insert c.self.inside.among t tt) (c.in_ok-key.ensures ∙ c.as_text-2.ensures.value))

pub returns-clause-ok : goal.returns-clause-ok
returns-clause-ok c =
    let path = c.args.path.now in
    let found : is_some c.get.result ≡ is_among c.self.inside.members.items path = found_among c.self.inside.among c.self.inside.members.items c.as_text.result.now path c.get.result c.get.ensures c.as_text.ensures.value c.self.invariant.1 in
    ap₂ gathering (c.push_reserved.ensures.items ∙ ap₂ (λ xs x. xs ++ x ∷ []) c.in_ok-reserve.ensures.items c.in_ok-member.ensures) (c.push_reserved-2.ensures.items ∙ ap (λ xs. xs ++ false ∷ []) c.in_ok-reserve-2.ensures.items)
    ∙ sym (path_new (gathering c.self.inside.members.items c.self.inside.scanned.items) path (sym found ∙ sym c.if-is_some.ensures)) ∙ ap (λ g. with_path g path) c.self.view_is
