use Rattle.std.proofs.Common.{◌≡◌, ◌++◌, ◌∷◌, [], length, List, ℕ, slice_get, ap, sym, subst, ◌∙◌, rules}
use Rattle.b2_facts.specs.Lists.{AreNumbered, HasNoNumber}
use Rattle.b2_facts.proofs.ListsAreNumbered.{list_numbered, list_place}
use Rattle.b2_facts.proofs.list_table.ListTable.add.Goals as goal

pub invariant_of-self-2 : goal.invariant_of-self-2
invariant_of-self-2 c =
    let lists : List (List (List ℕ)) = c.self.inside.lists.items in
    let pushed : c.push_reserved.new.self.items ≡ lists ++ c.in_ok-list.list ∷ [] = c.push_reserved.ensures.items ∙ ap (λ ls. ls ++ c.in_ok-list.list ∷ []) c.in_ok-reserve.ensures.items in
    let number_is : c.len-place.result ≡ length lists = search rules in
    subst (λ ls. AreNumbered ls c.insert.new.self) (sym pushed)
    (list_numbered lists c.self.inside.numbers c.insert.new.self c.args.dirs.now c.into_vec-key.result.items c.in_ok-list.list c.len-place.result c.self.invariant (subst (λ ls. HasNoNumber ls c.args.dirs.now) (sym c.self.view_is) c.requires) number_is (c.into_vec-key.ensures ∙ c.in_ok-copied.ensures) c.in_ok-list.ensures c.in_ok-insert.ensures.updates)

pub returns-clause-place : goal.returns-clause-place
returns-clause-place c =
    let lists : List (List (List ℕ)) = c.self.inside.lists.items in
    let pushed : c.push_reserved.new.self.items ≡ lists ++ c.in_ok-list.list ∷ [] = c.push_reserved.ensures.items ∙ ap (λ ls. ls ++ c.in_ok-list.list ∷ []) c.in_ok-reserve.ensures.items in
    let number_is : c.len-place.result ≡ length lists = search rules in
    ap (λ ls. slice_get ls c.len-place.result) pushed ∙ list_place lists c.args.dirs.now c.in_ok-list.list c.len-place.result number_is c.in_ok-list.ensures
