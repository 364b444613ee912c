use Rattle.std.proofs.Common.{◌≡◌, ◌-◌, [], ap, ◌∙◌, arith, length, take, ◌++◌}
use Rattle.std.proofs.lemmas.Result.{err_from_is_err_and}
use Rattle.jam_expand.specs.Heads.{heads}
use Rattle.jam_expand.proofs.ProductGrowsFromLastList.{made_nothing, before_last, made_fault, made_more, made_all}
use Rattle.jam_expand.proofs.product.filled_product.Goals as goal

pub lists-init : goal.lists-init
lists-init c = rw c.in_ok-made.ensures (made_nothing c.args.lists.items c.in_ok-before.before c.requires (rw c.as_slice.ensures.value at c.in_ok-before.ensures))

pub overflow_sub-before : goal.overflow_sub-before
overflow_sub-before c =
    let whole : c.lists.before ≡ _ = before_last c.args.lists.items c.pop.new.self.items c.lists.lists.items c.in-Some.list c.lists.made c.lists.before c.lists.invariant c.in-Some.ensures.items in
    omega (arith, whole, c.head_len-before.ensures)

pub returns-in_err-sum_of_cross : goal.returns-in_err-sum_of_cross
returns-in_err-sum_of_cross c =
    let p = err_from_is_err_and c.from_residual-in_err-sum_of_cross.result c.from_residual-in_err-sum_of_cross.ensures.1 in
    let whole = before_last c.args.lists.items c.pop.new.self.items c.lists.lists.items c.in-Some.list c.lists.made c.lists.before c.lists.invariant c.in-Some.ensures.items in
    let len : length (heads c.pop.new.self.items) ≡ c.lists.before - c.head_len-before.result = omega (arith, whole, c.head_len-before.ensures) in
    rw (p.1, p.2)
    (made_fault c.args.lists.items c.pop.new.self.items c.lists.lists.items c.in-Some.list c.lists.made c.lists.before c.in_err-sum_of_cross.field-0.0 c.lists.invariant c.in-Some.ensures.items
    (rw (c.as_slice-in-Some.ensures, c.as_slice-in-Some-2.ensures) at (c.in_err-sum_of_cross.ensures (heads c.pop.new.self.items) len)))

pub lists-preserved : goal.lists-preserved
lists-preserved c =
    let whole = before_last c.args.lists.items c.pop.new.self.items c.lists.lists.items c.in-Some.list c.lists.made c.lists.before c.lists.invariant c.in-Some.ensures.items in
    let len : length (heads c.pop.new.self.items) ≡ c.lists.before - c.head_len-before.result = omega (arith, whole, c.head_len-before.ensures) in
    rw (c.in_ok-made-2.ensures, c.as_slice-in-Some-3.ensures, c.as_slice-in-Some-4.ensures, c.head_len-before.ensures)
    (made_more c.args.lists.items c.pop.new.self.items c.lists.lists.items c.in-Some.list c.lists.made c.lists.before c.in_ok-sum_of_cross.field-0 c.lists.invariant c.in-Some.ensures.items
    (rw (c.as_slice-in-Some.ensures, c.as_slice-in-Some-2.ensures) at (c.in_ok-sum_of_cross.ensures (heads c.pop.new.self.items) len)))

pub returns : goal.returns
returns c = made_all c.args.lists.items c.lists.lists.items c.lists.made c.lists.before c.lists.invariant (c.in_default.ensures.items ∙ ap (λ s. s ++ []) (c.in_default.ensures.rest ∙ ap (λ n. take (n - 1) c.lists.lists.items) c.in_default.ensures.cases.0))
