use Rattle.std.proofs.Common.{ap, sym, ◌∙◌, arith, cond, Some, length, ◌<◌, ◌+◌, ◌-◌}
use Rattle.std.specs.FinMap.{get, get-empty}
use Rattle.std.specs.List.{list_any}
use Rattle.std.specs.Str.{bytes_eq}
use Rattle.std.proofs.lemmas.List.{drop_all}
use Rattle.std.specs.Ordering.{nat_cmp}
use Rattle.std.specs.Cmp.Lexicographic.{slice_cmp}
use Rattle.b2_plan.specs.Plans.{maker_from}
use Rattle.b2_plan.proofs.MakersGrowByOne.{one_step}
use Rattle.b2_plan.proofs.makers.makers_of.Goals as goal

pub loop-left-init : goal.loop-left-init
loop-left-init c = record {
  within = omega arith;
  made = λ path. ap (λ m. get m path) c.new-makers.ensures ∙ get-empty (slice_cmp nat_cmp) path ∙ sym (ap (λ s. maker_from (length c.args.steps.now + 1) s path) (drop_all (length c.args.steps.now) c.args.steps.now (omega arith)));
}

pub loop-left-preserved : goal.loop-left-preserved
loop-left-preserved c =
    let some : 0 < c.loop-left.left = omega (arith, c.loop-left-test.true) in
    let within : c.loop-left.left - 1 < length c.args.steps.now = omega (arith, some, c.loop-left.invariant.within) in
    record {
      within = omega (arith, within);
      made = one_step c.loop-left.makers c.add_outs.new.makers c.args.steps.now c.loop-left.left c.index-steps-left.result some within
          (λ path. c.in_ok-add_outs.ensures path ∙ ap (λ outs. cond (list_any (bytes_eq path) outs) (Some c.loop-left.left) (get c.loop-left.makers path)) c.as_slice.ensures)
          c.loop-left.invariant.made;
    }
