use Rattle.std.proofs.Common.{is_some, refl, sym, ap, ap₂, subst, ◌∙◌, arith}
use Rattle.std.specs.Ordering.{nat_cmp}
use Rattle.std.specs.Cmp.Lexicographic.{slice_cmp}
use Rattle.std.specs.FinMap.{get, get-empty}
use Rattle.jam_scan.specs.Gatherings.{IsInOrder, gathering, nothing, is_among}
use Rattle.jam_scan.proofs.closure.Closure.empty.Goals as goal

pub invariant_of-result : goal.invariant_of-result
invariant_of-result c =
    let order : IsInOrder nothing = record { distinct = λ i j d lt l. absurd (omega (arith, l)); as_many = refl } in (
      subst IsInOrder (sym (ap₂ gathering c.new.ensures.items c.new-2.ensures.items)) order,
      λ path. ap (λ m. is_some (get m path)) c.new-3.ensures ∙ ap is_some (get-empty (slice_cmp nat_cmp) path) ∙ ap (λ ms. is_among ms path) (sym c.new.ensures.items),
    )
