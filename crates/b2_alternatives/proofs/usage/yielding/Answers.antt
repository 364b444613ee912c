use Rattle.std.proofs.Common.{◌≡◌, ◌≤◌, ◌<◌, ◌+◌, ◌-◌, ◌∙◌, [], List, is_some, length, sym, ap, arith}
use Rattle.std.specs.List.{flat_map}
use Rattle.std.specs.FinMap as map
use Rattle.std.specs.FinMap.{get-from_entries}
use Rattle.std.proofs.lemmas.Cmp.{nat_list_cmp_total}
use Rattle.std.proofs.lemmas.List.{at_drop_all}
use Rattle.b2_props.specs.Sets.{Pair}
use Rattle.b2_props.specs.Refinement.{names}
use Rattle.b2_alternatives.specs.Usage.{yielding}
use Rattle.b2_alternatives.proofs.LevelsYieldToThoseBelow.{yield_more, taken_below}
use Rattle.b2_alternatives.proofs.usage.yielding.Goals as goal

pub loop-place-init : goal.loop-place-init
loop-place-init c =
    let levels = c.args.levels.now in
    let le : length levels ≤ length levels = omega arith in
    record {
      within = le;
      made = c.new-made.ensures ∙ sym (at_drop_all (yielding c.args.registry.now) levels (length levels) le);
      taken = λ q.
          ap (λ m. is_some (map.get m q)) c.new-taken.ensures ∙ ap is_some (get-from_entries nat_list_cmp_total [] q)
          ∙ sym (at_drop_all (λ (ls : List (List Pair)). names (flat_map (λ (pairs : List Pair). pairs) ls) q) levels (length levels) le);
    }

pub loop-place-preserved : goal.loop-place-preserved
loop-place-preserved c =
    let table = c.args.registry.now in
    let levels = c.args.levels.now in
    let place = c.loop-place.place in
    let before = c.loop-place.invariant in
    let x = c.index-levels-place.result in
    let some : 0 < place = c.loop-place-test.true in
    let le : place ≤ length levels = before.within in
    let next : place - 1 + 1 ≡ place = omega arith in
    let within : place - 1 < length levels = omega arith in
    record {
      within = omega arith;
      made =
          c.in_ok-append.ensures.ok
          ∙ yield_more table levels place (place - 1) x c.as_slice-level.result.now next within c.index-levels-place.is c.as_slice-level.ensures (λ q. is_some (map.get c.loop-place.taken q)) c.loop-place.made c.in_ok-kept.kept before.taken before.made c.in_ok-kept.ensures;
      taken = λ q.
          taken_below table levels place (place - 1) x c.as_slice-level.result.now next within c.index-levels-place.is c.as_slice-level.ensures q (is_some (map.get c.take_all.new.taken q)) (is_some (map.get c.loop-place.taken q)) (c.in_ok-take_all.ensures q) (before.taken q);
    }
