use Rattle.std.proofs.Common.{◌≡◌, ◌∙◌, ◌&&◌, Bool, true, false, [], not, refl, sym, ap, ap₂}
use Rattle.std.specs.FinMap as map
use Rattle.std.specs.FinMap.{get-from_entries}
use Rattle.std.specs.Option.{option_map_or}
use Rattle.std.specs.Str.{bytes_eq}
use Rattle.std.proofs.lemmas.Cmp.{nat_list_cmp_total}
use Rattle.b2_features.specs.declared.attribute.Attribute.TheVariants.{Free}
use Rattle.b2_features.specs.Faults.{is_with}
use Rattle.b2_property_texts.specs.Clashes.{is_second_value}
use Rattle.b2_property_texts.proofs.EarlierPairsTellClashes.{second_is, second_found, values_next, single_next, and_false}
use Rattle.b2_property_texts.proofs.clashes.has_two_values.Goals as goal
use Rattle.b2_property_texts.proofs.clashes.has_two_values.Goals.{else-not-is_with-via-then-not-is_with+else-differs, else-not-is_with-via-else-not-is_with}

pub loop-pair-init : goal.loop-pair-init
loop-pair-init c = record {
  values = λ q. ap (λ m. map.get m q) c.new-values.ensures ∙ get-from_entries nat_list_cmp_total [] q;
  single = refl;
}

pub returns-then-differs : goal.returns-then-differs
returns-then-differs c =
    let table = c.args.registry.now in
    let pairs = c.args.pairs.now in
    let i = c.loop-pair.pair-index in
    let p = c.pair-item.result in
    let limited : not (is_with Free table p.0) ≡ true = ap not (ap (is_with Free table) (sym c.as_str.ensures.value) ∙ sym c.is_with.ensures ∙ c.if-not-is_with.true) in
    let here : is_second_value table pairs p ≡ true =
    second_is table pairs i p c.loop-pair-test.true c.pair-item.is (map.get c.loop-pair.values p.0) (c.loop-pair.invariant.values p.0) ∙ ap₂ ◌&&◌ limited (sym c.differs.ensures ∙ c.if-differs.true) in
    sym (second_found table pairs i p c.loop-pair-test.true c.pair-item.is here)

pub loop-pair-preserved : goal.loop-pair-preserved
loop-pair-preserved c =
    let table = c.args.registry.now in
    let pairs = c.args.pairs.now in
    let i = c.loop-pair.pair-index in
    let p = c.pair-item.result in
    let limited : not (is_with Free table p.0) ≡ not c.is_with.result = ap not (ap (is_with Free table) (sym c.as_str.ensures.value) ∙ sym c.is_with.ensures) in
    let other : Bool = option_map_or (λ v. not (bytes_eq v p.1)) (map.get c.loop-pair.values p.0) false in
    let alone : (not (is_with Free table p.0) && other) ≡ false =
    elim c.else-not-is_with.branch [
      | else-not-is_with-via-then-not-is_with+else-differs w ↦ ap (λ b. not (is_with Free table p.0) && b) (sym w.differs.ensures ∙ w.if-differs.false) ∙ and_false (not (is_with Free table p.0))
      | else-not-is_with-via-else-not-is_with w ↦ ap (λ b. b && other) (limited ∙ ap not w.if-not-is_with.false)
    ] in
    record {
      values = values_next table pairs i p c.loop-pair-test.true c.pair-item.is (map.get c.loop-pair.values) (map.get c.keep.new.values) c.loop-pair.invariant.values c.in_ok-keep.ensures;
      single =
          single_next table pairs i p c.loop-pair-test.true c.pair-item.is c.loop-pair.invariant.single
          (second_is table pairs i p c.loop-pair-test.true c.pair-item.is (map.get c.loop-pair.values p.0) (c.loop-pair.invariant.values p.0) ∙ alone);
    }
