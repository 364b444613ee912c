use Rattle.std.proofs.Common.{◌≡◌, ◌∙◌, ◌++◌, ◌∷◌, ◌||◌, [], List, is_some, sym, ap, ap₂, take, drop, not, Bool, ◌+◌}
use Rattle.std.specs.List.{filter}
use Rattle.b2_features.specs.declared.attribute.Attribute.TheVariants.{Free}
use Rattle.b2_features.specs.Faults.{is_with}
use Rattle.std.specs.FinMap as map
use Rattle.std.specs.FinMap.{get-from_entries}
use Rattle.std.proofs.lemmas.Cmp.{nat_list_cmp_total}
use Rattle.std.proofs.lemmas.List.{append-nil}
use Rattle.b2_props.specs.Sets.{Pair}
use Rattle.b2_props.specs.Refinement.{names, components, completed_from, parts_in, brought}
use Rattle.b2_props.proofs.CompletionGrowsPairByPair.{names-append, seen_next, brought_by, complete_next}
use Rattle.b2_props.proofs.refinement.complete.Goals as goal

pub loop-pair-init : goal.loop-pair-init
loop-pair-init c = record {
  whole = ap₂ (λ (xs seen : List Pair). xs ++ completed_from c.args.registry.now seen c.args.required.now) c.new-whole.ensures.items (append-nil c.args.required.now);
  taken = λ q.
      c.in_ok-take_all.ensures q
      ∙ ap (λ b. b || names c.args.required.now q) (ap (λ m. is_some (map.get m q)) c.new-taken.ensures ∙ ap is_some (get-from_entries nat_list_cmp_total [] q))
      ∙ sym (ap (λ ps. names ps q) (append-nil c.args.required.now));
}

pub loop-pair-preserved : goal.loop-pair-preserved
loop-pair-preserved c =
    let table = c.args.registry.now in
    let required = c.args.required.now in
    let i = c.loop-pair.pair-index in
    let x = c.pair-item.result in
    let seen : List Pair = required ++ components table (take i required) in
    let parts : c.parts_in-parts.result.now ≡ parts_in table x = c.parts_in-parts.ensures in
    let kept : c.push.new.self.items ≡ c.loop-pair.whole.items ++ x ∷ [] = c.in_ok-push.ensures.items ∙ ap (λ (p : Pair). c.loop-pair.whole.items ++ p ∷ []) c.in_ok-copy_pair.ensures in
    let test = λ (part : Pair). is_with Free table part.0 || not (is_some (map.get c.loop-pair.taken part.0)) in
    let more : filter test c.parts_in-parts.result.now ≡ brought table seen x = ap (filter test) parts ∙ brought_by table seen x (λ q. is_some (map.get c.loop-pair.taken q)) c.loop-pair.invariant.taken in
    let all : c.bring.new.whole.items ≡ (c.loop-pair.whole.items ++ x ∷ []) ++ filter test c.parts_in-parts.result.now =
    c.in_ok-bring.ensures ∙ ap (λ (ps : List Pair). ps ++ filter test c.parts_in-parts.result.now) kept in
    record {
      whole =
          ap (λ (ps : List Pair). ps ++ completed_from table (required ++ components table (take (i + 1) required)) (drop (i + 1) required)) all
          ∙ complete_next table required i x c.loop-pair.whole.items (filter test c.parts_in-parts.result.now) c.loop-pair-test.true c.pair-item.is more c.loop-pair.invariant.whole;
      taken = λ q.
          c.in_ok-take_all-2.ensures q ∙ ap₂ (λ (b : Bool) (ps : List Pair). b || names ps q) (c.loop-pair.invariant.taken q) parts
          ∙ sym (names-append seen (parts_in table x) q) ∙ sym (ap (λ ps. names ps q) (seen_next table required i x c.loop-pair-test.true c.pair-item.is));
    }
