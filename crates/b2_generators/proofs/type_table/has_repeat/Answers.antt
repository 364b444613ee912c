use Rattle.std.proofs.Common.{◌≡◌, ◌∙◌, ◌++◌, ◌∷◌, [], ◌||◌, ◌+◌, List, ℕ, true, false, take, drop, is_some, ap, ap₂, sym, refl}
use Rattle.std.specs.FinMap as map
use Rattle.std.specs.Str.{bytes_eq}
use Rattle.std.specs.FinMap.{get-from_entries}
use Rattle.std.proofs.lemmas.Cmp.{nat_list_cmp_total}
use Rattle.std.proofs.lemmas.List.{take-append-drop}
use Rattle.b2_props.proofs.DraftHoldsEachGainedPair.{next_take}
use Rattle.b2_features.proofs.NewValuesKeepAllApart.{get_put}
use Rattle.b2_generators.specs.Table.{has_text, has_repeat}
use Rattle.b2_generators.proofs.LookupsAnswerAsListsDo.{copied_some, some_or, has_text-push, has_repeat-push, has_repeat-more}
use Rattle.b2_generators.proofs.type_table.has_repeat.Goals as goal

pub loop-text-init : goal.loop-text-init
loop-text-init c = record {
  once = refl;
  known = λ q. ap is_some (ap (λ m. map.get m q) c.new-seen.ensures ∙ get-from_entries nat_list_cmp_total [] q);
}

pub returns-then-is_some : goal.returns-then-is_some
returns-then-is_some c =
    let i = c.loop-text.text-index in
    let texts = c.args.texts.now in
    let text = c.text-item.result in
    let there : has_text (take i texts) text ≡ true = sym (c.loop-text.invariant.known text) ∙ ap is_some (sym c.get.ensures) ∙ copied_some c.get.result ∙ sym c.is_some.ensures ∙ c.if-is_some.true in
    let twice : has_repeat (take i texts ++ text ∷ []) ≡ true = has_repeat-push (take i texts) text ∙ ap₂ ◌||◌ c.loop-text.invariant.once there in
    sym (ap has_repeat (sym (take-append-drop (i + 1) texts)) ∙ has_repeat-more (take (i + 1) texts) (drop (i + 1) texts) (ap has_repeat (next_take texts i text c.loop-text-test.true c.text-item.is) ∙ twice))

pub loop-text-preserved : goal.loop-text-preserved
loop-text-preserved c =
    let i = c.loop-text.text-index in
    let texts = c.args.texts.now in
    let text = c.text-item.result in
    let next = next_take texts i text c.loop-text-test.true c.text-item.is in
    let absent : has_text (take i texts) text ≡ false = sym (c.loop-text.invariant.known text) ∙ ap is_some (sym c.get.ensures) ∙ copied_some c.get.result ∙ sym c.is_some.ensures ∙ c.if-is_some.false in
    record {
      once = ap has_repeat next ∙ has_repeat-push (take i texts) text ∙ ap₂ ◌||◌ c.loop-text.invariant.once absent;
      known = λ q.
          ap is_some (ap (λ m. map.get m q) c.in_ok-_before.ensures.ok ∙ get_put c.loop-text.seen c.in_ok-copy.field-0 _ q) ∙ some_or _ _ (map.get c.loop-text.seen q)
          ∙ ap₂ ◌||◌ (c.loop-text.invariant.known q) (ap (λ (t : List ℕ). bytes_eq q t) c.in_ok-copy.ensures)
          ∙ sym (ap (λ (ts : List (List ℕ)). has_text ts q) next ∙ has_text-push (take i texts) text q);
    }
