use Rattle.std.proofs.Common.{◌≡◌, ◌∙◌, ◌++◌, ◌∷◌, [], cond, refl, sym, ap, true, false}
use Rattle.std.specs.BTreeSet.{contains}
use Rattle.std.proofs.lemmas.Bool.{not-true}
use Rattle.b2_props.specs.Sets.{Pair, same}
use Rattle.b2_props.specs.Holding.{pair_cmp}
use Rattle.b2_props.proofs.DraftHoldsEachGainedPair.{pair_ties}
use Rattle.b2_props.proofs.draft.Draft.add_free.Goals as goal

pub returns-in_ok-push : goal.returns-in_ok-push
returns-in_ok-push c =
    let pair : Pair = (c.args.feature.now, c.args.value.now) in
    let key : c.in_ok-pair_with.field-0 ≡ pair = c.in_ok-pair_with.ensures in
    let was : contains pair_cmp c.args.self.now.known pair ≡ false = ap (λ (k : Pair). contains pair_cmp c.args.self.now.known k) (sym key) ∙ not-true _ (sym c.in_ok-insert.ensures.added ∙ c.if-branch.true) in
    let pushed : c.push.new.self.items ≡ c.args.self.now.free.items ++ pair ∷ [] = c.in_ok-push.ensures.items ∙ ap (λ (k : Pair). c.args.self.now.free.items ++ k ∷ []) c.in_ok-pair_with-2.ensures in
    record {
      values = refl;
      free = pushed ∙ sym (ap (λ b. cond b c.args.self.now.free.items (c.args.self.now.free.items ++ pair ∷ [])) was);
      known = λ q. c.in_ok-insert.ensures.updates.0 q ∙ ap (λ b. cond b true (contains pair_cmp c.args.self.now.known q)) (pair_ties _ q ∙ ap (λ (k : Pair). same k q) key);
    }
