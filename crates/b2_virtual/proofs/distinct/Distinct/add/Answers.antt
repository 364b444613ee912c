use Rattle.std.proofs.Common.{◌≡◌, ◌∙◌, ◌++◌, ◌∷◌, [], List, ℕ, ap, is_some, sym, subst}
use Rattle.std.specs.FinMap.{get, insert}
use Rattle.b2_virtual.specs.declared.entry.Entry.{Entry}
use Rattle.b2_virtual.specs.Repeats.{HasPaths}
use Rattle.b2_virtual.proofs.RepeatsAreLeftOut.{has_paths_push, copied_some, entry_there, entry_new}
use Rattle.b2_virtual.proofs.distinct.Distinct.add.Goals as goal

pub returns-then-is_some : goal.returns-then-is_some
returns-then-is_some c =
    let found : is_some (get c.args.self.now.paths c.args.entry.now.path) ≡ c.is_some.result =
    ap (λ (t : List ℕ). is_some (get c.args.self.now.paths t)) (sym c.as_text-path.ensures.value) ∙ ap is_some (sym c.get-found.ensures) ∙ sym (copied_some c.get-found.result) ∙ sym c.is_some.ensures in
    record { entries = entry_there c.args.self.now.entries c.args.entry.now c.args.self.now.paths c.requires (found ∙ c.if-is_some.true); paths = c.requires }

pub returns : goal.returns
returns c =
    let found : is_some (get c.args.self.now.paths c.args.entry.now.path) ≡ c.is_some.result =
    ap (λ (t : List ℕ). is_some (get c.args.self.now.paths t)) (sym c.as_text-path.ensures.value) ∙ ap is_some (sym c.get-found.ensures) ∙ sym (copied_some c.get-found.result) ∙ sym c.is_some.ensures in
    let pushed : c.push.new.self ≡ c.args.self.now.entries ++ c.args.entry.now ∷ [] = c.in_ok-push.ensures.ok ∙ ap (λ (e : Entry). c.args.self.now.entries ++ e ∷ []) c.in_ok-copy.ensures in
    record {
      entries = pushed ∙ entry_new c.args.self.now.entries c.args.entry.now c.args.self.now.paths c.requires (found ∙ c.if-is_some.false);
      paths =
          subst (λ (es : List Entry). HasPaths es c.insert.new.self) (sym pushed)
          (has_paths_push c.args.self.now.entries c.args.entry.now c.args.self.now.paths c.insert.new.self c.requires
          (c.in_ok-_before.ensures.ok ∙ ap (λ (t : List ℕ). insert c.args.self.now.paths t tt) (c.in_ok-key.ensures ∙ c.as_text-path.ensures.value)));
    }
