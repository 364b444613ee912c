-- The acts that make a target, with one act more.
use Rattle.std.proofs.Common.{◌≡◌, ℕ, suc, ◌+◌, ◌<◌, Bool, true, false, cond, List, [], ◌∷◌, ◌++◌, length, get_or, take, All, Option, Some, None, refl, sym, ap, ap₂, ◌∙◌, subst, arith, append_assoc, append-nil}
use Rattle.std.specs.Prelude.{unwrap_or}
use Rattle.std.specs.FinMap.{get, from_entries}
use Rattle.std.specs.Str.{bytes_eq}
use Rattle.std.proofs.lemmas.List.{length-take-le}
use Rattle.std.proofs.lemmas.Bool.{true≢false}
use Rattle.std.proofs.lemmas.Option.{same_Some, slice_get_within, slice_get-get_or}
use Rattle.jam_journal.specs.Tables.{Text, Names}
use Rattle.jam_journal.specs.Scopes.{Value}
use Rattle.jam_graph.specs.declared.graph.Act.{Act}
use Rattle.jam_graph.proofs.ListsGrow.{taken}
use Rattle.jam_engine.specs.declared.links.Links.{Links}
use Rattle.jam_engine.specs.Linking.{HasLabel, HaveOneMore, AreLabels}
use Rattle.jam_engine.specs.Tables.{HasOneMore, times, acting}
use Rattle.jam_engine.proofs.SetsGrow.{none_in}
use Rattle.jam_engine.proofs.LabelsGrow.{none_some}

abbrev numbers : Names (List ℕ) → Text → List ℕ
numbers m text = unwrap_or (get m text) []

-- ---- one text more

same_before : (text : Text) (number : ℕ) (a b c : Names (List ℕ)) → ((t : Text) → numbers b t ≡ numbers a t) → HasOneMore text number b c → HasOneMore text number a c
same_before text number a b c same one other = one other ∙ ap (λ (ns : List ℕ). cond (bytes_eq other text) (ns ++ number ∷ []) ns) (same other)

maker_last : (xs : Value) (text : Text) (number : ℕ) (a b c : Names (List ℕ)) → HaveOneMore xs number a b → HasOneMore text number b c → HaveOneMore (xs ++ text ∷ []) number a c
maker_last [] text number a b c same one = (c, same_before text number a b c same one, λ t. refl)
maker_last (x ∷ xs) text number a b c (middle, first, rest) one = (middle, first, maker_last xs text number middle b c rest one)

pub maker_step : (targets : Value) (i : ℕ) (text : Text) (number : ℕ) (before now next : Names (List ℕ)) → i < length targets → text ≡ get_or targets i text → HaveOneMore (take i targets) number before now → HasOneMore text number now next
    → HaveOneMore (take (i + 1) targets) number before next
maker_step targets i text number before now next low is was one =
    subst (λ (l : Value). HaveOneMore l number before next) (taken targets i text low is) (maker_last (take i targets) text number before now next was one)

-- ---- one act more

by_times : (targets : Value) (number : ℕ) (before after : Names (List ℕ)) (text : Text) → HaveOneMore targets number before after → numbers after text ≡ numbers before text ++ times number text targets
by_times [] number before after text same = same text ∙ sym (append-nil (numbers before text))
by_times (x ∷ xs) number before after text (middle, one, rest) =
    by_times xs number middle after text rest ∙ ap (λ (ns : List ℕ). ns ++ times number text xs) (one text) ∙ go (bytes_eq text x)
  where
    go : (b : Bool) → cond b (numbers before text ++ number ∷ []) (numbers before text) ++ times number text xs ≡ numbers before text ++ cond b (number ∷ times number text xs) (times number text xs)
    go true = append_assoc (numbers before text) (number ∷ []) (times number text xs)
    go false = refl

acting_push : (k : ℕ) (acts : List Act) (act : Act) (text : Text) → acting k (acts ++ act ∷ []) text ≡ acting k acts text ++ times (k + length acts) text act.targets
acting_push k [] act text = append-nil (times k text act.targets) ∙ ap (λ (n : ℕ). times n text act.targets) same
  where
    same : k ≡ k + 0
    same = omega arith
acting_push k (first ∷ acts) act text =
    ap (λ (ns : List ℕ). times k text first.targets ++ ns) (acting_push (k + 1) acts act text ∙ ap (λ (n : ℕ). acting (k + 1) acts text ++ times n text act.targets) next)
    ∙ sym (append_assoc (times k text first.targets) (acting (k + 1) acts text) (times (k + suc (length acts)) text act.targets))
  where
    next : (k + 1) + length acts ≡ k + suc (length acts)
    next = omega arith

pub makers_step : (acts : List Act) (i : ℕ) (act : Act) (now next : Names (List ℕ)) → i < length acts → act ≡ get_or acts i act → ((t : Text) → numbers now t ≡ acting 0 (take i acts) t) → HaveOneMore act.targets i now next
    → (t : Text) → numbers next t ≡ acting 0 (take (i + 1) acts) t
makers_step acts i act now next low is was more t =
    by_times act.targets i now next t more
    ∙ ap₂ (λ (ns : List ℕ) (n : ℕ). ns ++ times n t act.targets) (was t) (sym count)
    ∙ sym (acting_push 0 (take i acts) act t) ∙ ap (λ (l : List Act). acting 0 l t) (taken acts i act low is)
  where
    count : 0 + length (take i acts) ≡ i
    count = let e = length-take-le i acts (omega (arith, low)) in omega (arith, e)

-- ---- no act has a label yet

none_labelled : (labels : List (Option ℕ)) → All (λ label. label ≡ None) labels → (place first : ℕ) → HasLabel labels place first → ⊥
none_labelled labels all place first label =
    let low : place < length labels = slice_get_within labels place (Some first) label in
    let is : Some first ≡ get_or labels place None = same_Some _ _ (sym label ∙ slice_get-get_or labels place None low) in
    none_some first (sym (is ∙ all place None low))

pub no_labels_yet : (acts : List Act) (links : Links) → links.acts.now ≡ acts → ((t : Text) → numbers links.makers t ≡ acting 0 acts t) → links.opened ≡ from_entries [] → length links.labels.items ≡ length acts
    → All (λ label. label ≡ None) links.labels.items → AreLabels acts 0 links
no_labels_yet acts links are makers opened count all = record {
  acts_are = are;
  right = record {
    makers = λ t. makers t ∙ ap (λ (l : List Act). acting 0 l t) (sym are);
    count = count ∙ ap length (sym are);
    linked = λ place first l. absurd (none place first l);
    itself = λ place first l. absurd (none place first l);
    least = λ place first l. absurd (none place first l);
    labelled = λ t one e names. absurd (true≢false (sym e ∙ none_in links.opened t opened));
    opened = λ t one other first e names names₁ l. absurd (none one first l);
    closed = λ place first t l out names. absurd (none place first l);
  };
  done = λ place low. absurd (omega (arith, low));
  below = λ place first l. absurd (none place first l);
}
  where
    none : (place first : ℕ) → HasLabel links.labels.items place first → ⊥
    none = none_labelled links.labels.items all
