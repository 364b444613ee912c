-- What the includes of a file are found at comes in, where nothing was found for them before.
use Rattle.std.proofs.Common.{◌≡◌, ℕ, ◌<◌, true, false, is_some, List, Option, Some, None, length, option_copied, refl, sym, ap, subst, ◌∙◌}
use Rattle.std.specs.Borrow.{Bor}
use Rattle.std.specs.FinMap as map
use Rattle.std.specs.Option.{IfSome}
use Rattle.b2_host.specs.Disks.{Disk}
use Rattle.b2_plan.specs.declared.step.Step.{Step}
use Rattle.b2_plan.specs.Sources.{Include}
use Rattle.b2_facts.specs.declared.file_facts.FileFacts.{FileFacts}
use Rattle.b2_facts.specs.Facts.{Knowledge, Founds, with_found, IsNumber, IsRead, file_at, found_at}
use Rattle.b2_facts.specs.Growth.{Learns, OfNone}
use Rattle.b2_facts.specs.Truth.{StaysTrue}
use Rattle.b2_facts.specs.Asks.{IsLooking, AreFirsts}
use Rattle.b2_facts.proofs.ListsAtPlaces.{none_some}
use Rattle.b2_facts.proofs.FactsGrow.{learns_then, true_then, told_map}
use Rattle.b2_facts.proofs.FactsAreEntered.{found_learns, found_now}
use Rattle.b2_facts.proofs.FactsTellSources.{found_so}
use Rattle.b2_facts.proofs.IncludesAreLookedFor.{at_hand, looking_stays, looked_for}

pub none_copied : {T : Type 0} (r : Option (Bor T)) → is_some r ≡ false → option_copied r ≡ None
none_copied None is = refl
none_copied (Some x) is = absurd (let e : true ≡ false = is in cc)

pub some_copied : {T : Type 0} (r : Option (Bor T)) → is_some r ≡ true → option_copied r ≡ None → ⊥
some_copied None is none = absurd (let e : false ≡ true = is in cc)
some_copied (Some x) is none = none_some x.now (sym none)

-- what is found for a list and a file, where it was told
pub is_found : (f : Knowledge) (list n : ℕ) (r : Option (Bor (List ℕ))) → option_copied r ≡ found_at f list n → is_some r ≡ true → found_at f list n ≡ None → ⊥
is_found f list n r is some none = some_copied r some (is ∙ none)

module _ (f g : Knowledge) (list n : ℕ) (is_list : list < length f.lists) (number : IsNumber f n) (read : (file : FileFacts) → file_at f n ≡ Some file → IsRead file) (r : Option (Bor (List ℕ)))
    (is : option_copied r ≡ found_at f list n) (unknown : is_some r ≡ false) (same : g.found ≡ f.found) (steps : List Step) (roots : List (List ℕ)) (learns : Learns steps roots OfNone f g) (targets : List ℕ)
    (firsts : (path : List ℕ) (dirs : List (List ℕ)) (includes : List Include) → IsLooking f list n path dirs includes → AreFirsts g dirs path includes targets) (h : Knowledge) (after : h ≡ with_found g list n targets) where
  pub comes_in : found_at h list n ≡ None → ⊥
  comes_in none = none_some targets (sym none ∙ subst (λ (k : Knowledge). found_at k list n ≡ Some targets) (sym after) (found_now g list n targets))

  pub comes_learns : Learns steps roots OfNone f h
  comes_learns =
      let hand = at_hand f list n is_list number read in
      let none : found_at g list n ≡ None = ap (λ (m : Founds). map.get m (list, n)) same ∙ sym is ∙ none_copied r unknown in
      let looked = looked_for f g list n targets hand.0 hand.1 hand.2 learns.grows is_list number hand.3 (firsts hand.0 hand.1 hand.2 hand.3) in
      learns_then steps roots OfNone f g h learns (subst (Learns steps roots OfNone g) (sym after) (found_learns steps roots OfNone g list n targets none looked))

  pub comes_true : (o : Option Disk) → IfSome o (λ d. StaysTrue steps roots d.now f g) → IfSome o (λ d. StaysTrue steps roots d.now f h)
  comes_true o told = told_map o (λ d. StaysTrue steps roots d.now f g) (λ d. StaysTrue steps roots d.now f h) (λ d first.
      let hand = at_hand f list n is_list number read in
      let looking = looking_stays f g list n hand.0 hand.1 hand.2 learns.grows hand.3 in
      true_then steps roots OfNone d.now f g h learns first (subst (StaysTrue steps roots d.now g) (sym after) (found_so steps roots d.now g list n hand.0 hand.1 hand.2 targets looking (firsts hand.0 hand.1 hand.2 hand.3)))) told
