-- What the nodes at some places give is the same after any number of further ones, for turns and requests.
use Rattle.std.proofs.Common.{arith, ◌≡◌, ◌<◌, ℕ, List, [], ◌∷◌, ◌++◌, length, refl, sym, ap, ◌∙◌}
use Rattle.std.specs.List.{AllByRecursion}
use Rattle.std.proofs.lemmas.List.{append_assoc}
use Rattle.b2_generate.specs.Nodes.{entry_in, AreAdded}
use Rattle.b2_generate.specs.Pieces.{given_at}
use Rattle.b2_generate.specs.declared.node.Node.{Node}
use Rattle.b2_generate.proofs.OlderNodesStay.{entry_older}

pub none_added : (nodes : List Node) → AreAdded nodes nodes
none_added nodes = record { newer = []; joined = refl }

pub added_then : (a b c : List Node) → AreAdded a b → AreAdded b c → AreAdded a c
added_then a b c first second = record {
  newer = second.newer ++ first.newer;
  joined = second.joined ∙ ap (λ (ns : List Node). second.newer ++ ns) first.joined ∙ sym (append_assoc second.newer first.newer a);
}

less_still : (newer old : List Node) (place : ℕ) → place < length old → place < length (newer ++ old)
less_still [] old place less = less
less_still (n ∷ newer) old place less = omega (arith, less_still newer old place less)

entry_still : (newer old : List Node) (place : ℕ) → place < length old → entry_in (newer ++ old) place ≡ entry_in old place
entry_still [] old place less = refl
entry_still (n ∷ newer) old place less = entry_older n (newer ++ old) place (less_still newer old place less) ∙ entry_still newer old place less

module _ (old new : List Node) (added : AreAdded old new) where
  pub less_stays : (place : ℕ) → place < length old → place < length new
  less_stays place less = omega (arith, less_still added.newer old place less, ap (λ (ns : List Node). length ns) added.joined)

  pub entry_stays : (place : ℕ) → place < length old → entry_in new place ≡ entry_in old place
  entry_stays place less = ap (λ (ns : List Node). entry_in ns place) added.joined ∙ entry_still added.newer old place less

  -- places that are there
  pub there_stays : (places : List ℕ) → AllByRecursion (λ place. place < length old) places → AllByRecursion (λ place. place < length new) places
  there_stays [] less = record {}
  there_stays (place ∷ more) (less, others) = (less_stays place less, there_stays more others)

  pub given_stays : (places : List ℕ) → AllByRecursion (λ place. place < length old) places → given_at new places ≡ given_at old places
  given_stays [] less = refl
  given_stays (place ∷ more) (less, others) = λ i. (entry_stays place less i).1 ∷ given_stays more others i
