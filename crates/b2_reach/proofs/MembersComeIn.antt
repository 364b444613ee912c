-- What is found from a member comes in, and the work stays in order.
use Rattle.std.proofs.Common.{◌≡◌, ◌≢◌, inl, inr, ℕ, List, [], ◌++◌, Some, refl, sym, ap, subst, ◌∙◌, arith, append-nil, append_assoc}
use Rattle.std.specs.List.{Contains, AllPairs}
use Rattle.std.proofs.lemmas.List.Elements.{Contains-append_left, Contains-append_cases}
use Rattle.b2_plan.specs.declared.step.Step.{Step}
use Rattle.b2_plan.specs.declared.plan.Plan.{Plan}
use Rattle.b2_facts.specs.declared.file_facts.FileFacts.{FileFacts}
use Rattle.b2_facts.specs.Facts.{Knowledge, IsNumber, IsAbout, file_at}
use Rattle.b2_facts.specs.Growth.{Learns}
use Rattle.b2_facts.specs.Growth as facts
use Rattle.b2_facts.proofs.ListsAtPlaces.{some_is, none_some}
use Rattle.b2_reach.specs.declared.reach.Reach.{Reach}
use Rattle.b2_reach.specs.declared.due.Due.{Due}
use Rattle.b2_reach.specs.declared.due.Due.TheVariants as dues
use Rattle.b2_reach.specs.Files.{IsAtHand, IsAtHand.source as hand_source, IsAtHand.made as hand_made, IsMakerOf}
use Rattle.b2_reach.specs.Reaches.{IsTarget, Reaches, Reaches.first, Reaches.include, IsDone, IsDone.plain, IsDone.no_file, IsDone.gone, IsDone.found, IsInOrder, Gathers}
use Rattle.b2_reach.specs.Dues.{IsDue, IsAfter}
use Rattle.b2_reach.specs.Steps.{Adds, ChangesMembers, TakesIn, IsFoundWithin}
use Rattle.b2_reach.proofs.ReachGrows.{in_order_grows, gathers_none, reaches_grows, reaches_then, has_file}

-- only the members changed
members_of : (r q : Reach) → ChangesMembers r q → (added : List ℕ) → q.members ≡ r.members ++ added → q ≡ record r { members = r.members ++ added }
members_of r q same added longer = same ∙ ap (λ l. record r { members = l }) longer

-- a target that was found has a number
target_numbered : (steps : List Step) (roots : List (List ℕ)) (f : Knowledge) (list n m : ℕ) → IsAbout steps roots f → IsTarget f list n m → IsNumber f m
target_numbered steps roots f list n m about t = (about.found list n t.targets t.found).each m t.among

-- a member was taken in
pub takes_in : (plan : Plan) (settled : ℕ → Type 0) (f g : Knowledge) (r q : Reach) (number : ℕ) → IsAbout plan.steps plan.roots f → IsAbout plan.steps plan.roots g → facts.Grows f g → IsInOrder plan.steps settled f r → Contains r.members number
    → ((file : FileFacts) → file_at g number ≡ Some file → IsAtHand plan.steps settled file) → ChangesMembers r q → Adds (IsTarget g r.list number) r.members q.members → TakesIn plan settled g r q
takes_in plan settled f g r q number about later grown order member hand same adds =
    let q_is = members_of r q same adds.added adds.after_is in
    record {
      in_order = subst (IsInOrder plan.steps settled g) (sym q_is)
          (in_order_grows plan.steps plan.roots settled settled f g r adds.added about (λ k is. is) grown (λ n new. target_numbered plan.steps plan.roots g r.list number n later (adds.each n new)) (subst (AllPairs (λ n m. n ≢ m)) adds.after_is (adds.once order.once)) order);
      gathers = record {
        list = ap (λ (x : Reach). x.list) same;
        added = adds.added;
        members = adds.after_is;
        each = λ n new.
            (let (file, at) = has_file plan.steps plan.roots f number about (order.numbered number member) in
            let known = grown.files number file at in
            include number n known.0 (first number member) known.1 (hand known.0 known.1) (adds.each n new));
      };
    }

-- nothing came in
pub takes_none : (plan : Plan) (settled : ℕ → Type 0) (f g : Knowledge) (r : Reach) → IsAbout plan.steps plan.roots f → facts.Grows f g → IsInOrder plan.steps settled f r → TakesIn plan settled g r r
takes_none plan settled f g r about grown order =
    let none : r.members ++ [] ≡ r.members = append-nil r.members in
    record {
      in_order = subst (λ l. IsInOrder plan.steps settled g (record r { members = l })) none
          (in_order_grows plan.steps plan.roots settled settled f g r [] about (λ k is. is) grown (λ n new. absurd (omega (arith, new.1))) (subst (AllPairs (λ n m. n ≢ m)) (sym none) order.once) order);
      gathers = gathers_none plan.steps settled g r;
    }

-- members came in, and then more
pub gathers_then : (steps : List Step) (settled : ℕ → Type 0) (f g : Knowledge) (r q p : Reach) → facts.Grows f g → Gathers steps settled f r q → Gathers steps settled g q p → Gathers steps settled g r p
gathers_then steps settled f g r q p grown a b = record {
  list = b.list ∙ a.list;
  added = a.added ++ b.added;
  members = b.members ∙ ap (λ l. l ++ b.added) a.members ∙ append_assoc r.members a.added b.added;
  each = λ n new. elim (Contains-append_cases a.added b.added n new) [
    | inl before ↦ reaches_grows steps settled settled f g r.list (Contains r.members) (Contains r.members) (λ k is. is) grown (λ m is. is) n (a.each n before)
    | inr last ↦ reaches_then steps settled g r.list (Contains r.members) (Contains q.members)
        (λ m among. elim (Contains-append_cases r.members a.added m (subst (λ l. Contains l m) a.members among)) [
          | inl old ↦ first m old
          | inr new_m ↦ reaches_grows steps settled settled f g r.list (Contains r.members) (Contains r.members) (λ k is. is) grown (λ j is. is) m (a.each m new_m)
        ]) n (subst (λ list. Reaches steps settled g list (Contains q.members) n) a.list (b.each n last))
  ];
}

pub takes_then : (plan : Plan) (settled : ℕ → Type 0) (f g : Knowledge) (r q p : Reach) → facts.Grows f g → TakesIn plan settled f r q → TakesIn plan settled g q p → TakesIn plan settled g r p
takes_then plan settled f g r q p grown a b = record { in_order = b.in_order; gathers = gathers_then plan.steps settled f g r q p grown a.gathers b.gathers }

-- members stay members
pub wider : (steps : List Step) (settled : ℕ → Type 0) (f : Knowledge) (r q : Reach) → Gathers steps settled f r q → (m : ℕ) → Contains r.members m → Contains q.members m
wider steps settled f r q gathers m among = subst (λ l. Contains l m) (sym gathers.members) (Contains-append_left r.members gathers.added m among)

-- ---- what is due

-- a file at hand is so by its maker alone
pub hand_of_maker : (steps : List Step) (settled : ℕ → Type 0) (f : Knowledge) (number : ℕ) (file : FileFacts) → file_at f number ≡ Some file → IsAtHand steps settled file → IsAtHand steps (IsMakerOf f number) file
hand_of_maker steps settled f number file at (hand_source stamp unmade outside stands) = hand_source stamp unmade outside stands
hand_of_maker steps settled f number file at (hand_made k owed so) = hand_made k owed (record { file = file; file_is = at; made = owed.made })

-- the maker of a file at hand is settled
pub maker_settled : (steps : List Step) (settled : ℕ → Type 0) (f : Knowledge) (number : ℕ) (file : FileFacts) → file_at f number ≡ Some file → IsAtHand steps settled file → (k : ℕ) → IsMakerOf f number k → settled k
maker_settled steps settled f number file at hand k is = go hand
  where
    made : file.maker ≡ Some k
    made = ap (λ (x : FileFacts). x.maker) (some_is file is.file (sym at ∙ is.file_is)) ∙ is.made

    go : IsAtHand steps settled file → settled k
    go (hand_source stamp unmade outside stands) = absurd (none_some k (sym unmade ∙ made))
    go (hand_made j owed so) = subst settled (some_is j k (sym owed.made ∙ made)) so

-- where nothing is to be read, it is done
pub after_unread : (steps : List Step) (settled : ℕ → Type 0) (f : Knowledge) (list : ℕ) (members : List ℕ) (n : ℕ) (file : FileFacts) (due : Due) → (due ≡ dues.Read → ⊥) → IsDue steps settled file due → IsAfter steps settled f list members n file due
after_unread steps settled f list members n file dues.Nothing not is = elim is [ inl given ↦ plain given.0 given.1 | inr none ↦ no_file none ]
after_unread steps settled f list members n file dues.Lack not is = is
after_unread steps settled f list members n file dues.Wait not is = is
after_unread steps settled f list members n file dues.Read not is = absurd (not refl)

-- what was found is done
pub after_read_in : (steps : List Step) (settled : ℕ → Type 0) (f : Knowledge) (list : ℕ) (members : List ℕ) (n : ℕ) (file : FileFacts) → IsAtHand steps settled file → IsFoundWithin f list members n file → IsDone steps settled f list members n file
after_read_in steps settled f list members n file hand (inl (targets, at, within)) = found targets hand at within
after_read_in steps settled f list members n file hand (inr is) = gone hand is
