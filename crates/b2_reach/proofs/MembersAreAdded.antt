-- Numbers that are added one by one, each once.
use Rattle.std.proofs.Common.{◌≡◌, ◌≢◌, ◌⊎◌, ◌↔◌, inl, inr, ℕ, zero, suc, ◌<◌, ◌≤◌, ◌+◌, Bool, List, [], ◌∷◌, ◌++◌, length, get_or, Some, refl, sym, ap, subst, ◌∙◌, arith, append-nil, append_assoc, take}
use Rattle.std.specs.List.{Contains, AllPairs}
use Rattle.std.proofs.lemmas.List.{take_more}
use Rattle.std.proofs.lemmas.List.Elements.{Contains-push_cases, Contains-append_left, Contains-append_cases, Contains-push}
use Rattle.b2_host.specs.OutsideLaws.{only_one}
use Rattle.b2_paths.specs.MarkSets.{IsMarked}
use Rattle.b2_runs.proofs.FirstElementOrLater.{Contains_here, Contains_there, Contains_cases, Contains_nil}
use Rattle.std.proofs.lemmas.List.Quantifiers.{all_pairs_push}
use Rattle.std.proofs.lemmas.Option.{slice_get-get_or}
use Rattle.b2_facts.proofs.ListsAtPlaces.{among_at}
use Rattle.b2_reach.specs.declared.reach.Reach.{Reach}
use Rattle.b2_reach.specs.Steps.{AreMarked, AddsOne, AddsOne.there, AddsOne.new, Adds, ChangesMembers}

-- ---- the front of a list

-- an element of the first few and one more
pub taken_more : {X : Type 0} (xs : List X) (i : ℕ) (d x : X) → i < length xs → Contains (take (i + 1) xs) x → Contains (take i xs) x ⊎ (get_or xs i d ≡ x)
taken_more xs i d x h c = Contains-push_cases (take i xs) (get_or xs i d) x (subst (λ l. Contains l x) (take_more xs i d h) c)

pub taken_in : {X : Type 0} (xs : List X) (i : ℕ) (x : X) → Contains (take i xs) x → Contains xs x
taken_in [] zero x c = c
taken_in [] (suc i) x c = c
taken_in (y ∷ xs) zero x c = absurd (Contains_nil x c)
taken_in (y ∷ xs) (suc i) x c = elim (Contains_cases y x (take i xs) c) [ inl e ↦ subst (λ z. Contains (y ∷ xs) z) e (Contains_here y xs) | inr d ↦ Contains_there y x xs (taken_in xs i x d) ]

-- all of a list
pub take_whole : {X : Type 0} (xs : List X) (i : ℕ) → length xs ≤ i → take i xs ≡ xs
take_whole [] zero h = refl
take_whole [] (suc i) h = refl
take_whole (x ∷ xs) zero h = absurd (omega arith)
take_whole (x ∷ xs) (suc i) h = ap (λ l. x ∷ l) (take_whole xs i (omega arith))

-- ---- what is added

pub adds_none : (P : ℕ → Type 0) (numbers : List ℕ) → Adds P numbers numbers
adds_none P numbers = record { added = []; after_is = sym (append-nil numbers); each = λ n among. absurd (omega (arith, among.1)); once = λ once. once }

pub adds_one : (P : ℕ → Type 0) (number : ℕ) (before mid after : List ℕ) → P number → AddsOne number mid after → Adds P before mid → Adds P before after
adds_one P number before mid after is (there among same) a = subst (Adds P before) (sym same) a
adds_one P number before mid after is (new not longer) a = record {
  added = a.added ++ number ∷ [];
  after_is = longer ∙ ap (λ l. l ++ number ∷ []) a.after_is ∙ append_assoc before a.added (number ∷ []);
  each = λ n among. elim (Contains-append_cases a.added (number ∷ []) n among) [ inl old ↦ a.each n old | inr last ↦ subst P (only_one number n last) is ];
  once = λ once. subst (AllPairs (λ n m. n ≢ m)) (sym longer) (all_pairs_push (λ n m. n ≢ m) mid number (a.once once) (λ k d low same. not (among_at mid k number (slice_get-get_or mid k d low ∙ ap Some same))));
}

pub adds_map : (P Q : ℕ → Type 0) (before after : List ℕ) → ((n : ℕ) → P n → Q n) → Adds P before after → Adds Q before after
adds_map P Q before after more a = record { added = a.added; after_is = a.after_is; each = λ n among. more n (a.each n among); once = a.once }

-- what is added is there, and what was there stays
pub added_there : (number : ℕ) (mid after : List ℕ) → AddsOne number mid after → Contains after number
added_there number mid after (there among same) = subst (λ l. Contains l number) (sym same) among
added_there number mid after (new not longer) = subst (λ l. Contains l number) (sym longer) (Contains-push mid number)

pub added_stays : (number : ℕ) (mid after : List ℕ) → AddsOne number mid after → (n : ℕ) → Contains mid n → Contains after n
added_stays number mid after (there among same) n is = subst (λ l. Contains l n) (sym same) is
added_stays number mid after (new not longer) n is = subst (λ l. Contains l n) (sym longer) (Contains-append_left mid (number ∷ []) n is)

-- what is there afterwards was there, or was added
pub added_was : (number : ℕ) (mid after : List ℕ) → AddsOne number mid after → (n : ℕ) → Contains after n → Contains mid n ⊎ (n ≡ number)
added_was number mid after (there among same) n is = inl (subst (λ l. Contains l n) same is)
added_was number mid after (new not longer) n is = elim (Contains-append_cases mid (number ∷ []) n (subst (λ l. Contains l n) longer is)) [ inl old ↦ inl old | inr last ↦ inr (sym (only_one number n last)) ]

-- ---- marks

-- one more number is marked and is a member
pub marked_new : (flags later : List Bool) (number : ℕ) (members : List ℕ) → AreMarked flags members → ((i : ℕ) → IsMarked later i ↔ ((i ≡ number) ⊎ IsMarked flags i)) → AreMarked later (members ++ number ∷ [])
marked_new flags later number members marked more n = (
  λ is. elim ((more n).0 is) [ inl e ↦ subst (Contains (members ++ number ∷ [])) (sym e) (Contains-push members number) | inr old ↦ Contains-append_left members (number ∷ []) n ((marked n).0 old) ],
  λ among. (more n).1 (elim (Contains-append_cases members (number ∷ []) n among) [ inl old ↦ inr ((marked n).1 old) | inr last ↦ inl (sym (only_one number n last)) ]),
)

-- nothing but members changes, again
pub changes_then : (r q p : Reach) → ChangesMembers r q → ChangesMembers q p → ChangesMembers r p
changes_then r q p a b = b ∙ ap (λ (x : Reach). record x { members = p.members }) a
