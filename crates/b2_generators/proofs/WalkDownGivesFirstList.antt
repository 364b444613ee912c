-- A walk that takes the lowest place of each layer gives the first list; its branch tells whether there is a second.
use Rattle.std.proofs.Common.{◌≡◌, ℕ, suc, ◌+◌, ◌<◌, ◌≤◌, Bool, true, ◌&&◌, List, [], ◌∷◌, ◌++◌, length, take, Option, Some, None, MatchOption, refl, sym, ◌∙◌, ap, subst, append_assoc, ◌⊎◌, inl, inr, arith}
use Rattle.std.proofs.lemmas.Bool.{both_ways, cases_lt, and_parts, and_from, lt-ltb, ltb-true}
use Rattle.std.proofs.lemmas.List.{append-nil, take-append-le, take_at, length_push}
use Rattle.b2_base.specs.Numbers.{is_among}
use Rattle.b2_generators.specs.declared.generator.Generator.{Generator}
use Rattle.b2_generators.specs.declared.walk.Branch.{Branch}
use Rattle.b2_generators.specs.Places.{targets_at, takes_any_at, layer_at}
use Rattle.b2_generators.specs.Descents.{Descends, is_above, branch_after, CanGoOn, IsConnected, IsFirst, IsOnly, AreFirst, IsLowest, IsBranch, IsWalk}
use Rattle.b2_generators.proofs.LowestPlaceBeginsFirstList.{Follows, Begins, first_more, only_more, both_more, next_second, nothing_only, first_of_only}

-- ---- one step down

module _ (generators : List Generator) (layers : List (List ℕ)) (types : List (List ℕ)) (depth : ℕ) where
  -- a place of the layer that takes one of the types
  pub record Passes (place : ℕ) : Type 0 where
    pub there : is_among (layer_at layers depth) place ≡ true
    pub takes : takes_any_at generators types place ≡ true

  pub goes_on : (place : ℕ) → Passes place → Follows (Descends generators layers types) depth place (Descends generators layers (targets_at generators place))
  goes_on place passes = record {
    forth = λ rest size down. down.2;
    back = λ rest size down. (subst (λ n. is_among (layer_at layers n) place ≡ true) (sym size) passes.there, passes.takes, down);
  }

  pub begins_passes : (place : ℕ) → Begins (Descends generators layers types) depth place → Passes place
  begins_passes place begins = record {
    there = subst (λ n. is_among (layer_at layers n) place ≡ true) begins.1 begins.2.0;
    takes = begins.2.1;
  }

-- ---- the walk so far

-- what is known once some places have been chosen, with so many layers to go: a list that comes first from here on comes
-- first as a whole
pub record HasWalked (generators : List Generator) (layers : List (List ℕ)) (count : ℕ) (start : List (List ℕ)) (depth : ℕ) (types : List (List ℕ)) (made : List ℕ) : Type 0 where
  pub fits : depth + length made ≡ count
  pub first : (rest : List ℕ) → IsFirst (Descends generators layers types) depth rest → IsFirst (Descends generators layers start) count (made ++ rest)
  pub two : (one two : List ℕ) → AreFirst (Descends generators layers types) depth one two → AreFirst (Descends generators layers start) count (made ++ one) (made ++ two)

-- no other list could be chosen so far
abbrev pub IsAlone : List Generator → List (List ℕ) → ℕ → List (List ℕ) → ℕ → List (List ℕ) → List ℕ → Type 0
IsAlone generators layers count start depth types made = (rest : List ℕ) → IsOnly (Descends generators layers types) depth rest → IsOnly (Descends generators layers start) count (made ++ rest)

-- another list could last be chosen at the branch
pub record HasLeft (generators : List Generator) (layers : List (List ℕ)) (count : ℕ) (start : List (List ℕ)) (depth : ℕ) (types : List (List ℕ)) (made : List ℕ) (branch : Branch) : Type 0 where
  pub within : branch.after < count
  pub there : is_among (layer_at layers branch.after) branch.place ≡ true
  pub before : branch.before ≤ length made
  pub second : (rest : List ℕ) → IsOnly (Descends generators layers types) depth rest
      → (other : List ℕ) → IsFirst (Descends generators layers (targets_at generators branch.place)) branch.after other
      → AreFirst (Descends generators layers start) count (made ++ rest) (take branch.before made ++ branch.place ∷ other)

abbrev pub Leaves : List Generator → List (List ℕ) → ℕ → List (List ℕ) → ℕ → List (List ℕ) → List ℕ → Option Branch → Type 0
Leaves generators layers count start depth types made branch = MatchOption branch (IsAlone generators layers count start depth types made) (HasLeft generators layers count start depth types made)

module _ (generators : List Generator) (layers : List (List ℕ)) (start : List (List ℕ)) where
  -- nothing was chosen yet
  pub walk_start : (count : ℕ) → HasWalked generators layers count start count start []
  walk_start count = record { fits = omega arith; first = λ rest is. is; two = λ one two are. are }

  pub alone_start : (count : ℕ) → IsAlone generators layers count start count start []
  alone_start count rest is = is

  joined : (made : List ℕ) (place : ℕ) (rest : List ℕ) → (made ++ place ∷ []) ++ rest ≡ made ++ place ∷ rest
  joined made place rest = append_assoc made (place ∷ []) rest

  module _ (count depth : ℕ) (types : List (List ℕ)) (made : List ℕ) (place : ℕ) (passes : Passes generators layers types depth place) (lowest : (other : ℕ) → Passes generators layers types depth other → place ≤ other) where
    least : (p : ℕ) → Begins (Descends generators layers types) depth p → (p ≡ place) ⊎ (place < p)
    least p begins = go (cases_lt place p) (lowest p (begins_passes generators layers types depth p begins))
      where
        go : (place < p) ⊎ (p ≤ place) → place ≤ p → (p ≡ place) ⊎ (place < p)
        go (inl more) low = inr more
        go (inr less) low = inl (omega arith)

    -- the lowest place is chosen
    pub walk_more : HasWalked generators layers count start (suc depth) types made → HasWalked generators layers count start depth (targets_at generators place) (made ++ place ∷ [])
    walk_more walked = record {
      fits = more walked.fits (length_push made place);
      first = λ rest is. subst (λ (xs : List ℕ). IsFirst (Descends generators layers start) count xs) (sym (joined made place rest)) (walked.first (place ∷ rest) (first_more (Descends generators layers types) (Descends generators layers (targets_at generators place)) depth place (goes_on generators layers types depth place passes) rest least is));
      two = λ one two are. subst (λ (xs : List ℕ). AreFirst (Descends generators layers start) count xs ((made ++
          place ∷ []) ++ two)) (sym (joined made place one)) (subst (λ (xs : List ℕ). AreFirst (Descends generators
          layers start) count (made ++ place ∷ one) xs) (sym (joined made place two)) (walked.two (place ∷ one) (place
          ∷ two) (both_more (Descends generators layers types) (Descends generators layers (targets_at generators
          place)) depth place (goes_on generators layers types depth place passes) one two least are)));
    }
      where
        more : suc depth + length made ≡ count → length (made ++ place ∷ []) ≡ length made + 1 → depth + length (made ++ place ∷ []) ≡ count
        more fits size = omega arith

    -- no other place could be chosen
    module _ (only : (other : ℕ) → Passes generators layers types depth other → other ≡ place) where
      chosen : (rest : List ℕ) → IsOnly (Descends generators layers (targets_at generators place)) depth rest → IsOnly (Descends generators layers types) (suc depth) (place ∷ rest)
      chosen rest is = only_more (Descends generators layers types) (Descends generators layers (targets_at generators place)) depth place (goes_on generators layers types depth place passes) rest (λ p begins. only p (begins_passes generators layers types depth p begins)) is

      pub alone_more : IsAlone generators layers count start (suc depth) types made → IsAlone generators layers count start depth (targets_at generators place) (made ++ place ∷ [])
      alone_more alone rest is = subst (λ (xs : List ℕ). IsOnly (Descends generators layers start) count xs) (sym (joined made place rest)) (alone (place ∷ rest) (chosen rest is))

      pub left_more : (branch : Branch) → HasLeft generators layers count start (suc depth) types made branch → HasLeft generators layers count start depth (targets_at generators place) (made ++ place ∷ []) branch
      left_more branch left = record {
        within = left.within;
        there = left.there;
        before = longer left.before (length_push made place);
        second = λ rest is other first.
            subst (λ (xs : List ℕ). AreFirst (Descends generators layers start) count xs (take branch.before (made ++ place ∷ []) ++ branch.place ∷ other)) (sym (joined made place rest))
            (subst (λ (xs : List ℕ). AreFirst (Descends generators layers start) count (made ++ place ∷ rest) (xs ++ branch.place ∷ other)) (sym (take-append-le branch.before made (place ∷ []) left.before)) (left.second (place ∷ rest) (chosen rest is) other first));
      }
        where
          longer : branch.before ≤ length made → length (made ++ place ∷ []) ≡ length made + 1 → branch.before ≤ length (made ++ place ∷ [])
          longer less size = omega arith

      pub leaves_same : (branch : Option Branch) → Leaves generators layers count start (suc depth) types made branch → Leaves generators layers count start depth (targets_at generators place) (made ++ place ∷ []) branch
      leaves_same None alone = alone_more alone
      leaves_same (Some branch) left = left_more branch left

    -- another place could be chosen, the lowest one above
    module _ (next : ℕ) (above : place < next) (also : Passes generators layers types depth next) (second : (other : ℕ) → Passes generators layers types depth other → place < other → next ≤ other) where
      two_places : (p : ℕ) → Begins (Descends generators layers types) depth p → (p ≡ place) ⊎ ((p ≡ next) ⊎ (next < p))
      two_places p begins = go (least p begins)
        where
          up : next ≤ p → (next < p) ⊎ (p ≤ next) → (p ≡ place) ⊎ ((p ≡ next) ⊎ (next < p))
          up low (inl more) = inr (inr more)
          up low (inr less) = inr (inl (omega arith))

          go : (p ≡ place) ⊎ (place < p) → (p ≡ place) ⊎ ((p ≡ next) ⊎ (next < p))
          go (inl e) = inl e
          go (inr more) = up (second p (begins_passes generators layers types depth p begins) more) (cases_lt next p)

      pub leaves_here : HasWalked generators layers count start (suc depth) types made → Leaves generators layers count start depth (targets_at generators place) (made ++ place ∷ []) (Some (record { before = length made; place = next; after = depth }))
      leaves_here walked = record {
        within = inside walked.fits;
        there = also.there;
        before = longer (length_push made place);
        second = λ rest is other first.
            subst (λ (xs : List ℕ). AreFirst (Descends generators layers start) count xs (take (length made) (made ++ place ∷ []) ++ next ∷ other)) (sym (joined made place rest))
            (subst (λ (xs : List ℕ). AreFirst (Descends generators layers start) count (made ++ place ∷ rest) (xs ++ next ∷ other)) (sym (take_at made (place ∷ []) (length made) refl))
            (walked.two (place ∷ rest) (next ∷ other) (next_second (Descends generators layers types) (Descends generators layers (targets_at generators place)) (Descends generators layers (targets_at generators next)) depth place next
            (goes_on generators layers types depth place passes) (goes_on generators layers types depth next also) rest other above two_places is first)));
      }
        where
          inside : suc depth + length made ≡ count → depth < count
          inside fits = omega arith

          longer : length (made ++ place ∷ []) ≡ length made + 1 → length made ≤ length (made ++ place ∷ [])
          longer size = omega arith

  -- at the end
  pub walk_end : (count : ℕ) (types : List (List ℕ)) (made : List ℕ) (branch : Option Branch) → HasWalked generators layers count start 0 types made → Leaves generators layers count start 0 types made branch → IsWalk generators layers count start made branch
  walk_end count types made branch walked leaves = record {
    first = subst (λ (xs : List ℕ). IsFirst (Descends generators layers start) count xs) (append-nil made) (walked.first [] (first_of_only (Descends generators layers types) 0 [] nothing));
    rest = go branch leaves;
  }
    where
      nothing : IsOnly (Descends generators layers types) 0 []
      nothing = nothing_only (Descends generators layers types) tt

      go : (b : Option Branch) → Leaves generators layers count start 0 types made b → MatchOption b (IsOnly (Descends generators layers start) count made) (IsBranch generators layers count start made)
      go None alone = subst (λ (xs : List ℕ). IsOnly (Descends generators layers start) count xs) (append-nil made) (alone [] nothing)
      go (Some b) left = record {
        within = left.within;
        before = left.before;
        there = left.there;
        second = λ other first. subst (λ (xs : List ℕ). AreFirst (Descends generators layers start) count xs (take b.before made ++ b.place ∷ other)) (append-nil made) (left.second [] nothing other first);
      }

-- ---- the walk of the code

-- what is known when so many layers are left
pub record IsWalking (generators : List Generator) (layers : List (List ℕ)) (count : ℕ) (start : List (List ℕ)) (left : ℕ) (types : List (List ℕ)) (made : List ℕ) (branch : Option Branch) : Type 0 where
  pub within : left ≤ length layers
  pub goes_on : (depth : ℕ) → left ≡ suc depth → CanGoOn generators layers depth types
  pub walked : HasWalked generators layers count start left types made
  pub leaves : Leaves generators layers count start left types made branch

pub walking_start : (generators : List Generator) (layers : List (List ℕ)) (count : ℕ) (start : List (List ℕ)) (made : List ℕ) (branch : Option Branch) → count ≤ length layers → ((depth : ℕ) → count ≡ suc depth → CanGoOn generators layers depth start) → made ≡ [] → branch ≡ None → IsWalking generators layers count start count start made branch
walking_start generators layers count start made branch within on none free = subst (λ (m : List ℕ). IsWalking generators layers count start count start m branch) (sym none) (subst (λ (b : Option Branch). IsWalking generators layers count start count start [] b) (sym free) (record {
  within = within;
  goes_on = on;
  walked = walk_start generators layers start count;
  leaves = alone_start generators layers start count;
}))

-- the places of a layer that can be chosen
abbrev pub passes_test : List Generator → List (List ℕ) → Option ℕ → ℕ → Bool
passes_test generators types bound place = is_above bound place && takes_any_at generators types place

module _ (generators : List Generator) (layers : List (List ℕ)) (types : List (List ℕ)) (depth : ℕ) where
  -- there is one
  pub some_passes : (found : Option ℕ) → CanGoOn generators layers depth types → IsLowest (passes_test generators types None) (layer_at layers depth) found → found ≡ None → ⊥
  some_passes None on is e = both_ways (takes_any_at generators types on.0) (is on.0 on.1) on.2
  some_passes (Some place) on is e = cc

  pub lowest_passes : (place : ℕ) → IsLowest (passes_test generators types None) (layer_at layers depth) (Some place) → Passes generators layers types depth place
  lowest_passes place is = record { there = is.0; takes = is.1 }

  pub lowest_least : (place other : ℕ) → IsLowest (passes_test generators types None) (layer_at layers depth) (Some place) → Passes generators layers types depth other → place ≤ other
  lowest_least place other is passes = is.2 other passes.there passes.takes

  -- no other one
  pub no_other : (place : ℕ) → IsLowest (passes_test generators types None) (layer_at layers depth) (Some place) → IsLowest (passes_test generators types (Some place)) (layer_at layers depth) None → (other : ℕ) → Passes generators layers types depth other → other ≡ place
  no_other place is none other passes = go (cases_lt place other)
    where
      go : (place < other) ⊎ (other ≤ place) → other ≡ place
      go (inl more) = absurd (both_ways (passes_test generators types (Some place) other) (none other passes.there) (and_from (is_above (Some place) other) (takes_any_at generators types other) (lt-ltb place other more) passes.takes))
      go (inr less) = let low = lowest_least place other is passes in omega arith

module _ (generators : List Generator) (layers : List (List ℕ)) (count : ℕ) (start : List (List ℕ)) (depth : ℕ) (types : List (List ℕ)) (made : List ℕ) (branch : Option Branch) (place : ℕ) where
  pub walking_more : (next : Option ℕ) → IsConnected generators layers → IsWalking generators layers count start (suc depth) types made branch → IsLowest (passes_test generators types None) (layer_at layers depth) (Some place) → IsLowest (passes_test generators types (Some place)) (layer_at layers depth) next
      → IsWalking generators layers count start depth (targets_at generators place) (made ++ place ∷ []) (branch_after branch next (length made) depth)
  walking_more next connected walking is also = record {
    within = less walking.within;
    goes_on = λ deeper e. connected deeper place (inside deeper e walking.within) (subst (λ n. is_among (layer_at layers n) place ≡ true) e is.0);
    walked = walk_more generators layers start count depth types made place passes lowest walking.walked;
    leaves = go next also;
  }
    where
      less : suc depth ≤ length layers → depth ≤ length layers
      less e = omega arith

      inside : (deeper : ℕ) → depth ≡ suc deeper → suc depth ≤ length layers → suc deeper < length layers
      inside deeper e f = omega arith

      passes : Passes generators layers types depth place
      passes = lowest_passes generators layers types depth place is

      lowest : (other : ℕ) → Passes generators layers types depth other → place ≤ other
      lowest other p = lowest_least generators layers types depth place other is p

      go : (n : Option ℕ) → IsLowest (passes_test generators types (Some place)) (layer_at layers depth) n → Leaves generators layers count start depth (targets_at generators place) (made ++ place ∷ []) (branch_after branch n (length made) depth)
      go None none = leaves_same generators layers start count depth types made place passes lowest (no_other generators layers types depth place is none) branch walking.leaves
      go (Some n) found =
          let parts = and_parts (is_above (Some place) n) (takes_any_at generators types n) found.1 in
          leaves_here generators layers start count depth types made place passes lowest n (ltb-true place n parts.0) (record { there = found.0; takes = parts.1 })
          (λ other p more. found.2 other p.there (and_from (is_above (Some place) other) (takes_any_at generators types other) (lt-ltb place other more) p.takes)) walking.walked

pub walking_end : (generators : List Generator) (layers : List (List ℕ)) (count : ℕ) (start : List (List ℕ)) (left : ℕ) (types : List (List ℕ)) (made : List ℕ) (branch : Option Branch) → IsWalking generators layers count start left types made branch → left ≡ 0 → IsWalk generators layers count start made branch
walking_end generators layers count start left types made branch walking end =
    walk_end generators layers start count types made branch (subst (λ n. HasWalked generators layers count start n types made) end walking.walked) (subst (λ n. Leaves generators layers count start n types made branch) end walking.leaves)

module _ (generators : List Generator) (layers : List (List ℕ)) (count : ℕ) (start : List (List ℕ)) (left depth : ℕ) (types : List (List ℕ)) (made : List ℕ) (branch : Option Branch) (layer : List ℕ) (one : left ≡ suc depth) (at : layer ≡ layer_at layers depth) (walking : IsWalking generators layers count start left types made branch) where
  -- one of the layer can be chosen
  pub walking_finds : (found : Option ℕ) → IsLowest (passes_test generators types None) layer found → found ≡ None → ⊥
  walking_finds found is none = some_passes generators layers types depth found (walking.goes_on depth one) (subst (λ (ps : List ℕ). IsLowest (passes_test generators types None) ps found) at is) none

  pub walking_step : (found next : Option ℕ) (place before : ℕ) (types' : List (List ℕ)) (made' : List ℕ) (branch' : Option Branch) → IsConnected generators layers → found ≡ Some place → IsLowest (passes_test generators types None) layer found → IsLowest (passes_test generators types (Some place)) layer next
      → before ≡ length made → branch' ≡ branch_after branch next before depth → made' ≡ made ++ place ∷ [] → types' ≡ targets_at generators place → IsWalking generators layers count start depth types' made' branch'
  walking_step found next place before types' made' branch' connected chosen is also size left_at more given =
      subst (λ (ts : List (List ℕ)). IsWalking generators layers count start depth ts made' branch') (sym given)
      (subst (λ (m : List ℕ). IsWalking generators layers count start depth (targets_at generators place) m branch') (sym more)
      (subst (λ (b : Option Branch). IsWalking generators layers count start depth (targets_at generators place) (made ++ place ∷ []) b) (sym (left_at ∙ ap (λ n. branch_after branch next n depth) size))
      (walking_more generators layers count start depth types made branch place next connected (subst (λ n. IsWalking generators layers count start n types made branch) one walking)
      (subst (λ (ps : List ℕ). IsLowest (passes_test generators types None) ps (Some place)) at (subst (λ (o : Option ℕ). IsLowest (passes_test generators types None) layer o) chosen is))
      (subst (λ (ps : List ℕ). IsLowest (passes_test generators types (Some place)) ps next) at also))))
