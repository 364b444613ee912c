-- What stands at each type as a place is added there or what stood there is moved; one type, place or generator more.
use Rattle.std.proofs.Common.{◌≡◌, ◌==◌, ℕ, ◌+◌, ◌<◌, Bool, true, false, cond, ◌||◌, ◌&&◌, List, [], ◌∷◌, ◌++◌, length, take, get_or, is_some, Some, refl, sym, ◌∙◌, ap, ap₂, ◌⊎◌, inl, inr, arith}
use Rattle.std.specs.Prelude.{nat_lt, unwrap_or}
use Rattle.std.specs.Str.{bytes_eq}
use Rattle.std.specs.FinMap.{get, insert, from_entries, get-from_entries}
use Rattle.std.proofs.lemmas.Cmp.{nat_list_cmp_total}
use Rattle.std.proofs.lemmas.Bool.{or_cases, or_left, or_right, cases_order, lt-ltb, le-ltb, eq-eqb, ne_eqb}
use Rattle.std.proofs.lemmas.List.Folds.{list_any-append, list_any_more}
use Rattle.b2_base.specs.Numbers.{is_among}
use Rattle.b2_props.specs.Sets.{Pair}
use Rattle.b2_props.proofs.RepeatedPairsAddNothing.{text_is, text_itself}
use Rattle.b2_props.proofs.DraftHoldsEachGainedPair.{next_take}
use Rattle.b2_features.proofs.NewValuesKeepAllApart.{get_put}
use Rattle.b2_generators.specs.declared.generator.Generator.{Generator}
use Rattle.b2_generators.specs.Table.{has_text}
use Rattle.b2_generators.specs.Places.{gives_at, sources_at, is_taken_by}
use Rattle.b2_generators.specs.Layers.{Givers, stock, Moves}
use Rattle.b2_generators.proofs.LookupsAnswerAsListsDo.{has_text-push}
use Rattle.b2_generators.proofs.LayersAreFoundInOrder.{moved_both, moved_none}

-- ---- one type

-- what stands at a type once another list was put at one
pub stock_put : (givers : Givers) (target places : List ℕ) (type : List ℕ) → stock (insert givers target places) type ≡ cond (bytes_eq type target) places (stock givers type)
stock_put givers target places type = ap (λ o. unwrap_or o []) (get_put givers target places type) ∙ go (bytes_eq type target)
  where
    go : (b : Bool) → unwrap_or (cond b (Some places) (get givers type)) [] ≡ cond b places (stock givers type)
    go true = refl
    go false = refl

pub stock_none : (type : List ℕ) → stock (from_entries []) type ≡ []
stock_none type = ap (λ o. unwrap_or o []) (get-from_entries nat_list_cmp_total [] type)

-- a place is added after what stood at a type
pub stock_add : (old mid new : Givers) (target taken places : List ℕ) (place : ℕ) → taken ≡ stock old target → mid ≡ insert old target [] → places ≡ taken ++ place ∷ [] → new ≡ cond (is_some (get mid target)) (insert mid target places) mid
    → (type : List ℕ) → stock new type ≡ cond (bytes_eq type target) (stock old target ++ place ∷ []) (stock old type)
stock_add old mid new target taken places place was left more set type =
    ap (λ m. stock m type) (set ∙ ap (λ b. cond b (insert mid target places) mid) there) ∙ stock_put mid target places type ∙ ap (λ m. cond (bytes_eq type target) places (stock m type)) left
    ∙ ap (cond (bytes_eq type target) places) (stock_put old target [] type) ∙ go (bytes_eq type target)
  where
    there : is_some (get mid target) ≡ true
    there = ap (λ m. is_some (get m target)) left ∙ ap is_some (get_put old target [] target) ∙ ap (λ b. is_some (cond b (Some []) (get old target))) (text_itself target)

    go : (b : Bool) → cond b places (cond b [] (stock old type)) ≡ cond b (stock old target ++ place ∷ []) (stock old type)
    go true = more ∙ ap (λ ps. ps ++ place ∷ []) was
    go false = refl

pub among_push : (places : List ℕ) (place p : ℕ) → is_among (places ++ place ∷ []) p ≡ (is_among places p || place == p)
among_push places place p = list_any-append (λ q. q == p) places (place ∷ []) ∙ ap (λ b. is_among places p || b) (go (place == p))
  where
    go : (b : Bool) → (b || false) ≡ b
    go true = refl
    go false = refl

pub place_add : (old new : Givers) (target : List ℕ) (place : ℕ) → ((type : List ℕ) → stock new type ≡ cond (bytes_eq type target) (stock old target ++ place ∷ []) (stock old type))
    → (type : List ℕ) (p : ℕ) → is_among (stock new type) p ≡ (is_among (stock old type) p || (place == p && bytes_eq type target))
place_add old new target place added type p = ap (λ ps. is_among ps p) (added type) ∙ go (bytes_eq type target) refl
  where
    none : (a b : Bool) → a ≡ (a || (b && false))
    none true b = refl
    none false true = refl
    none false false = refl

    one : (a b : Bool) → (a || b) ≡ (a || (b && true))
    one true b = refl
    one false true = refl
    one false false = refl

    go : (b : Bool) → bytes_eq type target ≡ b → is_among (cond b (stock old target ++ place ∷ []) (stock old type)) p ≡ (is_among (stock old type) p || (place == p && b))
    go true e = among_push (stock old target) place p ∙ ap (λ (t : List ℕ). is_among (stock old t) p || place == p) (sym (text_is type target e)) ∙ one (is_among (stock old type) p) (place == p)
    go false e = none (is_among (stock old type) p) (place == p)

-- ---- some types

pub place_add_more : (start old new : Givers) (targets : List (List ℕ)) (i : ℕ) (target : List ℕ) (place : ℕ) → i < length targets → target ≡ get_or targets i target
    → ((type : List ℕ) (p : ℕ) → is_among (stock old type) p ≡ (is_among (stock start type) p || (place == p && has_text (take i targets) type)))
    → ((type : List ℕ) → stock new type ≡ cond (bytes_eq type target) (stock old target ++ place ∷ []) (stock old type))
    → (type : List ℕ) (p : ℕ) → is_among (stock new type) p ≡ (is_among (stock start type) p || (place == p && has_text (take (i + 1) targets) type))
place_add_more start old new targets i target place within is before added type p =
    place_add old new target place added type p ∙ ap (λ b. b || (place == p && bytes_eq type target)) (before type p) ∙ go (is_among (stock start type) p) (place == p) (has_text (take i targets) type) (bytes_eq type target)
    ∙ ap (λ b. is_among (stock start type) p || (place == p && b)) (sym (ap (λ ts. has_text ts type) (next_take targets i target within is) ∙ has_text-push (take i targets) target type))
  where
    go : (a b c d : Bool) → ((a || (b && c)) || (b && d)) ≡ (a || (b && (c || d)))
    go true b c d = refl
    go false true c d = refl
    go false false c d = refl

-- ---- all generators

pub place_next : (generators : List Generator) (set : List Pair) (n p : ℕ) (type : List ℕ) → ((nat_lt p n && gives_at generators set p type) || (n == p && gives_at generators set n type)) ≡ (nat_lt p (n + 1) && gives_at generators set p type)
place_next generators set n p type = go (cases_order p n)
  where
    one : (g : Bool) → ((true && g) || (false && gives_at generators set n type)) ≡ (true && g)
    one true = refl
    one false = refl

    go : (p ≡ n) ⊎ ((p < n) ⊎ (n < p)) → ((nat_lt p n && gives_at generators set p type) || (n == p && gives_at generators set n type)) ≡ (nat_lt p (n + 1) && gives_at generators set p type)
    go (inl e) =
        ap₂ (λ a b. (a && gives_at generators set p type) || (b && gives_at generators set n type)) (le-ltb p n (omega arith)) (eq-eqb n p (sym e))
        ∙ ap (λ k. gives_at generators set k type) (sym e) ∙ ap (λ a. a && gives_at generators set p type) (sym (lt-ltb p (n + 1) (omega arith)))
    go (inr (inl less)) =
        ap₂ (λ a b. (a && gives_at generators set p type) || (b && gives_at generators set n type)) (lt-ltb p n less) (ne_eqb n p (λ e. omega arith))
        ∙ one (gives_at generators set p type) ∙ ap (λ a. a && gives_at generators set p type) (sym (lt-ltb p (n + 1) (omega arith)))
    go (inr (inr more)) =
        ap₂ (λ a b. (a && gives_at generators set p type) || (b && gives_at generators set n type)) (le-ltb p n (omega arith)) (ne_eqb n p (λ e. omega arith))
        ∙ ap (λ a. a && gives_at generators set p type) (sym (le-ltb p (n + 1) (omega arith)))

-- ---- what is moved

pub moved_one : (old new : Givers) (target taken before after : List ℕ) → taken ≡ stock old target → new ≡ insert old target [] → after ≡ before ++ taken → Moves (λ type. bytes_eq type target) old new before after
moved_one old new target taken before after was left joined = record {
  stocks = λ type. ap (λ m. stock m type) left ∙ stock_put old target [] type;
  stays = λ place here. ap (λ ps. is_among ps place) joined ∙ list_any-append (λ q. q == place) before taken ∙ or_left (is_among before place) (is_among taken place) here;
  comes = λ type place same here.
      ap (λ ps. is_among ps place) joined ∙ list_any-append (λ q. q == place) before taken
      ∙ or_right (is_among before place) (is_among taken place) (ap (λ ps. is_among ps place) was ∙ ap (λ (t : List ℕ). is_among (stock old t) place) (sym (text_is type target same)) ∙ here);
  only = λ place here. go place (or_cases (is_among before place) (is_among taken place) (sym (ap (λ ps. is_among ps place) joined ∙ list_any-append (λ q. q == place) before taken) ∙ here));
}
  where
    go : (place : ℕ) → (is_among before place ≡ true) ⊎ (is_among taken place ≡ true) → (is_among before place ≡ true) ⊎ ((type : List ℕ) × (bytes_eq type target ≡ true) × (is_among (stock old type) place ≡ true))
    go place (inl here) = inl here
    go place (inr here) = inr (target, text_itself target, sym (ap (λ ps. is_among ps place) was) ∙ here)

pub moved_start : (givers : Givers) (places : List ℕ) → Moves (has_text []) givers givers places places
moved_start givers places = moved_none (has_text []) givers places (λ type. refl)

pub moved_more : (start old new : Givers) (targets : List (List ℕ)) (i : ℕ) (target : List ℕ) (before mid after : List ℕ) → i < length targets → target ≡ get_or targets i target
    → Moves (has_text (take i targets)) start old before mid → Moves (λ type. bytes_eq type target) old new mid after → Moves (has_text (take (i + 1) targets)) start new before after
moved_more start old new targets i target before mid after within is first second =
    moved_both (has_text (take i targets)) (λ type. bytes_eq type target) (has_text (take (i + 1) targets)) start old new before mid after (λ type. ap (λ ts. has_text ts type) (next_take targets i target within is) ∙ has_text-push (take i targets) target type) first second

pub layer_start : (generators : List Generator) (givers : Givers) (places : List ℕ) → Moves (is_taken_by generators []) givers givers places places
layer_start generators givers places = moved_none (is_taken_by generators []) givers places (λ type. refl)

pub layer_more : (generators : List Generator) (start old new : Givers) (layer : List ℕ) (i place : ℕ) (before mid after : List ℕ) → i < length layer → place ≡ get_or layer i 0
    → Moves (is_taken_by generators (take i layer)) start old before mid → Moves (has_text (sources_at generators place)) old new mid after → Moves (is_taken_by generators (take (i + 1) layer)) start new before after
layer_more generators start old new layer i place before mid after within is first second =
    moved_both (is_taken_by generators (take i layer)) (has_text (sources_at generators place)) (is_taken_by generators (take (i + 1) layer)) start old new before mid after
    (λ type. list_any_more (λ p. has_text (sources_at generators p) type) layer i 0 within ∙ ap (λ p. is_taken_by generators (take i layer) type || has_text (sources_at generators p) type) (sym is)) first second

pub adds_none : (a b : Bool) → a ≡ (a || (b && false))
adds_none true b = refl
adds_none false true = refl
adds_none false false = refl

-- no generator stands before the first place
pub place_none : (generators : List Generator) (set : List Pair) (p : ℕ) (type : List ℕ) → false ≡ (nat_lt p 0 && gives_at generators set p type)
place_none generators set p type = sym (ap (λ b. b && gives_at generators set p type) (le-ltb p 0 (omega arith)))
