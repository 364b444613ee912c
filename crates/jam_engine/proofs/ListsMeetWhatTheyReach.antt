-- What a list meets is all that it leads to, each once, and each list meets something.
use Rattle.std.proofs.Common.{◌≡◌, ◌≢◌, ◌⊎◌, inl, inr, ℕ, zero, suc, ◌+◌, ◌<◌, Bool, true, false, ◌||◌, List, [], ◌∷◌, ◌++◌, length, get_or, reverse, refl, sym, ap, ap₂, ◌∙◌, subst, arith}
use Rattle.std.specs.FinMap.{insert, from_entries}
use Rattle.std.specs.List.{Contains, AllByRecursion, AllPairs}
use Rattle.std.specs.Str.{bytes_eq}
use Rattle.std.proofs.lemmas.Bool.{true≢false}
use Rattle.std.proofs.lemmas.List.{reverse-append}
use Rattle.std.proofs.lemmas.List.Elements.{Contains-append_left, Contains-append_right, Contains-append_cases}
use Rattle.std.proofs.lemmas.List.Folds.{list_any-append}
use Rattle.std.proofs.lemmas.Option.{slice_get-get_or, get_or_from_slice_get}
use Rattle.std.proofs.lemmas.Slice.Eq.{bytes_eq-Decides}
use Rattle.jam_journal.specs.Tables.{Text, Names}
use Rattle.jam_journal.specs.Scopes.{Value}
use Rattle.jam_graph.specs.declared.graph.Graph.{Graph}
use Rattle.jam_engine.specs.Laws.{Reaches, self, on, EachMeets, MetIsReached, ReachedIsMet, EachIsMetOnce}
use Rattle.jam_engine.specs.Spreading.{MeetsOne}
use Rattle.jam_engine.specs.Spreads.{next, Meets, none, again, first}
use Rattle.jam_engine.specs.Tables.{is_in}
use Rattle.jam_engine.specs.Targets.{has}
use Rattle.jam_engine.proofs.LabelsGrow.{among, at_front, behind, none_there, all_map, all_both}
use Rattle.jam_engine.proofs.MeetsByLook.{met_old, met_new}
use Rattle.jam_engine.proofs.SetsGrow.{none_in}
use Rattle.jam_engine.proofs.SpreadGoesOn.{flip, opened, unseen, falls, seen_on}

-- ---- texts of a list

or_right : (a b : Bool) → b ≡ true → (a || b) ≡ true
or_right true b e = refl
or_right false b e = e

or_false : (a b : Bool) → (a || b) ≡ false → (a ≡ false) × (b ≡ false)
or_false true b e = absurd (true≢false e)
or_false false b e = (refl, e)

pub has_it : (texts : Value) (t : Text) → has texts t ≡ true → Contains texts t
has_it [] t e = absurd (true≢false (sym e))
has_it (x ∷ texts) t e = go (bytes_eq t x) refl (has_it texts t)
  where
    go : (b : Bool) → bytes_eq t x ≡ b → (has texts t ≡ true → Contains texts t) → Contains (x ∷ texts) t
    go true same rest = subst (Contains (x ∷ texts)) (sym ((bytes_eq-Decides t x).0 same)) (at_front x texts)
    go false other rest = behind x texts t (rest (sym (ap (λ b. b || has texts t) other) ∙ e))

pub has_there : (texts : Value) (t : Text) → Contains texts t → has texts t ≡ true
has_there [] t c = absurd (none_there t c)
has_there (x ∷ texts) t c = go (among x texts t c) (has_there texts t)
  where
    go : (x ≡ t) ⊎ Contains texts t → (Contains texts t → has texts t ≡ true) → has (x ∷ texts) t ≡ true
    go (inl e) rest = ap (λ b. b || has texts t) ((bytes_eq-Decides t x).1 (sym e))
    go (inr k) rest = or_right (bytes_eq t x) (has texts t) (rest k)

-- what stands at a place is an element
pub contains_at : {X : Type 0} (xs : List X) (i : ℕ) (d : X) → i < length xs → Contains xs (get_or xs i d)
contains_at xs i d low = (i, low, get_or_from_slice_get xs i (get_or xs i d) (get_or xs i d) (slice_get-get_or xs i d low))

-- ---- what is met is reached

met_from : (g : Graph) (seen list met : Value) (t : Text) → Meets g seen list met → Contains met t → (start : Text) × Contains list start × Reaches g start t
met_from g seen list met t none c = absurd (none_there t c)
met_from g seen list met t (again {more = more} {target = x} h m) c = (let (start, k, r) = met_from g _ _ _ t m c in (start, behind x more start k, r))
met_from g seen list met t (first {more = more} {below = below} {others = others} {target = x} h m n) c =
    go (among x (below ++ others) t c) (λ k. met_from g _ _ _ t m k) (λ k. met_from g _ _ _ t n k)
  where
    go : (x ≡ t) ⊎ Contains (below ++ others) t → (Contains below t → (start : Text) × Contains (next g x) start × Reaches g start t) → (Contains others t → (start : Text) × Contains more start × Reaches g start t)
        → (start : Text) × Contains (x ∷ more) start × Reaches g start t
    go (inl e) deep wide = (x, at_front x more, subst (Reaches g x) e (self x))
    go (inr k) deep wide = by (Contains-append_cases below others t k)
      where
        by : Contains below t ⊎ Contains others t → (start : Text) × Contains (x ∷ more) start × Reaches g start t
        by (inl l) = (let (start, a, r) = deep l in (x, at_front x more, on x start t a r))
        by (inr l) = (let (start, a, r) = wide l in (start, behind x more start a, r))

pub met_is_reached : MetIsReached
met_is_reached g list met target m c = met_from g [] list met target m c

-- ---- what is reached is met

abbrev Covered : Value → Value → Text → Type 0
Covered seen met z = Contains met z ⊎ (has seen z ≡ true)

-- all of a list, and all that follows what is met, is met or was seen
pub record Covers (g : Graph) (seen list met : Value) : Type 0 where
  pub listed : (z : Text) → Contains list z → Covered seen met z
  pub led : (y z : Text) → Contains met y → Contains (next g y) z → Covered seen met z

module _ (seen below others : Value) (x : Text) where
  abbrev All : Value
  All = x ∷ below ++ others

  below_covers : (z : Text) → Covered (x ∷ seen) below z → Covered seen All z
  below_covers z (inl c) = inl (behind x (below ++ others) z (Contains-append_left below others z c))
  below_covers z (inr e) = go (bytes_eq z x) refl
    where
      go : (b : Bool) → bytes_eq z x ≡ b → Covered seen All z
      go true same = inl (subst (Contains All) (sym ((bytes_eq-Decides z x).0 same)) (at_front x (below ++ others)))
      go false other = inr (sym (ap (λ b. b || has seen z) other) ∙ e)

  others_cover : (z : Text) → Covered (below ++ x ∷ seen) others z → Covered seen All z
  others_cover z (inl c) = inl (behind x (below ++ others) z (Contains-append_right below others z c))
  others_cover z (inr e) = go (has below z) refl
    where
      either : (has below z || has (x ∷ seen) z) ≡ true
      either = sym (list_any-append (bytes_eq z) below (x ∷ seen)) ∙ e

      go : (b : Bool) → has below z ≡ b → Covered seen All z
      go true there = below_covers z (inl (has_it below z there))
      go false out = below_covers z (inr (sym (ap (λ b. b || has (x ∷ seen) z) out) ∙ either))

covers_again : (g : Graph) (seen more met : Value) (x : Text) → has seen x ≡ true → Covers g seen more met → Covers g seen (x ∷ more) met
covers_again g seen more met x was rest = record { listed = λ z c. go z (among x more z c); led = rest.led }
  where
    go : (z : Text) → (x ≡ z) ⊎ Contains more z → Covered seen met z
    go z (inl e) = inr (subst (λ (t : Text). has seen t ≡ true) e was)
    go z (inr k) = rest.listed z k

covers_first : (g : Graph) (seen more below others : Value) (x : Text) → Covers g (x ∷ seen) (next g x) below → Covers g (below ++ x ∷ seen) more others → Covers g seen (x ∷ more) (x ∷ below ++ others)
covers_first g seen more below others x deep wide = record { listed = λ z c. in_list z (among x more z c); led = λ y z c k. behind_it y z (among x (below ++ others) y c) k }
  where
    in_list : (z : Text) → (x ≡ z) ⊎ Contains more z → Covered seen (x ∷ below ++ others) z
    in_list z (inl e) = inl (subst (Contains (x ∷ below ++ others)) e (at_front x (below ++ others)))
    in_list z (inr k) = others_cover seen below others x z (wide.listed z k)

    behind_it : (y z : Text) → (x ≡ y) ⊎ Contains (below ++ others) y → Contains (next g y) z → Covered seen (x ∷ below ++ others) z
    behind_it y z (inl e) k = below_covers seen below others x z (deep.listed z (subst (λ (t : Text). Contains (next g t) z) (sym e) k))
    behind_it y z (inr c) k = by (Contains-append_cases below others y c)
      where
        by : Contains below y ⊎ Contains others y → Covered seen (x ∷ below ++ others) z
        by (inl l) = below_covers seen below others x z (deep.led y z l k)
        by (inr l) = others_cover seen below others x z (wide.led y z l k)

pub covers : (g : Graph) (seen list met : Value) → Meets g seen list met → Covers g seen list met
covers g seen list met none = record { listed = λ z c. absurd (none_there z c); led = λ y z c k. absurd (none_there y c) }
covers g seen list met (again {more = more} {target = x} h m) = covers_again g seen more met x h (covers g _ _ _ m)
covers g seen list met (first {more = more} {below = below} {others = others} {target = x} h m n) = covers_first g seen more below others x (covers g _ _ _ m) (covers g _ _ _ n)

unseen_covers : (met : Value) (z : Text) → Covered [] met z → Contains met z
unseen_covers met z (inl c) = c
unseen_covers met z (inr e) = absurd (true≢false (sym e))

-- all of a list is met
pub listed_is_met : (g : Graph) (list met : Value) (z : Text) → Meets g [] list met → Contains list z → Contains met z
listed_is_met g list met z m c = unseen_covers met z ((covers g [] list met m).listed z c)

led_on : (g : Graph) (list met : Value) → Covers g [] list met → (start target : Text) → Contains met start → Reaches g start target → Contains met target
led_on g list met h start _ c (self _) = c
led_on g list met h start target c (on _ middle _ k r) = led_on g list met h middle target (unseen_covers met middle (h.led start middle c k)) r

pub reached_is_met : ReachedIsMet
reached_is_met g list met start target m c r = led_on g list met (covers g [] list met m) start target (listed_is_met g list met start m c) r

-- ---- each is met once

abbrev Distinct : Value → Type 0
Distinct [] = Unit {0}
Distinct (x ∷ xs) = (has xs x ≡ false) × Distinct xs

abbrev Fresh : Value → Value → Type 0
Fresh seen met = AllByRecursion (λ t. has seen t ≡ false) met

not_in : (texts : Value) (x : Text) → AllByRecursion (λ t. bytes_eq t x ≡ false) texts → has texts x ≡ false
not_in [] x h = refl
not_in (t ∷ texts) x (one, more) = ap₂ (λ a b. a || b) (flip x t ∙ one) (not_in texts x more)

distinct_both : (xs ys : Value) → Distinct xs → Distinct ys → AllByRecursion (λ t. has xs t ≡ false) ys → Distinct (xs ++ ys)
distinct_both [] ys d e h = e
distinct_both (x ∷ xs) ys (new, d) e h = (
  list_any-append (bytes_eq x) xs ys
      ∙ ap₂ (λ a b. a || b) new (not_in ys x (all_map (λ t. has (x ∷ xs) t ≡ false) (λ t. bytes_eq t x ≡ false) ys (λ t k. (or_false (bytes_eq t x) (has xs t) k).0) h)),
  distinct_both xs ys d e (all_map (λ t. has (x ∷ xs) t ≡ false) (λ t. has xs t ≡ false) ys (λ t k. (or_false (bytes_eq t x) (has xs t) k).1) h),
)

fresh_first : (seen below others : Value) (x : Text) → has seen x ≡ false → Fresh (x ∷ seen) below × Distinct below → Fresh (below ++ x ∷ seen) others × Distinct others → Fresh seen (x ∷ below ++ others) × Distinct (x ∷ below ++ others)
fresh_first seen below others x new (fresh_below, apart_below) (fresh_others, apart_others) = (
  (
    new,
    all_both (λ t. has seen t ≡ false) below others
        (all_map (λ t. has (x ∷ seen) t ≡ false) (λ t. has seen t ≡ false) below (λ t e. (or_false (bytes_eq t x) (has seen t) e).1) fresh_below)
        (all_map (λ t. has (below ++ x ∷ seen) t ≡ false) (λ t. has seen t ≡ false) others (λ t e. (or_false (bytes_eq t x) (has seen t) (in_two t e).1).1) fresh_others),
  ),
  (
    list_any-append (bytes_eq x) below others
        ∙ ap₂ (λ a b. a || b)
        (not_in below x (all_map (λ t. has (x ∷ seen) t ≡ false) (λ t. bytes_eq t x ≡ false) below (λ t e. (or_false (bytes_eq t x) (has seen t) e).0) fresh_below))
        (not_in others x (all_map (λ t. has (below ++ x ∷ seen) t ≡ false) (λ t. bytes_eq t x ≡ false) others (λ t e. (or_false (bytes_eq t x) (has seen t) (in_two t e).1).0) fresh_others)),
    distinct_both below others apart_below apart_others (all_map (λ t. has (below ++ x ∷ seen) t ≡ false) (λ t. has below t ≡ false) others (λ t e. (in_two t e).0) fresh_others),
  ),
)
  where
    in_two : (t : Text) → has (below ++ x ∷ seen) t ≡ false → (has below t ≡ false) × (has (x ∷ seen) t ≡ false)
    in_two t e = or_false (has below t) (has (x ∷ seen) t) (sym (list_any-append (bytes_eq t) below (x ∷ seen)) ∙ e)

fresh : (g : Graph) (seen list met : Value) → Meets g seen list met → Fresh seen met × Distinct met
fresh g seen list met none = (tt, tt)
fresh g seen list met (again h m) = fresh g _ _ _ m
fresh g seen list met (first {below = below} {others = others} {target = x} h m n) = fresh_first seen below others x h (fresh g _ _ _ m) (fresh g _ _ _ n)

apart : (xs : Value) → Distinct xs → AllPairs (λ (a b : Text). a ≢ b) xs
apart [] d i j z low within = λ e. omega (arith, within)
apart (x ∷ xs) d zero zero z low within = λ e. omega (arith, low)
apart (x ∷ xs) (new, d) zero (suc j) z low within = λ e. true≢false (sym (has_there xs x (subst (Contains xs) (sym e) (contains_at xs j z (omega (arith, within))))) ∙ new)
apart (x ∷ xs) d (suc i) zero z low within = λ e. omega (arith, low)
apart (x ∷ xs) (new, d) (suc i) (suc j) z low within = apart xs d i j z (omega (arith, low)) (omega (arith, within))

pub each_is_met_once : EachIsMetOnce
each_is_met_once g list met m = apart met (fresh g [] list met m).1

-- ---- each list meets something

abbrev Finds : Graph → ℕ → Type 0
Finds g n = (set : Names Bool) (met list : Value) → ((t : Text) → is_in set t ≡ has met t) → length (reverse list) + unseen set (g.depends ++ g.includes) < n → (more : Value) × Meets g met list more

finds_first : (g : Graph) (n : ℕ) → Finds g n → (set : Names Bool) (met : Value) (t : Text) (ts : Value) → ((x : Text) → is_in set x ≡ has met x)
    → length (reverse (t ∷ ts)) + unseen set (g.depends ++ g.includes) < suc n → (more : Value) × Meets g met (t ∷ ts) more
finds_first g n rest set met t ts same low = go (is_in set t) refl
  where
    pairs : List (Text × Text)
    pairs = g.depends ++ g.includes

    turned : reverse (t ∷ ts) ≡ reverse ts ++ t ∷ []
    turned = reverse-append (t ∷ []) ts

    go : (b : Bool) → is_in set t ≡ b → (more : Value) × Meets g met (t ∷ ts) more
    go true was =
        let one : MeetsOne g t set set met met (reverse ts) (reverse ts) = met_old g t set met (reverse ts) was in
        let less = falls g t set set met met (reverse (t ∷ ts)) (reverse ts) (reverse ts) one turned in
        let (more, m) = rest set met ts same (omega (arith, less, low)) in
        (more, again (sym (same t) ∙ was) m)
    go false was =
        let after : Names Bool = insert set t true in
        let waits : Value = reverse (next g t ++ ts) in
        let one : MeetsOne g t set after met (met ++ t ∷ []) (reverse ts) waits = met_new g t t t set after met (met ++ t ∷ []) (reverse ts) waits was refl refl refl refl (reverse-append (next g t) ts) in
        let less = falls g t set after met (met ++ t ∷ []) (reverse (t ∷ ts)) (reverse ts) waits one turned in
        let (more, m) = rest after (met ++ t ∷ []) (next g t ++ ts) (seen_on g t set after met (met ++ t ∷ []) (reverse ts) waits same one) (omega (arith, less, low)) in
        (t ∷ more, opened g met ts more t (sym (same t) ∙ was) m)

finds : (g : Graph) (n : ℕ) → Finds g n
finds g zero set met list same low = absurd (omega (arith, low))
finds g (suc n) set met [] same low = ([], none)
finds g (suc n) set met (t ∷ ts) same low = finds_first g n (λ s m l e k. finds g n s m l e k) set met t ts same low

pub each_meets : EachMeets
each_meets g list =
    let set : Names Bool = from_entries [] in
    finds g (suc (length (reverse list) + unseen set (g.depends ++ g.includes))) set [] list (λ t. none_in set t refl) (omega arith)
