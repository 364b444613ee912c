-- Groups join pattern by pattern and text by text, and one refused pattern refuses the run: for rules that match.
use Rattle.std.proofs.Common.{◌≡◌, ℕ, ◌+◌, ◌<◌, ◌≤◌, true, false, List, [], ◌∷◌, ◌++◌, length, get_or, take, drop, Option, Some, None, is_some, option_map, Ok, Err, refl, sym, ap, ◌∙◌, subst, ⊎_elim, ◌⊎◌, inl, inr}
use Rattle.std.specs.Str.{bytes_eq}
use Rattle.std.proofs.lemmas.Bool.{false≢true, cond-true, cond-false, cases_Bool}
use Rattle.std.proofs.lemmas.List.{take_all, take-append-drop}
use Rattle.std.proofs.lemmas.Slice.Eq.{bytes_eq-Decides}
use Rattle.jam_patterns.specs.Pattern.{Pattern, pattern_of, is_pattern}
use Rattle.jam_patterns.specs.Groups.{first_groups, groups_of}
use Rattle.jam_patterns.specs.declared.refusal.PatternFault.{PatternFault}
use Rattle.jam_patterns.specs.declared.refusal.PatternFault.TheVariants as faults
use Rattle.jam_natives.specs.Matches.{Found, go_on, run_all, groups_unless, with_groups, with_match, with_matches, matches_of, refused_as, IsRefusal}
use Rattle.jam_natives.proofs.TakenListsGrowByOne.{next_taken, next_dropped}

abbrev Text : Type 0
Text = List ℕ

abbrev Value : Type 0
Value = List Text

abbrev refusal : Text → Found
refusal pattern = Err pattern

-- ---- a run over a list

append_after : (r : Found) (next later last : Value → Found) → ((more : Value) → next more ≡ go_on (later more) last) → go_on r next ≡ go_on (go_on r later) last
append_after (Ok more) next later last goes = goes more
append_after (Err p) next later last goes = refl

run_all-append : (step : Value → Text → Found) (found : Value) (xs ys : List Text) → run_all step found (xs ++ ys) ≡ go_on (run_all step found xs) (λ more. run_all step more ys)
run_all-append step found [] ys = refl
run_all-append step found (x ∷ xs) ys =
    append_after (step found x) (λ more. run_all step more (xs ++ ys)) (λ more. run_all step more xs) (λ more. run_all step more ys) (λ more. run_all-append step more xs ys)

module _ (step : Value → Text → Found) (before now : Value) (xs : List Text) (i : ℕ) (x : Text) (low : i < length xs) (is : x ≡ get_or xs i x) where
  pub run_more : (next : Value) → run_all step before (take i xs) ≡ Ok now → step now x ≡ Ok next → run_all step before (take (i + 1) xs) ≡ Ok next
  run_more next so_far adds =
      ap (run_all step before) (next_taken xs i x low is) ∙ run_all-append step before (take i xs) (x ∷ [])
      ∙ ap (λ r. go_on r (λ more. run_all step more (x ∷ []))) so_far
      ∙ ap (λ r. go_on r (λ more. Ok more)) adds

  whole : run_all step before xs ≡ go_on (run_all step before (take i xs)) (λ more. go_on (step more x) (λ later. run_all step later (drop (i + 1) xs)))
  whole =
      ap (run_all step before) (sym (take-append-drop i xs)) ∙ run_all-append step before (take i xs) (drop i xs)
      ∙ ap (λ (rest : List Text). go_on (run_all step before (take i xs)) (λ more. run_all step more rest)) (next_dropped xs i x low is)

  -- the next step is refused, or an earlier one was
  pub run_refused : (p : Text) → (run_all step before (take i xs) ≡ Ok now) ⊎ (run_all step before (take i xs) ≡ Err p) → step now x ≡ Err p → run_all step before xs ≡ Err p
  run_refused p so_far refuses =
      whole
      ∙ ⊎_elim
      (λ e. ap (λ r. go_on r (λ more. go_on (step more x) (λ later. run_all step later (drop (i + 1) xs)))) e ∙ ap (λ r. go_on r (λ later. run_all step later (drop (i + 1) xs))) refuses)
      (λ e. ap (λ r. go_on r (λ more. go_on (step more x) (λ later. run_all step later (drop (i + 1) xs)))) e)
      so_far

pub run_done : (step : Value → Text → Found) (before now : Value) (xs : List Text) (i : ℕ) → length xs ≤ i → run_all step before (take i xs) ≡ Ok now → run_all step before xs ≡ Ok now
run_done step before now xs i end so_far = ap (run_all step before) (sym (take_all i xs end)) ∙ so_far

-- two steps of which the second one does what the first does, or refuses a pattern
abbrev Yields : (Value → Text → Found) → (Value → Text → Found) → Text → Type 0
Yields step other p = (found : Value) (x : Text) (next : Value) → step found x ≡ Ok next → (other found x ≡ Ok next) ⊎ (other found x ≡ Err p)

yields_after : (r s : Found) (p : Text) (next : Value) (first second : Value → Found) → ((more : Value) → r ≡ Ok more → (s ≡ Ok more) ⊎ (s ≡ Err p))
    → ((more : Value) → first more ≡ Ok next → (second more ≡ Ok next) ⊎ (second more ≡ Err p)) → go_on r first ≡ Ok next → (go_on s second ≡ Ok next) ⊎ (go_on s second ≡ Err p)
yields_after (Err q) s p next first second one goes e = cc
yields_after (Ok more) s p next first second one goes e =
    ⊎_elim
    (λ (same : s ≡ Ok more). subst (λ (r : Found). (go_on r second ≡ Ok next) ⊎ (go_on r second ≡ Err p)) (sym same) (goes more e))
    (λ (refuses : s ≡ Err p). inr (ap (λ r. go_on r second) refuses))
    (one more refl)

run_yields : (step other : Value → Text → Found) (p : Text) → Yields step other p → (found : Value) (xs : List Text) (next : Value) → run_all step found xs ≡ Ok next → (run_all other found xs ≡ Ok next) ⊎ (run_all other found xs ≡ Err p)
run_yields step other p yields found [] next e = inl e
run_yields step other p yields found (x ∷ xs) next e =
    yields_after (step found x) (other found x) p next (λ more. run_all step more xs) (λ more. run_all other more xs) (yields found x) (λ more. run_yields step other p yields more xs next) e

-- ---- one pattern in one text

-- said to be refused
groups_refused : (pattern text : Text) → groups_unless (Some pattern) pattern text ≡ None
groups_refused pattern text = cond-true (bytes_eq pattern pattern) None (groups_of pattern text) ((bytes_eq-Decides pattern pattern).1 refl)

match_yields : (p text : Text) → Yields (with_match None text) (with_match (Some p) text) p
match_yields p text found pattern next e =
    elim (cases_Bool (bytes_eq pattern p)) [
      | inl same ↦
          inr (ap (λ (g : Option (Option Value)). with_groups g pattern found) (cond-true (bytes_eq pattern p) None (groups_of pattern text) same) ∙ ap refusal ((bytes_eq-Decides pattern p).0 same))
      | inr other ↦
          inl (ap (λ (g : Option (Option Value)). with_groups g pattern found) (cond-false (bytes_eq pattern p) None (groups_of pattern text) other) ∙ e)
    ]

-- a text that is no pattern has no groups
no_groups : (pattern text : Text) (found : Value) → is_pattern pattern ≡ false → with_match None text found pattern ≡ Err pattern
no_groups pattern text found h = go (pattern_of pattern) h
  where
    go : (o : Option Pattern) → is_some o ≡ false → with_groups (option_map (λ (p : Pattern). first_groups p.re p.names text) o) pattern found ≡ Err pattern
    go None e = refl
    go (Some p) e = absurd (false≢true (sym e))

refuses_it : (pattern text : Text) (found : Value) → with_match (refused_as pattern) text found pattern ≡ Err pattern
refuses_it pattern text found =
    elim (cases_Bool (is_pattern pattern)) [
      | inl reads ↦
          ap (λ (r : Option Text). with_match r text found pattern) (cond-true (is_pattern pattern) (Some pattern) None reads)
          ∙ ap (λ (g : Option (Option Value)). with_groups g pattern found) (groups_refused pattern text)
      | inr none ↦ ap (λ (r : Option Text). with_match r text found pattern) (cond-false (is_pattern pattern) (Some pattern) None none) ∙ no_groups pattern text found none
    ]

pub match_refused : (fault : PatternFault) (pattern text : Text) (found : Value) → (fault ≡ faults.OutOfMemory) ⊎ (fault ≡ faults.Refused pattern)
    → IsRefusal fault (λ refused. with_match refused text found pattern)
match_refused fault pattern text found h =
    ⊎_elim (λ e. subst (λ f. IsRefusal f (λ refused. with_match refused text found pattern)) (sym e) tt)
    (λ e. subst (λ f. IsRefusal f (λ refused. with_match refused text found pattern)) (sym e) (refuses_it pattern text found)) h

-- ---- refusals within runs

-- a run without a refusal, where one is said: it is the same, or that pattern is refused
as_said : (step : Option Text → Value → Text → Found) → ((p : Text) → Yields (step None) (step (Some p)) p) → (p : Text) (found : Value) (xs : List Text) (next : Value) → run_all (step None) found xs ≡ Ok next
    → (run_all (step (refused_as p)) found xs ≡ Ok next) ⊎ (run_all (step (refused_as p)) found xs ≡ Err p)
as_said step yields p found xs next e =
    elim (cases_Bool (is_pattern p)) [
      | inl reads ↦
          subst (λ (r : Option Text). (run_all (step r) found xs ≡ Ok next) ⊎ (run_all (step r) found xs ≡ Err p)) (sym (cond-true (is_pattern p) (Some p) None reads))
          (run_yields (step None) (step (Some p)) p (yields p) found xs next e)
      | inr none ↦
          subst (λ (r : Option Text). (run_all (step r) found xs ≡ Ok next) ⊎ (run_all (step r) found xs ≡ Err p)) (sym (cond-false (is_pattern p) (Some p) None none)) (inl e)
    ]

run_refusal : (step : Option Text → Value → Text → Found) → ((p : Text) → Yields (step None) (step (Some p)) p) → (fault : PatternFault) (before now : Value) (xs : List Text) (i : ℕ) (x : Text) → i < length xs → x ≡ get_or xs i x
    → run_all (step None) before (take i xs) ≡ Ok now → IsRefusal fault (λ refused. step refused now x) → IsRefusal fault (λ refused. run_all (step refused) before xs)
run_refusal step yields faults.OutOfMemory before now xs i x low is so_far h = tt
run_refusal step yields (faults.Refused p) before now xs i x low is so_far h =
    run_refused (step (refused_as p)) before now xs i x low is p (as_said step yields p before (take i xs) now so_far) h

matches_yield : (patterns : List Text) (p : Text) → Yields (with_matches None patterns) (with_matches (Some p) patterns) p
matches_yield patterns p found text next e = run_yields (with_match None text) (with_match (Some p) text) p (match_yields p text) found patterns next e

pub pattern_refused : (text : Text) (fault : PatternFault) (before now : Value) (ps : List Text) (i : ℕ) (p : Text) → i < length ps → p ≡ get_or ps i p
    → run_all (with_match None text) before (take i ps) ≡ Ok now → IsRefusal fault (λ refused. with_match refused text now p) → IsRefusal fault (λ refused. with_matches refused ps before text)
pattern_refused text fault before now ps i p low is so_far h = run_refusal (λ refused. with_match refused text) (λ q. match_yields q text) fault before now ps i p low is so_far h

pub text_refused : (patterns : List Text) (fault : PatternFault) (now : Value) (texts : List Text) (i : ℕ) (text : Text) → i < length texts → text ≡ get_or texts i text
    → run_all (with_matches None patterns) [] (take i texts) ≡ Ok now → IsRefusal fault (λ refused. with_matches refused patterns now text) → IsRefusal fault (λ refused. matches_of refused patterns texts)
text_refused patterns fault now texts i text low is so_far h = run_refusal (λ refused. with_matches refused patterns) (matches_yield patterns) fault [] now texts i text low is so_far h
