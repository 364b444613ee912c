-- Acts have one outcome.
use Rattle.std.proofs.Common.{◌≡◌, ℕ, ◌<◌, Bool, true, false, not, cond, List, [], ◌∷◌, ◌++◌, Option, Some, None, Result, Ok, Err, length, sym, ◌∙◌, ap, ap₂, subst, ◌⊎◌, inl, inr, arith}
use Rattle.std.specs.List.{filter}
use Rattle.std.proofs.lemmas.Bool.{false≢true}
use Rattle.std.proofs.lemmas.Cmp.{nat_list_cmp_total}
use Rattle.b2_plan.specs.declared.step.Step.{Step}
use Rattle.b2_props.specs.Sets.{Pair}
use Rattle.b2_generators.specs.declared.generator.Generator.{Generator}
use Rattle.b2_generators.specs.Chains.{ids_of, IsOnlyShortest, AreFirstTwo}
use Rattle.b2_base.specs.Bytes.{Before}
use Rattle.b2_generators.proofs.LowestPlaceBeginsFirstList.{not_before_itself}
use Rattle.b2_generators.proofs.ChainAnswersExcludeEachOther.{none_is_not_one, none_is_not_two, one_is_not_two}
use Rattle.b2_virtual.specs.Joining.{stands_in}
use Rattle.b2_virtual.specs.Clashes.{IsFirstClash, Fits}
use Rattle.b2_virtual.proofs.JoinedStepsKeepTheirNumbers.{one_clash, fitting_none}
use Rattle.b2_declaring_calls.specs.declared.declaration.Kind.{Kind}
use Rattle.b2_declaring_calls.specs.declared.declaration.Kind.TheVariants.{Exe, Lib, Obj, Alias, Make, Install}
use Rattle.jam_meaning.specs.Rolled.{Job, StepAnswer}
use Rattle.b2_virtual.specs.declared.entry.Entry.{Entry}
use Rattle.b2_making.specs.declared.output.Output.{Output}
use Rattle.b2_making.specs.Faults.{Fault, no_chain, two_chains, path_clash, location_outside, too_many_steps, eval}
use Rattle.b2_making.specs.Acts.{Outcome, Act, gives, refuses, Follows, and_then, for_each, for_all, InsideIf, Joins}
use Rattle.b2_making.specs.Contexts.{Context, Site}
use Rattle.b2_making.specs.Steps.{location_of, paths_of, job, placed_at, places, texted, asks, runs}
use Rattle.b2_virtual.specs.Supplies.{is_header, entries_of, carried_of}
use Rattle.b2_making.specs.Conversions.{chains, along, to_objects, linked, links, program, library_file, is_shared, named_file, to_convert, copies_at, makes_kind}
use Rattle.b2_making.specs.Laws.{IsOne}

-- ---- combinators

pub one_gives : {E A : Type 0} (value : A) → IsOne {E = E} (gives value)
one_gives value before a b p q = p ∙ sym q

pub one_refuses : {E A : Type 0} (fault : Fault E) → IsOne {E = E} {A = A} (refuses fault)
one_refuses fault before a b p q = p ∙ sym q

pub one_then : {E A B : Type 0} (act : Act E A) (next : A → Act E B) → IsOne act → ((value : A) → IsOne (next value)) → IsOne (and_then act next)
one_then {E} {A} {B} act next one ones before a b (x, p, f) (y, q, g) = go x f (subst (λ (z : Outcome E A). Follows next z b) (sym (one before x y p q)) g)
  where
    go : (z : Outcome E A) → Follows next z a → Follows next z b → a ≡ b
    go (Ok (value, mid)) f g = ones value mid a b f g
    go (Err fault) f g = f ∙ sym g

pub one_each : {E X A : Type 0} (act : X → Act E A) → ((x : X) → IsOne (act x)) → (xs : List X) → IsOne (for_each act xs)
one_each act one [] = one_gives []
one_each act one (x ∷ xs) =
    one_then (act x) (λ value. and_then (for_each act xs) (λ values. gives (value ∷ values))) (one x)
    (λ value. one_then (for_each act xs) (λ values. gives (value ∷ values)) (one_each act one xs) (λ values. one_gives (value ∷ values)))

pub one_all : {E X A : Type 0} (act : X → Act E (List A)) → ((x : X) → IsOne (act x)) → (xs : List X) → IsOne (for_all act xs)
one_all act one [] = one_gives []
one_all act one (x ∷ xs) =
    one_then (act x) (λ values. and_then (for_all act xs) (λ others. gives (values ++ others))) (one x)
    (λ values. one_then (for_all act xs) (λ others. gives (values ++ others)) (one_all act one xs) (λ others. one_gives (values ++ others)))

one_inside : {E : Type 0} (Inside : Type 0) (path : List ℕ) → IsOne {E = E} (InsideIf Inside path)
one_inside {E} Inside path before (Ok (p, after)) (Ok (q, later)) x y =
    ap₂ (λ (t : List ℕ) (s : List Step). let o : Outcome E (List ℕ) = Ok (t, s) in o) (x.1 ∙ sym y.1) (x.2 ∙ sym y.2)
one_inside Inside path before (Ok (p, after)) (Err f) x y = absurd (y.0 x.0)
one_inside Inside path before (Err f) (Ok (q, later)) x y = absurd (x.0 y.0)
one_inside {E} Inside path before (Err f) (Err g) x y = ap (λ (t : Fault E). let o : Outcome E (List ℕ) = Err t in o) (x.1 ∙ sym y.1)

-- ---- joining

fits_not_clash : (before : List Step) (step : Step) (path : List ℕ) → (stands_in before step ≡ true) ⊎ (Fits before step × (length before < 65536)) → stands_in before step ≡ false → IsFirstClash before step path → ⊥
fits_not_clash before step path (inl e) new clash = false≢true (sym new ∙ e)
fits_not_clash before step path (inr fits) new clash = fitting_none before step path fits.0 clash

few_not_many : (before : List Step) (step : Step) → (stands_in before step ≡ true) ⊎ (Fits before step × (length before < 65536)) → stands_in before step ≡ false → length before ≡ 65536 → ⊥
few_not_many before step (inl e) new many = false≢true (sym new ∙ e)
few_not_many before step (inr fits) new many = omega (arith, fits.1, many)

one_joins : {E A : Type 0} (value : A) (step : Step) → IsOne {E = E} (Joins value step)
one_joins {E} {A} value step before (Ok (v, after)) (Ok (w, later)) x y =
    ap₂ (λ (t : A) (s : List Step). let o : Outcome E A = Ok (t, s) in o) (x.0 ∙ sym y.0) (x.1 ∙ sym y.1)
one_joins value step before (Ok (v, after)) (Err (path_clash path)) x y = absurd (fits_not_clash before step path x.2 y.0 y.1)
one_joins value step before (Ok (v, after)) (Err (too_many_steps count)) x y = absurd (few_not_many before step x.2 y.0 y.2)
one_joins value step before (Ok (v, after)) (Err (no_chain a b)) x y = absurd y
one_joins value step before (Ok (v, after)) (Err (two_chains a b c d)) x y = absurd y
one_joins value step before (Ok (v, after)) (Err (location_outside path)) x y = absurd y
one_joins value step before (Ok (v, after)) (Err (eval why)) x y = absurd y
one_joins value step before (Err (path_clash path)) (Ok (w, later)) x y = absurd (fits_not_clash before step path y.2 x.0 x.1)
one_joins {E} {A} value step before (Err (path_clash path)) (Err (path_clash other)) x y =
    ap (λ (p : List ℕ). let o : Outcome E A = Err (path_clash p) in o) (one_clash before step path other x.1 y.1)
one_joins value step before (Err (path_clash path)) (Err (too_many_steps count)) x y = absurd (fitting_none before step path y.1 x.1)
one_joins value step before (Err (path_clash path)) (Err (no_chain a b)) x y = absurd y
one_joins value step before (Err (path_clash path)) (Err (two_chains a b c d)) x y = absurd y
one_joins value step before (Err (path_clash path)) (Err (location_outside other)) x y = absurd y
one_joins value step before (Err (path_clash path)) (Err (eval why)) x y = absurd y
one_joins value step before (Err (too_many_steps count)) (Ok (w, later)) x y = absurd (few_not_many before step y.2 x.0 x.2)
one_joins value step before (Err (too_many_steps count)) (Err (path_clash path)) x y = absurd (fitting_none before step path x.1 y.1)
one_joins {E} {A} value step before (Err (too_many_steps count)) (Err (too_many_steps other)) x y =
    ap (λ (n : ℕ). let o : Outcome E A = Err (too_many_steps n) in o) (x.3 ∙ sym y.3)
one_joins value step before (Err (too_many_steps count)) (Err (no_chain a b)) x y = absurd y
one_joins value step before (Err (too_many_steps count)) (Err (two_chains a b c d)) x y = absurd y
one_joins value step before (Err (too_many_steps count)) (Err (location_outside other)) x y = absurd y
one_joins value step before (Err (too_many_steps count)) (Err (eval why)) x y = absurd y
one_joins value step before (Err (no_chain a b)) other x y = absurd x
one_joins value step before (Err (two_chains a b c d)) other x y = absurd x
one_joins value step before (Err (location_outside path)) other x y = absurd x
one_joins value step before (Err (eval why)) other x y = absurd x

-- ---- chains

module _ (gs : List Generator) (set : List Pair) (from to : List ℕ) where
  before_then : (xs ys zs : List ℕ) → Before xs ys → Before ys zs → Before xs zs
  before_then xs ys zs a b = nat_list_cmp_total.trans xs ys zs a b

  circle : (xs ys : List ℕ) → Before xs ys → Before ys xs → ⊥
  circle xs ys a b = not_before_itself xs (before_then xs ys xs a b)

  only_one : (ids others : List (List ℕ)) → IsOnlyShortest gs set from to ids → IsOnlyShortest gs set from to others → ids ≡ others
  only_one ids others x y = x.named ∙ ap (ids_of gs) (y.only x.places x.shortest) ∙ sym y.named

  first_one : (a b c d : List (List ℕ)) (x : AreFirstTwo gs set from to a b) (y : AreFirstTwo gs set from to c d) → x.one ≡ y.one
  first_one a b c d x y = go (y.others x.one x.one_shortest) (x.others y.one y.one_shortest)
    where
      go : (x.one ≡ y.one) ⊎ ((x.one ≡ y.two) ⊎ Before y.two x.one) → (y.one ≡ x.one) ⊎ ((y.one ≡ x.two) ⊎ Before x.two y.one) → x.one ≡ y.one
      go (inl e) other = e
      go (inr later) (inl e) = sym e
      go (inr (inl e)) (inr (inl f)) = absurd (circle x.one x.two x.order (subst (λ (o : List ℕ). Before x.two o) (sym e) (subst (λ (o : List ℕ). Before o y.two) f y.order)))
      go (inr (inl e)) (inr (inr f)) = absurd (circle x.one y.one (before_then x.one x.two y.one x.order f) (subst (λ (o : List ℕ). Before y.one o) (sym e) y.order))
      go (inr (inr e)) (inr (inl f)) = absurd (circle x.one x.two x.order (subst (λ (o : List ℕ). Before o x.one) f (before_then y.one y.two x.one y.order e)))
      go (inr (inr e)) (inr (inr f)) = absurd (circle x.one y.one (before_then x.one x.two y.one x.order f) (before_then y.one y.two x.one y.order e))

  second_one : (a b c d : List (List ℕ)) (x : AreFirstTwo gs set from to a b) (y : AreFirstTwo gs set from to c d) → x.one ≡ y.one → x.two ≡ y.two
  second_one a b c d x y same = go (y.others x.two x.two_shortest) (x.others y.two y.two_shortest)
    where
      go : (x.two ≡ y.one) ⊎ ((x.two ≡ y.two) ⊎ Before y.two x.two) → (y.two ≡ x.one) ⊎ ((y.two ≡ x.two) ⊎ Before x.two y.two) → x.two ≡ y.two
      go (inl e) other = absurd (not_before_itself x.one (subst (λ (o : List ℕ). Before x.one o) (e ∙ sym same) x.order))
      go (inr (inl e)) other = e
      go (inr (inr e)) (inl f) = absurd (not_before_itself y.one (subst (λ (o : List ℕ). Before y.one o) (f ∙ same) y.order))
      go (inr (inr e)) (inr (inl f)) = sym f
      go (inr (inr e)) (inr (inr f)) = absurd (circle x.two y.two f e)

  one_chains : {E : Type 0} → IsOne {E = E} (chains gs set from to)
  one_chains {E} before (Ok (ids, after)) (Ok (others, later)) x y =
      ap₂ (λ (t : List (List ℕ)) (s : List Step). let o : Outcome E (List (List ℕ)) = Ok (t, s) in o) (only_one ids others x.0 y.0) (x.1 ∙ sym y.1)
  one_chains before (Ok (ids, after)) (Err (no_chain a b)) x y = absurd (none_is_not_one gs set from to ids y.2 x.0)
  one_chains before (Ok (ids, after)) (Err (two_chains a b c d)) x y = absurd (one_is_not_two gs set from to ids c d x.0 y.2)
  one_chains before (Ok (ids, after)) (Err (path_clash path)) x y = absurd y
  one_chains before (Ok (ids, after)) (Err (location_outside path)) x y = absurd y
  one_chains before (Ok (ids, after)) (Err (too_many_steps count)) x y = absurd y
  one_chains before (Ok (ids, after)) (Err (eval why)) x y = absurd y
  one_chains before (Err (no_chain a b)) (Ok (ids, after)) x y = absurd (none_is_not_one gs set from to ids x.2 y.0)
  one_chains {E} before (Err (no_chain a b)) (Err (no_chain c d)) x y =
      ap₂ (λ (s t : List ℕ). let o : Outcome E (List (List ℕ)) = Err (no_chain s t) in o) (x.0 ∙ sym y.0) (x.1 ∙ sym y.1)
  one_chains before (Err (no_chain a b)) (Err (two_chains c d e f)) x y = absurd (none_is_not_two gs set from to e f x.2 y.2)
  one_chains before (Err (no_chain a b)) (Err (path_clash path)) x y = absurd y
  one_chains before (Err (no_chain a b)) (Err (location_outside path)) x y = absurd y
  one_chains before (Err (no_chain a b)) (Err (too_many_steps count)) x y = absurd y
  one_chains before (Err (no_chain a b)) (Err (eval why)) x y = absurd y
  one_chains before (Err (two_chains a b c d)) (Ok (ids, after)) x y = absurd (one_is_not_two gs set from to ids c d y.0 x.2)
  one_chains before (Err (two_chains a b c d)) (Err (no_chain e f)) x y = absurd (none_is_not_two gs set from to c d y.2 x.2)
  one_chains {E} before (Err (two_chains a b c d)) (Err (two_chains e f g h)) x y =
      let ones = first_one c d g h x.2 y.2 in
      let twos = second_one c d g h x.2 y.2 ones in
      ap₂ (λ (s t : List ℕ). let o : Outcome E (List (List ℕ)) = Err (two_chains s t c d) in o) (x.0 ∙ sym y.0) (x.1 ∙ sym y.1)
      ∙ ap₂ (λ (s t : List (List ℕ)). let o : Outcome E (List (List ℕ)) = Err (two_chains e f s t) in o)
      (x.2.first_named ∙ ap (ids_of gs) ones ∙ sym y.2.first_named) (x.2.second_named ∙ ap (ids_of gs) twos ∙ sym y.2.second_named)
  one_chains before (Err (two_chains a b c d)) (Err (path_clash path)) x y = absurd y
  one_chains before (Err (two_chains a b c d)) (Err (location_outside path)) x y = absurd y
  one_chains before (Err (two_chains a b c d)) (Err (too_many_steps count)) x y = absurd y
  one_chains before (Err (two_chains a b c d)) (Err (eval why)) x y = absurd y
  one_chains before (Err (path_clash path)) other x y = absurd x
  one_chains before (Err (location_outside path)) other x y = absurd x
  one_chains before (Err (too_many_steps count)) other x y = absurd x
  one_chains before (Err (eval why)) other x y = absurd x

-- ---- what main targets make

module _ {E : Type 0} (c : Context E) (s : Site) where
  one_placed : (output : Output) (o : Option (List ℕ)) → IsOne (placed_at c s output o)
  one_placed output None = one_inside _ _
  one_placed output (Some location) = one_inside _ _

  one_place : (output : Output) → IsOne (places c s output)
  one_place output = one_then _ _ (one_placed output (cond output.moves (location_of s.set) None)) (λ path. one_gives _)

  one_texted : (j : Job) (answer : Result StepAnswer E) → IsOne (texted c s j answer)
  one_texted j (Ok answer) = one_gives _
  one_texted j (Err why) = one_refuses (eval why)

  one_asks : {A : Type 0} (j : Job) (value : A) → IsOne (asks c s j value)
  one_asks j value = one_then _ _ (one_texted j (c.step_text j)) (λ step. one_joins value step)

  one_runs : (name : List ℕ) (ins : List Entry) (outputs : List Output) → IsOne (runs c s name ins outputs)
  one_runs name ins outputs = one_then _ _ (one_each (places c s) one_place outputs) (λ made. one_asks (job s name (paths_of made) (paths_of ins)) made)

  one_along : (named : Option Output) (spare : List ℕ) (ids : List (List ℕ)) (ins : List Entry) → IsOne (along c s named spare ids ins)
  one_along named spare [] ins = one_gives ins
  one_along named spare (id ∷ []) ins = one_runs id ins _
  one_along named spare (id ∷ next ∷ more) ins = one_then _ _ (one_runs id ins _) (λ made. one_along named spare (next ∷ more) made)

  one_to_objects : (e : Entry) → IsOne (to_objects c s e)
  one_to_objects e = one_then _ _ (one_chains c.generators s.set _ _) (λ ids. one_then _ _ (one_along None e.tail ids (e ∷ [])) (λ made. one_gives _))

  one_linked : (named : Output) (ins : List Entry) → IsOne (linked c s named ins)
  one_linked named ins = one_then _ _ (one_chains c.generators s.set _ _) (λ ids. one_then _ _ (one_along (Some named) named.tail ids ins) (λ made. one_gives _))

  one_links : (named : Output) (with_libraries : Bool) → IsOne (links c s named with_libraries)
  one_links named with_libraries = one_then _ _ (one_all (to_objects c s) one_to_objects (to_convert s)) (λ made. one_linked named _)

  one_copies : (o : Option (List ℕ)) (e : Entry) → IsOne (copies_at c s o e)
  one_copies None e = one_then _ _ (one_inside _ _) (λ path. one_joins _ _)
  one_copies (Some location) e = one_then _ _ (one_inside _ _) (λ path. one_joins _ _)

  pub one_kind : (kind : Kind) → IsOne (makes_kind c kind s)
  one_kind Obj = one_then _ _ (one_all (to_objects c s) one_to_objects (filter (λ e. not (is_header e)) (entries_of s.sources))) (λ made. one_gives _)
  one_kind Exe = one_then _ _ (one_links (program s) true) (λ entries. one_gives _)
  one_kind Lib = one_then _ _ (one_links (library_file c.file_types s) (is_shared s)) (λ entries. one_gives _)
  one_kind Alias = one_gives (record { entries = entries_of s.parts; carried = carried_of s.parts })
  one_kind Make = one_then _ _ (one_runs s.rule (entries_of s.parts) (named_file c.file_types s ∷ [])) (λ entries. one_gives _)
  one_kind Install = one_then _ _ (one_each (copies_at c s (location_of s.set)) (one_copies (location_of s.set)) (entries_of s.parts)) (λ entries. one_gives _)
