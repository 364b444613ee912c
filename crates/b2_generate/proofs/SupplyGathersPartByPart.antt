-- What some needs supply, one part after another.
use Rattle.std.proofs.Common.{arith, ◌≡◌, ◌<◌, ◌≤◌, Bool, true, false, ℕ, suc, ◌+◌, List, [], ◌∷◌, ◌++◌, Option, Some, None, length, map, filter, take, get_or, reverse, slice_get, refl, sym, ap, subst, ◌∙◌, if◌then◌else◌}
use Rattle.std.specs.Prelude.{option_map}
use Rattle.std.specs.List.{AllByRecursion, flat_map}
use Rattle.std.specs.FinMap as finite
use Rattle.std.proofs.lemmas.List.{append_assoc, map-append, take_all, reverse-reverse}
use Rattle.std.proofs.Math.Seq.{take-suc}
use Rattle.b2_generators.specs.Table.{FileType}
use Rattle.b2_references.specs.Names.{Name, is_same}
use Rattle.b2_virtual.specs.declared.entry.Supply.{Supply}
use Rattle.b2_virtual.specs.Supplies.{file_entry}
use Rattle.b2_alternatives.specs.declared.need.Need.{Need}
use Rattle.b2_alternatives.specs.DependencyWork.{is_known, AreKnown}
use Rattle.b2_generate.specs.Answers.{Generated}
use Rattle.b2_generate.specs.Supplies.{Part, of_file, of_target, parts_of, supply_of, supply_list, supplied}
use Rattle.b2_generate.specs.Gathering.{test_of, named_by, Gathers}
use Rattle.b2_generate.specs.Machine.{place_among, HasPlaces}
use Rattle.b2_generate.specs.Nodes.{entry_in}
use Rattle.b2_generate.specs.Tables.{Table}
use Rattle.b2_generate.specs.declared.node.Node.{Node}
use Rattle.b2_generate.specs.declared.supplies.Wanted.{Wanted}
use Rattle.b2_generate.specs.declared.supplies.SuppliesSoFar.{SuppliesSoFar}
use Rattle.b2_generate.proofs.OlderNodesStay.{node_at, supply_at}

-- ---- lists, one element further

plus_one : (n : ℕ) → n + 1 ≡ suc n
plus_one n = omega arith

pub further_at : {A : Type 0} → (xs : List A) (at : ℕ) (d : A) → at < length xs → take (at + 1) xs ≡ take at xs ++ get_or xs at d ∷ []
further_at xs at d inside = ap (λ n. take n xs) (plus_one at) ∙ take-suc xs at d inside

pub further : {A : Type 0} → (xs : List A) (at : ℕ) (x : A) → at < length xs → x ≡ get_or xs at x → take (at + 1) xs ≡ take at xs ++ x ∷ []
further xs at x inside is = ap (λ n. take n xs) (plus_one at) ∙ take-suc xs at x inside ∙ ap (λ y. take at xs ++ y ∷ []) (sym is)

module _ (types : List FileType) (done : List (Name × Generated)) where
  pub gathers_none : (held : SuppliesSoFar) → Gathers types done [] held held
  gathers_none held = record { adds = λ seen known. (seen, known, λ rest. refl) }

  pub gathers_then : (xs ys : List Part) (a b c : SuppliesSoFar) → Gathers types done xs a b → Gathers types done ys b c → Gathers types done (xs ++ ys) a c
  gathers_then xs ys a b c first second = record {
    adds = λ seen known.
        let p = first.adds seen known in
        let q = second.adds p.0 p.1 in
        (q.0, q.1, λ rest. q.2 rest ∙ p.2 (ys ++ rest) ∙ ap (λ zs. a.made ++ supplied types done seen zs) (sym (append_assoc xs ys rest)));
  }

  pub gathers_file : (path : List ℕ) (old new : SuppliesSoFar) → new.seen ≡ old.seen → new.made ≡ old.made ++ record { entries = file_entry types path ∷ []; carried = [] } ∷ []
      → Gathers types done (of_file path ∷ []) old new
  gathers_file path old new same made = record {
    adds = λ seen known.
        (seen, subst (AreKnown seen) (sym same) known, λ rest. ap (λ (held : List Supply). held ++ supplied types done seen rest) made ∙ append_assoc old.made (record { entries = file_entry types path ∷ []; carried = [] } ∷ []) (supplied types done seen rest));
  }

  pub gathers_seen : (name : Name) (held : SuppliesSoFar) → is_known held.seen name ≡ true → Gathers types done (of_target name ∷ []) held held
  gathers_seen name held was = record {
    adds = λ seen known. (
      seen,
      known,
      λ rest.
          ap (λ (b : Bool). held.made ++ (if b then supplied types done seen rest else supply_list (supply_of done name) ++ supplied types done (seen ++ name ∷ []) rest)) (sym was ∙ known.known name),
    );
  }

  pub gathers_new : (name : Name) (old new : SuppliesSoFar) → is_known old.seen name ≡ false → ((names : List Name) → AreKnown names old.seen → AreKnown (names ++ name ∷ []) new.seen)
      → new.made ≡ old.made ++ supply_list (supply_of done name) → Gathers types done (of_target name ∷ []) old new
  gathers_new name old new was more made = record {
    adds = λ seen known. (
      seen ++ name ∷ [],
      more seen known,
      λ rest.
          ap (λ (held : List Supply). held ++ supplied types done (seen ++ name ∷ []) rest) made
          ∙ append_assoc old.made (supply_list (supply_of done name)) (supplied types done (seen ++ name ∷ []) rest)
          ∙ ap (λ (b : Bool). old.made ++ (if b then supplied types done seen rest else supply_list (supply_of done name) ++ supplied types done (seen ++ name ∷ []) rest)) (sym was ∙ known.known name),
    );
  }

  -- it supplies nothing
  pub gathers_bare : (name : Name) (old new : SuppliesSoFar) → is_known old.seen name ≡ false → ((names : List Name) → AreKnown names old.seen → AreKnown (names ++ name ∷ []) new.seen)
      → new.made ≡ old.made → None ≡ supply_of done name → Gathers types done (of_target name ∷ []) old new
  gathers_bare name old new was more made none =
      gathers_new name old new was more (made ∙ sym (nothing old.made) ∙ ap (λ (o : Option Supply). old.made ++ supply_list o) none)
    where
      nothing : (xs : List Supply) → xs ++ [] ≡ xs
      nothing [] = refl
      nothing (x ∷ xs) = ap (λ ys. x ∷ ys) (nothing xs)

  pub gathers_given : (name : Name) (old new : SuppliesSoFar) (supply : Supply) → is_known old.seen name ≡ false → ((names : List Name) → AreKnown names old.seen → AreKnown (names ++ name ∷ []) new.seen)
      → new.made ≡ old.made ++ supply ∷ [] → Some supply ≡ supply_of done name → Gathers types done (of_target name ∷ []) old new
  gathers_given name old new supply was more made given =
      gathers_new name old new was more (made ∙ ap (λ (o : Option Supply). old.made ++ supply_list o) given)

  -- the next main target of several
  pub gathers_name : (names : List Name) (at : ℕ) (name : Name) (a b c : SuppliesSoFar) → at < length names → name ≡ get_or names at name
      → Gathers types done (map of_target (take at names)) a b → Gathers types done (of_target name ∷ []) b c → Gathers types done (map of_target (take (at + 1) names)) a c
  gathers_name names at name a b c inside is before one =
      subst (λ (parts : List Part). Gathers types done parts a c) (sym (ap (map of_target) (further names at name inside is) ∙ map-append of_target (take at names) (name ∷ [])))
      (gathers_then (map of_target (take at names)) (of_target name ∷ []) a b c before one)

  -- the next need of several
  named_both : (wanted : Wanted) (xs ys : List Need) → named_by wanted (xs ++ ys) ≡ named_by wanted xs ++ named_by wanted ys
  named_both wanted [] ys = refl
  named_both wanted (x ∷ xs) ys = cases (named_both wanted xs ys) (test_of wanted x.way)
    where
      cases : named_by wanted (xs ++ ys) ≡ named_by wanted xs ++ named_by wanted ys → (b : Bool) → flat_map (λ n. parts_of n.meaning) (if b then x ∷ filter (λ n. test_of wanted n.way) (xs ++ ys) else filter (λ n. test_of wanted n.way) (xs ++ ys))
          ≡ flat_map (λ n. parts_of n.meaning) (if b then x ∷ filter (λ n. test_of wanted n.way) xs else filter (λ n. test_of wanted n.way) xs) ++ named_by wanted ys
      cases rest true = ap (λ zs. parts_of x.meaning ++ zs) rest ∙ sym (append_assoc (parts_of x.meaning) (named_by wanted xs) (named_by wanted ys))
      cases rest false = rest

  none_after : (xs : List Part) → xs ++ [] ≡ xs
  none_after [] = refl
  none_after (x ∷ xs) = ap (λ ys. x ∷ ys) (none_after xs)

  named_one : (wanted : Wanted) (need : Need) → test_of wanted need.way ≡ true → named_by wanted (need ∷ []) ≡ parts_of need.meaning
  named_one wanted need e = ap (λ (b : Bool). flat_map (λ (n : Need). parts_of n.meaning) (if b then need ∷ [] else [])) e ∙ none_after (parts_of need.meaning)

  named_none : (wanted : Wanted) (need : Need) → test_of wanted need.way ≡ false → named_by wanted (need ∷ []) ≡ []
  named_none wanted need e = ap (λ (b : Bool). flat_map (λ (n : Need). parts_of n.meaning) (if b then need ∷ [] else [])) e

  pub gathers_wanted : (wanted : Wanted) (need : Need) (a b : SuppliesSoFar) → test_of wanted need.way ≡ true → Gathers types done (parts_of need.meaning) a b → Gathers types done (named_by wanted (need ∷ [])) a b
  gathers_wanted wanted need a b test one = subst (λ (parts : List Part). Gathers types done parts a b) (sym (named_one wanted need test)) one

  pub gathers_unwanted : (wanted : Wanted) (need : Need) (held : SuppliesSoFar) → test_of wanted need.way ≡ false → Gathers types done (named_by wanted (need ∷ [])) held held
  gathers_unwanted wanted need held test = subst (λ (parts : List Part). Gathers types done parts held held) (sym (named_none wanted need test)) (gathers_none held)

  pub gathers_need : (wanted : Wanted) (needs : List Need) (at : ℕ) (need : Need) (a b c : SuppliesSoFar) → at < length needs → need ≡ get_or needs at need
      → Gathers types done (named_by wanted (take at needs)) a b → Gathers types done (named_by wanted (need ∷ [])) b c → Gathers types done (named_by wanted (take (at + 1) needs)) a c
  gathers_need wanted needs at need a b c inside is before one =
      subst (λ (parts : List Part). Gathers types done parts a c) (sym (ap (named_by wanted) (further needs at need inside is) ∙ named_both wanted (take at needs) (need ∷ [])))
      (gathers_then (named_by wanted (take at needs)) (named_by wanted (need ∷ [])) a b c before one)

  pub gathers_names : (names : List Name) (at : ℕ) (a b : SuppliesSoFar) → length names ≤ at → Gathers types done (map of_target (take at names)) a b → Gathers types done (map of_target names) a b
  gathers_names names at a b past so_far = subst (λ (all : List Name). Gathers types done (map of_target all) a b) (take_all at names past) so_far

  pub gathers_needs : (wanted : Wanted) (needs : List Need) (at : ℕ) (a b : SuppliesSoFar) → length needs ≤ at → Gathers types done (named_by wanted (take at needs)) a b → Gathers types done (named_by wanted needs) a b
  gathers_needs wanted needs at a b past so_far = subst (λ (all : List Need). Gathers types done (named_by wanted all) a b) (take_all at needs past) so_far

  -- all that is gathered from nothing
  pub gathers_all : (wanted : Wanted) (xs ys : List Need) (a b c : SuppliesSoFar) → a.made ≡ [] → AreKnown [] a.seen
      → Gathers types done (named_by wanted xs) a b → Gathers types done (named_by wanted ys) b c → c.made ≡ supplied types done [] (named_by wanted (xs ++ ys))
  gathers_all wanted xs ys a b c bare known first second =
      let whole = gathers_then (named_by wanted xs) (named_by wanted ys) a b c first second in
      let p = whole.adds [] known in
      sym (nothing c.made) ∙ p.2 [] ∙ ap (λ (held : List Supply). held ++ supplied types done [] ((named_by wanted xs ++ named_by wanted ys) ++ [])) bare
      ∙ ap (supplied types done []) (none_after (named_by wanted xs ++ named_by wanted ys) ∙ sym (named_both wanted xs ys))
    where
      nothing : (zs : List Supply) → zs ++ [] ≡ zs
      nothing [] = refl
      nothing (z ∷ zs) = ap (λ ys. z ∷ ys) (nothing zs)

-- ---- what was generated for an open main target

-- what stands under a name, by its place
supply_of_place : (nodes : List Node) (done : List ℕ) (name : Name) → supply_of (map (entry_in nodes) done) name ≡ option_map (λ place. (entry_in nodes place).1.supply) (place_among nodes done name)
supply_of_place nodes [] name = refl
supply_of_place nodes (first ∷ more) name = cases (is_same name (entry_in nodes first).0) (supply_of_place nodes more name)
  where
    cases : (b : Bool) → supply_of (map (entry_in nodes) more) name ≡ option_map (λ place. (entry_in nodes place).1.supply) (place_among nodes more name)
        → (if b then Some (entry_in nodes first).1.supply else supply_of (map (entry_in nodes) more) name)
        ≡ option_map (λ place. (entry_in nodes place).1.supply) (if b then Some first else place_among nodes more name)
    cases true rest = refl
    cases false rest = rest

unplace : (a b : ℕ) → Some a ≡ Some b → a ≡ b
unplace a b e = cc

-- a place that is found is there
place_there : (nodes : List Node) (done : List ℕ) (name : Name) (place : ℕ) → AllByRecursion (λ p. p < length nodes) done → place_among nodes done name ≡ Some place → place < length nodes
place_there nodes [] name place there e = cc
place_there nodes (first ∷ more) name place (here, others) e = cases (place_there nodes more name place others) (is_same name (entry_in nodes first).0) e
  where
    cases : (place_among nodes more name ≡ Some place → place < length nodes) → (b : Bool) → (if b then Some first else place_among nodes more name) ≡ Some place → place < length nodes
    cases later true found = subst (λ p. p < length nodes) (unplace first place found) here
    cases later false found = later found

pub given_none : (nodes : List Node) (done : List ℕ) (places : Table ℕ) (name : Name) → HasPlaces nodes done places → finite.get places name ≡ None → None ≡ supply_of (map (entry_in nodes) done) name
given_none nodes done places name has none =
    sym (supply_of_place nodes done name ∙ ap (option_map (λ place. (entry_in nodes place).1.supply)) (sym (has.found name) ∙ none))

-- `listed` are the nodes in order
pub given_some : (listed : List Node) (done : List ℕ) (places : Table ℕ) (name : Name) (place : ℕ) → HasPlaces (reverse listed) done places → finite.get places name ≡ Some place
    → option_map (λ (n : Node). n.supply) (slice_get listed place) ≡ supply_of (map (entry_in (reverse listed)) done) name
given_some listed done places name place has some =
    let nodes = reverse listed in
    let found : place_among nodes done name ≡ Some place = sym (has.found name) ∙ some in
    ap (λ (o : Option Node). option_map (λ (n : Node). n.supply) o) (ap (λ xs. slice_get xs place) (sym (reverse-reverse listed)) ∙ node_at nodes place)
    ∙ supply_at nodes place (place_there nodes done name place has.there found)
    ∙ sym (supply_of_place nodes done name ∙ ap (option_map (λ p. (entry_in nodes p).1.supply)) found)
