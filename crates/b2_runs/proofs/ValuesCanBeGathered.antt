use Rattle.std.proofs.Common.{◌≡◌, ℕ, List, [], ◌∷◌, ◌⊎◌, inl, inr, refl, sym, ap, subst, ◌∙◌, arith, Less, Equal, Greater, nat_cmp}
use Rattle.std.specs.List.{Contains, AllPairs}
use Rattle.std.specs.declared.cmp.Ordering.{Ordering}
use Rattle.std.specs.Ordering.{ordering_reverse}
use Rattle.std.specs.Cmp.Lexicographic.{slice_cmp, nat_list_cmp_total}
use Rattle.std.proofs.lemmas.List.Elements.{All-weaker, All-contains_itself}
use Rattle.std.proofs.lemmas.List.Kept.{AllPairs-cons}
use Rattle.std.proofs.lemmas.Map.Lookups.{exact_bytes}
use Rattle.b2_plan.specs.Closures.{Value}
use Rattle.b2_base.specs.Bytes.{Before}
use Rattle.b2_runs.proofs.FirstElementOrLater.{Contains_here, Contains_there, Contains_cases, Contains_nil, AllPairs_head, AllPairs_tail}
use Rattle.b2_runs.proofs.ClosureIsOne.{Before_trans}

abbrev pub Sooner : List ℕ × Value → List ℕ × Value → Type 0
Sooner x y = Before x.0 y.0

-- paths with values in order of path, with one put in where its path is not among them
record Inserted (path : List ℕ) (value : Value) (members : List (List ℕ × Value)) : Type 0 where
  list : List (List ℕ × Value)
  ordered : AllPairs Sooner list
  each : (p : List ℕ) (x : Value) → Contains list (p, x) → (◌≡◌ {A = List ℕ × Value} (path, value) (p, x)) ⊎ Contains members (p, x)
  kept : (p : List ℕ) (x : Value) → Contains members (p, x) → Contains list (p, x)
  inside : (x : Value) × Contains list (path, x)

pub pairs_cons : (m : List ℕ × Value) (ms : List (List ℕ × Value)) → ((n : List ℕ × Value) → Contains ms n → Sooner m n) → AllPairs Sooner ms → AllPairs Sooner (m ∷ ms)
pairs_cons m ms first rest = AllPairs-cons Sooner m ms (All-weaker (Contains ms) (Sooner m) first ms (All-contains_itself ms)) rest

insert_into : (path : List ℕ) (value : Value) (members : List (List ℕ × Value)) → AllPairs Sooner members → Inserted path value members
insert_into path value [] ordered = record {
  list = (path, value) ∷ [];
  ordered = pairs_cons (path, value) [] (λ n c. absurd (Contains_nil n c)) ordered;
  each = λ p x c. inl (elim (Contains_cases (path, value) (p, x) [] c) [ inl e ↦ e | inr d ↦ absurd (Contains_nil (p, x) d) ]);
  kept = λ p x c. absurd (Contains_nil (p, x) c);
  inside = (value, Contains_here (path, value) []);
}
insert_into path value (m ∷ ms) ordered = go (slice_cmp nat_cmp path m.0) refl (insert_into path value ms (AllPairs_tail Sooner m ms ordered))
  where
    go : (o : Ordering) → slice_cmp nat_cmp path m.0 ≡ o → Inserted path value ms → Inserted path value (m ∷ ms)
    go Less e later = record {
      list = (path, value) ∷ (m ∷ ms);
      ordered = pairs_cons (path, value) (m ∷ ms) (λ n c. elim (Contains_cases m n ms c) [
        | inl f ↦ subst (λ z. Before path z.0) f e
        | inr d ↦ Before_trans path m.0 n.0 e (AllPairs_head Sooner m n ms ordered d)
      ]) ordered;
      each = λ p x c. Contains_cases (path, value) (p, x) (m ∷ ms) c;
      kept = λ p x c. Contains_there (path, value) (p, x) (m ∷ ms) c;
      inside = (value, Contains_here (path, value) (m ∷ ms));
    }
    go Equal e later =
        let same : path ≡ m.0 = exact_bytes path m.0 e in
        record {
          list = m ∷ ms;
          ordered = ordered;
          each = λ p x c. inr c;
          kept = λ p x c. c;
          inside = (m.1, subst (λ q. Contains (m ∷ ms) (q, m.1)) (sym same) (Contains_here m ms));
        }
    go Greater e later =
        let sooner : Before m.0 path = nat_list_cmp_total.antisymm m.0 path ∙ ap ordering_reverse e in
        record {
          list = m ∷ later.list;
          ordered = pairs_cons m later.list (λ n c. elim (later.each n.0 n.1 c) [
            | inl f ↦ subst (λ z. Before m.0 z.0) f sooner
            | inr d ↦ AllPairs_head Sooner m n ms ordered d
          ]) later.ordered;
          each = λ p x c. elim (Contains_cases m (p, x) later.list c) [
            | inl f ↦ inr (subst (λ z. Contains (m ∷ ms) z) f (Contains_here m ms))
            | inr d ↦ elim (later.each p x d) [ inl f ↦ inl f | inr old ↦ inr (Contains_there m (p, x) ms old) ]
          ];
          kept = λ p x c. elim (Contains_cases m (p, x) ms c) [
            | inl f ↦ subst (λ z. Contains (m ∷ later.list) z) f (Contains_here m later.list)
            | inr d ↦ Contains_there m (p, x) later.list (later.kept p x d)
          ];
          inside = (later.inside.0, Contains_there m (path, later.inside.0) later.list later.inside.1);
        }

-- Those of some paths that have the property, with values, in order of path.
pub record Gathered (P : List ℕ → Type 0) (V : List ℕ → Value → Type 0) (names : List (List ℕ)) : Type 0 where
  pub list : List (List ℕ × Value)
  pub ordered : AllPairs Sooner list
  pub each : (p : List ℕ) (x : Value) → Contains list (p, x) → P p × V p x
  pub whole : (p : List ℕ) → Contains names p → P p → (x : Value) × Contains list (p, x)

gather_with : (P : List ℕ → Type 0) (V : List ℕ → Value → Type 0) (name : List ℕ) (names : List (List ℕ)) → Gathered P V names → P name → (x : Value) → V name x → Gathered P V (name ∷ names)
gather_with P V name names g has x value =
    let i = insert_into name x g.list g.ordered in
    record {
      list = i.list;
      ordered = i.ordered;
      each = λ p y c. elim (i.each p y c) [
        | inl e ↦ (subst (λ z. P z.0) e has, subst (λ z. V z.0 z.1) e value)
        | inr old ↦ g.each p y old
      ];
      whole = λ p c q. elim (Contains_cases name p names c) [
        | inl e ↦ (i.inside.0, subst (λ z. Contains i.list (z, i.inside.0)) e i.inside.1)
        | inr old ↦ (let (y, d) = g.whole p old q in (y, i.kept p y d))
      ];
    }

gather_without : (P : List ℕ → Type 0) (V : List ℕ → Value → Type 0) (name : List ℕ) (names : List (List ℕ)) → Gathered P V names → (P name → ⊥) → Gathered P V (name ∷ names)
gather_without P V name names g lacks = record {
  list = g.list;
  ordered = g.ordered;
  each = g.each;
  whole = λ p c q. elim (Contains_cases name p names c) [
    | inl e ↦ absurd (lacks (subst P (sym e) q))
    | inr old ↦ g.whole p old q
  ];
}

-- it cannot be that they cannot be gathered, where none that has the property cannot have a value
pub gather : (P : List ℕ → Type 0) (V : List ℕ → Value → Type 0) → ((p : List ℕ) → P p → ((x : Value) → V p x → ⊥) → ⊥) → (names : List (List ℕ)) → (Gathered P V names → ⊥) → ⊥
gather P V values [] none = none (record { list = []; ordered = λ i j d lt h. absurd (omega arith); each = λ p x c. absurd (Contains_nil (p, x) c); whole = λ p c q. absurd (Contains_nil p c) })
gather P V values (name ∷ names) none =
    gather P V values names (λ g.
    none (gather_without P V name names g (λ has. values name has (λ x value. none (gather_with P V name names g has x value)))))
