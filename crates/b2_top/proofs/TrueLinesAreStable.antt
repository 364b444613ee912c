-- A line that cannot be false is true: what it names is looked for among all that stood.
use Rattle.std.proofs.Common.{◌≡◌, ◌⊎◌, ℕ, zero, suc, Bool, true, false, List, [], ◌∷◌, Option, Some, None, map, inl, inr, refl, sym, ap, ◌∙◌, subst, arith}
use Rattle.std.specs.List.{Contains, AllZip}
use Rattle.std.specs.Str.{bytes_eq}
use Rattle.std.proofs.lemmas.Slice.Eq.{bytes_eq-Decides}
use Rattle.b2_host.specs.Disks.{Past, Stood, IsOneEach}
use Rattle.b2_plan.specs.Sources.{Include}
use Rattle.b2_log.specs.declared.line.Record.{Record}
use Rattle.b2_log.specs.declared.line.Digests.{Digests}
use Rattle.b2_log.specs.declared.line.ScanLine.{ScanLine}
use Rattle.b2_log.specs.declared.line.LogLine.{LogLine}
use Rattle.b2_log.specs.declared.line.LogLine.TheVariants as lines
use Rattle.b2_runs.specs.Logs.{Making, InputStood, AreTrueDigests, IsTrueRecord, IsTrueScan, IsTrueLine}
use Rattle.b2_runs.proofs.FirstElementOrLater.{Contains_here, Contains_there, Contains_cases, Contains_nil}

-- ---- equality is decided

abbrev IsDecided : {X : Type 0} → X → X → Type 0
IsDecided a b = (a ≡ b) ⊎ (a ≡ b → ⊥)

decide_nat : (a b : ℕ) → IsDecided a b
decide_nat zero zero = inl refl
decide_nat zero (suc b) = inr (λ e. omega (arith, e))
decide_nat (suc a) zero = inr (λ e. omega (arith, e))
decide_nat (suc a) (suc b) = elim (decide_nat a b) [
  | inl e ↦ inl (ap suc e)
  | inr no_e ↦ inr (λ e. no_e (omega (arith, e)))
]

decide_bytes : (a b : List ℕ) → IsDecided a b
decide_bytes a b = go (bytes_eq a b) refl
  where
    go : (answer : Bool) → bytes_eq a b ≡ answer → IsDecided a b
    go true is = inl ((bytes_eq-Decides a b).0 is)
    go false is = inr (λ e. let f : false ≡ true = sym is ∙ (bytes_eq-Decides a b).1 e in cc)

decide_bool : (a b : Bool) → IsDecided a b
decide_bool true true = inl refl
decide_bool true false = inr (λ e. cc)
decide_bool false true = inr (λ e. cc)
decide_bool false false = inl refl

head_same : {X : Type 0} (x y : X) (xs ys : List X) → x ∷ xs ≡ y ∷ ys → x ≡ y
head_same x y xs ys e = cc

tail_same : {X : Type 0} (x y : X) (xs ys : List X) → x ∷ xs ≡ y ∷ ys → xs ≡ ys
tail_same x y xs ys e = cc

decide_list : {X : Type 0} → ((a b : X) → IsDecided a b) → (xs ys : List X) → IsDecided xs ys
decide_list each [] [] = inl refl
decide_list each [] (y ∷ ys) = inr (λ e. cc)
decide_list each (x ∷ xs) [] = inr (λ e. cc)
decide_list each (x ∷ xs) (y ∷ ys) = elim (each x y) [
  | inl e ↦ elim (decide_list each xs ys) [
    | inl f ↦ inl (ap (λ z. z ∷ xs) e ∙ ap (λ zs. y ∷ zs) f)
    | inr no_f ↦ inr (λ g. no_f (tail_same x y xs ys g))
  ]
  | inr no_e ↦ inr (λ g. no_e (head_same x y xs ys g))
]

decide_include : (a b : Include) → IsDecided a b
decide_include a b = elim (decide_bytes a.0 b.0) [
  | inl e ↦ elim (decide_bool a.1 b.1) [
    | inl f ↦ inl (ap (λ text. (text, a.1)) e ∙ ap (λ quoted. (b.0, quoted)) f)
    | inr no_f ↦ inr (λ g. no_f (ap (λ (i : Include). i.1) g))
  ]
  | inr no_e ↦ inr (λ g. no_e (ap (λ (i : Include). i.0) g))
]

-- what is decided and cannot be false is so
stable : {X : Type 0} {a b : X} → IsDecided a b → ((a ≡ b → ⊥) → ⊥) → a ≡ b
stable (inl e) not_false = e
stable (inr no_e) not_false = absurd (not_false no_e)

-- ---- what stood

module _ (path : List ℕ) (stamp : ℕ) where
  abbrev Found : List Past → Type 0
  Found past = ((bytes : List ℕ) × Stood past path (record { stamp = stamp; bytes = bytes }))
      ⊎ ((bytes : List ℕ) → Stood past path (record { stamp = stamp; bytes = bytes }) → ⊥)

  -- a file with this stamp stood at the path, or none did
  find_stood : (past : List Past) → Found past
  find_stood [] = inr (λ bytes c. Contains_nil _ c)
  find_stood (p ∷ past) = elim (find_stood past) [
    | inl found ↦ inl (found.0, Contains_there p _ past found.1)
    | inr none ↦ elim (decide_bytes p.path path) [
      | inl same ↦ elim (decide_nat p.file.stamp stamp) [
        | inl at ↦ inl (
          p.file.bytes,
          subst (λ (q : Past). Contains (p ∷ past) q)
              (ap (λ there. record { path = there; file = p.file }) same ∙ ap (λ when. record { path = path; file = record { stamp = when; bytes = p.file.bytes } }) at)
              (Contains_here p past),
        )
        | inr not_at ↦ inr (λ bytes c. elim (Contains_cases p _ past c) [
          | inl here ↦ not_at (ap (λ (q : Past). q.file.stamp) here)
          | inr later ↦ none bytes later
        ])
      ]
      | inr other ↦ inr (λ bytes c. elim (Contains_cases p _ past c) [
        | inl here ↦ other (ap (λ (q : Past). q.path) here)
        | inr later ↦ none bytes later
      ])
    ]
  ]

module _ (m : Making) (past : List Past) (one : IsOneEach past) where
  -- ---- scan lines

  scan_stable : (s : ScanLine) → ((IsTrueScan m past s → ⊥) → ⊥) → IsTrueScan m past s
  scan_stable s not_false = elim (find_stood s.path s.stamp past) [
    | inl found ↦ record {
      bytes = found.0;
      stood = found.1;
      includes = stable (decide_list decide_include s.includes (m.inc s.path found.0))
          (λ no_e. not_false (λ t. no_e (t.includes ∙ ap (m.inc s.path) (one s.path s.stamp t.bytes found.0 t.stood found.1))));
    }
    | inr none ↦ absurd (not_false (λ t. none t.bytes t.stood))
  ]

  -- ---- records

  abbrev Held : List (List ℕ × ℕ) → List (List ℕ × List ℕ) → Type 0
  Held ins held = AllZip (InputStood past) ins held

  -- the inputs held one thing
  held_one : (ins : List (List ℕ × ℕ)) (xs ys : List (List ℕ × List ℕ)) → Held ins xs → Held ins ys → xs ≡ ys
  held_one [] [] [] a b = refl
  held_one [] [] (y ∷ ys) a b = absurd b
  held_one [] (x ∷ xs) ys a b = absurd a
  held_one (i ∷ ins) [] ys a b = absurd a
  held_one (i ∷ ins) (x ∷ xs) [] a b = absurd b
  held_one (i ∷ ins) (x ∷ xs) (y ∷ ys) a b =
      let same_path : x.0 ≡ y.0 = a.0.path ∙ sym b.0.path in
      let same_bytes : x.1 ≡ y.1 = one i.0 i.1 x.1 y.1 a.0.stood b.0.stood in
      ap (λ p. (p, x.1) ∷ xs) same_path ∙ ap (λ w. (y.0, w) ∷ xs) same_bytes ∙ ap (λ zs. y ∷ zs) (held_one ins xs ys a.1 b.1)

  -- the inputs stood, or one did not
  find_held : (ins : List (List ℕ × ℕ)) → ((held : List (List ℕ × List ℕ)) × Held ins held) ⊎ ((held : List (List ℕ × List ℕ)) → Held ins held → ⊥)
  find_held [] = inl ([], tt)
  find_held (i ∷ ins) = elim (find_stood i.0 i.1 past) [
    | inl found ↦ elim (find_held ins) [
      | inl rest ↦ inl ((i.0, found.0) ∷ rest.0, (record { path = refl; stood = found.1 }, rest.1))
      | inr no_rest ↦ inr (no_more i ins no_rest)
    ]
    | inr none ↦ inr (not_first i ins none)
  ]
    where
      no_more : (i : List ℕ × ℕ) (ins : List (List ℕ × ℕ)) → ((held : List (List ℕ × List ℕ)) → Held ins held → ⊥) → (held : List (List ℕ × List ℕ)) → Held (i ∷ ins) held → ⊥
      no_more i ins no_rest [] h = h
      no_more i ins no_rest (x ∷ held) h = no_rest held h.1

      not_first : (i : List ℕ × ℕ) (ins : List (List ℕ × ℕ)) → ((bytes : List ℕ) → Stood past i.0 (record { stamp = i.1; bytes = bytes }) → ⊥) → (held : List (List ℕ × List ℕ)) → Held (i ∷ ins) held → ⊥
      not_first i ins none [] h = h
      not_first i ins none (x ∷ held) h = none x.1 h.0.stood

  digests_stable : (r : Record) (held : List (List ℕ × List ℕ)) (digests : Option Digests) → ((AreTrueDigests m r held digests → ⊥) → ⊥) → AreTrueDigests m r held digests
  digests_stable r held None not_false = tt
  digests_stable r held (Some d) not_false = (
    stable (decide_list decide_bytes d.outs (map (λ out. m.digest (m.made r.text held out.0)) r.outs)) (λ no_e. not_false (λ t. no_e t.0)),
    stable (decide_list decide_bytes d.ins (map (λ input. m.digest input.1) held)) (λ no_e. not_false (λ t. no_e t.1)),
  )

  record_stable : (r : Record) → ((IsTrueRecord m past r → ⊥) → ⊥) → IsTrueRecord m past r
  record_stable r not_false = elim (find_held r.ins) [
    | inl found ↦
        let same = λ (t : IsTrueRecord m past r). held_one r.ins t.held found.0 t.ins found.1 in
        record {
          held = found.0;
          ins = found.1;
          outs = λ path stamp c. elim (find_stood path stamp past) [
            | inl out ↦ subst (λ bytes. Stood past path (record { stamp = stamp; bytes = bytes }))
                (stable (decide_bytes out.0 (m.made r.text found.0 path)) (λ no_e. not_false (λ t. no_e
                (one path stamp out.0 (m.made r.text t.held path) out.1 (t.outs path stamp c) ∙ ap (λ held. m.made r.text held path) (same t)))))
                out.1
            | inr none ↦ absurd (not_false (λ t. none (m.made r.text t.held path) (t.outs path stamp c)))
          ];
          digests = digests_stable r found.0 r.digests (λ no. not_false (λ t. no (subst (λ held. AreTrueDigests m r held r.digests) (same t) t.digests)));
        }
    | inr none ↦ absurd (not_false (λ t. none t.held t.ins))
  ]

  pub line_stable : (line : LogLine) → ((IsTrueLine m past line → ⊥) → ⊥) → IsTrueLine m past line
  line_stable (lines.Record r) not_false = record_stable r not_false
  line_stable (lines.Drop outs) not_false = tt
  line_stable (lines.Scan s) not_false = scan_stable s not_false
