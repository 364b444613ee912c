use Rattle.std.proofs.Common.{◌≡◌, ◌≢◌, ℕ, zero, suc, ◌<◌, ◌+◌, true, false, List, [], ◌∷◌, length, inl, inr, refl, sym, ap, subst, subst₂, ◌∙◌, arith, Some, None, codes, length-append}
use Rattle.std.specs.List.{Contains}
use Rattle.std.specs.Str.{bytes_eq}
use Rattle.std.proofs.lemmas.Slice.Eq.{bytes_eq-Decides}
use Rattle.b2_base.specs.Normal.{IsUnder, parts}
use Rattle.b2_plan.specs.declared.step.Step.{Step}
use Rattle.b2_plan.specs.Plans.{step_at, Makes, Apart}
use Rattle.b2_host.specs.FileCalls.{log_path}
use Rattle.b2_plan.specs.Sources.{IsInRoots}
use Rattle.b2_host.specs.declared.children.ChildEvent.{ChildEvent}
use Rattle.b2_host.specs.Disks.{Folder}
use Rattle.b2_log.specs.declared.line.LogLine.{LogLine}
use Rattle.b2_runs.specs.Staleness.{Update}
use Rattle.b2_runs.specs.LogCourses.{AllScanned, LacksNoLine}
use Rattle.b2_run_examples.specs.Examples.{in_path, out_path, step_from}
use Rattle.b2_runs.proofs.FirstElementOrLater.{Contains_here, Contains_cases, Contains_nil}
use Rattle.b2_runs.proofs.NoneIsLeftOut.{none_to_migrate}

-- no scan line is lacking where no file is scanned
pub none_to_scan : (u : Update) (events : List ChildEvent) (now : Folder) (log : List LogLine) → ((path : List ℕ) → u.scanned path ≡ false) → AllScanned u events now log
none_to_scan u events now log none path bytes to = absurd (let e : true ≡ false = sym to.scanned ∙ none path in cc)

-- nor is any line, where judging is by stamps
pub lacks_none : (u : Update) (events : List ChildEvent) (now : Folder) (log : List LogLine) → ((path : List ℕ) → u.scanned path ≡ false) → u.by_digest ≡ false → LacksNoLine u events now log
lacks_none u events now log none off = record { scanned = none_to_scan u events now log none; migrated = none_to_migrate u events now log off }

-- the only step
only_step : (ins : List (List ℕ)) (i : ℕ) (step : Step) → step_at (step_from ins ∷ []) i ≡ Some step → (i ≡ 1) × (step_from ins ≡ step)
only_step ins zero step e = absurd (let f : None ≡ Some step = e in cc)
only_step ins (suc zero) step e = (refl, (let f : Some (step_from ins) ≡ Some step = e in cc))
only_step ins (suc (suc i)) step e = absurd (let f : None ≡ Some step = e in cc)

pub only_number : (ins : List (List ℕ)) (i : ℕ) (step : Step) → step_at (step_from ins ∷ []) i ≡ Some step → i ≡ 1
only_number ins i step e = (only_step ins i step e).0

pub only_is : (ins : List (List ℕ)) (i : ℕ) (step : Step) → step_at (step_from ins ∷ []) i ≡ Some step → step_from ins ≡ step
only_is ins i step e = (only_step ins i step e).1

pub one_of : {X : Type 0} (x y : X) → Contains (x ∷ []) y → x ≡ y
one_of x y c = elim (Contains_cases x y [] c) [ inl e ↦ e | inr d ↦ absurd (Contains_nil y d) ]

-- what it makes
pub only_out : (ins : List (List ℕ)) (i : ℕ) (step : Step) (path : List ℕ) → Makes (step_from ins ∷ []) i step path → out_path ≡ path
only_out ins i step path m =
    let same : step_from ins ≡ step = only_is ins i step m.at in
    one_of out_path path (subst (λ (s : Step). Contains s.outs path) (sym same) m.among)

pub makes_out : (ins : List (List ℕ)) → Makes (step_from ins ∷ []) 1 (step_from ins) out_path
makes_out ins = record { at = refl; among = Contains_here out_path [] }

-- a path has more parts than a folder that it is under
pub longer : (path dir : List ℕ) → IsUnder path dir → length (parts dir) < length (parts path)
longer path dir u =
    let e : length (parts path) ≡ length (parts dir) + suc (length u.more) = ap length u.goes_on ∙ length-append (parts dir) (u.next ∷ u.more) in
    omega arith

out_under : IsUnder out_path (codes "bin")
out_under = record { next = codes "out"; more = []; rooted = refl; goes_on = refl; not_above = λ e. refl }

pub in_outside : IsInRoots (codes "bin" ∷ []) in_path → ⊥
in_outside (root, c, u) =
    let e : codes "bin" ≡ root = one_of (codes "bin") root c in
    let h : length (parts (codes "bin")) < length (parts in_path) = longer in_path (codes "bin") (subst (IsUnder in_path) (sym e) u) in
    let small : 1 < 1 = h in
    omega arith

pub different : (x y : List ℕ) → bytes_eq x y ≡ false → x ≡ y → ⊥
different x y e same = let t : bytes_eq x y ≡ true = (bytes_eq-Decides x y).1 same in let f : false ≡ true = sym e ∙ t in cc

-- the outputs are apart
pub is_apart : (ins : List (List ℕ)) → Apart (step_from ins ∷ []) (codes "bin" ∷ [])
is_apart ins = record {
  under_root = λ i step path m. (codes "bin", Contains_here (codes "bin") [], subst (λ p. IsUnder p (codes "bin")) (only_out ins i step path m) out_under);
  one_maker = λ i k step other path m n. only_number ins i step m.at ∙ sym (only_number ins k other n.at);
  no_folder = λ i k step other path folder m n u.
      let h : length (parts out_path) < length (parts out_path) = longer out_path out_path (subst₂ IsUnder (sym (only_out ins i step path m)) (sym (only_out ins k other folder n)) u) in
      omega (arith, h);
  not_log = λ i step m. different out_path log_path refl (only_out ins i step log_path m);
  not_below_log = λ i step path m u.
      let h : length (parts log_path) < length (parts out_path) = longer out_path log_path (subst (λ p. IsUnder p log_path) (sym (only_out ins i step path m)) u) in
      let small : 2 < 2 = h in
      omega arith;
  some_out = λ i step e. subst (λ (s : Step). s.outs ≢ []) (only_is ins i step e) (λ f. let g : out_path ∷ [] ≡ [] = f in cc);
  bin = Contains_here (codes "bin") [];
  few = omega arith;
}
