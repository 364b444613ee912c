use Rattle.std.proofs.Common.{◌≡◌, ℕ, Bool, true, false, not, ◌&&◌, List, [], ◌∷◌, map, get_or, refl, ap, sym, ◌∙◌}
use Rattle.std.specs.List.{Contains, list_all, list_any}
use Rattle.std.specs.Str.{bytes_eq}
use Rattle.std.proofs.lemmas.Slice.Eq.{bytes_eq-Decides}
use Rattle.std.proofs.lemmas.List.Elements.{All-contains}
use Rattle.std.proofs.lemmas.List.Folds.{list_any_at}
use Rattle.std.proofs.lemmas.List.Sums.{AllPass-from_list_all}
use Rattle.b2_memory.specs.declared.running_child.RunningChild.{RunningChild}
use Rattle.b2_host.specs.ChildProcesses.{Child, AreApart, MayStart}
use Rattle.b2_memory.specs.Families.{child_with}
use Rattle.b2_memory.specs.Jobs.{given_of}
use Rattle.b2_memory.specs.Hosts.{running_children}
use Rattle.b2_host_cases.specs.Apart.{are_apart, is_beside}

both : (a b : Bool) → (a && b) ≡ true → (a ≡ true) × (b ≡ true)
both true b h = (refl, h)
both false b h = cc

found : (others : List (List ℕ)) (path : List ℕ) → Contains others path → list_any (λ other. bytes_eq other path) others ≡ true
found others path at = list_any_at (λ other. bytes_eq other path) others at.0 path at.1 ((bytes_eq-Decides (get_or others at.0 path) path).1 at.2)

-- lists that are tested as apart are
pub apart : (some others : List (List ℕ)) → are_apart some others ≡ true → AreApart some others
apart some others h path in_some in_others =
    let none : not (list_any (λ other. bytes_eq other path) others) ≡ true = All-contains (λ one. not (list_any (λ other. bytes_eq other one) others) ≡ true) some path (AllPass-from_list_all _ some h) in_some in
    let clash : not true ≡ true = ap not (sym (found others path in_others)) ∙ none in cc

-- a child that stands beside each of those that run may start
pub may_start : (ins outs : List (List ℕ)) (running : List Child) → list_all (is_beside ins outs) running ≡ true → MayStart running ins outs
may_start ins outs running h =
    let each : (child : Child) → Contains running child → is_beside ins outs child ≡ true = λ child at. All-contains (λ c. is_beside ins outs c ≡ true) running child (AllPass-from_list_all _ running h) at in
    record {
      outs_ins = λ child at. apart outs child.ins (both _ _ (both _ _ (each child at)).0).0;
      outs_outs = λ child at. apart outs child.outs (both _ _ (both _ _ (each child at)).0).1;
      ins_outs = λ child at. apart ins child.outs (both _ _ (each child at)).1;
    }

all_map : {X Y : Type 0} (p : Y → Bool) (f : X → Y) (xs : List X) → list_all p (map f xs) ≡ list_all (λ x. p (f x)) xs
all_map p f [] = refl
all_map p f (x ∷ xs) = ap (λ b. p (f x) && b) (all_map p f xs)

-- the same of the children of a host in memory
pub may_start_beside : (ins outs : List (List ℕ)) (running : List RunningChild) → list_all (λ child. is_beside ins outs (child_with (given_of child.job.value))) running ≡ true → MayStart (running_children running) ins outs
may_start_beside ins outs running h = may_start ins outs (running_children running) (all_map (is_beside ins outs) (λ child. child_with (given_of child.job.value)) running ∙ h)
