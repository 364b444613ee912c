-- Outputs removed one after another are gone, and all other files stay.
use Rattle.std.proofs.Common.{◌≡◌, inl, inr, ℕ, ◌+◌, ◌<◌, Bool, true, false, cond, List, take, length, get_or, Option, Some, None, IfSome, Ok, option_map, refl, sym, ap, subst, ◌∙◌, arith}
use Rattle.std.specs.List.{Contains}
use Rattle.std.specs.Str.{bytes_eq}
use Rattle.std.proofs.lemmas.List.Elements.{Contains-get_or}
use Rattle.std.proofs.lemmas.Slice.Eq.{bytes_eq-Decides}
use Rattle.b2_host.specs.Disks.{File, Disk, without}
use Rattle.b2_host.specs.ChildProcesses.{BothTold}
use Rattle.b2_host.specs.Outside.{Outside}
use Rattle.b2_host.specs.OutsideLaws.{keeps_then, keeps_removes}
use Rattle.b2_host.specs.FileCalls.{removed}
use Rattle.b2_reach.proofs.FoundMakerMakesPath.{same_bytes}
use Rattle.b2_reach.proofs.MembersAreAdded.{taken_more}
use Rattle.b2_turns.specs.Clearing.{RemovesOnly, AreGone, RemovesFiles}

-- ---- one file

-- what stands at another path stands as before
without_other : (p path : List ℕ) (disk : Disk) → (p ≡ path → ⊥) → (without p disk).now path ≡ disk.now path
without_other p path disk other = go (bytes_eq p path) refl
  where
    go : (b : Bool) → bytes_eq p path ≡ b → cond (bytes_eq p path) None (disk.now path) ≡ disk.now path
    go true e = absurd (other (same_bytes p path e))
    go false e = ap (λ b. cond b None (disk.now path)) e

none_kept : (b : Bool) (o : Option File) → o ≡ None → cond b None o ≡ None
none_kept true o e = refl
none_kept false o e = e

bytes_itself : (x : List ℕ) → bytes_eq x x ≡ true
bytes_itself x = grind (arith, bytes_eq-Decides)

without_at : (p path : List ℕ) (disk : Disk) → p ≡ path → (without p disk).now path ≡ None
without_at p path disk e = ap (λ b. cond b None (disk.now path)) (subst (λ z. bytes_eq p z ≡ true) e (bytes_itself p))

-- ---- disks

only_same : (outs : List (List ℕ)) (x : Option Disk) → BothTold (RemovesOnly outs) x x
only_same outs None = tt
only_same outs (Some x) = record { others = λ path none. refl; fewer = λ path gone. gone; past = refl }

-- one file more is removed
only_more : (outs : List (List ℕ)) (out : List ℕ) (x y : Option Disk) → Contains outs out → BothTold (RemovesOnly outs) x y → BothTold (RemovesOnly outs) x (option_map (without out) y)
only_more outs out None None among told = tt
only_more outs out None (Some y) among told = absurd told
only_more outs out (Some x) None among told = absurd told
only_more outs out (Some x) (Some y) among told = record {
  others = λ path none. without_other out path y (λ e. none (subst (Contains outs) e among)) ∙ told.others path none;
  fewer = λ path gone. none_kept (bytes_eq out path) (y.now path) (told.fewer path gone);
  past = told.past;
}

pub gone_more : (outs : List (List ℕ)) (i : ℕ) (d : List ℕ) (y z : Option Disk) → i < length outs → IfSome y (AreGone (take i outs)) → z ≡ option_map (without (get_or outs i d)) y → IfSome z (AreGone (take (i + 1) outs))
gone_more outs i d y z low gone e = subst (λ o. IfSome o (AreGone (take (i + 1) outs))) (sym e) (go y gone)
  where
    go : (y : Option Disk) → IfSome y (AreGone (take i outs)) → IfSome (option_map (without (get_or outs i d)) y) (AreGone (take (i + 1) outs))
    go None g = tt
    go (Some y) g = λ path c. elim (taken_more outs i d path low c) [
      | inl a ↦ none_kept (bytes_eq (get_or outs i d) path) (y.now path) (g path a)
      | inr same ↦ without_at (get_or outs i d) path y same
    ]

-- ---- calls

-- one file more is removed
pub removes_more : (outs : List (List ℕ)) (i : ℕ) (d : List ℕ) (x y z : Outside) → i < length outs → RemovesFiles {T = Unit {0}} outs x y (Ok tt) → z ≡ removed (get_or outs i d) y → RemovesFiles {T = Unit {0}} outs x z (Ok tt)
removes_more outs i d x y z low so e = record {
  files = subst (BothTold (RemovesOnly outs) x.disk) (sym (ap (λ (o : Outside). o.disk) e)) (only_more outs (get_or outs i d) x.disk y.disk (Contains-get_or outs i d low) so.files);
  rest = rest_then x y z so.rest (e ∙ sym (ap (λ (o : Option Disk). record y { disk = o }) (ap (λ (o : Outside). o.disk) e))) (ap (λ (o : Outside). o.faults) e);
  keeps = keeps_then x y z so.keeps (keeps_removes {T = Unit {0}} (get_or outs i d) y z (Ok tt) e);
  faults = ap (λ (o : Outside). o.faults) e ∙ so.faults;
}
  where
    rest_then : (x y z : Outside) → y ≡ record x { disk = y.disk; faults = y.faults } → z ≡ record y { disk = z.disk } → z.faults ≡ y.faults → z ≡ record x { disk = z.disk; faults = z.faults }
    rest_then x y z a b f = b ∙ ap (λ (o : Outside). record o { disk = z.disk }) a ∙ ap (λ (n : ℕ). record x { disk = z.disk; faults = n }) (sym f)
