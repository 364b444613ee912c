-- Memories and families whose parts are equal are equal; and a memory reopens once its children have ended.
use Rattle.std.proofs.Common.{◌≡◌, ℕ, Bool, List, length, Option, refl, ap, sym, ◌∙◌, subst}
use Rattle.b2_host.specs.declared.children.ChildEvent.{ChildEvent}
use Rattle.b2_host.specs.Disks.{Disk}
use Rattle.b2_host.specs.ChildProcesses.{Given, Child, Family}
use Rattle.b2_host.specs.Outside.{Risks}
use Rattle.b2_memory.specs.Scripts.{Listed, nothing_listed, no_risks}
use Rattle.b2_memory.specs.Memories.{Memory, with_listed, with_risks, AllEnded, Reopens}

-- records whose parts are equal

pub same_family : (r s : List Child) (e f : List ChildEvent) (g h : Option (List Given)) → r ≡ s → e ≡ f → g ≡ h → ◌≡◌ {A = Family} (record { running = r; events = e; given = g }) (record { running = s; events = f; given = h })
same_family r s e f g h a b c = ap (λ x. record { running = x; events = e; given = g }) a ∙ ap (λ x. record { running = s; events = x; given = g }) b ∙ ap (λ x. record { running = s; events = f; given = x }) c

pub same_memory : (m : Memory) (d e : Option Disk) (c k : Family) (f g : List Bool) → d ≡ e → c ≡ k → f ≡ g
    → ◌≡◌ {A = Memory} (record m { outside = record m.outside { disk = d; children = c }; ends_well = f }) (record m { outside = record m.outside { disk = e; children = k }; ends_well = g })
same_memory m d e c k f g x y z =
    ap (λ v. record m { outside = record m.outside { disk = v; children = c }; ends_well = f }) x
    ∙ ap (λ v. record m { outside = record m.outside { disk = e; children = v }; ends_well = f }) y
    ∙ ap (λ v. record m { outside = record m.outside { disk = e; children = k }; ends_well = v }) z

pub same_listed : (m : Memory) (f g : ℕ) (r s : Risks) (l k : Listed) → f ≡ g → r ≡ s → l ≡ k → ◌≡◌ {A = Memory} (record m { outside = record m.outside { faults = f; risks = r }; listed = l }) (record m { outside = record m.outside { faults = g; risks = s }; listed = k })
same_listed m f g r s l k a b c =
    ap (λ v. record m { outside = record m.outside { faults = v; risks = r }; listed = l }) a
    ∙ ap (λ v. record m { outside = record m.outside { faults = g; risks = v }; listed = l }) b
    ∙ ap (λ v. record m { outside = record m.outside { faults = g; risks = s }; listed = v }) c

-- all children have ended; nothing is listed, and nothing may go wrong
pub reopens : (before drained after : Memory) (n m : ℕ) → n ≡ length before.outside.children.running → m ≡ 0 → ((last : Memory) → AllEnded m drained last → AllEnded n before last) → after ≡ with_risks (λ risks. no_risks) (with_listed (λ listed. nothing_listed) drained) → Reopens before after
reopens before drained after n m e none ends same = record {
  drained = drained;
  ended = subst (λ k. AllEnded k before drained) e (ends drained (subst (λ k. AllEnded k drained drained) (sym none) refl));
  rest = same;
}
