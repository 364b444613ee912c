-- Work of which nothing was taken yet is in order.
use Rattle.std.proofs.Common.{◌≡◌, ℕ, true, false, List, [], Some, ap, subst, ◌∙◌, arith}
use Rattle.std.specs.List.{Contains}
use Rattle.std.proofs.lemmas.Option.{slice_get_within}
use Rattle.b2_plan.specs.declared.step.Step.{Step}
use Rattle.b2_runs.proofs.FirstElementOrLater.{Contains_nil}
use Rattle.b2_facts.specs.Facts.{Knowledge, IsNumber, path_at, dirs_at}
use Rattle.b2_facts.specs.Growth.{OfNone}
use Rattle.b2_reach.specs.declared.reach.Reach.{Reach}
use Rattle.b2_reach.specs.Reaches.{Reaches.first, IsNumberOf, IsReachOf}
use Rattle.b2_reach.specs.Steps.{Adds, ChangesMembers}

-- the work with these members, of which none was taken
abbrev pub untaken : ℕ → List ℕ → Reach
untaken list members = record { list = list; members = members; done = 0; pending = []; lacks = false }

pub untaken_is : (list : ℕ) (e r : Reach) → e ≡ untaken list [] → ChangesMembers e r → r ≡ untaken list r.members
untaken_is list e r e_is same = same ∙ ap (λ (x : Reach). record x { members = r.members }) e_is

pub opened : (steps : List Step) (step : Step) (f : Knowledge) (list : ℕ) (members : List ℕ) → dirs_at f list ≡ Some step.dirs → Adds (IsNumberOf f step.ins) [] members → ((path : List ℕ) → Contains step.ins path → (n : ℕ) × Contains members n × (path_at f n ≡ Some path))
    → ((n : ℕ) → Contains members n → IsNumber f n) → IsReachOf steps OfNone step f (untaken list members)
opened steps step f list members dirs adds whole numbered = record {
  in_order = record {
    listed = slice_get_within f.lists list step.dirs dirs;
    numbered = numbered;
    once = adds.once (λ i j d low high. absurd (omega arith));
    within = omega arith;
    taken = λ place n file low. absurd (omega arith);
    pending = λ n among. absurd (Contains_nil n among);
    waiting = λ n file among. absurd (Contains_nil n among);
    lacks = λ told. absurd (let e : false ≡ true = told in cc);
  };
  of_step = record { dirs = dirs; ins = whole; each = λ n among. first n (adds.each n (subst (λ l. Contains l n) adds.after_is among)) };
}
