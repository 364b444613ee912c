-- The work goes on, and goes on again.
use Rattle.std.proofs.Common.{◌≡◌, inl, inr, ℕ, Bool, List, Result, Ok, Err, OnOk, length, sym, ap, subst, ◌∙◌}
use Rattle.std.specs.List.{Contains}
use Rattle.b2_host.specs.Outside.{Outside}
use Rattle.b2_plan.specs.declared.step.Step.{Step}
use Rattle.b2_plan.specs.declared.plan.Plan.{Plan}
use Rattle.b2_facts.specs.Facts.{Knowledge, IsNumber, IsAbout}
use Rattle.b2_facts.specs.Growth as facts
use Rattle.b2_facts.proofs.FactsGrow.{grows_same as facts_same}
use Rattle.b2_reach.specs.declared.reach.Reach.{Reach}
use Rattle.b2_facts.specs.declared.stop.FilesStop.{FilesStop}
use Rattle.b2_facts.specs.declared.stop.FilesStop.TheVariants as stops
use Rattle.b2_reach.specs.declared.sights.Sights.{Sights}
use Rattle.b2_reach.specs.declared.due.Due.{Due}
use Rattle.b2_reach.specs.Reaches.{IsInOrder, IsOfStep, IsAsFar}
use Rattle.b2_reach.specs.Steps.{WaitsOn, Takes, Goes}
use Rattle.b2_reach.proofs.ReachGrows.{has_file, was_file, of_step_grows}
use Rattle.b2_reach.proofs.GrowthComposes.{grows_then, grows_err, grows_ok, grows_none, grows_stop}
use Rattle.b2_reach.proofs.MembersComeIn.{takes_none, takes_then, wider}

-- a file waits on as facts grow
pub waits_on_grows : (steps : List Step) (roots : List (List ℕ)) (settled : ℕ → Type 0) (f g : Knowledge) (n : ℕ) → IsAbout steps roots f → IsNumber f n → facts.Grows f g → WaitsOn settled f n → WaitsOn settled g n
waits_on_grows steps roots settled f g n about is grown waits number later at made so =
    let (file, known) = has_file steps roots f n about is in
    let grows = was_file f g n file later grown known at in
    waits number file known (sym grows.maker ∙ made) so

-- one part of the work, and then another
pub goes_then : {T S : Type 0} {notes : Bool} (plan : Plan) (settled : ℕ → Type 0) (r q p : Reach) (s t w : Sights) (x y z : Outside) (v : T) (result : Result S FilesStop) → IsAbout plan.steps plan.roots s.facts → Goes notes plan settled r s x q t y (Ok v) → Goes notes plan settled q t y p w z result → Goes notes plan settled r s x p w z result
goes_then plan settled r q p s t w x y z v result about a b = record {
  takes = takes_then plan settled t.facts w.facts r q p b.grows.learns.grows a.takes b.takes;
  waiting = λ n among. elim (b.waiting n among) [
    | inl mid ↦ elim (a.waiting n mid) [
      | inl old ↦ inl old
      | inr waits ↦ inr (waits_on_grows plan.steps plan.roots settled t.facts w.facts n (a.grows.learns.about about) (a.takes.in_order.numbered n (a.takes.in_order.pending n mid)) b.grows.learns.grows waits)
    ]
    | inr waits ↦ inr waits
  ];
  grows = grows_then plan.steps plan.roots settled q.members p.members s t w x y z v result (wider plan.steps settled w.facts q p b.takes.gathers) a.grows b.grows;
}

-- a stop is handed on
pub goes_err : {T S : Type 0} {notes : Bool} (plan : Plan) (settled : ℕ → Type 0) (r q : Reach) (s t : Sights) (x y : Outside) (stop : FilesStop) → Goes {T = T} notes plan settled r s x q t y (Err stop) → Goes {T = S} notes plan settled r s x q t y (Err stop)
goes_err {T} {S} plan settled r q s t x y stop a = record { takes = a.takes; waiting = a.waiting; grows = grows_err {T = T} {S = S} plan.steps plan.roots settled q.members s t x y stop a.grows }

pub goes_err_as : {T S : Type 0} {plan : Plan} {settled : ℕ → Type 0} {r q : Reach} {s t : Sights} {x y : Outside} {notes : Bool} (stop : FilesStop) (result : Result S FilesStop) → result ≡ Err stop → Goes {T = T} notes plan settled r s x q t y (Err stop) → Goes {T = S} notes plan settled r s x q t y result
goes_err_as {T} {S} {plan} {settled} {r} {q} {s} {t} {x} {y} {notes} stop result is a = subst (Goes {T = S} notes plan settled r s x q t y) (sym is) (goes_err {T = T} {S = S} plan settled r q s t x y stop a)

pub goes_ok : {T S : Type 0} {notes : Bool} (plan : Plan) (settled : ℕ → Type 0) (r q : Reach) (s t : Sights) (x y : Outside) (v : T) (u : S) → Goes notes plan settled r s x q t y (Ok v) → Goes notes plan settled r s x q t y (Ok u)
goes_ok plan settled r q s t x y v u a = record { takes = a.takes; waiting = a.waiting; grows = grows_ok plan.steps plan.roots settled q.members s t x y v u a.grows }

-- nothing is done
pub goes_none : {notes : Bool} (plan : Plan) (settled : ℕ → Type 0) (r : Reach) (s : Sights) (x : Outside) (v : Unit {0}) → IsAbout plan.steps plan.roots s.facts → IsInOrder plan.steps settled s.facts r → Goes notes plan settled r s x r s x (Ok v)
goes_none plan settled r s x v about order = record {
  takes = takes_none plan settled s.facts s.facts r about (facts_same s.facts) order;
  waiting = λ n among. inl among;
  grows = grows_none plan.steps plan.roots settled r.members s x v;
}

-- no memory is left after what was done
pub goes_stop : {T S : Type 0} {plan : Plan} {settled : ℕ → Type 0} {r q : Reach} {s t : Sights} {x y : Outside} {notes : Bool} (v : T) → Goes notes plan settled r s x q t y (Ok v) → Goes {T = S} notes plan settled r s x q t y (Err stops.OutOfMemory)
goes_stop {T} {S} v a = record { takes = a.takes; waiting = a.waiting; grows = grows_stop {T = T} {S = S} v a.grows }

-- other members are pending, each of which waits on
pub goes_dropped : {T : Type 0} {notes : Bool} (plan : Plan) (settled : ℕ → Type 0) (r q : Reach) (s t : Sights) (x y : Outside) (result : Result T FilesStop) (kept : List ℕ) → IsInOrder plan.steps settled t.facts (record q { pending = kept }) → ((n : ℕ) → Contains kept n → WaitsOn settled t.facts n)
    → Goes notes plan settled r s x q t y result → Goes notes plan settled r s x (record q { pending = kept }) t y result
goes_dropped plan settled r q s t x y result kept order waits a = record {
  takes = record { in_order = order; gathers = (let g = a.takes.gathers in record { list = g.list; added = g.added; members = g.members; each = g.each }) };
  waiting = λ n among. inr (waits n among);
  grows = a.grows;
}

-- all is done that can be, where the pending members wait on
pub far_after : {T : Type 0} {notes : Bool} (plan : Plan) (settled : ℕ → Type 0) (q p : Reach) (t w : Sights) (y z : Outside) (result : Result T FilesStop) → IsAbout plan.steps plan.roots t.facts → IsInOrder plan.steps settled t.facts q → ((n : ℕ) → Contains q.pending n → WaitsOn settled t.facts n)
    → Goes notes plan settled q t y p w z result → OnOk result (p.done ≡ length p.members) → OnOk result (IsAsFar settled w.facts p)
far_after plan settled q p t w y z (Err stop) about order waits a whole = tt
far_after plan settled q p t w y z (Ok v) about order waits a whole = record {
  whole = whole;
  waiting = λ n number file among at made so. elim (a.waiting n among) [
    | inl old ↦ waits_on_grows plan.steps plan.roots settled t.facts w.facts n about (order.numbered n (order.pending n old)) a.grows.learns.grows (waits n old) number file at made so
    | inr on ↦ on number file at made so
  ];
}

-- a member was taken
pub goes_taken : {notes : Bool} (plan : Plan) (settled : ℕ → Type 0) (number : ℕ) (r q : Reach) (s t : Sights) (x y : Outside) (result : Result Due FilesStop) → Takes notes plan settled number r s x q t y result → Goes notes plan settled r s x q t y result
goes_taken plan settled number r q s t x y result took = record {
  takes = took.takes;
  waiting = λ n among. inl (subst (λ l. Contains l n) (ap (λ (p : Reach). p.pending) took.same) among);
  grows = took.grows;
}

-- the work stays on its step
pub goes_of_step : {T : Type 0} {notes : Bool} (plan : Plan) (settled : ℕ → Type 0) (r q : Reach) (s t : Sights) (x y : Outside) (result : Result T FilesStop) → Goes notes plan settled r s x q t y result → (step : Step) → IsOfStep plan.steps settled step s.facts r → IsOfStep plan.steps settled step t.facts q
goes_of_step plan settled r q s t x y result a step is = of_step_grows plan.steps settled settled step s.facts t.facts r q (λ k so. so) a.grows.learns.grows a.takes.gathers is
