-- How one member is taken, at each exit.
use Rattle.std.proofs.Common.{◌≡◌, ℕ, Bool, [], ◌∷◌, Some, Result, Ok, Err, refl, sym, ap, subst, arith}
use Rattle.std.specs.List.{Contains}
use Rattle.b2_host.specs.Outside.{Outside}
use Rattle.b2_host.specs.OutsideLaws.{only_one}
use Rattle.b2_plan.specs.declared.plan.Plan.{Plan}
use Rattle.b2_facts.specs.declared.file_facts.FileFacts.{FileFacts}
use Rattle.b2_facts.specs.Facts.{IsAbout, file_at}
use Rattle.b2_facts.specs.Growth as facts
use Rattle.b2_facts.proofs.FactsGrow.{grows_then as grown_then}
use Rattle.b2_reach.specs.declared.reach.Reach.{Reach}
use Rattle.b2_facts.specs.declared.stop.FilesStop.{FilesStop}
use Rattle.b2_reach.specs.declared.sights.Sights.{Sights}
use Rattle.b2_reach.specs.declared.due.Due.{Due}
use Rattle.b2_reach.specs.declared.due.Due.TheVariants as dues
use Rattle.b2_reach.specs.Files.{IsAtHand, IsMakerOf}
use Rattle.b2_reach.specs.Reaches.{IsTarget, IsInOrder}
use Rattle.b2_reach.specs.Dues.{IsDue}
use Rattle.b2_reach.specs.Steps.{AreMarked, Adds, ChangesMembers, TakesIn, IsFoundWithin, Takes}
use Rattle.b2_reach.specs.Sightings.{LearnsMore}
use Rattle.b2_reach.proofs.ReachGrows.{has_file, number_grows, at_hand_grows, was_file}
use Rattle.b2_reach.proofs.GrowthComposes.{grows_up, grows_then, grows_err, grows_ok}
use Rattle.b2_reach.proofs.MembersComeIn.{takes_in, takes_none, wider, maker_settled, after_unread, after_read_in}

module _ (plan : Plan) (settled : ℕ → Type 0) (number : ℕ) (r : Reach) (s : Sights) (x : Outside) (about : IsAbout plan.steps plan.roots s.facts) (order : IsInOrder plan.steps settled s.facts r) (member : Contains r.members number) where
  none_in : (m : ℕ) → Contains {X = ℕ} [] m → Contains r.members m
  none_in m among = absurd (omega (arith, among.1))

  -- the look stopped
  pub look_stopped : {notes : Bool} (t : Sights) (y : Outside) (stop : FilesStop) → LearnsMore {T = Due} notes plan.steps plan.roots settled [] s x t y (Err stop) → Takes notes plan settled number r s x r t y (Err stop)
  look_stopped t y stop grows = record {
    same = refl;
    takes = takes_none plan settled s.facts t.facts r about grows.learns.grows order;
    after_due = tt;
    marked = tt;
    grows = grows_up {T = Due} plan.steps plan.roots settled settled [] r.members s t x y (Err stop) (λ k is. is) none_in grows;
  }

  -- nothing was to be read
  pub took_other : {notes : Bool} (t : Sights) (y : Outside) (due : Due) → (due ≡ dues.Read → ⊥) → LearnsMore notes plan.steps plan.roots settled [] s x t y (Ok due) → ((file : FileFacts) → file_at t.facts number ≡ Some file → IsDue plan.steps settled file due) → AreMarked t.marks r.members
      → Takes notes plan settled number r s x r t y (Ok due)
  took_other t y due not grows is marked = record {
    same = refl;
    takes = takes_none plan settled s.facts t.facts r about grows.learns.grows order;
    after_due = λ file at. after_unread plan.steps settled t.facts r.list r.members number file due not (is file at);
    marked = marked;
    grows = grows_up plan.steps plan.roots settled settled [] r.members s t x y (Ok due) (λ k is. is) none_in grows;
  }

  -- the member was read
  module _ {notes : Bool} (t : Sights) (y : Outside) (looked : LearnsMore notes plan.steps plan.roots settled [] s x t y (Ok dues.Read)) (due : (file : FileFacts) → file_at t.facts number ≡ Some file → IsDue plan.steps settled file dues.Read) (q : Reach) (w : Sights) (z : Outside)
      (same : ChangesMembers r q) (adds : Adds (IsTarget w.facts r.list number) r.members q.members) where
    file_then : (file : FileFacts) × (file_at t.facts number ≡ Some file)
    file_then = has_file plan.steps plan.roots t.facts number (looked.learns.about about) (number_grows s.facts t.facts number looked.learns.grows (order.numbered number member))

    maker_so : (k : ℕ) → IsMakerOf t.facts number k → settled k
    maker_so = maker_settled plan.steps settled t.facts number file_then.0 file_then.1 (due file_then.0 file_then.1).1

    read_takes : {T : Type 0} (result : Result T FilesStop) → LearnsMore notes plan.steps plan.roots (IsMakerOf t.facts number) (number ∷ []) t y w z result → TakesIn plan settled w.facts r q
    read_takes result read =
        let grown = grown_then s.facts t.facts w.facts looked.learns.grows read.learns.grows in
        takes_in plan settled s.facts w.facts r q number about (read.learns.about (looked.learns.about about)) grown order member (λ file at. hand_after file at read.learns.grows) same adds
      where
        hand_after : (file : FileFacts) → file_at w.facts number ≡ Some file → facts.Grows t.facts w.facts → IsAtHand plan.steps settled file
        hand_after file at grown = at_hand_grows plan.steps settled settled file_then.0 file (λ k is. is) (was_file t.facts w.facts number file_then.0 file grown file_then.1 at) (due file_then.0 file_then.1).1

    read_grows : {T : Type 0} (result : Result T FilesStop) → LearnsMore notes plan.steps plan.roots (IsMakerOf t.facts number) (number ∷ []) t y w z result → LearnsMore notes plan.steps plan.roots settled q.members s x w z result
    read_grows result read =
        let takes = read_takes result read in
        let in_q : (m : ℕ) → Contains (number ∷ []) m → Contains q.members m = λ m among. wider plan.steps settled w.facts r q takes.gathers m (subst (Contains r.members) (only_one number m among) member) in
        let none_q : (m : ℕ) → Contains {X = ℕ} [] m → Contains q.members m = λ m among. absurd (omega (arith, among.1)) in
        grows_then plan.steps plan.roots settled [] q.members s t w x y z dues.Read result none_q looked
        (grows_up plan.steps plan.roots (IsMakerOf t.facts number) settled (number ∷ []) q.members t w y z result maker_so in_q read)

    pub took_read : (v : Unit {0}) → LearnsMore notes plan.steps plan.roots (IsMakerOf t.facts number) (number ∷ []) t y w z (Ok v) → ((file : FileFacts) → file_at w.facts number ≡ Some file → IsFoundWithin w.facts r.list q.members number file) → AreMarked w.marks q.members
        → Takes notes plan settled number r s x q w z (Ok dues.Read)
    took_read v read found marked = record {
      same = same;
      takes = read_takes (Ok v) read;
      after_due = λ file at. after_read_in plan.steps settled w.facts q.list q.members number file
          (at_hand_grows plan.steps settled settled file_then.0 file (λ k is. is) (was_file t.facts w.facts number file_then.0 file read.learns.grows file_then.1 at) (due file_then.0 file_then.1).1)
          (subst (λ list. IsFoundWithin w.facts list q.members number file) (sym (ap (λ (p : Reach). p.list) same)) (found file at));
      marked = marked;
      grows = grows_ok plan.steps plan.roots settled q.members s w x z v dues.Read (read_grows (Ok v) read);
    }

    pub read_stopped : (stop : FilesStop) → LearnsMore {T = Unit {0}} notes plan.steps plan.roots (IsMakerOf t.facts number) (number ∷ []) t y w z (Err stop) → Takes notes plan settled number r s x q w z (Err stop)
    read_stopped stop read = record {
      same = same;
      takes = read_takes {T = Unit {0}} (Err stop) read;
      after_due = tt;
      marked = tt;
      grows = grows_err {T = Unit {0}} {S = Due} plan.steps plan.roots settled q.members s w x z stop (read_grows {T = Unit {0}} (Err stop) read);
    }
