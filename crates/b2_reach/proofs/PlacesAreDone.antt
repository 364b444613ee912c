-- What was due with the member at the next place is done, and the work stays in order.
use Rattle.std.proofs.Common.{◌≡◌, ◌⊎◌, inl, inr, ℕ, ◌+◌, ◌<◌, Bool, true, List, [], ◌∷◌, ◌++◌, length, Some, Result, Ok, Err, slice_get, refl, sym, ap, subst, ◌∙◌, arith}
use Rattle.std.specs.List.{Contains}
use Rattle.std.proofs.lemmas.Bool.{cases_lt}
use Rattle.std.proofs.lemmas.Option.{slice_get_within}
use Rattle.std.proofs.lemmas.List.Elements.{Contains-append_left, Contains-append_cases, Contains-push}
use Rattle.b2_host.specs.Outside.{Outside}
use Rattle.b2_host.specs.OutsideLaws.{only_one}
use Rattle.b2_plan.specs.declared.step.Step.{Step}
use Rattle.b2_plan.specs.declared.plan.Plan.{Plan}
use Rattle.b2_facts.specs.declared.file_facts.FileFacts.{FileFacts}
use Rattle.b2_facts.specs.Facts.{Knowledge, IsAbout, file_at}
use Rattle.b2_facts.proofs.ListsAtPlaces.{some_is, among_at, get_stays}
use Rattle.b2_reach.specs.declared.reach.Reach.{Reach}
use Rattle.b2_facts.specs.declared.stop.FilesStop.{FilesStop}
use Rattle.b2_facts.specs.declared.stop.FilesStop.TheVariants as stops
use Rattle.b2_reach.specs.declared.sights.Sights.{Sights}
use Rattle.b2_reach.specs.declared.due.Due.{Due}
use Rattle.b2_reach.specs.declared.due.Due.TheVariants as dues
use Rattle.b2_reach.specs.Reaches.{IsTaken, IsTaken.waits, IsTaken.lacks, IsTaken.done, IsToWait, IsMissingMember, IsInOrder, Gathers}
use Rattle.b2_reach.specs.Dues.{IsAfter}
use Rattle.b2_reach.specs.Steps.{AreMarked, ChangesMembers, TakesIn, WaitsOn, WaitMore, with_due, Takes}
use Rattle.b2_reach.specs.Sightings.{LearnsMore}
use Rattle.b2_reach.proofs.ReachGrows.{has_file}
use Rattle.b2_reach.proofs.GrowthComposes.{grows_then, grows_ok, grows_no_memory}

-- the work with one more place done
abbrev one_done : Reach → List ℕ → Bool → Reach
one_done r waiting lack = record r { done = r.done + 1; pending = waiting; lacks = lack }

taken_still : (steps : List Step) (settled : ℕ → Type 0) (f : Knowledge) (r : Reach) (pending : List ℕ) (lack : Bool) (n : ℕ) (file : FileFacts) → ((m : ℕ) → Contains r.pending m → Contains pending m) → (r.lacks ≡ true → lack ≡ true)
    → IsTaken steps settled f r n file → IsTaken steps settled f (one_done r pending lack) n file
taken_still steps settled f r pending lack n file more also (waits among) = waits (more n among)
taken_still steps settled f r pending lack n file more also (lacks told none) = lacks (also told) none
taken_still steps settled f r pending lack n file more also (done is) = done is

one_more_done : (steps : List Step) (settled : ℕ → Type 0) (f : Knowledge) (r : Reach) (number : ℕ) (pending : List ℕ) (lack : Bool) → IsInOrder steps settled f r → slice_get r.members r.done ≡ Some number → r.done < length r.members
    → ((m : ℕ) → Contains r.pending m → Contains pending m) → (r.lacks ≡ true → lack ≡ true) → ((file : FileFacts) → file_at f number ≡ Some file → IsTaken steps settled f (one_done r pending lack) number file)
    → ((m : ℕ) → Contains pending m → Contains r.pending m ⊎ ((m ≡ number) × ((file : FileFacts) → file_at f number ≡ Some file → IsToWait steps file))) → (lack ≡ true → (r.lacks ≡ true) ⊎ ((m : ℕ) × IsMissingMember f r.members m))
    → IsInOrder steps settled f (one_done r pending lack)
one_more_done steps settled f r number pending lack order at low more also taken came told = record {
  listed = order.listed;
  numbered = order.numbered;
  once = order.once;
  within = omega (arith, low);
  taken = λ place n file below place_at known. elim (cases_lt place r.done) [
    | inl before ↦ taken_still steps settled f r pending lack n file more also (order.taken place n file before place_at known)
    | inr past ↦ (let same : place ≡ r.done = omega (arith, past, below) in
        let is : number ≡ n = some_is number n (sym at ∙ subst (λ k. slice_get r.members k ≡ Some n) same place_at) in
        subst (λ m. IsTaken steps settled f (one_done r pending lack) m file) is (taken file (subst (λ m. file_at f m ≡ Some file) (sym is) known)))
  ];
  pending = λ n among. elim (came n among) [ inl old ↦ order.pending n old | inr new ↦ subst (Contains r.members) (sym new.0) (among_at r.members r.done number at) ];
  waiting = λ n file among known. elim (came n among) [ inl old ↦ order.waiting n file old known | inr new ↦ new.1 file (subst (λ m. file_at f m ≡ Some file) new.0 known) ];
  lacks = λ is. elim (told is) [ inl old ↦ order.lacks old | inr new ↦ new ];
}

-- what was due with the next member is done
pub due_done : (steps : List Step) (roots : List (List ℕ)) (settled : ℕ → Type 0) (f : Knowledge) (r : Reach) (number : ℕ) (due : Due) → IsAbout steps roots f → IsInOrder steps settled f r → slice_get r.members r.done ≡ Some number → r.done < length r.members
    → ((file : FileFacts) → file_at f number ≡ Some file → IsAfter steps settled f r.list r.members number file due) → IsInOrder steps settled f (with_due r number due)
due_done steps roots settled f r number dues.Nothing about order at low is =
    one_more_done steps settled f r number r.pending r.lacks order at low (λ m a. a) (λ t. t) (λ file known. done (is file known)) (λ m a. inl a) (λ t. inl t)
due_done steps roots settled f r number dues.Read about order at low is =
    one_more_done steps settled f r number r.pending r.lacks order at low (λ m a. a) (λ t. t) (λ file known. done (is file known)) (λ m a. inl a) (λ t. inl t)
due_done steps roots settled f r number dues.Lack about order at low is =
    let member = among_at r.members r.done number at in
    one_more_done steps settled f r number r.pending true order at low (λ m a. a) (λ t. refl) (λ file known. lacks refl (is file known)) (λ m a. inl a)
    (λ t. inr (let (file, known) = has_file steps roots f number about (order.numbered number member) in (number, record { among = member; file = file; file_is = known; missing = is file known })))
due_done steps roots settled f r number dues.Wait about order at low is =
    one_more_done steps settled f r number (r.pending ++ number ∷ []) r.lacks order at low (λ m a. Contains-append_left r.pending (number ∷ []) m a) (λ t. t) (λ file known. waits (Contains-push r.pending number))
    (λ m a. elim (Contains-append_cases r.pending (number ∷ []) m a) [ inl old ↦ inl old | inr last ↦ inr (sym (only_one number m last), λ file known. (is file known).0) ]) (λ t. inl t)

-- the members are the same
due_gathers : (steps : List Step) (settled : ℕ → Type 0) (f : Knowledge) (r q : Reach) (number : ℕ) (due : Due) → Gathers steps settled f r q → Gathers steps settled f r (with_due q number due)
due_gathers steps settled f r q number dues.Nothing g = record { list = g.list; added = g.added; members = g.members; each = g.each }
due_gathers steps settled f r q number dues.Lack g = record { list = g.list; added = g.added; members = g.members; each = g.each }
due_gathers steps settled f r q number dues.Wait g = record { list = g.list; added = g.added; members = g.members; each = g.each }
due_gathers steps settled f r q number dues.Read g = record { list = g.list; added = g.added; members = g.members; each = g.each }

pub due_members : (q : Reach) (number : ℕ) (due : Due) → (with_due q number due).members ≡ q.members
due_members q number dues.Nothing = refl
due_members q number dues.Lack = refl
due_members q number dues.Wait = refl
due_members q number dues.Read = refl

pub due_count : (q : Reach) (number : ℕ) (due : Due) → (with_due q number due).done ≡ q.done + 1
due_count q number dues.Nothing = refl
due_count q number dues.Lack = refl
due_count q number dues.Wait = refl
due_count q number dues.Read = refl

-- what waits more is what was due to wait
due_waits : (steps : List Step) (settled : ℕ → Type 0) (f : Knowledge) (list : ℕ) (members : List ℕ) (q : Reach) (number : ℕ) (due : Due) → ((file : FileFacts) → file_at f number ≡ Some file → IsAfter steps settled f list members number file due) → WaitMore settled f q.pending (with_due q number due).pending
due_waits steps settled f list members q number dues.Nothing is n among = inl among
due_waits steps settled f list members q number dues.Lack is n among = inl among
due_waits steps settled f list members q number dues.Read is n among = inl among
due_waits steps settled f list members q number dues.Wait is n among = elim (Contains-append_cases q.pending (number ∷ []) n among) [
  | inl old ↦ inl old
  | inr last ↦ inr (subst (WaitsOn settled f) (only_one number n last) (λ k file at made so. (is file at).1 k made so))
]

-- ---- the exits of taking the next member

module _ (plan : Plan) (settled : ℕ → Type 0) (number : ℕ) (r : Reach) (s : Sights) (x : Outside) (q : Reach) (t : Sights) (y : Outside) where
  pending_same : ChangesMembers r q → WaitMore settled t.facts r.pending q.pending
  pending_same same n among = inl (subst (λ l. Contains l n) (ap (λ (p : Reach). p.pending) same) among)

  pub next_waits : {notes : Bool} (result : Result Due FilesStop) → Takes notes plan settled number r s x q t y result → WaitMore settled t.facts r.pending q.pending
  next_waits result took = pending_same took.same

  pub next_no_memory : {notes : Bool} (due : Due) → Takes notes plan settled number r s x q t y (Ok due) → LearnsMore {T = Unit {0}} notes plan.steps plan.roots settled q.members s x t y (Err stops.OutOfMemory)
  next_no_memory due took = grows_then plan.steps plan.roots settled q.members q.members s t t x y y due (Err stops.OutOfMemory) (λ m a. a) took.grows (grows_no_memory plan.steps plan.roots settled q.members t y)

  module _ {notes : Bool} (due : Due) (took : Takes notes plan settled number r s x q t y (Ok due)) (about : IsAbout plan.steps plan.roots s.facts) (at : slice_get r.members r.done ≡ Some number) (low : r.done < length r.members) where
    still_at : slice_get q.members q.done ≡ Some number
    still_at =
        let e : slice_get (r.members ++ took.takes.gathers.added) r.done ≡ Some number = get_stays r.members took.takes.gathers.added r.done number at in
        subst (λ l. slice_get l q.done ≡ Some number) (sym took.takes.gathers.members) (subst (λ k. slice_get (r.members ++ took.takes.gathers.added) k ≡ Some number) (sym (ap (λ (p : Reach). p.done) took.same)) e)

    pub next_takes : TakesIn plan settled t.facts r (with_due q number due)
    next_takes = record {
      in_order = due_done plan.steps plan.roots settled t.facts q number due (took.grows.learns.about about) took.takes.in_order still_at (slice_get_within q.members q.done number still_at) took.after_due;
      gathers = due_gathers plan.steps settled t.facts r q number due took.takes.gathers;
    }

    pub next_waiting : WaitMore settled t.facts r.pending (with_due q number due).pending
    next_waiting n among = elim (due_waits plan.steps settled t.facts q.list q.members q number due took.after_due n among) [ inl old ↦ pending_same took.same n old | inr new ↦ inr new ]

    pub next_done : (with_due q number due).done ≡ r.done + 1
    next_done = due_count q number due ∙ ap (λ (p : Reach). p.done + 1) took.same

    pub next_marked : AreMarked t.marks (with_due q number due).members
    next_marked = subst (AreMarked t.marks) (sym (due_members q number due)) took.marked

    pub next_grows : (v : Unit {0}) → LearnsMore notes plan.steps plan.roots settled (with_due q number due).members s x t y (Ok v)
    next_grows v = subst (λ l. LearnsMore notes plan.steps plan.roots settled l s x t y (Ok v)) (sym (due_members q number due)) (grows_ok plan.steps plan.roots settled q.members s t x y due v took.grows)
