-- How the parts of a load, one after another, do what is defined.
use Rattle.std.proofs.Common.{◌≡◌, ◌≤◌, ◌++◌, ℕ, [], Option, Some, None, Result, Ok, Err, refl, sym, ap, ◌∙◌, subst, arith}
use Rattle.std.proofs.lemmas.List.{append_assoc, append-nil}
use Rattle.jam_journal.specs.Tables.{Text}
use Rattle.jam_meaning.specs.Laws.{SameFrames}
use Rattle.jam_meaning.specs.Refused.{TookTurn}
use Rattle.jam_meaning.specs.RefusedLaws.{refuses_first, refuses_second}
use Rattle.jam_meaning.specs.Settings.{Setting}
use Rattle.jam_meaning.specs.States.{State}
use Rattle.jam_natives.specs.Keeping.{Kept}
use Rattle.jam_natives.specs.Rows.{jam_meaning}
use Rattle.jam_effects.specs.Machines.{folder_of}
use Rattle.b2_project_walk.specs.declared.fault.LoadFault.{LoadFault}
use Rattle.b2_project_walk.specs.declared.fault.LoadFault.TheVariants as faults
use Rattle.b2_project_walk.specs.Finding.{Looked, Counts}
use Rattle.b2_project_walk.specs.Faults.{refusal_of, refused_of}
use Rattle.b2_project_walk.specs.Walking.{IsSettingFor, IsRefusedBy, StopsBy, AreVisited}
use Rattle.b2_project_walk.specs.Walks.{Walk, Refusal, Course, goes_on, refused, state_in, and_then}
use Rattle.b2_project_walk.specs.Laws.{AddsLines}
use Rattle.b2_project_walk.proofs.FirstFileThereIsFound.{looked_then, counted}
use Rattle.b2_project_walk.proofs.LinesAreOnlyAdded.{then_adds}
use Rattle.b2_project_walk.specs.WalkParts.{Stand, ArePassed, AreInLine, ComeToSame, What, by, Agrees, Grows, IsGrown, IsOfWalkIf, Does}

pub frames_same : (s : State Kept) → SameFrames s s
frames_same s = (refl, refl, refl)

pub frames_then : (a b c : State Kept) → SameFrames a b → SameFrames b c → SameFrames a c
frames_then a b c (frames, marks, step) (frames₁, marks₁, step₁) = (frames₁ ∙ frames, marks₁ ∙ marks, step₁ ∙ step)

-- a turn that was taken in the second part was taken
pub took_later : (text : Option Text) (before middle after : ℕ) → middle ≤ before → TookTurn text middle after → TookTurn text before after
took_later None before middle after fell took = tt
took_later (Some text) before middle after fell took = omega (arith, fell, took)

-- what is so at first is so later
pub setting_later : (setting : Setting Kept) (a b : Stand) → b.budget ≡ a.budget → Looked a.outside b.outside → IsSettingFor setting a.budget a.outside → IsSettingFor setting b.budget b.outside
setting_later setting a b same looked right = record {
  budget = same ∙ right.budget;
  natives = right.natives;
  folder = ap folder_of looked.disk ∙ right.folder;
  right = right.right;
}

-- a refusal that a fault stands for
pub stops_with : (e : LoadFault) (why : Refusal) (comes : Course → Type 0) (s : State Kept) → refusal_of e ≡ Some why → comes (refused why s) → StopsBy e comes s
stops_with faults.Host why comes s is h = absurd (let clash : None ≡ Some why = is in cc)
stops_with e why comes s is h = subst (λ r. IsRefusedBy r comes s) (sym is) h

refused_then : (why : Option Refusal) (course : Course) (next : Walk → Course) (s : State Kept) → IsRefusedBy why (λ c. course ≡ c) s → IsRefusedBy why (λ c. and_then course next ≡ c) s
refused_then None course next s h = tt
refused_then (Some why) course next s h = ap (λ c. and_then c next) h

-- what follows only adds lines
stops_then : (e : LoadFault) (course : Course) (next : Walk → Course) (s : State Kept) → ((w : Walk) → AddsLines w.state (state_in (next w))) → StopsBy e (λ c. course ≡ c) s → StopsBy e (λ c. and_then course next ≡ c) s
stops_then faults.Host course next s more h = λ last is. subst (λ c. AddsLines s (state_in c)) is (then_adds s course next (h course refl) more)
stops_then e course next s more h = refused_then (refusal_of e) course next s h

refused_from : (why : Option Refusal) (comes other : Course → Type 0) (s : State Kept) → ((course : Course) → other course → comes course) → IsRefusedBy why other s → IsRefusedBy why comes s
refused_from None comes other s f h = tt
refused_from (Some why) comes other s f h = f (refused why s) h

pub stops_from : (e : LoadFault) (comes other : Course → Type 0) (s : State Kept) → ComeToSame other comes → StopsBy e other s → StopsBy e comes s
stops_from faults.Host comes other s same h = λ course c. h course (same.1 course c)
stops_from e comes other s same h = refused_from (refusal_of e) comes other s same.0 h

pub same_then : (one other last : Course → Type 0) → ComeToSame one other → ComeToSame other last → ComeToSame one last
same_then one other last f g = (λ course h. g.0 course (f.0 course h), λ course h. f.1 course (g.1 course h))

-- a course that is one of two equal ones
pub same_by : (one other : Course) → one ≡ other → ComeToSame (λ course. other ≡ course) (λ course. one ≡ course)
same_by one other e = (λ course h. e ∙ h, λ course h. sym e ∙ h)

-- where both come to the same
pub agrees_from : (result : Result (Unit {0}) LoadFault) (comes other : Course → Type 0) (w : Walk) → ComeToSame other comes → Agrees result other w → Agrees result comes w
agrees_from (Ok u) comes other w f h = (f.0 (goes_on w) h.0, h.1)
agrees_from (Err fault) comes other w f h = stops_from fault comes other w.state f h

pub grows_same : (a : Stand) → Grows a a
grows_same a = record { passed = λ h. h; visited = λ h. h; more = []; visits = sym (append-nil a.walk.visits) }

pub grows_then : (a b c : Stand) → Grows a b → Grows b c → Grows a c
grows_then a b c one two = record {
  passed = λ h. two.passed (one.passed h);
  visited = λ h. two.visited (one.visited h);
  more = one.more ++ two.more;
  visits = two.visits ∙ ap (λ vs. vs ++ two.more) one.visits ∙ append_assoc a.walk.visits one.more two.more;
}

pub grown_after : (result : Result (Unit {0}) LoadFault) (a b c : Stand) → Grows a b → IsGrown result b c → IsGrown result a c
grown_after (Ok u) a b c one two = grows_then a b c one two
grown_after (Err e) a b c one two = tt

-- a part that comes to the same
pub does_from : (what other : What) (a b : Stand) (result : Result (Unit {0}) LoadFault)
    → ((setting : Setting Kept) → IsSettingFor setting a.budget a.outside → AreInLine a.walk → ComeToSame (other setting a.walk) (what setting a.walk))
    → Does other a b result → Does what a b result
does_from what other a b result f h = record {
  told = λ setting right refuses line. agrees_from result (what setting a.walk) (other setting a.walk) b.walk (f setting right line) (h.told setting right refuses line);
  turns = h.turns;
  budget = h.budget;
  frames = h.frames;
  looked = h.looked;
  counts = h.counts;
  took = h.took;
  whole = h.whole;
  grown = h.grown;
}

-- a refusal ends what follows, which only adds lines
pub stopped : (what next : Setting Kept → Walk → Course) (a b : Stand) (e : LoadFault) → ((setting : Setting Kept) → setting.natives ≡ jam_meaning → (w : Walk) → AddsLines w.state (state_in (next setting w)))
    → Does (by what) a b (Err e) → Does (by (λ setting w. and_then (what setting w) (next setting))) a b (Err e)
stopped what next a b e more h = record {
  told = λ setting right refuses line. stops_then e (what setting a.walk) (next setting) b.walk.state (more setting right.natives) (h.told setting right refuses line);
  turns = h.turns;
  budget = h.budget;
  frames = h.frames;
  looked = h.looked;
  counts = h.counts;
  took = h.took;
  whole = h.whole;
  grown = tt;
}

-- one part, and then another, which comes to this from where the first one came
pub followed : (first next whole : What) (a b c : Stand) (result : Result (Unit {0}) LoadFault)
    → ((setting : Setting Kept) → first setting a.walk (goes_on b.walk) → ComeToSame (next setting b.walk) (whole setting a.walk))
    → Does first a b (Ok tt) → Does next b c result → Does whole a c result
followed first next whole a b c result f one two = record {
  told = λ setting right refuses line.
      let begun : Agrees (Ok tt) (first setting a.walk) b.walk = one.told setting right (refuses_first setting.refused a.walk.state.left b.walk.state.left c.walk.state.left (refused_of result) two.turns two.took refuses) line in
      agrees_from result (whole setting a.walk) (next setting b.walk) c.walk (f setting begun.0)
      (two.told setting (setting_later setting a b one.budget one.looked right) (refuses_second setting.refused a.walk.state.left b.walk.state.left c.walk.state.left (refused_of result) one.turns refuses) begun.1);
  turns = (let p = one.turns in let q = two.turns in omega (arith, p, q));
  budget = two.budget ∙ one.budget;
  frames = frames_then a.walk.state b.walk.state c.walk.state one.frames two.frames;
  looked = looked_then a.outside b.outside c.outside one.looked two.looked;
  counts = counted result a.outside b.outside c.outside one.counts two.counts;
  took = took_later (refused_of result) a.walk.state.left b.walk.state.left c.walk.state.left one.turns two.took;
  whole = two.whole;
  grown = grown_after result a b c one.grown two.grown;
}

pub joined : (what next : Setting Kept → Walk → Course) (a b c : Stand) (result : Result (Unit {0}) LoadFault) → Does (by what) a b (Ok tt) → Does (by next) b c result
    → Does (by (λ setting w. and_then (what setting w) (next setting))) a c result
joined what next a b c result one two =
    followed (by what) (by next) (by (λ setting w. and_then (what setting w) (next setting))) a b c result
    (λ setting e. same_by (and_then (what setting a.walk) (next setting)) (next setting b.walk) (ap (λ course. and_then course (next setting)) e)) one two

-- what is left of the walk is all that was there
pub record Stays (a b : Stand) (result : Result (Unit {0}) LoadFault) : Type 0 where
  pub walk : b.walk ≡ a.walk
  pub passed : b.passed ≡ a.passed
  pub budget : b.budget ≡ a.budget
  pub looked : Looked a.outside b.outside
  pub counts : Counts result a.outside b.outside
  pub whole : IsOfWalkIf result
  pub none : refused_of result ≡ None

stays_grown : (result : Result (Unit {0}) LoadFault) (a b : Stand) → Stays a b result → IsGrown result a b
stays_grown (Ok u) a b stays = record {
  passed = λ h. subst (λ w. ArePassed w.visits b.passed w.named) (sym stays.walk) (subst (λ n. ArePassed a.walk.visits n a.walk.named) (sym stays.passed) h);
  visited = λ h. subst (λ w. AreVisited w.visits w.calls w.named) (sym stays.walk) h;
  more = [];
  visits = ap (λ w. w.visits) stays.walk ∙ sym (append-nil a.walk.visits);
}
stays_grown (Err e) a b stays = tt

pub does_stay : (what : What) (a b : Stand) (result : Result (Unit {0}) LoadFault) → Stays a b result
    → ((setting : Setting Kept) → IsSettingFor setting a.budget a.outside → AreInLine a.walk → Agrees result (what setting a.walk) a.walk) → Does what a b result
does_stay what a b result stays told = record {
  told = λ setting right refuses line. subst (λ w. Agrees result (what setting a.walk) w) (sym stays.walk) (told setting right line);
  turns = (let e = ap (λ w. w.state.left) stays.walk in omega (arith, e));
  budget = stays.budget;
  frames = subst (λ w. SameFrames a.walk.state w.state) (sym stays.walk) (frames_same a.walk.state);
  looked = stays.looked;
  counts = stays.counts;
  took = subst (λ text. TookTurn text a.walk.state.left b.walk.state.left) (sym stays.none) tt;
  whole = stays.whole;
  grown = stays_grown result a b stays;
}
