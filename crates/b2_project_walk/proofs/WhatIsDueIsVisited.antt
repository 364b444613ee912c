-- How a walk goes on from directory to directory.
use Rattle.std.proofs.Common.{◌≡◌, ◌<◌, ◌+◌, ℕ, true, false, List, [], ◌∷◌, ◌++◌, length, take, drop, get_or, Option, Some, None, Result, Ok, Err, refl, sym, ap, ◌∙◌, subst, arith}
use Rattle.std.specs.Prelude.{OnOk, if◌then◌else◌}
use Rattle.std.proofs.lemmas.List.{drop_more}
use Rattle.std.proofs.lemmas.Option.{same_Some}
use Rattle.jam_journal.specs.Tables.{Text}
use Rattle.jam_meaning.specs.RefusedLaws.{refuses_first, refuses_second}
use Rattle.jam_meaning.specs.Settings.{Setting}
use Rattle.jam_meaning.specs.States.{State}
use Rattle.jam_natives.specs.Keeping.{Kept}
use Rattle.jam_natives.specs.Rows.{jam_meaning}
use Rattle.b2_host.specs.Outside.{Outside}
use Rattle.jam_effects.specs.declared.turns.Turns.{Turns}
use Rattle.b2_declaring_calls.specs.Directories.{directories}
use Rattle.b2_declared.specs.declared.visit.Visit.{Visit}
use Rattle.b2_project_walk.specs.declared.walk.WalkState.{WalkState}
use Rattle.b2_project_walk.specs.declared.fault.LoadFault.{LoadFault}
use Rattle.b2_project_walk.specs.declared.fault.LoadFault.TheVariants as faults
use Rattle.b2_project_walk.specs.Directories.{way_to, is_visited, first_new}
use Rattle.b2_base.specs.Segments.{here}
use Rattle.b2_project_walk.specs.Finding.{CountsFault}
use Rattle.b2_project_walk.specs.Faults.{refusal_of, refused_by, refused_of, IsOfWalk}
use Rattle.b2_project_walk.specs.Walking.{walk_of, IsRefusedBy, StopsBy, AreVisited, AreAllVisited}
use Rattle.b2_project_walk.specs.Walks.{Walk, Refusal, no_jamroot, no_jamfile, Course, goes_on, refused, state_in, and_then, visit, visit_all, unless_visited, load_dir, load_root, due, ComesTo, is_refused, is_whole, leads_on}
use Rattle.b2_project_walk.specs.WalkParts.{Stand, stand, ArePassed, ComeToSame, Grows, What, by, visits_dir, visits_all, loads_dir, loads_root, Does, walked, walked_all, Leads}
use Rattle.b2_project_walk.proofs.LinesAreOnlyAdded.{lines_then, all_add, needed_adds, course_adds}
use Rattle.b2_project_walk.proofs.VisitsGrowByOne.{visited_later, none_later, longer}
use Rattle.b2_project_walk.proofs.VisitDoesWhatIsDefined.{no_memory}
use Rattle.b2_project_walk.proofs.FirstFileThereIsFound.{looked_same, looked_then, counted}
use Rattle.b2_project_walk.proofs.PartsMakeTheLoad.{stops_with, same_then, same_by, frames_same, frames_then, grows_same, grows_then, grown_after, took_later, setting_later, agrees_from, followed, joined, stopped, Stays, does_stay}

-- at first
pub leads_same : (what : What) (a : Stand) → Leads what what a a
leads_same what a = record {
  told = λ setting right none line. (line, (λ course h. h, λ course h. h));
  turns = omega arith;
  budget = refl;
  frames = frames_same a.walk.state;
  looked = looked_same a.outside;
  counts = refl;
  grown = grows_same a;
}

-- what is known of the first directories is more, or less
pub leads_passed : (whole rest : What) (a b : Stand) (passed : ℕ) → ArePassed b.walk.visits passed b.walk.named → Leads whole rest a b → Leads whole rest a (record b { passed = passed })
leads_passed whole rest a b passed known h = record {
  told = λ setting right none line. h.told setting right none line;
  turns = h.turns;
  budget = h.budget;
  frames = h.frames;
  looked = h.looked;
  counts = h.counts;
  grown = record { passed = λ before. known; visited = h.grown.visited; more = h.grown.more; visits = h.grown.visits };
}

-- a part of the rest is done
pub leads_more : (whole rest next : What) (part : Setting Kept → Walk → Course) (a b c : Stand)
    → ((setting : Setting Kept) → part setting b.walk ≡ goes_on c.walk → ComeToSame (next setting c.walk) (rest setting b.walk))
    → Leads whole rest a b → Does (by part) b c (Ok tt) → Leads whole next a c
leads_more whole rest next part a b c f one two = record {
  told = λ setting right none line.
      let first = one.told setting right (refuses_first setting.refused a.walk.state.left b.walk.state.left c.walk.state.left None two.turns tt none) line in
      let second = two.told setting (setting_later setting a b one.budget one.looked right) (refuses_second setting.refused a.walk.state.left b.walk.state.left c.walk.state.left None one.turns none) first.0 in
      (second.1, same_then (next setting c.walk) (rest setting b.walk) (whole setting a.walk) (f setting second.0) first.1);
  turns = (let p = one.turns in let q = two.turns in omega (arith, p, q));
  budget = two.budget ∙ one.budget;
  frames = frames_then a.walk.state b.walk.state c.walk.state one.frames two.frames;
  looked = looked_then a.outside b.outside c.outside one.looked two.looked;
  counts = two.counts ∙ one.counts;
  grown = grows_then a b c one.grown two.grown;
}

-- the rest is done
pub leads_end : (whole rest : What) (a b c : Stand) (result : Result (Unit {0}) LoadFault) → Leads whole rest a b → Does rest b c result → Does whole a c result
leads_end whole rest a b c result one two = record {
  told = λ setting right refuses line.
      let first = one.told setting right (refuses_first setting.refused a.walk.state.left b.walk.state.left c.walk.state.left (refused_of result) two.turns two.took refuses) line in
      agrees_from result (whole setting a.walk) (rest setting b.walk) c.walk first.1
      (two.told setting (setting_later setting a b one.budget one.looked right) (refuses_second setting.refused a.walk.state.left b.walk.state.left c.walk.state.left (refused_of result) one.turns refuses) first.0);
  turns = (let p = one.turns in let q = two.turns in omega (arith, p, q));
  budget = two.budget ∙ one.budget;
  frames = frames_then a.walk.state b.walk.state c.walk.state one.frames two.frames;
  looked = looked_then a.outside b.outside c.outside one.looked two.looked;
  counts = counted result a.outside b.outside c.outside one.counts two.counts;
  took = took_later (refused_of result) a.walk.state.left b.walk.state.left c.walk.state.left one.turns two.took;
  whole = two.whole;
  grown = grown_after result a b c one.grown two.grown;
}

-- ---- several directories in order

pub next_of : (dirs : List Text) (at : ℕ) (dir : Text) → at < length dirs → dir ≡ get_or dirs at dir → drop at dirs ≡ dir ∷ drop (at + 1) dirs
next_of dirs at dir inside is = drop_more dirs at dir inside ∙ ap (λ d. d ∷ drop (at + 1) dirs) (sym is)

pub visited_one : (whole : What) (dir : Text) (dirs : List Text) (a b c : Stand) → Leads whole (visits_all (dir ∷ dirs)) a b → Does (visits_dir dir) b c (Ok tt)
    → Leads whole (visits_all dirs) a c
visited_one whole dir dirs a b c = leads_more whole (visits_all (dir ∷ dirs)) (visits_all dirs) (λ setting w. visit setting dir w) a b c
    (λ setting e. same_by (visit_all setting (dir ∷ dirs) b.walk) (visit_all setting dirs c.walk) (ap (λ x. and_then x (λ next. visit_all setting dirs next)) e))

pub visit_stopped : (whole : What) (dir : Text) (dirs : List Text) (a b c : Stand) (e : LoadFault) → Leads whole (visits_all (dir ∷ dirs)) a b → Does (visits_dir dir) b c (Err e)
    → Does whole a c (Err e)
visit_stopped whole dir dirs a b c e one two =
    leads_end whole (visits_all (dir ∷ dirs)) a b c (Err e) one
    (stopped (λ setting w. visit setting dir w) (λ setting w. visit_all setting dirs w) b c e (λ setting natives w. all_add setting natives dirs w) two)

same_stays : (b : Stand) → Stays b b (Ok tt)
same_stays b = record { walk = refl; passed = refl; budget = refl; looked = looked_same b.outside; counts = refl; whole = tt; none = refl }

pub all_visited : (whole : What) (a b : Stand) → Leads whole (visits_all []) a b → Does whole a b (Ok tt)
all_visited whole a b one =
    leads_end whole (visits_all []) a b b (Ok tt) one (does_stay (visits_all []) b b (Ok tt) (same_stays b) (λ setting right line. (refl, line)))

-- ---- one directory

lacks_told : (dir : Text) (why : Refusal) (w : Walk) → is_visited dir w.visits ≡ false → unless_visited dir why w ≡ refused why w.state
lacks_told dir why w h = ap (λ b. if b then goes_on w else refused why w.state) h

has_told : (dir : Text) (why : Refusal) (w : Walk) → is_visited dir w.visits ≡ true → unless_visited dir why w ≡ goes_on w
has_told dir why w h = ap (λ b. if b then goes_on w else refused why w.state) h

abbrev needs : Text → Refusal → What
needs dir why = by (λ setting w. unless_visited dir why w)

has_dir : (dir : Text) (why : Refusal) (b : Stand) → is_visited dir b.walk.visits ≡ true → Does (needs dir why) b b (Ok tt)
has_dir dir why b h = does_stay (needs dir why) b b (Ok tt) (same_stays b) (λ setting right line. (has_told dir why b.walk h, line))

lacks_dir : (dir : Text) (why : Refusal) (b : Stand) (e : LoadFault) → is_visited dir b.walk.visits ≡ false → refusal_of e ≡ Some why → CountsFault e b.outside b.outside → IsOfWalk e → refused_by e ≡ None
    → Does (needs dir why) b b (Err e)
lacks_dir dir why b e h same counts whole none =
    does_stay (needs dir why) b b (Err e) (record { walk = refl; passed = refl; budget = refl; looked = looked_same b.outside; counts = counts; whole = whole; none = none })
    (λ setting right line. stops_with e why (needs dir why setting b.walk) b.walk.state same (lacks_told dir why b.walk h))

-- a directory is loaded, where the way to it was visited
pub dir_loaded : (dir : Text) (a b : Stand) → Does (visits_all (way_to dir)) a b (Ok tt) → is_visited dir b.walk.visits ≡ true → Does (loads_dir dir) a b (Ok tt)
dir_loaded dir a b way h =
    joined (λ setting w. visit_all setting (way_to dir) w) (λ setting w. unless_visited dir (no_jamfile dir) w) a b b (Ok tt) way (has_dir dir (no_jamfile dir) b h)

pub dir_refused : (dir : Text) (a b : Stand) → Does (visits_all (way_to dir)) a b (Ok tt) → is_visited dir b.walk.visits ≡ false → Does (loads_dir dir) a b (Err (faults.NoJamfile dir))
dir_refused dir a b way h =
    joined (λ setting w. visit_all setting (way_to dir) w) (λ setting w. unless_visited dir (no_jamfile dir) w) a b b (Err (faults.NoJamfile dir)) way
    (lacks_dir dir (no_jamfile dir) b (faults.NoJamfile dir) h refl refl (no_jamfile dir, refl) refl)

pub dir_stopped : (dir : Text) (a b : Stand) (e : LoadFault) → Does (visits_all (way_to dir)) a b (Err e) → Does (loads_dir dir) a b (Err e)
dir_stopped dir a b e way = stopped (λ setting w. visit_all setting (way_to dir) w) (λ setting w. unless_visited dir (no_jamfile dir) w) a b e
    (λ setting natives w. needed_adds setting natives dir (no_jamfile dir) w) way

-- no memory was left after a part
pub short_after : (first what : What) (a b : Stand) → Does first a b (Ok tt) → Does what a b (Err faults.OutOfMemory)
short_after first what a b h = no_memory what a b h.turns h.budget h.frames h.looked

-- Jamroot is
pub root_loaded : (a b : Stand) → Does (visits_dir here) a b (Ok tt) → is_visited here b.walk.visits ≡ true → Does loads_root a b (Ok tt)
root_loaded a b visit_ h =
    joined (λ setting w. visit setting here w) (λ setting w. unless_visited here no_jamroot w) a b b (Ok tt) visit_ (has_dir here no_jamroot b h)

pub root_lacks : (a b : Stand) → Does (visits_dir here) a b (Ok tt) → is_visited here b.walk.visits ≡ false → Does loads_root a b (Err faults.NoJamroot)
root_lacks a b visit_ h =
    joined (λ setting w. visit setting here w) (λ setting w. unless_visited here no_jamroot w) a b b (Err faults.NoJamroot) visit_
    (lacks_dir here no_jamroot b faults.NoJamroot h refl refl (no_jamroot, refl) refl)

pub root_stopped : (a b : Stand) (e : LoadFault) → Does (visits_dir here) a b (Err e) → Does loads_root a b (Err e)
root_stopped a b e visit_ = stopped (λ setting w. visit setting here w) (λ setting w. unless_visited here no_jamroot w) a b e
    (λ setting natives w. needed_adds setting natives here no_jamroot w) visit_

-- ---- directories as they are due

module _ (words : List Text) where
  -- a walk comes to where it comes from the directory that is due
  loaded_next : (setting : Setting Kept) (w : Walk) (dir : Text) (last : Course) → due words w ≡ Some dir → ComesTo setting words (goes_on w) last → ComesTo setting words (load_dir setting dir w) last
  loaded_next setting w dir _ is (is_whole _ none) = (let e : None ≡ Some dir = sym none ∙ is in cc)
  loaded_next setting w dir last is (leads_on _ next _ also h) = subst (λ d. ComesTo setting words (load_dir setting d w) last) (same_Some next dir (sym also ∙ is)) h

  pub loaded_one : (dir : Text) (a b c : Stand) → due words b.walk ≡ Some dir → Leads (walked words) (walked words) a b → Does (loads_dir dir) b c (Ok tt)
      → Leads (walked words) (walked words) a c
  loaded_one dir a b c is = leads_more (walked words) (walked words) (walked words) (λ setting w. load_dir setting dir w) a b c
      (λ setting e. (
        λ course h. leads_on b.walk dir course is (subst (λ x. ComesTo setting words x course) (sym e) h),
        λ course h. subst (λ x. ComesTo setting words x course) e (loaded_next setting b.walk dir course is h),
      ))

  load_refused : (dir : Text) (b : Stand) → due words b.walk ≡ Some dir → (setting : Setting Kept) (why : Option Refusal) (s : State Kept)
      → IsRefusedBy why (by (λ setting w. load_dir setting dir w) setting b.walk) s → IsRefusedBy why (walked words setting b.walk) s
  load_refused dir b is setting None s h = tt
  load_refused dir b is setting (Some why) s h = leads_on b.walk dir (refused why s) is (subst (λ x. ComesTo setting words x (refused why s)) (sym h) (is_refused why s))

  load_stops : (dir : Text) (b : Stand) → due words b.walk ≡ Some dir → (setting : Setting Kept) → setting.natives ≡ jam_meaning → (e : LoadFault) (s : State Kept)
      → StopsBy e (by (λ setting w. load_dir setting dir w) setting b.walk) s → StopsBy e (walked words setting b.walk) s
  load_stops dir b is setting natives faults.Host s h = λ course c.
      lines_then s (state_in (load_dir setting dir b.walk)) (state_in course) (h (load_dir setting dir b.walk) refl)
      (course_adds setting natives words (load_dir setting dir b.walk) course (loaded_next setting b.walk dir course is c))
  load_stops dir b is setting natives e s h = load_refused dir b is setting (refusal_of e) s h

  pub load_stopped : (dir : Text) (a b c : Stand) (e : LoadFault) → due words b.walk ≡ Some dir → Leads (walked words) (walked words) a b → Does (loads_dir dir) b c (Err e)
      → Does (walked words) a c (Err e)
  load_stopped dir a b c e is one two = leads_end (walked words) (walked words) a b c (Err e) one record {
    told = λ setting right refuses line. load_stops dir b is setting right.natives e c.walk.state (two.told setting right refuses line);
    turns = two.turns;
    budget = two.budget;
    frames = two.frames;
    looked = two.looked;
    counts = two.counts;
    took = two.took;
    whole = two.whole;
    grown = tt;
  }

  pub none_is_due : (a b : Stand) → due words b.walk ≡ None → Leads (walked words) (walked words) a b → Does (walked words) a b (Ok tt)
  none_is_due a b is one =
      leads_end (walked words) (walked words) a b b (Ok tt) one (does_stay (walked words) b b (Ok tt) (same_stays b) (λ setting right line. (is_whole b.walk is, line)))

-- what was passed of a walk that has grown
pub passed_later : (a b : Stand) (passed : ℕ) (dirs : List Text) → Grows a b → ArePassed a.walk.visits passed dirs → ArePassed b.walk.visits passed dirs
passed_later a b passed dirs grown h = record {
  visited = subst (λ vs. first_new vs (take passed dirs) ≡ None) (sym grown.visits) (none_later a.walk.visits grown.more (take passed dirs) h.visited);
  short = h.short;
}

pub more_visited : (dir : Text) (a b : Stand) → Grows a b → is_visited dir a.walk.visits ≡ false → is_visited dir b.walk.visits ≡ true → length a.walk.visits < length b.walk.visits
more_visited dir a b grown new old = longer a.walk.visits grown.more b.walk.visits dir grown.visits new old

-- a stand in which no more is known than which directories were passed
pub stand_passed : (old new : WalkState) (turns : Turns) (outside : Outside) → ((left : ℕ) → walk_of new left ≡ walk_of old left) → record (stand old turns outside) { passed = new.named.passed } ≡ stand new turns outside
stand_passed old new turns outside h = ap (λ (w : Walk). record { walk = w; passed = new.named.passed; budget = turns.budget; outside = outside }) (sym (h turns.left))

pub leads_on_from : (words : List Text) (a : Stand) (old new : WalkState) (turns : Turns) (outside : Outside) → ((left : ℕ) → walk_of new left ≡ walk_of old left)
    → ArePassed new.visits new.named.passed new.named.dirs.items → Leads (walked words) (walked words) a (stand old turns outside) → Leads (walked words) (walked words) a (stand new turns outside)
leads_on_from words a old new turns outside same known h =
    subst (Leads (walked words) (walked words) a) (stand_passed old new turns outside same)
    (leads_passed (walked words) (walked words) a (stand old turns outside) new.named.passed
    (subst (λ (w : Walk). ArePassed w.visits new.named.passed w.named) (same turns.left) known) h)

-- the directory that is due, where those of the words are known
pub due_told : (words : List Text) (old new : WalkState) (left : ℕ) (last : List Text) (found : Option Text) → ((n : ℕ) → walk_of new n ≡ walk_of old n) → last ≡ directories here words
    → found ≡ first_new old.visits (old.named.dirs.items ++ last) → due words (walk_of new left) ≡ found
due_told words old new left last found same dirs is =
    ap (due words) (same left) ∙ ap (λ (ds : List Text). first_new old.visits (old.named.dirs.items ++ ds)) (sym dirs) ∙ sym is

-- no memory was left on the way
pub short_on_the_way : (what : What) (a b : Stand) → Leads what what a b → Does what a b (Err faults.OutOfMemory)
short_on_the_way what a b h = no_memory what a b h.turns h.budget h.frames h.looked

-- ---- Jamroot, and then the rest of the walk

pub root_walked : (words : List Text) (setting : Setting Kept) (a b : Walk) → load_root setting a ≡ goes_on b → ComeToSame (walked words setting b) (walked_all words setting a)
root_walked words setting a b e = (λ course h. subst (λ c. ComesTo setting words c course) (sym e) h, λ course h. subst (λ c. ComesTo setting words c course) e h)

root_refused_by : (words : List Text) (setting : Setting Kept) (a : Walk) (why : Option Refusal) (s : State Kept) → IsRefusedBy why (loads_root setting a) s → IsRefusedBy why (walked_all words setting a) s
root_refused_by words setting a None s h = tt
root_refused_by words setting a (Some why) s h = subst (λ c. ComesTo setting words c (refused why s)) (sym h) (is_refused why s)

root_stops : (words : List Text) (setting : Setting Kept) → setting.natives ≡ jam_meaning → (a : Walk) (e : LoadFault) (s : State Kept) → StopsBy e (loads_root setting a) s → StopsBy e (walked_all words setting a) s
root_stops words setting natives a faults.Host s h =
    λ course c. lines_then s (state_in (load_root setting a)) (state_in course) (h (load_root setting a) refl) (course_adds setting natives words (load_root setting a) course c)
root_stops words setting natives a e s h = root_refused_by words setting a (refusal_of e) s h

pub root_refused : (words : List Text) (a b : Stand) (e : LoadFault) → Does loads_root a b (Err e) → Does (walked_all words) a b (Err e)
root_refused words a b e h = record {
  told = λ setting right refuses line. root_stops words setting right.natives a.walk e b.walk.state (h.told setting right refuses line);
  turns = h.turns;
  budget = h.budget;
  frames = h.frames;
  looked = h.looked;
  counts = h.counts;
  took = h.took;
  whole = h.whole;
  grown = tt;
}

pub root_then : (words : List Text) (a b c : Stand) (result : Result (Unit {0}) LoadFault) → Does loads_root a b (Ok tt) → Does (walked words) b c result → Does (walked_all words) a c result
root_then words a b c result = followed loads_root (walked words) (walked_all words) a b c result (λ setting e. root_walked words setting a.walk b.walk e)

-- all was visited, where none is due
pub all_walked : (words : List Text) (a b c : Stand) (result : Result (Unit {0}) LoadFault) → AreVisited a.walk.visits a.walk.calls a.walk.named → Does loads_root a b (Ok tt) → is_visited here b.walk.visits ≡ true
    → Does (walked words) b c result → OnOk result (first_new c.walk.visits (c.walk.named ++ directories here words) ≡ None) → OnOk result (AreAllVisited words c.walk.visits c.walk.calls)
all_walked words a b c (Ok u) begun one root two none = record {
  named = c.walk.named;
  visited = two.grown.visited (one.grown.visited begun);
  jamroot = subst (λ (vs : List Visit). is_visited here vs ≡ true) (sym two.grown.visits) (visited_later b.walk.visits two.grown.more here root);
  whole = none;
}
all_walked words a b c (Err e) begun one root two none = tt
