-- What is known of what a step reads stays so as facts grow, as more steps settle, and as more members come in.
use Rattle.std.proofs.Common.{◌≡◌, ◌≢◌, inl, inr, ℕ, List, [], ◌++◌, Some, slice_get, refl, sym, subst, ◌∙◌, arith, append-nil}
use Rattle.std.specs.List.{Contains, AllPairs}
use Rattle.std.proofs.lemmas.Option.{slice_get_within}
use Rattle.std.proofs.lemmas.List.{length-append}
use Rattle.std.proofs.lemmas.List.Elements.{Contains-append_left, Contains-append_cases}
use Rattle.b2_plan.specs.declared.step.Step.{Step}
use Rattle.b2_facts.specs.declared.file_facts.FileFacts.{FileFacts}
use Rattle.b2_facts.specs.Facts.{Knowledge, IsNumber, IsList, IsAbout, path_at, file_at, dirs_at}
use Rattle.b2_sched.specs.Schedules.{IsSettled}
use Rattle.b2_facts.specs.Growth.{FileGrows, OfNone}
use Rattle.b2_facts.specs.Growth as facts
use Rattle.b2_facts.specs.Asks.{IsGivenBy, IsGivenBy.made, IsGivenBy.source, IsNotGivenBy}
use Rattle.b2_facts.proofs.ListsAtPlaces.{some_is, get_some, get_front, among_at}
use Rattle.b2_facts.proofs.FactsGrow.{seen_known, gone_known}
use Rattle.b2_reach.specs.declared.reach.Reach.{Reach}
use Rattle.b2_reach.specs.Files.{IsOwedBy, IsAtHand, IsAtHand.source as hand_source, IsAtHand.made as hand_made}
use Rattle.b2_reach.specs.Reaches.{IsTarget, Reaches, Reaches.first, Reaches.include, IsNumberOf, IsDone, IsDone.plain, IsDone.no_file, IsDone.gone, IsDone.found, IsToWait, IsTaken, IsTaken.waits, IsTaken.lacks, IsTaken.done, IsInOrder, IsOfStep, IsReachOf, Gathers}
use Rattle.b2_reach.specs.Laws.{ReachStays, OpenedStays}

-- ---- one file

pub owed_grows : (steps : List Step) (file later : FileFacts) (number : ℕ) → FileGrows file later → IsOwedBy steps file number → IsOwedBy steps later number
owed_grows steps file later number grows owed = record { made = grows.maker ∙ owed.made; step = owed.step; at = owed.at; owes = owed.owes }

pub at_hand_grows : (steps : List Step) (settled more : ℕ → Type 0) (file later : FileFacts) → ((number : ℕ) → settled number → more number) → FileGrows file later → IsAtHand steps settled file → IsAtHand steps more later
at_hand_grows steps settled more file later so grows (hand_source stamp unmade outside stands) = hand_source stamp (grows.maker ∙ unmade) (grows.rooted ∙ outside) (seen_known file.seen later.seen stamp stands grows.seen)
at_hand_grows steps settled more file later so grows (hand_made number owed is) = hand_made number (owed_grows steps file later number grows owed) (so number is)

pub given_grows : (file later : FileFacts) → FileGrows file later → IsGivenBy file → IsGivenBy later
given_grows file later grows (made number is) = made number (grows.maker ∙ is)
given_grows file later grows (source stamp outside stands) = source stamp (grows.rooted ∙ outside) (seen_known file.seen later.seen stamp stands grows.seen)

pub not_given_grows : (file later : FileFacts) → FileGrows file later → IsNotGivenBy file → IsNotGivenBy later
not_given_grows file later grows none = record {
  unmade = grows.maker ∙ none.unmade;
  no_source = elim none.no_source [ inl rooted ↦ inl (grows.rooted ∙ rooted) | inr away ↦ inr (gone_known file.seen later.seen away grows.seen) ];
}

pub to_wait_grows : (steps : List Step) (file later : FileFacts) → FileGrows file later → IsToWait steps file → IsToWait steps later
to_wait_grows steps file later grows w = record { scanned = grows.scanned ∙ w.scanned; number = w.number; owed = owed_grows steps file later w.number grows w.owed }

pub done_grows : (steps : List Step) (settled more : ℕ → Type 0) (f g : Knowledge) (list : ℕ) (members most : List ℕ) (n : ℕ) (file later : FileFacts) → ((number : ℕ) → settled number → more number) → facts.Grows f g → ((m : ℕ) → Contains members m → Contains most m) → FileGrows file later
    → IsDone steps settled f list members n file → IsDone steps more g list most n later
done_grows steps settled more f g list members most n file later so grown wider grows (plain given unscanned) = plain (given_grows file later grows given) (grows.scanned ∙ unscanned)
done_grows steps settled more f g list members most n file later so grown wider grows (no_file none) = no_file (record { number = none.number; made = grows.maker ∙ none.made; step = none.step; at = none.at; notfile = none.notfile })
done_grows steps settled more f g list members most n file later so grown wider grows (gone hand is) = gone (at_hand_grows steps settled more file later so grows hand) (gone_known file.seen later.seen is grows.seen)
done_grows steps settled more f g list members most n file later so grown wider grows (found targets hand at within) = found targets (at_hand_grows steps settled more file later so grows hand) (grown.found list n targets at) (λ m among. wider m (within m among))

-- ---- what is reached

pub target_grows : (f g : Knowledge) (list n m : ℕ) → facts.Grows f g → IsTarget f list n m → IsTarget g list n m
target_grows f g list n m grown t = record { targets = t.targets; found = grown.found list n t.targets t.found; among = t.among }

pub reaches_grows : (steps : List Step) (settled more : ℕ → Type 0) (f g : Knowledge) (list : ℕ) (First Other : ℕ → Type 0) → ((number : ℕ) → settled number → more number) → facts.Grows f g → ((n : ℕ) → First n → Other n)
    → (n : ℕ) → Reaches steps settled f list First n → Reaches steps more g list Other n
reaches_grows steps settled more f g list First Other so grown wider m (first n is) = first n (wider n is)
reaches_grows steps settled more f g list First Other so grown wider j (include n m file from at hand target) =
    let later = grown.files n file at in
    include n m later.0 (reaches_grows steps settled more f g list First Other so grown wider n from) later.1 (at_hand_grows steps settled more file later.0 so later.2 hand) (target_grows f g list n m grown target)

-- what is reached from what is reached is reached
pub reaches_then : (steps : List Step) (settled : ℕ → Type 0) (f : Knowledge) (list : ℕ) (First Other : ℕ → Type 0) → ((n : ℕ) → Other n → Reaches steps settled f list First n)
    → (n : ℕ) → Reaches steps settled f list Other n → Reaches steps settled f list First n
reaches_then steps settled f list First Other from m (first n is) = from n is
reaches_then steps settled f list First Other from j (include n m file reached at hand target) = include n m file (reaches_then steps settled f list First Other from n reached) at hand target

pub number_of_grows : (f g : Knowledge) (paths : List (List ℕ)) (n : ℕ) → facts.Grows f g → IsNumberOf f paths n → IsNumberOf g paths n
number_of_grows f g paths n grown is = record { path = is.path; path_is = grown.paths n is.path is.path_is; among = is.among }

-- ---- numbers

-- a number stays one
pub number_grows : (f g : Knowledge) (n : ℕ) → facts.Grows f g → IsNumber f n → IsNumber g n
number_grows f g n grown is =
    let path = get_some f.paths n is.0 in
    let file = get_some f.files n is.1 in
    let later = grown.files n file.0 file.1 in
    (slice_get_within g.paths n path.0 (grown.paths n path.0 path.1), slice_get_within g.files n later.0 later.1)

pub list_grows : (f g : Knowledge) (list : ℕ) → facts.Grows f g → IsList f list → IsList g list
list_grows f g list grown is = let at = get_some f.lists list is in slice_get_within g.lists list at.0 (grown.dirs list at.0 at.1)

-- each number has a file
pub has_file : (steps : List Step) (roots : List (List ℕ)) (f : Knowledge) (n : ℕ) → IsAbout steps roots f → IsNumber f n → (file : FileFacts) × (file_at f n ≡ Some file)
has_file steps roots f n about is = get_some f.files n is.1

pub has_path : (steps : List Step) (roots : List (List ℕ)) (f : Knowledge) (n : ℕ) (file : FileFacts) → IsAbout steps roots f → file_at f n ≡ Some file → (path : List ℕ) × (path_at f n ≡ Some path)
has_path steps roots f n file about at = let sizes = about.sizes in let within = slice_get_within f.files n file at in get_some f.paths n (omega (arith, within, sizes))

-- what was known of a file of which something is known later
pub was_file : (f g : Knowledge) (n : ℕ) (file later : FileFacts) → facts.Grows f g → file_at f n ≡ Some file → file_at g n ≡ Some later → FileGrows file later
was_file f g n file later grown before after =
    let known = grown.files n file before in
    subst (FileGrows file) (some_is known.0 later (sym known.1 ∙ after)) known.2

-- ---- the work

-- the work with more members at the end
abbrev with_members : Reach → List ℕ → Reach
with_members r members = record r { members = members }

pub taken_grows : (steps : List Step) (settled more : ℕ → Type 0) (f g : Knowledge) (r : Reach) (added : List ℕ) (n : ℕ) (file later : FileFacts) → ((number : ℕ) → settled number → more number) → facts.Grows f g → FileGrows file later
    → IsTaken steps settled f r n file → IsTaken steps more g (with_members r (r.members ++ added)) n later
taken_grows steps settled more f g r added n file later so grown grows (waits among) = waits among
taken_grows steps settled more f g r added n file later so grown grows (lacks told none) = lacks told (not_given_grows file later grows none)
taken_grows steps settled more f g r added n file later so grown grows (done is) = done (done_grows steps settled more f g r.list r.members (r.members ++ added) n file later so grown (λ m among. Contains-append_left r.members added m among) grows is)

pub in_order_grows : (steps : List Step) (roots : List (List ℕ)) (settled more : ℕ → Type 0) (f g : Knowledge) (r : Reach) (added : List ℕ) → IsAbout steps roots f → ((number : ℕ) → settled number → more number) → facts.Grows f g
    → ((n : ℕ) → Contains added n → IsNumber g n) → AllPairs (λ n m. n ≢ m) (r.members ++ added) → IsInOrder steps settled f r → IsInOrder steps more g (with_members r (r.members ++ added))
in_order_grows steps roots settled more f g r added about so grown numbers once order = record {
  listed = list_grows f g r.list grown order.listed;
  numbered = λ n among. elim (Contains-append_cases r.members added n among) [ inl before ↦ number_grows f g n grown (order.numbered n before) | inr new ↦ numbers n new ];
  once = once;
  within = (let w = order.within in let l = length-append r.members added in omega (arith, w, l));
  taken = λ place n later low at known.
      (let w = order.within in
      let before : slice_get r.members place ≡ Some n = sym (get_front r.members added place (omega (arith, low, w))) ∙ at in
      let was = has_file steps roots f n about (order.numbered n (among_at r.members place n before)) in
      taken_grows steps settled more f g r added n was.0 later so grown (was_file f g n was.0 later grown was.1 known) (order.taken place n was.0 low before was.1));
  pending = λ n among. Contains-append_left r.members added n (order.pending n among);
  waiting = λ n later among known.
      (let was = has_file steps roots f n about (order.numbered n (order.pending n among)) in
      to_wait_grows steps was.0 later (was_file f g n was.0 later grown was.1 known) (order.waiting n was.0 among was.1));
  lacks = λ told.
      (let (n, missing) = order.lacks told in
      let later = grown.files n missing.file missing.file_is in
      (n, record { among = Contains-append_left r.members added n missing.among; file = later.0; file_is = later.1; missing = not_given_grows missing.file later.0 later.2 missing.missing }));
}

pub of_step_grows : (steps : List Step) (settled more : ℕ → Type 0) (step : Step) (f g : Knowledge) (r q : Reach) → ((number : ℕ) → settled number → more number) → facts.Grows f g → Gathers steps more g r q → IsOfStep steps settled step f r → IsOfStep steps more step g q
of_step_grows steps settled more step f g r q so grown gathers is = record {
  dirs = subst (λ list. dirs_at g list ≡ Some step.dirs) (sym gathers.list) (grown.dirs r.list step.dirs is.dirs);
  ins = λ path among.
      (let (n, member, at) = is.ins path among in
      (n, subst (λ l. Contains l n) (sym gathers.members) (Contains-append_left r.members gathers.added n member), grown.paths n path at));
  each = λ n among. subst (λ list. Reaches steps more g list (IsNumberOf g step.ins) n) (sym gathers.list) (elim (Contains-append_cases r.members gathers.added n (subst (λ l. Contains l n) gathers.members among)) [
    | inl before ↦ old n before
    | inr new ↦ reaches_then steps more g r.list (IsNumberOf g step.ins) (Contains r.members) old n (gathers.each n new)
  ]);
}
  where
    old : (n : ℕ) → Contains r.members n → Reaches steps more g r.list (IsNumberOf g step.ins) n
    old n among = reaches_grows steps settled more f g r.list (IsNumberOf f step.ins) (IsNumberOf g step.ins) so grown (λ m at. number_of_grows f g step.ins m grown at) n (is.each n among)

-- nothing more comes in
pub gathers_none : (steps : List Step) (settled : ℕ → Type 0) (f : Knowledge) (r : Reach) → Gathers steps settled f r r
gathers_none steps settled f r = record { list = refl; added = []; members = sym (append-nil r.members); each = λ n among. absurd (omega (arith, among.1)) }

-- it stays so as facts grow and more steps settle
pub reach_grows : (steps : List Step) (roots : List (List ℕ)) (settled more : ℕ → Type 0) (step : Step) (f g : Knowledge) (r : Reach) → IsAbout steps roots f → facts.Grows f g → ((number : ℕ) → settled number → more number) → IsReachOf steps settled step f r → IsReachOf steps more step g r
reach_grows steps roots settled more step f g r about grown so is =
    let same : r.members ++ [] ≡ r.members = append-nil r.members in
    record {
      in_order = subst (λ l. IsInOrder steps more g (with_members r l)) same (in_order_grows steps roots settled more f g r [] about so grown (λ n among. absurd (omega (arith, among.1))) (subst (AllPairs (λ n m. n ≢ m)) (sym same) is.in_order.once) is.in_order);
      of_step = of_step_grows steps settled more step f g r r so grown (gathers_none steps more g r) is.of_step;
    }

pub reach_stays : ReachStays
reach_stays steps roots s t step f g r about grown so is = reach_grows steps roots (IsSettled s) (IsSettled t) step f g r about grown so is

pub opened_stays : OpenedStays
opened_stays steps roots s step f g r about grown is = reach_grows steps roots OfNone (IsSettled s) step f g r about grown (λ number none. absurd none) is
