-- What an update starts before the first step is done: the steps whose causes call for it, in order.
use Rattle.std.proofs.Common.{◌≡◌, inl, inr, ℕ, zero, suc, ◌+◌, ◌<◌, ◌≤◌, Bool, true, false, cond, List, [], ◌∷◌, ◌++◌, length, get_or, take, take_all, append_assoc, map, slice_get, Some, count_by, refl, sym, ap, subst, ◌∙◌, arith}
use Rattle.std.specs.List.{Contains, AllPairs, AllByRecursion, filter}
use Rattle.std.proofs.lemmas.Bool.{cases_lt}
use Rattle.std.proofs.lemmas.List.{map-append}
use Rattle.std.proofs.lemmas.Option.{slice_get_within, get_or_from_slice_get}
use Rattle.b2_host.specs.declared.children.ChildEvent.{ChildEvent}
use Rattle.b2_host.specs.declared.children.ChildEvent.TheVariants.{Start, Done}
use Rattle.b2_plan.specs.declared.step.Step.{Step}
use Rattle.b2_plan.specs.Plans.{Apart}
use Rattle.b2_plan.specs.Closures.{Value, IsClosure}
use Rattle.b2_runs.specs.Staleness.{Update}
use Rattle.b2_runs.specs.Events.{is_start, is_done}
use Rattle.b2_runs.specs.Runs.{Settled, Settled.source as settled_source, Settled.done_well as settled_done, Settled.fresh as settled_fresh, on_settled, CanStart, MayCome, RunFrom, IsRunSoFar, IsRun}
use Rattle.b2_runs.proofs.FirstElementOrLater.{Contains_here, Contains_there, Contains_cases, Contains_nil, AllPairs_head, AllPairs_tail}
use Rattle.b2_runs.proofs.CleanIsOne.{clean_is_one}
use Rattle.b2_runs.proofs.ClosureStays.{closure_stays}
use Rattle.b2_runs.proofs.OneEventMore.{done_in_start, count_first}
use Rattle.b2_runs.proofs.SettledStays.{fresh_events, settled_after_start, needed_up}
use Rattle.b2_runs.proofs.LogStaysTrue.{last_may, but_last}
use Rattle.b2_facts.proofs.ListsAtPlaces.{some_is, none_some, get_some, at_place, among_at, take_more, all_at}
use Rattle.b2_explain.specs.declared.cause.Why.{Why}
use Rattle.b2_explain.specs.Whys.{HasProperRecords, IsExplained, step_in}
use Rattle.b2_explain.specs.Laws.{calls_in, called, starts, FirstStarts}
use Rattle.b2_explain.proofs.CauseTellsStart.{cause_tells_start}
use Rattle.b2_explain.proofs.SortedPaths.{pairs_more}

-- ---- lists

-- what is among the elements with a test is among all, and has the test
among_filter : {X : Type 0} (p : X → Bool) (xs : List X) (x : X) → Contains (filter p xs) x → Contains xs x × (p x ≡ true)
among_filter p [] x among = absurd (Contains_nil x among)
among_filter {X = X} p (y ∷ xs) x among = go (p y) refl (among_filter p xs x)
  where
    go : (b : Bool) → p y ≡ b → (Contains (filter p xs) x → Contains xs x × (p x ≡ true)) → Contains (y ∷ xs) x × (p x ≡ true)
    go true e rest = elim (Contains_cases y x (filter p xs) (subst (λ (l : List X). Contains l x) (ap (λ b. cond b (y ∷ filter p xs) (filter p xs)) e) among)) [
      | inl same ↦ (subst (Contains (y ∷ xs)) same (Contains_here y xs), subst (λ z. p z ≡ true) same e)
      | inr later ↦ (let (inside, has) = rest later in (Contains_there y x xs inside, has))
    ]
    go false e rest =
        let (inside, has) = rest (subst (λ (l : List X). Contains l x) (ap (λ b. cond b (y ∷ filter p xs) (filter p xs)) e) among) in
        (Contains_there y x xs inside, has)

filter_has : {X : Type 0} (p : X → Bool) (xs : List X) (x : X) → Contains xs x → p x ≡ true → Contains (filter p xs) x
filter_has p [] x among has = absurd (Contains_nil x among)
filter_has {X = X} p (y ∷ xs) x among has = elim (Contains_cases y x xs among) [
  | inl same ↦ subst (λ (l : List X). Contains l x) (sym (ap (λ b. cond b (y ∷ filter p xs) (filter p xs)) (ap p same ∙ has))) (subst (Contains (y ∷ filter p xs)) same (Contains_here y (filter p xs)))
  | inr later ↦ go (p y) refl (filter_has p xs x later has)
]
  where
    go : (b : Bool) → p y ≡ b → Contains (filter p xs) x → Contains (filter p (y ∷ xs)) x
    go true e inside = subst (λ (l : List X). Contains l x) (sym (ap (λ b. cond b (y ∷ filter p xs) (filter p xs)) e)) (Contains_there y x (filter p xs) inside)
    go false e inside = subst (λ (l : List X). Contains l x) (sym (ap (λ b. cond b (y ∷ filter p xs) (filter p xs)) e)) inside

map_among : {X Y : Type 0} (g : X → Y) (xs : List X) (z : Y) → Contains (map g xs) z → (x : X) × Contains xs x × (g x ≡ z)
map_among g [] z among = absurd (Contains_nil z among)
map_among g (v ∷ xs) z among = elim (Contains_cases (g v) z (map g xs) among) [
  | inl e ↦ (v, Contains_here v xs, e)
  | inr later ↦ (let (x, inside, e) = map_among g xs z later in (x, Contains_there v x xs inside, e))
]

map_has : {X Y : Type 0} (g : X → Y) (xs : List X) (x : X) → Contains xs x → Contains (map g xs) (g x)
map_has g [] x among = absurd (Contains_nil x among)
map_has g (v ∷ xs) x among = elim (Contains_cases v x xs among) [
  | inl e ↦ subst (λ z. Contains (map g (v ∷ xs)) (g z)) e (Contains_here (g v) (map g xs))
  | inr later ↦ Contains_there (g v) (g x) (map g xs) (map_has g xs x later)
]

-- numbers in order
abbrev Rises : ℕ → ℕ → Type 0
Rises i k = i < k

-- what is left of a list in order is in order
filter_rises : {X : Type 0} (g : X → ℕ) (p : X → Bool) (xs : List X) → AllPairs Rises (map g xs) → AllPairs Rises (map g (filter p xs))
filter_rises g p [] rising = rising
filter_rises {X = X} g p (y ∷ xs) rising = go (p y) refl (filter_rises g p xs (AllPairs_tail Rises (g y) (map g xs) rising))
  where
    go : (b : Bool) → p y ≡ b → AllPairs Rises (map g (filter p xs)) → AllPairs Rises (map g (filter p (y ∷ xs)))
    go true e rest = subst (λ (l : List X). AllPairs Rises (map g l)) (sym (ap (λ b. cond b (y ∷ filter p xs) (filter p xs)) e))
        (pairs_more Rises (g y) (map g (filter p xs)) (λ z among. (
        let (x, inside, is) = map_among g (filter p xs) z among in
        AllPairs_head Rises (g y) z (map g xs) rising (subst (Contains (map g xs)) is (map_has g xs x (among_filter p xs x inside).0)))) rest)
    go false e rest = subst (λ (l : List X). AllPairs Rises (map g l)) (sym (ap (λ b. cond b (y ∷ filter p xs) (filter p xs)) e)) rest

-- in a list in order a place before another has a smaller number
rises_at : (xs : List ℕ) (i j a b : ℕ) → AllPairs Rises xs → i < j → slice_get xs i ≡ Some a → slice_get xs j ≡ Some b → a < b
rises_at xs i j a b rising low at_i at_j =
    subst (λ n. n < b) (get_or_from_slice_get xs i a a at_i) (subst (λ n. get_or xs i a < n) (get_or_from_slice_get xs j b a at_j) (rising i j a low (slice_get_within xs j b at_j)))

-- what stands among the first ones stands at a place there
in_front : (xs : List ℕ) (n i : ℕ) → Contains (take n xs) i → (k : ℕ) × (k < n) × (slice_get xs k ≡ Some i)
in_front [] zero i among = absurd (Contains_nil i among)
in_front [] (suc n) i among = absurd (Contains_nil i among)
in_front (x ∷ xs) zero i among = absurd (Contains_nil i among)
in_front (x ∷ xs) (suc n) i among = elim (Contains_cases x i (take n xs) among) [
  | inl e ↦ (zero, omega arith, ap Some e)
  | inr later ↦ (let (k, low, at) = in_front xs n i later in (suc k, omega (arith, low), at))
]

front_has : (xs : List ℕ) (n k i : ℕ) → k < n → slice_get xs k ≡ Some i → Contains (take n xs) i
front_has [] n k i low at = absurd (none_some i at)
front_has (x ∷ xs) zero k i low at = absurd (omega (arith, low))
front_has (x ∷ xs) (suc n) zero i low at = subst (Contains (x ∷ take n xs)) (some_is x i at) (Contains_here x (take n xs))
front_has (x ∷ xs) (suc n) (suc k) i low at = Contains_there x i (take n xs) (front_has xs n k i (omega (arith, low)) at)

-- ---- starts

no_done : (xs : List ℕ) (k : ℕ) (well : Bool) → Contains (starts xs) (Done k well) → ⊥
no_done [] k well among = Contains_nil (Done k well) among
no_done (x ∷ xs) k well among = elim (Contains_cases (Start x) (Done k well) (starts xs) among) [
  | inl e ↦ (let f : Start x ≡ Done k well = e in cc)
  | inr later ↦ no_done xs k well later
]

start_has : (xs : List ℕ) (i : ℕ) → Contains xs i → Contains (starts xs) (Start i)
start_has xs i among = map_has Start xs i among

start_among : (xs : List ℕ) (i : ℕ) → Contains (starts xs) (Start i) → Contains xs i
start_among xs i among =
    let (k, inside, e) = map_among Start xs (Start i) among in
    subst (Contains xs) (let f : Start k ≡ Start i = e in cc) inside

count_starts : (xs : List ℕ) → count_by is_start (starts xs) ≡ length xs
count_starts [] = refl
count_starts (x ∷ xs) = let rest = count_starts xs in let one = count_first is_start (starts xs) (Start x) in omega (arith, rest, one)

count_ends : (xs : List ℕ) → count_by is_done (starts xs) ≡ 0
count_ends [] = refl
count_ends (x ∷ xs) = let rest = count_ends xs in let one = count_first is_done (starts xs) (Start x) in omega (arith, rest, one)

length_starts : (xs : List ℕ) → length (starts xs) ≡ length xs
length_starts [] = refl
length_starts (x ∷ xs) = ap suc (length_starts xs)

length_front : (xs : List ℕ) (n : ℕ) → n ≤ length xs → length (take n xs) ≡ n
length_front xs zero low = refl
length_front [] (suc n) low = absurd (omega (arith, low))
length_front (x ∷ xs) (suc n) low = ap suc (length_front xs n (omega (arith, low)))

-- ---- an update at entry

module _ (u : Update) (whys : List Why) (apart : Apart u.build.steps u.build.roots) (proper : HasProperRecords u) (way : u.by_digest ≡ false) (jobs : u.jobs ≡ 64) (explained : IsExplained u whys) where
  abbrev calling : List ℕ
  calling = called whys

  -- the steps whose causes call for a start are those that can start
  can_of : (i : ℕ) → Contains calling i → CanStart u [] i
  can_of i among =
      let (why, inside, e) = map_among step_in (filter calls_in whys) i among in
      let (listed, has) = among_filter calls_in whys why inside in
      subst (CanStart u []) e ((cause_tells_start u why apart proper way (let j = jobs in omega (arith, j)) (explained.each why listed)).0 has)

  of_can : (i : ℕ) → CanStart u [] i → Contains calling i
  of_can i can =
      let (why, listed, e) = map_among step_in whys i (explained.steps.whole i can.needed) in
      let has = (cause_tells_start u why apart proper way (let j = jobs in omega (arith, j)) (explained.each why listed)).1 (subst (CanStart u []) (sym e) can) in
      subst (Contains calling) e (map_has step_in (filter calls_in whys) why (filter_has calls_in whys why listed has))

  rising : AllPairs Rises calling
  rising = filter_rises step_in calls_in whys explained.steps.rising

  -- what is settled after these starts is settled at entry, and the other way round
  record AreStill (before : List ChildEvent) : Type 0 where
    no_end : (k : ℕ) (well : Bool) → Contains before (Done k well) → ⊥
    forth : (path : List ℕ) → Settled u before path → Settled u [] path
    back : (path : List ℕ) → Settled u [] path → Settled u before path

  still_nil : AreStill []
  still_nil = record { no_end = λ k well among. Contains_nil (Done k well) among; forth = λ path s. s; back = λ path s. s }

  less_settled : (before : List ChildEvent) (i : ℕ) (path : List ℕ) → Settled u (before ++ Start i ∷ []) path → Settled u before path
  less_settled before i path (settled_source p bytes is) = settled_source p bytes is
  less_settled before i path (settled_done k step p makes among) = settled_done k step p makes (done_in_start before i k true among)
  less_settled before i path (settled_fresh k step p members makes none closure inside is) =
      settled_fresh k step p members makes (λ among. none (start_stays before among)) closure (λ m x c. less_settled before i m (inside m x c))
      (fresh_events u (before ++ Start i ∷ []) before step members (λ off m x j other well c by among. off m x j other well c by (done_stays before among)) is)
    where
      start_stays : (events : List ChildEvent) → Contains events (Start k) → Contains (events ++ Start i ∷ []) (Start k)
      start_stays [] among = absurd (Contains_nil (Start k) among)
      start_stays (event ∷ events) among = elim (Contains_cases event (Start k) events among) [
        | inl e ↦ subst (Contains (event ∷ (events ++ Start i ∷ []))) e (Contains_here event (events ++ Start i ∷ []))
        | inr later ↦ Contains_there event (Start k) (events ++ Start i ∷ []) (start_stays events later)
      ]

      done_stays : {j : ℕ} {well : Bool} (events : List ChildEvent) → Contains events (Done j well) → Contains (events ++ Start i ∷ []) (Done j well)
      done_stays {j = j} {well = well} [] among = absurd (Contains_nil (Done j well) among)
      done_stays {j = j} {well = well} (event ∷ events) among = elim (Contains_cases event (Done j well) events among) [
        | inl e ↦ subst (Contains (event ∷ (events ++ Start i ∷ []))) e (Contains_here event (events ++ Start i ∷ []))
        | inr later ↦ Contains_there event (Done j well) (events ++ Start i ∷ []) (done_stays events later)
      ]

  still_more : (before : List ChildEvent) (i : ℕ) → AreStill before → CanStart u before i → AreStill (before ++ Start i ∷ [])
  still_more before i still can = record {
    no_end = λ k well among. still.no_end k well (done_in_start before i k well among);
    forth = λ path s. still.forth path (less_settled before i path s);
    back = λ path s. settled_after_start u before i path apart can (still.back path s);
  }

  -- the closures by what is settled are those at entry
  closure_forth : (before : List ChildEvent) → AreStill before → (step : Step) (members : List (List ℕ × Value)) → IsClosure u.build (on_settled u before) step members → IsClosure u.build (on_settled u []) step members
  closure_forth before still step members closure =
      closure_stays (on_settled u before) (on_settled u []) u.build step members (λ p x s. (still.forth p s.0, s.1)) (λ p x y s t. clean_is_one u.build apart p x y s.1 t.1) closure

  closure_back : (before : List ChildEvent) → AreStill before → (step : Step) (members : List (List ℕ × Value)) → IsClosure u.build (on_settled u []) step members → IsClosure u.build (on_settled u before) step members
  closure_back before still step members closure =
      closure_stays (on_settled u []) (on_settled u before) u.build step members (λ p x s. (still.back p s.0, s.1)) (λ p x y s t. clean_is_one u.build apart p x y s.1 t.1) closure

  -- so a step that can start then can start at entry
  can_forth : (before : List ChildEvent) (i : ℕ) → AreStill before → CanStart u before i → CanStart u [] i
  can_forth before i still can = record {
    step = can.step;
    at = can.at;
    needed = needed_up u before [] still.forth i can.needed;
    not_started = λ among. Contains_nil (Start i) among;
    members = can.members;
    closure = closure_forth before still can.step can.members can.closure;
    stale = λ is. can.stale (fresh_events u [] before can.step can.members (λ off m x j other well c by among. still.no_end j well among) is);
    room = (let j = jobs in omega (arith, j));
    goes_on = λ quits k among. Contains_nil (Done k false) among;
  }

  -- and one that can start at entry can start then, unless it was started, where there is room
  can_back : (before : List ChildEvent) (i : ℕ) → AreStill before → (Contains before (Start i) → ⊥) → count_by is_start before < count_by is_done before + u.jobs → CanStart u [] i → CanStart u before i
  can_back before i still none room can = record {
    step = can.step;
    at = can.at;
    needed = needed_up u [] before still.back i can.needed;
    not_started = none;
    members = can.members;
    closure = closure_back before still can.step can.members can.closure;
    stale = λ is. can.stale (fresh_events u before [] can.step can.members (λ off m x j other well c by among. absurd (Contains_nil (Done j well) among)) is);
    room = room;
    goes_on = λ quits k among. still.no_end k false among;
  }

  -- ---- one start after another

  abbrev first : ℕ → List ChildEvent
  first n = starts (take n calling)

  -- there is room after so many starts, where they are fewer than the jobs
  room_for : (n : ℕ) → n ≤ length calling → n < 64 → count_by is_start (first n) < count_by is_done (first n) + u.jobs
  room_for n within few =
      let a = count_starts (take n calling) in
      let b = count_ends (take n calling) in
      let c = length_front calling n within in
      let j = jobs in
      omega (arith, a, b, c, j, few)

  room_of : (n : ℕ) → n ≤ length calling → count_by is_start (first n) < count_by is_done (first n) + u.jobs → n < 64
  room_of n within room =
      let a = count_starts (take n calling) in
      let b = count_ends (take n calling) in
      let c = length_front calling n within in
      let j = jobs in
      omega (arith, a, b, c, j, room)

  -- the step at the next place was not started
  not_yet : (n i : ℕ) → slice_get calling n ≡ Some i → Contains (first n) (Start i) → ⊥
  not_yet n i at among =
      let (k, low, there) = in_front calling n i (start_among (take n calling) i among) in
      let less = rises_at calling k n i i rising low there at in
      omega (arith, less)

  next_at : (n i : ℕ) → n ≤ length calling → AreStill (first n) → MayCome u (first n) (Start i) → slice_get calling n ≡ Some i
  next_at n i within still (can, lowest) =
      let (k, at) = at_place calling i (of_can i (can_forth (first n) i still can)) in
      elim (cases_lt k n) [
        | inl low ↦ absurd (can.not_started (start_has (take n calling) i (front_has calling n k i low at)))
        | inr past ↦ elim (cases_lt n k) [
          | inl later ↦ (
              let high = slice_get_within calling k i at in
              let (j, here) = get_some calling n (omega (arith, later, high)) in
              let less = rises_at calling n k j i rising later here at in
              absurd (lowest j less (can_back (first n) j still (not_yet n j here) can.room (can_of j (among_at calling n j here)))))
          | inr also ↦ (let same : n ≡ k = omega (arith, past, also) in ap (slice_get calling) same ∙ at)
        ]
      ]

  first_more : (n i : ℕ) → slice_get calling n ≡ Some i → first n ++ Start i ∷ [] ≡ first (n + 1)
  first_more n i at = sym (map-append Start (take n calling) (i ∷ [])) ∙ sym (ap starts (take_more calling n i at))

  record AreGone (n : ℕ) (rest : List ChildEvent) : Type 0 where
    whole : first n ++ rest ≡ first (n + length rest)
    within : n + length rest ≤ length calling
    few : n + length rest ≤ 64
    still : AreStill (first (n + length rest))

  go_on : (rest : List ChildEvent) (n : ℕ) → n ≤ length calling → n ≤ 64 → AreStill (first n) → AllByRecursion (λ event. is_start event ≡ true) rest → RunFrom u (first n) rest → AreGone n rest
  go_on [] n within few still all run =
      let same : n ≡ n + 0 = omega arith in
      record {
        whole = append_none (first n) ∙ ap first same;
        within = omega (arith, within);
        few = omega (arith, few);
        still = subst (λ m. AreStill (first m)) same still;
      }
    where
      append_none : (xs : List ChildEvent) → xs ++ [] ≡ xs
      append_none [] = refl
      append_none (x ∷ xs) = ap (λ l. x ∷ l) (append_none xs)
  go_on (Done i well ∷ rest) n within few still all run = absurd (let e : false ≡ true = all.0 in cc)
  go_on (Start i ∷ rest) n within few still all run =
      let can = run.0.0 in
      let at = next_at n i within still run.0 in
      let more = first_more n i at in
      let low = slice_get_within calling n i at in
      let room = room_of n within can.room in
      let next = go_on rest (n + 1) (omega (arith, low)) (omega (arith, room)) (subst AreStill more (still_more (first n) i still can)) all.1 (subst (λ (l : List ChildEvent). RunFrom u l rest) more run.1) in
      let count : n + 1 + length rest ≡ n + suc (length rest) = omega arith in
      let high = next.within in
      let small = next.few in
      record {
        whole = sym (append_assoc (first n) (Start i ∷ []) rest) ∙ ap (λ (l : List ChildEvent). l ++ rest) more ∙ next.whole ∙ ap first count;
        within = omega (arith, high);
        few = omega (arith, small);
        still = subst (λ m. AreStill (first m)) count next.still;
      }

  record AreAllGone (events : List ChildEvent) : Type 0 where
    whole : events ≡ first (length events)
    within : length events ≤ length calling
    few : length events ≤ 64
    still : AreStill (first (length events))

  gone : (events : List ChildEvent) → AllByRecursion (λ event. is_start event ≡ true) events → IsRunSoFar u events → AreAllGone events
  gone events all run =
      let is = go_on events 0 (omega arith) (omega arith) still_nil all run in
      let count : 0 + length events ≡ length events = omega arith in
      let within = is.within in
      let few = is.few in
      record {
        whole = is.whole ∙ ap first count;
        within = omega (arith, within);
        few = omega (arith, few);
        still = subst (λ m. AreStill (first m)) count is.still;
      }

  -- where none can start, all were started, or 64
  all_gone : (events : List ChildEvent) → AllByRecursion (λ event. is_start event ≡ true) events → IsRunSoFar u events → ((k : ℕ) → CanStart u events k → ⊥) → events ≡ starts (take 64 calling)
  all_gone events all run none = elim (cases_lt (length events) 64) [
    | inl room ↦ elim (cases_lt (length events) (length calling)) [
      | inl low ↦ (
          let (j, here) = get_some calling (length events) low in
          absurd (none j (subst (λ (l : List ChildEvent). CanStart u l j) (sym is.whole) (can_back (first (length events)) j is.still (not_yet (length events) j here) (room_for (length events) is.within room) (can_of j (among_at calling (length events) j here))))))
      | inr past ↦ is.whole ∙ ap starts (take_all (length events) calling past ∙ sym (take_all 64 calling (let few = is.few in omega (arith, past, few))))
    ]
    | inr many ↦ is.whole ∙ ap first (let few = is.few in let e : length events ≡ 64 = omega (arith, many, few) in e)
  ]
    where
      is : AreAllGone events
      is = gone events all run

  first_done : (events : List ChildEvent) → AllByRecursion (λ event. is_start event ≡ true) events → (i : ℕ) (well : Bool) → IsRunSoFar u (events ++ Done i well ∷ []) → events ≡ starts (take 64 calling)
  first_done events all i well run = all_gone events all (but_last u events (Done i well) run) (last_may u events (Done i well) run).1

  -- a run of starts alone is empty, and none can start
  none_called : (events : List ChildEvent) → AllByRecursion (λ event. is_start event ≡ true) events → IsRun u events → calling ≡ []
  none_called (Done i well ∷ events) all run = absurd (let e : false ≡ true = all.0 in cc)
  none_called (Start i ∷ events) all run =
      absurd (run.none_open i (Contains_here (Start i) events, λ well among. (let e : false ≡ true = all_at (λ event. is_start event ≡ true) (Start i ∷ events) all (Done i well) among in cc)))
  none_called [] all run = go calling refl
    where
      go : (l : List ℕ) → calling ≡ l → l ≡ []
      go [] e = refl
      go (i ∷ l) e = absurd (run.none_left i (can_of i (subst (λ (l : List ℕ). Contains l i) (sym e) (Contains_here i l))))

pub first_starts : FirstStarts
first_starts u whys events apart proper way jobs explained all = (
  λ run. (let is = gone u whys apart proper way jobs explained events all run in (is.whole, is.few)),
  first_done u whys apart proper way jobs explained events all,
  none_called u whys apart proper way jobs explained events all,
)
