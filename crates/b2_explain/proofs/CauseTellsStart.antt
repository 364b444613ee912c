-- The cause of a needed step calls for a start exactly where the step can start, and is that it is fresh exactly where it is settled.
use Rattle.std.proofs.Common.{◌≡◌, ◌≢◌, ◌↔◌, inl, inr, ℕ, zero, suc, ◌≤◌, Bool, true, false, cond, List, [], ◌∷◌, Option, Some, None, map, option_map, length, refl, sym, ap, subst, ◌∙◌, arith}
use Rattle.std.specs.List.{Contains, AllPairs, AllZip}
use Rattle.b2_base.specs.Bytes.{Before}
use Rattle.b2_host.specs.declared.children.ChildEvent.{ChildEvent}
use Rattle.b2_host.specs.declared.children.ChildEvent.TheVariants.{Start, Done}
use Rattle.b2_host.specs.Disks.{File}
use Rattle.b2_host.specs.FileCalls.{stamp_at}
use Rattle.b2_plan.specs.declared.step.Step.{Step}
use Rattle.b2_plan.specs.Plans.{Makes, Apart}
use Rattle.b2_plan.specs.Sources.{IsGiven}
use Rattle.b2_plan.specs.Closures.{Value, IsClosure, with_bytes}
use Rattle.b2_plan.specs.Cleans.{Val}
use Rattle.b2_log.specs.declared.line.Record.{Record}
use Rattle.b2_log.specs.Finding.{path_of}
use Rattle.b2_runs.specs.Staleness.{Update, AreStamped, paths_with_bytes, AgreesByStamps, Agrees, Agrees.by_stamps, Agrees.by_digests, IsFresh, IsStale}
use Rattle.b2_runs.specs.Runs.{Settled, Settled.source, Settled.done_well, Settled.fresh, on_settled}
use Rattle.b2_runs.proofs.FirstElementOrLater.{Contains_here, Contains_there, Contains_cases, Contains_nil, some_element, AllPairs_head, AllPairs_tail}
use Rattle.b2_runs.proofs.LastLineIsFound.{found_is_there}
use Rattle.b2_runs.proofs.MakerIsOne.{source_not_made, maker_is_one}
use Rattle.b2_runs.proofs.NeededByNumbers.{closed_by_settled}
use Rattle.b2_runs.proofs.NumberHasOneStep.{one_step}
use Rattle.b2_runs.proofs.SettledStays.{closure_on_settled}
use Rattle.b2_runs.proofs.StaleStepStays.{fresh_step_settles}
use Rattle.b2_facts.proofs.ListsAtPlaces.{some_is, none_some, at_place, among_at}
use Rattle.b2_verdicts.proofs.ListsAtPlaces.{zip_forth, zip_back}
use Rattle.b2_explain.specs.declared.cause.Cause.{Cause}
use Rattle.b2_explain.specs.declared.cause.Cause.TheVariants as causes
use Rattle.b2_explain.specs.Whys.{IsRead, IsFound, HasProperRecords, IsLogged, IsPresent, Differs, IsClosed, IsCause, calls}
use Rattle.b2_explain.specs.Laws.{CauseTellsStart, FreshIsSettled}
use Rattle.b2_explain.proofs.CauseIsOne.{first_in_among}
use Rattle.b2_explain.proofs.SortedPaths.{sorted, pairs_more, IsWith, IsAmong, IsStampedSo, alike}

no_event : {A : Type 0} (event : ChildEvent) → Contains {X = ChildEvent} [] event → A
no_event event among = absurd (Contains_nil event among)

true_false : {A : Type 0} → true ≡ false → A
true_false e = absurd (let f : true ≡ false = e in cc)

-- ---- what is settled where nothing has happened yet

module _ (u : Update) (apart : Apart u.build.steps u.build.roots) where
  -- a settled path is that of a source, or its maker is fresh
  pub settled_given : (path : List ℕ) → Settled u [] path → IsGiven u.build path
  settled_given path (source p bytes is) = inl (bytes, is)
  settled_given path (done_well i step p makes among) = no_event (Done i true) among
  settled_given path (fresh i step p members makes none closure inside is) = inr (i, step, makes)

  -- the maker of a settled path is fresh
  pub settled_maker : (path : List ℕ) (i : ℕ) (step : Step) → Settled u [] path → Makes u.build.steps i step path
      → (members : List (List ℕ × Value)) × IsClosure u.build (on_settled u []) step members × IsFresh u [] step members
  settled_maker path i step (source p bytes is) makes = absurd (source_not_made u.build apart path bytes is i step makes)
  settled_maker path i step (done_well k other p made among) makes = no_event (Done k true) among
  settled_maker path i step (fresh k other p members made none closure inside is) makes =
      let same : other ≡ step = maker_is_one u.build apart k i other step path made makes in
      subst (λ (s : Step). (ms : List (List ℕ × Value)) × IsClosure u.build (on_settled u []) s ms × IsFresh u [] s ms) same
      (members, (closure_on_settled u [] other members apart).1 closure inside, is)

  -- a file stands at a settled path
  pub settled_stands : (path : List ℕ) → Settled u [] path → (file : File) × (u.build.folder path ≡ Some file)
  settled_stands path (source p bytes is) = go (u.build.folder path) refl is.stands
    where
      go : (o : Option File) → u.build.folder path ≡ o → option_map (λ (f : File). f.bytes) o ≡ Some bytes → (file : File) × (u.build.folder path ≡ Some file)
      go None e stands = absurd (none_some bytes stands)
      go (Some file) e stands = (file, e)
  settled_stands path (done_well i step p makes among) = no_event (Done i true) among
  settled_stands path (fresh i step p members makes none closure inside is) = is.stand path makes.among

  pub settled_stamp : (path : List ℕ) → Settled u [] path → (stamp : ℕ) × (stamp_at u.build.folder path ≡ Some stamp)
  settled_stamp path is = let (file, stands) = settled_stands path is in (file.stamp, ap (option_map (λ (f : File). f.stamp)) stands)

  -- only an output of a notfile step has no bytes
  no_bytes : (n : ℕ) (path : List ℕ) → Val u.build n path None → (i : ℕ) × (step : Step) × Makes u.build.steps i step path × (step.notfile ≡ true)
  no_bytes zero path (bytes, is, e) = absurd (none_some bytes e)
  no_bytes (suc n) path (inl (bytes, is, e)) = absurd (none_some bytes e)
  no_bytes (suc n) path (inr b) = (b.number, b.step, b.makes, go b.step.notfile refl b.is)
    where
      go : (flag : Bool) → b.step.notfile ≡ flag → None ≡ cond flag None (Some (u.build.made b.step.text (with_bytes b.members) path)) → b.step.notfile ≡ true
      go true e is = e
      go false e is = absurd (none_some (u.build.made b.step.text (with_bytes b.members) path) is)

  -- so what is settled has bytes
  pub settled_bytes : (path : List ℕ) → on_settled u [] path None → ⊥
  settled_bytes path (settled, value) =
      let (i, step, makes, notfile) = no_bytes (length u.build.steps) path value in
      let (members, closure, is) = settled_maker path i step settled makes in
      true_false (sym notfile ∙ is.not_notfile)

  -- ---- a closure

  module _ (step : Step) (members : List (List ℕ × Value)) (closure : IsClosure u.build (on_settled u []) step members) where
    -- what the step reads is settled
    pub read_settled : (path : List ℕ) → IsRead u step path → Settled u [] path
    read_settled path read = let (value, among) = closure.whole path read in (closure.each path value among).1.0

    in_names : (list : List (List ℕ × Value)) (path bytes : List ℕ) → Contains list (path, Some bytes) → Contains (paths_with_bytes list) path
    in_names [] path bytes among = absurd (Contains_nil (path, Some bytes) among)
    in_names ((other, None) ∷ list) path bytes among = elim (Contains_cases (other, None) (path, Some bytes) list among) [
      | inl e ↦ absurd (none_some bytes (ap (λ (x : List ℕ × Value). x.1) e))
      | inr later ↦ in_names list path bytes later
    ]
    in_names ((other, Some text) ∷ list) path bytes among = elim (Contains_cases (other, Some text) (path, Some bytes) list among) [
      | inl e ↦ subst (Contains (other ∷ paths_with_bytes list)) (ap (λ (x : List ℕ × Value). x.0) e) (Contains_here other (paths_with_bytes list))
      | inr later ↦ Contains_there other path (paths_with_bytes list) (in_names list path bytes later)
    ]

    from_names : (list : List (List ℕ × Value)) (path : List ℕ) → Contains (paths_with_bytes list) path → (bytes : List ℕ) × Contains list (path, Some bytes)
    from_names [] path among = absurd (Contains_nil path among)
    from_names ((other, None) ∷ list) path among = let (bytes, later) = from_names list path among in (bytes, Contains_there (other, None) (path, Some bytes) list later)
    from_names ((other, Some text) ∷ list) path among = elim (Contains_cases other path (paths_with_bytes list) among) [
      | inl e ↦ (text, subst (λ p. Contains ((other, Some text) ∷ list) (p, Some text)) e (Contains_here (other, Some text) list))
      | inr later ↦ (let (bytes, at) = from_names list path later in (bytes, Contains_there (other, Some text) (path, Some bytes) list at))
    ]

    names_rise : (list : List (List ℕ × Value)) → AllPairs (λ x y. Before x.0 y.0) list → AllPairs Before (paths_with_bytes list)
    names_rise [] rising = λ i j d low high. absurd (omega (arith, high))
    names_rise ((other, None) ∷ list) rising = names_rise list (AllPairs_tail (λ x y. Before x.0 y.0) (other, None) list rising)
    names_rise ((other, Some text) ∷ list) rising =
        pairs_more Before other (paths_with_bytes list)
        (λ y among. let (bytes, at) = from_names list y among in AllPairs_head (λ (x y : List ℕ × Value). Before x.0 y.0) (other, Some text) (y, Some bytes) list rising at)
        (names_rise list (AllPairs_tail (λ x y. Before x.0 y.0) (other, Some text) list rising))

    -- they are all that the step reads, in byte order
    pub rising : AllPairs Before (paths_with_bytes members)
    rising = names_rise members closure.ordered

    pub name_read : (path : List ℕ) → Contains (paths_with_bytes members) path → IsRead u step path
    name_read path among = let (bytes, at) = from_names members path among in (closure.each path (Some bytes) at).0

    pub read_name : (path : List ℕ) → IsRead u step path → Contains (paths_with_bytes members) path
    read_name path read = go (closure.whole path read)
      where
        go : ((value : Value) × Contains members (path, value)) → Contains (paths_with_bytes members) path
        go (None, among) = absurd (settled_bytes path (closure.each path None among).1)
        go (Some bytes, among) = in_names members path bytes among

    -- ---- a fresh cause makes the step fresh

    -- the record has the step's outputs with their stamps
    outs_zip : (outs : List (List ℕ)) (files : List (List ℕ × ℕ)) → map path_of files ≡ outs → ((one : List ℕ × ℕ) → Contains files one → stamp_at u.build.folder one.0 ≡ Some one.1) → AllZip (IsStampedSo u.build.folder) outs files
    outs_zip [] [] same stand = tt
    outs_zip [] (file ∷ files) same stand = absurd (let e : path_of file ∷ map path_of files ≡ [] = same in cc)
    outs_zip (out ∷ outs) [] same stand = absurd (let e : [] ≡ out ∷ outs = same in cc)
    outs_zip (out ∷ outs) (file ∷ files) same stand =
        let e : path_of file ∷ map path_of files ≡ out ∷ outs = same in
        let here : file.0 ≡ out = cc in
        let rest : map path_of files ≡ outs = cc in
        ((here, subst (λ p. stamp_at u.build.folder p ≡ Some file.1) here (stand file (Contains_here file files))), outs_zip outs files rest (λ one among. stand one (Contains_there file one files among)))

    -- where the record's inputs and what the step reads differ nowhere, the record has what it reads
    same_inputs : HasProperRecords u → (r : Record) → IsFound u step r → ((path : List ℕ) → Differs u step r path → ⊥) → AreStamped u.build.folder (paths_with_bytes members) r.ins
    same_inputs proper r found none =
        alike u.build.folder (paths_with_bytes members) r.ins rising (proper step.outs r found) (λ path among. settled_stamp path (read_settled path (name_read path among)))
        (λ path logged now with among other. none path (record { logged = logged; is_logged = up_with path logged with; now = now; is_present = up_among path now among; other = other }))
      where
        up_with : (path : List ℕ) (logged : Option ℕ) → IsWith r.ins path logged → IsLogged r path logged
        up_with path None with = with
        up_with path (Some s) with = with

        up_among : (path : List ℕ) (now : Option ℕ) → IsAmong u.build.folder (paths_with_bytes members) path now → IsPresent u step path now
        up_among path None among = λ s read at. among s (read_name path read) at
        up_among path (Some s) among = (name_read path among.0, among.1)

    pub fresh_is : HasProperRecords u → IsCause u step causes.Fresh → IsFresh u [] step members
    fresh_is proper (r, stamps, none) =
        let text = stamps.has_text in
        let up = text.up_to_date in
        let outs = up.has_outputs in
        let ordinary = outs.ordinary in
        record {
          not_all = ordinary.not_all;
          not_always = ordinary.not_always;
          not_notfile = ordinary.not_notfile;
          stand = outs.stand;
          none_older = λ by out member value written read is_out is_in at_out at_in. up.none_older out member written.stamp read.stamp is_out (closure.each member value is_in).0 (ap (option_map (λ (f : File). f.stamp)) at_out) (ap (option_map (λ (f : File). f.stamp)) at_in);
          none_notfile = λ member value i other is_in makes. (let (ms, c, is) = settled_maker member i other (closure.each member value is_in).1.0 makes in is.not_notfile);
          none_done = λ by member value i other well is_in makes among. no_event (Done i well) among;
          recorded = record {
            last = r;
            found = text.found;
            agrees = by_stamps (record {
              text = text.text;
              outs = outs_zip step.outs r.outs (found_is_there step.outs u.log r text.found).1 stamps.stamps;
              ins = same_inputs proper r text.found none;
              none_done = λ member value i other well is_in makes among. no_event (Done i well) among;
            });
          };
        }

    -- ---- of a fresh step there is no other cause

    -- where judging is by stamps, the record agrees by stamps
    agrees_so : (r : Record) → u.by_digest ≡ false → Agrees u [] step members r → AgreesByStamps u [] step members r
    agrees_so r way (by_stamps is) = is
    agrees_so r way (by_digests on is) = true_false (sym on ∙ way)

    -- the record that is found agrees
    recorded_as : (r : Record) → u.by_digest ≡ false → IsFresh u [] step members → IsFound u step r → AgreesByStamps u [] step members r
    recorded_as r way is found = subst (AgreesByStamps u [] step members) (some_is is.recorded.last r (sym is.recorded.found ∙ found)) (agrees_so is.recorded.last way is.recorded.agrees)

    -- a record that has what the step reads differs nowhere
    pub stamped_same : (r : Record) (path : List ℕ) → AreStamped u.build.folder (paths_with_bytes members) r.ins → Differs u step r path → ⊥
    stamped_same r path same d = go d.logged d.now d.is_logged d.is_present d.other
      where
        go : (logged now : Option ℕ) → IsLogged r path logged → IsPresent u step path now → logged ≢ now → ⊥
        go None None with present other = other refl
        go None (Some s) with present other =
            let (k, at) = at_place (paths_with_bytes members) path (read_name path present.0) in
            let (file, file_at, stamped) = zip_forth (IsStampedSo u.build.folder) (paths_with_bytes members) r.ins k path same at in
            with file.1 (subst (λ p. Contains r.ins (p, file.1)) stamped.0 (among_at r.ins k file file_at))
        go (Some s) now with present other =
            let (k, at) = at_place r.ins (path, s) with in
            let (name, name_at, stamped) = zip_back (IsStampedSo u.build.folder) (paths_with_bytes members) r.ins k (path, s) same at in
            let among = subst (Contains (paths_with_bytes members)) (sym stamped.0) (among_at (paths_with_bytes members) k name name_at) in
            let stands : stamp_at u.build.folder path ≡ Some s = subst (λ p. stamp_at u.build.folder p ≡ Some s) (sym stamped.0) stamped.1 in
            now_is now present (name_read path among) stands other
          where
            now_is : (now : Option ℕ) → IsPresent u step path now → IsRead u step path → stamp_at u.build.folder path ≡ Some s → Some s ≢ now → ⊥
            now_is None present read stands other = present s read stands
            now_is (Some t) present read stands other = other (sym stands ∙ present.1)

    pub is_fresh_cause : u.by_digest ≡ false → IsFresh u [] step members → (cause : Cause) → IsCause u step cause → cause ≡ causes.Fresh
    is_fresh_cause way is (causes.Lacks path) of = absurd (of.so.1 (settled_given path (read_settled path of.so.0)))
    is_fresh_cause way is (causes.Waits path) of = absurd (of.1.so.unsettled (read_settled path of.1.so.read))
    is_fresh_cause way is causes.All of = true_false (sym of.1 ∙ is.not_all)
    is_fresh_cause way is causes.Always of = true_false (sym of.2 ∙ is.not_always)
    is_fresh_cause way is causes.NotFile of = true_false (sym of.3 ∙ is.not_notfile)
    is_fresh_cause way is (causes.NoOutput path) of =
        let (file, stands) = is.stand path (first_in_among _ step.outs path of.1) in
        absurd (none_some file (sym of.1.so ∙ stands))
    is_fresh_cause way is (causes.Older out out_stamp member member_stamp) of =
        let older = of.1.so in
        let newer = older.newer in
        let (written, written_is) = is.stand out (first_in_among _ step.outs out of.1) in
        let (value, among) = closure.whole older.member newer.read in
        let (read, read_is) = settled_stands older.member (read_settled older.member newer.read) in
        let low : read.stamp ≤ written.stamp = is.none_older way out older.member value written read (first_in_among _ step.outs out of.1) among written_is read_is in
        let one : older.stamp ≡ written.stamp = some_is older.stamp written.stamp (sym older.stands ∙ ap (option_map (λ (f : File). f.stamp)) written_is) in
        let two : newer.stamp ≡ read.stamp = some_is newer.stamp read.stamp (sym newer.stands ∙ ap (option_map (λ (f : File). f.stamp)) read_is) in
        let more = newer.newer in
        absurd (omega (arith, low, one, two, more))
    is_fresh_cause way is causes.NoRecord of = absurd (none_some is.recorded.last (sym of.1 ∙ is.recorded.found))
    is_fresh_cause way is (causes.OtherText logged) of = absurd (of.4 (sym of.3 ∙ (recorded_as of.1 way is of.2).text))
    is_fresh_cause way is (causes.OtherOutput path logged now) of =
        let r = of.0 in
        let agrees = recorded_as r way is of.1.found in
        let (k, at) = at_place r.outs (path, logged) (first_in_among _ r.outs (path, logged) of.2) in
        let (out, out_at, stamped) = zip_back (IsStampedSo u.build.folder) step.outs r.outs k (path, logged) agrees.outs at in
        absurd (of.2.so (subst (λ p. stamp_at u.build.folder p ≡ Some logged) (sym stamped.0) stamped.1))
    is_fresh_cause way is (causes.OtherInput path logged now) of = absurd (stamped_same of.0 path (recorded_as of.0 way is of.1.has_text.found).ins of.2.so)
    is_fresh_cause way is causes.Fresh of = refl

  -- ---- a cause that calls for a start

  calls_closed : (step : Step) (cause : Cause) → calls cause ≡ true → IsCause u step cause → IsClosed u step
  calls_closed step (causes.Lacks path) on of = true_false (sym on)
  calls_closed step (causes.Waits path) on of = true_false (sym on)
  calls_closed step causes.All on of = of.0
  calls_closed step causes.Always on of = of.0
  calls_closed step causes.NotFile on of = of.0
  calls_closed step (causes.NoOutput path) on of = of.0.closed
  calls_closed step (causes.Older out out_stamp member member_stamp) on of = of.0.ordinary.closed
  calls_closed step causes.NoRecord on of = of.0.has_outputs.ordinary.closed
  calls_closed step (causes.OtherText logged) on of = of.0.has_outputs.ordinary.closed
  calls_closed step (causes.OtherOutput path logged now) on of = of.1.up_to_date.has_outputs.ordinary.closed
  calls_closed step (causes.OtherInput path logged now) on of = of.1.has_text.up_to_date.has_outputs.ordinary.closed
  calls_closed step causes.Fresh on of = true_false (sym on)

  -- all that the step reads is settled, and can be listed, so it has a closure
  pub closed_closure : (step : Step) (reads : List (List ℕ)) → ((path : List ℕ) → IsRead u step path ↔ Contains reads path) → ((path : List ℕ) → IsRead u step path → Settled u [] path)
      → (members : List (List ℕ × Value)) × IsClosure u.build (on_settled u []) step members
  closed_closure step reads reads_are settled =
      let (list, is) = sorted reads in
      closed_by_settled u [] step list apart tt is.rising
      (λ path among. let read = (reads_are path).1 (is.each path among) in (read, settled path read)) (λ path read. is.whole path ((reads_are path).0 read))

  start_calls : (step : Step) (cause : Cause) → HasProperRecords u → IsCause u step cause → (members : List (List ℕ × Value)) → IsClosure u.build (on_settled u []) step members → IsStale u [] step members → calls cause ≡ true
  start_calls step (causes.Lacks path) proper of members closure stale = absurd (of.so.1 (settled_given path (read_settled step members closure path of.so.0)))
  start_calls step (causes.Waits path) proper of members closure stale = absurd (of.1.so.unsettled (read_settled step members closure path of.1.so.read))
  start_calls step causes.All proper of members closure stale = refl
  start_calls step causes.Always proper of members closure stale = refl
  start_calls step causes.NotFile proper of members closure stale = refl
  start_calls step (causes.NoOutput path) proper of members closure stale = refl
  start_calls step (causes.Older out out_stamp member member_stamp) proper of members closure stale = refl
  start_calls step causes.NoRecord proper of members closure stale = refl
  start_calls step (causes.OtherText logged) proper of members closure stale = refl
  start_calls step (causes.OtherOutput path logged now) proper of members closure stale = refl
  start_calls step (causes.OtherInput path logged now) proper of members closure stale = refl
  start_calls step causes.Fresh proper of members closure stale = absurd (stale (fresh_is step members closure proper of))

fresh_calls_not : (cause : Cause) → cause ≡ causes.Fresh → calls cause ≡ false
fresh_calls_not cause e = ap calls e

pub cause_tells_start : CauseTellsStart
cause_tells_start u why apart proper way jobs is = (
  λ on. let (members, closure) = closed_closure u apart is.step is.reads is.reads_are (calls_closed u apart is.step why.cause on is.cause).settled in record {
    step = is.step;
    at = is.at;
    needed = is.needed;
    not_started = λ among. no_event (Start why.step) among;
    members = members;
    closure = closure;
    stale = λ fresh. true_false (sym on ∙ fresh_calls_not why.cause (is_fresh_cause u apart is.step members closure way fresh why.cause is.cause));
    room = omega (arith, jobs);
    goes_on = λ quits k among. no_event (Done k false) among;
  },
  λ can.
      let same : can.step ≡ is.step = one_step u.build.steps why.step can.step is.step can.at is.at in
      start_calls u apart can.step why.cause proper (subst (λ (s : Step). IsCause u s why.cause) (sym same) is.cause) can.members can.closure can.stale,
)

pub fresh_is_settled : FreshIsSettled
fresh_is_settled u why apart proper way is = (
  λ e.
      let of : IsCause u is.step causes.Fresh = subst (IsCause u is.step) e is.cause in
      let closed = of.1.has_text.up_to_date.has_outputs.ordinary.closed in
      let (members, closure) = closed_closure u apart is.step is.reads is.reads_are closed.settled in
      fresh_step_settles u [] why.step is.step apart is.at (λ among. no_event (Start why.step) among) (record { members = members; closure = closure; is_fresh = fresh_is u apart is.step members closure proper of }),
  λ settled.
      let (out, among) = some_element is.step.outs (apart.some_out why.step is.step is.at) in
      let makes : Makes u.build.steps why.step is.step out = record { at = is.at; among = among } in
      let (members, closure, still) = settled_maker u apart out why.step is.step (settled is.step out makes) makes in
      is_fresh_cause u apart is.step members closure way still why.cause is.cause,
)
