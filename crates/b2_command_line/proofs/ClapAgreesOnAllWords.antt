-- clap's walk over the words reads what a request reads.
use Rattle.std.proofs.Common.{◌≡◌, ◌≢◌, ℕ, Bool, true, false, cond, ◌&&◌, ◌||◌, ◌==◌, List, [], ◌∷◌, length, Option, None, Some, is_some, refl, sym, ap, ap₂, ◌∙◌, subst, codes, MatchOption, option_and_then, fold}
use Rattle.std.specs.Option.{option_map_or}
use Rattle.std.specs.List.{before_first}
use Rattle.std.specs.Str.{bytes_eq}
use Rattle.clap.specs.Lexer.{long_of, long_of_rest, short_of}
use Rattle.clap.specs.Words.{Row, Text}
use Rattle.clap.specs.Walk.{Held, Outcome, Walk, Waiting, done, waits, plain, idle, option, positional, next, trailing, value, after_flag, after_step, arg_by_long, bundle_met, long_met, long_or_other, short_or_plain, subcommand_or_other, plain_word, settled_rows, walked, word_met, is_pending, pushed, settled, subcommand_met}
use Rattle.clap.specs.Faults.{bundle_fault, flag_word_fault, flags_fault, long_fault, other_fault, settle_fault, step_fault, turn_fault, walk_fault, word_fault}
use Rattle.clap.specs.Kinds.{Kinds, or_else}
use Rattle.clap.specs.declared.error.kind.ErrorKind.TheVariants as kinds
use Rattle.b2_base.specs.Bytes.{HasNoZero}
use Rattle.b2_command_line.specs.Words.{Next, by_shape, jobs_value, by_value, is_equals, value_in, after_hyphen}
use Rattle.b2_command_line.proofs.RequestsReadLeftToRight.{Request, Point, letters, long_read, use_option, with_word, after_dashes, option_read, value_read, word_read, read_from}
use Rattle.b2_command_line.proofs.RowsShowTheRequest.{Shows, Uses, wr, rules, shape, not_nil, word_shows, jobs_step, by_step}
use Rattle.b2_command_line.proofs.ClapAgreesOnGroups.{held, IsClean, or_else_stops, Ready, Agrees, WaitsFor, settle, settled_at, letter, group_agrees, group_fails}
use Rattle.b2_command_line.proofs.ClapAgreesOnLongOptions.{long_agrees, long_fails}
use Rattle.b2_command_line.proofs.EachWordHasItsShape.{dashes, long, short, plain as plain_shape, kind_of_word}

-- the letters of each group are clean, and no word has a zero byte
abbrev pub CleanWords : List Text → Type 0
CleanWords [] = Unit {0}
CleanWords (w ∷ rest) = ((d : ℕ) (more : Text) → w ≡ 45 ∷ d ∷ more → IsClean (d ∷ more)) × HasNoZero w × CleanWords rest

abbrev tail_clean : (w : Text) (rest : List Text) → CleanWords (w ∷ rest) → CleanWords rest
tail_clean w rest clean = clean.2

-- no option waits for its value
abbrev pub IsFree : Waiting → Type 0
IsFree (option id) = ⊥
IsFree _ = Unit {0}

and_false : {A : Type 0} (b : Bool) (x y : A) → cond (b && false) x y ≡ y
and_false true x y = refl
and_false false x y = refl

or_false : (b : Bool) → (b || false) ≡ b
or_false true = refl
or_false false = refl

abbrev pub walk_at : List Row → Option (Text × List Text) → Waiting → Bool → Walk
walk_at rows pending waiting is_trailing =
    record { held = held rows pending; waiting = waiting; position = 1; is_trailing = is_trailing; stopped = None }

abbrev pub ends : Walk → List Text → Walk
ends w words = fold (walked rules []) w words

abbrev pub total : Walk → List Text → Kinds
total w words = or_else (walk_fault shape [] w words) (settle_fault rules false (ends w words).held)

pub record Ends (r : Request) (e : Walk) : Type 0 where
  pub stopped : e.stopped ≡ None
  pub shows : Shows r (settled_rows rules e.held.pending e.held.rows)

abbrev pub Fits : Option Request → Walk → List Text → Type 0
Fits answer w words = MatchOption answer (total w words ≢ []) (λ r. (total w words ≡ []) × Ends r (ends w words))

total_turn : (w after : Walk) (word : Text) (rest : List Text) → turn_fault shape [] w word ≡ [] → walked rules [] w word ≡ after →
    total w (word ∷ rest) ≡ total after rest
unfolding walk_fault
total_turn w after word rest e f =
    (λ i. or_else (or_else (e i) (walk_fault shape [] (f i) rest)) (settle_fault rules false (ends (f i) rest).held))

by_turn : (answer : Option Request) (w after : Walk) (word : Text) (rest : List Text) → turn_fault shape [] w word ≡ [] → walked rules [] w word ≡ after →
    Fits answer after rest → Fits answer w (word ∷ rest)
by_turn None w after word rest e f h = subst (λ (k : Kinds). k ≢ []) (sym (total_turn w after word rest e f)) h
by_turn (Some r) w after word rest e f h = (total_turn w after word rest e f ∙ h.0, subst (λ (x : Walk). Ends r (ends x rest)) (sym f) h.1)

stops : (w : Walk) (word : Text) (rest : List Text) → turn_fault shape [] w word ≢ [] → total w (word ∷ rest) ≢ []
unfolding walk_fault
stops w word rest bad = or_else_stops _ _ (or_else_stops _ _ bad)

-- ---- a word that goes to the positional

module _ (rows : List Row) (pending : Option (Text × List Text)) (waiting : Waiting) (word : Text) where
  value_turn : (is_trailing : Bool) → word_fault shape [] is_trailing waiting word (held rows pending) ≡ [] →
      word_met rules [] is_trailing waiting 1 word (held rows pending) ≡ (held rows pending, value) →
      turn_fault shape [] (walk_at rows pending waiting is_trailing) word ≡ settle rows pending
  value_turn is_trailing e f =
      (λ i. or_else (e i) (step_fault shape 1 (f i).0 (f i).1)) ∙ and_false (is_pending wr pending) [] (settle rows pending)

  value_walk : (is_trailing : Bool) → word_met rules [] is_trailing waiting 1 word (held rows pending) ≡ (held rows pending, value) →
      walked rules [] (walk_at rows pending waiting is_trailing) word
      ≡ walk_at (settled_at rows pending) (Some (codes "word", word ∷ [])) positional is_trailing
  unfolding walked
  value_walk is_trailing f =
      (λ i. after_step rules word (walk_at rows pending waiting is_trailing) (f i).0 (f i).1)
      ∙ ap₂ (λ (x : Held) (t : Bool). record { held = pushed (codes "word") word x; waiting = positional; position = 1; is_trailing = t; stopped = None })
      (and_false (is_pending wr pending) (held rows pending) (settled rules (held rows pending))) (or_false is_trailing)

  value_ready : (r : Request) → HasNoZero word → Ready r rows pending → Ready (with_word word r) (settled_at rows pending) (Some (codes "word", word ∷ []))
  value_ready r plain_word ready = record { passes = refl; shows = word_shows _ r (settled_at rows pending) ready.shows word plain_word }

-- ---- after `--`

trail : (words : List Text) → CleanWords words → (rows : List Row) (pending : Option (Text × List Text)) (waiting : Waiting) (r : Request) → Ready r rows pending →
    Fits (Some (after_dashes words r)) (walk_at rows pending waiting true) words
unfolding walk_fault
trail [] clean rows pending waiting r ready = (ready.passes, record { stopped = refl; shows = ready.shows })
trail (w ∷ rest) clean rows pending waiting r ready =
    by_turn (Some (after_dashes rest (with_word w r))) _ _ w rest (value_turn rows pending waiting w true refl refl ∙ ready.passes) (value_walk rows pending waiting w true refl)
    (trail rest clean.2 (settled_at rows pending) (Some (codes "word", w ∷ [])) positional (with_word w r) (value_ready rows pending waiting w r clean.1 ready))

fails_trailing : (words : List Text) (rows : List Row) (pending : Option (Text × List Text)) (waiting : Waiting) → settle rows pending ≢ [] →
    total (walk_at rows pending waiting true) words ≢ []
unfolding walk_fault
fails_trailing [] rows pending waiting bad = bad
fails_trailing (w ∷ rest) rows pending waiting bad =
    stops (walk_at rows pending waiting true) w rest (subst (λ (k : Kinds). k ≢ []) (sym (value_turn rows pending waiting w true refl refl)) bad)

-- ---- before it

no_subcommand : (waiting : Waiting) (word : Text) → subcommand_met [] waiting word ≡ None
no_subcommand idle word = refl
no_subcommand (option id) word = refl
no_subcommand positional word = refl

plain_value : (waiting : Waiting) (word : Text) (h : Held) → IsFree waiting → plain_word rules waiting word h ≡ (h, value)
plain_value idle word h free = refl
plain_value (option id) word h free = absurd free
plain_value positional word h free = refl

module _ (rows : List Row) (pending : Option (Text × List Text)) (waiting : Waiting) (word : Text) (dashed : bytes_eq word (45 ∷ 45 ∷ []) ≡ false) where
  -- a word other than `--`
  any_met : word_met rules [] false waiting 1 word (held rows pending) ≡ long_or_other rules waiting word (long_of word) (held rows pending)
  any_met =
      ap (λ (o : Option Text). subcommand_or_other rules o waiting 1 word (held rows pending)) (no_subcommand waiting word)
      ∙ ap (λ (b : Bool). cond b (held rows pending, trailing 1) (long_or_other rules waiting word (long_of word) (held rows pending))) dashed

  any_fault : word_fault shape [] false waiting word (held rows pending) ≡ flag_word_fault rules false (long_of word) word (held rows pending)
  any_fault =
      ap (λ (o : Option Text). other_fault shape o word (held rows pending)) (no_subcommand waiting word)
      ∙ ap (λ (b : Bool). cond b [] (flag_word_fault rules false (long_of word) word (held rows pending))) dashed

  module _ (no_long : long_of word ≡ None) where
    -- what a word with no leading `--` is
    other_met : word_met rules [] false waiting 1 word (held rows pending) ≡ short_or_plain rules waiting word (short_of word) (held rows pending)
    other_met = any_met ∙ ap (λ (o : Option (Text × Option Text)). long_or_other rules waiting word o (held rows pending)) no_long

    other_fails : word_fault shape [] false waiting word (held rows pending)
        ≡ option_map_or (λ (flags : Text). bundle_fault rules false flags (held rows pending)) (short_of word) []
    other_fails = any_fault ∙ ap (λ (o : Option (Text × Option Text)). flag_word_fault rules false o word (held rows pending)) no_long

    plain_met : short_of word ≡ None → word_met rules [] false waiting 1 word (held rows pending) ≡ plain_word rules waiting word (held rows pending)
    plain_met e = other_met ∙ ap (λ (o : Option Text). short_or_plain rules waiting word o (held rows pending)) e

    plain_fault : short_of word ≡ None → word_fault shape [] false waiting word (held rows pending) ≡ []
    plain_fault e = other_fails ∙ ap (λ (o : Option Text). option_map_or (λ (flags : Text). bundle_fault rules false flags (held rows pending)) o []) e

-- ---- a word that is a flag, which comes to a fault and to what is held and an outcome

module _ (rows : List Row) (pending : Option (Text × List Text)) (waiting : Waiting) (word : Text) (fault : Kinds) (met : Held × Outcome)
    (faults : word_fault shape [] false waiting word (held rows pending) ≡ fault)
    (meets : word_met rules [] false waiting 1 word (held rows pending) ≡ after_flag rules waiting word met.0 met.1) where
  flag_turn : (m : Held × Outcome) → met ≡ m → turn_fault shape [] (walk_at rows pending waiting false) word
      ≡ or_else fault (step_fault shape 1 (after_flag rules waiting word m.0 m.1).0 (after_flag rules waiting word m.0 m.1).1)
  flag_turn m e = (λ i. or_else (faults i) (step_fault shape 1 (meets i).0 (meets i).1))
      ∙ ap (λ (x : Held × Outcome). or_else fault (step_fault shape 1 (after_flag rules waiting word x.0 x.1).0 (after_flag rules waiting word x.0 x.1).1)) e

  flag_walk : (m : Held × Outcome) → met ≡ m → walked rules [] (walk_at rows pending waiting false) word
      ≡ after_step rules word (walk_at rows pending waiting false) (after_flag rules waiting word m.0 m.1).0 (after_flag rules waiting word m.0 m.1).1
  unfolding walked
  flag_walk m e = (λ i. after_step rules word (walk_at rows pending waiting false) (meets i).0 (meets i).1)
      ∙ ap (λ (x : Held × Outcome). after_step rules word (walk_at rows pending waiting false) (after_flag rules waiting word x.0 x.1).0 (after_flag rules waiting word x.0 x.1).1) e

  flag_stops : fault ≢ [] → turn_fault shape [] (walk_at rows pending waiting false) word ≢ []
  flag_stops bad = subst (λ (k : Kinds). k ≢ []) (sym (flag_turn met refl)) (or_else_stops _ _ bad)

module _ (rows : List Row) (pending : Option (Text × List Text)) (waiting : Waiting) (d : ℕ) (rest : Text) (one : (d == 45) ≡ false) where
  abbrev whole : Text
  whole = 45 ∷ d ∷ rest

  abbrev group_fault : Kinds
  group_fault = flags_fault rules false (length (d ∷ rest)) (d ∷ rest) 0 (held rows pending)

  abbrev group_met : Held × Outcome
  group_met = bundle_met rules (length (d ∷ rest)) (d ∷ rest) 0 plain (held rows pending)

  dashed_is : bytes_eq whole (45 ∷ 45 ∷ []) ≡ false
  dashed_is = ap (λ (b : Bool). b && bytes_eq rest []) one

  no_long_is : long_of whole ≡ None
  no_long_is = ap (λ (b : Bool). option_and_then long_of_rest (cond b (Some rest) None)) one

  short_is : short_of whole ≡ Some (d ∷ rest)
  short_is = ap (λ (b : Bool). cond b None (Some (d ∷ rest))) one

  short_meets : word_met rules [] false waiting 1 whole (held rows pending) ≡ after_flag rules waiting whole group_met.0 group_met.1
  short_meets = other_met rows pending waiting whole dashed_is no_long_is
      ∙ ap (λ (o : Option Text). short_or_plain rules waiting whole o (held rows pending)) short_is

  short_faults : word_fault shape [] false waiting whole (held rows pending) ≡ group_fault
  short_faults = other_fails rows pending waiting whole dashed_is no_long_is
      ∙ ap (λ (o : Option Text). option_map_or (λ (flags : Text). bundle_fault rules false flags (held rows pending)) o []) short_is

  short_stops : group_fault ≢ [] → turn_fault shape [] (walk_at rows pending waiting false) whole ≢ []
  short_stops bad = flag_stops rows pending waiting whole group_fault group_met short_faults short_meets bad

module _ (rows : List Row) (pending : Option (Text × List Text)) (waiting : Waiting) (x : ℕ) (xs : Text) where
  abbrev long_word : Text
  long_word = 45 ∷ 45 ∷ x ∷ xs

  abbrev name : Text
  name = before_first is_equals (x ∷ xs)

  abbrev named_fault : Kinds
  named_fault = long_fault rules false (arg_by_long rules name) (value_in (x ∷ xs)) (held rows pending)

  abbrev named_met : Held × Outcome
  named_met = long_met rules (arg_by_long rules name) (value_in (x ∷ xs)) (held rows pending)

  long_meets : word_met rules [] false waiting 1 long_word (held rows pending) ≡ after_flag rules waiting long_word named_met.0 named_met.1
  long_meets = any_met rows pending waiting long_word refl

  long_faults : word_fault shape [] false waiting long_word (held rows pending) ≡ named_fault
  long_faults = any_fault rows pending waiting long_word refl

  long_stops : named_fault ≢ [] → turn_fault shape [] (walk_at rows pending waiting false) long_word ≢ []
  long_stops bad = flag_stops rows pending waiting long_word named_fault named_met long_faults long_meets bad

-- ---- where what is pending fails, so does the whole

dashes_turn : (waiting : Waiting) (rows : List Row) (pending : Option (Text × List Text)) → turn_fault shape [] (walk_at rows pending waiting false) (45 ∷ 45 ∷ []) ≡ []
dashes_turn waiting rows pending =
    let none = no_subcommand waiting (45 ∷ 45 ∷ []) in
    (λ i. or_else (other_fault shape (none i) (45 ∷ 45 ∷ []) (held rows pending)) (step_fault shape 1
    (subcommand_or_other rules (none i) waiting 1 (45 ∷ 45 ∷ []) (held rows pending)).0
    (subcommand_or_other rules (none i) waiting 1 (45 ∷ 45 ∷ []) (held rows pending)).1))

dashes_walk : (waiting : Waiting) (rows : List Row) (pending : Option (Text × List Text)) →
    walked rules [] (walk_at rows pending waiting false) (45 ∷ 45 ∷ []) ≡ walk_at rows pending waiting true
unfolding walked
dashes_walk waiting rows pending =
    let none = no_subcommand waiting (45 ∷ 45 ∷ []) in
    (λ i. after_step rules (45 ∷ 45 ∷ []) (walk_at rows pending waiting false)
    (subcommand_or_other rules (none i) waiting 1 (45 ∷ 45 ∷ []) (held rows pending)).0
    (subcommand_or_other rules (none i) waiting 1 (45 ∷ 45 ∷ []) (held rows pending)).1)

dashes_fail : (waiting : Waiting) (rest : List Text) (rows : List Row) (pending : Option (Text × List Text)) → settle rows pending ≢ [] →
    total (walk_at rows pending waiting false) ((45 ∷ 45 ∷ []) ∷ rest) ≢ []
dashes_fail waiting rest rows pending bad =
    subst (λ (k : Kinds). k ≢ []) (sym (total_turn (walk_at rows pending waiting false) (walk_at rows pending waiting true) (45 ∷ 45 ∷ []) rest
    (dashes_turn waiting rows pending) (dashes_walk waiting rows pending)))
    (fails_trailing rest rows pending waiting bad)

-- ---- the words

abbrev Free : List Text → Type 0
Free words = (rows : List Row) (pending : Option (Text × List Text)) (waiting : Waiting) (r : Request) → IsFree waiting → Ready r rows pending →
    Fits (read_from words (r, by_shape)) (walk_at rows pending waiting false) words

abbrev WaitsAs : Next → Text → List Text → Type 0
WaitsAs kind id words = (rows : List Row) (r : Request) → Shows r rows →
    Fits (read_from words (r, kind)) (walk_at rows (Some (id, [])) (option id) false) words

-- the words after a word that was read
record Later (words : List Text) : Type 0 where
  free : Free words
  jobs : WaitsAs jobs_value (codes "jobs") words
  by : WaitsAs by_value (codes "by") words

-- a flag, and the words after it
module _ (rest : List Text) (later : Later rest) (rows : List Row) (pending : Option (Text × List Text)) (waiting : Waiting) (word : Text) (fault : Kinds) (met : Held × Outcome)
    (faults : word_fault shape [] false waiting word (held rows pending) ≡ fault)
    (meets : word_met rules [] false waiting 1 word (held rows pending) ≡ after_flag rules waiting word met.0 met.1) where
  waits_then : (r : Request) (kind : Next) (id : Text) → WaitsAs kind id rest → fault ≡ [] → WaitsFor id r met →
      Fits (read_from rest (r, kind)) (walk_at rows pending waiting false) (word ∷ rest)
  waits_then r kind id wants none h =
      let m : Held × Outcome = (held h.0 (Some (id, [])), waits id) in
      by_turn (read_from rest (r, kind)) _ (walk_at h.0 (Some (id, [])) (option id) false) word rest
      (flag_turn rows pending waiting word fault met faults meets m h.1 ∙ ap (λ (k : Kinds). or_else k []) none)
      (flag_walk rows pending waiting word fault met faults meets m h.1) (wants h.0 r h.2)

  after_flag_word : (o : Option Point) → Agrees o fault met → Fits (option_and_then (read_from rest) o) (walk_at rows pending waiting false) (word ∷ rest)
  after_flag_word None h = stops (walk_at rows pending waiting false) word rest (flag_stops rows pending waiting word fault met faults meets h)
  after_flag_word (Some (r, jobs_value)) h = waits_then r jobs_value (codes "jobs") later.jobs h.0 h.1
  after_flag_word (Some (r, by_value)) h = waits_then r by_value (codes "by") later.by h.0 h.1
  after_flag_word (Some (r, by_shape)) h =
      let m : Held × Outcome = (held h.1.0 h.1.1, done) in
      by_turn (read_from rest (r, by_shape)) _ (walk_at h.1.0 h.1.1 idle false) word rest
      (flag_turn rows pending waiting word fault met faults meets m h.1.2 ∙ ap (λ (k : Kinds). or_else k []) h.0)
      (flag_walk rows pending waiting word fault met faults meets m h.1.2) (later.free h.1.0 h.1.1 idle r tt h.1.3)

fails_free : (words : List Text) → CleanWords words → (rows : List Row) (pending : Option (Text × List Text)) (waiting : Waiting) → IsFree waiting → settle rows pending ≢ [] →
    total (walk_at rows pending waiting false) words ≢ []
unfolding walk_fault
fails_free [] clean rows pending waiting free bad = bad
fails_free (w ∷ rest) clean rows pending waiting free bad = elim (kind_of_word w) [
  | dashes e ↦ subst (λ (x : Text). total (walk_at rows pending waiting false) (x ∷ rest) ≢ []) (sym e) (dashes_fail waiting rest rows pending bad)
  | long x xs e ↦ subst (λ (x : Text). total (walk_at rows pending waiting false) (x ∷ rest) ≢ []) (sym e)
      (stops (walk_at rows pending waiting false) (45 ∷ 45 ∷ x ∷ xs) rest (long_stops rows pending waiting x xs (long_fails (before_first is_equals (x ∷ xs)) rows pending bad (value_in (x ∷ xs)))))
  | short d more one e ↦ subst (λ (x : Text). total (walk_at rows pending waiting false) (x ∷ rest) ≢ []) (sym e)
      (stops (walk_at rows pending waiting false) (45 ∷ d ∷ more) rest (short_stops rows pending waiting d more one (group_fails d more (clean.0 d more e).0 rows pending bad)))
  | plain_shape a b c n ↦ stops (walk_at rows pending waiting false) w rest (subst (λ (k : Kinds). k ≢ []) (sym (value_turn rows pending waiting w false
      (plain_fault rows pending waiting w a b c) (plain_met rows pending waiting w a b c ∙ plain_value waiting w (held rows pending) free))) bad)
]

-- what a group reads as
short_reads : (d : ℕ) (more : Text) (r : Request) → (d == 45) ≡ false → word_read (45 ∷ d ∷ more) r ≡ letters (d ∷ more) r
short_reads d more r one = ap (λ (b : Bool). cond b (long_read (before_first is_equals more) (value_in more) r) (letters (d ∷ more) r)) one

plain_reads : (w : Text) (r : Request) → after_hyphen w ≡ None → word_read w r ≡ Some (with_word w r, by_shape)
plain_reads w r e = ap (λ (o : Option Text). option_map_or (λ (text : Text). option_read text r) o (Some (with_word w r, by_shape))) e

free_step : (w : Text) (rest : List Text) → CleanWords (w ∷ rest) → Later rest → Free (w ∷ rest)
unfolding read_from
free_step w rest clean later rows pending waiting r is_free ready =
    let Goal : Text → Type 0 = λ x. Fits (read_from (x ∷ rest) (r, by_shape)) (walk_at rows pending waiting false) (x ∷ rest) in
    let Reads : Text → Bool → Option Point → Type 0 = λ x b o. Fits (cond b (Some (after_dashes rest r)) (option_and_then (read_from rest) o)) (walk_at rows pending waiting false) (x ∷ rest) in
    elim (kind_of_word w) [
      | dashes e ↦ subst Goal (sym e) (by_turn (Some (after_dashes rest r)) _ _ _ rest (dashes_turn waiting rows pending) (dashes_walk waiting rows pending) (trail rest clean.2 rows pending waiting r ready))
      | long x xs e ↦ subst Goal (sym e)
          (after_flag_word rest later rows pending waiting (45 ∷ 45 ∷ x ∷ xs) (named_fault rows pending waiting x xs) (named_met rows pending waiting x xs)
          (long_faults rows pending waiting x xs) (long_meets rows pending waiting x xs)
          (long_read (before_first is_equals (x ∷ xs)) (value_in (x ∷ xs)) r)
          (long_agrees (before_first is_equals (x ∷ xs)) r rows pending ready (value_in (x ∷ xs))))
      | short d more one e ↦ subst Goal (sym e)
          (subst (λ (b : Bool). Reads (45 ∷ d ∷ more) b (word_read (45 ∷ d ∷ more) r)) (sym (dashed_is rows pending waiting d more one))
          (subst (λ (o : Option Point). Reads (45 ∷ d ∷ more) false o) (sym (short_reads d more r one))
          (after_flag_word rest later rows pending waiting (45 ∷ d ∷ more) (group_fault rows pending waiting d more one) (group_met rows pending waiting d more one)
          (short_faults rows pending waiting d more one) (short_meets rows pending waiting d more one)
          (letters (d ∷ more) r)
          (letter d more (clean.0 d more e).0 (λ small r rows pending ready. group_agrees more ((clean.0 d more e).1 small) r rows pending ready) plain r rows pending ready))))
      | plain_shape a b c n ↦
          subst (λ (x : Bool). Reads w x (word_read w r)) (sym a)
          (subst (λ (o : Option Point). Reads w false o) (sym (plain_reads w r n))
          (let met = plain_met rows pending waiting w a b c ∙ plain_value waiting w (held rows pending) is_free in
          by_turn (read_from rest (with_word w r, by_shape)) _ _ w rest
          (value_turn rows pending waiting w false (plain_fault rows pending waiting w a b c) met ∙ ready.passes) (value_walk rows pending waiting w false met)
          (later.free (settled_at rows pending) (Some (codes "word", w ∷ [])) positional (with_word w r) tt (value_ready rows pending waiting w r clean.1 ready))))
    ]

-- ---- a word where an option waits for its value

module _ (id : Text) (missing : (rows : List Row) → settle rows (Some (id, [])) ≢ [])
    (valued : (r : Request) (rows : List Row) (w : Text) → Shows r rows → Uses (use_option id w r) (settle rows (Some (id, w ∷ []))) (settled_at rows (Some (id, w ∷ []))))
    (pushes : (rows : List Row) (w : Text) → plain_word rules (option id) w (held rows (Some (id, []))) ≡ (held rows (Some (id, w ∷ [])), next idle)) where
  value_given : (w : Text) (rest : List Text) → CleanWords rest → Free rest → (rows : List Row) (o : Option Request) →
      Uses o (settle rows (Some (id, w ∷ []))) (settled_at rows (Some (id, w ∷ []))) →
      Fits (option_and_then (λ s. read_from rest (s, by_shape)) o) (walk_at rows (Some (id, w ∷ [])) idle false) rest
  value_given w rest clean free rows None h = fails_free rest clean rows (Some (id, w ∷ [])) idle tt h
  value_given w rest clean free rows (Some s) h = free rows (Some (id, w ∷ [])) idle s tt (record { passes = h.0; shows = h.1 })

  waits_step : (w : Text) (rest : List Text) → CleanWords (w ∷ rest) → Free rest → (rows : List Row) (r : Request) → Shows r rows →
      Fits (option_and_then (λ s. read_from rest (s, by_shape)) (value_read id w r)) (walk_at rows (Some (id, [])) (option id) false) (w ∷ rest)
  unfolding walked
  waits_step w rest clean free rows r shows =
      let pending : Option (Text × List Text) = Some (id, []) in
      let at : Walk = walk_at rows pending (option id) false in
      let Goal : Text → Type 0 = λ x. Fits (option_and_then (λ s. read_from rest (s, by_shape)) (value_read id x r)) at (x ∷ rest) in
      elim (kind_of_word w) [
        | dashes e ↦ subst Goal (sym e) (dashes_fail (option id) rest rows pending (missing rows))
        | long x xs e ↦ subst Goal (sym e) (stops at (45 ∷ 45 ∷ x ∷ xs) rest
            (long_stops rows pending (option id) x xs (long_fails (before_first is_equals (x ∷ xs)) rows pending (missing rows) (value_in (x ∷ xs)))))
        | short d more one e ↦ subst Goal (sym e) (stops at (45 ∷ d ∷ more) rest
            (short_stops rows pending (option id) d more one (group_fails d more (clean.0 d more e).0 rows pending (missing rows))))
        | plain_shape a b c n ↦
            let met = plain_met rows pending (option id) w a b c ∙ pushes rows w in
            subst (λ (o : Option Text). Fits (option_and_then (λ s. read_from rest (s, by_shape)) (cond (is_some o) None (use_option id w r))) at (w ∷ rest)) (sym n)
            (by_turn (option_and_then (λ s. read_from rest (s, by_shape)) (use_option id w r)) at (walk_at rows (Some (id, w ∷ [])) idle false) w rest
            (λ i. or_else (plain_fault rows pending (option id) w a b c i) (step_fault shape 1 (met i).0 (met i).1))
            (λ i. after_step rules w at (met i).0 (met i).1)
            (value_given w rest clean.2 free rows (use_option id w r) (valued r rows w shows)))
      ]

jobs_missing : (rows : List Row) → settle rows (Some (codes "jobs", [])) ≢ []
jobs_missing rows = not_nil kinds.InvalidValue [] _ refl

by_missing : (rows : List Row) → settle rows (Some (codes "by", [])) ≢ []
by_missing rows = not_nil kinds.InvalidValue [] _ refl

reads_later : (words : List Text) → CleanWords words → Later words
unfolding read_from walk_fault
reads_later [] clean = record {
  free = λ rows pending waiting r free ready. (ready.passes, record { stopped = refl; shows = ready.shows });
  jobs = λ rows r shows. jobs_missing rows;
  by = λ rows r shows. by_missing rows;
}
reads_later (w ∷ rest) clean =
    let later = reads_later rest clean.2 in
    record {
      free = free_step w rest clean later;
      jobs = λ rows r shows. waits_step (codes "jobs") jobs_missing (λ r rows w s. jobs_step r rows s w) (λ rows w. refl) w rest clean later.free rows r shows;
      by = λ rows r shows. waits_step (codes "by") by_missing (λ r rows w s. by_step r rows s w) (λ rows w. refl) w rest clean later.free rows r shows;
    }

-- the words are read by clap as a request reads them
pub reads : (words : List Text) → CleanWords words → Free words
reads words clean = (reads_later words clean).free
