-- clap refuses words exactly where a request reads none, and its matches show the request.
use Rattle.std.proofs.Common.{◌≡◌, ◌≢◌, Bool, true, false, cond, if◌then◌else◌, ◌||◌, List, [], ◌∷◌, ◌++◌, Option, None, Some, is_some, option_map, unwrap_or, refl, sym, ap, ◌∙◌, subst, ⊎_elim, codes, MatchOption, option_and_then, slice_get, find}
use Rattle.std.proofs.lemmas.Bool.{cases_Bool}
use Rattle.std.specs.List.{AllByRecursion}
use Rattle.std.specs.Str.{bytes_eq}
use Rattle.clap.specs.Words.{Row, Rule, Text, all_of, first_of, built, fault_of, matches_of}
use Rattle.clap.specs.Simple.{entered}
use Rattle.clap.specs.Walk.{Walk, finished, has_row, idle, settled, with_default, with_values, reading_by}
use Rattle.clap.specs.Faults.{check_fault, defaults_fault, entered_fault, settle_fault, walk_fault}
use Rattle.clap.specs.Kinds.{Kinds, or_else}
use Rattle.clap.specs.declared.parser.matches.ValueSource.TheVariants.{DefaultValue}
use Rattle.b2_base.specs.Bytes.{HasNoZero}
use Rattle.b2_command_line.specs.Parser.{build_app, is_true}
use Rattle.b2_command_line.proofs.RequestsReadLeftToRight.{Request, nothing, read_all}
use Rattle.b2_command_line.proofs.NewValuesChangeOneRow.{has_row-all_of, all_of-same, all_of-other}
use Rattle.b2_command_line.proofs.RowsShowTheRequest.{Shows, jr, ar, qr, nr, br, sr, er, cr, wr, rules, shape, word_id, value_list, word_values}
use Rattle.b2_command_line.proofs.ClapAgreesOnGroups.{or_else_stops}
use Rattle.b2_command_line.proofs.ClapAgreesOnAllWords.{CleanWords, Fits, ends, walk_at, reads}

abbrev pub flag_text : Bool → Text
flag_text b = if b then codes "true" else codes "false"

-- the values of a flag, which has one in any case
abbrev pub flag_list : Option Text → Option (List Text)
flag_list o = Some (flag_text (is_some o) ∷ [])

-- what the matches show of a request
pub record ShowsAll (r : Request) (rows : List Row) : Type 0 where
  pub jobs : all_of (codes "jobs") rows ≡ value_list (r.given (codes "jobs"))
  pub by : all_of (codes "by") rows ≡ value_list (r.given (codes "by"))
  pub all : all_of (codes "all") rows ≡ flag_list (r.given (codes "all"))
  pub quit : all_of (codes "quit") rows ≡ flag_list (r.given (codes "quit"))
  pub steps : all_of (codes "steps") rows ≡ flag_list (r.given (codes "steps"))
  pub show : all_of (codes "show") rows ≡ flag_list (r.given (codes "show"))
  pub explain : all_of (codes "explain") rows ≡ flag_list (r.given (codes "explain"))
  pub clean : all_of (codes "clean") rows ≡ flag_list (r.given (codes "clean"))
  pub words : all_of word_id rows ≡ word_values r.words
  pub no_zero : AllByRecursion HasNoZero r.words

or_true : {A : Type 0} (b : Bool) (x y : A) → cond (b || true) x y ≡ x
or_true true x y = refl
or_true false x y = refl

either_way : {A : Type 0} (b : Bool) (x : A) → cond (b || false) x x ≡ x
either_way true x = refl
either_way false x = refl

same_way : {A : Type 0} (b : Bool) (x : A) → cond b x x ≡ x
same_way true x = refl
same_way false x = refl

or_else_both : (a b : Kinds) → or_else a b ≡ [] → (a ≡ []) × (b ≡ [])
or_else_both [] b e = (refl, e)
or_else_both (k ∷ ks) b e = absurd cc

late_stop : (a b c d : Kinds) → or_else a c ≢ [] → or_else a (or_else b (or_else c d)) ≢ []
late_stop (k ∷ ks) b c d h = h
late_stop [] (k ∷ ks) c d h = λ e. let bad : k ∷ ks ≡ [] = e in absurd cc
late_stop [] [] c d h = or_else_stops c d h

defaults_none : (rows : List Row) → defaults_fault rows rules ≡ []
unfolding defaults_fault
defaults_none rows =
    let one = with_default rows jr in
    let two = with_default one ar in
    let three = with_default two qr in
    let four = with_default three nr in
    let five = with_default four br in
    let six = with_default five sr in
    let seven = with_default six er in
    let eight = with_default seven cr in
    (λ i. or_else (or_true (has_row (codes "jobs") rows) [] [] i)
    (or_else (either_way (has_row (codes "all") one) [] i)
    (or_else (either_way (has_row (codes "quit") two) [] i)
    (or_else (either_way (has_row (codes "steps") three) [] i)
    (or_else (or_true (has_row (codes "by") four) [] [] i)
    (or_else (either_way (has_row (codes "show") five) [] i)
    (or_else (either_way (has_row (codes "explain") six) [] i)
    (or_else (either_way (has_row (codes "clean") seven) [] i)
    (or_else (or_true (has_row (codes "word") eight) [] [] i) [])))))))))

-- a flag that was not used gets `false`
module _ (id : Text) (a : Rule) (self : bytes_eq id id ≡ true) where
  abbrev defaulted : List Row → List Row
  defaulted rows = cond (has_row id rows) rows (with_values id (reading_by a) DefaultValue (codes "false" ∷ []) rows)

  flag_default : (o : Option Text) (rows : List Row) → ((v : Text) → o ≡ Some v → v ≡ codes "true") → all_of id rows ≡ value_list o → all_of id (defaulted rows) ≡ flag_list o
  flag_default (Some v) rows is e =
      let has : has_row id rows ≡ true = has_row-all_of id rows ∙ ap is_some e in
      ap (λ (b : Bool). all_of id (cond b rows (with_values id (reading_by a) DefaultValue (codes "false" ∷ []) rows))) has ∙ e
      ∙ ap (λ (t : Text). Some (t ∷ [])) (is v refl)
  flag_default None rows is e =
      let has : has_row id rows ≡ false = has_row-all_of id rows ∙ ap is_some e in
      ap (λ (b : Bool). all_of id (cond b rows (with_values id (reading_by a) DefaultValue (codes "false" ∷ []) rows))) has
      ∙ all_of-same id (reading_by a) DefaultValue (codes "false" ∷ []) rows self ∙ ap (λ (o : Option (List Text)). Some (unwrap_or o [] ++ codes "false" ∷ [])) e

  flag_other : (other : Text) (rows : List Row) → bytes_eq id other ≡ false → all_of other (defaulted rows) ≡ all_of other rows
  flag_other other rows ne = ⊎_elim
      (λ e. ap (λ (b : Bool). all_of other (cond b rows (with_values id (reading_by a) DefaultValue (codes "false" ∷ []) rows))) e)
      (λ e. ap (λ (b : Bool). all_of other (cond b rows (with_values id (reading_by a) DefaultValue (codes "false" ∷ []) rows))) e
      ∙ all_of-other id (reading_by a) DefaultValue (codes "false" ∷ []) other rows ne)
      (cases_Bool (has_row id rows))

module _ (rows : List Row) where
  abbrev one : List Row
  one = defaulted (codes "all") ar refl rows

  abbrev two : List Row
  two = defaulted (codes "quit") qr refl one

  abbrev three : List Row
  three = defaulted (codes "steps") nr refl two

  abbrev four : List Row
  four = defaulted (codes "show") sr refl three

  abbrev five : List Row
  five = defaulted (codes "explain") er refl four

  abbrev six : List Row
  six = defaulted (codes "clean") cr refl five

  -- the rows with the defaults of all arguments, one after another
  abbrev all_defaults : List Row
  all_defaults =
      with_default (with_default (with_default (with_default (with_default (with_default (with_default (with_default (with_default rows jr) ar) qr) nr) br) sr) er) cr) wr

  -- they are those of all flags
  last_is : all_defaults ≡ six
  last_is =
      (λ i. with_default (with_default (with_default (with_default (with_default (with_default (with_default (with_default (same_way (has_row (codes "jobs") rows) rows i) ar) qr) nr) br) sr) er) cr) wr)
      ∙ (λ i. with_default (with_default (with_default (with_default (same_way (has_row (codes "by") three) three i) sr) er) cr) wr)
      ∙ same_way (has_row (codes "word") six) six

  at_five : (id : Text) → bytes_eq (codes "clean") id ≡ false → all_of id six ≡ all_of id five
  at_five id f = flag_other (codes "clean") cr refl id five f

  at_four : (id : Text) → bytes_eq (codes "explain") id ≡ false → bytes_eq (codes "clean") id ≡ false → all_of id six ≡ all_of id four
  at_four id e f = at_five id f ∙ flag_other (codes "explain") er refl id four e

  at_three : (id : Text) → bytes_eq (codes "show") id ≡ false → bytes_eq (codes "explain") id ≡ false → bytes_eq (codes "clean") id ≡ false → all_of id six ≡ all_of id three
  at_three id d e f = at_four id e f ∙ flag_other (codes "show") sr refl id three d

  at_two : (id : Text) → bytes_eq (codes "steps") id ≡ false → bytes_eq (codes "show") id ≡ false → bytes_eq (codes "explain") id ≡ false → bytes_eq (codes "clean") id ≡ false → all_of id six ≡ all_of id two
  at_two id c d e f = at_three id d e f ∙ flag_other (codes "steps") nr refl id two c

  at_one : (id : Text) → bytes_eq (codes "quit") id ≡ false → bytes_eq (codes "steps") id ≡ false → bytes_eq (codes "show") id ≡ false → bytes_eq (codes "explain") id ≡ false → bytes_eq (codes "clean") id ≡ false → all_of id six ≡ all_of id one
  at_one id b c d e f = at_two id c d e f ∙ flag_other (codes "quit") qr refl id one b

  at_rows : (id : Text) → bytes_eq (codes "all") id ≡ false → bytes_eq (codes "quit") id ≡ false → bytes_eq (codes "steps") id ≡ false → bytes_eq (codes "show") id ≡ false → bytes_eq (codes "explain") id ≡ false
      → bytes_eq (codes "clean") id ≡ false → all_of id six ≡ all_of id rows
  at_rows id a b c d e f = at_one id b c d e f ∙ flag_other (codes "all") ar refl id rows a

  -- what the flags before have made of the rows of another one
  one_at : (id : Text) → bytes_eq (codes "all") id ≡ false → all_of id one ≡ all_of id rows
  one_at id a = flag_other (codes "all") ar refl id rows a

  two_at : (id : Text) → bytes_eq (codes "all") id ≡ false → bytes_eq (codes "quit") id ≡ false → all_of id two ≡ all_of id rows
  two_at id a b = flag_other (codes "quit") qr refl id one b ∙ one_at id a

  three_at : (id : Text) → bytes_eq (codes "all") id ≡ false → bytes_eq (codes "quit") id ≡ false → bytes_eq (codes "steps") id ≡ false → all_of id three ≡ all_of id rows
  three_at id a b c = flag_other (codes "steps") nr refl id two c ∙ two_at id a b

  four_at : (id : Text) → bytes_eq (codes "all") id ≡ false → bytes_eq (codes "quit") id ≡ false → bytes_eq (codes "steps") id ≡ false → bytes_eq (codes "show") id ≡ false → all_of id four ≡ all_of id rows
  four_at id a b c d = flag_other (codes "show") sr refl id three d ∙ three_at id a b c

  five_at : (id : Text) → bytes_eq (codes "all") id ≡ false → bytes_eq (codes "quit") id ≡ false → bytes_eq (codes "steps") id ≡ false → bytes_eq (codes "show") id ≡ false → bytes_eq (codes "explain") id ≡ false
      → all_of id five ≡ all_of id rows
  five_at id a b c d e = flag_other (codes "explain") er refl id four e ∙ four_at id a b c d

  six_shows : (r : Request) → Shows r rows → ShowsAll r six
  six_shows r s = record {
    jobs = at_rows (codes "jobs") refl refl refl refl refl refl ∙ s.given (codes "jobs") refl;
    by = at_rows (codes "by") refl refl refl refl refl refl ∙ s.given (codes "by") refl;
    all = at_one (codes "all") refl refl refl refl refl ∙ flag_default (codes "all") ar refl (r.given (codes "all")) rows (λ v e. s.flags (codes "all") v refl e) (s.given (codes "all") refl);
    quit = at_two (codes "quit") refl refl refl refl ∙ flag_default (codes "quit") qr refl (r.given (codes "quit")) one (λ v e. s.flags (codes "quit") v refl e)
        (one_at (codes "quit") refl ∙ s.given (codes "quit") refl);
    steps = at_three (codes "steps") refl refl refl ∙ flag_default (codes "steps") nr refl (r.given (codes "steps")) two (λ v e. s.flags (codes "steps") v refl e)
        (two_at (codes "steps") refl refl ∙ s.given (codes "steps") refl);
    show = at_four (codes "show") refl refl ∙ flag_default (codes "show") sr refl (r.given (codes "show")) three (λ v e. s.flags (codes "show") v refl e)
        (three_at (codes "show") refl refl refl ∙ s.given (codes "show") refl);
    explain = at_five (codes "explain") refl ∙ flag_default (codes "explain") er refl (r.given (codes "explain")) four (λ v e. s.flags (codes "explain") v refl e)
        (four_at (codes "explain") refl refl refl refl ∙ s.given (codes "explain") refl);
    clean = flag_default (codes "clean") cr refl (r.given (codes "clean")) five (λ v e. s.flags (codes "clean") v refl e)
        (five_at (codes "clean") refl refl refl refl refl ∙ s.given (codes "clean") refl);
    words = at_rows word_id refl refl refl refl refl refl ∙ s.words;
    no_zero = s.no_zero;
  }

  finished_shows : (r : Request) → Shows r rows → ShowsAll r all_defaults
  finished_shows r s = subst (ShowsAll r) (sym last_is) (six_shows r s)

no_value : (v : Text) → None ≡ Some v → v ≡ codes "true"
no_value v e = absurd cc

empty_shows : Shows nothing []
empty_shows = record { given = λ id e. refl; flags = λ id v f e. no_value v e; words = refl; no_zero = tt }

module _ (words : List Text) where
  abbrev start : Walk
  start = walk_at [] None idle false

  abbrev end : Walk
  end = ends start words

  -- the kinds of a parse, from those of the walk and of what is pending at its end
  abbrev fault_by : Kinds → Kinds → Option (Text × List Text) → Kinds
  fault_by walking pending stop = or_else walking (or_else (entered_fault (built build_app) stop) (or_else pending
      (or_else (defaults_fault (settled rules end.held).rows rules)
      (check_fault shape (finished rules end.held) (is_some (entered (built build_app) stop))))))

  fault_is : fault_of build_app words ≡ fault_by (walk_fault shape [] start words) (settle_fault rules false end.held) end.stopped
  fault_is = refl

  pub bridge : CleanWords words → MatchOption (read_all words) (fault_of build_app words ≢ [])
      (λ r. (fault_of build_app words ≡ []) × ShowsAll r (matches_of build_app words))
  bridge clean = by (read_all words) (reads words clean [] None idle nothing tt (record { passes = refl; shows = empty_shows }))
    where
      by : (o : Option Request) → Fits o start words → MatchOption o (fault_of build_app words ≢ [])
          (λ r. (fault_of build_app words ≡ []) × ShowsAll r (matches_of build_app words))
      by None h = late_stop _ (entered_fault (built build_app) end.stopped) _ _ h
      by (Some r) h =
          let parts = or_else_both _ _ h.0 in (
            (λ i. fault_by (parts.0 i) (parts.1 i) (h.1.stopped i)) ∙ ap (λ (k : Kinds). or_else k []) (defaults_none (settled rules end.held).rows),
            finished_shows (settled rules end.held).rows r h.1.shows,
          )

-- what the getters read of the rows
first_from : (id : Text) (rows : List Row) → first_of id rows ≡ option_and_then (λ (vs : List Text). slice_get vs 0) (all_of id rows)
first_from id rows = by (find (λ (r : Row). bytes_eq r.id id) rows)
  where
    by : (o : Option Row) → option_and_then (λ (r : Row). slice_get r.values 0) o ≡ option_and_then (λ (vs : List Text). slice_get vs 0) (option_map (λ (r : Row). r.values) o)
    by None = refl
    by (Some r) = refl

pub value_shown : (id : Text) (rows : List Row) (o : Option Text) → all_of id rows ≡ value_list o → first_of id rows ≡ o
value_shown id rows o e = first_from id rows ∙ ap (option_and_then (λ (vs : List Text). slice_get vs 0)) e ∙ by o
  where
    by : (o : Option Text) → option_and_then (λ (vs : List Text). slice_get vs 0) (value_list o) ≡ o
    by None = refl
    by (Some v) = refl

pub flag_shown : (id : Text) (rows : List Row) (o : Option Text) → all_of id rows ≡ flag_list o → is_true (first_of id rows) ≡ is_some o
flag_shown id rows o e = ap is_true (first_from id rows ∙ ap (option_and_then (λ (vs : List Text). slice_get vs 0)) e) ∙ by o
  where
    by : (o : Option Text) → is_true (Some (flag_text (is_some o))) ≡ is_some o
    by None = refl
    by (Some v) = refl

pub words_shown : (rows : List Row) (ws : List Text) → all_of word_id rows ≡ word_values ws → unwrap_or (all_of word_id rows) [] ≡ ws
words_shown rows ws e = ap (λ (o : Option (List Text)). unwrap_or o []) e ∙ by ws
  where
    by : (ws : List Text) → unwrap_or (word_values ws) [] ≡ ws
    by [] = refl
    by (w ∷ ws) = refl

pub some_of : (o : Option Request) (F : Kinds) (P : Request → Type 0) → MatchOption o (F ≢ []) (λ r. (F ≡ []) × P r) → F ≡ [] → (r : Request) × (o ≡ Some r) × P r
some_of None F P h e = absurd (h e)
some_of (Some r) F P h e = (r, refl, h.1)

pub none_of : (o : Option Request) (F : Kinds) (P : Request → Type 0) → MatchOption o (F ≢ []) (λ r. (F ≡ []) × P r) → F ≢ [] → o ≡ None
none_of None F P h e = refl
none_of (Some r) F P h e = absurd (e h.0)
