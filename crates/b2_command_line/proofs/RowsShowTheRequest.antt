-- What clap's rows show of a request, and how each use changes it.
use Rattle.std.proofs.Common.{◌≡◌, ◌≢◌, Bool, true, false, cond, ◌&&◌, ◌||◌, List, [], ◌∷◌, ◌++◌, Option, None, Some, is_some, option_map, unwrap_or, refl, sym, ap, ◌∙◌, subst, ⊎_elim, true≢false, codes, MatchOption}
use Rattle.std.proofs.lemmas.Bool.{cases_Bool}
use Rattle.std.proofs.lemmas.Slice.Eq.{bytes_eq-Decides}
use Rattle.std.specs.Str.{bytes_eq}
use Rattle.std.specs.List.{AllByRecursion}
use Rattle.clap.specs.Words.{Shape, Rule, Row, Text, all_of, built}
use Rattle.clap.specs.Simple.{filled, with_index}
use Rattle.clap.specs.Walk.{has_row, with_values, without, used, reading_by}
use Rattle.clap.specs.Faults.{use_fault}
use Rattle.clap.specs.Kinds.{Kinds, or_else}
use Rattle.clap.specs.declared.error.kind.ErrorKind.TheVariants as kind
use Rattle.clap.specs.declared.builder.value_parser.Reading.{Reading}
use Rattle.clap.specs.declared.parser.matches.ValueSource.TheVariants.{CommandLine}
use Rattle.b2_base.specs.Bytes.{HasNoZero}
use Rattle.b2_command_line.specs.Parser.{build_app, jobs_rule, all_rule, quit_rule, steps_rule, by_rule, show_rule, explain_rule, clean_rule, word_rule}
use Rattle.b2_command_line.proofs.RequestsReadLeftToRight.{Request, put, use_option, use_flag, with_word}
use Rattle.b2_command_line.proofs.NewValuesChangeOneRow.{has_row-all_of, without-none, all_of-same, all_of-other}

-- the arguments of the built command
abbrev pub jr : Rule
jr = filled jobs_rule

abbrev pub ar : Rule
ar = filled all_rule

abbrev pub qr : Rule
qr = filled quit_rule

abbrev pub nr : Rule
nr = filled steps_rule

abbrev pub br : Rule
br = filled by_rule

abbrev pub sr : Rule
sr = filled show_rule

abbrev pub er : Rule
er = filled explain_rule

abbrev pub cr : Rule
cr = filled clean_rule

abbrev pub wr : Rule
wr = with_index 1 (filled word_rule)

abbrev pub shape : Shape
shape = (built build_app).top

abbrev pub rules : List Rule
rules = jr ∷ ar ∷ qr ∷ nr ∷ br ∷ sr ∷ er ∷ cr ∷ wr ∷ []

rules_are : shape.rules ≡ rules
rules_are = refl

abbrev pub word_id : Text
word_id = codes "word"

abbrev pub value_list : Option Text → Option (List Text)
value_list o = option_map (λ (v : Text). v ∷ []) o

abbrev pub word_values : List Text → Option (List Text)
word_values [] = None
word_values (w ∷ ws) = Some (w ∷ ws)

-- the ids of flags
abbrev pub is_flag : Text → Bool
is_flag id =
    bytes_eq (codes "all") id || (bytes_eq (codes "quit") id || (bytes_eq (codes "steps") id || (bytes_eq (codes "show") id
    || (bytes_eq (codes "explain") id || bytes_eq (codes "clean") id))))

pub record Shows (r : Request) (rows : List Row) : Type 0 where
  pub given : (id : Text) → bytes_eq word_id id ≡ false → all_of id rows ≡ value_list (r.given id)
  pub flags : (id v : Text) → is_flag id ≡ true → r.given id ≡ Some v → v ≡ codes "true"
  pub words : all_of word_id rows ≡ word_values r.words
  pub no_zero : AllByRecursion HasNoZero r.words

more_words : (ws : List Text) (w : Text) → Some (unwrap_or (word_values ws) [] ++ w ∷ []) ≡ word_values (ws ++ w ∷ [])
more_words [] w = refl
more_words (x ∷ xs) w = refl

more_no_zero : (ws : List Text) (w : Text) → AllByRecursion HasNoZero ws → HasNoZero w → AllByRecursion HasNoZero (ws ++ w ∷ [])
more_no_zero [] w all one = (one, tt)
more_no_zero (x ∷ xs) w all one = (all.0, more_no_zero xs w all.1 one)

some_is : (x y : Text) → Some x ≡ Some y → x ≡ y
some_is x y e = cc

module _ (how : Reading) (r : Request) (rows : List Row) (s : Shows r rows) where
  module _ (id v : Text) (from_word : bytes_eq word_id id ≡ false) (to_word : bytes_eq id word_id ≡ false) (self : bytes_eq id id ≡ true) (flag : is_flag id ≡ true → v ≡ codes "true") (none : r.given id ≡ None) where
    abbrev after : List Row → List Row
    after rs = with_values id how CommandLine (v ∷ []) rs

    row_none : all_of id rows ≡ None
    row_none = s.given id from_word ∙ ap value_list none

    same_given : (other : Text) → bytes_eq id other ≡ true → all_of other (after rows) ≡ value_list (cond (bytes_eq id other) (Some v) (r.given other))
    same_given other e =
        let is : id ≡ other = (bytes_eq-Decides id other).0 e in
        ap (λ (t : Text). all_of t (after rows)) (sym is)
        ∙ all_of-same id how CommandLine (v ∷ []) rows self
        ∙ ap (λ (o : Option (List Text)). Some (unwrap_or o [] ++ v ∷ [])) row_none
        ∙ sym (ap (λ (b : Bool). value_list (cond b (Some v) (r.given other))) e)

    other_given : (other : Text) → bytes_eq word_id other ≡ false → bytes_eq id other ≡ false → all_of other (after rows) ≡ value_list (cond (bytes_eq id other) (Some v) (r.given other))
    other_given other ne e =
        all_of-other id how CommandLine (v ∷ []) other rows e ∙ s.given other ne
        ∙ sym (ap (λ (b : Bool). value_list (cond b (Some v) (r.given other))) e)

    put_flags : (other u : Text) → is_flag other ≡ true → (put id v r).given other ≡ Some u → u ≡ codes "true"
    put_flags other u f e = ⊎_elim
        (λ h.
        let is : id ≡ other = (bytes_eq-Decides id other).0 h in
        let same : Some v ≡ Some u = sym (ap (λ (b : Bool). cond b (Some v) (r.given other)) h) ∙ e in
        sym (some_is v u same) ∙ flag (ap is_flag is ∙ f))
        (λ h. s.flags other u f (sym (ap (λ (b : Bool). cond b (Some v) (r.given other)) h) ∙ e))
        (cases_Bool (bytes_eq id other))

    pub put_shows : Shows (put id v r) (after (without id rows))
    put_shows = subst (λ (t : List Row). Shows (put id v r) (after t)) (sym (without-none id rows row_none)) (record {
      given = λ other ne. ⊎_elim (same_given other) (other_given other ne) (cases_Bool (bytes_eq id other));
      flags = put_flags;
      words = all_of-other id how CommandLine (v ∷ []) word_id rows to_word ∙ s.words;
      no_zero = s.no_zero;
    })

  pub word_shows : (v : Text) → HasNoZero v → Shows (with_word v r) (with_values word_id how CommandLine (v ∷ []) rows)
  word_shows v plain = record {
    given = λ id ne. all_of-other word_id how CommandLine (v ∷ []) id rows ne ∙ s.given id ne;
    flags = s.flags;
    words = all_of-same word_id how CommandLine (v ∷ []) rows refl ∙ ap (λ (o : Option (List Text)). Some (unwrap_or o [] ++ v ∷ [])) s.words ∙ more_words r.words v;
    no_zero = more_no_zero r.words v s.no_zero plain;
  }

  pub has_given : (id : Text) → bytes_eq word_id id ≡ false → has_row id rows ≡ is_some (r.given id)
  has_given id ne = has_row-all_of id rows ∙ ap is_some (s.given id ne) ∙ value_is (r.given id)
    where
      value_is : (o : Option Text) → is_some (value_list o) ≡ is_some o
      value_is None = refl
      value_is (Some v) = refl

abbrev pub conflict : Bool → Kinds
conflict b = cond (b && true) (kind.ArgumentConflict ∷ []) []

pub not_nil : {A : Type 0} (x : A) (xs ks : List A) → ks ≡ x ∷ xs → ks ≢ []
not_nil x xs ks e z = let bad : x ∷ xs ≡ [] = sym e ∙ z in absurd cc

-- the use of an option fails exactly where the request has none after it
abbrev pub Uses : Option Request → Kinds → List Row → Type 0
Uses after fault rows = MatchOption after (fault ≢ []) (λ r. (fault ≡ []) × Shows r rows)

uses_none : (o : Option Request) (fault : Kinds) (rows : List Row) → o ≡ None → fault ≢ [] → Uses o fault rows
uses_none o fault rows e h = subst (λ (x : Option Request). Uses x fault rows) (sym e) h

uses_some : (o : Option Request) (r : Request) (fault : Kinds) (rows : List Row) → o ≡ Some r → fault ≡ [] → Shows r rows → Uses o fault rows
uses_some o r fault rows e h s = subst (λ (x : Option Request). Uses x fault rows) (sym e) (h, s)

none_of : (o : Option Text) → is_some o ≡ false → o ≡ None
none_of None e = refl
none_of (Some x) e = absurd (true≢false e)

module _ (r : Request) (rows : List Row) (s : Shows r rows) where
  use_step : (id v : Text) (how : Reading) (U : Kinds) → bytes_eq word_id id ≡ false → bytes_eq id word_id ≡ false → bytes_eq id id ≡ true → (is_flag id ≡ true → v ≡ codes "true") →
      U ≡ or_else (conflict (has_row id rows)) [] → Uses (use_option id v r) U (with_values id how CommandLine (v ∷ []) (without id rows))
  use_step id v how U from_word to_word self flag u =
      let is : U ≡ or_else (conflict (is_some (r.given id))) [] = u ∙ ap (λ (b : Bool). or_else (conflict b) []) (has_given how r rows s id from_word) in
      ⊎_elim
      (λ e. uses_none (use_option id v r) _ _ (ap (λ (b : Bool). cond b None (Some (put id v r))) e)
      (not_nil kind.ArgumentConflict [] _ (is ∙ ap (λ (b : Bool). or_else (conflict b) []) e)))
      (λ e. uses_some (use_option id v r) (put id v r) _ _ (ap (λ (b : Bool). cond b None (Some (put id v r))) e)
      (is ∙ ap (λ (b : Bool). or_else (conflict b) []) e)
      (put_shows how r rows s id v from_word to_word self flag (none_of (r.given id) e)))
      (cases_Bool (is_some (r.given id)))

  pub all_step : Uses (use_flag (codes "all") r) (use_fault false ar [] rows) (used ar [] rows)
  all_step = use_step (codes "all") (codes "true") (reading_by ar) _ refl refl refl (λ _. refl) refl

  pub quit_step : Uses (use_flag (codes "quit") r) (use_fault false qr [] rows) (used qr [] rows)
  quit_step = use_step (codes "quit") (codes "true") (reading_by qr) _ refl refl refl (λ _. refl) refl

  pub steps_step : Uses (use_flag (codes "steps") r) (use_fault false nr [] rows) (used nr [] rows)
  steps_step = use_step (codes "steps") (codes "true") (reading_by nr) _ refl refl refl (λ _. refl) refl

  pub show_step : Uses (use_flag (codes "show") r) (use_fault false sr [] rows) (used sr [] rows)
  show_step = use_step (codes "show") (codes "true") (reading_by sr) _ refl refl refl (λ _. refl) refl

  pub explain_step : Uses (use_flag (codes "explain") r) (use_fault false er [] rows) (used er [] rows)
  explain_step = use_step (codes "explain") (codes "true") (reading_by er) _ refl refl refl (λ _. refl) refl

  pub clean_step : Uses (use_flag (codes "clean") r) (use_fault false cr [] rows) (used cr [] rows)
  clean_step = use_step (codes "clean") (codes "true") (reading_by cr) _ refl refl refl (λ _. refl) refl

  pub jobs_step : (v : Text) → Uses (use_option (codes "jobs") v r) (use_fault false jr (v ∷ []) rows) (used jr (v ∷ []) rows)
  jobs_step v = use_step (codes "jobs") v (reading_by jr) _ refl refl refl (λ e. absurd (true≢false (sym e))) refl

  pub by_step : (v : Text) → Uses (use_option (codes "by") v r) (use_fault false br (v ∷ []) rows) (used br (v ∷ []) rows)
  by_step v = use_step (codes "by") v (reading_by br) _ refl refl refl (λ e. absurd (true≢false (sym e))) refl
