-- Where no word is grouped, clap's matches ask for what the grammar gives, and what clap refuses has no reading.
use Rattle.std.proofs.Common.{◌≡◌, ◌≢◌, true, false, List, [], ◌∷◌, All, IsUtf8, Option, None, unwrap_or, option_map, option_and_then, codes, refl, sym, ap, ◌∙◌, subst}
use Rattle.std.proofs.lemmas.List.Elements.{All-from_recursion}
use Rattle.clap.specs.Words.{Row, Text, all_of, fault_of, first_of, first_value, is_simple, is_simple_and_free, matches_of, rows_of}
use Rattle.clap.specs.declared.parser.matches.Found.{Found}
use Rattle.clap.proofs.WalkLemmas.{first_value-rows, raw_values-rows}
use Rattle.b2_base.specs.Bytes.{HasNoZero}
use Rattle.b2_command_line.specs.Words.{command_asked, with_words, build_reading}
use Rattle.b2_command_line.specs.Grouped.{any_grouped}
use Rattle.b2_command_line.specs.Parser.{build_app, is_true, words_found, asked_in, command_in}
use Rattle.b2_command_line.proofs.RequestsReadLeftToRight.{Request, read_all, requested}
use Rattle.b2_command_line.proofs.ClapAcceptsWhatRequestsRead.{ShowsAll, bridge, value_shown, flag_shown, words_shown, some_of, none_of}
use Rattle.b2_command_line.proofs.AsciiBytesAreCharacters.{clean_words}
use Rattle.b2_command_line.proofs.RequestsReadAsGrammarSays.{build_read}

pub simple : is_simple build_app ≡ true
simple = refl

pub simple_and_free : is_simple_and_free build_app ≡ true
simple_and_free = refl

-- what is found with rows that show a request
module _ (f : Found) (rows : List Row) (same : rows_of f ≡ rows) (r : Request) (s : ShowsAll r rows) where
  at : (id : Text) → first_value f id ≡ first_of id rows
  at id = first_value-rows f id ∙ ap (first_of id) same

  value_at : (id : Text) → all_of id rows ≡ option_map (λ (v : Text). v ∷ []) (r.given id) → first_value f id ≡ r.given id
  value_at id e = at id ∙ value_shown id rows (r.given id) e

  words_at : words_found f ≡ r.words
  words_at = ap (λ (o : Option (List Text)). unwrap_or o []) (raw_values-rows f (codes "word") ∙ ap (all_of (codes "word")) same) ∙ words_shown rows r.words s.words

  found_asks : asked_in f ≡ requested r
  unfolding command_in
  found_asks =
      let jobs = value_at (codes "jobs") s.jobs in
      let by = value_at (codes "by") s.by in
      let all = ap is_true (at (codes "all")) ∙ flag_shown (codes "all") rows (r.given (codes "all")) s.all in
      let quit = ap is_true (at (codes "quit")) ∙ flag_shown (codes "quit") rows (r.given (codes "quit")) s.quit in
      let steps = ap is_true (at (codes "steps")) ∙ flag_shown (codes "steps") rows (r.given (codes "steps")) s.steps in
      let show = ap is_true (at (codes "show")) ∙ flag_shown (codes "show") rows (r.given (codes "show")) s.show in
      let explain = ap is_true (at (codes "explain")) ∙ flag_shown (codes "explain") rows (r.given (codes "explain")) s.explain in
      let clean = ap is_true (at (codes "clean")) ∙ flag_shown (codes "clean") rows (r.given (codes "clean")) s.clean in
      λ i. option_map (with_words (words_at i)) (command_asked (jobs i) (by i) (all i) (quit i) (steps i) (show i) (explain i) (clean i))

  found_plain : All HasNoZero (words_found f)
  found_plain = subst (All HasNoZero) (sym words_at) (All-from_recursion HasNoZero r.words s.no_zero)

module _ (words : List Text) (utf8 : All IsUtf8 words) (no_zero : All HasNoZero words) (apart : any_grouped words ≡ false) where
  abbrev Said : Request → Type 0
  Said r = ShowsAll r (matches_of build_app words)

  -- where clap takes the words, its matches ask for what the grammar gives
  pub matched : (f : Found) → fault_of build_app words ≡ [] → rows_of f ≡ matches_of build_app words → (build_reading words ≡ asked_in f) × All HasNoZero (words_found f)
  matched f none same =
      let found = some_of (read_all words) (fault_of build_app words) Said (bridge words (clean_words words utf8 no_zero)) none in (
        sym (build_read words apart) ∙ ap (option_and_then requested) found.1 ∙ sym (found_asks f (matches_of build_app words) same found.0 found.2),
        found_plain f (matches_of build_app words) same found.0 found.2,
      )

  -- where clap refuses them, the grammar has no reading
  pub unmatched : fault_of build_app words ≢ [] → build_reading words ≡ None
  unmatched some =
      sym (build_read words apart)
      ∙ ap (option_and_then requested) (none_of (read_all words) (fault_of build_app words) Said (bridge words (clean_words words utf8 no_zero)) some)
