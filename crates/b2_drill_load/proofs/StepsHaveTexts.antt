-- The text of each step of a drill.
use Rattle.std.proofs.Common.{◌≡◌, ◌≢◌, ℕ, zero, suc, ◌<◌, ◌≤◌, ◌+◌, ◌-◌, ◌*◌, ◌/◌, true, false, ltb, List, [], ◌∷◌, ◌++◌, length, take, get_or, codes, Some, None, is_some, Ok, refl, ap, subst, ◌∙◌, append_assoc, arith}
use Rattle.std.specs.Prelude.{if◌then◌else◌}
use Rattle.std.specs.Fmt.{decimal}
use Rattle.std.specs.FinMap as map
use Rattle.std.specs.List.{AllByRecursion, join_with_byte, suffix_len}
use Rattle.std.proofs.lemmas.Bool.{le-ltb}
use Rattle.std.proofs.lemmas.Fmt.{decimal_nonempty}
use Rattle.std.proofs.lemmas.List.{length-append, take_at, get_or_at, get_or_append_left, get_or-append-add}
use Rattle.std.proofs.lemmas.List.Elements.{All-from_recursion}
use Rattle.std.proofs.lemmas.List.Sums.{suffix_len_is}
use Rattle.b2_base.specs.Bytes.{is_white}
use Rattle.b2_base.specs.Results.{and_then}
use Rattle.b2_base.specs.Segments.{here}
use Rattle.b2_drill.specs.Drills.{source_name}
use Rattle.b2_drill_clean.specs.Steps.{output, inputs, step_text}
use Rattle.b2_drill_load.specs.Evaluated.{owner, join_actions, file_world}
use Rattle.b2_drill_load.specs.Texts.{loaded_worlds, drill_job, drill_answer}
use Rattle.b2_drill_load.proofs.FileRuns.{key_order, nowhere}
use Rattle.b2_drill_text.proofs.NamesNeedNoQuotes.{IsDigit, all_digits}
use Rattle.b2_drill_text.proofs.FileIsSmall.{digits}
use Rattle.jam_expand.specs.Bodies.{spaces, interleaved, without_end, trimmed, body_texts, body_expansion}
use Rattle.jam_expand.specs.Expansions.{expansion}
use Rattle.jam_expand.specs.Limits.{limit, first_above, unless_above, within}
use Rattle.jam_expand.specs.PlainNames.{IsNameByte}
use Rattle.jam_expand.proofs.PlainWordsExpandToThemselves.{plain_expansion, name_is_its_list}
use Rattle.jam_journal.specs.Tables.{Text, Table, key_cmp}
use Rattle.jam_journal.specs.Scopes.{Frame}
use Rattle.jam_scope.specs.Changes.{set_place}
use Rattle.jam_scope.specs.Lines.{line_by, dotted, in_each, places_from, first_at, at_key, actions_place}
use Rattle.jam_scope.specs.Rules.{Rule, Actions}
use Rattle.jam_scope.specs.Worlds.{World}
use Rattle.jam_meaning.specs.Outcomes.{gives, then_do, close_frame}
use Rattle.jam_meaning.specs.Rolled.{Job, StepAnswer, body_names, text_of, body_text, actions_text, rule_if, back_to, in_copy, job_spot, in_step}
use Rattle.jam_meaning.specs.Rolled as rolled
use Rattle.jam_meaning.specs.Settings.{Setting}
use Rattle.jam_meaning.specs.States.{State, with_world}
use Rattle.jam_natives.specs.Keeping.{Kept}

-- ---- what is within the limit

abbrev IsShort : List ℕ → Type 0
IsShort text = length text ≤ 300

not_above : (texts : List (List ℕ)) (sum : ℕ) → AllByRecursion IsShort texts → sum + 301 * length texts ≤ 16777216 → first_above sum texts ≡ None
not_above [] sum h small = refl
not_above (text ∷ texts) sum h small =
    let short : length text ≤ 300 = h.0 in
    let no : ltb limit (sum + (length text + 1)) ≡ false = le-ltb limit (sum + (length text + 1)) (omega (arith, short, small)) in
    ap (λ b. if b then Some (sum + (length text + 1)) else first_above (sum + (length text + 1)) texts) no ∙ not_above texts (sum + (length text + 1)) h.1 (omega (arith, short, small))

small_within : (texts : List (List ℕ)) → AllByRecursion IsShort texts → length texts ≤ 10 → within texts ≡ Ok texts
small_within texts h few = ap (unless_above texts) (not_above texts 0 h (omega (arith, few)))

-- ---- one word of the body

plain_word : (names : Text → List Text) (text : Text) → AllByRecursion (λ byte. byte ≢ 36) text → IsShort text → expansion names text ≡ Ok (text ∷ [])
plain_word names text plain short = plain_expansion names text plain ∙ small_within (text ∷ []) (short, tt) (omega arith)

one_word : (names : Text → List Text) (texts : List Text) (word : Text) (more elements : List Text) → expansion names word ≡ Ok elements
    → within (texts ++ join_with_byte 32 elements ∷ []) ≡ Ok (texts ++ join_with_byte 32 elements ∷ []) → body_texts names texts (word ∷ more) ≡ body_texts names (texts ++ join_with_byte 32 elements ∷ []) more
unfolding body_texts
one_word names texts word more elements is small =
    ap (and_then (λ found. and_then (λ longer. body_texts names longer more) (within (texts ++ join_with_byte 32 found ∷ [])))) is
    ∙ ap (and_then (λ longer. body_texts names longer more)) small

no_word : (names : Text → List Text) (texts : List Text) → body_texts names texts [] ≡ Ok texts
unfolding body_texts
no_word names texts = refl

name_byte : (byte : ℕ) → byte ≢ 36 → byte ≢ 40 → byte ≢ 41 → byte ≢ 58 → byte ≢ 91 → IsNameByte byte
name_byte byte a b c d e = record { dollar = a; opening = b; closing = c; colon = d; bracket = e }

inputs_word : (names : Text → List Text) (list : List Text) → names (codes ">") ≡ list → AllByRecursion IsShort list → length list ≤ 10 → expansion names (codes "$(>)") ≡ Ok list
inputs_word names list is short few =
    name_is_its_list names (codes ">") (All-from_recursion IsNameByte (codes ">") (name_byte 62 (λ e. omega (arith, e)) (λ e. omega (arith, e)) (λ e. omega (arith, e)) (λ e. omega (arith, e)) (λ e. omega (arith, e)), tt)) (omega arith)
    ∙ ap within is ∙ small_within list short few

outputs_word : (names : Text → List Text) (list : List Text) → names (codes "<") ≡ list → AllByRecursion IsShort list → length list ≤ 10 → expansion names (codes "$(<)") ≡ Ok list
outputs_word names list is short few =
    name_is_its_list names (codes "<") (All-from_recursion IsNameByte (codes "<") (name_byte 60 (λ e. omega (arith, e)) (λ e. omega (arith, e)) (λ e. omega (arith, e)) (λ e. omega (arith, e)) (λ e. omega (arith, e)), tt)) (omega arith)
    ∙ ap within is ∙ small_within list short few

-- ---- the whole body

abbrev raw : Text
raw = codes " cat $(>) > $(<) "

module _ (names : Text → List Text) (ins outs : List Text) (ins_are : names (codes ">") ≡ ins) (outs_are : names (codes "<") ≡ outs) (short_ins : AllByRecursion IsShort ins) (short_outs : AllByRecursion IsShort outs)
    (few_ins : length ins ≤ 10) (few_outs : length outs ≤ 10) (short_in : IsShort (join_with_byte 32 ins)) (short_out : IsShort (join_with_byte 32 outs)) where
  abbrev read : Text
  read = join_with_byte 32 ins

  abbrev made : Text
  made = join_with_byte 32 outs

  empty_short : IsShort []
  empty_short = omega arith

  cat_short : IsShort (codes "cat")
  cat_short = omega arith

  sign_short : IsShort (codes ">")
  sign_short = omega arith

  texts_are : body_texts names [] ([] ∷ codes "cat" ∷ codes "$(>)" ∷ codes ">" ∷ codes "$(<)" ∷ [] ∷ []) ≡ Ok ([] ∷ codes "cat" ∷ read ∷ codes ">" ∷ made ∷ [] ∷ [])
  texts_are =
      one_word names [] [] (codes "cat" ∷ codes "$(>)" ∷ codes ">" ∷ codes "$(<)" ∷ [] ∷ []) ([] ∷ []) (plain_word names [] tt empty_short) (small_within ([] ∷ []) (empty_short, tt) (omega arith))
      ∙ one_word names ([] ∷ []) (codes "cat") (codes "$(>)" ∷ codes ">" ∷ codes "$(<)" ∷ [] ∷ []) (codes "cat" ∷ [])
      (plain_word names (codes "cat") ((λ e. omega (arith, e)), ((λ e. omega (arith, e)), ((λ e. omega (arith, e)), tt))) cat_short) (small_within ([] ∷ codes "cat" ∷ []) (empty_short, (cat_short, tt)) (omega arith))
      ∙ one_word names ([] ∷ codes "cat" ∷ []) (codes "$(>)") (codes ">" ∷ codes "$(<)" ∷ [] ∷ []) ins (inputs_word names ins ins_are short_ins few_ins)
      (small_within ([] ∷ codes "cat" ∷ read ∷ []) (empty_short, (cat_short, (short_in, tt))) (omega arith))
      ∙ one_word names ([] ∷ codes "cat" ∷ read ∷ []) (codes ">") (codes "$(<)" ∷ [] ∷ []) (codes ">" ∷ []) (plain_word names (codes ">") ((λ e. omega (arith, e)), tt) sign_short)
      (small_within ([] ∷ codes "cat" ∷ read ∷ codes ">" ∷ []) (empty_short, (cat_short, (short_in, (sign_short, tt)))) (omega arith))
      ∙ one_word names ([] ∷ codes "cat" ∷ read ∷ codes ">" ∷ []) (codes "$(<)") ([] ∷ []) outs (outputs_word names outs outs_are short_outs few_outs)
      (small_within ([] ∷ codes "cat" ∷ read ∷ codes ">" ∷ made ∷ []) (empty_short, (cat_short, (short_in, (sign_short, (short_out, tt))))) (omega arith))
      ∙ one_word names ([] ∷ codes "cat" ∷ read ∷ codes ">" ∷ made ∷ []) [] [] ([] ∷ []) (plain_word names [] tt empty_short)
      (small_within ([] ∷ codes "cat" ∷ read ∷ codes ">" ∷ made ∷ [] ∷ []) (empty_short, (cat_short, (short_in, (sign_short, (short_out, (empty_short, tt)))))) (omega arith))
      ∙ no_word names ([] ∷ codes "cat" ∷ read ∷ codes ">" ∷ made ∷ [] ∷ [])

  body_is : body_expansion names raw ≡ Ok (without_end (codes "cat " ++ (read ++ (codes " > " ++ (made ++ 32 ∷ [])))))
  body_is = ap (and_then (λ texts. Ok (trimmed (interleaved texts (spaces raw))))) texts_are

-- ---- the end of the text

digit_at : (ds : List ℕ) (k : ℕ) → AllByRecursion IsDigit ds → k < length ds → IsDigit (get_or ds k 0)
digit_at [] k h less = absurd (omega (arith, less))
digit_at (d ∷ ds) zero h less = h.0
digit_at (d ∷ ds) (suc k) h less = digit_at ds k h.1 (omega (arith, less))

digit_not_white : (d : ℕ) → IsDigit d → is_white d ≡ false
digit_not_white d h = let low : 47 < d = h.low in let top : d < 58 = h.high in grind (arith, low, top)

module _ (front ds : List ℕ) (all : AllByRecursion IsDigit ds) (some : 0 < length ds) where
  abbrev whole : List ℕ
  whole = (front ++ ds) ++ 32 ∷ []

  count : length whole ≡ length front + length ds + 1
  count = omega (arith, length-append (front ++ ds) (32 ∷ []), length-append front ds)

  at_end : get_or whole (length (front ++ ds)) 0 ≡ 32
  at_end = get_or_at (front ++ ds) 32 [] 0 (length (front ++ ds)) refl

  before_end : get_or whole (length (front ++ ds) - 1) 0 ≡ get_or ds (length ds - 1) 0
  before_end =
      let sum : length (front ++ ds) ≡ length front + length ds = length-append front ds in
      let place : length (front ++ ds) - 1 ≡ length front + (length ds - 1) = omega (arith, some, sum) in
      get_or_append_left (front ++ ds) (32 ∷ []) 0 (length (front ++ ds) - 1) (omega (arith, some, sum))
      ∙ ap (λ k. get_or (front ++ ds) k 0) place ∙ get_or-append-add front ds (length ds - 1) 0

  one_space : suffix_len is_white whole ≡ 1
  one_space =
      let sum : length (front ++ ds) ≡ length front + length ds = length-append front ds in
      suffix_len_is is_white whole (length (front ++ ds)) 0 (omega (arith, count, sum))
      (λ k low less. let same : length (front ++ ds) ≡ k = omega (arith, count, sum, low, less) in subst (λ k. is_white (get_or whole k 0) ≡ true) same (ap is_white at_end))
      (λ positive. ap is_white before_end ∙ digit_not_white (get_or ds (length ds - 1) 0) (digit_at ds (length ds - 1) all (omega (arith, some))))
      ∙ (let left : length whole - length (front ++ ds) ≡ 1 = omega (arith, count, sum) in left)

  end_cut : without_end whole ≡ front ++ ds
  end_cut =
      let sum : length (front ++ ds) ≡ length front + length ds = length-append front ds in
      ap (λ k. take (length whole - k) whole) one_space
      ∙ (let kept : length whole - 1 ≡ length (front ++ ds) = omega (arith, count, sum) in ap (λ k. take k whole) kept)
      ∙ take_at (front ++ ds) (32 ∷ []) (length (front ++ ds)) refl

-- ---- the step

regrouped : (cat read sign bin ds : List ℕ) → cat ++ (read ++ (sign ++ ((bin ++ ds) ++ 32 ∷ []))) ≡ ((((cat ++ read) ++ sign) ++ bin) ++ ds) ++ 32 ∷ []
regrouped cat read sign bin ds = simp append_assoc

grouped : (cat read sign bin ds : List ℕ) → ((((cat ++ read) ++ sign) ++ bin) ++ ds) ≡ ((cat ++ read) ++ sign) ++ (bin ++ ds)
grouped cat read sign bin ds = simp append_assoc

text_ends : (i : ℕ) → i < 2000 → without_end (codes "cat " ++ (join_with_byte 32 (inputs i) ++ (codes " > " ++ (output i ++ 32 ∷ [])))) ≡ step_text i
text_ends i small =
    ap without_end (regrouped (codes "cat ") (join_with_byte 32 (inputs i)) (codes " > ") (codes "bin/t") (decimal i))
    ∙ end_cut (((codes "cat " ++ join_with_byte 32 (inputs i)) ++ codes " > ") ++ codes "bin/t") (decimal i) (all_digits i (omega (arith, small))) (decimal_nonempty i (omega (arith, small)))
    ∙ grouped (codes "cat ") (join_with_byte 32 (inputs i)) (codes " > ") (codes "bin/t") (decimal i)

output_short : (i : ℕ) → i < 2000 → length (output i) ≤ 100
output_short i small = let few : length (decimal i) ≤ 4 = digits i small in omega (arith, few)

source_short : (i : ℕ) → i < 2000 → length (source_name i) ≤ 100
source_short i small = let few : length (decimal i) ≤ 4 = digits i small in omega (arith, few)

inputs_short : (i : ℕ) → i < 2000 → AllByRecursion IsShort (inputs i)
inputs_short zero small = (omega (arith, source_short 0 small), tt)
inputs_short (suc i) small = (omega (arith, source_short (suc i) small), (omega (arith, output_short (suc i / 2) (omega (arith, small))), tt))

inputs_few : (i : ℕ) → length (inputs i) ≤ 10
inputs_few zero = omega arith
inputs_few (suc i) = omega arith

inputs_join_short : (i : ℕ) → i < 2000 → IsShort (join_with_byte 32 (inputs i))
inputs_join_short zero small = omega (arith, source_short 0 small)
inputs_join_short (suc i) small =
    omega (arith, length-append (source_name (suc i)) (32 ∷ output (suc i / 2)), source_short (suc i) small, output_short (suc i / 2) (omega (arith, small)))

text_is : (i : ℕ) (owner : Text) (w : World) → i < 2000 → body_expansion (body_names (output i ∷ []) (inputs i) (output i ∷ []) owner w) raw ≡ Ok (step_text i)
text_is i owner w small =
    body_is (body_names (output i ∷ []) (inputs i) (output i ∷ []) owner w) (inputs i) (output i ∷ []) refl refl (inputs_short i small) (omega (arith, output_short i small), tt) (inputs_few i) (omega arith)
    (inputs_join_short i small) (omega (arith, output_short i small))
    ∙ ap (λ text. Ok text) (text_ends i small)

-- ---- where the actions are found

join_places : places_from map.empty owner (codes "join") ≡ (owner, codes "join") ∷ ([], codes "join") ∷ []
join_places = ap (λ above. in_each (codes "join") (owner ∷ above) ++ (([], codes "join") ∷ dotted (codes "join"))) (ap (λ n. line_by n map.empty owner) (map.len-empty key_cmp Text))

no_rule : first_at (map.empty {X = Rule} {R = key_cmp}) (places_from map.empty owner (codes "join")) ≡ None
no_rule =
    ap (first_at (map.empty {X = Rule} {R = key_cmp})) join_places
    ∙ nowhere (map.empty {X = Rule} {R = key_cmp}) ((owner, codes "join") ∷ ([], codes "join") ∷ [])
    (map.get-empty {X = Rule} key_cmp (owner, codes "join"), (map.get-empty {X = Rule} key_cmp ([], codes "join"), tt))

abbrev the_actions : Table Actions
the_actions = map.insert map.empty (owner, codes "join") join_actions

join_is : map.get the_actions (owner, codes "join") ≡ Some join_actions
join_is = map.get-insert key_order map.empty (owner, codes "join") join_actions (owner, codes "join")

join_at : first_at the_actions (places_from map.empty owner (codes "join")) ≡ Some (owner, codes "join")
join_at =
    ap (first_at the_actions) join_places
    ∙ ap (λ found. if is_some found then Some (owner, codes "join") else first_at the_actions (([], codes "join") ∷ [])) join_is

-- ---- the text of the step

abbrev frame : Frame
frame = record { owner = owner; caller = None; bindings = [] }

-- the world in which the text is expanded
abbrev opened : ℕ → World
opened i = record file_world {
  scopes = record { frames = frame ∷ []; variables = map.empty };
  frozen = true;
  step = Some record { outs = output i ∷ []; ins = inputs i; depends = []; always = false; notfile = false };
}

-- the state there, where these worlds are marked
abbrev in_file : ℕ → List World → ℕ → Kept → State Kept
in_file i marked left kept = record { worlds = record { now = opened i; marked = marked }; left = left; kept = kept }

stepped : (setting : Setting Kept) (i line left : ℕ) (marked : List World) (kept : Kept) → i < 2000 → in_step setting (drill_job i line) (in_file i marked left kept) ≡ gives (drill_answer i) (in_file i marked left kept)
stepped setting i line left marked kept small =
    ap (λ found. then_do (rule_if setting (at_key map.empty found) (drill_job i line) (job_spot setting (drill_job i line)) (in_file i marked left kept))
    (λ value s₁. actions_text (drill_job i line) (actions_place (codes "join") s₁.worlds.now) (job_spot setting (drill_job i line)) s₁)) no_rule
    ∙ ap (λ found. actions_text (drill_job i line) found (job_spot setting (drill_job i line)) (in_file i marked left kept)) join_at
    ∙ ap (λ found. body_text (drill_job i line) found owner (job_spot setting (drill_job i line)) (in_file i marked left kept)) join_is
    ∙ ap (λ found. text_of found (job_spot setting (drill_job i line)) (in_file i marked left kept)) (text_is i owner (opened i) small)

pub text_in_copy : (setting : Setting Kept) (i line left : ℕ) (kept : Kept) → i < 2000
    → in_copy (λ s. rolled.step_text setting (drill_job i line) (with_world (set_place here) s)) (record { worlds = loaded_worlds; left = left; kept = kept })
    ≡ gives (drill_answer i) (record { worlds = loaded_worlds; left = left; kept = kept })
text_in_copy setting i line left kept small =
    ap (λ o. back_to loaded_worlds (back_to (record { now = loaded_worlds.now; marked = loaded_worlds.now ∷ [] }) (close_frame o)))
    (stepped setting i line left (loaded_worlds.now ∷ loaded_worlds.now ∷ []) kept small)
