-- The statements of a drill's project file run one after another.
use Rattle.std.proofs.Common.{◌≡◌, ◌≢◌, ℕ, zero, suc, ◌<◌, ◌≤◌, ◌+◌, ◌/◌, false, ltb, List, [], ◌∷◌, ◌++◌, length, codes, Some, None, is_some, Ok, refl, sym, ap, ap₂, ◌∙◌, append_assoc, append-nil, arith}
use Rattle.std.specs.Prelude.{if◌then◌else◌}
use Rattle.std.specs.Fmt.{decimal}
use Rattle.std.specs.FinMap as map
use Rattle.std.specs.Cmp.{IsTotalOrder, then_total}
use Rattle.std.specs.Cmp.Lexicographic.{on_texts}
use Rattle.std.specs.List.{AllByRecursion}
use Rattle.std.proofs.lemmas.Bool.{le-ltb}
use Rattle.b2_drill.specs.Drills.{source_name, target_name}
use Rattle.b2_drill_text.specs.Trees.{source_list, words_tree, make_form, make_stmts, drill_tree}
use Rattle.b2_drill_text.proofs.NamesNeedNoQuotes.{IsDigit, all_digits}
use Rattle.b2_drill_text.proofs.FileIsSmall.{digits}
use Rattle.jam_expand.specs.Expansions.{expansion}
use Rattle.jam_expand.specs.Limits.{limit, within}
use Rattle.jam_expand.proofs.PlainWordsExpandToThemselves.{plain_expansion}
use Rattle.jam_grammar.specs.Trees.{NoArgs, ArgAnd, Word, ArgTrees, ListTrees, NoLists, ListAnd, StmtTrees, NoStmts, StmtAnd}
use Rattle.jam_journal.specs.Tables.{Text, Key, Table, key_cmp}
use Rattle.jam_journal.specs.Scopes.{Value, Frame, look}
use Rattle.jam_scope.specs.Rules.{Rule, Actions}
use Rattle.jam_scope.specs.Worlds.{World}
use Rattle.jam_scope.specs.Lines.{line, line_by, dotted, in_each, places_from, first_at, at_key}
use Rattle.jam_meaning.specs.Args.{args, args_after, lists, call, call_head, call_of}
use Rattle.jam_meaning.specs.RuleCalls.{told, native_call, acted_at, called, applied}
use Rattle.jam_meaning.specs.Eval.{levels, rule_body, run}
use Rattle.jam_meaning.specs.Faults.{Spot}
use Rattle.jam_meaning.specs.Forms.{done, form, stmts}
use Rattle.jam_meaning.specs.Includes.{file_ended}
use Rattle.jam_meaning.specs.Outcomes.{gives, goes_on, then_do, then_go, either, by_turns, expanded, close_frame, in_module}
use Rattle.jam_meaning.specs.Refused.{refused_here}
use Rattle.jam_meaning.specs.Settings.{Meaning, Setting}
use Rattle.jam_meaning.specs.States.{State}
use Rattle.jam_natives.specs.Keeping.{Kept}
use Rattle.jam_natives.specs.Rows.{jam_meaning}
use Rattle.jam_natives.specs.Rules.{native_of, is_declaring}
use Rattle.b2_drill_load.specs.Evaluated.{owner, join_actions, file_world, make_lists, decl, decls, at_first, at_last}

-- ---- words

no_dollars : (ds : List ℕ) → AllByRecursion IsDigit ds → AllByRecursion (λ byte. byte ≢ 36) ds
no_dollars [] h = tt
no_dollars (d ∷ ds) h = ((λ e. let low : 47 < d = h.0.low in omega (arith, e, low)), no_dollars ds h.1)

target_plain : (i : ℕ) → i < 2000 → AllByRecursion (λ byte. byte ≢ 36) (target_name i)
target_plain i small = ((λ e. omega (arith, e)), no_dollars (decimal i) (all_digits i (omega (arith, small))))

source_plain : (i : ℕ) → i < 2000 → AllByRecursion (λ byte. byte ≢ 36) (source_name i)
source_plain i small = ((λ e. omega (arith, e)), no_dollars (decimal i) (all_digits i (omega (arith, small))))

within_one : (text : Text) → length text ≤ 100 → within (text ∷ []) ≡ Ok (text ∷ [])
within_one text small = let first : ltb limit (0 + (length text + 1)) ≡ false = le-ltb limit (0 + (length text + 1)) (omega (arith, small)) in rw first refl

within_two : (text other : Text) → length text ≤ 100 → length other ≤ 100 → within (text ∷ other ∷ []) ≡ Ok (text ∷ other ∷ [])
within_two text other small little =
    let first : ltb limit (0 + (length text + 1)) ≡ false = le-ltb limit (0 + (length text + 1)) (omega (arith, small)) in
    let second : ltb limit (0 + (length text + 1) + (length other + 1)) ≡ false = le-ltb limit (0 + (length text + 1) + (length other + 1)) (omega (arith, small, little)) in
    rw (first, second) refl

target_short : (i : ℕ) → i < 2000 → length (target_name i) ≤ 100
target_short i small = let few : length (decimal i) ≤ 4 = digits i small in omega (arith, few)

source_short : (i : ℕ) → i < 2000 → length (source_name i) ≤ 100
source_short i small = let few : length (decimal i) ≤ 4 = digits i small in omega (arith, few)

-- a word without `$` is its own element
itself : (names : Text → List Text) (text : Text) → AllByRecursion (λ byte. byte ≢ 36) text → length text ≤ 100 → expansion names text ≡ Ok (text ∷ [])
itself names text plain small = plain_expansion names text plain ∙ within_one text small

-- ---- what is found

pub key_order : IsTotalOrder key_cmp
key_order = then_total (on_texts (λ (k : Key). k.0)) (on_texts (λ (k : Key). k.1))

pub nowhere : {X : Type 0} (table : Table X) (keys : List Key) → AllByRecursion (λ key. map.get table key ≡ None) keys → first_at table keys ≡ None
nowhere table [] h = refl
nowhere table (key ∷ keys) h = ap (λ found. if is_some found then Some key else first_at table keys) h.0 ∙ nowhere table keys h.1

make_places : places_from map.empty owner (codes "make") ≡ (owner, codes "make") ∷ ([], codes "make") ∷ []
make_places = ap (λ above. in_each (codes "make") (owner ∷ above) ++ (([], codes "make") ∷ dotted (codes "make"))) (ap (λ n. line_by n map.empty owner) (map.len-empty key_cmp Text))

no_rule_at : first_at (map.empty {X = Rule} {R = key_cmp}) (places_from map.empty owner (codes "make")) ≡ None
no_rule_at =
    ap (first_at (map.empty {X = Rule} {R = key_cmp})) make_places
    ∙ nowhere (map.empty {X = Rule} {R = key_cmp}) ((owner, codes "make") ∷ ([], codes "make") ∷ [])
    (map.get-empty {X = Rule} key_cmp (owner, codes "make"), (map.get-empty {X = Rule} key_cmp ([], codes "make"), tt))

abbrev the_actions : Table Actions
the_actions = map.insert map.empty (owner, codes "join") join_actions

no_make_in : map.get the_actions (owner, codes "make") ≡ None
no_make_in = map.get-insert key_order map.empty (owner, codes "join") join_actions (owner, codes "make") ∙ map.get-empty {X = Actions} key_cmp (owner, codes "make")

no_make : map.get the_actions ([], codes "make") ≡ None
no_make = map.get-insert key_order map.empty (owner, codes "join") join_actions ([], codes "make") ∙ map.get-empty {X = Actions} key_cmp ([], codes "make")

no_actions_at : first_at the_actions (places_from map.empty owner (codes "make")) ≡ None
no_actions_at = ap (first_at the_actions) make_places ∙ nowhere the_actions ((owner, codes "make") ∷ ([], codes "make") ∷ []) (no_make_in, (no_make, tt))

-- ---- one statement

-- a call takes its turn and opens its level
call_is : {R : Type 0} (setting : Setting R) (more : ℕ) (name : Text) (given : ListTrees) (first : Value) (rest : List Value) (spot : Spot) (s : State R) (left : ℕ)
    → s.left ≡ suc left → expansion (look s.worlds.now.scopes) name ≡ Ok (name ∷ []) → lists setting.budget (levels setting (suc more)) given spot s ≡ gives (first ∷ rest) s → within first ≡ Ok first
    → call_of setting.budget (levels setting (suc more)) (Word name) given spot s
    ≡ applied setting (levels setting more) (rule_body setting (levels setting more)) name (first ∷ rest) spot (record s { left = left })
call_is setting more name given first rest spot s left turn named values small =
    ap (λ r. then_do (expanded r spot s) (λ names s₁. then_do (lists setting.budget (levels setting (suc more)) given spot s₁) (λ vs s₂. call_head setting.budget (levels setting (suc more)) names vs spot s₂))) named
    ∙ ap (λ o. then_do o (λ vs s₂. call_head setting.budget (levels setting (suc more)) (name ∷ []) vs spot s₂)) values
    ∙ ap (λ r. then_do (expanded r spot s) (λ v s₁. call setting.budget (levels setting (suc more)) name (v ∷ rest) spot s₁)) small
    ∙ ap (λ n. by_turns n setting.budget spot s (λ s₁. applied setting (levels setting more) (rule_body setting (levels setting more)) name (first ∷ rest) spot s₁)) turn

abbrev frame : Frame
frame = record { owner = owner; caller = None; bindings = [] }

-- the world while the file runs
abbrev inside : World
inside = record file_world { scopes = record { frames = frame ∷ frame ∷ []; variables = map.empty } }

abbrev at : ℕ → Kept → State Kept
at left kept = record { worlds = record { now = inside; marked = [] }; left = left; kept = kept }

-- with one more call
abbrev with_call : ℕ → ℕ → Kept → Kept
with_call i line kept = record kept { decls = kept.decls ++ decl i line ∷ [] }

abbrev with_calls : List ℕ → Kept → Kept
with_calls lines kept = record kept { decls = kept.decls ++ decls lines }

module _ (setting : Setting Kept) (natives : setting.natives ≡ jam_meaning) where
  one_arg : (text : Text) (spot : Spot) (s : State Kept) → AllByRecursion (λ byte. byte ≢ 36) text → length text ≤ 100
      → args setting.budget (levels setting 256) (words_tree (text ∷ [])) spot s ≡ gives (text ∷ []) s
  one_arg text spot s plain small =
      ap (λ r. then_do (expanded r spot s) (λ v s₁. then_do (expanded (within v) spot s₁) (λ more s₂. args_after setting.budget (levels setting 256) more NoArgs spot s₂))) (itself (look s.worlds.now.scopes) text plain small)
      ∙ ap (λ r. then_do (expanded r spot s) (λ more s₂. args_after setting.budget (levels setting 256) more NoArgs spot s₂)) (within_one text small)

  two_args : (text other : Text) (spot : Spot) (s : State Kept) → AllByRecursion (λ byte. byte ≢ 36) text → AllByRecursion (λ byte. byte ≢ 36) other → length text ≤ 100 → length other ≤ 100
      → args setting.budget (levels setting 256) (words_tree (text ∷ other ∷ [])) spot s ≡ gives (text ∷ other ∷ []) s
  two_args text other spot s plain bare small little =
      ap (λ r. then_do (expanded r spot s) (λ v s₁. then_do (expanded (within v) spot s₁) (λ more s₂. args_after setting.budget (levels setting 256) more (ArgAnd (Word other) NoArgs) spot s₂))) (itself (look s.worlds.now.scopes) text plain small)
      ∙ ap (λ r. then_do (expanded r spot s) (λ more s₂. args_after setting.budget (levels setting 256) more (ArgAnd (Word other) NoArgs) spot s₂)) (within_one text small)
      ∙ ap (λ r. then_do (expanded r spot s) (λ v s₁. then_do (expanded (within (text ∷ v)) spot s₁) (λ more s₂. args_after setting.budget (levels setting 256) more NoArgs spot s₂))) (itself (look s.worlds.now.scopes) other bare little)
      ∙ ap (λ r. then_do (expanded r spot s) (λ more s₂. args_after setting.budget (levels setting 256) more NoArgs spot s₂)) (within_two text other small little)

  sources_go : (i : ℕ) (spot : Spot) (s : State Kept) → i < 2000 → args setting.budget (levels setting 256) (words_tree (source_list i)) spot s ≡ gives (source_list i) s
  sources_go zero spot s small = one_arg (source_name 0) spot s (source_plain 0 small) (source_short 0 small)
  sources_go (suc i) spot s small =
      let half : suc i / 2 < 2000 = omega (arith, small) in
      two_args (source_name (suc i)) (target_name (suc i / 2)) spot s (source_plain (suc i) small) (target_plain (suc i / 2) half) (source_short (suc i) small) (target_short (suc i / 2) half)

  list_and : (first : ArgTrees) (rest : ListTrees) (value : Value) (values : List Value) (spot : Spot) (s : State Kept) → args setting.budget (levels setting 256) first spot s ≡ gives value s
      → lists setting.budget (levels setting 256) rest spot s ≡ gives values s → lists setting.budget (levels setting 256) (ListAnd first rest) spot s ≡ gives (value ∷ values) s
  list_and first rest value values spot s is others =
      ap (λ o. then_do o (λ v s₁. then_do (lists setting.budget (levels setting 256) rest spot s₁) (λ more s₂. gives (v ∷ more) s₂))) is
      ∙ ap (λ o. then_do o (λ more s₂. gives (value ∷ more) s₂)) others

  lists_go : (i : ℕ) (spot : Spot) (s : State Kept) → i < 2000
      → lists setting.budget (levels setting 256) (ListAnd (words_tree (target_name i ∷ [])) (ListAnd (words_tree (source_list i)) (ListAnd (words_tree (codes "@join" ∷ [])) NoLists))) spot s ≡ gives (make_lists i) s
  lists_go i spot s small =
      list_and (words_tree (target_name i ∷ [])) (ListAnd (words_tree (source_list i)) (ListAnd (words_tree (codes "@join" ∷ [])) NoLists)) (target_name i ∷ []) (source_list i ∷ (codes "@join" ∷ []) ∷ []) spot s
      (one_arg (target_name i) spot s (target_plain i small) (target_short i small))
      (list_and (words_tree (source_list i)) (ListAnd (words_tree (codes "@join" ∷ [])) NoLists) (source_list i) ((codes "@join" ∷ []) ∷ []) spot s (sources_go i spot s small)
      (list_and (words_tree (codes "@join" ∷ [])) NoLists (codes "@join" ∷ []) [] spot s
      (one_arg (codes "@join") spot s ((λ e. omega (arith, e)), ((λ e. omega (arith, e)), ((λ e. omega (arith, e)), ((λ e. omega (arith, e)), ((λ e. omega (arith, e)), tt))))) (omega arith)) refl))

  native_make : (i : ℕ) (spot : Spot) (left : ℕ) (kept : Kept)
      → native_call setting (levels setting 255) (rule_body setting (levels setting 255)) (codes "make") (make_lists i) spot (at left kept) ≡ gives [] (at left (with_call i spot.line kept))
  unfolding native_of is_declaring
  native_make i spot left kept =
      ap (λ (n : Meaning Kept). told setting (levels setting 255) (rule_body setting (levels setting 255)) (codes "make") spot (at left kept)
      (n.call (codes "make") (make_lists i) spot.line setting.sight (refused_here setting.refused left) (at left kept).worlds kept)) natives

  applied_make : (given : List Value) (spot : Spot) (left : ℕ) (kept : Kept)
      → applied setting (levels setting 255) (rule_body setting (levels setting 255)) (codes "make") given spot (at left kept)
      ≡ native_call setting (levels setting 255) (rule_body setting (levels setting 255)) (codes "make") given spot (at left kept)
  applied_make given spot left kept =
      ap (λ found. called setting (levels setting 255) (rule_body setting (levels setting 255)) (at_key map.empty found) (codes "make") given spot (at left kept)) no_rule_at
      ∙ ap (λ found. acted_at setting (levels setting 255) (rule_body setting (levels setting 255)) found (codes "make") given spot (at left kept)
      (λ noted s₁. either noted (λ s₂. gives [] s₂) (λ s₂. native_call setting (levels setting 255) (rule_body setting (levels setting 255)) (codes "make") given spot s₂) s₁)) no_actions_at

  make_goes : (i : ℕ) (spot : Spot) (left : ℕ) (kept : Kept) → i < 2000 → form setting (levels setting 256) (make_form i) spot (at (suc left) kept) ≡ gives goes_on (at left (with_call i spot.line kept))
  make_goes i spot left kept small =
      ap (λ o. then_do o (λ value s₁. done s₁))
      (call_is setting 255 (codes "make") (ListAnd (words_tree (target_name i ∷ [])) (ListAnd (words_tree (source_list i)) (ListAnd (words_tree (codes "@join" ∷ [])) NoLists)))
      (target_name i ∷ []) (source_list i ∷ (codes "@join" ∷ []) ∷ []) spot (at (suc left) kept) left refl
      (itself (look inside.scopes) (codes "make") ((λ e. omega (arith, e)), ((λ e. omega (arith, e)), ((λ e. omega (arith, e)), ((λ e. omega (arith, e)), tt)))) (omega arith))
      (lists_go i spot (at (suc left) kept) small) (within_one (target_name i) (target_short i small))
      ∙ applied_make (make_lists i) spot left kept
      ∙ native_make i spot left kept)

  -- ---- all statements

  one_goes : (i line left : ℕ) (kept : Kept) (rest : StmtTrees) → i < 2000
      → stmts setting (levels setting 256) (StmtAnd line (make_form i) rest) (codes "Jamroot") (at (suc (suc left)) kept) ≡ stmts setting (levels setting 256) rest (codes "Jamroot") (at left (with_call i line kept))
  one_goes i line left kept rest small =
      ap (λ o. then_go o (stmts setting (levels setting 256) rest (codes "Jamroot"))) (make_goes i (record { path = codes "Jamroot"; line = line }) left kept small)

  all_go : (lines : List ℕ) (left : ℕ) (kept : Kept) (rest : StmtTrees) → length lines ≤ 2000
      → stmts setting (levels setting 256) (make_stmts lines rest) (codes "Jamroot") (at (length lines + length lines + left) kept) ≡ stmts setting (levels setting 256) rest (codes "Jamroot") (at left (with_calls lines kept))
  all_go [] left kept rest small =
      let turns : 0 + 0 + left ≡ left = omega arith in
      ap₂ (λ n ds. stmts setting (levels setting 256) rest (codes "Jamroot") (at n (record kept { decls = ds }))) turns (sym (append-nil kept.decls))
  all_go (line ∷ lines) left kept rest small =
      let turns : suc (length lines) + suc (length lines) + left ≡ length lines + length lines + suc (suc left) = omega arith in
      ap (λ n. stmts setting (levels setting 256) (make_stmts lines (StmtAnd line (make_form (length lines)) rest)) (codes "Jamroot") (at n kept)) turns
      ∙ all_go lines (suc (suc left)) kept (StmtAnd line (make_form (length lines)) rest) (omega (arith, small))
      ∙ one_goes (length lines) line left (with_calls lines kept) rest (omega (arith, small))
      ∙ ap (λ ds. stmts setting (levels setting 256) rest (codes "Jamroot") (at left (record kept { decls = ds }))) (append_assoc kept.decls (decls lines) (decl (length lines) line ∷ []))

pub drill_runs : (setting : Setting Kept) (line left : ℕ) (lines : List ℕ) → setting.natives ≡ jam_meaning → length lines ≤ 2000
    → in_module owner (λ s. run setting (codes "Jamroot") (drill_tree line lines) s) (at_first (suc (length lines + length lines + left))) ≡ gives tt (at_last lines left)
drill_runs setting line left lines natives small =
    ap (λ o. close_frame (file_ended (close_frame o))) (all_go setting natives lines left (record { decls = []; echoes = [] }) NoStmts small)
