-- The examples that look rules and variables up.
use Rattle.std.proofs.Common.{◌≡◌, ℕ, List, [], ◌∷◌, ◌++◌, Ok, refl, sym, ap, subst, ◌∙◌}
use Rattle.std.specs.Prelude.{codes, None}
use Rattle.std.specs.Option.{unwrap_or}
use Rattle.std.specs.FinMap as map
use Rattle.jam_expand.specs.Words.{too_deep}
use Rattle.jam_expand.specs.Expansions.{elements_at, expansion}
use Rattle.jam_expand.specs.Values.{joined_after}
use Rattle.jam_expand.specs.Modifiers.{modified_after}
use Rattle.jam_grammar.specs.Trees as tree
use Rattle.jam_grammar.specs.Trees.{FormTree, StmtTrees}
use Rattle.jam_journal.specs.Tables.{Text}
use Rattle.jam_journal.specs.Scopes.{Value, Binding, look, enter, enter_call, assign, bind, bind_each}
use Rattle.jam_scope.specs.Rules.{Rule}
use Rattle.jam_scope.specs.Changes.{define_rule, mark, freeze_roots}
use Rattle.jam_meaning.specs.Faults.{Spot, turns, arity, unknown_rule}
use Rattle.jam_meaning.specs.States.{State, with_world, with_worlds, with_scopes, after_frame}
use Rattle.jam_meaning.specs.Outcomes.{gives, goes_on, returns, then_do, close_frame}
use Rattle.jam_meaning.specs.Params.{special}
use Rattle.jam_meaning.specs.Args.{call_head}
use Rattle.jam_meaning.specs.RuleCalls.{value_of}
use Rattle.jam_meaning.specs.Forms.{done, form}
use Rattle.jam_meaning.specs.Eval.{levels, rule_body}
use Rattle.jam_meaning.specs.Includes.{file_ended}
use Rattle.jam_meaning.specs.Rolled.{back_to, nowhere}
use Rattle.jam_meaning.specs.Examples.{Lines, setting_of, with_turns, lines, lines_from, list, lists, asks, sets, binds, bracket, param, file_of_rule, IsLeft, HasValue, FaultsAt, Exits, jamroot, ThreeTurns, ThreeAreEnough, TwoAreNot, RedefinedRule, DynamicScope, DynamicScopeRolled, ArityAtCall, FaultInRule, InnerCallHasItsLists}
use Rattle.jam_meaning.proofs.FoundInFlatWorlds.{key_order, rule_called, rule_refused, word_list, call_is}
use Rattle.jam_meaning.proofs.StatementsFollow.{first_is, next, native_is, rule_is, runs, returns_so, return_bracket, in_file, no_file, none}

-- ---- forms and states

abbrev echo : Text → FormTree
echo text = asks (codes "ECHO") ((text ∷ []) ∷ [])

abbrev call_of_it : Text → FormTree
call_of_it name = asks name ([] ∷ [])

abbrev at_line : ℕ → Spot
at_line line = record { path = jamroot; line = line }

-- a rule of the global module without parameters, in Jamroot
abbrev rule_at : StmtTrees → ℕ → Rule
rule_at block line = record { home = []; params = []; block = block; path = jamroot; line = line }

abbrev defined : Text → StmtTrees → ℕ → State Lines → ℕ → State Lines
defined name block line s left = record (with_world (define_rule name [] block jamroot line) s) { left = left }

-- what a call without lists binds
abbrev no_lists : List Binding
no_lists = special ([] ∷ []) ++ []

abbrev called_at : State Lines → ℕ → State Lines
called_at s left = with_scopes (bind_each no_lists) (with_scopes (enter_call []) (record s { left = left }))

abbrev wrote : State Lines → ℕ → Text → State Lines
wrote s left text = record s { left = left; kept = s.kept ++ (text ∷ []) ∷ [] }

reads_X : (names : Text → Value) → names (codes "X") ≡ codes "a" ∷ [] → expansion names (codes "$(X)") ≡ Ok (codes "a" ∷ [])
unfolding too_deep elements_at joined_after modified_after
reads_X names is = rw is refl

reads_V : (names : Text → Value) → names (codes "V") ≡ codes "global" ∷ [] → expansion names (codes "$(V)") ≡ Ok (codes "global" ∷ [])
unfolding too_deep elements_at joined_after modified_after
reads_V names is = rw is refl

-- ---- turns

abbrev in_braces : State Lines
in_braces = with_scopes (enter []) (record (in_file 3) { left = 2 })

pub three_turns : ThreeTurns
unfolding too_deep elements_at joined_after modified_after
three_turns =
    subst (λ o. IsLeft (file_ended (close_frame o)) ((codes "a" ∷ []) ∷ []) 0)
    (sym (next (with_turns 3) 256 1 (tree.Braces (lines_from 2 (echo (codes "a") ∷ []))) [] jamroot (in_file 3) (after_frame (wrote in_braces 0 (codes "a"))) 2 _ refl
    (ap close_frame (next (with_turns 3) 255 2 (echo (codes "a")) [] jamroot in_braces (wrote in_braces 0 (codes "a")) 1 (gives goes_on (wrote in_braces 0 (codes "a"))) refl
    (native_is 3 no_file 254 (codes "ECHO") (at_line 2) (record in_braces { left = 1 }) 0 refl (record { parents = refl; global = refl }) refl refl (lists ((codes "a" ∷ []) ∷ [])) (codes "a" ∷ []) refl refl (none _) (none _)) refl)) refl))
    (refl, refl)

abbrev x_set : ℕ → State Lines
x_set budget = with_scopes (assign (codes "X") (codes "a" ∷ [])) (in_file budget)

x_is : (budget : ℕ) → look (x_set budget).worlds.now.scopes (codes "X") ≡ codes "a" ∷ []
x_is budget = ap (λ o. unwrap_or o []) (map.get-insert key_order map.empty ([], codes "X") (codes "a" ∷ []) ([], codes "X"))

pub three_are_enough : ThreeAreEnough
unfolding too_deep elements_at joined_after modified_after
three_are_enough =
    subst (λ o. IsLeft (file_ended (close_frame o)) ((codes "a" ∷ []) ∷ []) 0)
    (sym (next (with_turns 3) 256 1 (sets (codes "X") (codes "a" ∷ [])) (echo (codes "$(X)") ∷ []) jamroot (in_file 3) (record (x_set 3) { left = 2 }) 2 _ refl refl
    (next (with_turns 3) 256 2 (echo (codes "$(X)")) [] jamroot (record (x_set 3) { left = 2 }) (wrote (x_set 3) 0 (codes "a")) 1 (gives goes_on (wrote (x_set 3) 0 (codes "a"))) refl
    (native_is 3 no_file 255 (codes "ECHO") (at_line 2) (record (x_set 3) { left = 1 }) 0 refl (record { parents = refl; global = refl }) refl refl (lists ((codes "$(X)" ∷ []) ∷ [])) (codes "a" ∷ [])
    (word_list 3 (levels (with_turns 3) 256) (codes "$(X)") (codes "a" ∷ []) (at_line 2) (record (x_set 3) { left = 1 }) (reads_X (look (x_set 3).worlds.now.scopes) (x_is 3)) refl) refl (none _) (none _)) refl)))
    (refl, refl)

pub two_are_not : TwoAreNot
unfolding too_deep elements_at joined_after modified_after
two_are_not =
    subst (λ o. FaultsAt (file_ended (close_frame o)) jamroot 2 (turns 2))
    (sym (next (with_turns 2) 256 1 (sets (codes "X") (codes "a" ∷ [])) (echo (codes "$(X)") ∷ []) jamroot (in_file 2) (record (x_set 2) { left = 1 }) 1 _ refl refl
    (first_is (with_turns 2) 256 2 (echo (codes "$(X)")) [] jamroot (record (x_set 2) { left = 1 }) 0 _ refl
    (ap (λ o. then_do (then_do o (λ values s. call_head 2 (levels (with_turns 2) 256) (codes "ECHO" ∷ []) values (at_line 2) s)) (λ value s. done s))
    (word_list 2 (levels (with_turns 2) 256) (codes "$(X)") (codes "a" ∷ []) (at_line 2) (record (x_set 2) { left = 0 }) (reads_X (look (x_set 2).worlds.now.scopes) (x_is 2)) refl)))))
    refl

-- ---- a rule that is defined again

abbrev second_block : StmtTrees
second_block = lines (echo (codes "second") ∷ [])

abbrev first_block : StmtTrees
first_block = lines (tree.Rule (codes "f") [] second_block ∷ echo (codes "first") ∷ [])

abbrev r1 : State Lines
r1 = defined (codes "f") first_block 1 (in_file 20) 19

abbrev r2 : State Lines
r2 = defined (codes "f") second_block 1 (called_at r1 17) 16

abbrev r3 : State Lines
r3 = after_frame (wrote r2 14 (codes "first"))

abbrev r4 : State Lines
r4 = wrote (called_at r3 12) 10 (codes "second")

first_call : form (with_turns 20) (levels (with_turns 20) 256) (call_of_it (codes "f")) (at_line 2) (record r1 { left = 18 }) ≡ gives goes_on r3
unfolding too_deep elements_at joined_after modified_after
first_call =
    runs 20 no_file 255 (codes "f") (at_line 2) (record r1 { left = 18 }) 17 refl (record { parents = refl; global = refl }) refl refl (rule_at first_block 1) no_lists (wrote r2 14 (codes "first")) (map.get-insert key_order _ _ _ _) refl
    (next (with_turns 20) 255 1 (tree.Rule (codes "f") [] second_block) (echo (codes "first") ∷ []) jamroot (called_at r1 17) r2 16 _ refl refl
    (next (with_turns 20) 255 2 (echo (codes "first")) [] jamroot r2 (wrote r2 14 (codes "first")) 15 _ refl
    (native_is 20 no_file 254 (codes "ECHO") (at_line 2) (record r2 { left = 15 }) 14 refl (record { parents = refl; global = refl }) refl refl (lists ((codes "first" ∷ []) ∷ [])) (codes "first" ∷ []) refl refl
    (map.get-insert key_order _ _ _ _ ∙ map.get-insert key_order _ _ _ _ ∙ none _) (none _)) refl))
    (record { parents = refl; global = refl }) (none _)

second_call : form (with_turns 20) (levels (with_turns 20) 256) (call_of_it (codes "f")) (at_line 3) (record r3 { left = 13 }) ≡ gives goes_on (after_frame r4)
unfolding too_deep elements_at joined_after modified_after
second_call =
    runs 20 no_file 255 (codes "f") (at_line 3) (record r3 { left = 13 }) 12 refl (record { parents = refl; global = refl }) refl refl (rule_at second_block 1) no_lists r4 (map.get-insert key_order _ _ _ _) refl
    (next (with_turns 20) 255 1 (echo (codes "second")) [] jamroot (called_at r3 12) r4 11 _ refl
    (native_is 20 no_file 254 (codes "ECHO") (at_line 1) (record (called_at r3 12) { left = 11 }) 10 refl (record { parents = refl; global = refl }) refl refl (lists ((codes "second" ∷ []) ∷ [])) (codes "second" ∷ []) refl refl
    (map.get-insert key_order _ _ _ _ ∙ map.get-insert key_order _ _ _ _ ∙ none _) (none _)) refl)
    (record { parents = refl; global = refl }) (none _)

pub redefined_rule : RedefinedRule
redefined_rule =
    subst (λ o. IsLeft (file_ended (close_frame o)) ((codes "first" ∷ []) ∷ (codes "second" ∷ []) ∷ []) 10)
    (sym (next (with_turns 20) 256 1 (tree.Rule (codes "f") [] first_block) (call_of_it (codes "f") ∷ call_of_it (codes "f") ∷ []) jamroot (in_file 20) r1 19 _ refl refl
    (next (with_turns 20) 256 2 (call_of_it (codes "f")) (call_of_it (codes "f") ∷ []) jamroot r1 r3 18 _ refl first_call
    (next (with_turns 20) 256 3 (call_of_it (codes "f")) [] jamroot r3 (after_frame r4) 13 _ refl second_call refl))))
    (refl, refl)

-- ---- dynamic scope

abbrev show_block : StmtTrees
show_block = lines (echo (codes "$(V)") ∷ [])

abbrev outer_block : StmtTrees
outer_block = lines (binds (codes "V") (codes "inner" ∷ []) ∷ call_of_it (codes "show") ∷ [])

abbrev d1 : State Lines
d1 = defined (codes "show") show_block 1 (in_file 20) 19

abbrev d2 : State Lines
d2 = defined (codes "outer") outer_block 2 d1 18

abbrev d3 : State Lines
d3 = record (with_scopes (assign (codes "V") (codes "global" ∷ [])) d2) { left = 17 }

abbrev d4 : State Lines
d4 = record (with_scopes (bind (codes "V") (codes "inner" ∷ [])) (called_at d3 15)) { left = 14 }

abbrev d5 : State Lines
d5 = wrote (called_at d4 12) 10 (codes "inner")

abbrev d6 : State Lines
d6 = after_frame (after_frame d5)

abbrev d7 : State Lines
d7 = wrote (called_at d6 8) 6 (codes "global")

show_in_outer : form (with_turns 20) (levels (with_turns 20) 255) (call_of_it (codes "show")) (at_line 2) (record d4 { left = 13 }) ≡ gives goes_on (after_frame d5)
unfolding too_deep elements_at joined_after modified_after
show_in_outer =
    runs 20 no_file 254 (codes "show") (at_line 2) (record d4 { left = 13 }) 12 refl (record { parents = refl; global = refl }) refl refl (rule_at show_block 1) no_lists d5 (map.get-insert key_order _ _ _ _ ∙ map.get-insert key_order _ _ _ _) refl
    (next (with_turns 20) 254 1 (echo (codes "$(V)")) [] jamroot (called_at d4 12) d5 11 _ refl
    (native_is 20 no_file 253 (codes "ECHO") (at_line 1) (record (called_at d4 12) { left = 11 }) 10 refl (record { parents = refl; global = refl }) refl refl (lists ((codes "$(V)" ∷ []) ∷ [])) (codes "inner" ∷ []) refl refl
    (map.get-insert key_order _ _ _ _ ∙ map.get-insert key_order _ _ _ _ ∙ none _) (none _)) refl)
    (record { parents = refl; global = refl }) (none _)

outer_call : form (with_turns 20) (levels (with_turns 20) 256) (call_of_it (codes "outer")) (at_line 4) (record d3 { left = 16 }) ≡ gives goes_on d6
unfolding too_deep elements_at joined_after modified_after
outer_call =
    runs 20 no_file 255 (codes "outer") (at_line 4) (record d3 { left = 16 }) 15 refl (record { parents = refl; global = refl }) refl refl (rule_at outer_block 2) no_lists (after_frame d5) (map.get-insert key_order _ _ _ _) refl
    (next (with_turns 20) 255 1 (binds (codes "V") (codes "inner" ∷ [])) (call_of_it (codes "show") ∷ []) jamroot (called_at d3 15) d4 14 _ refl refl
    (next (with_turns 20) 255 2 (call_of_it (codes "show")) [] jamroot d4 (after_frame d5) 13 _ refl show_in_outer refl))
    (record { parents = refl; global = refl }) (none _)

v_is : look (called_at d6 8).worlds.now.scopes (codes "V") ≡ codes "global" ∷ []
v_is = ap (λ o. unwrap_or o []) (map.get-insert key_order map.empty ([], codes "V") (codes "global" ∷ []) ([], codes "V"))

show_call : form (with_turns 20) (levels (with_turns 20) 256) (call_of_it (codes "show")) (at_line 5) (record d6 { left = 9 }) ≡ gives goes_on (after_frame d7)
unfolding too_deep elements_at joined_after modified_after
show_call =
    runs 20 no_file 255 (codes "show") (at_line 5) (record d6 { left = 9 }) 8 refl (record { parents = refl; global = refl }) refl refl (rule_at show_block 1) no_lists d7 (map.get-insert key_order _ _ _ _ ∙ map.get-insert key_order _ _ _ _) refl
    (next (with_turns 20) 255 1 (echo (codes "$(V)")) [] jamroot (called_at d6 8) d7 7 _ refl
    (native_is 20 no_file 254 (codes "ECHO") (at_line 1) (record (called_at d6 8) { left = 7 }) 6 refl (record { parents = refl; global = refl }) refl refl (lists ((codes "$(V)" ∷ []) ∷ [])) (codes "global" ∷ [])
    (word_list 20 (levels (with_turns 20) 255) (codes "$(V)") (codes "global" ∷ []) (at_line 1) (record (called_at d6 8) { left = 7 }) (reads_V (look (called_at d6 8).worlds.now.scopes) v_is) refl) refl
    (map.get-insert key_order _ _ _ _ ∙ map.get-insert key_order _ _ _ _ ∙ none _) (none _)) refl)
    (record { parents = refl; global = refl }) (none _)

abbrev set_V : FormTree
set_V = sets (codes "V") (codes "global" ∷ [])

pub dynamic_scope : DynamicScope
unfolding too_deep elements_at joined_after modified_after
dynamic_scope =
    subst (λ o. IsLeft (file_ended (close_frame o)) ((codes "inner" ∷ []) ∷ (codes "global" ∷ []) ∷ []) 6)
    (sym (next (with_turns 20) 256 1 (tree.Rule (codes "show") [] show_block) (tree.Rule (codes "outer") [] outer_block ∷ set_V ∷ call_of_it (codes "outer") ∷ call_of_it (codes "show") ∷ []) jamroot (in_file 20) d1 19 _ refl refl
    (next (with_turns 20) 256 2 (tree.Rule (codes "outer") [] outer_block) (set_V ∷ call_of_it (codes "outer") ∷ call_of_it (codes "show") ∷ []) jamroot d1 d2 18 _ refl refl
    (next (with_turns 20) 256 3 set_V (call_of_it (codes "outer") ∷ call_of_it (codes "show") ∷ []) jamroot d2 d3 17 _ refl refl
    (next (with_turns 20) 256 4 (call_of_it (codes "outer")) (call_of_it (codes "show") ∷ []) jamroot d3 d6 16 _ refl outer_call
    (next (with_turns 20) 256 5 (call_of_it (codes "show")) [] jamroot d6 (after_frame d7) 9 _ refl show_call refl))))))
    (refl, refl)

-- ---- faults of calls

abbrev needs_x : State Lines
needs_x = record (with_world (define_rule (codes "f") ((param (codes "x") None ∷ []) ∷ []) tree.NoStmts jamroot 1) (in_file 9)) { left = 8 }

abbrev rule_with_x : Rule
rule_with_x = record { home = []; params = (param (codes "x") None ∷ []) ∷ []; block = tree.NoStmts; path = jamroot; line = 1 }

pub arity_at_call : ArityAtCall
unfolding too_deep elements_at joined_after modified_after
arity_at_call =
    subst (λ o. FaultsAt (file_ended (close_frame o)) jamroot 2 (arity (codes "f")))
    (sym (next (with_turns 9) 256 1 (tree.Rule (codes "f") ((param (codes "x") None ∷ []) ∷ []) tree.NoStmts) (call_of_it (codes "f") ∷ []) jamroot (in_file 9) needs_x 8 _ refl refl
    (first_is (with_turns 9) 256 2 (call_of_it (codes "f")) [] jamroot needs_x 7 _ refl
    (ap (λ o. then_do o (λ value s₁. done s₁))
    (call_is (with_turns 9) 255 (codes "f") (lists ([] ∷ [])) [] [] (at_line 2) (record needs_x { left = 7 }) 6 refl refl refl refl
    ∙ rule_refused (with_turns 9) (levels (with_turns 9) 255) (rule_body (with_turns 9) (levels (with_turns 9) 255)) (codes "f") ([] ∷ []) (at_line 2) (record needs_x { left = 6 }) (record { parents = refl; global = refl }) refl rule_with_x (map.get-insert key_order _ _ _ _) refl)))))
    refl

abbrev none_block : StmtTrees
none_block = lines_from 5 (call_of_it (codes "none") ∷ [])

abbrev in_lib : Rule
in_lib = record { home = []; params = []; block = none_block; path = codes "lib.jam"; line = 4 }

abbrev with_lib : State Lines
with_lib = record (with_world (define_rule (codes "f") [] none_block (codes "lib.jam") 4) (with_world freeze_roots (in_file 9))) { left = 7 }

abbrev lib_spot : Spot
lib_spot = record { path = codes "lib.jam"; line = 5 }

pub fault_in_rule : FaultInRule
unfolding too_deep elements_at joined_after modified_after
fault_in_rule =
    subst (λ o. FaultsAt (file_ended (close_frame o)) (codes "lib.jam") 5 (unknown_rule (codes "none")))
    (sym (next (setting_of 9 file_of_rule) 256 1 (tree.Include (list (codes "lib.jam" ∷ []))) (call_of_it (codes "f") ∷ []) jamroot (in_file 9) with_lib 8 _ refl refl
    (first_is (setting_of 9 file_of_rule) 256 2 (call_of_it (codes "f")) [] jamroot with_lib 6 _ refl
    (ap (λ o. then_do o (λ value s₁. done s₁))
    (rule_is 9 file_of_rule 255 (codes "f") (at_line 2) (record with_lib { left = 6 }) 5 refl (record { parents = refl; global = refl }) refl refl (lists ([] ∷ [])) [] [] in_lib no_lists _ refl refl (map.get-insert key_order _ _ _ _) refl
    (first_is (setting_of 9 file_of_rule) 255 5 (call_of_it (codes "none")) [] (codes "lib.jam") (called_at with_lib 5) 4 _ refl
    (native_is 9 file_of_rule 254 (codes "none") lib_spot (record (called_at with_lib 5) { left = 4 }) 3 refl (record { parents = refl; global = refl }) refl refl (lists ([] ∷ [])) [] refl refl (map.get-insert key_order _ _ _ _ ∙ none _) (none _))))))))
    refl

-- ---- the lists of an inner call

abbrev inner_block : StmtTrees
inner_block = lines (tree.Return (list (codes "$(1)" ∷ codes "$(2)" ∷ [])) ∷ [])

abbrev asks_inner : FormTree
asks_inner = tree.Return (bracket (codes "inner") ((codes "x" ∷ []) ∷ []))

abbrev asks_outer : FormTree
asks_outer = tree.Return (bracket (codes "outer") ((codes "a" ∷ []) ∷ (codes "b" ∷ []) ∷ []))

abbrev i1 : State Lines
i1 = defined (codes "inner") inner_block 1 (in_file 20) 19

abbrev i2 : State Lines
i2 = defined (codes "outer") (lines (asks_inner ∷ [])) 2 i1 18

abbrev outer_lists : List Binding
outer_lists = special ((codes "a" ∷ []) ∷ (codes "b" ∷ []) ∷ []) ++ []

abbrev inner_lists : List Binding
inner_lists = special ((codes "x" ∷ []) ∷ []) ++ []

abbrev i3 : State Lines
i3 = with_scopes (bind_each outer_lists) (with_scopes (enter_call []) (record i2 { left = 16 }))

abbrev i4 : State Lines
i4 = record (with_scopes (bind_each inner_lists) (with_scopes (enter_call []) (record i3 { left = 14 }))) { left = 13 }

inner_gives : form (with_turns 20) (levels (with_turns 20) 254) asks_inner (at_line 1) (record i3 { left = 15 }) ≡ gives (returns (codes "x" ∷ [])) (after_frame i4)
unfolding too_deep elements_at joined_after modified_after
inner_gives =
    return_bracket (with_turns 20) 253 (codes "inner") (lists ((codes "x" ∷ []) ∷ [])) (at_line 1) (record i3 { left = 15 }) (after_frame i4) (codes "x" ∷ [])
    (returns_so 20 no_file 252 (codes "inner") (at_line 1) (record i3 { left = 15 }) 14 refl (record { parents = refl; global = refl }) refl refl (lists ((codes "x" ∷ []) ∷ [])) (codes "x" ∷ []) [] (rule_at inner_block 1) inner_lists (codes "x" ∷ []) i4
    refl refl (map.get-insert key_order _ _ _ _ ∙ map.get-insert key_order _ _ _ _) refl refl (record { parents = refl; global = refl }) (none _)) refl

pub inner_call : InnerCallHasItsLists
unfolding too_deep elements_at joined_after modified_after
inner_call =
    subst (λ o. HasValue (value_of (close_frame o)) (codes "x" ∷ []))
    (sym (next (with_turns 20) 256 1 (tree.Rule (codes "inner") [] inner_block) (tree.Rule (codes "outer") [] (lines (asks_inner ∷ [])) ∷ asks_outer ∷ []) jamroot (in_file 20) i1 19 _ refl refl
    (next (with_turns 20) 256 2 (tree.Rule (codes "outer") [] (lines (asks_inner ∷ []))) (asks_outer ∷ []) jamroot i1 i2 18 _ refl refl
    (first_is (with_turns 20) 256 3 asks_outer [] jamroot i2 17 _ refl
    (return_bracket (with_turns 20) 255 (codes "outer") (lists ((codes "a" ∷ []) ∷ (codes "b" ∷ []) ∷ [])) (at_line 3) (record i2 { left = 17 }) (after_frame (after_frame i4)) (codes "x" ∷ [])
    (returns_so 20 no_file 254 (codes "outer") (at_line 3) (record i2 { left = 17 }) 16 refl (record { parents = refl; global = refl }) refl refl (lists ((codes "a" ∷ []) ∷ (codes "b" ∷ []) ∷ [])) (codes "a" ∷ []) ((codes "b" ∷ []) ∷ [])
    (rule_at (lines (asks_inner ∷ [])) 2) outer_lists (codes "x" ∷ []) (after_frame i4) refl refl (map.get-insert key_order _ _ _ _) refl
    (first_is (with_turns 20) 254 1 asks_inner [] jamroot i3 15 (gives (returns (codes "x" ∷ [])) (after_frame i4)) refl inner_gives)
    (record { parents = refl; global = refl }) (none _)) refl)))))
    refl

-- ---- a call that is rolled back

abbrev bad_block : StmtTrees
bad_block = lines (binds (codes "V") (codes "x" ∷ []) ∷ sets (codes "W") (codes "y" ∷ []) ∷ asks (codes "EXIT") ((codes "no" ∷ []) ∷ []) ∷ [])

abbrev b1 : State Lines
b1 = defined (codes "bad") bad_block 2 (record (with_scopes (assign (codes "V") (codes "global" ∷ [])) (in_file 20)) { left = 19 }) 18

-- the call begins, without a frame of the file
abbrev b2 : State Lines
b2 = record (with_worlds mark (after_frame b1)) { left = 17 }

abbrev b3 : State Lines
b3 = with_scopes (bind_each (special [] ++ [])) (with_scopes (enter_call []) b2)

abbrev b4 : State Lines
b4 = record (with_scopes (bind (codes "V") (codes "x" ∷ [])) b3) { left = 16 }

abbrev b5 : State Lines
b5 = record (with_scopes (assign (codes "W") (codes "y" ∷ [])) b4) { left = 15 }

pub dynamic_scope_rolled : DynamicScopeRolled
unfolding too_deep elements_at joined_after modified_after
dynamic_scope_rolled =
    subst (λ o. Exits (back_to (after_frame b1).worlds o) (codes "no") (codes "global" ∷ []) [])
    (sym (rule_called (with_turns 20) (levels (with_turns 20) 255) (rule_body (with_turns 20) (levels (with_turns 20) 255)) (codes "bad") [] nowhere b2 (record { parents = refl; global = refl }) refl (rule_at bad_block 2) (special [] ++ []) _
    (map.get-insert key_order _ _ _ _) refl
    (next (with_turns 20) 255 1 (binds (codes "V") (codes "x" ∷ [])) (sets (codes "W") (codes "y" ∷ []) ∷ asks (codes "EXIT") ((codes "no" ∷ []) ∷ []) ∷ []) jamroot b3 b4 16 _ refl refl
    (next (with_turns 20) 255 2 (sets (codes "W") (codes "y" ∷ [])) (asks (codes "EXIT") ((codes "no" ∷ []) ∷ []) ∷ []) jamroot b4 b5 15 _ refl refl
    (first_is (with_turns 20) 255 3 (asks (codes "EXIT") ((codes "no" ∷ []) ∷ [])) [] jamroot b5 14 _ refl
    (native_is 20 no_file 254 (codes "EXIT") (at_line 3) (record b5 { left = 14 }) 13 refl (record { parents = refl; global = refl }) refl refl (lists ((codes "no" ∷ []) ∷ [])) (codes "no" ∷ []) refl refl (map.get-insert key_order _ _ _ _ ∙ none _) (none _))))))) (
      refl,
      ap (λ o. unwrap_or o []) (map.get-insert key_order map.empty ([], codes "V") (codes "global" ∷ []) ([], codes "V")),
      ap (λ o. unwrap_or o []) (map.get-insert key_order map.empty ([], codes "V") (codes "global" ∷ []) ([], codes "W") ∙ none (codes "W")),
    )
