-- The examples of own values.
use Rattle.std.proofs.Common.{◌≡◌, List, [], ◌∷◌, refl, sym, ap, subst, ◌∙◌}
use Rattle.std.proofs.lemmas.Cmp.{nat_list_cmp_total}
use Rattle.std.specs.Prelude.{codes, map as each}
use Rattle.std.specs.Cmp.Lexicographic.{slice_cmp}
use Rattle.std.specs.FinMap as map
use Rattle.std.specs.List.{filter}
use Rattle.std.specs.Ordering.{nat_cmp}
use Rattle.std.specs.Str.{bytes_eq}
use Rattle.jam_expand.specs.Words.{too_deep}
use Rattle.jam_expand.specs.Expansions.{elements_at}
use Rattle.jam_expand.specs.Values.{joined_after}
use Rattle.jam_expand.specs.Modifiers.{modified_after}
use Rattle.jam_grammar.specs.declared.tree.Sign.TheVariants as signs
use Rattle.jam_grammar.specs.Trees as tree
use Rattle.jam_grammar.specs.Trees.{FormTree}
use Rattle.jam_journal.specs.Tables.{Text, Key, key_cmp, row_of}
use Rattle.jam_journal.specs.Scopes.{Value, bind, bind_each}
use Rattle.jam_scope.specs.Changes.{set_on}
use Rattle.jam_meaning.specs.Faults.{Spot}
use Rattle.jam_meaning.specs.States.{State, with_world, with_scopes}
use Rattle.jam_meaning.specs.Outcomes.{gives, returns, then_do, joined, in_frame, close_frame}
use Rattle.jam_meaning.specs.Args.{args, args_after}
use Rattle.jam_meaning.specs.RuleCalls.{value_of}
use Rattle.jam_meaning.specs.Forms.{started, form}
use Rattle.jam_meaning.specs.Eval.{levels}
use Rattle.jam_meaning.specs.Examples.{Lines, with_turns, list, binds, HasValue, jamroot, OnLocalEnds, OwnValueIsSeen}
use Rattle.jam_meaning.proofs.FoundInFlatWorlds.{key_order, empty_entries, one_entry}
use Rattle.jam_meaning.proofs.StatementsFollow.{first_is, next, in_file}

-- the entries of a row, by those of the table
abbrev row : Text → List (Key × Value) → List (Text × Value)
row first es = map.entries (map.from_entries {R = slice_cmp nat_cmp} (each (λ entry. (entry.0.1, entry.1)) (filter (λ entry. bytes_eq entry.0.0 first) es)))

no_own : (target : Text) → map.entries (row_of (map.empty {X = Value} {R = key_cmp}) target) ≡ []
no_own target = ap (row target) (empty_entries key_cmp Value) ∙ empty_entries (slice_cmp nat_cmp) Value

one_own : map.entries (row_of (map.insert (map.empty {X = Value} {R = key_cmp}) (codes "t", codes "X") (codes "a" ∷ [])) (codes "t")) ≡ (codes "X", codes "a" ∷ []) ∷ []
one_own = ap (row (codes "t")) (one_entry key_cmp key_order (codes "t", codes "X") (codes "a" ∷ [])) ∙ one_entry (slice_cmp nat_cmp) nat_list_cmp_total (codes "X") (codes "a" ∷ [])

abbrev at_two : Spot
at_two = record { path = jamroot; line = 2 }

-- the states at the second statements
abbrev bound_out : State Lines
bound_out = record (with_scopes (bind (codes "X") (codes "out" ∷ [])) (in_file 9)) { left = 7 }

abbrev with_own : State Lines
with_own = record (with_world (set_on (codes "t") (codes "X") (codes "a" ∷ [])) (in_file 9)) { left = 7 }

abbrev binds_out : FormTree
binds_out = binds (codes "X") (codes "out" ∷ [])

abbrev on_binds : FormTree
on_binds = tree.On (tree.Word (codes "t")) 2 (binds (codes "X") (codes "a" ∷ []))

abbrev returns_X : FormTree
returns_X = tree.Return (list (codes "$(X)" ∷ []))

abbrev sets_own : FormTree
sets_own = tree.AssignOn (tree.Word (codes "X")) (list (codes "t" ∷ [])) signs.Set (list (codes "a" ∷ []))

abbrev returns_own : FormTree
returns_own = tree.Return (tree.ArgAnd (tree.Bracket (tree.OnReturn (tree.Word (codes "t")) (list (codes "$(X)" ∷ [])))) tree.NoArgs)

pub on_local_ends : OnLocalEnds
unfolding too_deep elements_at joined_after modified_after
on_local_ends =
    subst (λ o. HasValue (value_of (close_frame o)) (codes "out" ∷ []))
    (sym (next (with_turns 9) 256 1 binds_out (on_binds ∷ returns_X ∷ []) jamroot (in_file 9) (record bound_out { left = 8 }) 8 _ refl refl
    (next (with_turns 9) 256 2 on_binds (returns_X ∷ []) jamroot (record bound_out { left = 8 }) (record bound_out { left = 6 }) 7 (gives (returns (codes "out" ∷ [])) (record bound_out { left = 5 })) refl
    (ap (λ bs. in_frame (λ later. started (with_turns 9) (levels (with_turns 9) 256) 2 at_two (λ at s. form (with_turns 9) (levels (with_turns 9) 256) (binds (codes "X") (codes "a" ∷ [])) at s) (with_scopes (bind_each bs) later)) bound_out)
    (no_own (codes "t"))) refl)))
    refl

pub own_value_is_seen : OwnValueIsSeen
unfolding too_deep elements_at joined_after modified_after
own_value_is_seen =
    subst (λ o. HasValue (value_of (close_frame o)) (codes "a" ∷ []))
    (sym (next (with_turns 9) 256 1 sets_own (returns_own ∷ []) jamroot (in_file 9) (record with_own { left = 8 }) 8 _ refl refl
    (first_is (with_turns 9) 256 2 returns_own [] jamroot (record with_own { left = 8 }) 7 _ refl
    (ap (λ bs. then_do (then_do (in_frame (λ later. args 9 (levels (with_turns 9) 255) (list (codes "$(X)" ∷ [])) at_two (with_scopes (bind_each bs) later)) with_own)
    (λ v s. then_do (joined [] v at_two s) (λ more s₁. args_after 9 (levels (with_turns 9) 256) more tree.NoArgs at_two s₁))) (λ v s. gives (returns v) s))
    one_own))))
    refl
