-- Changes of the worlds, one for each text of a list.
use Rattle.std.proofs.Common.{◌≡◌, inl, inr, ℕ, ◌+◌, ◌<◌, ◌≤◌, length, drop, get_or, sym, ap, ◌∙◌}
use Rattle.std.proofs.Math.ListN.{drop_of_length-le}
use Rattle.jam_journal.specs.Tables.{Text}
use Rattle.jam_journal.specs.Scopes.{Value, bind}
use Rattle.jam_scope.specs.Worlds.{Worlds}
use Rattle.jam_scope.specs.Changes.{rescoped}
use Rattle.jam_meaning.specs.Faults.{Spot}
use Rattle.jam_meaning.specs.Forms.{bind_names}
use Rattle.jam_effects.specs.declared.fault.EvalFault.{EvalFault}
use Rattle.jam_effects.specs.Naming.{Change, made, and_next, for_each, IsRefused}
use Rattle.jam_effects.proofs.RestBeginsWithNextItem.{next_item}

-- a name is bound: what is left to be bound gives what all gives
pub next_bound : (names : Value) (at : ℕ) (name : Text) (value : Value) (first now set : Worlds) → at < length names → name ≡ get_or names at name → set ≡ rescoped (bind name value) now
    → rescoped (bind_names (drop at names) value) now ≡ rescoped (bind_names names value) first → rescoped (bind_names (drop (at + 1) names) value) set ≡ rescoped (bind_names names value) first
next_bound names at name value first now set inside is e so_far =
    ap (rescoped (bind_names (drop (at + 1) names) value)) e ∙ ap (λ xs. rescoped (bind_names xs value) now) (sym (next_item names at name inside is)) ∙ so_far

pub all_bound : (names : Value) (at : ℕ) (value : Value) (first now : Worlds) → length names ≤ at → rescoped (bind_names (drop at names) value) now ≡ rescoped (bind_names names value) first → now ≡ rescoped (bind_names names value) first
all_bound names at value first now past so_far = ap (λ xs. rescoped (bind_names xs value) now) (sym (drop_of_length-le names past)) ∙ so_far

-- a change is made
pub next_made : (texts : Value) (at : ℕ) (text : Text) (act : Text → Worlds → Change) (first now set : Worlds) → at < length texts → text ≡ get_or texts at text → act text now ≡ made set
    → for_each (drop at texts) act now ≡ for_each texts act first → for_each (drop (at + 1) texts) act set ≡ for_each texts act first
next_made texts at text act first now set inside is done so_far =
    sym (ap (λ xs. for_each xs act now) (next_item texts at text inside is) ∙ ap (λ c. and_next c (for_each (drop (at + 1) texts) act)) done) ∙ so_far

-- a change is refused
pub next_refused : (texts : Value) (at : ℕ) (text : Text) (act : Text → Worlds → Change) (spot : Spot) (e : EvalFault) (first now set : Worlds) → at < length texts → text ≡ get_or texts at text → IsRefused (act text now) spot e set
    → for_each (drop at texts) act now ≡ for_each texts act first → IsRefused (for_each texts act first) spot e set
next_refused texts at text act spot e first now set inside is (inl memory) so_far = inl memory
next_refused texts at text act spot e first now set inside is (inr (fault, refuses, h)) so_far =
    inr (fault, sym so_far ∙ ap (λ xs. for_each xs act now) (next_item texts at text inside is) ∙ ap (λ c. and_next c (for_each (drop (at + 1) texts) act)) refuses, h)

pub all_made : (texts : Value) (at : ℕ) (act : Text → Worlds → Change) (first now : Worlds) → length texts ≤ at → for_each (drop at texts) act now ≡ for_each texts act first → for_each texts act first ≡ made now
all_made texts at act first now past so_far = sym so_far ∙ ap (λ xs. for_each xs act now) (drop_of_length-le texts past)
