-- What is left over when there are no more lists of parameters.
use Rattle.std.proofs.Common.{◌≡◌, ◌<◌, Bool, true, List, [], ◌∷◌, length, Some, None, is_some, refl, sym, subst, arith}
use Rattle.std.proofs.lemmas.List.{append-nil}
use Rattle.std.specs.declared.vec.Vec.{Vec}
use Rattle.std.specs.declared.alloc.Global.{Global}
use Rattle.jam_grammar.specs.declared.tree.Param.{Param}
use Rattle.jam_journal.specs.Scopes.{Value, Binding}
use Rattle.jam_meaning.specs.Params.{nothing_left, lists_taken}
use Rattle.jam_grammar.specs.Trees.{lists_of}
use Rattle.jam_values.specs.Taking.{IsTaken}

none_added : (bs : List Binding) → IsTaken bs bs true (Some [])
none_added bs = ([], refl, sym (append-nil bs))

nothing_taken : (bs : List Binding) (lists : List Value) (none : Bool) → none ≡ is_some (nothing_left lists) → IsTaken bs bs none (lists_taken [] lists)
nothing_taken bs [] none e = subst (λ b. IsTaken bs bs b (Some [])) (sym e) (none_added bs)
nothing_taken bs ([] ∷ lists) none e = nothing_taken bs lists none e
nothing_taken bs ((text ∷ texts) ∷ lists) none e = subst (λ b. IsTaken bs bs b None) (sym e) refl

pub no_more_lists : (bs : List Binding) (params : List (Vec Param Global)) (lists : List Value) (none : Bool) → length params < 1 → none ≡ is_some (nothing_left lists) → IsTaken bs bs none (lists_taken (lists_of params) lists)
no_more_lists bs [] lists none h e = nothing_taken bs lists none e
no_more_lists bs (first ∷ more) lists none h e = absurd (omega arith)
