-- A form sets variables where it is `local`, an assignment or an assignment on a target, and in no other case.
use Rattle.std.proofs.Common.{◌≡◌, ◌⊎◌, inl, inr, true, Option, refl, ap}
use Rattle.std.proofs.lemmas.Bool.{false≢true}
use Rattle.std.specs.declared.vec.Vec.{Vec}
use Rattle.std.specs.declared.alloc.Global.{Global}
use Rattle.jam_grammar.specs.declared.tree.Arg.{Arg}
use Rattle.jam_grammar.specs.declared.tree.Sign.{Sign}
use Rattle.jam_grammar.specs.declared.tree.Form.{Form}
use Rattle.jam_grammar.specs.declared.tree.Form.TheVariants as forms
use Rattle.jam_grammar.specs.Trees.{form_tree}
use Rattle.jam_interp.specs.FunctionParts.{sets_variables}

abbrev pub IsLocal : Form → Type 0
IsLocal f = (names : Vec Arg Global) × (list : Option (Vec Arg Global)) × (f ≡ forms.Local names list)

abbrev pub IsAssign : Form → Type 0
IsAssign f = (target : Arg) × (sign : Sign) × (list : Vec Arg Global) × (f ≡ forms.Assign target sign list)

abbrev pub IsAssignOn : Form → Type 0
IsAssignOn f = (target : Arg) × (on : Vec Arg Global) × (sign : Sign) × (list : Vec Arg Global) × (f ≡ forms.AssignOn target on sign list)

pub these_set : (f : Form) → IsLocal f ⊎ (IsAssign f ⊎ IsAssignOn f) → sets_variables (form_tree f) ≡ true
these_set f (inl h) = ap (λ x. sets_variables (form_tree x)) h.2
these_set f (inr (inl h)) = ap (λ x. sets_variables (form_tree x)) h.3
these_set f (inr (inr h)) = ap (λ x. sets_variables (form_tree x)) h.4

pub no_others_set : (f : Form) → sets_variables (form_tree f) ≡ true → ((names : Vec Arg Global) (list : Option (Vec Arg Global)) → f ≡ forms.Local names list → ⊥)
    → ((target : Arg) (sign : Sign) (list : Vec Arg Global) → f ≡ forms.Assign target sign list → ⊥)
    → ((target : Arg) (on : Vec Arg Global) (sign : Sign) (list : Vec Arg Global) → f ≡ forms.AssignOn target on sign list → ⊥) → ⊥
no_others_set (forms.Local names list) sets local assign own = local names list refl
no_others_set (forms.Assign target sign list) sets local assign own = assign target sign list refl
no_others_set (forms.AssignOn target on sign list) sets local assign own = own target on sign list refl
no_others_set _ sets local assign own = false≢true sets
