-- What the code's parameters take.
use Rattle.std.specs.Prelude.{◌≡◌, ℕ, ◌==◌, Bool, true, false, List, [], ◌∷◌, ◌++◌, length, Option, Some, None, if◌then◌else◌}
use Rattle.jam_journal.specs.Scopes.{Value, Binding}

-- one, which has to be there; one if there is one; all, of which there is at least one
abbrev pub one : Value → Option ℕ
one [] = None
one (text ∷ texts) = Some 1

abbrev pub one_if : Value → Option ℕ
one_if [] = Some 0
one_if (text ∷ texts) = Some 1

abbrev pub some : Value → Option ℕ
some [] = None
some (text ∷ texts) = Some (length (text ∷ texts))

-- how many texts a parameter with a mark takes, if it can
abbrev pub count_taken : Option ℕ → Value → Option ℕ
count_taken None texts = one texts
count_taken (Some mark) texts = if mark == 63 then one_if texts else (if mark == 42 then Some (length texts) else some texts)

-- where arguments are taken, what they are bound to is added; else there is nothing to bind
abbrev pub IsTaken : List Binding → List Binding → Bool → Option (List Binding) → Type 0
IsTaken old new true answer = (added : List Binding) × (answer ≡ Some added) × (new ≡ old ++ added)
IsTaken old new false answer = answer ≡ None
