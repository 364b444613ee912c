-- How the parameters of a rule take the arguments of a call.
use Rattle.std.specs.Prelude.{ℕ, zero, suc, ◌==◌, List, [], ◌∷◌, ◌++◌, Option, Some, None, if◌then◌else◌}
use Rattle.std.specs.Option.{option_map}
use Rattle.b2_base.specs.Lists.{list_at, rest_of}
use Rattle.jam_grammar.specs.declared.tree.Param.{Param}
use Rattle.jam_grammar.specs.Spelling.{takes_all}
use Rattle.jam_journal.specs.Tables.{Text}
use Rattle.jam_journal.specs.Scopes.{Value, Binding}

-- the lists as `1` to `9` (49 to 57), and as `<` (60) and `>` (62); those that are not given are empty
abbrev pub numbered : ℕ → ℕ → List Value → List Binding
numbered zero byte lists = []
numbered (suc count) byte lists = (byte ∷ [], list_at 0 lists) ∷ numbered count (suc byte) (rest_of lists)

abbrev pub special : List Value → List Binding
special lists = numbered 9 49 lists ++ ((60 ∷ [], list_at 0 lists) ∷ (62 ∷ [], list_at 1 lists) ∷ [])

-- a parameter's value among what the others take of the rest
abbrev pub with_value : Text → Value → Option (List Binding) → Option (List Binding)
with_value name value more = option_map (λ bs. (name, value) ∷ bs) more

-- one element, which has to be there; one if there is one (63 is `?`); all the rest (42 is `*`), of which there is at least
-- one (43 is `+`)
abbrev pub one_taken : Text → Value → (Value → Option (List Binding)) → Option (List Binding)
one_taken name [] more = None
one_taken name (text ∷ texts) more = with_value name (text ∷ []) (more texts)

abbrev pub one_if_there : Text → Value → (Value → Option (List Binding)) → Option (List Binding)
one_if_there name [] more = with_value name [] (more [])
one_if_there name (text ∷ texts) more = with_value name (text ∷ []) (more texts)

abbrev pub some_taken : Text → Value → (Value → Option (List Binding)) → Option (List Binding)
some_taken name [] more = None
some_taken name (text ∷ texts) more = with_value name (text ∷ texts) (more [])

abbrev pub taken_by : Option ℕ → Text → Value → (Value → Option (List Binding)) → Option (List Binding)
taken_by None name texts more = one_taken name texts more
taken_by (Some mark) name texts more =
    if mark == 63 then one_if_there name texts more else (if mark == 42 then with_value name texts (more []) else some_taken name texts more)

-- the parameters of one list take its elements from left to right, and none is left over
abbrev pub list_taken : List Param → Value → Option (List Binding)
list_taken [] [] = Some []
list_taken [] (text ∷ texts) = None
list_taken (p ∷ ps) texts = taken_by p.mark p.name texts (list_taken ps)

abbrev pub and_those : Option (List Binding) → Option (List Binding) → Option (List Binding)
and_those None more = None
and_those (Some bs) more = option_map (λ others. bs ++ others) more

-- nothing stands in these lists
abbrev pub nothing_left : List Value → Option (List Binding)
nothing_left [] = Some []
nothing_left ([] ∷ lists) = nothing_left lists
nothing_left ((text ∷ texts) ∷ lists) = None

-- the lists of parameters take the lists of arguments, of which those that are not given are empty; what stands in further
-- lists is left over, unless the last list of parameters is `*` alone
abbrev pub lists_taken : List (List Param) → List Value → Option (List Binding)
lists_taken [] lists = nothing_left lists
lists_taken (ps ∷ more) lists = if takes_all ps then Some [] else and_those (list_taken ps (list_at 0 lists)) (lists_taken more (rest_of lists))

-- what a rule's parameters bind; without parentheses a rule takes anything; there is none where arguments are missing or
-- left over
abbrev pub params_bind : List (List Param) → List Value → Option (List Binding)
params_bind [] lists = Some []
params_bind (ps ∷ more) lists = lists_taken (ps ∷ more) lists

-- what a call binds in the frame of its rule: the argument lists, and then the parameters, which hide them
abbrev pub call_binds : List (List Param) → List Value → Option (List Binding)
call_binds params lists = option_map (λ bs. special lists ++ bs) (params_bind params lists)
