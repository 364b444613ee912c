-- What may come after a part of the parameters, and how they are spelled between parentheses.
use Rattle.std.specs.Prelude.{List, [], ◌∷◌, ◌++◌, Bool, true, false}
use Rattle.jam_grammar.specs.declared.tree.Param.{Param}
use Rattle.jam_grammar.specs.Grammar.{Part, Names, MoreParams}
use Rattle.jam_grammar.specs.Spelling.{Sym, Never, plist_syms, further_params}

-- after a name and its mark more names may come, if the mark does not forbid it
abbrev pub after_name : Bool → List Part
after_name true = Names ∷ []
after_name false = []

-- after a list more lists may come, if it is not the last
abbrev pub after_list : Bool → List Part
after_list true = []
after_list false = MoreParams ∷ []

-- one list or more, with colons between them
abbrev pub params_read : List (List Param) → List Sym
params_read [] = Never ∷ []
params_read (first ∷ rest) = plist_syms first ++ further_params rest
