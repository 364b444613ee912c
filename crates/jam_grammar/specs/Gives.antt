-- What reading a part leaves to be read.
use Rattle.std.specs.Prelude.{◌≡◌, ℕ, List, [], ◌++◌}
use Rattle.b2_base.specs.declared.token.Token.{Token}
use Rattle.jam_grammar.specs.Grammar.{Part, opens}
use Rattle.jam_grammar.specs.Machine.{Bad, run}
use Rattle.jam_grammar.specs.Spelling.{Sym, Spells}

-- Where so many are open: to read the parts from the first tokens, and then whatever has to come, is to read the others
-- from the tokens after them.
abbrev pub Leads : List Part → List Token → ℕ → List Part → List Token → Type 0
Leads parts tokens depth others after = (more : List Part) → opens more ≡ depth → run tokens (parts ++ more) ≡ run after (others ++ more)

-- reading the parts ends at these tokens, whatever has to come after them
abbrev pub Ends : List Part → List Token → ℕ → List Token → Type 0
Ends parts tokens depth at = (more : List Part) → opens more ≡ depth → run tokens (parts ++ more) ≡ Bad at

-- the parts are read, the symbols are spelled by that, and reading goes on after them
pub record ReadsPart (parts : List Part) (tokens : List Token) (depth : ℕ) (syms : List Sym) (after : List Token) : Type 0 where
  pub moves : Leads parts tokens depth [] after
  pub spells : Spells tokens syms after
