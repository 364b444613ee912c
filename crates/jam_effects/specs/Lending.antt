-- Lists that are looked at where they stand.
use Rattle.std.specs.Prelude.{◌≡◌, Bool, Ok}
use Rattle.jam_expand.specs.Expansions.{expansion}
use Rattle.jam_grammar.specs.Trees.{ArgTree, ArgTrees, Word, Bracket, NoArgs, ArgAnd}
use Rattle.jam_journal.specs.Scopes.{Scopes, Value, look}
use Rattle.jam_meaning.specs.Conds.{is_true, is_same, is_within}

-- the argument is a word that stands for this list
abbrev pub IsLent : Scopes → ArgTree → Value → Type 0
IsLent scopes (Word text) list = expansion (look scopes) text ≡ Ok list
IsLent scopes (Bracket inner) list = ⊥

-- there is one argument, and it is such a word
abbrev pub AreLent : Scopes → ArgTrees → Value → Type 0
AreLent scopes NoArgs list = ⊥
AreLent scopes (ArgAnd first NoArgs) list = IsLent scopes first list
AreLent scopes (ArgAnd first (ArgAnd second more)) list = ⊥

-- the argument is such a word, and this is whether its list is true
abbrev pub IsTruthLent : Scopes → ArgTree → Bool → Type 0
IsTruthLent scopes tree holds = (list : Value) × IsLent scopes tree list × (holds ≡ is_true list)

-- the argument is such a word, and this is whether its list is the same as one
abbrev pub IsSameLent : Scopes → Value → ArgTree → Bool → Type 0
IsSameLent scopes first right holds = (second : Value) × IsLent scopes right second × (holds ≡ is_same first second)

abbrev pub AreSameLent : Scopes → ArgTree → ArgTree → Bool → Type 0
AreSameLent scopes left right holds = (first : Value) × IsLent scopes left first × IsSameLent scopes first right holds

-- the only argument is such a word, and this is whether each text is in its list
abbrev pub IsWithinLent : Scopes → Value → ArgTrees → Bool → Type 0
IsWithinLent scopes texts among holds = (others : Value) × AreLent scopes among others × (holds ≡ is_within texts others)

abbrev pub AreWithinLent : Scopes → ArgTree → ArgTrees → Bool → Type 0
AreWithinLent scopes left among holds = (texts : Value) × IsLent scopes left texts × IsWithinLent scopes texts among holds
