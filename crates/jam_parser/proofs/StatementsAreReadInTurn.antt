-- Which token begins a statement, how one more statement or case is spelled, and on which line it begins.
use Rattle.std.proofs.Common.{◌≡◌, ℕ, ◌+◌, List, [], ◌∷◌, ◌++◌, true, false, Some, None, nat_le, if◌then◌else◌, refl, sym, ap, ◌∙◌, subst, arith, append_assoc}
use Rattle.std.proofs.lemmas.List.{append-nil}
use Rattle.std.specs.declared.vec.Vec.{Vec}
use Rattle.std.specs.declared.alloc.Global.{Global}
use Rattle.b2_base.specs.declared.token.Token.{Token}
use Rattle.jam_grammar.specs.declared.tree.Stmt.{Stmt}
use Rattle.jam_grammar.specs.declared.tree.Block.{roll-Block}
use Rattle.jam_grammar.specs.declared.tree.Case.{Case, Case', roll-Case, rolls-Case'}
use Rattle.jam_grammar.specs.declared.mark.TokenMark.{TokenMark}
use Rattle.jam_grammar.specs.declared.mark.TokenMark.TheVariants as m
use Rattle.jam_grammar.specs.Marks.{mark_of_token}
use Rattle.jam_grammar.specs.Grammar as part
use Rattle.jam_grammar.specs.Grammar.{Part, Stmts, OneStmt, OneBlock, Tail, opens}
use Rattle.jam_grammar.specs.Machine.{feed, go_on, run}
use Rattle.jam_grammar.specs.Spelling.{Sym, Key, Says, From, StartsOn, spell_stmts, block_syms, stmt_syms, stmts_syms, case_syms, cases_syms}
use Rattle.jam_grammar.specs.Gives.{Leads}
use Rattle.jam_grammar.proofs.TreesAreThoseOfElements.{block_is}
use Rattle.jam_parser.specs.PartReadings.{ComesTo}
use Rattle.jam_parser.specs.Starts.{begins_stmt, starts_stmt, line_first, StandsAfter}
use Rattle.jam_parser.proofs.ReadingsCompose.{turned}

zero_more : (n : ℕ) → n ≡ 0 + n
zero_more n = omega arith

-- where a statement begins, one comes
pub stmt_comes : (left : List Token) (d : ℕ) → starts_stmt left ≡ true → ComesTo (Stmts ∷ []) (OneStmt ∷ Stmts ∷ []) left d [] left
stmt_comes left d h = turned (Stmts ∷ []) (OneStmt ∷ Stmts ∷ []) left d (omega arith) (comes left h)
  where
    same : (k : List Part) (x : TokenMark) → begins_stmt x ≡ true → feed (Stmts ∷ k) x ≡ feed (OneStmt ∷ Stmts ∷ k) x
    same k m.SquareOpen h = ap (λ n. if nat_le (1 + n) 64 then Some (part.OneInner ∷ part.Key m.SquareClose ∷ Tail ∷ Stmts ∷ k) else None) (zero_more (opens k))
    same k m.BraceOpen h = ap (λ n. if nat_le (1 + n) 64 then Some (Stmts ∷ part.Key m.BraceClose ∷ Stmts ∷ k) else None) (zero_more (opens k))
    same k m.If h = ap (λ n. if nat_le (1 + n) 64 then Some (part.OneExpr ∷ OneBlock ∷ part.OneElse ∷ Stmts ∷ k) else None) (zero_more (opens k))
    same k m.For h = ap (λ n. if nat_le (1 + n) 64 then Some (part.ForTail ∷ Stmts ∷ k) else None) (zero_more (opens k))
    same k m.While h = ap (λ n. if nat_le (1 + n) 64 then Some (part.OneExpr ∷ OneBlock ∷ Stmts ∷ k) else None) (zero_more (opens k))
    same k m.Switch h = ap (λ n. if nat_le (1 + n) 64 then Some (part.Args ∷ part.CaseBlock ∷ Stmts ∷ k) else None) (zero_more (opens k))
    same k m.Module h = ap (λ n. if nat_le (1 + n) 64 then Some (part.Args ∷ OneBlock ∷ Stmts ∷ k) else None) (zero_more (opens k))
    same k m.Rule h = ap (λ n. if nat_le (1 + n) 64 then Some (part.OneWord ∷ part.RuleTail ∷ Stmts ∷ k) else None) (zero_more (opens k))
    same k m.Actions h = ap (λ n. if nat_le (1 + n) 64 then Some (part.Heading false false false ∷ part.BodyBlock ∷ Stmts ∷ k) else None) (zero_more (opens k))
    same k m.On h = ap (λ n. if nat_le (1 + n) 64 then Some (part.OneArg ∷ OneStmt ∷ part.Shut ∷ Stmts ∷ k) else None) (zero_more (opens k))
    same k m.Plain h = refl
    same k m.Query h = refl
    same k m.Star h = refl
    same k m.Plus h = refl
    same k m.Together h = refl
    same k m.Existing h = refl
    same k m.Quietly h = refl
    same k m.Local h = refl
    same k m.Include h = refl
    same k m.Return h = refl
    same k _ h = cc

    comes : (left : List Token) → starts_stmt left ≡ true → Leads (Stmts ∷ []) left d (OneStmt ∷ Stmts ∷ []) left
    comes [] h k o = cc
    comes (t ∷ ts) h k o = ap (λ x. go_on x (run ts) (t ∷ ts)) (same k (mark_of_token t) h)

stmts_snoc : (xs : List Stmt) (x : Stmt) → stmts_syms (xs ++ x ∷ []) ≡ stmts_syms xs ++ stmt_syms x
stmts_snoc [] x = append-nil _
stmts_snoc (y ∷ xs) x = ap (λ s. stmt_syms y ++ s) (stmts_snoc xs x) ∙ sym (append_assoc (stmt_syms y) (stmts_syms xs) (stmt_syms x))

-- one more statement
pub more_stmts : (xs ys : List Stmt) (x : Stmt) → ys ≡ xs ++ x ∷ [] → stmts_syms ys ≡ stmts_syms xs ++ stmt_syms x
more_stmts xs ys x e = ap stmts_syms e ∙ stmts_snoc xs x

cases_snoc : (xs : List Case) (x : Case) → cases_syms (xs ++ x ∷ []) ≡ cases_syms xs ++ case_syms x
cases_snoc [] x = refl
cases_snoc (Case' p b ∷ xs) x =
    ap (λ s. Key m.Case ∷ Says p ∷ Key m.Colon ∷ (block_syms b ++ s)) (cases_snoc xs x)
    ∙ ap (λ s. Key m.Case ∷ Says p ∷ Key m.Colon ∷ s) (sym (append_assoc (block_syms b) (cases_syms xs) (case_syms x)))

-- one more case
pub more_cases : (xs ys : List Case) (x : Case) → ys ≡ xs ++ x ∷ [] → cases_syms ys ≡ cases_syms xs ++ case_syms x
more_cases xs ys x e = ap cases_syms e ∙ cases_snoc xs x

-- a case of these parts
pub case_is : (pattern : List ℕ) (stmts : Vec Stmt Global) → case_syms (roll-Case record { pattern = pattern; block = roll-Block record { stmts = stmts } }) ≡ Key m.Case ∷ Says pattern ∷ Key m.Colon ∷ stmts_syms stmts.items
case_is pattern stmts =
    ap case_syms (rolls-Case' record { pattern = pattern; block = roll-Block record { stmts = stmts } })
    ∙ ap (λ s. Key m.Case ∷ Says pattern ∷ Key m.Colon ∷ s) (append-nil _ ∙ ap spell_stmts (block_is stmts))

-- what is read begins on the line of its first token
pub lined : (p q : List Part) {s : List Sym} (want : TokenMark) (a b c : List Token) (d line : ℕ) → StandsAfter want a b → line ≡ line_first a → ComesTo p q a d s c → ComesTo p q a d (From line ∷ s) c
lined p q {s} want a b c d line h e x = record {
  moves = x.moves;
  spells = (subst (StartsOn line) (sym h.split) (sym (e ∙ ap line_first h.split)), x.spells);
  shorter = x.shorter;
}
