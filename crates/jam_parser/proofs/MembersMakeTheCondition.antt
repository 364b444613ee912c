-- A condition is its members with `&&` or `||` between them, each read where it begins, and none where no sign follows.
use Rattle.std.proofs.Common.{◌≡◌, ℕ, ◌+◌, ◌≤◌, List, [], ◌∷◌, ◌++◌, false, Some, None, nat_le, if◌then◌else◌, length, refl, sym, ap, ◌∙◌, arith, append_assoc}
use Rattle.std.proofs.lemmas.List.{append-nil}
use Rattle.b2_base.specs.declared.token.Token.{Token}
use Rattle.jam_grammar.specs.declared.tree.Expr.{Expr}
use Rattle.jam_grammar.specs.declared.mark.TokenMark.{TokenMark}
use Rattle.jam_grammar.specs.declared.mark.TokenMark.TheVariants as m
use Rattle.jam_grammar.specs.Marks.{mark_of_token, same_mark}
use Rattle.jam_grammar.specs.Grammar as part
use Rattle.jam_grammar.specs.Grammar.{Part, Both, Single, OneExpr, OrTail, AndTail, Compared, opens}
use Rattle.jam_grammar.specs.Machine.{feed, go_on, run}
use Rattle.jam_grammar.specs.Trees as trees
use Rattle.jam_grammar.specs.Trees.{ExprTree}
use Rattle.jam_grammar.specs.Spelling.{Sym, Key, Spells, Level, Anywhere, WithinOr, WithinAnd, spell_expr, expr_syms, pair_syms, joined_syms}
use Rattle.jam_grammar.specs.Gives.{Leads}
use Rattle.jam_parser.specs.PartReadings.{ComesTo}
use Rattle.jam_parser.specs.Starts.{starts_with}
use Rattle.jam_parser.proofs.ReadingsCompose.{turned}
use Rattle.jam_parser.proofs.ArgumentsAreReadInTurn.{never}

-- a condition without `&&` and `||` may stand between `||`
pub raise_and : (e : ExprTree) (a b : List Token) → Spells a (spell_expr WithinAnd e) b → spell_expr WithinOr e ≡ spell_expr WithinAnd e
raise_and (trees.Or es) a b h = absurd (never a b h)
raise_and (trees.And es) a b h = absurd (never a b h)
raise_and (trees.Not e) a b h = refl
raise_and (trees.Group e) a b h = refl
raise_and (trees.Bare x) a b h = refl
raise_and (trees.Equal x y) a b h = refl
raise_and (trees.Differ x y) a b h = refl
raise_and (trees.Within x y) a b h = refl

-- a condition without `||` may stand anywhere
pub raise_or : (e : ExprTree) (a b : List Token) → Spells a (spell_expr WithinOr e) b → spell_expr Anywhere e ≡ spell_expr WithinOr e
raise_or (trees.Or es) a b h = absurd (never a b h)
raise_or (trees.And es) a b h = refl
raise_or (trees.Not e) a b h = refl
raise_or (trees.Group e) a b h = refl
raise_or (trees.Bare x) a b h = refl
raise_or (trees.Equal x y) a b h = refl
raise_or (trees.Differ x y) a b h = refl
raise_or (trees.Within x y) a b h = refl

-- members that were read, each with the sign after it
pub signed : Level → TokenMark → List Expr → List Sym
signed level mark [] = []
signed level mark (x ∷ xs) = expr_syms level x ++ (Key mark ∷ signed level mark xs)

signed_snoc : (level : Level) (mark : TokenMark) (xs : List Expr) (x : Expr) → signed level mark (xs ++ x ∷ []) ≡ signed level mark xs ++ (expr_syms level x ++ Key mark ∷ [])
unfolding signed
signed_snoc level mark [] x = refl
signed_snoc level mark (y ∷ xs) x =
    ap (λ s. expr_syms level y ++ (Key mark ∷ s)) (signed_snoc level mark xs x) ∙ sym (append_assoc (expr_syms level y) (Key mark ∷ signed level mark xs) (expr_syms level x ++ Key mark ∷ []))

-- the first member, and the sign after it
pub first_signed : (level : Level) (mark : TokenMark) (xs ys : List Expr) (x : Expr) → xs ≡ [] → ys ≡ xs ++ x ∷ [] → signed level mark ys ≡ (expr_syms level x ++ Key mark ∷ []) ++ []
unfolding signed
first_signed level mark xs ys x none e = ap (signed level mark) (e ∙ ap (λ l. l ++ x ∷ []) none) ∙ sym (append-nil (expr_syms level x ++ Key mark ∷ []))

-- one more member, and the sign after it
pub more_signed : (level : Level) (mark : TokenMark) (prefix syms : List Sym) (xs ys : List Expr) (x : Expr) → ys ≡ xs ++ x ∷ [] → signed level mark xs ≡ prefix ++ syms → signed level mark ys ≡ prefix ++ ((syms ++ expr_syms level x) ++ Key mark ∷ [])
more_signed level mark prefix syms xs ys x e h =
    ap (signed level mark) e
    ∙ signed_snoc level mark xs x
    ∙ ap (λ s. s ++ (expr_syms level x ++ Key mark ∷ [])) h
    ∙ append_assoc prefix syms (expr_syms level x ++ Key mark ∷ [])
    ∙ ap (λ s. prefix ++ s) (sym (append_assoc syms (expr_syms level x) (Key mark ∷ [])))

joined_end : (level : Level) (mark : TokenMark) (y : Expr) (xs : List Expr) (x : Expr) → expr_syms level y ++ joined_syms level mark (xs ++ x ∷ []) ≡ signed level mark (y ∷ xs) ++ expr_syms level x
unfolding signed
joined_end level mark y [] x = ap (λ s. expr_syms level y ++ (Key mark ∷ s)) (append-nil (expr_syms level x)) ∙ sym (append_assoc (expr_syms level y) (Key mark ∷ []) (expr_syms level x))
joined_end level mark y (z ∷ xs) x = ap (λ s. expr_syms level y ++ (Key mark ∷ s)) (joined_end level mark z xs x) ∙ sym (append_assoc (expr_syms level y) (Key mark ∷ signed level mark (z ∷ xs)) (expr_syms level x))

pair_end : (level : Level) (mark : TokenMark) (y : Expr) (xs : List Expr) (x : Expr) → pair_syms level mark (y ∷ (xs ++ x ∷ [])) ≡ signed level mark (y ∷ xs) ++ expr_syms level x
pair_end level mark y [] x = joined_end level mark y [] x
pair_end level mark y (z ∷ xs) x = joined_end level mark y (z ∷ xs) x

-- the last member, which has no sign after it
pub last_signed : (level : Level) (mark : TokenMark) (prefix syms : List Sym) (xs ys : List Expr) (x : Expr) → 1 ≤ length xs → ys ≡ xs ++ x ∷ [] → signed level mark xs ≡ prefix ++ syms → pair_syms level mark ys ≡ prefix ++ (syms ++ expr_syms level x)
last_signed level mark prefix syms [] ys x some e h = absurd (omega arith)
last_signed level mark prefix syms (y ∷ xs) ys x some e h =
    ap (pair_syms level mark) e ∙ pair_end level mark y xs x ∙ ap (λ s. s ++ expr_syms level x) h ∙ append_assoc prefix syms (expr_syms level x)

zero_more : (n : ℕ) → n ≡ 0 + n
zero_more n = omega arith

-- a condition begins with its first member
pub or_comes : (a : List Token) (d : ℕ) → ComesTo (OneExpr ∷ []) (Both ∷ OrTail ∷ []) a d [] a
or_comes a d = turned (OneExpr ∷ []) (Both ∷ OrTail ∷ []) a d (omega arith) (comes a)
  where
    same : (k : List Part) (x : TokenMark) → feed (OneExpr ∷ k) x ≡ feed (Both ∷ OrTail ∷ k) x
    same k m.Not = ap (λ n. if nat_le (1 + n) 64 then Some (Single ∷ part.Shut ∷ AndTail ∷ OrTail ∷ k) else None) (zero_more (opens k))
    same k m.ParenOpen = ap (λ n. if nat_le (1 + n) 64 then Some (OneExpr ∷ part.Key m.ParenClose ∷ AndTail ∷ OrTail ∷ k) else None) (zero_more (opens k))
    same k m.SquareOpen = ap (λ n. if nat_le (1 + n) 64 then Some (part.OneInner ∷ part.Key m.SquareClose ∷ Compared ∷ AndTail ∷ OrTail ∷ k) else None) (zero_more (opens k))
    same k _ = refl

    comes : (a : List Token) → Leads (OneExpr ∷ []) a d (Both ∷ OrTail ∷ []) a
    comes [] k o = refl
    comes (t ∷ ts) k o = ap (λ x. go_on x (run ts) (t ∷ ts)) (same k (mark_of_token t))

pub and_comes : (a : List Token) (d : ℕ) → ComesTo (Both ∷ []) (Single ∷ AndTail ∷ []) a d [] a
and_comes a d = turned (Both ∷ []) (Single ∷ AndTail ∷ []) a d (omega arith) (comes a)
  where
    same : (k : List Part) (x : TokenMark) → feed (Both ∷ k) x ≡ feed (Single ∷ AndTail ∷ k) x
    same k m.Not = ap (λ n. if nat_le (1 + n) 64 then Some (Single ∷ part.Shut ∷ AndTail ∷ k) else None) (zero_more (opens k))
    same k m.ParenOpen = ap (λ n. if nat_le (1 + n) 64 then Some (OneExpr ∷ part.Key m.ParenClose ∷ AndTail ∷ k) else None) (zero_more (opens k))
    same k m.SquareOpen = ap (λ n. if nat_le (1 + n) 64 then Some (part.OneInner ∷ part.Key m.SquareClose ∷ Compared ∷ AndTail ∷ k) else None) (zero_more (opens k))
    same k _ = refl

    comes : (a : List Token) → Leads (Both ∷ []) a d (Single ∷ AndTail ∷ []) a
    comes [] k o = refl
    comes (t ∷ ts) k o = ap (λ x. go_on x (run ts) (t ∷ ts)) (same k (mark_of_token t))

pub no_or_comes : (a : List Token) (d : ℕ) → starts_with m.Or a ≡ false → ComesTo (OrTail ∷ []) [] a d [] a
no_or_comes a d h = turned (OrTail ∷ []) [] a d (omega arith) (comes a h)
  where
    same : (k : List Part) (x : TokenMark) → same_mark m.Or x ≡ false → feed (OrTail ∷ k) x ≡ feed k x
    same k m.Or h = cc
    same k _ h = refl

    comes : (a : List Token) → starts_with m.Or a ≡ false → Leads (OrTail ∷ []) a d [] a
    comes [] h k o = refl
    comes (t ∷ ts) h k o = ap (λ x. go_on x (run ts) (t ∷ ts)) (same k (mark_of_token t) h)

pub no_and_comes : (a : List Token) (d : ℕ) → starts_with m.And a ≡ false → ComesTo (AndTail ∷ []) [] a d [] a
no_and_comes a d h = turned (AndTail ∷ []) [] a d (omega arith) (comes a h)
  where
    same : (k : List Part) (x : TokenMark) → same_mark m.And x ≡ false → feed (AndTail ∷ k) x ≡ feed k x
    same k m.And h = cc
    same k _ h = refl

    comes : (a : List Token) → starts_with m.And a ≡ false → Leads (AndTail ∷ []) a d [] a
    comes [] h k o = refl
    comes (t ∷ ts) h k o = ap (λ x. go_on x (run ts) (t ∷ ts)) (same k (mark_of_token t) h)

-- an argument that nothing follows which compares it stands alone
pub bare_comes : (a : List Token) (d : ℕ) → starts_with m.Equals a ≡ false → starts_with m.NotEquals a ≡ false → starts_with m.In a ≡ false → ComesTo (Compared ∷ []) [] a d [] a
bare_comes a d e n i = turned (Compared ∷ []) [] a d (omega arith) (comes a e n i)
  where
    same : (k : List Part) (x : TokenMark) → same_mark m.Equals x ≡ false → same_mark m.NotEquals x ≡ false → same_mark m.In x ≡ false → feed (Compared ∷ k) x ≡ feed k x
    same k m.Equals e n i = cc
    same k m.NotEquals e n i = cc
    same k m.In e n i = cc
    same k _ e n i = refl

    comes : (a : List Token) → starts_with m.Equals a ≡ false → starts_with m.NotEquals a ≡ false → starts_with m.In a ≡ false → Leads (Compared ∷ []) a d [] a
    comes [] e n i k o = refl
    comes (t ∷ ts) e n i k o = ap (λ x. go_on x (run ts) (t ∷ ts)) (same k (mark_of_token t) e n i)
