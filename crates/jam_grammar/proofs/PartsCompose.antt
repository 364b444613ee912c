-- How parts that are read one after another make a whole.
use Rattle.std.proofs.Common.{◌≡◌, ℕ, ◌+◌, List, [], ◌∷◌, ◌++◌, refl, sym, ap, ◌∙◌, subst, arith, append_assoc}
use Rattle.b2_base.specs.declared.token.Token.{Token}
use Rattle.jam_grammar.specs.Marks.{mark_of_token}
use Rattle.jam_grammar.specs.Grammar.{Part, opens}
use Rattle.jam_grammar.specs.Machine.{go_on, run, feed, by_move, move}
use Rattle.jam_grammar.specs.Spelling.{Sym, Key, Heads, Says, Named, Raw, From, Never, Spells}
use Rattle.jam_grammar.specs.Gives.{Leads, Ends, ReadsPart}
use Rattle.jam_grammar.proofs.MovesCompose.{opens_append, lead, feed_lead}

-- a part isn't read, and so the whole isn't
pub then_ends : (parts part others : List Part) (tokens mid at : List Token) (depth deeper : ℕ) → Leads parts tokens depth (part ++ others) mid → Ends part mid deeper at → opens others + depth ≡ deeper → Ends parts tokens depth at
then_ends parts part others tokens mid at depth deeper l n e more h =
    l more h ∙ ap (run mid) (append_assoc part others more) ∙ n (others ++ more) (omega (arith, opens_append others more))

-- one spelling after another
pub spells_append : (a b c : List Token) (s r : List Sym) → Spells a s b → Spells b r c → Spells a (s ++ r) c
spells_append a b c [] r h k = subst (λ x. Spells x r c) (sym h) k
spells_append a b c (From n ∷ s) r h k = (h.0, spells_append a b c s r h.1 k)
spells_append a b c (Heads x y z t e q ∷ s) r h k = (h.0, h.1, spells_append h.0 b c s r h.2 k)
spells_append [] b c (Key mark ∷ s) r h k = absurd h
spells_append [] b c (Says text ∷ s) r h k = absurd h
spells_append [] b c (Named text ∷ s) r h k = absurd h
spells_append [] b c (Raw text ∷ s) r h k = absurd h
spells_append [] b c (Never ∷ s) r h k = absurd h
spells_append (t ∷ a) b c (Key mark ∷ s) r h k = (h.0, spells_append a b c s r h.1 k)
spells_append (t ∷ a) b c (Says text ∷ s) r h k = (h.0, spells_append a b c s r h.1 k)
spells_append (t ∷ a) b c (Named text ∷ s) r h k = (h.0, spells_append a b c s r h.1 k)
spells_append (t ∷ a) b c (Raw text ∷ s) r h k = (h.0, spells_append a b c s r h.1 k)
spells_append (t ∷ a) b c (Never ∷ s) r h k = absurd h

-- one spelling without another before it
pub spells_split : (a c : List Token) (s r : List Sym) → Spells a (s ++ r) c → (b : List Token) × Spells a s b × Spells b r c
spells_split a c [] r h = (a, refl, h)
spells_split a c (From n ∷ s) r h = let q = spells_split a c s r h.1 in (q.0, (h.0, q.1), q.2)
spells_split a c (Heads x y z t e q ∷ s) r h = let w = spells_split h.0 c s r h.2 in (w.0, (h.0, h.1, w.1), w.2)
spells_split [] c (Key mark ∷ s) r h = absurd h
spells_split [] c (Says text ∷ s) r h = absurd h
spells_split [] c (Named text ∷ s) r h = absurd h
spells_split [] c (Raw text ∷ s) r h = absurd h
spells_split [] c (Never ∷ s) r h = absurd h
spells_split (t ∷ a) c (Key mark ∷ s) r h = let q = spells_split a c s r h.1 in (q.0, (h.0, q.1), q.2)
spells_split (t ∷ a) c (Says text ∷ s) r h = let q = spells_split a c s r h.1 in (q.0, (h.0, q.1), q.2)
spells_split (t ∷ a) c (Named text ∷ s) r h = let q = spells_split a c s r h.1 in (q.0, (h.0, q.1), q.2)
spells_split (t ∷ a) c (Raw text ∷ s) r h = let q = spells_split a c s r h.1 in (q.0, (h.0, q.1), q.2)
spells_split (t ∷ a) c (Never ∷ s) r h = absurd h

-- parts one after another
pub both_read : (first second : List Part) (tokens mid after : List Token) (depth : ℕ) (syms more : List Sym) → ReadsPart first tokens (opens second + depth) syms mid → ReadsPart second mid depth more after → ReadsPart (first ++ second) tokens depth (syms ++ more) after
both_read first second tokens mid after depth syms more a b =
    record {
      moves = λ k h. ap (run tokens) (append_assoc first second k) ∙ a.moves (second ++ k) (omega (arith, opens_append second k)) ∙ b.moves k h;
      spells = spells_append tokens mid after syms more a.spells b.spells;
    }

-- the first token is read as the first of others that may stand for the part
pub read_as : (part : Part) (by : List Part) (token : Token) (tokens : List Token) (depth : ℕ) → move part (mark_of_token token) ≡ lead by (mark_of_token token) → Leads (part ∷ []) (token ∷ tokens) depth by (token ∷ tokens)
read_as part by token tokens depth e more o =
    ap (λ v. go_on (by_move v more (feed more) (mark_of_token token)) (run tokens) (token ∷ tokens)) e
    ∙ ap (λ x. go_on x (run tokens) (token ∷ tokens)) (sym (feed_lead by more (mark_of_token token)))
