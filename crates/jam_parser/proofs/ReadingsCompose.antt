-- How parts that are read one after another make a whole.
use Rattle.std.proofs.Common.{◌≡◌, ℕ, ◌+◌, ◌≤◌, List, [], ◌∷◌, ◌++◌, true, Some, None, nat_le, if◌then◌else◌, refl, sym, ap, ◌∙◌, subst, arith, append_assoc}
use Rattle.std.proofs.lemmas.List.{append-nil}
use Rattle.b2_base.specs.declared.token.Token.{Token}
use Rattle.jam_grammar.specs.declared.mark.TokenMark.{TokenMark}
use Rattle.jam_grammar.specs.Marks.{mark_of_token}
use Rattle.jam_grammar.specs.Grammar as part
use Rattle.jam_grammar.specs.Grammar.{Part, opens}
use Rattle.jam_grammar.specs.Machine.{Take, Room, Refuse, move, by_move, feed, go_on, run}
use Rattle.jam_grammar.specs.Spelling.{Sym, Key}
use Rattle.jam_grammar.specs.Gives.{Leads, Ends}
use Rattle.jam_grammar.proofs.MovesCompose.{opens_append}
use Rattle.jam_grammar.proofs.PartsCompose.{spells_append}
use Rattle.jam_parser.specs.declared.reading.ReadingFault.{ReadingFault}
use Rattle.jam_parser.specs.declared.reading.ReadingFault.TheVariants as faults
use Rattle.jam_parser.specs.Starts.{StandsAfter}
use Rattle.jam_parser.specs.PartReadings.{EndsBy, least_of, least, ComesTo, IsRead, Completes}

pub least_append : (a b : List Part) → least (a ++ b) ≡ least a + least b
least_append [] b = omega arith
least_append (p ∷ a) b = omega (arith, least_append a b)

least_is_one : (p : Part) → least_of p ≤ 1
least_is_one (part.Key m) = omega arith
least_is_one _ = omega arith

-- a part is read, and then the others are left
pub chain : (p q others : List Part) {s r : List Sym} {a b c : List Token} (d e : ℕ) → opens others + d ≡ e → ComesTo p (q ++ others) a d s b → IsRead q b e r c → ComesTo p others a d (s ++ r) c
chain p q others {s} {r} {a} {b} {c} d e h x y = record {
  moves = λ k o. x.moves k o ∙ ap (run b) (append_assoc q others k) ∙ y.moves (others ++ k) (omega (arith, opens_append others k));
  spells = spells_append a b c s r x.spells y.spells;
  shorter = omega (arith, x.shorter, y.shorter, least_append q others);
}

pub chain_fault : (p q others : List Part) {s : List Sym} {a b : List Token} (d e : ℕ) (f : ReadingFault) → opens others + d ≡ e → ComesTo p (q ++ others) a d s b → EndsBy q b e f → EndsBy p a d f
chain_fault p q others d e faults.Memory h x y = tt
chain_fault p q others {s} {a} {b} d e (faults.At rest) h x y = λ k o. x.moves k o ∙ ap (run b) (append_assoc q others k) ∙ y (others ++ k) (omega (arith, opens_append others k))

-- others are come to, and then they are read
pub then_all : (p q : List Part) {s r : List Sym} {a b c : List Token} (d : ℕ) → ComesTo p q a d s b → IsRead q b d r c → IsRead p a d (s ++ r) c
then_all p q {s} {r} {a} {b} {c} d x y = record {
  moves = λ k o. x.moves k o ∙ y.moves k o;
  spells = spells_append a b c s r x.spells y.spells;
  shorter = omega (arith, x.shorter, y.shorter);
}

pub then_fault : (p q : List Part) {s : List Sym} {a b : List Token} (d : ℕ) (f : ReadingFault) → ComesTo p q a d s b → EndsBy q b d f → EndsBy p a d f
then_fault p q d faults.Memory x y = tt
then_fault p q d (faults.At rest) x y = λ k o. x.moves k o ∙ y k o

pub composed : (p q others : List Part) {s r : List Sym} {a b c : List Token} (d : ℕ) → ComesTo p q a d s b → ComesTo q others b d r c → ComesTo p others a d (s ++ r) c
composed p q others {s} {r} {a} {b} {c} d x y = record {
  moves = λ k o. x.moves k o ∙ y.moves k o;
  spells = spells_append a b c s r x.spells y.spells;
  shorter = omega (arith, x.shorter, y.shorter);
}

-- others are come to, and these then to others without a token
pub led : (p q others : List Part) {s : List Sym} {a b c : List Token} (d : ℕ) → ComesTo p q a d s b → ComesTo q others b d [] c → ComesTo p others a d s c
led p q others {s} {a} {b} {c} d x y = subst (λ z. ComesTo p others a d z c) (append-nil s) (composed p q others d x y)

-- one after the other
pub in_order : (p q : List Part) {s r : List Sym} {a b c : List Token} (d e : ℕ) → opens q + d ≡ e → IsRead p a e s b → IsRead q b d r c → IsRead (p ++ q) a d (s ++ r) c
in_order p q {s} {r} {a} {b} {c} d e h x y = record {
  moves = λ k o. ap (run a) (append_assoc p q k) ∙ x.moves (q ++ k) (omega (arith, opens_append q k)) ∙ y.moves k o;
  spells = spells_append a b c s r x.spells y.spells;
  shorter = omega (arith, x.shorter, y.shorter, least_append p q);
}

pub first_fault : (p q : List Part) (a : List Token) (d e : ℕ) (f : ReadingFault) → opens q + d ≡ e → EndsBy p a e f → EndsBy (p ++ q) a d f
first_fault p q a d e faults.Memory h x = tt
first_fault p q a d e (faults.At rest) h x = λ k o. ap (run a) (append_assoc p q k) ∙ x (q ++ k) (omega (arith, opens_append q k))

pub later_fault : (p q : List Part) {s : List Sym} {a b : List Token} (d e : ℕ) (f : ReadingFault) → opens q + d ≡ e → IsRead p a e s b → EndsBy q b d f → EndsBy (p ++ q) a d f
later_fault p q d e faults.Memory h x y = tt
later_fault p q {s} {a} d e (faults.At rest) h x y = λ k o. ap (run a) (append_assoc p q k) ∙ x.moves (q ++ k) (omega (arith, opens_append q k)) ∙ y k o

-- what counts as open closes without a token
pub shut : (p : List Part) {s : List Sym} {a b : List Token} (d : ℕ) → IsRead p a (d + 1) s b → IsRead (p ++ part.Shut ∷ []) a d s b
shut p {s} {a} {b} d x = record {
  moves = λ k o. ap (run a) (append_assoc p (part.Shut ∷ []) k) ∙ x.moves (part.Shut ∷ k) (omega arith) ∙ past b k;
  spells = x.spells;
  shorter = omega (arith, x.shorter, least_append p (part.Shut ∷ []));
}
  where
    past : (b : List Token) (k : List Part) → run b (part.Shut ∷ k) ≡ run b k
    past [] k = refl
    past (t ∷ b) k = refl

pub shut_fault : (p : List Part) (a : List Token) (d : ℕ) (f : ReadingFault) → EndsBy p a (d + 1) f → EndsBy (p ++ part.Shut ∷ []) a d f
shut_fault p a d f x = first_fault p (part.Shut ∷ []) a d (d + 1) f (omega arith) x

-- a mark is taken
takes_where : (p : Part) (q : List Part) (m : TokenMark) (t : Token) (b : List Token) (d : ℕ) → mark_of_token t ≡ m → ((k : List Part) → opens k ≡ d → feed (p ∷ k) m ≡ Some (q ++ k)) → Leads (p ∷ []) (t ∷ b) d q b
takes_where p q m t b d is h k o = ap (λ n. go_on (feed (p ∷ k) n) (run b) (t ∷ b)) is ∙ ap (λ n. go_on n (run b) (t ∷ b)) (h k o)

pub takes : (p : Part) (q : List Part) (m : TokenMark) (t : Token) (a b : List Token) (d : ℕ) → a ≡ t ∷ b → mark_of_token t ≡ m → move p m ≡ Take q → ComesTo (p ∷ []) q a d (Key m ∷ []) b
takes p q m t a b d h is e = subst (λ z. ComesTo (p ∷ []) q z d (Key m ∷ []) b) (sym h) record {
  moves = takes_where p q m t b d is (λ k o. ap (λ n. by_move n k (feed k) m) e);
  spells = (is, refl);
  shorter = omega (arith, least_is_one p);
}

-- where there is room, a mark opens
pub opening : (p : Part) (q : List Part) (m : TokenMark) (t : Token) (a b : List Token) (n d : ℕ) → n + d ≤ 64 → a ≡ t ∷ b → mark_of_token t ≡ m → move p m ≡ Room n q → ComesTo (p ∷ []) q a d (Key m ∷ []) b
opening p q m t a b n d room h is e = subst (λ z. ComesTo (p ∷ []) q z d (Key m ∷ []) b) (sym h) record {
  moves = takes_where p q m t b d is (λ k o. ap (λ x. by_move x k (feed k) m) e ∙ ap (λ x. if x then Some (q ++ k) else None) (fits k o));
  spells = (is, refl);
  shorter = omega (arith, least_is_one p);
}
  where
    fits : (k : List Part) → opens k ≡ d → nat_le (n + opens k) 64 ≡ true
    fits k o = grind arith

-- the same of a mark that stands first
pub takes_past : (p : Part) (q : List Part) (m : TokenMark) (a b : List Token) (d : ℕ) → StandsAfter m a b → move p m ≡ Take q → ComesTo (p ∷ []) q a d (Key m ∷ []) b
takes_past p q m a b d h e = takes p q m h.first a b d h.split h.is_it e

pub opens_past : (p : Part) (q : List Part) (m : TokenMark) (a b : List Token) (n d : ℕ) → n + d ≤ 64 → StandsAfter m a b → move p m ≡ Room n q → ComesTo (p ∷ []) q a d (Key m ∷ []) b
opens_past p q m a b n d room h e = opening p q m h.first a b n d room h.split h.is_it e

-- a mark that cannot come is a fault
pub refuses : (p : Part) (t : Token) (a b : List Token) (d : ℕ) → a ≡ t ∷ b → move p (mark_of_token t) ≡ Refuse → Ends (p ∷ []) a d a
refuses p t a b d h e = subst (λ z. Ends (p ∷ []) z d z) (sym h) (λ k o. ap (λ x. go_on (by_move x k (feed k) (mark_of_token t)) (run b) (t ∷ b)) e)

-- a part is read as others are
pub turned : (p q : List Part) (a : List Token) (d : ℕ) → least p ≤ least q → Leads p a d q a → ComesTo p q a d [] a
turned p q a d h l = record { moves = l; spells = refl; shorter = omega arith }

-- nothing is read
pub stay : (p : List Part) (a : List Token) (d : ℕ) → ComesTo p p a d [] a
stay p a d = record { moves = λ k o. refl; spells = refl; shorter = omega arith }

-- what is read after a mark stands after what was read before it
pub continued : (p : Part) (q : List Part) (m : TokenMark) (read all : List Sym) (a b c : List Token) (d : ℕ) → StandsAfter m a b → move p m ≡ Take q → Completes (read ++ Key m ∷ []) q b d all c → Completes read (p ∷ []) a d all c
continued p q m read all a b c d stands e h = record {
  syms = Key m ∷ h.syms;
  whole = h.whole ∙ append_assoc read (Key m ∷ []) h.syms;
  comes = then_all (p ∷ []) q d (takes_past p q m a b d stands e) h.comes;
}
