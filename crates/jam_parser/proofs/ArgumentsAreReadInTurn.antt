-- Which token begins an argument, a list or a call, that a key or word is read, and how one more argument is spelled.
use Rattle.std.proofs.Common.{inl, inr, ◌≡◌, ℕ, suc, ◌+◌, ◌<◌, ◌-◌, List, [], ◌∷◌, ◌++◌, true, false, Some, None, nat_le, if◌then◌else◌, refl, sym, ap, ◌∙◌, subst, arith, append_assoc}
use Rattle.std.proofs.lemmas.List.{append-nil}
use Rattle.std.proofs.lemmas.Bool.{cases_lt}
use Rattle.std.specs.declared.vec.Vec.{Vec}
use Rattle.std.specs.declared.alloc.Global.{Global}
use Rattle.b2_base.specs.declared.token.Token.{Token}
use Rattle.jam_grammar.specs.declared.tree.Arg.{Arg}
use Rattle.jam_grammar.specs.declared.mark.TokenMark.{TokenMark}
use Rattle.jam_grammar.specs.declared.mark.TokenMark.TheVariants.{Plain, Query, Star, Plus, Together, Existing, Quietly, Body, SquareOpen, SquareClose, Colon, On, Return}
use Rattle.jam_grammar.specs.Marks.{mark_of_token, is_word, same_mark}
use Rattle.jam_grammar.specs.Grammar.{Part, OneArg, OneWord, OneInner, InnerTail, Args, More, opens}
use Rattle.jam_grammar.specs.Grammar as part
use Rattle.jam_grammar.specs.Machine.{move_key, move, feed, before, go_on, run}
use Rattle.jam_grammar.specs.Spelling.{Key, Says, Raw, Never, Spells, arg_syms, args_syms, further_syms, lists_syms}
use Rattle.jam_grammar.specs.Gives.{Leads, Ends}
use Rattle.jam_grammar.proofs.EveryMarkIsTested.{same_mark_refl}
use Rattle.jam_parser.specs.PartReadings.{ComesTo, IsRead}
use Rattle.jam_parser.specs.Starts.{begins_arg, starts_arg, starts_word, starts_with, StandsAfter}
use Rattle.jam_parser.proofs.ReadingsCompose.{turned, takes_past}

zero_more : (n : ℕ) → n ≡ 0 + n
zero_more n = omega arith

-- where an argument begins, one comes
pub arg_comes : (left : List Token) (d : ℕ) → starts_arg left ≡ true → ComesTo (Args ∷ []) (OneArg ∷ Args ∷ []) left d [] left
arg_comes left d h = turned (Args ∷ []) (OneArg ∷ Args ∷ []) left d (omega arith) (comes left h)
  where
    same : (k : List Part) (m : TokenMark) → begins_arg m ≡ true → feed (Args ∷ k) m ≡ feed (OneArg ∷ Args ∷ k) m
    same k Plain h = refl
    same k Query h = refl
    same k Star h = refl
    same k Plus h = refl
    same k Together h = refl
    same k Existing h = refl
    same k Quietly h = refl
    same k SquareOpen h = ap (λ n. if nat_le (1 + n) 64 then Some (OneInner ∷ part.Key SquareClose ∷ Args ∷ k) else None) (zero_more (opens k))
    same k _ h = cc

    comes : (left : List Token) → starts_arg left ≡ true → Leads (Args ∷ []) left d (OneArg ∷ Args ∷ []) left
    comes [] h k o = cc
    comes (t ∷ ts) h k o = ap (λ x. go_on x (run ts) (t ∷ ts)) (same k (mark_of_token t) h)

args_snoc : (xs : List Arg) (x : Arg) → args_syms (xs ++ x ∷ []) ≡ args_syms xs ++ arg_syms x
args_snoc [] x = append-nil _
args_snoc (y ∷ xs) x = ap (λ s. arg_syms y ++ s) (args_snoc xs x) ∙ sym (append_assoc (arg_syms y) (args_syms xs) (arg_syms x))

-- one more argument
pub more_args : (xs ys : List Arg) (x : Arg) → ys ≡ xs ++ x ∷ [] → args_syms ys ≡ args_syms xs ++ arg_syms x
more_args xs ys x e = ap args_syms e ∙ args_snoc xs x

-- nothing spells what never stands
pub never : (before after : List Token) → Spells before (Never ∷ []) after → ⊥
never [] after h = h
never (t ∷ ts) after h = h

further_snoc : (vs : List (Vec Arg Global)) (v : Vec Arg Global) → further_syms (vs ++ v ∷ []) ≡ further_syms vs ++ (Key Colon ∷ args_syms v.items)
further_snoc [] v = ap (λ s. Key Colon ∷ s) (append-nil _)
further_snoc (u ∷ vs) v = ap (λ s. Key Colon ∷ (args_syms u.items ++ s)) (further_snoc vs v) ∙ ap (λ s. Key Colon ∷ s) (sym (append_assoc (args_syms u.items) (further_syms vs) _))

-- the spelling of one list
pub one_list : (vs ws : List (Vec Arg Global)) (v : Vec Arg Global) → ws ≡ [] ++ v ∷ [] → lists_syms ws ≡ args_syms v.items
one_list vs ws v e = ap lists_syms e ∙ append-nil _

-- one more list
pub more_lists : (before after : List Token) (vs ws : List (Vec Arg Global)) (v : Vec Arg Global) → Spells before (lists_syms vs) after → ws ≡ vs ++ v ∷ [] → lists_syms ws ≡ lists_syms vs ++ (Key Colon ∷ args_syms v.items)
more_lists before after [] ws v s e = absurd (never before after s)
more_lists before after (u ∷ vs) ws v s e = ap lists_syms e ∙ ap (λ x. args_syms u.items ++ x) (further_snoc vs v) ∙ sym (append_assoc (args_syms u.items) (further_syms vs) _)

-- a colon, and a list after it
pub colon_comes : (a b : List Token) (n left d : ℕ) → left ≡ suc n → StandsAfter Colon a b → ComesTo (More left ∷ []) (Args ∷ More n ∷ []) a d (Key Colon ∷ []) b
colon_comes a b n left d l h = takes_past (More left) (Args ∷ More n ∷ []) Colon a b d h (ap (λ x. move (More x) Colon) l)

-- where no more lists may come or no colon does, none come
pub lists_end : (a : List Token) (left d : ℕ) → left ≡ 0 → ComesTo (More left ∷ []) [] a d [] a
lists_end a left d l = turned (More left ∷ []) [] a d (omega arith) (ends a)
  where
    same : (k : List Part) (m : TokenMark) → feed (More 0 ∷ k) m ≡ feed k m
    same k Colon = refl
    same k _ = refl

    ends : (a : List Token) → Leads (More left ∷ []) a d [] a
    ends [] k o = refl
    ends (t ∷ ts) k o = ap (λ n. run (t ∷ ts) (More n ∷ k)) l ∙ ap (λ x. go_on x (run ts) (t ∷ ts)) (same k (mark_of_token t))

pub no_colon_comes : (a : List Token) (left d : ℕ) → starts_with Colon a ≡ false → ComesTo (More left ∷ []) [] a d [] a
no_colon_comes a left d h = turned (More left ∷ []) [] a d (omega arith) (ends a h)
  where
    same : (k : List Part) (m : TokenMark) → same_mark Colon m ≡ false → feed (More left ∷ k) m ≡ feed k m
    same k Colon h = cc
    same k _ h = refl

    ends : (a : List Token) → starts_with Colon a ≡ false → Leads (More left ∷ []) a d [] a
    ends [] h k o = refl
    ends (t ∷ ts) h k o = ap (λ x. go_on x (run ts) (t ∷ ts)) (same k (mark_of_token t) h)

pub lists_stop : (a : List Token) (n d : ℕ) → (n < 9 → starts_with Colon a ≡ false) → ComesTo (More (9 - n) ∷ []) [] a d [] a
lists_stop a n d h = elim (cases_lt n 9) [ inl y ↦ no_colon_comes a (9 - n) d (h y) | inr y ↦ lists_end a (9 - n) d (omega arith) ]

-- what stands in brackets without `on` is a call
pub call_comes : (a : List Token) (d : ℕ) → starts_with On a ≡ false → ComesTo (OneInner ∷ []) (OneArg ∷ Args ∷ More 8 ∷ []) a d [] a
call_comes a d h = turned (OneInner ∷ []) (OneArg ∷ Args ∷ More 8 ∷ []) a d (omega arith) (comes a h)
  where
    same : (k : List Part) (m : TokenMark) → same_mark On m ≡ false → feed (OneInner ∷ k) m ≡ feed (OneArg ∷ Args ∷ More 8 ∷ k) m
    same k On h = cc
    same k SquareOpen h = ap (λ n. if nat_le (1 + n) 64 then Some (OneInner ∷ part.Key SquareClose ∷ Args ∷ More 8 ∷ k) else None) (zero_more (opens k) ∙ zero_more (0 + opens k))
    same k _ h = refl

    comes : (a : List Token) → starts_with On a ≡ false → Leads (OneInner ∷ []) a d (OneArg ∷ Args ∷ More 8 ∷ []) a
    comes [] h k o = refl
    comes (t ∷ ts) h k o = ap (λ x. go_on x (run ts) (t ∷ ts)) (same k (mark_of_token t) h)

-- what stands there after `on arg` without `return` is the same as in brackets
pub inner_comes : (a : List Token) (d : ℕ) → starts_with Return a ≡ false → ComesTo (InnerTail ∷ []) (OneInner ∷ []) a d [] a
inner_comes a d h = turned (InnerTail ∷ []) (OneInner ∷ []) a d (omega arith) (comes a h)
  where
    same : (k : List Part) (m : TokenMark) → same_mark Return m ≡ false → feed (InnerTail ∷ k) m ≡ feed (OneInner ∷ k) m
    same k Return h = cc
    same k _ h = refl

    comes : (a : List Token) → starts_with Return a ≡ false → Leads (InnerTail ∷ []) a d (OneInner ∷ []) a
    comes [] h k o = refl
    comes (t ∷ ts) h k o = ap (λ x. go_on x (run ts) (t ∷ ts)) (same k (mark_of_token t) h)

-- a key is read
pub key_reads : (m : TokenMark) (a b : List Token) (d : ℕ) → StandsAfter m a b → IsRead (part.Key m ∷ []) a d (Key m ∷ []) b
key_reads m a b d h = takes_past (part.Key m) [] m a b d h (ap move_key (same_mark_refl m))

-- a body is read
pub body_reads : (t : Token) (a b : List Token) (text : List ℕ) (d : ℕ) → a ≡ t ∷ b → mark_of_token t ≡ Body → text ≡ t.text → IsRead (part.Key Body ∷ []) a d (Raw text ∷ []) b
body_reads t a b text d split is e =
    let key : IsRead (part.Key Body ∷ []) a d (Key Body ∷ []) b = key_reads Body a b d (record { first = t; split = split; is_it = is }) in
    record { moves = key.moves; spells = subst (λ x. Spells x (Raw text ∷ []) b) (sym split) ((is, sym e), refl); shorter = key.shorter }

-- a word is read
pub word_reads : (t : Token) (a b : List Token) (text : List ℕ) (d : ℕ) → a ≡ t ∷ b → is_word (mark_of_token t) ≡ true → text ≡ t.text → IsRead (OneWord ∷ []) a d (Says text ∷ []) b
word_reads t a b text d split is e = subst (λ x. IsRead (OneWord ∷ []) x d (Says text ∷ []) b) (sym split) record {
  moves = λ k o. ap (λ x. go_on x (run b) (t ∷ b)) (takes_word k (mark_of_token t) is);
  spells = ((is, sym e), refl);
  shorter = omega arith;
}
  where
    takes_word : (k : List Part) (m : TokenMark) → is_word m ≡ true → feed (OneWord ∷ k) m ≡ Some k
    takes_word k Plain h = refl
    takes_word k Query h = refl
    takes_word k Star h = refl
    takes_word k Plus h = refl
    takes_word k Together h = refl
    takes_word k Existing h = refl
    takes_word k Quietly h = refl
    takes_word k _ h = cc

-- where no word begins, none is read
pub no_word : (a : List Token) (d : ℕ) → starts_word a ≡ false → Ends (OneWord ∷ []) a d a
no_word [] d h k o = refl
no_word (t ∷ ts) d h k o = ap (λ x. go_on x (run ts) (t ∷ ts)) (refuses_other (mark_of_token t) h)
  where
    refuses_other : (m : TokenMark) → is_word m ≡ false → feed (OneWord ∷ k) m ≡ None
    refuses_other Plain h = cc
    refuses_other Query h = cc
    refuses_other Star h = cc
    refuses_other Plus h = cc
    refuses_other Together h = cc
    refuses_other Existing h = cc
    refuses_other Quietly h = cc
    refuses_other _ h = refl
