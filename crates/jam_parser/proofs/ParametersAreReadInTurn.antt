-- One more name or list of parameters as it is read, and the parentheses around the lists; for the loops over them.
use Rattle.std.proofs.Common.{◌≡◌, ℕ, List, [], ◌∷◌, ◌++◌, Bool, true, false, ◌&&◌, Some, flat_map, refl, sym, ap, ◌∙◌, subst, arith, append_assoc}
use Rattle.std.specs.Prelude.{codes}
use Rattle.std.specs.Str.{bytes_eq}
use Rattle.std.proofs.lemmas.List.{append-nil}
use Rattle.std.specs.declared.vec.Vec.{Vec}
use Rattle.std.specs.declared.alloc.Global.{Global}
use Rattle.b2_base.specs.declared.token.Token.{Token}
use Rattle.jam_grammar.specs.declared.tree.Param.{Param}
use Rattle.jam_grammar.specs.declared.mark.TokenMark.{TokenMark}
use Rattle.jam_grammar.specs.declared.mark.TokenMark.TheVariants as m
use Rattle.jam_grammar.specs.Marks.{mark_of_token, is_name}
use Rattle.jam_grammar.specs.Grammar.{Part, Params, MoreParams, Names, NameTail}
use Rattle.jam_grammar.specs.Machine.{feed, go_on, run}
use Rattle.jam_grammar.specs.Spelling.{Key, Named, Spells, param_syms, takes_all, no_mark, plist_syms, further_params, params_syms}
use Rattle.jam_parser.specs.PartReadings.{least, ComesTo}
use Rattle.jam_parser.specs.Params.{after_name, after_list, params_read}
use Rattle.jam_grammar.specs.Trees.{lists_of}
use Rattle.jam_parser.specs.Starts.{StandsAfter}
use Rattle.jam_parser.proofs.ReadingsCompose.{takes_past}
use Rattle.jam_parser.proofs.ArgumentsAreReadInTurn.{never}

-- one more parameter, which is no `*` alone
pub still_names : (xs ys : List Param) (x : Param) → ys ≡ xs ++ x ∷ [] → bytes_eq x.name (codes "*") ≡ false → takes_all ys ≡ false
still_names xs ys x e h = ap takes_all e ∙ by xs
  where
    by : (xs : List Param) → takes_all (xs ++ x ∷ []) ≡ false
    by [] = ap (λ b. b && no_mark x.mark) h
    by (y ∷ []) = refl
    by (y ∷ z ∷ xs) = refl

names_snoc : (xs : List Param) (x : Param) → flat_map param_syms (xs ++ x ∷ []) ≡ flat_map param_syms xs ++ param_syms x
names_snoc [] x = append-nil _
names_snoc (y ∷ xs) x = ap (λ s. param_syms y ++ s) (names_snoc xs x) ∙ sym (append_assoc (param_syms y) (flat_map param_syms xs) (param_syms x))

pub more_names : (xs ys : List Param) (x : Param) → ys ≡ xs ++ x ∷ [] → flat_map param_syms ys ≡ flat_map param_syms xs ++ param_syms x
more_names xs ys x e = ap (flat_map param_syms) e ∙ names_snoc xs x

-- a name, where one may come
takes_name : (k : List Part) (x : TokenMark) → is_name x ≡ true → feed (Names ∷ k) x ≡ Some (NameTail ∷ k)
takes_name k m.Plain h = refl
takes_name k m.Together h = refl
takes_name k m.Existing h = refl
takes_name k m.Quietly h = refl
takes_name k _ h = cc

pub name_comes : (may_come : Bool) (t : Token) (a b : List Token) (name : List ℕ) (d : ℕ) → may_come ≡ true → a ≡ t ∷ b → is_name (mark_of_token t) ≡ true → name ≡ t.text → ComesTo (after_name may_come) (NameTail ∷ []) a d (Named name ∷ []) b
name_comes may_come t a b name d open1 h is e =
    subst (λ x. ComesTo (after_name x) (NameTail ∷ []) a d (Named name ∷ []) b) (sym open1) (subst (λ z. ComesTo (Names ∷ []) (NameTail ∷ []) z d (Named name ∷ []) b) (sym h) record {
      moves = λ k o. ap (λ x. go_on x (run b) (t ∷ b)) (takes_name k (mark_of_token t) is);
      spells = ((is, sym e), refl);
      shorter = omega arith;
    })

pub nothing_least : (b : Bool) → least (after_name b) ≡ 0
nothing_least true = refl
nothing_least false = refl

further_snoc : (vs : List (Vec Param Global)) (v : Vec Param Global) → further_params (lists_of (vs ++ v ∷ [])) ≡ further_params (lists_of vs) ++ (Key m.Colon ∷ plist_syms v.items)
further_snoc [] v = ap (λ s. Key m.Colon ∷ s) (append-nil _)
further_snoc (u ∷ vs) v = ap (λ s. Key m.Colon ∷ (plist_syms u.items ++ s)) (further_snoc vs v) ∙ ap (λ s. Key m.Colon ∷ s) (sym (append_assoc (plist_syms u.items) (further_params (lists_of vs)) _))

-- one more list
pub more_lists : (before after : List Token) (vs ws : List (Vec Param Global)) (v : Vec Param Global) → Spells before (params_read (lists_of vs)) after → ws ≡ vs ++ v ∷ [] → params_read (lists_of ws) ≡ params_read (lists_of vs) ++ (Key m.Colon ∷ plist_syms v.items)
more_lists before after [] ws v s e = absurd (never before after s)
more_lists before after (u ∷ vs) ws v s e = ap (λ x. params_read (lists_of x)) e ∙ ap (λ x. plist_syms u.items ++ x) (further_snoc vs v) ∙ sym (append_assoc (plist_syms u.items) (further_params (lists_of vs)) _)

-- a colon after a list that is not the last
pub list_comes : (last : Bool) (a b : List Token) (d : ℕ) → last ≡ false → StandsAfter m.Colon a b → ComesTo (after_list last) (Params ∷ []) a d (Key m.Colon ∷ []) b
list_comes last a b d open1 h = subst (λ x. ComesTo (after_list x) (Params ∷ []) a d (Key m.Colon ∷ []) b) (sym open1) (takes_past MoreParams (Params ∷ []) m.Colon a b d h refl)

-- lists that were read, in parentheses
pub in_parens : (a b : List Token) (lists : List (List Param)) → Spells a (params_read lists) b → params_syms lists ≡ Key m.ParenOpen ∷ (params_read lists ++ Key m.ParenClose ∷ [])
in_parens a b [] h = absurd (never a b h)
in_parens a b (x ∷ xs) h = refl
