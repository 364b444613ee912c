-- What a mark does to several parts, one after another.
use Rattle.std.proofs.Common.{◌≡◌, ℕ, ◌+◌, List, [], ◌∷◌, ◌++◌, Some, None, nat_le, if◌then◌else◌, refl, sym, ap, ◌∙◌, arith, append_assoc}
use Rattle.jam_grammar.specs.declared.mark.TokenMark.{TokenMark}
use Rattle.jam_grammar.specs.Grammar.{Part, opens}
use Rattle.jam_grammar.specs.Machine.{Move, Take, Room, Skip, Refuse, move, by_move, feed}

pub opens_append : (a b : List Part) → opens (a ++ b) ≡ opens a + opens b
opens_append [] b = omega arith
opens_append (part ∷ a) b = omega (arith, opens_append a b)

-- a move of a part that others follow
abbrev pub followed : Move → List Part → Move → Move
followed (Take parts) more next = Take (parts ++ more)
followed (Room n parts) more next = Room (n + opens more) (parts ++ more)
followed Skip more next = next
followed Refuse more next = Refuse

-- what a mark does to parts
abbrev pub lead : List Part → TokenMark → Move
lead [] mark = Skip
lead (part ∷ parts) mark = followed (move part mark) parts (lead parts mark)

-- and so to others after them
pub feed_lead : (parts more : List Part) (mark : TokenMark) → feed (parts ++ more) mark ≡ by_move (lead parts mark) more (feed more) mark
feed_lead [] more mark = refl
feed_lead (part ∷ parts) more mark = by (feed_lead parts more mark) (move part mark)
  where
    room : (n : ℕ) → n + opens (parts ++ more) ≡ n + opens parts + opens more
    room n = omega (arith, opens_append parts more)

    by : feed (parts ++ more) mark ≡ by_move (lead parts mark) more (feed more) mark → (v : Move) → by_move v (parts ++ more) (feed (parts ++ more)) mark ≡ by_move (followed v parts (lead parts mark)) more (feed more) mark
    by again (Take own) = ap Some (sym (append_assoc own parts more))
    by again (Room n own) =
        ap (λ x. if nat_le x 64 then Some (own ++ (parts ++ more)) else None) (room n)
        ∙ ap (λ x. if nat_le (n + opens parts + opens more) 64 then Some x else None) (sym (append_assoc own parts more))
    by again Skip = again
    by again Refuse = refl
