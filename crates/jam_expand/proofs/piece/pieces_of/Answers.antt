use Rattle.std.proofs.Common.{◌≡◌, ℕ, List, map, ◌∙◌, ◌++◌, ◌∷◌, [], ap, sym, drop, None}
use Rattle.std.proofs.lemmas.List.{map-append}
use Rattle.std.proofs.lemmas.List.Elements.{All-same}
use Rattle.jam_expand.specs.Words.{Piece, part, inside_len, literal_of}
use Rattle.jam_expand.specs.Shown.{shown}
use Rattle.jam_expand.specs.Unclosed.{unclosed_after}
use Rattle.jam_expand.proofs.PiecesGrowAlongTheWord.{cut_nothing, cut_literal, cut_part, cut_all}
use Rattle.jam_expand.proofs.ReadingBackFindsUnclosed.{no_parts, last_place, places_left}
use Rattle.jam_expand.proofs.piece.pieces_of.Goals as goal

-- no part begins at the place
abbrev NoPart : List ℕ → ℕ → Type 0
NoPart word place = inside_len (drop place word) ≡ None

pub bytes-init : goal.bytes-init
bytes-init c = record {
  cut = rw (c.new-pieces.ensures.items) (cut_nothing c.args.word.now);
  unclosed = All-same (NoPart c.args.word.now) c.in_ok-unclosed.unclosed.items (unclosed_after 0 c.args.word.now) (c.in_ok-unclosed.ensures ∙ ap (unclosed_after 0) c.as_bytes.ensures.value) (no_parts c.args.word.now);
}

pub bytes-preserved-then-take_last : goal.bytes-preserved-then-take_last
bytes-preserved-then-take_last c = record {
  cut = cut_literal _ _ _ _ c.bytes.invariant.cut c.bytes-test.true (last_place (NoPart c.args.word.now) c.bytes.unclosed.items c.bytes.at (sym c.take_last.ensures.last ∙ c.if-take_last.true) c.bytes.invariant.unclosed);
  unclosed = places_left (NoPart c.args.word.now) c.bytes.unclosed.items c.take_last.new.places.items c.take_last.result c.take_last.ensures.left c.bytes.invariant.unclosed;
}

pub bytes-preserved-in-None : goal.bytes-preserved-in-None
bytes-preserved-in-None c = record {
  cut = cut_literal _ _ _ _ c.bytes.invariant.cut c.bytes-test.true c.in-None.ensures.none;
  unclosed = places_left (NoPart c.args.word.now) c.bytes.unclosed.items c.take_last.new.places.items c.take_last.result c.take_last.ensures.left c.bytes.invariant.unclosed;
}

pub bytes-preserved : goal.bytes-preserved
bytes-preserved c = record {
  cut = cut_part _ _ _ _ _ _ _ c.bytes.invariant.cut c.in-Some.ensures.found
      (ap (map shown) c.in_ok-push-in-Some.ensures.items ∙ map-append shown c.push_literal.new.pieces.items _
      ∙ ap (λ (pieces : List Piece). pieces ++ part c.in-Some.inside.now ∷ []) (c.in_ok-push_literal-in-Some.ensures ∙ ap (λ s. map shown c.bytes.pieces.items ++ literal_of s) c.range.ensures.value));
  unclosed = places_left (NoPart c.args.word.now) c.bytes.unclosed.items c.take_last.new.places.items c.take_last.result c.take_last.ensures.left c.bytes.invariant.unclosed;
}

pub returns : goal.returns
returns c = c.in_ok-push_literal.ensures ∙ ap (λ s. map shown c.bytes.pieces.items ++ literal_of s) c.range_from.ensures.value ∙ cut_all _ _ _ _ c.bytes.invariant.cut c.bytes-test.false
