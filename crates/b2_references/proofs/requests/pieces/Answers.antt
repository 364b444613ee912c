use Rattle.std.proofs.Common.{◌∙◌, List, ap}
use Rattle.std.specs.List.{flat_map}
use Rattle.b2_references.specs.declared.request_word.RequestWord.{RequestWord}
use Rattle.b2_references.specs.Requests.{asked_of, asked}
use Rattle.b2_references.proofs.LoopsTakeOneMore.{if_ok}
use Rattle.b2_references.proofs.requests.pieces.Goals as goal

pub returns : goal.returns
unfolding asked
returns c =
    if_ok c.pieces_of.result c.pieces_of.ensures (λ made e.
    e ∙ ap (λ (words : List RequestWord). flat_map (asked_of c.args.index.now words) c.args.sets.now) (c.as_slice.ensures ∙ c.in_ok-named.ensures))
