use Rattle.std.proofs.Common.{ℕ, List, [], map, subst, sym, Bor, ◌<◌}
use Rattle.std.proofs.lemmas.List.{get_or-map, length-map}
use Rattle.std.proofs.lemmas.List.Elements.{All-get_or}
use Rattle.b2_base.specs.Bytes.{HasNoZero}
use Rattle.b2_base.proofs.text_list.owned_texts.Goals as goal

pub new-requires : goal.new-requires
new-requires c =
    let now = λ (s : Bor (List ℕ)). s.now in
    let at = c.loop-word.word-index in
    subst HasNoZero (get_or-map now c.args.words.now at (record { ref_ptr = (0, 0); now = [] }) [] c.loop-word-test.true)
    (All-get_or HasNoZero (map now c.args.words.now) at [] (subst (λ (n : ℕ). at < n) (sym (length-map c.args.words.now now)) c.loop-word-test.true) c.requires)
