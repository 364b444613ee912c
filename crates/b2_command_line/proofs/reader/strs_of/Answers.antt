use Rattle.std.proofs.Common.{◌≡◌, ◌++◌, ◌∷◌, [], ap, ap₂, sym, ◌∙◌, map, All, IsUtf8, List, ℕ, subst, Bor}
use Rattle.std.proofs.lemmas.List.{take_more, map-append}
use Rattle.std.proofs.lemmas.List.Elements.{All-push}
use Rattle.b2_base.specs.Bytes.{HasNoZero}
use Rattle.b2_command_line.proofs.reader.strs_of.Goals as goal

pub loop-word-preserved : goal.loop-word-preserved
loop-word-preserved c =
    let now = λ (s : Bor (List ℕ)). s.now in
    let grown : map now c.push.new.self.items ≡ map now c.loop-word.strs.items ++ c.as_str.result.now ∷ [] =
    ap (map now) c.in_ok-push.ensures.items ∙ map-append now c.loop-word.strs.items (c.as_str.result ∷ []) in
    record {
      same = grown ∙ ap₂ (λ (xs : List (List ℕ)) (x : List ℕ). xs ++ x ∷ []) c.loop-word.invariant.same (c.as_str.ensures.value ∙ c.word-item.is)
          ∙ sym (take_more c.args.words.now c.loop-word.word-index c.word-item.result c.loop-word-test.true);
      utf8 = subst (All IsUtf8) (sym grown) (All-push IsUtf8 (map now c.loop-word.strs.items) c.as_str.result.now c.loop-word.invariant.utf8 c.as_str.utf8);
      no_zero = subst (All HasNoZero) (sym grown)
          (All-push HasNoZero (map now c.loop-word.strs.items) c.as_str.result.now c.loop-word.invariant.no_zero (subst HasNoZero (sym c.as_str.ensures.value) c.as_str.ensures.no_zero));
    }
