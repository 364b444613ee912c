use Rattle.std.proofs.Common.{◌≡◌, ◌∙◌, ◌++◌, ◌∷◌, [], None, map, sym, ap, subst, string_bytes}
use Rattle.std.specs.String.{string_eq}
use Rattle.std.specs.Str.{bytes_eq}
use Rattle.std.specs.Map.{lookup}
use Rattle.std.specs.HashMap.{get}
use Rattle.indexmap.specs.IndexMap.{insert_entry}
use Rattle.indexmap.proofs.CallerLemmas.{insert_entry-new}
use Rattle.std.proofs.lemmas.Result.{IfOk-at_ok}
use Rattle.b2_generators.specs.Table.{generator_named}
use Rattle.b2_generators.proofs.LookupsAnswerAsListsDo.{generator_at, generator_keys, generator_ids, keys_push, generators_push}
use Rattle.b2_generators.proofs.generator_table.GeneratorTable.put.Goals as goal

pub invariant_of-self-2 : goal.invariant_of-self-2
invariant_of-self-2 c =
    let es = c.self.inside.generators.entries in
    let key = c.in_ok-key.key in
    let g = c.args.generator in
    let named : string_bytes key ≡ g.id = c.in_ok-key.ensures.ok ∙ c.as_str.ensures.value in
    let absent : lookup (λ k. bytes_eq g.id (string_bytes k)) es ≡ None = generator_at g.id es c.self.invariant ∙ ap (λ generators. generator_named generators g.id) c.self.view_is ∙ c.requires in
    let gone : get string_eq c.reserve.new.self key ≡ None = ap (λ bytes. lookup (λ k. bytes_eq bytes (string_bytes k)) c.reserve.new.self.entries) named ∙ ap (lookup (λ k. bytes_eq g.id (string_bytes k))) c.in_ok-reserve.ensures.entries ∙ absent in
    let pushed : c.insert.new.self.entries ≡ es ++ (key, g) ∷ [] =
    IfOk-at_ok (λ _. c.insert.new.self.entries ≡ insert_entry string_eq c.reserve.new.self.entries key g) c.unwrap-before.ensures c.insert.ensures.entries
    ∙ insert_entry-new string_eq c.reserve.new.self key g gone ∙ ap (λ xs. xs ++ (key, g) ∷ []) c.in_ok-reserve.ensures.entries in
    subst (λ xs. generator_keys xs ≡ generator_ids xs) (sym pushed) (keys_push es key g c.self.invariant named)

pub returns-clause-ok : goal.returns-clause-ok
returns-clause-ok c =
    let es = c.self.inside.generators.entries in
    let key = c.in_ok-key.key in
    let g = c.args.generator in
    let named : string_bytes key ≡ g.id = c.in_ok-key.ensures.ok ∙ c.as_str.ensures.value in
    let absent : lookup (λ k. bytes_eq g.id (string_bytes k)) es ≡ None = generator_at g.id es c.self.invariant ∙ ap (λ generators. generator_named generators g.id) c.self.view_is ∙ c.requires in
    let gone : get string_eq c.reserve.new.self key ≡ None = ap (λ bytes. lookup (λ k. bytes_eq bytes (string_bytes k)) c.reserve.new.self.entries) named ∙ ap (lookup (λ k. bytes_eq g.id (string_bytes k))) c.in_ok-reserve.ensures.entries ∙ absent in
    let pushed : c.insert.new.self.entries ≡ es ++ (key, g) ∷ [] =
    IfOk-at_ok (λ _. c.insert.new.self.entries ≡ insert_entry string_eq c.reserve.new.self.entries key g) c.unwrap-before.ensures c.insert.ensures.entries
    ∙ insert_entry-new string_eq c.reserve.new.self key g gone ∙ ap (λ xs. xs ++ (key, g) ∷ []) c.in_ok-reserve.ensures.entries in
    ap (map (λ e. e.1)) pushed ∙ generators_push es key g ∙ ap (λ generators. generators ++ g ∷ []) c.self.view_is
