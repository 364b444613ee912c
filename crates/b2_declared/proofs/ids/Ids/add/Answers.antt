use Rattle.std.proofs.Common.{◌≡◌, ◌∙◌, ◌++◌, ◌∷◌, [], None, cond, is_some, map, sym, ap, ap₂, string_bytes}
use Rattle.std.specs.String.{string_eq}
use Rattle.std.specs.Str.{bytes_eq}
use Rattle.std.specs.Map.{lookup}
use Rattle.std.specs.HashMap.{get}
use Rattle.indexmap.specs.IndexMap.{insert_entry}
use Rattle.indexmap.proofs.CallerLemmas.{insert_entry-new}
use Rattle.std.proofs.lemmas.List.{map-append}
use Rattle.std.proofs.lemmas.Result.{IfOk-at_ok}
use Rattle.b2_features.proofs.ListSearchesAgree.{lookup-map_keys}
use Rattle.b2_property_texts.proofs.EarlierPairsTellClashes.{not_there}
use Rattle.b2_declared.specs.Gathering.{dir_of}
use Rattle.b2_declared.proofs.ids.Ids.add.Goals as goal

pub returns-clause-ok : goal.returns-clause-ok
returns-clause-ok c =
    let es = c.self.inside.dirs.entries in
    let key = c.in_ok-key.key in
    let id = c.args.id.now in
    let dir = c.args.dir in
    let ids = c.args.self.now in
    let none : dir_of ids id ≡ None = not_there c.dir_of.result (dir_of ids id) (c.dir_of.ensures ∙ ap (dir_of ids) c.as_str.ensures.value) (sym c.is_some.ensures ∙ c.if-is_some.false) in
    let named : string_bytes key ≡ id = c.in_ok-key.ensures.ok ∙ c.as_str-2.ensures.value in
    let absent : lookup (λ k. bytes_eq id (string_bytes k)) es ≡ None = sym (lookup-map_keys string_bytes (bytes_eq id) es) ∙ ap (λ xs. dir_of xs id) c.self.view_is ∙ none in
    let gone : get string_eq c.reserve.new.self key ≡ None =
    ap (λ bytes. lookup (λ k. bytes_eq bytes (string_bytes k)) c.reserve.new.self.entries) named ∙ ap (lookup (λ k. bytes_eq id (string_bytes k))) c.in_ok-reserve.ensures.entries ∙ absent in
    let pushed : c.insert.new.self.entries ≡ es ++ (key, dir) ∷ [] =
    IfOk-at_ok (λ _. c.insert.new.self.entries ≡ insert_entry string_eq c.reserve.new.self.entries key dir) c.unwrap-before.ensures c.insert.ensures.entries
    ∙ insert_entry-new string_eq c.reserve.new.self key dir gone ∙ ap (λ xs. xs ++ (key, dir) ∷ []) c.in_ok-reserve.ensures.entries in
    ap (map (λ e. (string_bytes e.0, e.1))) pushed ∙ map-append (λ e. (string_bytes e.0, e.1)) es ((key, dir) ∷ [])
    ∙ ap₂ (λ xs k. xs ++ (k, dir) ∷ []) c.self.view_is named ∙ sym (ap (λ o. cond (is_some o) ids (ids ++ (id, dir) ∷ [])) none)
