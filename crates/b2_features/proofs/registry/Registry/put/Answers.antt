use Rattle.std.proofs.Common.{◌≡◌, ◌∙◌, ◌++◌, ◌∷◌, [], cond, Some, None, length, sym, ap, subst, string_bytes}
use Rattle.std.specs.String.{string_eq}
use Rattle.std.specs.Str.{bytes_eq}
use Rattle.std.specs.Map.{lookup}
use Rattle.std.specs.HashMap.{get}
use Rattle.indexmap.specs.IndexMap.{insert_entry}
use Rattle.indexmap.proofs.CallerLemmas.{insert_entry-new}
use Rattle.std.proofs.lemmas.List.{length-map}
use Rattle.std.proofs.lemmas.Result.{IfOk-at_ok}
use Rattle.b2_features.specs.Table.{seen, feature_of}
use Rattle.b2_features.specs.Faults.{is_implicit}
use Rattle.b2_features.specs.Index.{IsIndexed}
use Rattle.b2_features.proofs.MapEntriesShowTheTable.{shown, absent_key, indexed_push, shown_push}
use Rattle.b2_features.proofs.registry.Registry.put.Goals as goal

pub invariant_of-self-2 : goal.invariant_of-self-2
invariant_of-self-2 c =
    let es = c.self.inside.features.entries in
    let key = c.in_ok-key.key in
    let named : string_bytes key ≡ c.args.feature.name = c.in_ok-key.ensures.ok ∙ c.as_str.ensures.value in
    let absent : lookup (λ k. bytes_eq c.args.feature.name (string_bytes k)) es ≡ None = absent_key c.args.feature.name es c.self.invariant.keys (ap (λ table. feature_of table c.args.feature.name) c.self.view_is ∙ c.requires.absent) in
    let gone : get string_eq c.reserve.new.self key ≡ None = ap (λ bytes. lookup (λ k. bytes_eq bytes (string_bytes k)) c.reserve.new.self.entries) named ∙ ap (lookup (λ k. bytes_eq c.args.feature.name (string_bytes k))) c.in_ok-reserve.ensures.entries ∙ absent in
    let pushed : c.insert.new.self.entries ≡ es ++ (key, c.args.feature) ∷ [] =
    IfOk-at_ok (λ _. c.insert.new.self.entries ≡ insert_entry string_eq c.reserve.new.self.entries key c.args.feature) c.unwrap-before.ensures c.insert.ensures.entries
    ∙ insert_entry-new string_eq c.reserve.new.self key c.args.feature gone ∙ ap (λ xs. xs ++ (key, c.args.feature) ∷ []) c.in_ok-reserve.ensures.entries in
    let end : c.len-place.result ≡ length (shown es) = c.len-place.ensures.len ∙ ap length c.in_ok-reserve.ensures.entries ∙ sym (length-map es (λ e. seen e.1)) in
    subst (λ xs. IsIndexed xs c.add.new.self) (sym pushed)
    (indexed_push es c.self.inside.implicit c.add.new.self key c.args.feature c.len-place.result c.self.invariant named end
    (λ q here. ap (λ table. is_implicit table q) c.self.view_is ∙ c.requires.untaken q here)
    (λ q. c.in_ok-add.ensures.ok q ∙ ap (λ b. cond b (Some c.len-place.result) (lookup (bytes_eq q) c.self.inside.implicit)) (c.requires.implicit q)) c.requires.whole)

pub returns-clause-ok : goal.returns-clause-ok
returns-clause-ok c =
    let es = c.self.inside.features.entries in
    let key = c.in_ok-key.key in
    let named : string_bytes key ≡ c.args.feature.name = c.in_ok-key.ensures.ok ∙ c.as_str.ensures.value in
    let absent : lookup (λ k. bytes_eq c.args.feature.name (string_bytes k)) es ≡ None = absent_key c.args.feature.name es c.self.invariant.keys (ap (λ table. feature_of table c.args.feature.name) c.self.view_is ∙ c.requires.absent) in
    let gone : get string_eq c.reserve.new.self key ≡ None = ap (λ bytes. lookup (λ k. bytes_eq bytes (string_bytes k)) c.reserve.new.self.entries) named ∙ ap (lookup (λ k. bytes_eq c.args.feature.name (string_bytes k))) c.in_ok-reserve.ensures.entries ∙ absent in
    let pushed : c.insert.new.self.entries ≡ es ++ (key, c.args.feature) ∷ [] =
    IfOk-at_ok (λ _. c.insert.new.self.entries ≡ insert_entry string_eq c.reserve.new.self.entries key c.args.feature) c.unwrap-before.ensures c.insert.ensures.entries
    ∙ insert_entry-new string_eq c.reserve.new.self key c.args.feature gone ∙ ap (λ xs. xs ++ (key, c.args.feature) ∷ []) c.in_ok-reserve.ensures.entries in
    ap shown pushed ∙ shown_push es key c.args.feature ∙ ap (λ table. table ++ seen c.args.feature ∷ []) c.self.view_is
