use Rattle.std.proofs.Common.{◌≡◌, ◌∙◌, ◌++◌, ◌∷◌, [], ℕ, List, cond, Some, None, length, sym, ap, subst, string_bytes}
use Rattle.std.specs.String.{string_eq}
use Rattle.std.specs.Str.{bytes_eq}
use Rattle.std.specs.Map.{lookup}
use Rattle.std.specs.HashMap.{get}
use Rattle.std.specs.Option.{is_some}
use Rattle.indexmap.specs.IndexMap.{insert_entry}
use Rattle.indexmap.proofs.CallerLemmas.{insert_entry-new}
use Rattle.std.proofs.lemmas.List.{length-map}
use Rattle.std.proofs.lemmas.Result.{IfOk-at_ok}
use Rattle.b2_generators.specs.Table.{FileType, has_text, type_named, type_with}
use Rattle.b2_generators.specs.Index.{types_in, HasPlaces}
use Rattle.b2_generators.proofs.LookupsAnswerAsListsDo.{no_suffixes, types_push, places_push, untaken_at, among}
use Rattle.b2_generators.proofs.type_table.TypeTable.put.Goals as goal

pub invariant_of-self-2 : goal.invariant_of-self-2
invariant_of-self-2 c =
    let es = c.self.inside.types.entries in
    let name = c.args.name in
    let absent : lookup (λ k. bytes_eq (string_bytes name) (string_bytes k)) es ≡ None = no_suffixes (string_bytes name) es (ap (λ types. type_named types (string_bytes name)) c.self.view_is ∙ c.requires.absent) in
    let gone : get string_eq c.reserve.new.self name ≡ None = ap (lookup (λ k. bytes_eq (string_bytes name) (string_bytes k))) c.in_ok-reserve.ensures.entries ∙ absent in
    let pushed : c.insert.new.self.entries ≡ es ++ (name, c.args.suffixes) ∷ [] =
    IfOk-at_ok (λ _. c.insert.new.self.entries ≡ insert_entry string_eq c.reserve.new.self.entries name c.args.suffixes) c.unwrap-before.ensures c.insert.ensures.entries
    ∙ insert_entry-new string_eq c.reserve.new.self name c.args.suffixes gone ∙ ap (λ xs. xs ++ (name, c.args.suffixes) ∷ []) c.in_ok-reserve.ensures.entries in
    let end : c.len-place.result ≡ length (types_in es) = c.len-place.ensures.len ∙ ap length c.in_ok-reserve.ensures.entries ∙ sym (length-map es (λ e. let t : FileType = record { name = string_bytes e.0; suffixes = e.1 } in t)) in
    subst (λ types. HasPlaces types c.add.new.self) (sym (ap types_in pushed ∙ types_push es name c.args.suffixes))
    (places_push (types_in es) c.self.inside.suffixes c.add.new.self (record { name = string_bytes name; suffixes = c.args.suffixes }) c.len-place.result c.self.invariant end
    (λ q here. ap (λ types. is_some (type_with types q)) c.self.view_is ∙ untaken_at c.args.self.now c.args.suffixes q c.requires.untaken here)
    (λ q. c.in_ok-add.ensures.ok q ∙ ap (λ b. cond b (Some c.len-place.result) (lookup (bytes_eq q) c.self.inside.suffixes)) (among q c.args.keys.items ∙ ap (λ (texts : List (List ℕ)). has_text texts q) c.requires.keys)))

pub returns-clause-ok : goal.returns-clause-ok
returns-clause-ok c =
    let es = c.self.inside.types.entries in
    let name = c.args.name in
    let absent : lookup (λ k. bytes_eq (string_bytes name) (string_bytes k)) es ≡ None = no_suffixes (string_bytes name) es (ap (λ types. type_named types (string_bytes name)) c.self.view_is ∙ c.requires.absent) in
    let gone : get string_eq c.reserve.new.self name ≡ None = ap (lookup (λ k. bytes_eq (string_bytes name) (string_bytes k))) c.in_ok-reserve.ensures.entries ∙ absent in
    let pushed : c.insert.new.self.entries ≡ es ++ (name, c.args.suffixes) ∷ [] =
    IfOk-at_ok (λ _. c.insert.new.self.entries ≡ insert_entry string_eq c.reserve.new.self.entries name c.args.suffixes) c.unwrap-before.ensures c.insert.ensures.entries
    ∙ insert_entry-new string_eq c.reserve.new.self name c.args.suffixes gone ∙ ap (λ xs. xs ++ (name, c.args.suffixes) ∷ []) c.in_ok-reserve.ensures.entries in
    ap types_in pushed ∙ types_push es name c.args.suffixes ∙ ap (λ types. types ++ record { name = string_bytes name; suffixes = c.args.suffixes } ∷ []) c.self.view_is
