-- A call that declares a target has the name of its kind, the target's name stays below, and ids begin with a slash.
use Rattle.std.proofs.Common.{◌≡◌, ℕ, Bool, true, false, cond, ◌||◌, List, [], ◌∷◌, ◌++◌, Option, Some, None, refl, sym, ap, ◌∙◌, subst}
use Rattle.std.specs.Prelude.{codes, is_some, slice_get}
use Rattle.std.specs.List.{AllByRecursion, list_any}
use Rattle.std.specs.Option.{IfSome, option_map, option_and_then}
use Rattle.std.specs.Str.{bytes_eq}
use Rattle.std.proofs.lemmas.Bool.{true≢false, or_parts}
use Rattle.std.proofs.lemmas.Slice.Eq.{bytes_eq-Decides}
use Rattle.b2_base.specs.Segments.{segments, is_rooted, is_up, normal_of}
use Rattle.b2_base.specs.Normal.{IsUnder, parts, first_part}
use Rattle.b2_base.specs.Simpler.{Simpler, blank, dot, back, leading, Reaches, here, onward}
use Rattle.b2_base.proofs.NormalMakesNormalForms.{is_normal_normal}
use Rattle.b2_base.proofs.NormalFormIsOnlyEnd.{normal_root, normal_reached}
use Rattle.b2_base.proofs.BeginningTellsWhatIsUnder.{under_here}
use Rattle.b2_base.specs.Lists.{list_at}
use Rattle.b2_property_texts.specs.Cuts.{cut_at}
use Rattle.b2_declaring_calls.specs.declared.declaration.Attributes.{Attributes}
use Rattle.b2_declaring_calls.specs.declared.declaration.Declaration.{Declaration}
use Rattle.b2_declaring_calls.specs.declared.declaration.Declaration.TheVariants as declarations
use Rattle.b2_declaring_calls.specs.declared.declaration.Kind.{Kind}
use Rattle.b2_declaring_calls.specs.declared.declaration.MainTarget.{MainTarget}
use Rattle.b2_declaring_calls.specs.declared.declaring_rule.DeclaringRule.{DeclaringRule}
use Rattle.b2_declaring_calls.specs.declared.declaring_rule.DeclaringRule.TheVariants as rules
use Rattle.b2_declaring_calls.specs.Lists.{Texts, text_at}
use Rattle.b2_declaring_calls.specs.Rules.{rules as table, rule_in, rule_of}
use Rattle.b2_declaring_calls.specs.Attributes.{id_of, attributes}
use Rattle.b2_declaring_calls.specs.Targets.{target}
use Rattle.b2_declaring_calls.specs.Declarations.{is_shaped, declared, shape_of, is_refused}
use Rattle.b2_declaring_calls.specs.Laws.{kind_name}

-- a call that declares something: its rule, and that its lists have that rule's shape
record IsCall (name : List ℕ) (lists : List Texts) (d : Declaration) : Type 0 where
  rule : DeclaringRule
  found : rule_of name ≡ Some rule
  shaped : is_shaped rule lists ≡ true
  declares : declared rule lists ≡ d

is_call : (name : List ℕ) (lists : List Texts) (d : Declaration) → shape_of name lists ≡ Some d → IsCall name lists d
is_call name lists d e = go (rule_of name) refl e
  where
    given : (rule : DeclaringRule) (s : Bool) → is_shaped rule lists ≡ s → rule_of name ≡ Some rule → cond s (Some (declared rule lists)) None ≡ Some d → IsCall name lists d
    given rule false shaped found same = cc
    given rule true shaped found same = record { rule = rule; found = found; shaped = shaped; declares = cc }

    go : (r : Option DeclaringRule) → rule_of name ≡ r → option_and_then (λ rule. cond (is_shaped rule lists) (Some (declared rule lists)) None) r ≡ Some d → IsCall name lists d
    go None found same = cc
    go (Some rule) found same = given rule (is_shaped rule lists) refl found same

-- ---- main targets

-- a rule of main targets with its lists
record IsTargetCall (rule : DeclaringRule) (lists : List Texts) (t : MainTarget) : Type 0 where
  kind : Kind
  rule_is : rule ≡ rules.Target kind
  target_is : target kind lists ≡ t

is_target_call : (rule : DeclaringRule) (lists : List Texts) (t : MainTarget) → declared rule lists ≡ declarations.Main t → IsTargetCall rule lists t
is_target_call (rules.Target kind) lists t e = record { kind = kind; rule_is = refl; target_is = cc }
is_target_call rules.Project lists t e = cc
is_target_call rules.Explicit lists t e = cc
is_target_call rules.BuildProject lists t e = cc
is_target_call rules.UseProject lists t e = cc
is_target_call rules.Using lists t e = cc
is_target_call rules.Feature lists t e = cc
is_target_call rules.Compose lists t e = cc
is_target_call rules.FileType lists t e = cc
is_target_call rules.Generator lists t e = cc
is_target_call rules.Import lists t e = cc
is_target_call (rules.Test rule) lists t e = cc

-- ---- the names of rules

-- a rule of main targets is named after the kind
IsNamed : DeclaringRule → List ℕ → Type 0
IsNamed (rules.Target kind) name = name ≡ kind_name kind
IsNamed rule name = Unit {0}

in_table : (P : DeclaringRule → List ℕ → Type 0) (rows : List (List ℕ × DeclaringRule)) → AllByRecursion (λ row. P row.1 row.0) rows → (name : List ℕ) (rule : DeclaringRule) → rule_in rows name ≡ Some rule → P rule name
in_table P [] all name rule e = cc
in_table P (row ∷ rows) all name rule e = go (bytes_eq name row.0) refl e (in_table P rows all.1 name rule)
  where
    go : (b : Bool) → bytes_eq name row.0 ≡ b → cond b (Some row.1) (rule_in rows name) ≡ Some rule → (rule_in rows name ≡ Some rule → P rule name) → P rule name
    go true same found later =
        let rule_is : row.1 ≡ rule = cc in
        subst (λ n. P rule n) (sym ((bytes_eq-Decides name row.0).0 same)) (subst (λ r. P r row.0) rule_is all.0)
    go false same found later = later found

named_in_table : (name : List ℕ) (rule : DeclaringRule) → rule_of name ≡ Some rule → IsNamed rule name
unfolding rule_of IsNamed
named_in_table name rule e =
    in_table IsNamed table (tt, (refl, (refl, (refl, (refl, (refl, (refl, (tt, (tt, (tt, (tt, (tt, (tt, (tt, (tt, (tt, (tt, (tt, (tt, (tt, tt)))))))))))))))))))) name rule e

named_after : (name : List ℕ) (kind : Kind) → rule_of name ≡ Some (rules.Target kind) → name ≡ kind_name kind
unfolding IsNamed
named_after name kind e = named_in_table name (rules.Target kind) e

pub target_named : (name : List ℕ) (lists : List Texts) (t : MainTarget) → shape_of name lists ≡ Some (declarations.Main t) → name ≡ kind_name t.kind
target_named name lists t e =
    let call : IsCall name lists (declarations.Main t) = is_call name lists (declarations.Main t) e in
    let made : IsTargetCall call.rule lists t = is_target_call call.rule lists t call.declares in
    named_after name made.kind (call.found ∙ ap Some made.rule_is) ∙ ap (λ (m : MainTarget). kind_name m.kind) made.target_is

-- ---- names of main targets

-- what holds of each element still does where some are left out
left_out : {X : Type 0} (P : X → Type 0) (before middle after : List X) → AllByRecursion P (before ++ (middle ++ after)) → AllByRecursion P (before ++ after)
left_out P [] [] after all = all
left_out P [] (x ∷ middle) after all = left_out P [] middle after all.1
left_out P (x ∷ before) middle after all = (all.0, left_out P before middle after all.1)

simpler_has : (P : List ℕ → Type 0) (rooted : Bool) (a b : List (List ℕ)) → Simpler rooted a b → AllByRecursion P a → AllByRecursion P b
simpler_has P rooted a b (blank before after) all = left_out P before ([] ∷ []) after all
simpler_has P rooted a b (dot before after) all = left_out P before (codes "." ∷ []) after all
simpler_has P rooted a b (back before name after n) all = left_out P before (name ∷ codes ".." ∷ []) after all
simpler_has P rooted a b (leading after root) all = all.1

reached_has : (P : List ℕ → Type 0) (rooted : Bool) (a b : List (List ℕ)) → Reaches rooted a b → AllByRecursion P a → AllByRecursion P b
reached_has P rooted a b (here segments) all = all
reached_has P rooted a b (onward from next to step more) all = reached_has P rooted next to more (simpler_has P rooted from next step all)

none_up : (found : List (List ℕ)) → list_any is_up found ≡ false → AllByRecursion (λ s. is_up s ≡ false) found
none_up [] e = tt
none_up (s ∷ found) e = let parts = or_parts (is_up s) (list_any is_up found) e in (parts.0, none_up found parts.1)

first_not_up : (path : List ℕ) → AllByRecursion (λ s. is_up s ≡ false) (parts path) → is_up (first_part path) ≡ false
first_not_up path all = go (parts path) refl all
  where
    go : (p : List (List ℕ)) → parts path ≡ p → AllByRecursion (λ s. is_up s ≡ false) p → is_up (first_part path) ≡ false
    go [] e all = rw e refl
    go (s ∷ more) e all = rw e all.0

stays_below : (name : List ℕ) → is_rooted name ≡ false → list_any is_up (segments name) ≡ false → bytes_eq (normal_of name) (codes ".") ≡ false → IsUnder (normal_of name) (codes ".")
stays_below name relative no_up shown =
    under_here (normal_of name) (is_normal_normal name) (λ e. true≢false (sym ((bytes_eq-Decides (normal_of name) (codes ".")).1 e) ∙ shown)) (normal_root name ∙ relative)
    (first_not_up (normal_of name) (reached_has (λ s. is_up s ≡ false) (is_rooted name) (segments name) (parts (normal_of name)) (normal_reached name) (none_up (segments name) no_up)))

pub name_below : (t : MainTarget) → is_refused (declarations.Main t) ≡ false → IsUnder (normal_of t.name) (codes ".")
name_below t e =
    let name = t.name in
    let empty = bytes_eq name [] in
    let slashes = is_some (cut_at (codes "//") name) in
    let up = list_any is_up (segments name) in
    let here = or_parts (empty || is_rooted name || slashes || up) (bytes_eq (normal_of name) (codes ".")) e in
    let climbs = or_parts (empty || is_rooted name || slashes) up here.0 in
    let cut = or_parts (empty || is_rooted name) slashes climbs.0 in
    let root = or_parts empty (is_rooted name) cut.0 in
    stays_below name root.1 climbs.1 here.1

-- ---- ids

rooted_id : (text : List ℕ) → is_rooted (id_of text) ≡ true
rooted_id text = go (is_rooted text) refl
  where
    go : (b : Bool) → is_rooted text ≡ b → is_rooted (cond b text (codes "/" ++ text)) ≡ true
    go true e = e
    go false e = refl

pub given_id : (name : List ℕ) (lists : List Texts) (a : Attributes) → shape_of name lists ≡ Some (declarations.Project a) → IfSome a.id (λ id. is_rooted id ≡ true)
given_id name lists a e =
    let call : IsCall name lists (declarations.Project a) = is_call name lists (declarations.Project a) e in
    subst (λ (m : Attributes). IfSome m.id (λ id. is_rooted id ≡ true)) (project_is call.rule call.declares) (of_list (slice_get (list_at 0 lists) 0))
  where
    of_list : (o : Option (List ℕ)) → IfSome (option_map id_of o) (λ id. is_rooted id ≡ true)
    of_list None = tt
    of_list (Some text) = rooted_id text

    project_is : (rule : DeclaringRule) → declared rule lists ≡ declarations.Project a → attributes lists ≡ a
    project_is rules.Project same = cc
    project_is (rules.Target kind) same = cc
    project_is rules.Explicit same = cc
    project_is rules.BuildProject same = cc
    project_is rules.UseProject same = cc
    project_is rules.Using same = cc
    project_is rules.Feature same = cc
    project_is rules.Compose same = cc
    project_is rules.FileType same = cc
    project_is rules.Generator same = cc
    project_is rules.Import same = cc
    project_is (rules.Test test) same = cc

pub used_id : (name : List ℕ) (lists : List Texts) (id dir : List ℕ) → shape_of name lists ≡ Some (declarations.UseProject id dir) → is_rooted id ≡ true
used_id name lists id dir e =
    let call : IsCall name lists (declarations.UseProject id dir) = is_call name lists (declarations.UseProject id dir) e in
    subst (λ i. is_rooted i ≡ true) (id_is call.rule call.declares) (rooted_id (text_at 0 lists))
  where
    id_is : (rule : DeclaringRule) → declared rule lists ≡ declarations.UseProject id dir → id_of (text_at 0 lists) ≡ id
    id_is rules.Project same = cc
    id_is (rules.Target kind) same = cc
    id_is rules.Explicit same = cc
    id_is rules.BuildProject same = cc
    id_is rules.UseProject same = cc
    id_is rules.Using same = cc
    id_is rules.Feature same = cc
    id_is rules.Compose same = cc
    id_is rules.FileType same = cc
    id_is rules.Generator same = cc
    id_is rules.Import same = cc
    id_is (rules.Test test) same = cc
