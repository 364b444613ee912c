-- Chains as acts, and what their generators give.
use Rattle.std.proofs.Common.{◌≡◌, ◌≢◌, ℕ, Bool, true, false, ◌&&◌, cond, List, [], ◌∷◌, Option, Some, None, Result, Ok, Err, slice_get, length, map, get_or, refl, sym, ◌∙◌, ap, subst, arith}
use Rattle.std.specs.List.{AllByRecursion, cons_option}
use Rattle.std.specs.Option.{option_map, option_map_or}
use Rattle.std.specs.Str.{bytes_eq}
use Rattle.std.proofs.lemmas.Bool.{false≢true}
use Rattle.std.proofs.lemmas.Option.{slice_get_within, get_or_from_slice_get}
use Rattle.std.proofs.lemmas.List.Recursion.{found_at}
use Rattle.b2_plan.specs.declared.step.Step.{Step}
use Rattle.b2_props.specs.Sets.{Pair}
use Rattle.b2_props.specs.Membership.{has_all}
use Rattle.b2_props.proofs.RepeatedPairsAddNothing.{text_itself, text_sym}
use Rattle.b2_generators.specs.declared.generator.Generator.{Generator}
use Rattle.b2_generators.specs.declared.fault.ChainFault.{ChainFault}
use Rattle.b2_generators.specs.declared.fault.ChainFault.TheVariants as chain
use Rattle.b2_generators.specs.Table.{FileType, has_text, generator_named, HaveDistinctIds}
use Rattle.b2_generators.specs.Chains.{makes, Leads, ids_of, IsOnlyShortest}
use Rattle.b2_generators.specs.Faults.{IsBetween, IsNoChainBy, IsTwoChainsBy}
use Rattle.b2_making.specs.declared.fault.MakingFault.{MakingFault}
use Rattle.b2_virtual.specs.declared.entry.Entry.{Entry}
use Rattle.b2_making.specs.declared.output.Output.{Output}
use Rattle.b2_making.specs.declared.setting.Setting.{Setting}
use Rattle.b2_making.specs.declared.site.Site as code
use Rattle.b2_making.specs.Faults.{Fault}
use Rattle.b2_making.specs.Acts.{Outcome}
use Rattle.b2_making.specs.Contexts.{Context, Site}
use Rattle.b2_making.specs.MakingParts.{of_chain, GivesSome, if_last, Alone}
use Rattle.b2_making.specs.Steps.{runs}
use Rattle.b2_making.specs.Conversions.{chains, outputs_of, with_named, naming, first_tail, along}

-- ---- chains

pub chain_ok : {E : Type 0} (setting : Setting) (site : code.Site) (from to : List ℕ) (ids : List (List ℕ)) (before : List Step) → IsOnlyShortest setting.types.now.generators site.set.now from to ids
    → Alone {E = E} (λ c s. chains c.generators s.set from to) setting site before before (Ok ids)
chain_ok setting site from to ids before is = record { exact = λ told is_host is_memory. (is, refl); no_eval = tt }

pub chain_err : {E : Type 0} (setting : Setting) (site : code.Site) (from to : List ℕ) (f : ChainFault) (before : List Step) → IsBetween from to f
    → IsNoChainBy setting.types.now.generators site.set.now from to f → IsTwoChainsBy setting.types.now.generators site.set.now from to f
    → Alone {E = E} (λ c s. chains c.generators s.set from to) setting site before before (Err (of_chain f))
chain_err setting site from to (chain.NoChain a b) before between none two = record { exact = λ told is_host is_memory. (between.0, between.1, none); no_eval = tt }
chain_err setting site from to (chain.TwoChains a b first second) before between none two = record { exact = λ told is_host is_memory. (between.0, between.1, two); no_eval = tt }
chain_err setting site from to chain.OutOfMemory before between none two = record { exact = λ told is_host is_memory. tt; no_eval = tt }

-- types that are read from elsewhere
pub chain_read : {E : Type 0} (setting : Setting) (site : code.Site) (from to one other : List ℕ) (before : List Step) (r : Result (List (List ℕ)) (MakingFault E)) → one ≡ from → other ≡ to
    → Alone {E = E} (λ c s. chains c.generators s.set one other) setting site before before r → Alone {E = E} (λ c s. chains c.generators s.set from to) setting site before before r
chain_read {E} setting site from to one other before r is are alone =
    subst (λ (t : List ℕ). Alone {E = E} (λ c s. chains c.generators s.set from t) setting site before before r) are
    (subst (λ (t : List ℕ). Alone {E = E} (λ c s. chains c.generators s.set t other) setting site before before r) is alone)

-- ---- the generators of a chain

-- a generator is the one of its id
named_own : (gs : List Generator) (place : ℕ) (g : Generator) → HaveDistinctIds gs → slice_get gs place ≡ Some g → generator_named gs g.id ≡ Some g
named_own gs place g distinct at =
    let within = slice_get_within gs place g at in
    let here : get_or gs place g ≡ g = get_or_from_slice_get gs place g g at in
    found_at (λ xs. generator_named xs g.id) (λ x. bytes_eq g.id x.id) (λ x. Some x) None refl (λ x xs. refl) gs place g within
    (λ k before. text_sym g.id (get_or gs k g).id ∙ subst (λ (x : Generator). bytes_eq (get_or gs k g).id x.id ≡ false) here (distinct k place g before within))
    (ap (λ (x : Generator). bytes_eq g.id x.id) here ∙ text_itself g.id)
    ∙ ap (λ (x : Generator). let o : Option Generator = Some x in o) here

has_some : (texts : List (List ℕ)) (text : List ℕ) → has_text texts text ≡ true → texts ≢ []
has_some [] text has none = false≢true has
has_some (t ∷ texts) text has none = let e : length (t ∷ texts) ≡ 0 = ap length none in absurd (omega (arith, e))

makes_some : (set : List Pair) (from to : List ℕ) (g : Generator) → makes set from to g ≡ true → g.targets ≢ []
makes_some set from to g made = has_some g.targets to (go (has_all set g.required && has_text g.sources from) (has_text g.targets to) made)
  where
    go : (a b : Bool) → (a && b) ≡ true → b ≡ true
    go true b e = e
    go false b e = absurd (false≢true e)

module _ (gs : List Generator) (set : List Pair) (distinct : HaveDistinctIds gs) where
  gives_at : (place : ℕ) (from to : List ℕ) (o : Option Generator) → slice_get gs place ≡ o → option_map_or (makes set from to) o false ≡ true → (g : Generator) × (o ≡ Some g) × GivesSome gs g.id
  gives_at place from to None at made = absurd (false≢true made)
  gives_at place from to (Some g) at made =
      (g, refl, λ none. makes_some set from to g made (sym (ap (λ (o : Option Generator). option_map_or (λ (x : Generator). x.targets) o []) (named_own gs place g distinct at)) ∙ none))

  all_give : (from : List ℕ) (places : List ℕ) (types : List (List ℕ)) → Leads gs set from places types → AllByRecursion (GivesSome gs) (ids_of gs places)
  all_give from [] [] leads = tt
  all_give from [] (type ∷ types) leads = absurd leads
  all_give from (place ∷ places) [] leads = absurd leads
  all_give from (place ∷ places) (type ∷ types) leads =
      let one = gives_at place from type (slice_get gs place) refl leads.0 in
      subst (λ (o : Option Generator). AllByRecursion (GivesSome gs) (cons_option (option_map (λ (g : Generator). g.id) o) (ids_of gs places))) (sym one.1)
      (one.2, all_give type places types leads.1)

  pub chain_gives : (from to : List ℕ) (ids : List (List ℕ)) → IsOnlyShortest gs set from to ids → AllByRecursion (GivesSome gs) ids
  chain_gives from to ids is = subst (AllByRecursion (GivesSome gs)) (sym is.named) (all_give from is.places is.shortest.chain.types is.shortest.chain.leads)

-- ---- outputs of a generator's step

map_some : {X Y : Type 0} (f : X → Y) (xs : List X) → xs ≢ [] → map f xs ≢ []
map_some f [] some none = some refl
map_some f (x ∷ xs) some none = let e : length (map f (x ∷ xs)) ≡ 0 = ap length none in absurd (omega (arith, e))

named_some : (named : Output) (outputs : List Output) → outputs ≢ [] → with_named named outputs ≢ []
named_some named [] some none = some refl
named_some named (o ∷ outputs) some none = go (bytes_eq named.file_type o.file_type) none
  where
    go : (b : Bool) → cond b (named ∷ outputs) (o ∷ with_named named outputs) ≡ [] → ⊥
    go true e = let l : length (named ∷ outputs) ≡ 0 = ap length e in absurd (omega (arith, l))
    go false e = let l : length (o ∷ with_named named outputs) ≡ 0 = ap length e in absurd (omega (arith, l))

pub naming_some : (types : List FileType) (gs : List Generator) (id tail : List ℕ) (named : Option Output) → GivesSome gs id → naming named (outputs_of types gs id tail) ≢ []
naming_some types gs id tail None some = map_some _ _ some
naming_some types gs id tail (Some named) some = named_some named (outputs_of types gs id tail) (map_some _ _ some)

-- ---- along a chain

pub along_next : {E : Type 0} (c : Context E) (s : Site) (named : Option Output) (spare id : List ℕ) (more : List (List ℕ)) (ins made : List Entry) (before mid : List Step) (outcome : Outcome E (List Entry))
    → runs c s id ins (naming (if_last more named) (outputs_of c.file_types c.generators id (first_tail spare ins))) before (Ok (made, mid))
    → along c s named spare more made mid outcome → along c s named spare (id ∷ more) ins before outcome
along_next {E} c s named spare id [] ins made before mid outcome first rest = subst (λ (o : Outcome E (List Entry)). runs c s id ins (naming named (outputs_of c.file_types c.generators id (first_tail spare ins))) before o) (sym rest) first
along_next c s named spare id (next ∷ more) ins made before mid outcome first rest = (Ok (made, mid), first, rest)

pub along_refused : {E : Type 0} (c : Context E) (s : Site) (named : Option Output) (spare id : List ℕ) (more : List (List ℕ)) (ins : List Entry) (before : List Step) (fault : Fault E)
    → runs c s id ins (naming (if_last more named) (outputs_of c.file_types c.generators id (first_tail spare ins))) before (Err fault)
    → along c s named spare (id ∷ more) ins before (Err fault)
along_refused c s named spare id [] ins before fault first = first
along_refused c s named spare id (next ∷ more) ins before fault first = (Err fault, first, refl)
