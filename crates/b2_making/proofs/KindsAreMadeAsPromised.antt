-- What the parts of each kind promise together.
use Rattle.std.proofs.Common.{◌≡◌, ℕ, Bool, not, cond, true, List, [], ◌∷◌, ◌++◌, Option, Some, None, Result, Ok, Err, sym, ap, subst}
use Rattle.std.specs.Prelude.{codes}
use Rattle.std.specs.List.{filter, find}
use Rattle.std.specs.Option.{option_map_or}
use Rattle.b2_plan.specs.declared.step.Step.{Step}
use Rattle.b2_declaring_calls.specs.declared.declaration.Kind.{Kind}
use Rattle.b2_declaring_calls.specs.declared.declaration.Kind.TheVariants.{Alias}
use Rattle.b2_evaluator.specs.Answers.{Answers}
use Rattle.b2_making.specs.declared.setting.Setting.{Setting}
use Rattle.b2_making.specs.declared.site.Site as code
use Rattle.b2_virtual.specs.declared.entry.Entry.{Entry}
use Rattle.b2_virtual.specs.declared.entry.Supply.{Supply}
use Rattle.b2_making.specs.declared.output.Output.{Output}
use Rattle.b2_making.specs.declared.fault.MakingFault.{MakingFault}
use Rattle.b2_making.specs.declared.fault.MakingFault.TheVariants.{OutOfMemory}
use Rattle.b2_making.specs.Acts.{Outcome, Act, gives, and_then, for_all}
use Rattle.b2_making.specs.Contexts.{Context, Site, context_of, site_of}
use Rattle.b2_virtual.specs.Supplies.{is_of, is_header, entries_of, carried_of, libraries_of}
use Rattle.b2_making.specs.Steps.{runs}
use Rattle.b2_making.specs.MakingParts.{Alone, Did}
use Rattle.b2_making.specs.Conversions.{chains, along, to_objects, linked, links, to_convert, program, library_file, is_shared, named_file, makes_objects, makes_program, makes_library, makes_file, makes_kind, makes}
use Rattle.b2_making.proofs.PromisesCompose.{grows_none, leaves_none, alone_did, did_memory, did_as, did_first, did_then, did_gives}

module _ {S E K : Type 0} (answers : S → Option (Answers E)) (kept : S → K) (faults : S → ℕ) (is_host is_memory : E → Bool) (CanFault : K → E → Type 0) (setting : Setting) (site : code.Site) where
  abbrev Part : {A : Type 0} → (Context E → Site → Act E A) → S → S → List Step → List Step → Result A (MakingFault E) → Type 0
  Part act old new before after r = Did answers kept faults is_host is_memory CanFault act setting site old new before after r

  -- a chain, and what follows
  chained : {A : Type 0} (from to : List ℕ) (next : List (List ℕ) → Context E → Site → Act E A) (ids list : List (List ℕ)) (old new : S) (before after : List Step) (r : Result A (MakingFault E)) → list ≡ ids
      → Alone {E = E} (λ c s. chains c.generators s.set from to) setting site before before (Ok ids) → Part (next list) old new before after r
      → Part (λ c s. and_then (chains c.generators s.set from to) (λ given. next given c s)) old new before after r
  chained from to next ids list old new before after r same chain did =
      did_then answers kept faults is_host is_memory CanFault setting site (λ c s. chains c.generators s.set from to) next old old new before before after list r
      (alone_did answers kept faults is_host is_memory CanFault setting site (λ c s. chains c.generators s.set from to) old before before (let x : Result (List (List ℕ)) (MakingFault E) = Ok list in x)
      (subst (λ (xs : List (List ℕ)). Alone {E = E} (λ c s. chains c.generators s.set from to) setting site before before (let x : Result (List (List ℕ)) (MakingFault E) = Ok xs in x)) (sym same) chain) (grows_none setting.roots.now before)) did

  unchained : {A : Type 0} (from to : List ℕ) (next : List (List ℕ) → Context E → Site → Act E A) (f : MakingFault E) (old : S) (before : List Step)
      → Alone {E = E} (λ c s. chains c.generators s.set from to) setting site before before (Err f) → Part (λ c s. and_then (chains c.generators s.set from to) (λ given. next given c s)) old old before before (Err f)
  unchained from to next f old before chain =
      did_first answers kept faults is_host is_memory CanFault setting site (λ c s. chains c.generators s.set from to) next old old before before f
      (alone_did answers kept faults is_host is_memory CanFault setting site (λ c s. chains c.generators s.set from to) old before before (let x : Result (List (List ℕ)) (MakingFault E) = Err f in x) chain (grows_none setting.roots.now before))

  -- ---- a source

  abbrev object_steps : Entry → List (List ℕ) → Context E → Site → Act E (List Entry)
  object_steps e ids c s = and_then (along c s None e.tail ids (e ∷ [])) (λ made. gives (filter (is_of (codes "OBJ")) made))

  pub source_unchained : (e : Entry) (f : MakingFault E) (old : S) (before : List Step) → Alone {E = E} (λ c s. chains c.generators s.set e.file_type (codes "OBJ")) setting site before before (Err f) → Part (λ c s. to_objects c s e) old old before before (Err f)
  source_unchained e f old before chain = unchained e.file_type (codes "OBJ") (object_steps e) f old before chain

  pub source_refused : (e : Entry) (ids list : List (List ℕ)) (ins : List Entry) (f : MakingFault E) (old new : S) (before after : List Step) → list ≡ ids → ins ≡ e ∷ []
      → Alone {E = E} (λ c s. chains c.generators s.set e.file_type (codes "OBJ")) setting site before before (Ok ids)
      → Part (λ c s. along c s None e.tail list ins) old new before after (Err f) → Part (λ c s. to_objects c s e) old new before after (Err f)
  source_refused e ids list ins f old new before after same one chain did =
      chained e.file_type (codes "OBJ") (object_steps e) ids list old new before after (Err f) same chain
      (did_first answers kept faults is_host is_memory CanFault setting site (λ c s. along c s None e.tail list (e ∷ [])) (λ made c s. gives (filter (is_of (codes "OBJ")) made)) old new before after f
      (subst (λ (es : List Entry). Part (λ c s. along c s None e.tail list es) old new before after (let x : Result (List Entry) (MakingFault E) = Err f in x)) one did))

  pub source_made : (e : Entry) (ids list : List (List ℕ)) (ins made objects : List Entry) (old new : S) (before after : List Step) → list ≡ ids → ins ≡ e ∷ [] → objects ≡ filter (is_of (codes "OBJ")) made
      → Alone {E = E} (λ c s. chains c.generators s.set e.file_type (codes "OBJ")) setting site before before (Ok ids)
      → Part (λ c s. along c s None e.tail list ins) old new before after (Ok made) → Part (λ c s. to_objects c s e) old new before after (Ok objects)
  source_made e ids list ins made objects old new before after same one is chain did =
      chained e.file_type (codes "OBJ") (object_steps e) ids list old new before after (Ok objects) same chain
      (did_gives answers kept faults is_host is_memory CanFault setting site (λ c s. along c s None e.tail list (e ∷ [])) (λ s given. filter (is_of (codes "OBJ")) given) old new before after made objects is
      (subst (λ (es : List Entry). Part (λ c s. along c s None e.tail list es) old new before after (let x : Result (List Entry) (MakingFault E) = Ok made in x)) one did))

  -- ---- a named output

  abbrev link_steps : Output → List Entry → List (List ℕ) → Context E → Site → Act E (List Entry)
  link_steps named ins ids c s = and_then (along c s (Some named) named.tail ids ins) (λ made. gives (option_map_or (λ e. e ∷ []) (find (is_of named.file_type) made) []))

  pub link_unchained : (named : Output) (ins : List Entry) (f : MakingFault E) (old : S) (before : List Step) → Alone {E = E} (λ c s. chains c.generators s.set (codes "OBJ") named.file_type) setting site before before (Err f) → Part (λ c s. linked c s named ins) old old before before (Err f)
  link_unchained named ins f old before chain = unchained (codes "OBJ") named.file_type (link_steps named ins) f old before chain

  pub link_refused : (named : Output) (ins : List Entry) (ids list : List (List ℕ)) (f : MakingFault E) (old new : S) (before after : List Step) → list ≡ ids
      → Alone {E = E} (λ c s. chains c.generators s.set (codes "OBJ") named.file_type) setting site before before (Ok ids)
      → Part (λ c s. along c s (Some named) named.tail list ins) old new before after (Err f) → Part (λ c s. linked c s named ins) old new before after (Err f)
  link_refused named ins ids list f old new before after same chain did =
      chained (codes "OBJ") named.file_type (link_steps named ins) ids list old new before after (Err f) same chain
      (did_first answers kept faults is_host is_memory CanFault setting site (λ c s. along c s (Some named) named.tail list ins) (λ made c s. gives (option_map_or (λ e. e ∷ []) (find (is_of named.file_type) made) [])) old new before after f did)

  pub link_made : (named : Output) (ins : List Entry) (ids list : List (List ℕ)) (made entries : List Entry) (old new : S) (before after : List Step) → list ≡ ids → entries ≡ option_map_or (λ e. e ∷ []) (find (is_of named.file_type) made) []
      → Alone {E = E} (λ c s. chains c.generators s.set (codes "OBJ") named.file_type) setting site before before (Ok ids)
      → Part (λ c s. along c s (Some named) named.tail list ins) old new before after (Ok made) → Part (λ c s. linked c s named ins) old new before after (Ok entries)
  link_made named ins ids list made entries old new before after same is chain did =
      chained (codes "OBJ") named.file_type (link_steps named ins) ids list old new before after (Ok entries) same chain
      (did_gives answers kept faults is_host is_memory CanFault setting site (λ c s. along c s (Some named) named.tail list ins) (λ s given. option_map_or (λ e. e ∷ []) (find (is_of named.file_type) given) []) old new before after made entries is did)

  -- ---- sources, then a named output

  -- what sources become, where they are those that are converted
  converted_all : (sources : List Entry) (old new : S) (before after : List Step) (r : Result (List Entry) (MakingFault E)) → sources ≡ to_convert (site_of site) → Part (λ c s. for_all (to_objects c s) sources) old new before after r
      → Part (λ c s. for_all (to_objects c s) (to_convert s)) old new before after r
  converted_all sources old new before after r is did =
      did_as answers kept faults is_host is_memory CanFault setting site (λ c s. for_all (to_objects c s) sources) (λ c s. for_all (to_objects c s) (to_convert s)) old new before after r
      (λ told outcome here. subst (λ (es : List Entry). for_all (to_objects (context_of told setting) (site_of site)) es before outcome) is here) did

  abbrev rest : Output → Bool → List Entry → Context E → Site → Act E (List Entry)
  rest named with_libraries made c s = linked c s named (made ++ cond with_libraries (libraries_of s.parts) [])

  pub links_refused : (named : Output) (with_libraries : Bool) (sources : List Entry) (f : MakingFault E) (old new : S) (before after : List Step) → sources ≡ to_convert (site_of site)
      → Part (λ c s. for_all (to_objects c s) sources) old new before after (Err f) → Part (λ c s. links c s named with_libraries) old new before after (Err f)
  links_refused named with_libraries sources f old new before after is did =
      did_first answers kept faults is_host is_memory CanFault setting site (λ c s. for_all (to_objects c s) (to_convert s)) (rest named with_libraries) old new before after f
      (converted_all sources old new before after (Err f) is did)

  pub links_then : (named : Output) (with_libraries : Bool) (sources objects ins : List Entry) (old mid new : S) (before between after : List Step) (r : Result (List Entry) (MakingFault E)) → sources ≡ to_convert (site_of site)
      → ins ≡ objects ++ cond with_libraries (libraries_of site.parts.now) [] → Part (λ c s. for_all (to_objects c s) sources) old mid before between (Ok objects) → Part (λ c s. linked c s named ins) mid new between after r
      → Part (λ c s. links c s named with_libraries) old new before after r
  links_then named with_libraries sources objects ins old mid new before between after r is all did rest_did =
      did_then answers kept faults is_host is_memory CanFault setting site (λ c s. for_all (to_objects c s) (to_convert s)) (rest named with_libraries) old mid new before between after objects r
      (converted_all sources old mid before between (Ok objects) is did)
      (did_as answers kept faults is_host is_memory CanFault setting site (λ c s. linked c s named ins) (rest named with_libraries objects) mid new between after r
      (λ told outcome here. subst (λ (es : List Entry). linked (context_of told setting) (site_of site) named es between outcome) all here) rest_did)

  -- ---- kinds

  -- `obj`
  object_sources : (sources : List Entry) (old new : S) (before after : List Step) (r : Result (List Entry) (MakingFault E)) → sources ≡ filter (λ e. not (is_header e)) (entries_of site.sources.now)
      → Part (λ c s. for_all (to_objects c s) sources) old new before after r → Part (λ c s. for_all (to_objects c s) (filter (λ e. not (is_header e)) (entries_of s.sources))) old new before after r
  object_sources sources old new before after r is did =
      did_as answers kept faults is_host is_memory CanFault setting site (λ c s. for_all (to_objects c s) sources) (λ c s. for_all (to_objects c s) (filter (λ e. not (is_header e)) (entries_of s.sources))) old new before after r
      (λ told outcome here. subst (λ (es : List Entry). for_all (to_objects (context_of told setting) (site_of site)) es before outcome) is here) did

  pub objects_refused : (sources : List Entry) (f : MakingFault E) (old new : S) (before after : List Step) → sources ≡ filter (λ e. not (is_header e)) (entries_of site.sources.now)
      → Part (λ c s. for_all (to_objects c s) sources) old new before after (Err f) → Part makes_objects old new before after (Err f)
  objects_refused sources f old new before after is did =
      did_first answers kept faults is_host is_memory CanFault setting site (λ c s. for_all (to_objects c s) (filter (λ e. not (is_header e)) (entries_of s.sources))) (λ made c s. gives (record { entries = made; carried = [] })) old new before after f
      (object_sources sources old new before after (Err f) is did)

  pub objects_made : (sources made : List Entry) (given : Supply) (old new : S) (before after : List Step) → sources ≡ filter (λ e. not (is_header e)) (entries_of site.sources.now) → given ≡ record { entries = made; carried = [] }
      → Part (λ c s. for_all (to_objects c s) sources) old new before after (Ok made) → Part makes_objects old new before after (Ok given)
  objects_made sources made given old new before after is are did =
      did_gives answers kept faults is_host is_memory CanFault setting site (λ c s. for_all (to_objects c s) (filter (λ e. not (is_header e)) (entries_of s.sources))) (λ s es. record { entries = es; carried = [] }) old new before after made given are
      (object_sources sources old new before after (Ok made) is did)

  -- `exe`
  program_links : (named : Output) (old new : S) (before after : List Step) (r : Result (List Entry) (MakingFault E)) → named ≡ program (site_of site) → Part (λ c s. links c s named true) old new before after r → Part (λ c s. links c s (program s) true) old new before after r
  program_links named old new before after r is did =
      did_as answers kept faults is_host is_memory CanFault setting site (λ c s. links c s named true) (λ c s. links c s (program s) true) old new before after r
      (λ told outcome here. subst (λ (o : Output). links (context_of told setting) (site_of site) o true before outcome) is here) did

  pub program_refused : (named : Output) (f : MakingFault E) (old new : S) (before after : List Step) → named ≡ program (site_of site) → Part (λ c s. links c s named true) old new before after (Err f) → Part makes_program old new before after (Err f)
  program_refused named f old new before after is did =
      did_first answers kept faults is_host is_memory CanFault setting site (λ c s. links c s (program s) true) (λ made c s. gives (record { entries = made; carried = [] })) old new before after f
      (program_links named old new before after (Err f) is did)

  pub program_made : (named : Output) (made : List Entry) (given : Supply) (old new : S) (before after : List Step) → named ≡ program (site_of site) → given ≡ record { entries = made; carried = [] }
      → Part (λ c s. links c s named true) old new before after (Ok made) → Part makes_program old new before after (Ok given)
  program_made named made given old new before after is are did =
      did_gives answers kept faults is_host is_memory CanFault setting site (λ c s. links c s (program s) true) (λ s es. record { entries = es; carried = [] }) old new before after made given are
      (program_links named old new before after (Ok made) is did)

  -- `lib`
  library_links : (named : Output) (shared : Bool) (old new : S) (before after : List Step) (r : Result (List Entry) (MakingFault E)) → named ≡ library_file setting.types.now.types (site_of site) → shared ≡ is_shared (site_of site)
      → Part (λ c s. links c s named shared) old new before after r → Part (λ c s. links c s (library_file c.file_types s) (is_shared s)) old new before after r
  library_links named shared old new before after r is test did =
      did_as answers kept faults is_host is_memory CanFault setting site (λ c s. links c s named shared) (λ c s. links c s (library_file c.file_types s) (is_shared s)) old new before after r
      (λ told outcome here. subst (λ (o : Output). links (context_of told setting) (site_of site) o (is_shared (site_of site)) before outcome) is (subst (λ (b : Bool). links (context_of told setting) (site_of site) named b before outcome) test here)) did

  pub library_refused : (named : Output) (shared : Bool) (f : MakingFault E) (old new : S) (before after : List Step) → named ≡ library_file setting.types.now.types (site_of site) → shared ≡ is_shared (site_of site)
      → Part (λ c s. links c s named shared) old new before after (Err f) → Part makes_library old new before after (Err f)
  library_refused named shared f old new before after is test did =
      did_first answers kept faults is_host is_memory CanFault setting site (λ c s. links c s (library_file c.file_types s) (is_shared s)) (λ made c s. gives (record { entries = made; carried = libraries_of s.parts })) old new before after f
      (library_links named shared old new before after (Err f) is test did)

  pub library_made : (named : Output) (shared : Bool) (made carried : List Entry) (old new : S) (before after : List Step) → named ≡ library_file setting.types.now.types (site_of site) → shared ≡ is_shared (site_of site)
      → carried ≡ libraries_of site.parts.now → Part (λ c s. links c s named shared) old new before after (Ok made) → Part makes_library old new before after (Ok (record { entries = made; carried = carried }))
  library_made named shared made carried old new before after is test are did =
      did_gives answers kept faults is_host is_memory CanFault setting site (λ c s. links c s (library_file c.file_types s) (is_shared s)) (λ s es. record { entries = es; carried = libraries_of s.parts }) old new before after made (record { entries = made; carried = carried })
      (ap (λ (ls : List Entry). let x : Supply = record { entries = made; carried = ls } in x) are)
      (library_links named shared old new before after (Ok made) is test did)

  pub library_memory : (named : Output) (shared : Bool) (made : List Entry) (old new : S) (before after : List Step) → Part (λ c s. links c s named shared) old new before after (Ok made) → Part makes_library old new before after (Err OutOfMemory)
  library_memory named shared made old new before after did = did_memory answers kept faults is_host is_memory CanFault setting site (λ c s. links c s named shared) makes_library old new before after made did

  -- `make`
  file_runs : (ins : List Entry) (outputs : List Output) (old new : S) (before after : List Step) (r : Result (List Entry) (MakingFault E)) → ins ≡ entries_of site.parts.now → outputs ≡ named_file setting.types.now.types (site_of site) ∷ []
      → Part (λ c s. runs c s site.rule.now ins outputs) old new before after r → Part (λ c s. runs c s s.rule (entries_of s.parts) (named_file c.file_types s ∷ [])) old new before after r
  file_runs ins outputs old new before after r is are did =
      did_as answers kept faults is_host is_memory CanFault setting site (λ c s. runs c s site.rule.now ins outputs) (λ c s. runs c s s.rule (entries_of s.parts) (named_file c.file_types s ∷ [])) old new before after r
      (λ told outcome here.
      subst (λ (es : List Entry). runs (context_of told setting) (site_of site) site.rule.now es (named_file setting.types.now.types (site_of site) ∷ []) before outcome) is
      (subst (λ (os : List Output). runs (context_of told setting) (site_of site) site.rule.now ins os before outcome) are here)) did

  pub file_refused : (ins : List Entry) (outputs : List Output) (f : MakingFault E) (old new : S) (before after : List Step) → ins ≡ entries_of site.parts.now → outputs ≡ named_file setting.types.now.types (site_of site) ∷ []
      → Part (λ c s. runs c s site.rule.now ins outputs) old new before after (Err f) → Part makes_file old new before after (Err f)
  file_refused ins outputs f old new before after is are did =
      did_first answers kept faults is_host is_memory CanFault setting site (λ c s. runs c s s.rule (entries_of s.parts) (named_file c.file_types s ∷ [])) (λ made c s. gives (record { entries = made; carried = [] })) old new before after f
      (file_runs ins outputs old new before after (Err f) is are did)

  pub file_made : (ins : List Entry) (outputs : List Output) (made : List Entry) (given : Supply) (old new : S) (before after : List Step) → ins ≡ entries_of site.parts.now → outputs ≡ named_file setting.types.now.types (site_of site) ∷ []
      → given ≡ record { entries = made; carried = [] } → Part (λ c s. runs c s site.rule.now ins outputs) old new before after (Ok made) → Part makes_file old new before after (Ok given)
  file_made ins outputs made given old new before after is are same did =
      did_gives answers kept faults is_host is_memory CanFault setting site (λ c s. runs c s s.rule (entries_of s.parts) (named_file c.file_types s ∷ [])) (λ s es. record { entries = es; carried = [] }) old new before after made given same
      (file_runs ins outputs old new before after (Ok made) is are did)

  -- ---- all kinds

  pub kind_is : (kind : Kind) (old new : S) (before after : List Step) (r : Result Supply (MakingFault E)) → site.kind ≡ kind → Part (λ c s. makes_kind c kind s) old new before after r → Part makes old new before after r
  kind_is kind old new before after r is did =
      did_as answers kept faults is_host is_memory CanFault setting site (λ c s. makes_kind c kind s) makes old new before after r
      (λ told outcome here. subst (λ (k : Kind). makes_kind (context_of told setting) k (site_of site) before outcome) (sym is) here) did

  -- `alias`
  pub passed : (given : Supply) (old : S) (before : List Step) → given ≡ record { entries = entries_of site.parts.now; carried = carried_of site.parts.now } → Part (λ c s. makes_kind c Alias s) old old before before (Ok given)
  passed given old before is = record {
    exact = λ told t. ap (λ (x : Supply). let o : Outcome E Supply = Ok (x, before) in o) is;
    leaves = leaves_none answers kept faults is_host is_memory CanFault old (let x : Result Supply (MakingFault E) = Ok given in x) tt;
    grows = grows_none setting.roots.now before;
  }
