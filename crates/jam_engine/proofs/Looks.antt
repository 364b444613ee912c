-- What is found by looking at files, one look after another.
use Rattle.std.proofs.Common.{◌≡◌, ℕ, Bool, true, false, cond, not, ◌&&◌, ◌||◌, List, [], ◌∷◌, Option, Some, None, Result, Ok, Err, IfOk, is_some, refl, sym, ap, ◌∙◌, subst, ◌⊎◌, inl, inr}
use Rattle.std.specs.FinMap.{get, insert, from_entries, get-insert, get-from_entries}
use Rattle.std.specs.Cmp.Lexicographic.{nat_list_cmp_total}
use Rattle.std.specs.Option.{IfSome, option_map}
use Rattle.std.specs.Str.{bytes_eq}
use Rattle.std.proofs.lemmas.Bool.{true≢false}
use Rattle.std.proofs.lemmas.Map.Text.{is_eq-slice_cmp}
use Rattle.std.proofs.lemmas.Slice.Eq.{bytes_eq-Decides}
use Rattle.std.proofs.lemmas.Option.{same_Some}
use Rattle.b2_base.specs.Segments.{path_from}
use Rattle.b2_host.specs.Disks.{Disk, StatTold}
use Rattle.b2_host.specs.Outside.{Outside, Fails}
use Rattle.jam_journal.specs.Tables.{Text, Names}
use Rattle.jam_journal.specs.Scopes.{Value}
use Rattle.jam_graph.specs.declared.fault.JamFault.{JamFault}
use Rattle.jam_graph.specs.declared.fault.JamFault.TheVariants as faults
use Rattle.jam_graph.specs.declared.graph.Graph.{Graph}
use Rattle.jam_engine.specs.declared.scene.Found.{Found}
use Rattle.jam_engine.specs.declared.scene.Scene.{Scene}
use Rattle.jam_engine.specs.Scenes.{HasPath}
use Rattle.jam_engine.specs.Looking.{Looked, StaysScene, IsAskedOf}
use Rattle.jam_engine.specs.Tables.{is_in, Sees, IsFound, IsIndexOf, IsScene}
use Rattle.jam_engine.specs.Targets.{or_here, is_source_of, is_below_roots, first_source, place_if, is_source, roots}

-- ---- one look after another

-- a failure after looks that changed nothing, whatever is answered
pub fails_on : {A B : Type 0} (P : (Text → Bool) → A → Type 0) (Q : (Text → Bool) → B → Type 0) (a b c : Outside) (e : JamFault) → b ≡ a → Looked b c (Err e) P → Looked a c (Err e) Q
fails_on P Q a b c faults.Host same h = subst (λ o. Fails o c) same h
fails_on P Q a b c faults.OutOfMemory same h = h ∙ same
fails_on P Q a b c (faults.NoFile path) same h = absurd h
fails_on P Q a b c (faults.TooBig path size) same h = absurd h
fails_on P Q a b c (faults.Lex path fault) same h = absurd h
fails_on P Q a b c (faults.Syntax path fault) same h = absurd h
fails_on P Q a b c (faults.Eval fault) same h = absurd h
fails_on P Q a b c (faults.NoTarget name) same h = absurd h
fails_on P Q a b c (faults.MixedNotFile target) same h = absurd h
fails_on P Q a b c (faults.PathClash path) same h = absurd h
fails_on P Q a b c (faults.LocationOutside path) same h = absurd h
fails_on P Q a b c (faults.TooManySteps count) same h = absurd h

-- an answer after looks that changed nothing
pub sees_on : {A : Type 0} (P : (Text → Bool) → A → Type 0) (a b c : Outside) (x : A) → b ≡ a → Looked b c (Ok x) P → (stands : Text → Bool) → Sees a.disk stands → P stands x
sees_on P a b c x same h stands sees = h.1 stands (subst (λ (o : Outside). Sees o.disk stands) (sym same) sees)

pub looked_on : {A : Type 0} (P : (Text → Bool) → A → Type 0) (a b c : Outside) (r : Result A JamFault) → b ≡ a → Looked b c r P → Looked a c r P
looked_on P a b c (Ok x) same h = (h.0 ∙ same, sees_on P a b c x same h)
looked_on P a b c (Err e) same h = fails_on P P a b c e same h

-- what is answered says more
pub looked_as : {A : Type 0} (P Q : (Text → Bool) → A → Type 0) (a c : Outside) (r : Result A JamFault) → ((stands : Text → Bool) (x : A) → P stands x → Q stands x) → Looked a c r P → Looked a c r Q
looked_as P Q a c (Ok x) f h = (h.0, λ stands sees. f stands x (h.1 stands sees))
looked_as P Q a c (Err e) f h = fails_on P Q a a c e refl h

-- ---- one file

some_stamp : {A B : Type 0} (f : A → B) (o : Option A) → is_some (option_map f o) ≡ is_some o
some_stamp f None = refl
some_stamp f (Some x) = refl

stood : (disk : Option Disk) (path : Text) (stamp : Option ℕ) (stands : Text → Bool) → IfSome disk (λ (d : Disk). StatTold path stamp d.now) → Sees disk stands → stands path ≡ is_some stamp
stood None path stamp stands told sees = absurd sees
stood (Some disk) path stamp stands told sees = sees path ∙ sym (some_stamp (λ file. file.stamp) (disk.now path)) ∙ sym (ap is_some told)

-- a file below no root was looked at
pub source_by : (roots : List Text) (path : Text) (disk : Option Disk) (stamp : Option ℕ) (stands : Text → Bool) → is_below_roots roots path ≡ false → IfSome disk (λ (d : Disk). StatTold path stamp d.now) → Sees disk stands
    → is_some stamp ≡ is_source_of roots stands path
source_by under path disk stamp stands out told sees = sym (ap (λ b. not b && stands path) out ∙ stood disk path stamp stands told sees)

-- a file below a root is no source
pub no_source : (roots : List Text) (path : Text) (stands : Text → Bool) → is_below_roots roots path ≡ true → false ≡ is_source_of roots stands path
no_source under path stands below = sym (ap (λ b. not b && stands path) below)

-- ---- the first of some directories

pub source_first : (roots : List Text) (stands : Text → Bool) (dir : Text) (dirs : Value) (name path : Text) → path ≡ path_from (or_here dir) name → is_source_of roots stands path ≡ true → Some path ≡ first_source roots stands (dir ∷ dirs) name
source_first roots stands dir dirs name path is source =
    subst (λ (p : Text). Some path ≡ cond (is_source_of roots stands p) (Some p) (first_source roots stands dirs name)) is
    (sym (ap (λ b. cond b (Some path) (first_source roots stands dirs name)) source))

pub source_later : (roots : List Text) (stands : Text → Bool) (dir : Text) (dirs : Value) (name path : Text) → path ≡ path_from (or_here dir) name → is_source_of roots stands path ≡ false
    → first_source roots stands (dir ∷ dirs) name ≡ first_source roots stands dirs name
source_later roots stands dir dirs name path is source =
    ap (λ b. cond b (Some (path_from (or_here dir) name)) (first_source roots stands dirs name)) (ap (is_source_of roots stands) (sym is) ∙ source)

-- ---- what is found of a text

-- nothing is found yet
pub none_found : (g : Graph) (stands : Text → Bool) (found : Names Found) → found ≡ from_entries [] → (text : Text) (one : Found) → get found text ≡ Some one → IsFound g stands text one
none_found g stands found made text one e = absurd (none_some (sym (ap (λ (m : Names Found). get m text) made ∙ get-from_entries nat_list_cmp_total [] text) ∙ e))
  where
    none_some : None ≡ Some one → ⊥
    none_some f = cc

pub scene_same : (g : Graph) (stands : Text → Bool) (scene : Scene) → StaysScene g stands scene scene
scene_same g stands scene = record { index = refl; roots = refl; so = λ h. h }

pub scene_then : (g : Graph) (stands : Text → Bool) (a b c : Scene) → StaysScene g stands a b → StaysScene g stands b c → StaysScene g stands a c
scene_then g stands a b c one two = record { index = two.index ∙ one.index; roots = two.roots ∙ one.roots; so = λ h. two.so (one.so h) }

-- looks after which what stood of a scene stands
abbrev pub LooksOn : Graph → Outside → Outside → Scene → Scene → Type 0
LooksOn g before after scene later = (after ≡ before) × ((stands : Text → Bool) → Sees before.disk stands → StaysScene g stands scene later)

pub looks_then : (g : Graph) (a b c : Outside) (x y z : Scene) → LooksOn g a b x y → LooksOn g b c y z → LooksOn g a c x z
looks_then g a b c x y z one two = (
  two.0 ∙ one.0,
  λ stands sees. scene_then g stands x y z (one.1 stands sees) (two.1 stands (subst (λ (o : Outside). Sees o.disk stands) (sym one.0) sees)),
)

-- whether a text is asked about
abbrev pub asked_by : Scene → Names Bool → Text → Bool
asked_by scene asked text = is_in scene.index.nocare text || is_in asked text

either_true : (a b : Bool) → (a ≡ true) ⊎ (b ≡ true) → (a || b) ≡ true
either_true true b h = refl
either_true false b (inl e) = absurd (true≢false (sym e))
either_true false b (inr e) = e

-- one more text is found
pub found_more : (g : Graph) (stands : Text → Bool) (asked : Names Bool) (scene after : Scene) (text key : Text) (one : Found) → IsAskedOf g asked → key ≡ text
    → after.index ≡ scene.index → after.roots ≡ scene.roots → after.found ≡ insert scene.found key one
    → one.path ≡ place_if g.world.now scene.roots stands (is_in scene.index.acted text) text → one.is_source ≡ (asked_by scene asked text && is_source_of scene.roots stands one.path)
    → StaysScene g stands scene after
found_more g stands asked scene after text key one all_asked key_is index_is roots_are found_is path source = record {
  index = index_is;
  roots = roots_are;
  so = λ h. record {
    index = subst (λ i. IsIndexOf g i) (sym index_is) h.index;
    roots = roots_are ∙ h.roots;
    found = λ other it e. by h other it (bytes_eq other text) refl (found_there other it e);
  };
}
  where
    found_there : (other : Text) (it : Found) → get after.found other ≡ Some it → cond (bytes_eq other text) (Some one) (get scene.found other) ≡ Some it
    found_there other it e =
        sym (ap (λ (m : Names Found). get m other) (found_is ∙ ap (λ (k : Text). insert scene.found k one) key_is) ∙ get-insert nat_list_cmp_total scene.found text one other
        ∙ ap (λ b. cond b (Some one) (get scene.found other)) (is_eq-slice_cmp other text))
        ∙ e

    is_source_if : IsScene g stands scene → (is_in scene.index.nocare text ≡ true) ⊎ (is_in asked text ≡ true) → one.is_source ≡ is_source g stands one.path
    is_source_if h asks =
        source ∙ ap (λ b. b && is_source_of scene.roots stands one.path) (either_true (is_in scene.index.nocare text) (is_in asked text) asks)
        ∙ ap (λ (r : List Text). is_source_of r stands one.path) h.roots

    its : IsScene g stands scene → IsFound g stands text one
    its h = record {
      path = path ∙ ap (λ (r : List Text). place_if g.world.now r stands (is_in scene.index.acted text) text) h.roots ∙ ap (λ b. place_if g.world.now (roots g) stands b text) (h.index.acted text);
      nocare = λ e. is_source_if h (inl (h.index.nocare text ∙ e));
      asked = λ asks. is_source_if h (inr (all_asked text asks));
    }

    by : IsScene g stands scene → (other : Text) (it : Found) (b : Bool) → bytes_eq other text ≡ b → cond (bytes_eq other text) (Some one) (get scene.found other) ≡ Some it → IsFound g stands other it
    by h other it true same e =
        subst (λ (t : Text). IsFound g stands t it) (sym ((bytes_eq-Decides other text).0 same))
        (subst (λ (f : Found). IsFound g stands text f) (same_Some _ _ (sym (ap (λ b. cond b (Some one) (get scene.found other)) same) ∙ e)) (its h))
    by h other it false other_is e = h.found other it (sym (ap (λ b. cond b (Some one) (get scene.found other)) other_is) ∙ e)

-- ---- the paths of texts

pub path_copied : {E : Type 0} (scene : Scene) (text : Text) (found : Found) (copied : Result Text E) → get scene.found text ≡ Some found → IfOk copied (λ path. path ≡ found.path) → IfOk copied (HasPath scene text)
path_copied scene text found (Ok path) there is = λ g stands h. is ∙ (h.found text found there).path
path_copied scene text found (Err e) there is = tt
