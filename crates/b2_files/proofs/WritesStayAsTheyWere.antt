-- Where buffers keep their bytes, versions are the same writes; also a name that is added for a file that stands.
use Rattle.std.proofs.Common.{◌≡◌, ℕ, ◌<◌, true, List, [], ◌∷◌, ◌++◌, get_or, length, Option, None, Some, is_some, inl, refl, ap, ap₂, sym, ◌∙◌}
use Rattle.std.specs.Option.{option_map}
use Rattle.std.proofs.lemmas.List.{get_or-map}
use Rattle.b2_host.specs.Disks.{File, Folder}
use Rattle.b2_files.specs.declared.version.Version.{Version}
use Rattle.b2_files.specs.Buffers.{is_within, Keeps}
use Rattle.b2_files.specs.Names.{IsNameIn, lead_in, AddsName}
use Rattle.b2_files.specs.Stores.{write_in, writes_in, all_within}
use Rattle.b2_files.proofs.KnownPathsStayKnown.{both, and_true}

-- what was written stays as it is
pub keep_writes : (bs cs : List (List ℕ)) (vs : List Version) → Keeps bs cs → all_within bs vs ≡ true → writes_in cs vs ≡ writes_in bs vs
keep_writes bs cs [] k h = refl
keep_writes bs cs (v ∷ vs) k h =
    let parts = both (is_within bs v.content) (all_within bs vs) h in
    ap₂ (λ b ws. (v.path, b) ∷ ws) (k.bytes v.content parts.0) (keep_writes bs cs vs k parts.1)

pub keep_within : (bs cs : List (List ℕ)) (vs : List Version) → Keeps bs cs → all_within bs vs ≡ true → all_within cs vs ≡ true
keep_within bs cs [] k h = refl
keep_within bs cs (v ∷ vs) k h =
    let parts = both (is_within bs v.content) (all_within bs vs) h in
    and_true (is_within cs v.content) (all_within cs vs) (k.within v.content parts.0) (keep_within bs cs vs k parts.1)

-- a version at a place as a write
pub write_here : (bs : List (List ℕ)) (vs : List Version) (place : ℕ) (v : Version) → place < length vs → v ≡ get_or vs place v → write_in bs v ≡ get_or (writes_in bs vs) place (write_in bs v)
write_here bs vs place v low is = sym (get_or-map (write_in bs) vs place v (write_in bs v) low ∙ ap (write_in bs) (sym is))

-- the name of a file that stands was added
pub adds : (folder : Folder) (dir path name : List ℕ) (old new : List (List ℕ)) (r : Option ℕ) → r ≡ option_map (λ file. file.stamp) (folder path) → is_some r ≡ true → IsNameIn path dir name → path ≡ lead_in dir ++ name → new ≡ old ++ name ∷ [] → AddsName folder dir path old new
adds folder dir path name old new r told there is text e = go (folder path) refl told
  where
    go : (o : Option File) → folder path ≡ o → r ≡ option_map (λ file. file.stamp) o → AddsName folder dir path old new
    go None at h = absurd (let none : is_some r ≡ is_some {T = ℕ} None = ap is_some h in cc)
    go (Some file) at h = inl (name, file, at, is, text, e)
