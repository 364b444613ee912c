-- A round more of a loop: an input more read, found by name or joined: for what steps make.
use Rattle.std.proofs.Common.{◌≡◌, ℕ, ◌+◌, ◌<◌, suc, true, false, cond, not, List, ◌∷◌, [], ◌++◌, length, take, drop, map, get_or, codes, Option, None, Some, refl, ap, sym, ◌∙◌, add-one, arith}
use Rattle.std.specs.Borrow.{Bor}
use Rattle.std.specs.Option.{option_map_or, option_to_list}
use Rattle.std.specs.List.{flat_map, prefix_len, cons_option}
use Rattle.std.specs.Str.{bytes_eq}
use Rattle.std.proofs.Math.Seq.{drop-cons}
use Rattle.std.specs.Ordering.{nat_cmp}
use Rattle.std.specs.Cmp.Lexicographic.{slice_cmp}
use Rattle.std.specs.BTreeMap.{get_by, Updates}
use Rattle.std.proofs.lemmas.Map.Text.{btree_map_updates_str}
use Rattle.std.proofs.lemmas.List.{take_more, map_more}
use Rattle.std.proofs.lemmas.List.Sums.{fold-append}
use Rattle.std.proofs.lemmas.List.Elements.{filter_map-append}
use Rattle.std.proofs.lemmas.Grind.{flat_map-append}
use Rattle.b2_base.specs.Segments.{texts}
use Rattle.b2_files.specs.declared.file_bytes.FileBytes.{FileBytes}
use Rattle.b2_host.specs.Disks.{Folder}
use Rattle.b2_host.specs.ChildProcesses.{read_at, read_all}
use Rattle.b2_files.specs.Stores.{write_of}
use Rattle.b2_memory.specs.Results.{bytes_named, joined}
use Rattle.b2_memory.specs.NamedBytes.{Found, ref_cmp, bytes_found}

-- one input more that is held
pub read_more : (folder : Folder) (ins : List (List ℕ)) (i : ℕ) (d : List ℕ) → i < length ins → read_all folder (take (i + 1) ins) ≡ read_all folder (take i ins) ++ option_to_list (read_at folder (get_or ins i d))
read_more folder ins i d h =
    ap (read_all folder) (take_more ins i d h)
    ∙ filter_map-append (read_at folder) (take i ins) (get_or ins i d ∷ [])
    ∙ ap (λ xs. read_all folder (take i ins) ++ xs) (single (read_at folder (get_or ins i d)))
  where
    single : {X : Type 0} (o : Option X) → cons_option o [] ≡ option_to_list o
    single None = refl
    single (Some x) = refl

-- ---- the input with a name

-- one input more
named_more : (held : List FileBytes) (i : ℕ) (d : FileBytes) (name : List ℕ) → i < length held → bytes_named (map write_of (take (i + 1) held)) name ≡ cond (bytes_eq (get_or held i d).path name) (get_or held i d).bytes.value.items (bytes_named (map write_of (take i held)) name)
named_more held i d name h =
    let pick : List ℕ → List ℕ × List ℕ → List ℕ = λ found input. cond (bytes_eq input.0 name) input.1 found in
    ap (λ ws. bytes_named ws name) (map_more write_of held i d h) ∙ fold-append pick [] (map write_of (take i held)) (write_of (get_or held i d) ∷ [])

-- one input more put into the map
pub found_more : (m n : Found) (bs cs : List ℕ) (key value : Bor (List ℕ)) → Updates ref_cmp m n key (Some value) → key.now ≡ bs → value.now ≡ cs → (name : List ℕ) → bytes_found n name ≡ cond (bytes_eq bs name) cs (bytes_found m name)
found_more m n bs cs key value u e v name =
    ap (λ o. option_map_or (λ b. b.now) o []) (btree_map_updates_str key.now m n (Some value) u name)
    ∙ elim (bytes_eq key.now name) as (λ b. option_map_or (λ (x : Bor (List ℕ)). x.now) (cond b (Some value) (get_by (λ k. slice_cmp nat_cmp name k.now) m)) [] ≡ cond b value.now (bytes_found m name)) [ true ↦ refl | false ↦ refl ]
    ∙ ap (λ k. cond (bytes_eq k name) value.now (bytes_found m name)) e
    ∙ ap (λ c. cond (bytes_eq bs name) c (bytes_found m name)) v

pub by_name_more : (held : List FileBytes) (i : ℕ) (x : FileBytes) (m n : Found) (key value : Bor (List ℕ)) → i < length held → x ≡ get_or held i x → Updates ref_cmp m n key (Some value) → key.now ≡ x.path → value.now ≡ x.bytes.value.items
    → ((name : List ℕ) → bytes_found m name ≡ bytes_named (map write_of (take i held)) name) → (name : List ℕ) → bytes_found n name ≡ bytes_named (map write_of (take (i + 1) held)) name
by_name_more held i x m n key value low is u e v so_far name =
    found_more m n x.path x.bytes.value.items key value u e v name
    ∙ ap (cond (bytes_eq x.path name) x.bytes.value.items) (so_far name)
    ∙ ap (λ (y : FileBytes). cond (bytes_eq y.path name) y.bytes.value.items (bytes_named (map write_of (take i held)) name)) is
    ∙ sym (named_more held i x name low)

-- ---- joining

joined_cons : (held : List (List ℕ × List ℕ)) (name : List ℕ) (names : List (List ℕ)) → joined held (name ∷ names) ≡ cond (bytes_eq name (codes ">")) [] (bytes_named held name ++ joined held names)
joined_cons held name names =
    elim (bytes_eq name (codes ">")) as (λ b. flat_map (bytes_named held) (take (cond (not b) (1 + before) 0) (name ∷ names)) ≡ cond b [] (bytes_named held name ++ joined held names)) [
      | true ↦ refl
      | false ↦ ap (λ k. flat_map (bytes_named held) (take k (name ∷ names))) one_more
    ]
  where
    before : ℕ
    before = prefix_len (λ n. not (bytes_eq n (codes ">"))) names

    one_more : 1 + before ≡ suc before
    one_more = omega arith

join_here : (held : List (List ℕ × List ℕ)) (names : List (Bor (List ℕ))) (i : ℕ) (d : Bor (List ℕ)) → i < length names → joined held (texts (drop i names)) ≡ cond (bytes_eq (get_or names i d).now (codes ">")) [] (bytes_named held (get_or names i d).now ++ joined held (texts (drop (i + 1) names)))
join_here held names i d h =
    ap (λ xs. joined held (texts xs)) (drop-cons names i d h)
    ∙ joined_cons held (get_or names i d).now (texts (drop (suc i) names))
    ∙ ap (λ k. cond (bytes_eq (get_or names i d).now (codes ">")) [] (bytes_named held (get_or names i d).now ++ joined held (texts (drop k names)))) (sym (add-one i))

pub join_goes_on : (held : List (List ℕ × List ℕ)) (names : List (Bor (List ℕ))) (i : ℕ) (d : Bor (List ℕ)) → i < length names → bytes_eq (get_or names i d).now (codes ">") ≡ false → joined held (texts (drop i names)) ≡ bytes_named held (get_or names i d).now ++ joined held (texts (drop (i + 1) names))
join_goes_on held names i d h e = join_here held names i d h ∙ ap (λ b. cond b [] (bytes_named held (get_or names i d).now ++ joined held (texts (drop (i + 1) names)))) e
