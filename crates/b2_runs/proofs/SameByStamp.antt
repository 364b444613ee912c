use Rattle.std.proofs.Common.{◌≡◌, ℕ, List, [], ◌∷◌, inl, inr, refl, sym, ap, subst, subst₂, ◌∙◌, Option, Some, None, map, option_map}
use Rattle.std.specs.List.{Contains, AllZip}
use Rattle.b2_host.specs.Disks.{File, Folder, Past, Stood, IsOneEach, bytes_at}
use Rattle.b2_plan.specs.Closures.{Value, with_bytes}
use Rattle.b2_runs.specs.Logs.{InputStood}
use Rattle.b2_host.specs.FileCalls.{stamp_at}
use Rattle.b2_runs.specs.Staleness.{AreStamped, path_in}
use Rattle.b2_runs.specs.Soundness.{Holds}
use Rattle.b2_runs.proofs.FirstElementOrLater.{Contains_here, Contains_there, Contains_cases, Contains_nil}

-- a file by its stamp and its bytes
pub whole_file : (folder : Folder) (path : List ℕ) (stamp : ℕ) (bytes : List ℕ) → stamp_at folder path ≡ Some stamp → bytes_at folder path ≡ Some bytes → folder path ≡ Some (record { stamp = stamp; bytes = bytes })
whole_file folder path stamp bytes s b = go (folder path) s b
  where
    go : (o : Option File) → option_map (λ file. file.stamp) o ≡ Some stamp → option_map (λ file. file.bytes) o ≡ Some bytes → o ≡ Some (record { stamp = stamp; bytes = bytes })
    go None e f = absurd (let g : None ≡ Some stamp = e in cc)
    go (Some file) e f =
        let p : file.stamp ≡ stamp = (let g : Some file.stamp ≡ Some stamp = e in cc) in
        let q : file.bytes ≡ bytes = (let g : Some file.bytes ≡ Some bytes = f in cc) in
        λ i. Some (record { stamp = p i; bytes = q i })

-- where a stamp is told, a file stands
pub stamped_file : (folder : Folder) (path : List ℕ) (stamp : ℕ) → stamp_at folder path ≡ Some stamp → (file : File) × (folder path ≡ Some file) × (file.stamp ≡ stamp)
stamped_file folder path stamp s = go (folder path) s
  where
    go : (o : Option File) → option_map (λ file. file.stamp) o ≡ Some stamp → (file : File) × (o ≡ Some file) × (file.stamp ≡ stamp)
    go None e = absurd (let g : None ≡ Some stamp = e in cc)
    go (Some file) e = (file, refl, (let g : Some file.stamp ≡ Some stamp = e in cc))

-- a value stands where the same file stands
pub holds_same : (now later : Folder) (path : List ℕ) (value : Value) → later path ≡ now path → Holds now path value → Holds later path value
holds_same now later path None e h = h
holds_same now later path (Some bytes) e h = ap (option_map (λ (file : File). file.bytes)) e ∙ h

-- a member that is named with bytes has them
pub with_bytes_in : (members : List (List ℕ × Value)) (path bytes : List ℕ) → Contains (with_bytes members) (path, bytes) → Contains members (path, Some bytes)
with_bytes_in [] path bytes c = absurd (Contains_nil (path, bytes) c)
with_bytes_in ((p, None) ∷ ms) path bytes c = Contains_there (p, None) (path, Some bytes) ms (with_bytes_in ms path bytes c)
with_bytes_in ((p, Some x) ∷ ms) path bytes c = elim (Contains_cases (p, x) (path, bytes) (with_bytes ms) c) [
  | inl e ↦ subst (λ m. Contains ((p, Some x) ∷ ms) (m.0, Some m.1)) e (Contains_here (p, Some x) ms)
  | inr d ↦ Contains_there (p, Some x) (path, Some bytes) ms (with_bytes_in ms path bytes d)
]

-- a path that is named with bytes is that of a member
pub path_in_back : (inputs : List (List ℕ × List ℕ)) (path : List ℕ) → Contains (map path_in inputs) path → (bytes : List ℕ) × Contains inputs (path, bytes)
path_in_back [] path c = absurd (Contains_nil path c)
path_in_back (w ∷ ws) path c = elim (Contains_cases w.0 path (map path_in ws) c) [
  | inl e ↦ (w.1, subst (λ p. Contains (w ∷ ws) (p, w.1)) e (Contains_here w ws))
  | inr d ↦ let (bytes, there) = path_in_back ws path d in (bytes, Contains_there w (path, bytes) ws there)
]

-- the inputs that a true record names, where they stand with these stamps
pub same_held : (past : List Past) (folder : Folder) → IsOneEach past → ((path : List ℕ) (file : File) → folder path ≡ Some file → Stood past path file)
    → (inputs : List (List ℕ × List ℕ)) (pairs : List (List ℕ × ℕ)) (held : List (List ℕ × List ℕ))
    → ((path bytes : List ℕ) → Contains inputs (path, bytes) → bytes_at folder path ≡ Some bytes)
    → AreStamped folder (map path_in inputs) pairs → AllZip (InputStood past) pairs held → held ≡ inputs
same_held past folder one stood [] [] [] hold a b = refl
same_held past folder one stood [] [] (h ∷ hs) hold a b = absurd b
same_held past folder one stood [] (q ∷ qs) held hold a b = absurd a
same_held past folder one stood (w ∷ ws) [] held hold a b = absurd a
same_held past folder one stood (w ∷ ws) (q ∷ qs) [] hold a b = absurd b
same_held past folder one stood (w ∷ ws) (q ∷ qs) (h ∷ hs) hold (a, more_a) (b, more_b) =
    let tail : hs ≡ ws = same_held past folder one stood ws qs hs (λ p c m. hold p c (Contains_there w (p, c) ws m)) more_a more_b in
    let path : h.0 ≡ w.0 = b.path ∙ a.0 in
    let this : Stood past w.0 (record { stamp = q.1; bytes = h.1 }) = subst (λ p. Stood past p (record { stamp = q.1; bytes = h.1 })) a.0 b.stood in
    let now : Stood past w.0 (record { stamp = q.1; bytes = w.1 }) = stood w.0 _ (whole_file folder w.0 q.1 w.1 a.1 (hold w.0 w.1 (Contains_here w ws))) in
    let content : h.1 ≡ w.1 = one w.0 q.1 h.1 w.1 this now in
    λ i. (path i, content i) ∷ tail i

-- each output that is stamped has its stamp in the list
pub stamp_of : (folder : Folder) (outs : List (List ℕ)) (pairs : List (List ℕ × ℕ)) → AreStamped folder outs pairs → (out : List ℕ) → Contains outs out → (stamp : ℕ) × Contains pairs (out, stamp) × (stamp_at folder out ≡ Some stamp)
stamp_of folder [] pairs a out c = absurd (Contains_nil out c)
stamp_of folder (o ∷ outs) [] a out c = absurd a
stamp_of folder (o ∷ outs) (q ∷ qs) (a, more_a) out c = elim (Contains_cases o out outs c) [
  | inl e ↦
      let path : q.0 ≡ out = a.0 ∙ e in
      (q.1, subst (λ p. Contains (q ∷ qs) (p, q.1)) path (Contains_here q qs), subst (λ p. stamp_at folder p ≡ Some q.1) e a.1)
  | inr d ↦
      let (stamp, there, has) = stamp_of folder outs qs more_a out d in
      (stamp, Contains_there q (out, stamp) qs there, has)
]

-- each stamped path of the list is one of the paths
pub stamp_back : (folder : Folder) (outs : List (List ℕ)) (pairs : List (List ℕ × ℕ)) → AreStamped folder outs pairs → (path : List ℕ) (stamp : ℕ) → Contains pairs (path, stamp) → Contains outs path × (stamp_at folder path ≡ Some stamp)
stamp_back folder [] [] a path stamp c = absurd (Contains_nil (path, stamp) c)
stamp_back folder [] (q ∷ qs) a path stamp c = absurd a
stamp_back folder (o ∷ outs) [] a path stamp c = absurd a
stamp_back folder (o ∷ outs) (q ∷ qs) (a, rest) path stamp c = elim (Contains_cases q (path, stamp) qs c) [
  | inl e ↦
      let p : o ≡ path = sym a.0 ∙ ap (λ x. x.0) e in
      (subst (λ x. Contains (o ∷ outs) x) p (Contains_here o outs), subst₂ (λ x s. stamp_at folder x ≡ Some s) p (ap (λ x. x.1) e) a.1)
  | inr d ↦ let (there, has) = stamp_back folder outs qs rest path stamp d in (Contains_there o path outs there, has)
]

-- stamps that are the same in both folders at these paths
pub stamped_move : (old new : Folder) (paths : List (List ℕ)) (pairs : List (List ℕ × ℕ)) → ((path : List ℕ) → Contains paths path → new path ≡ old path) → AreStamped old paths pairs → AreStamped new paths pairs
stamped_move old new [] [] same a = a
stamped_move old new [] (q ∷ qs) same a = absurd a
stamped_move old new (p ∷ ps) [] same a = absurd a
stamped_move old new (p ∷ ps) (q ∷ qs) same (a, rest) =
    ((a.0, ap (option_map (λ (file : File). file.stamp)) (same p (Contains_here p ps)) ∙ a.1), stamped_move old new ps qs (λ x c. same x (Contains_there p x ps c)) rest)

-- the paths of stamped paths
pub stamped_paths : (folder : Folder) (paths : List (List ℕ)) (pairs : List (List ℕ × ℕ)) → AreStamped folder paths pairs → map (λ (q : List ℕ × ℕ). q.0) pairs ≡ paths
stamped_paths folder [] [] a = refl
stamped_paths folder [] (q ∷ qs) a = absurd a
stamped_paths folder (p ∷ ps) [] a = absurd a
stamped_paths folder (p ∷ ps) (q ∷ qs) (a, rest) = let e = stamped_paths folder ps qs rest in λ i. a.0 i ∷ e i

-- a path where bytes stand has a file with them
pub file_with : (folder : Folder) (path bytes : List ℕ) → bytes_at folder path ≡ Some bytes → (file : File) × (folder path ≡ Some file) × (file.bytes ≡ bytes)
file_with folder path bytes b = go (folder path) b
  where
    go : (o : Option File) → option_map (λ file. file.bytes) o ≡ Some bytes → (file : File) × (o ≡ Some file) × (file.bytes ≡ bytes)
    go None e = absurd (let g : None ≡ Some bytes = e in cc)
    go (Some file) e = (file, refl, (let g : Some file.bytes ≡ Some bytes = e in cc))
