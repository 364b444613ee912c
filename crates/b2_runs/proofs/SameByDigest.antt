use Rattle.std.proofs.Common.{◌≡◌, ℕ, List, [], ◌∷◌, inl, inr, refl, sym, ap, ◌∙◌, Some, map, option_map}
use Rattle.std.specs.List.{Contains, AllZip}
use Rattle.b2_host.specs.Disks.{File, Folder, Past, Stood, bytes_at}
use Rattle.b2_runs.specs.Logs.{InputStood, NoCollision}
use Rattle.b2_log.specs.Finding.{path_of}
use Rattle.b2_runs.specs.Staleness.{AreStamped, AreDigested, path_in}
use Rattle.b2_runs.proofs.FirstElementOrLater.{Contains_here, Contains_there, Contains_cases, Contains_nil}
use Rattle.b2_runs.proofs.SameByStamp.{file_with}

-- bytes that are among those that stood
abbrev pub WasHeld : List Past → List ℕ → Type 0
WasHeld past bytes = (p : Past) × Contains past p × (p.file.bytes ≡ bytes)

-- bytes of one digest are the same
same_bytes : (digest : List ℕ → List ℕ) (past : List Past) (x y : List ℕ) → NoCollision digest past → WasHeld past x → WasHeld past y → digest x ≡ digest y → x ≡ y
same_bytes digest past x y distinct (p, c, e) (q, d, f) same = sym e ∙ distinct p q c d (ap digest e ∙ same ∙ ap digest (sym f)) ∙ f

-- what stands was held
pub held_now : (past : List Past) (folder : Folder) → ((path : List ℕ) (file : File) → folder path ≡ Some file → Stood past path file) → (path bytes : List ℕ) → bytes_at folder path ≡ Some bytes → WasHeld past bytes
held_now past folder stood path bytes at = let (file, has, e) = file_with folder path bytes at in (record { path = path; file = file }, stood path file has, e)

-- the inputs that a true record names, where digests of theirs are the same
pub same_by_digest : (digest : List ℕ → List ℕ) (past : List Past) → NoCollision digest past → (inputs : List (List ℕ × List ℕ)) (pairs : List (List ℕ × ℕ)) (held : List (List ℕ × List ℕ)) → map path_of pairs ≡ map path_in inputs
    → AllZip (InputStood past) pairs held → map (λ (input : List ℕ × List ℕ). digest input.1) held ≡ map (λ (input : List ℕ × List ℕ). digest input.1) inputs → ((path bytes : List ℕ) → Contains inputs (path, bytes) → WasHeld past bytes) → held ≡ inputs
same_by_digest digest past distinct [] pairs [] paths z e was = refl
same_by_digest digest past distinct [] pairs (h ∷ hs) paths z e was = absurd (let f : digest h.1 ∷ map (λ (input : List ℕ × List ℕ). digest input.1) hs ≡ [] = e in cc)
same_by_digest digest past distinct (w ∷ ws) pairs [] paths z e was = absurd (let f : [] ≡ digest w.1 ∷ map (λ (input : List ℕ × List ℕ). digest input.1) ws = e in cc)
same_by_digest digest past distinct (w ∷ ws) [] (h ∷ hs) paths z e was = absurd z
same_by_digest digest past distinct (w ∷ ws) (q ∷ qs) (h ∷ hs) paths (z, more) e was =
    let f : digest h.1 ∷ map (λ (input : List ℕ × List ℕ). digest input.1) hs ≡ digest w.1 ∷ map (λ (input : List ℕ × List ℕ). digest input.1) ws = e in
    let first : digest h.1 ≡ digest w.1 = cc in
    let rest : map (λ (input : List ℕ × List ℕ). digest input.1) hs ≡ map (λ (input : List ℕ × List ℕ). digest input.1) ws = cc in
    let g : q.0 ∷ map path_of qs ≡ w.0 ∷ map path_in ws = paths in
    let path : q.0 ≡ w.0 = cc in
    let tails : map path_of qs ≡ map path_in ws = cc in
    let content : h.1 ≡ w.1 = same_bytes digest past h.1 w.1 distinct (_, z.stood, refl) (was w.0 w.1 (Contains_here w ws)) first in
    let tail : hs ≡ ws = same_by_digest digest past distinct ws qs hs tails more rest (λ p b c. was p b (Contains_there w (p, b) ws c)) in
    let whole : h.0 ≡ w.0 = z.path ∙ path in
    λ i. (whole i, content i) ∷ tail i

-- an output that a true record names has the bytes that were made, where its digest is the same
pub out_by_digest : (digest : List ℕ → List ℕ) (past : List Past) (folder : Folder) (made : List ℕ → List ℕ) → NoCollision digest past → ((path : List ℕ) (file : File) → folder path ≡ Some file → Stood past path file)
    → (outs : List (List ℕ)) (pairs : List (List ℕ × ℕ)) (texts : List (List ℕ)) → map path_of pairs ≡ outs → AreDigested digest folder outs texts → texts ≡ map (λ (out : List ℕ × ℕ). digest (made out.0)) pairs
    → ((path : List ℕ) (stamp : ℕ) → Contains pairs (path, stamp) → Stood past path (record { stamp = stamp; bytes = made path })) → (out : List ℕ) → Contains outs out → bytes_at folder out ≡ Some (made out)
out_by_digest digest past folder made distinct stood [] pairs texts paths d e was out c = absurd (Contains_nil out c)
out_by_digest digest past folder made distinct stood (o ∷ os) pairs [] paths d e was out c = absurd d
out_by_digest digest past folder made distinct stood (o ∷ os) [] (t ∷ ts) paths d e was out c = absurd (let f : [] ≡ o ∷ os = paths in cc)
out_by_digest digest past folder made distinct stood (o ∷ os) (q ∷ qs) (t ∷ ts) paths (d, more) e was out c =
    let f : t ∷ ts ≡ digest (made q.0) ∷ map (λ (out : List ℕ × ℕ). digest (made out.0)) qs = e in
    let first : t ≡ digest (made q.0) = cc in
    let rest : ts ≡ map (λ (out : List ℕ × ℕ). digest (made out.0)) qs = cc in
    let g : q.0 ∷ map path_of qs ≡ o ∷ os = paths in
    let path : q.0 ≡ o = cc in
    let tails : map path_of qs ≡ os = cc in
    elim (Contains_cases o out os c) [
      | inl here ↦
          let (bytes, at, is) = d in
          let content : bytes ≡ made q.0 = same_bytes digest past bytes (made q.0) distinct (held_now past folder stood o bytes at) (_, was q.0 q.1 (Contains_here q qs), refl) (sym is ∙ first) in
          let same : q.0 ≡ out = path ∙ here in
          ap (bytes_at folder) (sym here) ∙ at ∙ (λ i. Some (content i)) ∙ (λ i. Some (made (same i)))
      | inr there ↦ out_by_digest digest past folder made distinct stood os qs ts tails more rest (λ p n m. was p n (Contains_there q (p, n) qs m)) out there
    ]

-- digests that are the same in both folders at these paths
pub digested_move : (digest : List ℕ → List ℕ) (old new : Folder) (paths texts : List (List ℕ)) → ((path : List ℕ) → Contains paths path → new path ≡ old path) → AreDigested digest old paths texts → AreDigested digest new paths texts
digested_move digest old new [] [] same a = a
digested_move digest old new [] (t ∷ ts) same a = absurd a
digested_move digest old new (p ∷ ps) [] same a = absurd a
digested_move digest old new (p ∷ ps) (t ∷ ts) same ((bytes, at, is), rest) =
    ((bytes, ap (option_map (λ (file : File). file.bytes)) (same p (Contains_here p ps)) ∙ at, is), digested_move digest old new ps ts (λ x c. same x (Contains_there p x ps c)) rest)

-- the digests of inputs that stand are those of their bytes
pub digested_inputs : (digest : List ℕ → List ℕ) (folder : Folder) (inputs : List (List ℕ × List ℕ)) (texts : List (List ℕ)) → ((path bytes : List ℕ) → Contains inputs (path, bytes) → bytes_at folder path ≡ Some bytes) → AreDigested digest folder (map path_in inputs) texts
    → texts ≡ map (λ (input : List ℕ × List ℕ). digest input.1) inputs
digested_inputs digest folder [] [] hold a = refl
digested_inputs digest folder [] (t ∷ ts) hold a = absurd a
digested_inputs digest folder (w ∷ ws) [] hold a = absurd a
digested_inputs digest folder (w ∷ ws) (t ∷ ts) hold ((bytes, at, is), rest) =
    let f : Some bytes ≡ Some w.1 = sym at ∙ hold w.0 w.1 (Contains_here w ws) in
    let e : bytes ≡ w.1 = cc in
    let first : t ≡ digest w.1 = is ∙ ap digest e in
    let tail = digested_inputs digest folder ws ts (λ p b c. hold p b (Contains_there w (p, b) ws c)) rest in
    λ i. first i ∷ tail i

-- the digests of outputs that stand as they were made are those of what was made
pub digested_outs : (digest : List ℕ → List ℕ) (folder : Folder) (made : List ℕ → List ℕ) (outs : List (List ℕ)) (pairs : List (List ℕ × ℕ)) (texts : List (List ℕ)) → ((out : List ℕ) → Contains outs out → bytes_at folder out ≡ Some (made out))
    → AreStamped folder outs pairs → AreDigested digest folder outs texts → texts ≡ map (λ (out : List ℕ × ℕ). digest (made out.0)) pairs
digested_outs digest folder made [] [] [] hold s a = refl
digested_outs digest folder made [] [] (t ∷ ts) hold s a = absurd a
digested_outs digest folder made [] (q ∷ qs) texts hold s a = absurd s
digested_outs digest folder made (o ∷ os) [] texts hold s a = absurd s
digested_outs digest folder made (o ∷ os) (q ∷ qs) [] hold s a = absurd a
digested_outs digest folder made (o ∷ os) (q ∷ qs) (t ∷ ts) hold (s, more) ((bytes, at, is), rest) =
    let f : Some bytes ≡ Some (made o) = sym at ∙ hold o (Contains_here o os) in
    let e : bytes ≡ made o = cc in
    let first : t ≡ digest (made q.0) = is ∙ ap digest e ∙ ap (λ p. digest (made p)) (sym s.0) in
    let tail = digested_outs digest folder made os qs ts (λ p c. hold p (Contains_there o p os c)) more rest in
    λ i. first i ∷ tail i
