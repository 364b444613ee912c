use Rattle.std.proofs.Common.{◌≡◌, ℕ, zero, suc, ◌+◌, ◌<◌, ◌≤◌, Bool, true, false, cond, ◌||◌, List, ◌∷◌, [], ◌++◌, codes, length, map, take, Some, refl, ap, sym, ◌∙◌, append_assoc, arith, slice_get, length-append}
use Rattle.std.specs.List.{Contains, list_any}
use Rattle.std.specs.Str.{bytes_eq}
use Rattle.std.proofs.lemmas.List.{append-nil}
use Rattle.std.proofs.lemmas.Slice.Eq.{bytes_eq-Decides}
use Rattle.b2_host.specs.Disks.{File, Past, Disk}
use Rattle.b2_host.specs.ChildProcesses.{Given}
use Rattle.b2_files.specs.Writes.{next_file, written, all_written}
use Rattle.b2_memory.specs.Results.{made_of}
use Rattle.b2_memory.specs.ChildWrites.{writes_of}

-- ---- paths in lists

-- one of the paths has these bytes
abbrev pub is_in : List (List ℕ) → List ℕ → Bool
is_in paths path = list_any (λ p. bytes_eq p path) paths

contains_later : (p : List ℕ) (paths : List (List ℕ)) (path : List ℕ) → Contains paths path → Contains (p ∷ paths) path
contains_later p paths path a = (suc a.0, (let low : a.0 < length paths = a.1 in let h : suc a.0 < suc (length paths) = omega (arith, low) in h), a.2)

contains_in : (paths : List (List ℕ)) (path : List ℕ) → is_in paths path ≡ true → Contains paths path
contains_in [] path h = cc
contains_in (p ∷ paths) path h = go (bytes_eq p path) refl h (contains_in paths path)
  where
    go : (b : Bool) → bytes_eq p path ≡ b → (b || is_in paths path) ≡ true → (is_in paths path ≡ true → Contains paths path) → Contains (p ∷ paths) path
    go true e k more = (0, (let h : 0 < suc (length paths) = omega arith in h), (bytes_eq-Decides p path).0 e)
    go false e k more = contains_later p paths path (more k)

pub in_contains : (paths : List (List ℕ)) (path : List ℕ) (k : ℕ) → slice_get paths k ≡ Some path → is_in paths path ≡ true
in_contains [] path k h = cc
in_contains (p ∷ paths) path zero h =
    let same : p ≡ path = cc in
    ap (λ b. b || is_in paths path) ((bytes_eq-Decides p path).1 same)
in_contains (p ∷ paths) path (suc k) h = go (bytes_eq p path) (in_contains paths path k h)
  where
    go : (b : Bool) → is_in paths path ≡ true → (b || is_in paths path) ≡ true
    go true e = refl
    go false e = e

-- ---- writes, one after another

-- the paths of writes
abbrev pub paths_of : List (List ℕ × List ℕ) → List (List ℕ)
paths_of writes = map (λ write. write.0) writes

-- no write changes what stands at another path
pub other_path : (writes : List (List ℕ × List ℕ)) (disk : Disk) (path : List ℕ) → is_in (paths_of writes) path ≡ false → (all_written writes disk).now path ≡ disk.now path
other_path [] disk path h = refl
other_path (w ∷ writes) disk path h = go (bytes_eq w.0 path) refl h (other_path writes (written w.0 w.1 disk) path)
  where
    go : (b : Bool) → bytes_eq w.0 path ≡ b → (b || is_in (paths_of writes) path) ≡ false → (is_in (paths_of writes) path ≡ false → (all_written writes (written w.0 w.1 disk)).now path ≡ (written w.0 w.1 disk).now path)
        → (all_written writes (written w.0 w.1 disk)).now path ≡ disk.now path
    go true e k more = cc
    go false e k more = more k ∙ ap (λ b. cond b (Some (next_file w.1 disk)) (disk.now path)) e

-- What stood is not forgotten, and what stood besides stood at some of the paths.
pub record AddsAt (paths : List (List ℕ)) (before after : Disk) : Type 0 where
  pub more : List Past
  pub past : after.past ≡ before.past ++ more
  pub among : (old : Past) → Contains more old → is_in paths old.path ≡ true

pub contains_none : (old : Past) → Contains [] old → ⊥
contains_none old (k, low, e) = omega arith

-- one more that stood at one of the paths
among_more : (p : Past) (more : List Past) (paths : List (List ℕ)) → ((old : Past) → Contains more old → is_in paths old.path ≡ true) → (old : Past) → Contains (p ∷ more) old → is_in (p.path ∷ paths) old.path ≡ true
among_more p more paths rest old (zero, low, e) = ap (λ b. b || is_in paths old.path) ((bytes_eq-Decides p.path old.path).1 (ap (λ (x : Past). x.path) e))
among_more p more paths rest old (suc k, low, e) = go (bytes_eq p.path old.path) (rest old (k, omega arith, e))
  where
    go : (b : Bool) → is_in paths old.path ≡ true → (b || is_in paths old.path) ≡ true
    go true h = refl
    go false h = h

pub more_past : (writes : List (List ℕ × List ℕ)) (disk : Disk) → AddsAt (paths_of writes) disk (all_written writes disk)
more_past [] disk = record { more = []; past = sym (append-nil disk.past); among = λ old c. absurd (contains_none old c) }
more_past (w ∷ writes) disk =
    let p : Past = record { path = w.0; file = next_file w.1 disk } in
    let rest : AddsAt (paths_of writes) (written w.0 w.1 disk) (all_written writes (written w.0 w.1 disk)) = more_past writes (written w.0 w.1 disk) in
    record {
      more = p ∷ rest.more;
      past = rest.past ∙ append_assoc disk.past (p ∷ []) rest.more;
      among = among_more p rest.more (paths_of writes) rest.among;
    }

-- At the path stands a file with these bytes, and with a stamp above a number.
pub record Stands (disk : Disk) (path bytes : List ℕ) (low : ℕ) : Type 0 where
  pub file : File
  pub now : disk.now path ≡ Some file
  pub bytes_are : file.bytes ≡ bytes
  pub above : low < file.stamp

-- at each output stands what was made for it
pub stands_at : (made : List ℕ → List ℕ) (outs : List (List ℕ)) (disk : Disk) (low : ℕ) (out : List ℕ) → low ≤ length disk.past → is_in outs out ≡ true → Stands (all_written (map (λ o. (o, made o)) outs) disk) out (made out) low
stands_at made [] disk low out h k = cc
stands_at made (o ∷ outs) disk low out h k = go (is_in (paths_of writes) out) refl (stands_at made outs next low out longer)
  where
    writes : List (List ℕ × List ℕ)
    writes = map (λ p. (p, made p)) outs

    next : Disk
    next = written o (made o) disk

    same_paths : (xs : List (List ℕ)) → paths_of (map (λ p. (p, made p)) xs) ≡ xs
    same_paths [] = refl
    same_paths (x ∷ xs) = ap (λ ys. x ∷ ys) (same_paths xs)

    longer : low ≤ length next.past
    longer = let e : length next.past ≡ length disk.past + 1 = length-append disk.past _ in omega (arith, h, e)

    first : (b : Bool) → bytes_eq o out ≡ b → (b || is_in outs out) ≡ true → is_in outs out ≡ false → o ≡ out
    first true e a n = (bytes_eq-Decides o out).0 e
    first false e a n = cc

    go : (b : Bool) → is_in (paths_of writes) out ≡ b → (is_in outs out ≡ true → Stands (all_written writes next) out (made out) low) → Stands (all_written writes next) out (made out) low
    go true e later = later (ap (λ xs. is_in xs out) (sym (same_paths outs)) ∙ e)
    go false e later =
        let same : o ≡ out = first (bytes_eq o out) refl k (ap (λ xs. is_in xs out) (sym (same_paths outs)) ∙ e) in
        record {
          file = next_file (made o) disk;
          now = other_path writes next out e ∙ ap (λ b. cond b (Some (next_file (made o) disk)) (disk.now out)) ((bytes_eq-Decides o out).1 same);
          bytes_are = ap made same;
          above = omega (arith, h);
        }

-- ---- the first child ends

-- a path that a child writes is among its outputs
pub writes_in : (given : Given) (well : Bool) (path : List ℕ) → is_in (paths_of (writes_of given well)) path ≡ true → Contains given.outs path
writes_in given true path h = contains_in given.outs path (ap (λ xs. is_in xs path) (sym (same given.outs)) ∙ h)
  where
    same : (xs : List (List ℕ)) → paths_of (map (λ out. (out, made_of given.text given.held out)) xs) ≡ xs
    same [] = refl
    same (x ∷ xs) = ap (λ ys. x ∷ ys) (same xs)
writes_in given false path h = go given.outs h
  where
    go : (outs : List (List ℕ)) → is_in (paths_of (map (λ out. (out, codes "torn" ++ 10 ∷ [])) (take 1 outs))) path ≡ true → Contains outs path
    go [] k = cc
    go (o ∷ outs) k = contains_in (o ∷ outs) path (in_first (bytes_eq o path) k)
      where
        in_first : (b : Bool) → (b || false) ≡ true → (b || is_in outs path) ≡ true
        in_first true a = refl
        in_first false a = cc
