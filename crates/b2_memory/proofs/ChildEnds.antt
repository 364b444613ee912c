use Rattle.std.proofs.Common.{◌≡◌, ℕ, zero, suc, ◌+◌, ◌<◌, ◌≤◌, Bool, true, false, ◌&&◌, List, ◌∷◌, [], ◌++◌, length, map, Option, None, Some, refl, ap, sym, ◌∙◌, subst, arith, slice_get, remove, length-append}
use Rattle.std.specs.List.{Contains}
use Rattle.std.specs.Option.{IfSome, option_map}
use Rattle.std.proofs.lemmas.List.{append-nil}
use Rattle.std.proofs.lemmas.List.Folds.{list_all-append}
use Rattle.std.proofs.lemmas.Grind.{flat_map-append}
use Rattle.std.proofs.lemmas.Option.{slice_get-get_or}
use Rattle.b2_host.specs.Disks.{Past, Disk}
use Rattle.b2_host.specs.ChildProcesses.{Given, Child, IsWritten, ChangesOnlyOutputs, HasMade, BothTold}
use Rattle.b2_files.specs.declared.file_bytes.FileBytes.{FileBytes}
use Rattle.b2_files.specs.Writes.{all_written}
use Rattle.b2_files.specs.Stores.{PlaceMap, is_known, all_known}
use Rattle.b2_files.proofs.KnownPathsStayKnown.{both, and_true}
use Rattle.b2_memory.specs.declared.running_child.RunningChild.{RunningChild}
use Rattle.b2_memory.specs.Results.{made_of}
use Rattle.b2_memory.specs.ChildWrites.{writes_of}
use Rattle.b2_memory.specs.Families.{child_with}
use Rattle.b2_memory.specs.PendingWrites.{promised}
use Rattle.b2_memory.proofs.ChildWrites.{is_in, in_contains, paths_of, other_path, more_past, stands_at, writes_in}

-- ---- the first of several

-- for any type: in a type of many parts the same takes seconds
pub first_is : {X : Type 0} (x : X) (xs : List X) (y : X) → slice_get (x ∷ xs) 0 ≡ Some y → x ≡ y
first_is x xs y e = cc

pub none_is : {X : Type 0} (k : ℕ) (y : X) → slice_get [] k ≡ Some y → ⊥
none_is k y e = cc

-- ---- what is promised is known

known_both : (m : PlaceMap) (xs ys : List FileBytes) → all_known m (xs ++ ys) ≡ (all_known m xs && all_known m ys)
known_both m xs ys = list_all-append (λ x. is_known m x.path) xs ys

-- of one child more
pub promised_push : (m : PlaceMap) (rs : List RunningChild) (r : RunningChild) → all_known m (promised rs) ≡ true → all_known m r.entries.items ≡ true → all_known m (promised (rs ++ r ∷ [])) ≡ true
promised_push m rs r h k =
    ap (all_known m) (flat_map-append (λ (x : RunningChild). x.entries.items) rs (r ∷ []) ∙ ap (λ ys. promised rs ++ ys) (append-nil r.entries.items))
    ∙ known_both m (promised rs) r.entries.items
    ∙ and_true (all_known m (promised rs)) (all_known m r.entries.items) h k

-- of one child and the others
pub known_take : (m : PlaceMap) (rs : List RunningChild) (k : ℕ) (r : RunningChild) → slice_get rs k ≡ Some r → all_known m (promised rs) ≡ true → (all_known m r.entries.items ≡ true) × (all_known m (promised (remove rs k)) ≡ true)
known_take m [] k r e h = absurd (none_is k r e)
known_take m (x ∷ rs) zero r e h =
    let same : x ≡ r = first_is x rs r e in
    let parts = both (all_known m x.entries.items) (all_known m (promised rs)) (sym (known_both m x.entries.items (promised rs)) ∙ h) in
    (ap (λ (y : RunningChild). all_known m y.entries.items) (sym same) ∙ parts.0, parts.1)
known_take m (x ∷ rs) (suc k) r e h =
    let parts = both (all_known m x.entries.items) (all_known m (promised rs)) (sym (known_both m x.entries.items (promised rs)) ∙ h) in
    let more = known_take m rs k r e parts.1 in
    (more.0, known_both m x.entries.items (promised (remove rs k)) ∙ and_true (all_known m x.entries.items) (all_known m (promised (remove rs k))) parts.0 more.1)

-- how much is promised without one child
pub promised_take : (rs : List RunningChild) (k : ℕ) (r : RunningChild) → slice_get rs k ≡ Some r → length (promised rs) ≡ length (promised (remove rs k)) + length r.entries.items
promised_take [] k r e = absurd (none_is k r e)
promised_take (x ∷ rs) zero r e =
    let same : x ≡ r = first_is x rs r e in
    let own : length x.entries.items ≡ length r.entries.items = ap (λ (y : RunningChild). length y.entries.items) same in
    let sum : length (x.entries.items ++ promised rs) ≡ length x.entries.items + length (promised rs) = length-append x.entries.items (promised rs) in
    omega (arith, own, sum)
promised_take (x ∷ rs) (suc k) r e =
    let more = promised_take rs k r e in
    let before : length (x.entries.items ++ promised rs) ≡ length x.entries.items + length (promised rs) = length-append x.entries.items (promised rs) in
    let after : length (x.entries.items ++ promised (remove rs k)) ≡ length x.entries.items + length (promised (remove rs k)) = length-append x.entries.items (promised (remove rs k)) in
    omega (arith, more, before, after)

-- ---- one of several

pub get_map : {X Y : Type 0} (f : X → Y) (xs : List X) (k : ℕ) → slice_get (map f xs) k ≡ option_map f (slice_get xs k)
get_map f [] k = refl
get_map f (x ∷ xs) zero = refl
get_map f (x ∷ xs) (suc k) = get_map f xs k

pub map_remove : {X Y : Type 0} (f : X → Y) (xs : List X) (k : ℕ) → map f (remove xs k) ≡ remove (map f xs) k
map_remove f [] zero = refl
map_remove f [] (suc k) = refl
map_remove f (x ∷ xs) zero = refl
map_remove f (x ∷ xs) (suc k) = ap (λ ys. f x ∷ ys) (map_remove f xs k)

contains_at : {X : Type 0} (xs : List X) (k : ℕ) (x : X) → slice_get xs k ≡ Some x → Contains xs x
contains_at [] k x e = cc
contains_at (y ∷ xs) zero x e = let same : y ≡ x = first_is y xs x e in (0, (let h : 0 < suc (length xs) = omega arith in h), same)
contains_at (y ∷ xs) (suc k) x e =
    let more = contains_at xs k x e in
    (suc more.0, (let low : more.0 < length xs = more.1 in let h : suc more.0 < suc (length xs) = omega (arith, low) in h), more.2)

-- ---- no child ends

-- ---- the child at a place ends

-- nothing but the outputs of that child changes
worked_on : (running : List Child) (place : ℕ) (given : Given) (well : Bool) (before : Disk) → slice_get running place ≡ Some (child_with given) → ChangesOnlyOutputs running before (all_written (writes_of given well) before)
worked_on running place given well before e = record {
  others = λ path none. go path none (is_in (paths_of (writes_of given well)) path) refl;
  more = (more_past (writes_of given well) before).more;
  past = (more_past (writes_of given well) before).past;
  written = λ old c. by_child old.path ((more_past (writes_of given well) before).among old c);
}
  where
    by_child : (path : List ℕ) → is_in (paths_of (writes_of given well)) path ≡ true → IsWritten running path
    by_child path h = record { child = child_with given; runs = contains_at running place (child_with given) e; out = writes_in given well path h }

    go : (path : List ℕ) → (IsWritten running path → ⊥) → (b : Bool) → is_in (paths_of (writes_of given well)) path ≡ b → (all_written (writes_of given well) before).now path ≡ before.now path
    go path none true h = absurd (none (by_child path h))
    go path none false h = other_path (writes_of given well) before path h

-- no stamp is above the number of files that stood
abbrev pub IsBounded : Disk → Type 0
IsBounded disk = (p : Past) → Contains disk.past p → p.file.stamp ≤ length disk.past

-- each output has what was made
has_made : (given : Given) (before : Disk) → IsBounded before → HasMade made_of (child_with given) before (all_written (writes_of given true) before)
has_made given before within other is out among =
    let same : given ≡ other = cc in
    let there : is_in given.outs out ≡ true = in_contains given.outs out among.0 (slice_get-get_or given.outs among.0 out among.1 ∙ ap Some among.2) in
    let stands = stands_at (made_of given.text given.held) given.outs before (length before.past) out (let h : length before.past ≤ length before.past = omega arith in h) there in
    (stands.file, stands.now, stands.bytes_are ∙ ap (λ (g : Given). made_of g.text g.held out) same, λ p a. let h = within p a in let k = stands.above in omega (arith, h, k))

pub works : (running : List Child) (place : ℕ) (given : Given) (well : Bool) (o : Option Disk) → slice_get running place ≡ Some (child_with given) → BothTold (ChangesOnlyOutputs running) o (option_map (all_written (writes_of given well)) o)
works running place given well None e = tt
works running place given well (Some disk) e = worked_on running place given well disk e

pub makes : (given : Given) (well : Bool) (o : Option Disk) → IfSome o IsBounded → well ≡ true → BothTold (HasMade made_of (child_with given)) o (option_map (all_written (writes_of given well)) o)
makes given well None within e = tt
makes given well (Some disk) within e = subst (λ (w : Bool). HasMade made_of (child_with given) disk (all_written (writes_of given w) disk)) (sym e) (has_made given disk within)
