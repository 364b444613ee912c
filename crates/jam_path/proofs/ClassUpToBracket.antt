use Rattle.std.proofs.Common.{◌≡◌, ◌≢◌, ℕ, ◌<◌, ◌≤◌, ◌+◌, ◌-◌, Bool, true, false, cond, eqb, leb, List, [], ◌∷◌, ◌++◌, length, take, drop, get_or, refl, ap, sym, ◌∙◌, subst, arith, append_assoc, Some, None}
use Rattle.std.specs.Str.{chars, IsUtf8, encode_utf8_all}
use Rattle.std.specs.Char.{encode_utf8}
use Rattle.std.proofs.lemmas.Bool.{ne_eqb, lt-leb, and_right}
use Rattle.std.proofs.lemmas.List.{length-append, nil_from_length, get_or_at, take_at, drop_at, drop-drop}
use Rattle.std.proofs.lemmas.Str.{encode_ascii, chars-nil, encodes-chars, chars-append, chars_past_char, IsUtf8-take, IsUtf8-drop, IsCharBoundary-before_ascii, IsCharBoundary-after_ascii}
use Rattle.b2_base.specs.Bytes.{Lacks}
use Rattle.b2_base.proofs.NamesAreCutAtLastSigns.{has_not, has_at, lacks_from_places}
use Rattle.jam_path.specs.Patterns.{is_member}
use Rattle.jam_path.specs.Steps.{IsUnclosed, after_dash, after_exact, after_class, after_bracket}
use Rattle.jam_path.proofs.CutAtSign.{before_at, after_at}

-- ---- members

no_dash : (dash : ℕ) (more : List ℕ) → cond (eqb dash 45) (Some more) None ≡ None → eqb dash 45 ≡ false
no_dash dash more = go (eqb dash 45)
  where
    go : (t : Bool) → cond t (Some more) None ≡ None → t ≡ false
    go true e = grind (arith, e)
    go false e = refl

-- a member that begins no range
pub alone : (low c : ℕ) (rest : List ℕ) → after_dash rest ≡ None → low ≢ c → is_member (low ∷ rest) c ≡ is_member rest c
alone low c [] e h = ne_eqb low c h
alone low c (dash ∷ []) e h = rw (ne_eqb low c h) refl
alone low c (dash ∷ high ∷ more) e h = rw (no_dash dash more e, ne_eqb low c h) refl

-- a range that the character lies below, or above
pub below_range : (low high c : ℕ) (more : List ℕ) → c < low → is_member (low ∷ 45 ∷ high ∷ more) c ≡ is_member more c
below_range low high c more h = rw (lt-leb low c h) refl

pub above_range : (low high c : ℕ) (more : List ℕ) → high < c → is_member (low ∷ 45 ∷ high ∷ more) c ≡ is_member more c
above_range low high c more h = rw (and_right (leb low c) (leb c high) (lt-leb c high h)) refl

-- ---- brackets

lacks_right : (c : ℕ) (a b : List ℕ) → Lacks c (a ++ b) → Lacks c b
lacks_right c [] b h = h
lacks_right c (x ∷ a) b h = lacks_right c a b h.1

lacks_here : (c : ℕ) (b : List ℕ) → c < 128 → Lacks c (encode_utf8 c ++ b) → ⊥
lacks_here c b small h = (subst (λ e. Lacks c (e ++ b)) (encode_ascii c small) h).0 refl

-- an ASCII character that is no byte of the text is no character of it
lacks_spelled : (c : ℕ) (cs : List ℕ) → c < 128 → Lacks c (encode_utf8_all cs) → Lacks c cs
lacks_spelled c [] small h = tt
lacks_spelled c (x ∷ cs) small h = ((λ e. lacks_here c (encode_utf8_all cs) small (subst (λ d. Lacks c (encode_utf8 d ++ encode_utf8_all cs)) e h)), lacks_spelled c cs small (lacks_right c (encode_utf8 x) (encode_utf8_all cs) h))

pub lacks_chars : (c : ℕ) (bytes : List ℕ) → c < 128 → IsUtf8 bytes → Lacks c bytes → Lacks c (chars bytes)
lacks_chars c bytes small u h = lacks_spelled c (chars bytes) small (subst (Lacks c) (sym (encodes-chars bytes u)) h)

-- without a `]` the bracket stands for itself
pub open_bracket : (bytes : List ℕ) (c : ℕ) → IsUtf8 bytes → Lacks 93 bytes → after_bracket (chars bytes) c ≡ after_exact 91 (chars bytes) c
open_bracket bytes c u h = rw (has_not 93 (chars bytes) (lacks_chars 93 bytes (omega arith) u h)) refl

-- the characters of a text that is cut at a `]`
chars_cut : (bytes m b : List ℕ) → IsUtf8 bytes → bytes ≡ m ++ 93 ∷ b → chars bytes ≡ chars m ++ 93 ∷ chars b
chars_cut bytes m b u e =
    let here : get_or bytes (length m) 0 ≡ 93 = ap (λ r. get_or r (length m) 0) e ∙ get_or_at m 93 b 0 (length m) refl in
    let within : length m < length bytes = omega (arith, ap length e, length-append m (93 ∷ b)) in
    let cut = IsCharBoundary-before_ascii bytes (length m) within (omega (arith, here)) in
    let front : IsUtf8 m = subst IsUtf8 (ap (take (length m)) e ∙ take_at m (93 ∷ b) (length m) refl) (IsUtf8-take bytes (length m) u cut) in
    let back : IsUtf8 (93 ∷ b) = subst IsUtf8 (ap (drop (length m)) e ∙ drop_at m (93 ∷ b) (length m) refl) (IsUtf8-drop bytes (length m) u cut) in
    ap chars e ∙ chars-append m (93 ∷ b) front ∙ ap (λ r. chars m ++ r) (chars_past_char (93 ∷ b) b 93 back (sym (ap (λ r. r ++ b) (encode_ascii 93 (omega arith)))))

utf8_front : (bytes m b : List ℕ) → IsUtf8 bytes → bytes ≡ m ++ 93 ∷ b → IsUtf8 m
utf8_front bytes m b u e =
    let here : get_or bytes (length m) 0 ≡ 93 = ap (λ r. get_or r (length m) 0) e ∙ get_or_at m 93 b 0 (length m) refl in
    let within : length m < length bytes = omega (arith, ap length e, length-append m (93 ∷ b)) in
    subst IsUtf8 (ap (take (length m)) e ∙ take_at m (93 ∷ b) (length m) refl) (IsUtf8-take bytes (length m) u (IsCharBoundary-before_ascii bytes (length m) within (omega (arith, here))))

pub utf8_back : (bytes m b : List ℕ) → IsUtf8 bytes → bytes ≡ m ++ 93 ∷ b → IsUtf8 b
utf8_back bytes m b u e =
    let here : get_or bytes (length m) 0 ≡ 93 = ap (λ r. get_or r (length m) 0) e ∙ get_or_at m 93 b 0 (length m) refl in
    let within : length m < length bytes = omega (arith, ap length e, length-append m (93 ∷ b)) in
    subst IsUtf8 (ap (drop (length m + 1)) (e ∙ sym (append_assoc m (93 ∷ []) b)) ∙ drop_at (m ++ 93 ∷ []) b (length m + 1) (length-append m (93 ∷ []))) (IsUtf8-drop bytes (length m + 1) u (IsCharBoundary-after_ascii bytes (length m) u within (omega (arith, here))))

-- a class is what stands up to the first `]`
pub class_at : (bytes m b : List ℕ) (c : ℕ) → IsUtf8 bytes → bytes ≡ m ++ 93 ∷ b → Lacks 93 m → after_bracket (chars bytes) c ≡ after_class (chars m) (chars b) c
class_at bytes m b c u e h =
    let l : Lacks 93 (chars m) = lacks_chars 93 m (omega arith) (utf8_front bytes m b u e) h in
    rw (chars_cut bytes m b u e, has_at 93 (chars m) (chars b), before_at 93 (chars m) (chars b) l, after_at 93 (chars m) (chars b) l) refl

pub after_cut : (bytes m b : List ℕ) → bytes ≡ m ++ 93 ∷ b → (k : ℕ) × (b ≡ drop k bytes)
after_cut bytes m b e = (length m + 1, sym (ap (drop (length m + 1)) (e ∙ sym (append_assoc m (93 ∷ []) b)) ∙ drop_at (m ++ 93 ∷ []) b (length m + 1) (length-append m (93 ∷ []))))

-- ---- the bytes at the end that hold no `]`

pub none_closed : (count : ℕ) (bytes : List ℕ) → IsUnclosed count bytes → length bytes ≤ count → Lacks 93 bytes
none_closed count bytes h l = lacks_from_places 93 bytes (λ i m. h i (omega (arith, l)) m)

pub drop_twice : (a b c : List ℕ) → (k : ℕ) × (b ≡ drop k a) → (k : ℕ) × (c ≡ drop k b) → (k : ℕ) × (c ≡ drop k a)
drop_twice a b c h k = (h.0 + k.0, k.1 ∙ ap (drop k.0) h.1 ∙ drop-drop k.0 h.0 a)

-- ---- the empty text

pub no_chars : (bytes : List ℕ) → length bytes ≡ 0 → chars bytes ≡ []
no_chars bytes e = ap chars (nil_from_length bytes e) ∙ chars-nil

pub no_bytes : (bytes : List ℕ) → IsUtf8 bytes → chars bytes ≡ [] → length bytes ≡ 0
no_bytes bytes u e = ap length (sym (encodes-chars bytes u) ∙ ap encode_utf8_all e)

-- none of the bytes after the last `]` is one
pub unclosed_last : (bytes : List ℕ) (last : ℕ) → ((i : ℕ) → last < i → i < length bytes → get_or bytes i 0 ≢ 93) → last < length bytes → IsUnclosed (length bytes - last - 1) bytes
unclosed_last bytes last h l i m n = h i (omega (arith, l, m)) n
