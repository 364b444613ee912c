-- Modifiers of actions are read one after another where a word stands behind each, and then the name is.
use Rattle.std.proofs.Common.{◌≡◌, ℕ, List, [], ◌∷◌, Bool, true, false, Some, None, refl, sym, ap, ◌∙◌, subst, arith, length}
use Rattle.b2_base.specs.declared.token.Token.{Token}
use Rattle.jam_grammar.specs.declared.mark.TokenMark.{TokenMark}
use Rattle.jam_grammar.specs.declared.mark.TokenMark.TheVariants as m
use Rattle.jam_grammar.specs.Marks.{mark_of_token, is_word}
use Rattle.jam_grammar.specs.Grammar.{Part, Heading, Headed}
use Rattle.jam_grammar.specs.Machine.{feed, go_on, run}
use Rattle.jam_grammar.specs.Spelling.{Spells, Switches, none, together, existing, quietly}
use Rattle.jam_grammar.specs.Gives.{Ends}
use Rattle.jam_parser.specs.declared.heading.Modes.{Modes}
use Rattle.jam_parser.specs.Starts.{starts_word}
use Rattle.jam_parser.specs.PartReadings.{IsRead, EndsBy}
use Rattle.jam_parser.specs.declared.reading.ReadingFault.{ReadingFault}
use Rattle.jam_parser.specs.declared.reading.ReadingFault.TheVariants as faults
use Rattle.jam_parser.specs.Headings.{heading_of, head_syms, switched, GoesOn, NoModifier}

-- behind a modifier a heading goes on where a word stands, and ends where none does
headed_feeds : (a b c : Bool) (k : List Part) (x : TokenMark) → is_word x ≡ true → feed (Headed a b c ∷ k) x ≡ feed (Heading a b c ∷ k) x
headed_feeds true b c k m.Together h = refl
headed_feeds false b c k m.Together h = refl
headed_feeds a true c k m.Existing h = refl
headed_feeds a false c k m.Existing h = refl
headed_feeds a b true k m.Quietly h = refl
headed_feeds a b false k m.Quietly h = refl
headed_feeds a b c k m.Plain h = refl
headed_feeds a b c k m.Query h = refl
headed_feeds a b c k m.Star h = refl
headed_feeds a b c k m.Plus h = refl
headed_feeds a b c k _ h = cc

goes_on : (a b c : Bool) (k : List Part) (ts : List Token) → starts_word ts ≡ true → run ts (Headed a b c ∷ k) ≡ run ts (Heading a b c ∷ k)
goes_on a b c k [] h = cc
goes_on a b c k (t ∷ ts) h = ap (λ x. go_on x (run ts) (t ∷ ts)) (headed_feeds a b c k (mark_of_token t) h)

headed_skips : (a b c : Bool) (k : List Part) (x : TokenMark) → is_word x ≡ false → feed (Headed a b c ∷ k) x ≡ feed k x
headed_skips a b c k m.Together h = cc
headed_skips a b c k m.Existing h = cc
headed_skips a b c k m.Quietly h = cc
headed_skips a b c k m.Plain h = cc
headed_skips a b c k m.Query h = cc
headed_skips a b c k m.Star h = cc
headed_skips a b c k m.Plus h = cc
headed_skips a b c k _ h = refl

ends : (a b c : Bool) (k : List Part) (ts : List Token) → starts_word ts ≡ false → run ts (Headed a b c ∷ k) ≡ run ts k
ends a b c k [] h = refl
ends a b c k (t ∷ ts) h = ap (λ x. go_on x (run ts) (t ∷ ts)) (headed_skips a b c k (mark_of_token t) h)

-- one modifier, and a heading after it
abbrev Behind : Modes → Modes → List Part → TokenMark → Type 0
Behind stood more k x = feed (heading_of stood ∷ k) x ≡ Some (Headed more.together more.existing more.quietly ∷ k)

switch_feeds : (a b c : Bool) (x : TokenMark) (more : Modes) (k : List Part) → switched a b c x ≡ Some more → Behind record { together = a; existing = b; quietly = c } more k x
switch_feeds true b c m.Together more k h = cc
switch_feeds false b c m.Together more k h = let is : record { together = true; existing = b; quietly = c } ≡ more = cc in ap (λ (s : Modes). Some (Headed s.together s.existing s.quietly ∷ k)) is
switch_feeds a true c m.Existing more k h = cc
switch_feeds a false c m.Existing more k h = let is : record { together = a; existing = true; quietly = c } ≡ more = cc in ap (λ (s : Modes). Some (Headed s.together s.existing s.quietly ∷ k)) is
switch_feeds a b true m.Quietly more k h = cc
switch_feeds a b false m.Quietly more k h = let is : record { together = a; existing = b; quietly = true } ≡ more = cc in ap (λ (s : Modes). Some (Headed s.together s.existing s.quietly ∷ k)) is
switch_feeds a b c _ more k h = cc

abbrev Stands : Modes → Modes → List Token → List Token → Type 0
Stands stood more ts left = Switches stood.together stood.existing stood.quietly more.together more.existing more.quietly ts left

switch_spells : (a b c : Bool) (x : TokenMark) (t : Token) (ts left : List Token) (more last : Modes) → mark_of_token t ≡ x → switched a b c x ≡ Some more → Stands more last ts left → Stands record { together = a; existing = b; quietly = c } last (t ∷ ts) left
switch_spells true b c m.Together t ts left more last is h w = cc
switch_spells false b c m.Together t ts left more last is h w = let e : more ≡ record { together = true; existing = b; quietly = c } = cc in together is (subst (λ (s : Modes). Stands s last ts left) e w)
switch_spells a true c m.Existing t ts left more last is h w = cc
switch_spells a false c m.Existing t ts left more last is h w = let e : more ≡ record { together = a; existing = true; quietly = c } = cc in existing is (subst (λ (s : Modes). Stands s last ts left) e w)
switch_spells a b true m.Quietly t ts left more last is h w = cc
switch_spells a b false m.Quietly t ts left more last is h w = let e : more ≡ record { together = a; existing = b; quietly = true } = cc in quietly is (subst (λ (s : Modes). Stands s last ts left) e w)
switch_spells a b c _ t ts left more last is h w = cc

-- a modifier stands first
first_moves : (stood more : Modes) (a b : List Token) (k : List Part) → GoesOn stood a more b → run a (heading_of stood ∷ k) ≡ run b (heading_of more ∷ k)
first_moves stood more a b k h =
    ap (λ x. run x (heading_of stood ∷ k)) h.split
    ∙ ap (λ x. go_on x (run b) (h.first ∷ b)) (switch_feeds stood.together stood.existing stood.quietly (mark_of_token h.first) more k h.switches)
    ∙ goes_on more.together more.existing more.quietly k b h.word

pub modifier_read : (stood more last : Modes) (name : List ℕ) (a b c : List Token) (d : ℕ) → GoesOn stood a more b → IsRead (heading_of more ∷ []) b d (head_syms more last name) c → IsRead (heading_of stood ∷ []) a d (head_syms stood last name) c
modifier_read stood more last name a b c d h r = record {
  moves = λ k o. first_moves stood more a b k h ∙ r.moves k o;
  spells =
      subst (λ z. Spells z (head_syms stood last name) c) (sym h.split)
      (r.spells.0, switch_spells stood.together stood.existing stood.quietly (mark_of_token h.first) h.first b r.spells.0 more last refl h.switches r.spells.1, r.spells.2);
  shorter = let e = h.split in omega (arith, r.shorter, ap length e);
}

pub modifier_fault : (stood more : Modes) (a b : List Token) (d : ℕ) (e : ReadingFault) → GoesOn stood a more b → EndsBy (heading_of more ∷ []) b d e → EndsBy (heading_of stood ∷ []) a d e
modifier_fault stood more a b d faults.Memory h r = tt
modifier_fault stood more a b d (faults.At rest) h r = λ k o. first_moves stood more a b k h ∙ r k o

-- the name
name_feeds : (a b c : Bool) (x : TokenMark) (k : List Part) (ts : List Token) (t : Token) → is_word x ≡ true → ((more : Modes) → switched a b c x ≡ Some more → starts_word ts ≡ false) → go_on (feed (Heading a b c ∷ k) x) (run ts) (t ∷ ts) ≡ run ts k
name_feeds true b c m.Together k ts t h bound = refl
name_feeds false b c m.Together k ts t h bound = ends true b c k ts (bound _ refl)
name_feeds a true c m.Existing k ts t h bound = refl
name_feeds a false c m.Existing k ts t h bound = ends a true c k ts (bound _ refl)
name_feeds a b true m.Quietly k ts t h bound = refl
name_feeds a b false m.Quietly k ts t h bound = ends a b true k ts (bound _ refl)
name_feeds a b c m.Plain k ts t h bound = refl
name_feeds a b c m.Query k ts t h bound = refl
name_feeds a b c m.Star k ts t h bound = refl
name_feeds a b c m.Plus k ts t h bound = refl
name_feeds a b c _ k ts t h bound = cc

pub name_read : (stood : Modes) (t : Token) (a b : List Token) (name : List ℕ) (d : ℕ) → NoModifier stood a → a ≡ t ∷ b → is_word (mark_of_token t) ≡ true → name ≡ t.text → IsRead (heading_of stood ∷ []) a d (head_syms stood stood name) b
name_read stood t a b name d bound h is e =
    let free : NoModifier stood (t ∷ b) = subst (NoModifier stood) h bound in
    subst (λ z. IsRead (heading_of stood ∷ []) z d (head_syms stood stood name) b) (sym h) record {
      moves = λ k o. name_feeds stood.together stood.existing stood.quietly (mark_of_token t) k b t is free;
      spells = (t ∷ b, none, ((is, sym e), refl));
      shorter = omega arith;
    }

-- no word
refuses_other : (a b c : Bool) (k : List Part) (x : TokenMark) → is_word x ≡ false → feed (Heading a b c ∷ k) x ≡ None
refuses_other a b c k m.Together h = cc
refuses_other a b c k m.Existing h = cc
refuses_other a b c k m.Quietly h = cc
refuses_other a b c k m.Plain h = cc
refuses_other a b c k m.Query h = cc
refuses_other a b c k m.Star h = cc
refuses_other a b c k m.Plus h = cc
refuses_other a b c k _ h = refl

pub no_name : (stood : Modes) (a : List Token) (d : ℕ) → starts_word a ≡ false → Ends (heading_of stood ∷ []) a d a
no_name stood [] d h k o = refl
no_name stood (t ∷ ts) d h k o = ap (λ x. go_on x (run ts) (t ∷ ts)) (refuses_other stood.together stood.existing stood.quietly k (mark_of_token t) h)
