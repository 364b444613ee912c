-- Frames that are opened, and closed again where a binding fails.
use Rattle.std.proofs.Common.{◌≡◌, ◌≢◌, ◌<◌, ℕ, List, [], ◌∷◌, ◌++◌, length, refl, sym, ap, ◌∙◌, subst, arith}
use Rattle.std.proofs.lemmas.List.{map-append}
use Rattle.jam_journal.specs.Scopes.{Frame, Scopes, Binding, leave, bind, bind_each}
use Rattle.jam_journal.proofs.ChangesKeepWhatWasMarked.{drop_with}
use Rattle.jam_journal.proofs.LookupsFindWhatCellsHold.{length_with}
use Rattle.jam_scope.specs.Worlds.{Worlds}
use Rattle.jam_scope.specs.Changes.{rescoped, frames_at_mark}
use Rattle.jam_scope.proofs.NamesAreBoundInTurn.{bind_more, still_framed}
use Rattle.jam_values.specs.declared.bindings.Bound.{Bound}
use Rattle.jam_values.specs.Bindings.{binding_of, bindings_of}

as_many_bound : (bs : List Binding) (s : Scopes) → length (bind_each bs s).frames ≡ length s.frames
as_many_bound [] s = refl
as_many_bound (b ∷ bs) s = as_many_bound bs (bind b.0 b.1 s) ∙ length_with (b.0, b.1) s.frames

left_one : (b : Binding) (s : Scopes) → leave (bind b.0 b.1 s) ≡ leave s
left_one b s = ap (λ fs. record s { frames = fs }) (drop_with (b.0, b.1) s.frames)

left_each : (bs : List Binding) (s : Scopes) → leave (bind_each bs s) ≡ leave s
left_each [] s = refl
left_each (b ∷ bs) s = left_each bs (bind b.0 b.1 s) ∙ left_one b s

-- a frame that is opened, in which names are bound, and which is closed again
pub closed_again : (bs : List Binding) (first : Scopes → Scopes) (ws opened bound closed : Worlds) → ((s : Scopes) → leave (first s) ≡ s)
    → opened ≡ rescoped first ws → bound ≡ rescoped (bind_each bs) opened → closed ≡ rescoped leave bound → closed ≡ ws
closed_again bs first ws opened bound closed same e f g =
    g ∙ ap (rescoped leave) (f ∙ ap (rescoped (bind_each bs)) e)
    ∙ ap (λ s. record ws { now = record ws.now { scopes = s } }) (left_each bs (first ws.now.scopes) ∙ same ws.now.scopes)

-- it may be closed after names were bound in it
pub may_close : (bs : List Binding) (opened bound : Worlds) → bound ≡ rescoped (bind_each bs) opened
    → frames_at_mark opened.marked < length opened.now.scopes.frames → frames_at_mark bound.marked < length bound.now.scopes.frames
may_close bs opened bound e h =
    subst (λ (ws : Worlds). frames_at_mark ws.marked < length ws.now.scopes.frames) (sym e)
    (subst (λ n. frames_at_mark opened.marked < n) (sym (as_many_bound bs opened.now.scopes)) h)

pub some_frame : (fs : List Frame) (n : ℕ) → n < length fs → fs ≢ []
some_frame [] n h = absurd (omega (arith, h))
some_frame (f ∷ fs) n h = λ e. cc

pub bound_more : (bs : List Bound) (one : Bound) (first now set : Worlds) → now ≡ rescoped (bind_each (bindings_of bs)) first
    → set ≡ rescoped (bind one.name one.value) now → set ≡ rescoped (bind_each (bindings_of (bs ++ one ∷ []))) first
bound_more bs one first now set so_far e =
    e ∙ ap (rescoped (bind one.name one.value)) so_far
    ∙ ap (λ s. record first { now = record first.now { scopes = s } }) (sym (bind_more (bindings_of bs) (binding_of one) first.now.scopes))
    ∙ ap (λ l. rescoped (bind_each l) first) (sym (map-append binding_of bs (one ∷ [])))

pub framed_after : (b : Binding) (now set : Worlds) → set ≡ rescoped (bind b.0 b.1) now → now.now.scopes.frames ≢ [] → set.now.scopes.frames ≢ []
framed_after b now set e h = subst (λ (ws : Worlds). ws.now.scopes.frames ≢ []) (sym e) (still_framed (b.0, b.1) now.now.scopes.frames h)
