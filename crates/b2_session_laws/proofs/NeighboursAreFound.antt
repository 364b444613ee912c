-- Two neighbouring calls are found in a session, with a true log before them.
use Rattle.std.proofs.Common.{◌≡◌, List, [], ◌∷◌, ◌++◌, inl, inr, refl, sym, ap, subst, ◌∙◌}
use Rattle.std.specs.List.{Contains}
use Rattle.std.proofs.lemmas.List.Elements.{Contains-append_left, Contains-append_right}
use Rattle.b2_runs.specs.Moments.{Moment, IsSameButRisks}
use Rattle.b2_runs.specs.Sessions.{Happening, Happening.update, Happening.stop, Happens, IsSession, IsTrueAt, HoldsOfPast, PastGrows, IsAskedFor}
use Rattle.b2_runs.proofs.FirstElementOrLater.{Contains_here, Contains_there}
use Rattle.b2_runs.proofs.SessionEndsClean.{session_splits}
use Rattle.b2_runs.proofs.TrueThroughSession.{so_before, past_grows_through_session, true_through_session}
use Rattle.b2_drain.specs.Drains.{Made}
use Rattle.b2_top.specs.declared.answer.Answer.{Answer}
use Rattle.b2_top.specs.Askings.{Asking}
use Rattle.b2_top.specs.Plans.{making_by}
use Rattle.b2_sessions.specs.BuildCalls.{TellsFor, IsCall}
use Rattle.b2_sessions.proofs.CallsLeaveTrueLogs.{keeps_past, tells_less, calls_leave_true}
use Rattle.b2_session_laws.specs.Neighbours.{UpdatesAreNeighbours, StopAndUpdateAreNeighbours}

module _ (made : Made) where
  grows : (asking : Asking) (answer : Answer) (before after : Moment) → IsCall made asking answer before after → PastGrows before after
  grows asking answer before after call = keeps_past before after call.keeps

  -- the log is true where the rest of a session begins
  true_between : (first middle last : Moment) (front rest : List (Happening Asking)) (here later : List Answer) → IsSession (IsCall made) first front here middle → IsSession (IsCall made) middle rest later last
      → ((asked : Asking) → IsAskedFor (front ++ rest) asked → HoldsOfPast (TellsFor asked) last) → IsTrueAt (making_by made) first → IsTrueAt (making_by made) middle
  true_between first middle last front rest here later earlier s tells t =
      true_through_session (IsCall made) TellsFor (making_by made) (calls_leave_true made) first middle front here earlier
      (λ asked c. so_before (TellsFor asked) middle last (tells_less asked) (past_grows_through_session (IsCall made) grows middle last rest later s) (tells asked (in_all asked c))) t
    where
      in_all : (asked : Asking) → IsAskedFor front asked → IsAskedFor (front ++ rest) asked
      in_all asked (inl c) = inl (Contains-append_left front rest (update asked) c)
      in_all asked (inr c) = inr (Contains-append_left front rest (stop asked) c)

  -- digests tell contents apart before the rest of a session, where they do after it
  tells_then : (middle last : Moment) (rest : List (Happening Asking)) (later : List Answer) (asking : Asking) → Happens (IsCall made) middle rest later last → HoldsOfPast (TellsFor asking) last → HoldsOfPast (TellsFor asking) middle
  tells_then middle last rest later asking s tells = so_before (TellsFor asking) middle last (tells_less asking) (past_grows_through_session (IsCall made) grows middle last rest later (middle, refl, s)) tells

  second_in : (front rest : List (Happening Asking)) (one other : Happening Asking) → Contains (front ++ one ∷ other ∷ rest) other
  second_in front rest one other = Contains-append_right front (one ∷ other ∷ rest) other (Contains_there one other (other ∷ rest) (Contains_here other rest))

  -- the two answers stand first
  two_first : (one two : Answer) (all h1 l1 h2 l2 : List Answer) → all ≡ h1 ++ l1 → h1 ≡ one ∷ [] → l1 ≡ h2 ++ l2 → h2 ≡ two ∷ [] → all ≡ one ∷ two ∷ l2
  two_first one two all h1 l1 h2 l2 e1 is_one e2 is_two = e1 ∙ ap (λ (h : List Answer). h ++ l1) is_one ∙ ap (λ (l : List Answer). one ∷ l) (e2 ∙ ap (λ (h : List Answer). h ++ l2) is_two)

  but_risks : (x y z : Moment) → IsSameButRisks x y → IsSameButRisks y z → IsSameButRisks x z
  but_risks x y z a b = b ∙ ap (λ (m : Moment). record m { host = record m.host { risks = z.host.risks } }) a

pub updates_are_neighbours : UpdatesAreNeighbours
updates_are_neighbours made first last front rest asking again given s =
    let (middle, here, later, e, earlier, calls) = session_splits (IsCall made) first last front (update asking ∷ update again ∷ rest) given s.session in
    let t = true_between made first middle last front (update asking ∷ update again ∷ rest) here later earlier calls s.tells s.true_log in
    let (renewed, same, (between, h1, l1, e1, (one, is_one, call, idle), (after, h2, l2, e2, (two, is_two, next, idle_then), more))) = calls in (
      record {
        before = renewed;
        between = between;
        reopened = between;
        after = after;
        given = one;
        answer = two;
        came = call;
        again_came = next;
        true_log = subst (IsTrueAt (making_by made)) (sym same) t;
        tells = tells_then made after last rest l2 again more (s.tells again (inl (second_in made front rest (update asking) (update again))));
      },
      record {
        middle = middle;
        earlier = here;
        session_before = earlier;
        begins = same;
        later = l2;
        session_after = (after, refl, more);
        answers_are = e ∙ ap (λ (l : List Answer). here ++ l) (two_first made one two later h1 l1 h2 l2 e1 is_one e2 is_two);
      },
      refl,
    )

pub stop_and_update_are_neighbours : StopAndUpdateAreNeighbours
stop_and_update_are_neighbours made first last front rest asking again given s =
    let (middle, here, later, e, earlier, calls) = session_splits (IsCall made) first last front (stop asking ∷ update again ∷ rest) given s.session in
    let t = true_between made first middle last front (stop asking ∷ update again ∷ rest) here later earlier calls s.tells s.true_log in
    let (renewed, same, (reopened, h1, l1, e1, (one, is_one, stopped), (after, h2, l2, e2, (two, is_two, next, idle_then), more))) = calls in
    let true_renewed : IsTrueAt (making_by made) renewed = subst (IsTrueAt (making_by made)) (sym same) t in (
      record {
        before = stopped.fused;
        between = stopped.between;
        reopened = reopened;
        after = after;
        given = one;
        answer = two;
        came = stopped.updated;
        again_came = next;
        true_log = subst (IsTrueAt (making_by made)) (sym stopped.fuse) true_renewed;
        tells = tells_then made after last rest l2 again more (s.tells again (inl (second_in made front rest (stop asking) (update again))));
      },
      record {
        middle = middle;
        earlier = here;
        session_before = earlier;
        begins = but_risks made middle renewed stopped.fused same stopped.fuse;
        later = l2;
        session_after = (after, refl, more);
        answers_are = e ∙ ap (λ (l : List Answer). here ++ l) (two_first made one two later h1 l1 h2 l2 e1 is_one e2 is_two);
      },
      record {
        events = stopped.events;
        are = stopped.events_are ∙ ap (λ (m : Moment). m.host.children.events ++ stopped.events) (sym stopped.fuse);
        reopened = stopped.reopened;
      },
    )
