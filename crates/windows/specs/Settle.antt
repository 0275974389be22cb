-- From a potential within boxes to the best windows within them, for planning and for a commitment.
use Prim.Native.Nat.{ℕ, zero, suc, ◌-◌, ◌≤◌, ◌<◌}
use Rattle.std.specs.Prelude.{◌≡◌, refl, Bool, true, false, ◌≢◌, List, length, get_or, set, replicate}
use Rattle.std.proofs.Math.Path.{sym, ap}
use Rattle.std.proofs.Common.{◌∙◌, length-set, ext_get_or}
use native.Mathlib.Omega.{arith}
use Rattle.std.proofs.Math.Dec.{eqb}
use Rattle.std.proofs.lemmas.List.{length-replicate}
use Rattle.std.proofs.Math.Seq.{get_or-set_same, get_or-set_other}
use Rattle.temporal.proofs.Lists.{below-All}
use Rattle.temporal.specs.Ticket as temporal
use Rattle.temporal.specs.Ticket.{events, Window, origin}
use Rattle.temporal.specs.Ends.{Ends}
use Rattle.temporal.specs.Ticket.{Lies}
use Rattle.temporal.proofs.Ends.{schedule_test, fit_ends}
use Rattle.temporal.specs.Best.{Chosen}
use Rattle.temporal.specs.Plan.{owner_of, raise, asking, accepted, refused, put, plan, cause, commit}
use Rattle.temporal.specs.FitSets.{Grows}
use Rattle.temporal.proofs.FitSets.{narrowed, test_grows, itself_grows}
use Rattle.temporal.proofs.Answers.{plan_is, plan_refused, commit_is}
use Rattle.temporal.specs.Run.{Valid, Acceptable}
use Rattle.temporal.proofs.Causes.{acceptable, cause_counts}
use Rattle.temporal.proofs.RunHolds.{distinct}
use Rattle.network.specs.Lists.{zeros_at}
use Rattle.network.specs.Stored.{at}
use Rattle.ticket.specs.declared.Ticket.{Ticket}
use Rattle.ticket.specs.Writing.{content}
use Rattle.ticket.proofs.Content.{in_events}
use Rattle.potentials.specs.Arrays.{window_list, flag_list, firsts_set, length_flag_list, window_at_lem, flag_at, Given, Lie, Within}
use Rattle.potentials.specs.Nodes.{close_node, close_self, by_nodes, potential_of}
use Rattle.potentials.specs.Pairs.{Pairs, Limited, pairs_potential, replicate_most}
use Rattle.demands.specs.Network.{Meeting, meeting_same, Limits}
use Rattle.schedule.specs.Times.{times_of, schedule_timed, timed_schedule}
use Rattle.schedule.specs.Schedule.{Decided}
use Rattle.windows.specs.Promises.{state_in}
use Rattle.windows.specs.Boxes.{Allowed, free_boxes, free_top, free_chosen, CommitBoxes, cond_most, grows_allowed, boxes_chosen, allowed_lies}

-- boxes and a potential within them that keeps the rules
pub record StartsWithin (t : Ticket) (low high : ℕ → ℕ) (pot : List ℕ) : Type 0 where
  pub limits : Limits t low high
  pub long : length pot ≡ 81
  pub meeting : Meeting t low high (at pot)

-- ---- planning, from the times of a schedule

module _ {t : Ticket} (G : Given t) where
  -- windows that open and close at once
  pub plan_started : {times pot : List ℕ} {r : Bool} → Decided t times r → r ≡ true → Pairs t.events (λ i. at times (suc i)) (λ i. at times (suc i)) pot t.events
      → StartsWithin t (at (replicate 81 0)) (at (replicate 81 t.horizon)) pot
  unfolding close_node
  plan_started {times} {pot} D e P =
      let n = t.events in
      let T = D.found e in
      record {
        limits = λ v lo hi. (omega (arith, replicate_most 81 0 v), omega (arith, replicate_most 81 t.horizon v, G.top));
        long = P.nodes.long;
        meeting = record {
          origin = P.nodes.origin;
          above_low = λ v lo hi. omega (arith, (free_boxes G).lowest v lo hi);
          below_high = λ v lo hi. rw ((free_boxes G).highest v lo hi) (by_nodes (λ v. at pot v ≤ t.horizon) n
              (λ i l. omega (arith, P.first i l, T.inside (suc i) l))
              (λ i l. omega (arith, P.second i l, T.inside (suc i) l)) v lo hi);
          ordered = λ i l. omega (arith, P.first i l, P.second i l);
          obeys = λ j l. omega (
            arith,
            opened (at t.from j) (G.from_point j l),
            closed (at t.to j) (G.to_point j l),
            rw (close_self (at t.to j)) at (T.obeys j l),
          );
        };
      }
    where
      opened : (q : ℕ) → q ≤ t.events → at pot q ≡ at times q
      opened zero l = P.nodes.origin ∙ sym (D.found e).origin
      opened (suc i) l = P.first i l

      closed : (q : ℕ) → q ≤ t.events → at pot (close_node t.events q) ≡ at times q
      closed zero l = P.nodes.origin ∙ sym (D.found e).origin
      closed (suc i) l = P.second i l

  no_flags : flag_list t.events (replicate 40 0) ≡ replicate (events (content t)) false
  no_flags = ext_get_or false (flag_list t.events (replicate 40 0)) (replicate (events (content t)) false)
      (length_flag_list t.events (replicate 40 0) ∙ sym (length-replicate (events (content t)) false ∙ in_events t))
      (λ i l.
      let li : i < t.events = omega (arith, length_flag_list t.events (replicate 40 0)) in
      flag_at t.events (replicate 40 0) i li ∙ ap (λ x. eqb x 1) (zeros_at 40 i) ∙ sym (none (events (content t)) i))
    where
      none : (n i : ℕ) → get_or (replicate n false) i false ≡ false
      none zero i = refl
      none (suc n) zero = refl
      none (suc n) (suc i) = none n i

  module _ (opens closes : List ℕ) (C : Chosen (content t) (Allowed t (at (replicate 81 0)) (at (replicate 81 t.horizon))) (window_list t.events opens closes)) where
    pub plan_answer : {times : List ℕ} {r : Bool} → Decided t times r → r ≡ true
        → plan (content t) ≡ accepted (state_in t (replicate 40 0) opens closes (replicate 5 0))
    unfolding window_list flag_list
    plan_answer {times} D e =
        rw no_flags
        (plan_is (content t) (times_of t.events (at times)) (window_list t.events opens closes)
        (schedule_test (content t) (times_of t.events (at times)) (timed_schedule G (at times) (D.found e))) (free_chosen G (free_boxes G) (window_list t.events opens closes) C))

    pub plan_lies : Lie t opens closes
    plan_lies = allowed_lies G (at (replicate 81 0)) (at (replicate 81 t.horizon)) (window_list t.events opens closes) (free_top G (free_boxes G)) C.allowed

  pub plan_none : {times : List ℕ} {r : Bool} → Decided t times r → r ≡ false → plan (content t) ≡ refused 9
  plan_none D e = plan_refused (content t) (λ ts s. D.none e (temporal.time ts) (schedule_timed G ts s))

-- ---- a commitment, from fit windows

module _ {t : Ticket} (G : Given t) {flags opens closes low high : List ℕ} (L : Limited t.horizon t.events flags opens closes low high)
    (E : Ends (content t) (window_list t.events opens closes)) where
  kept : CommitBoxes t (flag_list t.events flags) (window_list t.events opens closes) (at low) (at high)
  kept =
      let n = t.events in
      record {
        open_low = λ i l. rw (flag_at n flags i l, window_at_lem n opens closes i l) (L.lows.first i l);
        open_high = λ i l. rw (window_at_lem n opens closes i l) (L.highs.first i l);
        close_low = λ i l. rw (window_at_lem n opens closes i l) (L.lows.second i l);
        close_high = λ i l. rw (flag_at n flags i l, window_at_lem n opens closes i l) (L.highs.second i l);
      }

  -- the ends of window i + 1
  ends_at : (i : ℕ) → i < t.events → (at opens i ≤ at closes i) × (at closes i ≤ t.horizon)
  ends_at i l = (
    rw (window_at_lem t.events opens closes i l) at (E.ordered (suc i)),
    rw (window_at_lem t.events opens closes i l) at (E.inside (suc i)),
  )

  pub commit_started : {pot : List ℕ} → Pairs t.events (at opens) (at closes) pot t.events → StartsWithin t (at low) (at high) pot
  commit_started {pot} P =
      let n = t.events in
      let old = window_list n opens closes in
      let fs = flag_list n flags in
      record {
        limits = by_nodes (λ v. (at low v ≤ 1000000) × (at high v ≤ 1000000)) n
            (λ i l.
            let e = ends_at i l in (
              rw (L.lows.first i l) (cond_most (eqb (at flags i) 1) (at opens i) 0 1000000 (omega (arith, G.top)) (omega arith)),
              rw (L.highs.first i l) (omega (arith, G.top)),
            ))
            (λ i l.
            let e = ends_at i l in (
              rw (L.lows.second i l) (omega (arith, G.top)),
              rw (L.highs.second i l) (cond_most (eqb (at flags i) 1) (at closes i) t.horizon 1000000 (omega (arith, G.top)) G.top),
            ));
        long = P.nodes.long;
        meeting = meeting_same G (at low) (at high) (potential_of n old) (at pot) (pairs_potential opens closes P)
            (grows_allowed G fs old kept E old (test_grows (content t) fs old old (itself_grows (content t) fs old E))).meeting;
      }

  pub commit_chosen : {ws : List Window} → Chosen (content t) (Allowed t (at low) (at high)) ws
      → Chosen (content t) (Grows (content t) (flag_list t.events flags) (window_list t.events opens closes)) ws
  commit_chosen {ws} C = boxes_chosen G (flag_list t.events flags) (window_list t.events opens closes) kept E ws C

-- windows that fit lie within the horizon
pub ends_lie : (t : Ticket) (opens closes : List ℕ) → Ends (content t) (window_list t.events opens closes) → Lie t opens closes
ends_lie t opens closes E = below-All (Lies t.horizon) origin (window_list t.events opens closes) (λ i l. (E.ordered (suc i), E.inside (suc i)))

-- ---- what is asked, in arrays

module _ (n i : ℕ) (lt : i < n) where
  put_window : (opens closes : List ℕ) (o c : ℕ) → i < length opens → i < length closes
      → window_list n (set opens i o) (set closes i c) ≡ put (window_list n opens closes) (suc i) (record { opens = o; closes = c })
  unfolding window_list
  put_window opens closes o c lo lc = firsts_set n _ _ i _ lt
      (λ t. record { opens = get_or-set_same opens i o 0 lo t; closes = get_or-set_same closes i c 0 lc t })
      (λ j q t. record { opens = get_or-set_other opens i j o 0 q t; closes = get_or-set_other closes i j c 0 q t })

  put_flag : (flags : List ℕ) → i < length flags → flag_list n (set flags i 1) ≡ put (flag_list n flags) (suc i) true
  unfolding flag_list
  put_flag flags l = firsts_set n _ _ i _ lt (ap (λ x. eqb x 1) (get_or-set_same flags i 1 0 l)) (λ j q. ap (λ x. eqb x 1) (get_or-set_other flags i j 1 0 q))

-- a commitment in the owner's name that nothing refuses, where the owner's count can rise
pub record Asked (t : Ticket) (flags opens closes : List ℕ) (event o c : ℕ) : Type 0 where
  pub valid : Valid (content t)
  pub passes : cause (state_in t flags opens closes (replicate 5 0)) (asking (owner_of (content t) event) event o c) ≡ 0
  pub flags_long : length flags ≡ 40
  pub opens_long : length opens ≡ 40
  pub closes_long : length closes ≡ 40

module _ {t : Ticket} {flags opens closes : List ℕ} {event o c : ℕ} (A : Asked t flags opens closes event o c) where
  asked : Acceptable (state_in t flags opens closes (replicate 5 0)) (asking (owner_of (content t) event) event o c)
  asked = acceptable (state_in t flags opens closes (replicate 5 0)) (asking (owner_of (content t) event) event o c) (rw A.passes tt)

  pub asked_event : (0 < event) × (event ≤ t.events) × (event ≤ 40)
  asked_event = (asked.event.0, rw (in_events t) at asked.event.1, omega (arith, asked.event.1, A.valid.events_limit))

  same_event : suc (event - 1) ≡ event
  same_event = omega (arith, asked_event)

  window_is : window_list t.events (set opens (event - 1) o) (set closes (event - 1) c) ≡ put (window_list t.events opens closes) event (record { opens = o; closes = c })
  window_is =
      put_window t.events (event - 1) (omega (arith, asked_event)) opens closes o c (omega (arith, asked_event)) (omega (arith, asked_event))
      ∙ ap (λ e. put (window_list t.events opens closes) e (record { opens = o; closes = c })) same_event

  flag_is : flag_list t.events (set flags (event - 1) 1) ≡ put (flag_list t.events flags) event true
  flag_is =
      put_flag t.events (event - 1) (omega (arith, asked_event)) flags (omega (arith, asked_event))
      ∙ ap (λ e. put (flag_list t.events flags) e true) same_event

  -- the windows with the new one are fit
  pub asked_ends : Ends (content t) (window_list t.events (set opens (event - 1) o) (set closes (event - 1) c))
  unfolding window_list
  asked_ends =
      rw window_is
      (narrowed (content t) (window_list t.events opens closes)
      (fit_ends (content t) (distinct (content t) A.valid) (window_list t.events opens closes) asked.fit)
      event (record { opens = o; closes = c }) asked.event.0 asked.event.1 asked.after asked.ordered asked.before)

  pub commit_answer : (opens' closes' : List ℕ)
      → Chosen (content t) (Grows (content t) (flag_list t.events (set flags (event - 1) 1)) (window_list t.events (set opens (event - 1) o) (set closes (event - 1) c)))
      (window_list t.events opens' closes')
      → (counts : List ℕ) → get_or counts (owner_of (content t) event) 0 ≢ 65535
      → commit (state_in t flags opens closes counts) (asking (owner_of (content t) event) event o c)
      ≡ accepted (state_in t (set flags (event - 1) 1) opens' closes' (raise counts (owner_of (content t) event)))
  unfolding window_list flag_list
  commit_answer opens' closes' C counts n =
      rw flag_is
      (commit_is (state_in t flags opens closes counts) (asking (owner_of (content t) event) event o c) (window_list t.events opens' closes')
      (cause_counts (state_in t flags opens closes (replicate 5 0)) (asking (owner_of (content t) event) event o c) counts n A.passes) (rw (flag_is, window_is) at C))

  -- the store of the new window stays within the events
  pub asked_within : {xs' : List ℕ} (xs : List ℕ) (x : ℕ) → Within t.events (set xs (event - 1) x) xs' → Within t.events xs xs'
  asked_within {xs'} xs x W = record {
    long = W.long ∙ length-set xs (event - 1) x;
    past = λ i l. W.past i l ∙ get_or-set_other xs (event - 1) i x 0 (λ q. omega (arith, asked_event));
  }
