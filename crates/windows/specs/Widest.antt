-- The least of the widest potentials of the window network gives the earliest of the widest sets of windows.
-- Rests on flow's LeastWidest and on the network of crate demands.
use Rattle.std.specs.Prelude.{◌≡◌, List, ◌∷◌, length}
use Rattle.std.proofs.Math.Path.{ap, sym}
use Rattle.std.proofs.Common.{◌∙◌, subst, ap₂, ⊎_elim, arith}
use Prim.Native.Nat.{ℕ, suc, ◌+◌, ◌*◌, ◌-◌, ◌≤◌, ◌<◌}
use Rattle.temporal.proofs.Lists.{get_d_past, below_or_not}
use Rattle.temporal.specs.Ticket as temporal
use Rattle.temporal.specs.Ticket.{Window, origin, weight, total}
use Rattle.temporal.specs.Best.{Chosen, Sooner}
use Rattle.network.specs.Network.{Feasible, Ordered}
use Rattle.network.specs.Stored.{at, stored}
use Rattle.flow.specs.Width as flow
use Rattle.flow.specs.Width.{LeastWidest, over}
use Rattle.flow.specs.Solve.{Spans}
use Rattle.network.specs.Sum.{sum_cong}
use Rattle.ticket.specs.declared.Ticket.{Ticket}
use Rattle.ticket.specs.Writing.{content}
use Rattle.potentials.specs.Arrays.{Held}
use Rattle.potentials.specs.Nodes.{close_node, close_most, windows_of, length_windows, potential_of, potential_open, potential_close, potential_node, potential_windows}
use Rattle.demands.specs.Network.{Built, Limits, Meeting, meeting_same, edges, feasible_meeting, meeting_feasible}
use Rattle.fitness.specs.Total.{total_in}
use Rattle.windows.specs.Boxes.{Allowed}

-- a potential of the events' weights, widest and of these least
pub record Widened (net : List ℕ) (m n : ℕ) (owners pot : List ℕ) : Type 0 where
  pub weights : ℕ → ℕ
  pub owned : (i : ℕ) → i < n → weights (suc i) ≡ weight (at owners i)
  pub best : LeastWidest (stored n m net) weights (at pot)

-- ---- the total width

-- the network's total is the windows' where each event weighs what its owner does
module _ (net : List ℕ) (m : ℕ) (t : Ticket) (w : ℕ → ℕ) (owned : (i : ℕ) → i < t.events → w (suc i) ≡ weight (at t.owners i)) where
  pub total_potential : (ws : List Window) → length ws ≡ t.events → total (content t) ws ≡ flow.total (stored t.events m net) w (potential_of t.events ws)
  unfolding over
  total_potential ws e =
      let n = t.events in
      total_in t ws e
      ∙ sum_cong _ _ n (λ i l. sym (ap₂ ◌*◌ (owned i l) (ap₂ ◌-◌ (potential_close n ws (suc i) (omega arith)) (potential_open n ws (suc i) l))))

  pub total_windows : (p : ℕ → ℕ) → p 0 ≡ 0 → total (content t) (windows_of t.events p) ≡ flow.total (stored t.events m net) w p
  unfolding over
  total_windows p z =
      let n = t.events in
      total_potential (windows_of n p) (length_windows n p)
      ∙ sum_cong _ _ n (λ i l. ap (λ x. w (suc i) * x)
      (ap₂ ◌-◌ (potential_windows n p z (n + suc i) (omega arith)) (potential_windows n p z (suc i) (omega arith))))

-- ---- the best potential gives the best windows

module _ {net : List ℕ} {limit : ℕ} {t : Ticket} {low high : ℕ → ℕ} (B : Built net t low high) (G : Held limit t) (L : Limits t low high) where
  -- what `solve` asks
  pub built_spans : Spans net (edges t) t.events
  built_spans =
      let n = t.events in (
        λ i. 4 * n + (i - 1),
        record {
          edge = λ i lo hi. omega arith;
          from = λ i lo hi.
              let e : n + suc (i - 1) ≡ n + i = omega arith in
              (B.order (i - 1) (omega arith)).tail ∙ e;
          to = λ i lo hi.
              let e : suc (i - 1) ≡ i = omega arith in
              (B.order (i - 1) (omega arith)).head ∙ e;
          free = λ i lo hi. omega (arith, (B.order (i - 1) (omega arith)).cost);
        },
      )

  module _ (w p : ℕ → ℕ) (owned : (i : ℕ) → i < t.events → w (suc i) ≡ weight (at t.owners i)) (best : LeastWidest (stored t.events (edges t) net) w p) where
    met : Meeting t low high p
    met = feasible_meeting B G L p best.widest.feasible

    the_total : total (content t) (windows_of t.events p) ≡ flow.total (stored t.events (edges t) net) w p
    the_total = total_windows net (edges t) t w owned p met.origin

    wide : (vs : List Window) → Allowed t low high vs → (total (content t) vs ≡ flow.total (stored t.events (edges t) net) w (potential_of t.events vs))
        × Feasible (stored t.events (edges t) net) (potential_of t.events vs) × Ordered (stored t.events (edges t) net) (potential_of t.events vs)
    wide vs a = (
      total_potential net (edges t) t w owned vs a.count,
      meeting_feasible B G L (potential_of t.events vs) a.meeting,
      λ i lo hi.
          let e : suc (i - 1) ≡ i = omega arith in
          subst (λ j. potential_of t.events vs j ≤ potential_of t.events vs (t.events + j)) e (a.meeting.ordered (i - 1) (omega arith)),
    )

    sooner : (vs : List Window) → Allowed t low high vs → total (content t) vs ≡ total (content t) (windows_of t.events p)
        → (v : ℕ) → v < 2 * t.events + 1 → p v ≤ potential_of t.events vs v
    sooner vs a e =
        let r = wide vs a in
        best.least (potential_of t.events vs) record {
          feasible = r.1;
          ordered = r.2;
          widest = λ q f o. omega (arith, the_total, r.0, best.widest.widest q f o);
        }

    early : (vs : List Window) → Allowed t low high vs → total (content t) vs ≡ total (content t) (windows_of t.events p) → Sooner (windows_of t.events p) vs
    early vs a e q =
        let n = t.events in
        let x = windows_of n p in
        ⊎_elim
        (λ (l : q < suc n).
        let lc : close_node n q < 2 * n + 1 = omega (arith, close_most n q) in (
          omega (
            arith,
            potential_open n x q (omega arith),
            potential_windows n p met.origin q (omega arith),
            potential_open n vs q (omega arith),
            sooner vs a e q (omega arith),
          ),
          omega (
            arith,
            potential_node n x q,
            potential_windows n p met.origin (close_node n q) lc,
            potential_node n vs q,
            sooner vs a e (close_node n q) lc,
          ),
        ))
        (λ (l : suc n ≤ q).
        let none : temporal.window_of x q ≡ origin = get_d_past (origin ∷ x) origin q (omega (arith, length_windows n p)) in
        (omega (arith, ap (λ (w : Window). w.opens) none), omega (arith, ap (λ (w : Window). w.closes) none)))
        (below_or_not q (suc n))

    pub potential_chosen : Chosen (content t) (Allowed t low high) (windows_of t.events p)
    potential_chosen = record {
      allowed = record {
        count = length_windows t.events p;
        meeting = meeting_same G low high p (potential_of t.events (windows_of t.events p)) (potential_windows t.events p met.origin) met;
      };
      widest = λ vs a. let r = wide vs a in omega (arith, the_total, r.0, best.widest.widest (potential_of t.events vs) r.1 r.2);
      earliest = early;
    }
