-- The boxes of planning and of a commitment: the windows within them are those that planning and the commitment allow.
-- Hence the best windows within the boxes are their answers. Rests on temporal's Ends and Grows.
use Rattle.std.specs.Prelude.{◌≡◌, Bool, true, false, cond, List, length, replicate, ℕ, zero, suc, ◌+◌, ◌*◌, ◌≤◌, ◌<◌}
use Rattle.std.proofs.Common.{◌∙◌, arith}
use Rattle.std.proofs.lemmas.List.{get_or-replicate}
use Rattle.temporal.specs.Lists.{All}
use Rattle.temporal.proofs.Lists.{below-All}
use Rattle.temporal.specs.Ticket as temporal
use Rattle.temporal.specs.Ticket.{Window, origin}
use Rattle.temporal.specs.Ends.{Ends}
use Rattle.temporal.specs.Ticket.{Lies}
use Rattle.temporal.specs.Best.{Chosen}
use Rattle.temporal.proofs.Best.{chosen_under}
use Rattle.temporal.specs.Plan.{flagged}
use Rattle.temporal.specs.FitSets.{KeepsAt, Grows}
use Rattle.network.specs.Stored.{at}
use Rattle.ticket.specs.declared.Ticket.{Ticket}
use Rattle.ticket.specs.Writing.{content}
use Rattle.ticket.proofs.Content.{in_events}
use Rattle.potentials.specs.Arrays.{Held, Given}
use Rattle.potentials.specs.Nodes.{by_nodes, potential_of, potential_open, potential_close}
use Rattle.demands.specs.Rules.{ends_obeyed, obeyed_ends}
use Rattle.demands.specs.Network.{Meeting}

-- n windows within the boxes that keep the rules
pub record Allowed (t : Ticket) (low high : ℕ → ℕ) (ws : List Window) : Type 0 where
  pub count : length ws ≡ t.events
  pub meeting : Meeting t low high (potential_of t.events ws)

module _ {limit : ℕ} {t : Ticket} (G : Held limit t) (low high : ℕ → ℕ) (ws : List Window) where
  ends_allowed : Ends (content t) ws
      → ((v : ℕ) → 0 < v → v < 2 * t.events + 1 → (low v ≤ potential_of t.events ws v) × (potential_of t.events ws v ≤ high v))
      → Allowed t low high ws
  ends_allowed E box =
      let n = t.events in
      record {
        count = E.count ∙ in_events t;
        meeting = record {
          origin = potential_open n ws 0 (omega arith);
          above_low = λ v lo hi. (box v lo hi).0;
          below_high = λ v lo hi. (box v lo hi).1;
          ordered = λ i l. omega (arith, potential_open n ws (suc i) l, potential_close n ws (suc i) (omega arith), E.ordered (suc i));
          obeys = ends_obeyed G ws E;
        };
      }

  pub allowed_lies : ((i : ℕ) → i < t.events → high (t.events + suc i) ≤ t.horizon) → Allowed t low high ws → All (Lies t.horizon) ws
  allowed_lies top A =
      let n = t.events in
      below-All (Lies t.horizon) origin ws (λ i l.
      let li : i < n = omega (arith, A.count) in
      let o = potential_open n ws (suc i) li in
      let c = potential_close n ws (suc i) (omega arith) in
      (omega (arith, o, c, A.meeting.ordered i li), omega (arith, c, A.meeting.below_high (n + suc i) (omega arith) (omega arith), top i li)))

  allowed_ends : ((i : ℕ) → i < t.events → high (t.events + suc i) ≤ t.horizon) → Allowed t low high ws → Ends (content t) ws
  allowed_ends top A = obeyed_ends G ws A.count (allowed_lies top A) A.meeting.obeys

-- ---- planning: every open and close from 0 to the horizon

pub record Free (t : Ticket) (low high : ℕ → ℕ) : Type 0 where
  pub lowest : (v : ℕ) → 0 < v → v < 2 * t.events + 1 → low v ≡ 0
  pub highest : (v : ℕ) → 0 < v → v < 2 * t.events + 1 → high v ≡ t.horizon

pub free_boxes : {limit : ℕ} {t : Ticket} → Held limit t → Free t (at (replicate 81 0)) (at (replicate 81 t.horizon))
free_boxes {t = t} G = record {
  lowest = λ v lo hi. get_or-replicate {A = ℕ} 81 v 0 0 (omega (arith, G.few));
  highest = λ v lo hi. get_or-replicate {A = ℕ} 81 v t.horizon 0 (omega (arith, G.few));
}

module _ {limit : ℕ} {t : Ticket} (G : Held limit t) {low high : ℕ → ℕ} (F : Free t low high) where
  pub free_allowed : (ws : List Window) → Ends (content t) ws → Allowed t low high ws
  free_allowed ws E =
      let n = t.events in
      ends_allowed G low high ws E (by_nodes (λ v. (low v ≤ potential_of n ws v) × (potential_of n ws v ≤ high v)) n
      (λ i l. (
        omega (arith, F.lowest (suc i) (omega arith) (omega arith)),
        omega (arith, F.highest (suc i) (omega arith) (omega arith), potential_open n ws (suc i) l, E.ordered (suc i), E.inside (suc i)),
      ))
      (λ i l. (
        omega (arith, F.lowest (n + suc i) (omega arith) (omega arith)),
        omega (arith, F.highest (n + suc i) (omega arith) (omega arith), potential_close n ws (suc i) (omega arith), E.inside (suc i)),
      )))

  pub free_top : (i : ℕ) → i < t.events → high (t.events + suc i) ≤ t.horizon
  free_top i l = omega (arith, F.highest (t.events + suc i) (omega arith) (omega arith))

  pub free_chosen : (ws : List Window) → Chosen (content t) (Allowed t low high) ws → Chosen (content t) (Ends (content t)) ws
  free_chosen ws C = chosen_under (content t) (Allowed t low high) (Ends (content t)) (λ vs. allowed_ends G low high vs free_top) free_allowed ws C

-- ---- a commitment: the committed windows as they are, the free ones at least as wide as before

pub record CommitBoxes (t : Ticket) (flags : List Bool) (old : List Window) (low high : ℕ → ℕ) : Type 0 where
  pub open_low : (i : ℕ) → i < t.events → low (suc i) ≡ cond (flagged flags (suc i)) (temporal.window_of old (suc i)).opens 0
  pub open_high : (i : ℕ) → i < t.events → high (suc i) ≡ (temporal.window_of old (suc i)).opens
  pub close_low : (i : ℕ) → i < t.events → low (t.events + suc i) ≡ (temporal.window_of old (suc i)).closes
  pub close_high : (i : ℕ) → i < t.events → high (t.events + suc i) ≡ cond (flagged flags (suc i)) (temporal.window_of old (suc i)).closes t.horizon

keeps_box : (b : Bool) (h : ℕ) (v w : Window) → w.closes ≤ h → KeepsAt b v w
    → (cond b v.opens 0 ≤ w.opens) × (w.opens ≤ v.opens) × (v.closes ≤ w.closes) × (w.closes ≤ cond b v.closes h)
keeps_box true h v w l r = (omega arith, omega arith, omega arith, omega arith)
keeps_box false h v w l r = (omega arith, omega arith, omega arith, omega arith)

box_keeps : (b : Bool) (h : ℕ) (v w : Window) → cond b v.opens 0 ≤ w.opens → w.opens ≤ v.opens → v.closes ≤ w.closes → w.closes ≤ cond b v.closes h → KeepsAt b v w
box_keeps true h v w a b c d = (omega arith, omega arith)
box_keeps false h v w a b c d = (omega arith, omega arith)

pub cond_most : (b : Bool) (x y z : ℕ) → x ≤ z → y ≤ z → cond b x y ≤ z
cond_most true x y z p q = p
cond_most false x y z p q = q

module _ {t : Ticket} (G : Given t) (flags : List Bool) (old : List Window) {low high : ℕ → ℕ} (K : CommitBoxes t flags old low high) (E : Ends (content t) old) where
  pub grows_allowed : (ws : List Window) → Grows (content t) flags old ws → Allowed t low high ws
  grows_allowed ws g =
      let n = t.events in
      ends_allowed G low high ws g.ends (by_nodes (λ v. (low v ≤ potential_of n ws v) × (potential_of n ws v ≤ high v)) n
      (λ i l. (
        rw (K.open_low i l, potential_open n ws (suc i) l) (box i l).0,
        rw (K.open_high i l, potential_open n ws (suc i) l) (box i l).1,
      ))
      (λ i l. (
        rw (K.close_low i l, potential_close n ws (suc i) (omega arith)) (box i l).2,
        rw (K.close_high i l, potential_close n ws (suc i) (omega arith)) (box i l).3,
      )))
    where
      box : (i : ℕ) → i < t.events
          → (cond (flagged flags (suc i)) (temporal.window_of old (suc i)).opens 0 ≤ (temporal.window_of ws (suc i)).opens)
          × ((temporal.window_of ws (suc i)).opens ≤ (temporal.window_of old (suc i)).opens)
          × ((temporal.window_of old (suc i)).closes ≤ (temporal.window_of ws (suc i)).closes)
          × ((temporal.window_of ws (suc i)).closes ≤ cond (flagged flags (suc i)) (temporal.window_of old (suc i)).closes t.horizon)
      box i l = keeps_box (flagged flags (suc i)) t.horizon (temporal.window_of old (suc i)) (temporal.window_of ws (suc i))
          (omega (arith, g.ends.inside (suc i))) (g.kept (suc i) (omega (arith, in_events t)))

  pub boxes_top : (i : ℕ) → i < t.events → high (t.events + suc i) ≤ t.horizon
  boxes_top i l = rw (K.close_high i l)
      (cond_most (flagged flags (suc i)) (temporal.window_of old (suc i)).closes t.horizon t.horizon (omega (arith, E.inside (suc i))) (omega arith))

  allowed_grows : (ws : List Window) → Allowed t low high ws → Grows (content t) flags old ws
  allowed_grows ws A = record { ends = allowed_ends G low high ws boxes_top A; kept = λ p l. keep p (omega (arith, in_events t)) }
    where
      keep : (q : ℕ) → q ≤ t.events → KeepsAt (flagged flags q) (temporal.window_of old q) (temporal.window_of ws q)
      keep zero l = (omega arith, omega arith)
      keep (suc i) l =
          let n = t.events in
          let M = A.meeting in
          let o = potential_open n ws (suc i) l in
          let c = potential_close n ws (suc i) (omega arith) in
          box_keeps (flagged flags (suc i)) t.horizon (temporal.window_of old (suc i)) (temporal.window_of ws (suc i))
          (rw (K.open_low i l, o) at (M.above_low (suc i) (omega arith) (omega arith)))
          (rw (K.open_high i l, o) at (M.below_high (suc i) (omega arith) (omega arith)))
          (rw (K.close_low i l, c) at (M.above_low (n + suc i) (omega arith) (omega arith)))
          (rw (K.close_high i l, c) at (M.below_high (n + suc i) (omega arith) (omega arith)))

  pub boxes_chosen : (ws : List Window) → Chosen (content t) (Allowed t low high) ws → Chosen (content t) (Grows (content t) flags old) ws
  boxes_chosen ws C = chosen_under (content t) (Allowed t low high) (Grows (content t) flags old) allowed_grows grows_allowed ws C
