-- What the stops and the writing come to: the distances and the output of the definition, or no schedule.
-- Rests on Distances for the entries and on `temporal`'s TableRows for the rows.
use Prim.Native.Nat.{ℕ, zero, suc, ◌+◌, ◌*◌, ◌-◌, ◌/◌, ◌%◌, ◌≤◌, ◌<◌, min}
use Rattle.std.specs.Prelude.{◌≡◌, Bool, true, false, List, ◌++◌, ◌≢◌, T, ℤ, pos, length, drop}
use Rattle.std.proofs.Common.{sym, ◌∙◌, mod-lt, div-add-mod', div-lt_iff_lt-mul, length-append, length-drop, ext_get_or}
use Rattle.std.proofs.Math.Path.{ap₂}
use native.Mathlib.Omega.{arith}
use Rattle.temporal.specs.Ticket.{Ticket, events}
use Rattle.temporal.specs.Distance.{consistent, distance}
use Rattle.temporal.specs.Run.{Valid}
use Rattle.temporal.specs.Table.{rows}
use Rattle.closure.specs.Cases.{by_lt}
use Rattle.temporal.proofs.TableRows.{length_rows, rows_first, rows_beyond}
use Rattle.closure.specs.Matrix.{Matrix, none, shown, join, Everywhere, shown_some}
use Rattle.closure.specs.Start.{first_entries, started}
use Rattle.closure.specs.Stops.{after, Floors, AboveFloors, Working, working}
use Rattle.closure.specs.Distances.{small, all_consistent, all_distance, no_schedule}
use Rattle.closure.specs.ShortestPaths.{entries_kept, entries_small}
use Rattle.closure.specs.Steps.{Closed, Written}
use Rattle.closure.specs.Written.{square}

-- ---- entries that are the first ones at all points of the network

module _ (n : ℕ) (D E : Matrix) (same : Everywhere n (λ i j. D i j ≡ E i j)) where
  after_same : (s : ℕ) → Everywhere n (λ i j. after n D s i j ≡ after n E s i j)
  unfolding after
  after_same zero i j li lj = same i j li lj
  after_same (suc s) i j li lj =
      let p = n - s in
      let lp : p ≤ n = omega arith in
      ap₂ min (after_same s i j li lj) (ap₂ join (after_same s i p li lp) (after_same s p j lp lj))

  floors_same : (s : ℕ) → AboveFloors n D s → AboveFloors n E s
  floors_same s h r l i j li lj = rw (← (after_same r i j li lj)) (h r l i j li lj)

-- A ticket of n events, and entries D that are its first ones.
module _ (k : Ticket) (valid : Valid k) (n : ℕ) (count : events k ≡ n) (D : Matrix) (same : Everywhere n (λ i j. D i j ≡ first_entries k i j)) where
  pub start_floors : Floors n D
  start_floors i j li lj = rw (same i j li lj) ((started k valid).floors i j (omega (arith, count)) (omega (arith, count)))

  pub start_top : Everywhere n (λ i j. D i j ≤ none)
  start_top i j li lj = rw (same i j li lj) ((started k valid).top i j (omega (arith, count)) (omega (arith, count)))

  -- the entries R after all stops
  module _ (R : Matrix) {r : Bool} (closed : Closed n D R r) where
    last : r ≡ true → Everywhere n (λ i j. R i j ≡ after n (first_entries k) (n + 1) i j)
    last e i j li lj = closed.entries e i j li lj ∙ after_same n D (first_entries k) same (n + 1) i j li lj

    finished : r ≡ true → Working k (first_entries k) (events k + 1) (after (events k) (first_entries k) (events k + 1))
    finished e = working k valid (events k + 1) (omega arith) (rw count (floors_same n D (first_entries k) same (n + 1) (closed.kept e)))

    pub closed_small : r ≡ true → Everywhere n (λ i j. R i j ≤ 3000000)
    closed_small e i j li lj =
        let near = valid.horizon_limit in
        let below = rw count at (small k valid _ (finished e) i j (omega (arith, count)) (omega (arith, count))) in
        omega (arith, last e i j li lj)

    pub closed_consistent : r ≡ true → consistent k ≡ true
    closed_consistent e = all_consistent k valid _ (finished e)

    pub closed_distance : r ≡ true → Everywhere n (λ i j. distance k i j ≡ shown (R i j))
    closed_distance e i j li lj =
        let below = closed_small e i j li lj in
        rw (shown_some (R i j) (λ q. omega arith), last e i j li lj) (rw count at (all_distance k valid _ (finished e) i j (omega (arith, count)) (omega (arith, count))))

    pub closed_none : r ≡ false → consistent k ≡ false
    closed_none e =
        let s = closed.stopped e in
        let f = s.fallen in
        let stop_in = s.stop_in in
        let row_in = f.row_in in
        let column_in = f.column_in in
        no_schedule k valid s.stop (omega (arith, count))
        (rw count (floors_same n D (first_entries k) same s.stop s.before))
        f.row f.column (omega (arith, count)) (omega (arith, count))
        (rw (count, ← (after_same n D (first_entries k) same (suc s.stop) f.row f.column row_in column_in)) f.low)

  -- the entries R after the first s stops, on a ticket with a schedule
  module _ (has : T (consistent k)) (s : ℕ) (l : s ≤ n + 1) where
    pub start_kept : AboveFloors n D s
    start_kept = floors_same n (first_entries k) D (λ i j li lj. sym (same i j li lj)) s (rw count at (entries_kept k valid has s (omega (arith, count))))

    module _ (R : Matrix) (next : Everywhere n (λ i j. R i j ≡ after n D s i j)) where
      pub after_first : Everywhere n (λ i j. R i j ≡ after n (first_entries k) s i j)
      after_first i j li lj = next i j li lj ∙ after_same n D (first_entries k) same s i j li lj

      pub after_small : Everywhere n (λ i j. R i j ≢ none → R i j ≤ 43000000)
      after_small i j li lj =
          rw (after_first i j li lj) (rw count at (entries_small k valid has s (omega (arith, count)) i j (omega (arith, count)) (omega (arith, count))))

-- ---- the output

-- The numbers f of every two points, row by row at the start of the output.
module _ (n : ℕ) (f : ℕ → ℕ → ℤ) (R : Matrix) (before after : List ℤ) (few : n ≤ 40) (wide : 1681 ≤ length before)
    (far : Everywhere n (λ i j. f i j ≡ shown (R i j))) (w : Written n R before after) where
  abbrev filled : List ℤ
  filled = rows (n + 1) (n + 1) f ++ drop ((n + 1) * (n + 1)) before

  filled_length : length after ≡ length filled
  filled_length =
      simp (length-append, length-drop, length_rows)
      (omega (arith, square n few, w.long))

  pub written_filled : after ≡ rows (n + 1) (n + 1) f ++ drop ((n + 1) * (n + 1)) before
  written_filled =
      ext_get_or (pos 0) after filled filled_length (λ p l.
      by_lt p ((n + 1) * (n + 1))
      (λ m.
      let row : p / (n + 1) < n + 1 = (div-lt_iff_lt-mul (omega arith)).1 m in
      let column : p % (n + 1) < n + 1 = mod-lt p (omega arith) in
      rw (div-add-mod' p (n + 1)) at
      (w.cells (p / (n + 1)) (p % (n + 1)) (omega arith) (omega arith)
      ∙ sym (far (p / (n + 1)) (p % (n + 1)) (omega arith) (omega arith))
      ∙ sym (rows_first (n + 1) f before (p / (n + 1)) (p % (n + 1)) row column)))
      (λ m. w.beyond p m ∙ sym (rows_beyond (n + 1) f before p m)))
