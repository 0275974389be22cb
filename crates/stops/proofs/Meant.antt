-- The laws of what specs/Meant defines.
use Rattle.std.specs.Prelude.{ℕ, ◌+◌, ◌*◌, ◌≤◌, ◌<◌, ◌≡◌, refl, List, ◌++◌, ◌≢◌, T, ℤ, pos, drop, ◌≤ℤ◌}
use Rattle.std.proofs.Math.Path.{sym, subst}
use Rattle.std.proofs.Common.{ap, ◌∙◌}
use native.Mathlib.Omega.{arith}
use Rattle.std.proofs.Math.IntN.{sub_ℕ}
use Rattle.temporal.specs.Bound.{above, below}
use Rattle.temporal.specs.Ticket.{Ticket, events}
use Rattle.temporal.specs.Distance.{consistent, distance}
use Rattle.temporal.proofs.DistanceLaws.{parts, sub_le, sub-zero}
use Rattle.temporal.specs.Run.{Valid}
use Rattle.temporal.specs.Table.{filled}
use Rattle.temporal.proofs.TableRows.{rows_cong}
use Rattle.closure.specs.Cases.{by_eq}
use Rattle.closure.specs.Signed.{bias, lower}
use Rattle.closure.specs.Matrix.{none, no_path, shown, Everywhere, shown_none, shown_some}
use Rattle.closure.specs.Start.{first_entries}
use Rattle.closure.specs.Stops.{after}
use Rattle.closure.specs.ShortestPaths.{entries_hold, entries_self, entries_low, entries_small, entries_distance}
use Rattle.stops.specs.After.{taken, working_at, working}
use Rattle.stops.specs.Meant.{Entry}

-- a number that is shown of a path is not the one that is shown of none
shown_apart : (x : ℕ) → x ≤ 43000000 → lower x ≡ no_path → ⊥
unfolding above below
shown_apart x l e = omega (arith, parts x bias, ap above e, ap below e)

module _ (k : Ticket) (valid : Valid k) (has : T (consistent k)) where
  -- "after each stop every working entry is the shortest path, where there is one, whose inner points are stops already taken"
  pub working_means : (s : ℕ) → Everywhere (events k) (λ i j. Entry k (taken k s) i j (working_at k s i j))
  unfolding working_at
  working_means s i j li lj =
      let few : taken k s ≤ events k + 1 = omega arith in
      let m = entries_hold k valid has (taken k s) few i j li lj in
      let small = entries_small k valid has (taken k s) few i j li lj in
      by_eq (after (events k) (first_entries k) (taken k s) i j) none
      (λ e. rw (e, shown_none) (record { some = λ n. absurd (n refl); nothing = λ q. m.nothing e }))
      (λ n. rw (shown_some _ n) (record { some = λ q. m.some n; nothing = λ q. absurd (shown_apart _ (small n) q) }))

  -- from a point to itself it is 0,
  pub working_self : (s i : ℕ) → i ≤ events k → working_at k s i i ≡ pos 0
  unfolding working_at
  working_self s i li = rw (entries_self k valid has (taken k s) (omega arith) i li) (shown_some bias (λ e. omega arith))

  -- it is not below minus the horizon, nor above 41 millions
  pub working_range : (s : ℕ) → Everywhere (events k) (λ i j. working_at k s i j ≢ no_path
      → (sub_ℕ 0 k.horizon ≤ℤ working_at k s i j) × (working_at k s i j ≤ℤ pos 41000000))
  unfolding working_at
  working_range s i j li lj n =
      let x = after (events k) (first_entries k) (taken k s) i j in
      let few : taken k s ≤ events k + 1 = omega arith in
      let some : x ≢ none = λ e. n (ap shown e ∙ shown_none) in
      let low = entries_low k valid has (taken k s) few i j li lj in
      let high = entries_small k valid has (taken k s) few i j li lj some in
      rw (shown_some x some) (sub_le 0 k.horizon x bias (omega arith), subst (λ z. lower x ≤ℤ z) (sub-zero 41000000) (sub_le x bias 41000000 0 (omega arith)))

  -- and after all stops the distance
  module _ (s : ℕ) (l : events k < s) where
    pub working_distance : Everywhere (events k) (λ i j. working_at k s i j ≡ distance k i j)
    unfolding working_at
    working_distance i j li lj =
        let all : taken k s ≡ events k + 1 = omega arith in
        let d = entries_distance k valid has i j li lj in
        rw all (shown_some _ d.0 ∙ sym d.1)

    pub working_filled : (out : List ℤ) → working k s out ≡ filled (events k) k out
    working_filled out =
        ap (λ xs. xs ++ drop ((events k + 1) * (events k + 1)) out)
        (rows_cong (events k + 1) (events k + 1) (working_at k s) (distance k) (λ i j li lj. working_distance i j (omega arith) (omega arith)))
