-- After the last stop the entries are the distances; where one falls below its floor there is no schedule. Rests on `temporal`'s law for tables.
use Rattle.std.specs.Prelude.{ℕ, suc, ◌+◌, ◌≤◌, ◌<◌, ◌≡◌, true, false, List}
use Rattle.std.proofs.Common.{ap, arith}
use Rattle.std.proofs.Math.Dec.{not_T}
use Rattle.temporal.proofs.Lists.{All-below, below-All, T-true, T-false}
use Rattle.temporal.specs.Bound.{above, below}
use Rattle.temporal.specs.Ticket.{Rule, Ticket, events, time, Schedule}
use Rattle.temporal.specs.Distance.{consistent, distance}
use Rattle.temporal.proofs.Distance.{consistent_has}
use Rattle.temporal.specs.Run.{ValidRule, Valid}
use Rattle.temporal.proofs.DistanceLaws.{inside, table_consistent, table_distance}
use Rattle.temporal.specs.DistanceLaws.{IsTable}
use Rattle.paths.proofs.Walks.{valid_points}
use Rattle.closure.specs.Cases.{by_eq}
use Rattle.closure.specs.Signed.{bias, lower, raise_parts}
use Rattle.closure.specs.Matrix.{Matrix, floor, Everywhere, floor_same, floor_other}
use Rattle.closure.specs.Start.{unused, rule_at, first_entries, Sound, started}
use Rattle.closure.specs.Stops.{after, Floors, AboveFloors, Working, working_sound}

-- The entries D after all stops.
module _ (k : Ticket) (valid : Valid k) (D : Matrix) (h : Working k (first_entries k) (events k + 1) D) where
  to_origin : (i : ℕ) → i ≤ events k → D i 0 ≤ bias
  to_origin i li = omega (arith, h.below i 0 li (omega arith), (started k valid).origin i li)

  from_origin : (j : ℕ) → j ≤ events k → D 0 j ≤ bias + k.horizon
  from_origin j lj = omega (arith, h.below 0 j (omega arith) lj, (started k valid).horizon j lj)

  pub small : Everywhere (events k) (λ i j. D i j ≤ bias + k.horizon)
  small i j li lj =
      let a = to_origin i li in
      let b = from_origin j lj in
      let v = valid.horizon_limit in
      omega (arith, h.triangle 0 (omega arith) (omega arith) i j li lj (omega arith) (omega arith))

  is_table : IsTable k bias D
  is_table =
      record {
        self = h.diagonal;
        triangle = λ i j p li lj lp.
            let v = valid.horizon_limit in
            h.triangle p lp (omega arith) i j li lj (omega (arith, small i p li lp)) (omega (arith, small p j lp lj));
        upper = from_origin;
        lower = to_origin;
        obeys = below-All (λ (r : Rule). D r.from r.to + below r.bound ≤ bias + above r.bound) unused k.rules (λ e l.
            let c = (rule_at k.rules e).bound in
            let r = All-below (ValidRule (events k)) unused k.rules valid.rules_valid e l in
            omega (arith, h.below (rule_at k.rules e).from (rule_at k.rules e).to r.from_point r.to_point, (started k valid).rules e l, raise_parts c r.at_least));
        sound = h.sound;
      }

  pub all_consistent : consistent k ≡ true
  all_consistent = T-true (consistent k) (table_consistent k (valid_points k valid) bias D is_table)

  pub all_distance : Everywhere (events k) (λ i j. distance k i j ≡ lower (D i j))
  all_distance = table_distance k (valid_points k valid) bias D is_table

module _ (k : Ticket) (valid : Valid k) where
  -- with a schedule no entry is below its floor
  pub sound_floors : (ts : List ℕ) → Schedule k ts → (D : Matrix) → Sound k D → Floors (events k) D
  sound_floors ts schedule D sound i j li lj =
      let h = sound ts schedule i j li lj in
      let v = valid.horizon_limit in
      by_eq i j
      (λ e. omega (arith, floor_same i, ap (floor i) e, ap (time ts) e))
      (λ q. omega (arith, floor_other i j q, inside k ts schedule i))

  -- an entry below its floor rules out every schedule
  pub no_schedule : (s : ℕ) → s ≤ events k → AboveFloors (events k) (first_entries k) s → (i j : ℕ) → i ≤ events k → j ≤ events k
      → after (events k) (first_entries k) (suc s) i j < floor i j → consistent k ≡ false
  no_schedule s ls kept i j li lj low =
      T-false (consistent k) (not_T (consistent k) (λ t.
      let r = (consistent_has k).0 t in
      let floors = sound_floors r.0 r.1 (after (events k) (first_entries k) (suc s)) (working_sound k valid s ls kept) in
      omega (arith, low, floors i j li lj)))
