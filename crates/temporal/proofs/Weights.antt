-- The laws of what specs/Weights defines.
use Rattle.std.specs.Prelude.{◌≡◌, refl, false, cond, T, eqb, get_or, set}
use Rattle.std.proofs.Common.{sym, ◌∙◌, ne_eqb}
use Rattle.std.proofs.Math.Path.{ap}
use mathlib.Core.List.{List, [], ◌∷◌, map}
use Prim.Native.Nat.{ℕ, zero, suc, ◌+◌, ◌*◌, ◌-◌, ◌≤◌, ◌<◌}
use native.Mathlib.Omega.{arith}
use Rattle.temporal.specs.Lists.{All}
use Rattle.temporal.proofs.Lists.{T-true}
use Rattle.temporal.specs.Ticket.{Ticket, events, time, Schedule, Window, origin, window_of, Fit, weights, weight, total_of, total}
use Rattle.temporal.proofs.Ends.{ends_fit, fit_ends, fits_fit}
use Rattle.temporal.specs.Best.{Sooner, Chosen, ChosenLatest}
use Rattle.temporal.specs.Distance.{consistent}
use Rattle.temporal.specs.Plan.{owner_of, accepted, planned, plan, planned_latest, plan_latest}
use Rattle.temporal.specs.FitSets.{still}
use Rattle.temporal.proofs.FitSets.{at_still, schedule_fits, put_same, narrowed}
use Rattle.temporal.specs.Run.{Valid}
use Rattle.temporal.proofs.RunHolds.{distinct, planned_chosen, consistent_has_plan}
use Rattle.temporal.proofs.LatestRun.{latest_chosen}
use Rattle.temporal.specs.Weights.{OnlyDatabase, widths}

-- "3 for the camera, 1 for wheel, lamps and stage, 0 for the database"
pub weights_are : (weight 0 ≡ 3) × (weight 1 ≡ 1) × (weight 2 ≡ 1) × (weight 3 ≡ 1) × (weight 4 ≡ 0)
unfolding weight weights
weights_are = (refl, refl, refl, refl, refl)

-- one window's part
part : (owner n : ℕ)
    → weight owner * n ≡ 3 * cond (eqb owner 0) n 0 + (cond (eqb owner 1) n 0 + (cond (eqb owner 2) n 0 + cond (eqb owner 3) n 0))
unfolding weight weights
part zero n = omega arith
part (suc zero) n = omega arith
part (suc (suc zero)) n = omega arith
part (suc (suc (suc zero))) n = omega arith
part (suc (suc (suc (suc zero)))) n = omega arith
part (suc (suc (suc (suc (suc o))))) n = rw (none 0 (omega arith), none 1 (omega arith), none 2 (omega arith), none 3 (omega arith)) (omega arith)
  where
    none : (device : ℕ) → device ≤ 4 → eqb (suc (suc (suc (suc (suc o))))) device ≡ false
    none device l = ne_eqb (suc (suc (suc (suc (suc o))))) device (λ e. omega arith)

summed : (owners : List ℕ) (ws : List Window)
    → total_of owners ws ≡ 3 * widths 0 owners ws + (widths 1 owners ws + (widths 2 owners ws + widths 3 owners ws))
summed [] ws = refl
summed (owner ∷ owners) [] = refl
summed (owner ∷ owners) (w ∷ ws) = omega (arith, part owner (w.closes - w.opens), summed owners ws)

-- three times the camera's widths, and those of wheel, lamps and stage: of every ticket, since an owner that is no device counts in neither
pub total_widths : (k : Ticket) (ws : List Window)
    → total k ws ≡ 3 * widths 0 k.owners ws + (widths 1 k.owners ws + (widths 2 k.owners ws + widths 3 k.owners ws))
total_widths k ws = summed k.owners ws

weightless : (owners : List ℕ) → All (λ o. o ≡ 4) owners → (ws : List Window) → total_of owners ws ≡ 0
unfolding weight weights
weightless [] h ws = refl
weightless (owner ∷ owners) h [] = refl
weightless (owner ∷ owners) h (w ∷ ws) = rw h.0 (omega (arith, weightless owners h.1 ws))

-- every total is 0
pub database_total : (k : Ticket) → OnlyDatabase k → (ws : List Window) → total k ws ≡ 0
database_total k d ws = weightless k.owners d ws

-- what is chosen of the sets of which P holds, in a plan or after a commitment, is the earliest of them, or the latest
module _ (k : Ticket) (d : OnlyDatabase k) (P : List Window → Type 0) (ws : List Window) where
  pub database_earliest : Chosen k P ws → (vs : List Window) → P vs → Sooner ws vs
  database_earliest c vs h = c.earliest vs h (database_total k d vs ∙ sym (database_total k d ws))

  pub database_latest : ChosenLatest k P ws → (vs : List Window) → P vs → Sooner vs ws
  database_latest c vs h = c.latest vs h (database_total k d vs ∙ sym (database_total k d ws))

module _ (k : Ticket) (v : Valid k) (d : OnlyDatabase k) (t : T (consistent k)) where
  -- the plan is the earliest of all fit sets
  pub database_plan : (plan k ≡ accepted (planned k)) × Fit k (planned k).windows × ((vs : List Window) → Fit k vs → Sooner (planned k).windows vs)
  database_plan =
      let r = consistent_has_plan k (distinct k v) t in
      (r.0, r.1.allowed, database_earliest k d (Fit k) (planned k).windows r.1)

  -- the latest plan is the latest of them
  pub database_plan_latest : (plan_latest k ≡ accepted (planned_latest k)) × Fit k (planned_latest k).windows
      × ((vs : List Window) → Fit k vs → Sooner vs (planned_latest k).windows)
  unfolding plan_latest
  database_plan_latest =
      let c = latest_chosen k (distinct k v) t in
      (rw (T-true (consistent k) t), c.allowed, database_latest k d (Fit k) (planned_latest k).windows c)

  -- each event's window closes at or before its time in every schedule: with `database_tick`, at its earliest time
  pub database_times : (ts : List ℕ) → Schedule k ts → (p : ℕ) → (window_of (planned k).windows p).closes ≤ time ts p
  unfolding still
  database_times ts s p =
      omega (arith, database_plan.2 (map still ts) (fits_fit k (map still ts) (schedule_fits k ts s)) p, ap (λ (w : Window). w.closes) (at_still ts p))

-- ---- an event of the database, beside others

-- its window may be any: the total stays
set_weightless : (owners : List ℕ) (ws : List Window) (i : ℕ) (w : Window) → get_or owners i 5 ≡ 4 → total_of owners (set ws i w) ≡ total_of owners ws
unfolding weight weights
set_weightless [] ws i w o = refl
set_weightless (owner ∷ owners) [] i w o = refl
set_weightless (owner ∷ owners) (v ∷ vs) zero w o = rw o (omega arith)
set_weightless (owner ∷ owners) (v ∷ vs) (suc i) w o = ap (λ n. weight owner * (v.closes - v.opens) + n) (set_weightless owners vs i w o)

module _ (k : Ticket) (v : Valid k) (t : T (consistent k)) (i : ℕ) (l : i < events k) (o : owner_of k (suc i) ≡ 4) where
  -- a fit set with a tick in place of its window is fit
  tick_fit : (ws : List Window) → Fit k ws → (n : ℕ) → (window_of ws (suc i)).opens ≤ n → n ≤ (window_of ws (suc i)).closes → Fit k (set ws i (still n))
  unfolding still
  tick_fit ws f n a b = ends_fit k (set ws i (still n)) (narrowed k ws (fit_ends k (distinct k v) ws f) (suc i) (still n) (omega arith) l a (omega arith) b)

  at_tick : (ws : List Window) → Fit k ws → (n : ℕ) → window_of (set ws i (still n)) (suc i) ≡ still n
  at_tick ws f n = put_same origin ws (suc i) (still n) (omega arith) (rw f.count l)

  -- in the plan its window is a tick
  pub database_tick : (window_of (planned k).windows (suc i)).closes ≡ (window_of (planned k).windows (suc i)).opens
  unfolding still
  database_tick =
      let ws : List Window = (planned k).windows in
      let c = planned_chosen k (distinct k v) t in
      let n : ℕ = (window_of ws (suc i)).opens in
      let ordered = (fit_ends k (distinct k v) ws c.allowed).ordered (suc i) in
      let fit = tick_fit ws c.allowed n (omega arith) ordered in
      omega (
        arith,
        ordered,
        c.earliest (set ws i (still n)) fit (set_weightless k.owners ws i (still n) o) (suc i),
        ap (λ (w : Window). w.closes) (at_tick ws c.allowed n),
      )

  -- and in the latest plan
  pub database_tick_latest : (window_of (planned_latest k).windows (suc i)).closes ≡ (window_of (planned_latest k).windows (suc i)).opens
  unfolding still
  database_tick_latest =
      let ws : List Window = (planned_latest k).windows in
      let c = latest_chosen k (distinct k v) t in
      let n : ℕ = (window_of ws (suc i)).closes in
      let ordered = (fit_ends k (distinct k v) ws c.allowed).ordered (suc i) in
      let fit = tick_fit ws c.allowed n ordered (omega arith) in
      omega (
        arith,
        ordered,
        c.latest (set ws i (still n)) fit (set_weightless k.owners ws i (still n) o) (suc i),
        ap (λ (w : Window). w.opens) (at_tick ws c.allowed n),
      )
