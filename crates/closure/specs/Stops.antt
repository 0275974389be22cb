-- The stops, taken from the last event down to point 0. Assumes nothing.
use Prim.Native.Nat.{ℕ, zero, suc, ◌+◌, ◌-◌, ◌≤◌, ◌<◌}
use Rattle.std.specs.Prelude.{◌≡◌, ◌⊎◌}
use Rattle.std.proofs.Math.Logic.{⊎_elim}
use Rattle.std.proofs.Math.Nat.{le-suc_iff}
use native.Mathlib.Omega.{arith}
use Rattle.temporal.specs.Ticket.{Ticket, events}
use Rattle.temporal.specs.Run.{Valid}
use Rattle.closure.specs.Cases.{by_eq, by_lt}
use Rattle.closure.specs.Signed.{bias}
use Rattle.closure.specs.Matrix.{Matrix, none, relax, floor, Everywhere, Stored, Through, floor_same, floor_low, relax_via, relax_from}
use Rattle.closure.specs.Start.{Sound, first_entries, started}

-- The entries after the first s of the stops n, n - 1, .., 0.
unfoldable pub after : ℕ → Matrix → ℕ → Matrix
after n D zero = D
after n D (suc s) = relax (after n D s) (n - s)

-- No entry is below its floor.
abbrev pub Floors : ℕ → Matrix → Type 0
Floors n D = Everywhere n (λ i j. floor i j ≤ D i j)

-- A path that s stops have made is no longer than this.
unfoldable pub cap : ℕ → ℕ
cap zero = 3000000
cap (suc s) = cap s + cap s

cap_mono : (s r : ℕ) → s ≤ r → cap s ≤ cap r
unfolding cap
cap_mono s zero l = let same : s ≡ 0 = omega arith in rw same (omega arith)
cap_mono s (suc r) l =
    ⊎_elim
    (λ (p : s ≤ r). omega (arith, cap_mono s r p))
    (λ (e : s ≡ suc r). rw e (omega arith))
    (le-suc_iff.0 l)

pub cap_small : (s : ℕ) → s ≤ 41 → cap s ≤ 7000000000000000000
unfolding cap
cap_small s l = omega (arith, cap_mono s 41 l)

-- What holds of the entries D after s stops, where S were the first.
pub record Working (k : Ticket) (S : Matrix) (s : ℕ) (D : Matrix) : Type 0 where
  pub sound : Sound k D
  pub floors : Floors (events k) D
  pub top : Everywhere (events k) (λ i j. D i j ≤ none)
  pub high : Everywhere (events k) (λ i j. D i j < none → D i j ≤ cap s)
  pub below : Everywhere (events k) (λ i j. D i j ≤ S i j)
  pub diagonal : (i : ℕ) → i ≤ events k → D i i ≡ bias
  pub triangle : (p : ℕ) → p ≤ events k → events k < p + s
      → Everywhere (events k) (λ i j. D i p < none → D p j < none → D i j + bias ≤ D i p + D p j)

-- One stop more: the entries as they come, and what holds of them where none is below its floor.
module _ (k : Ticket) (S : Matrix) (s : ℕ) (few : s ≤ 40) (fit : s ≤ events k) (D : Matrix) (h : Working k S s D) where
  stored : Everywhere (events k) (λ i j. Stored (D i j))
  stored i j li lj =
      record {
        low = omega (arith, floor_low i j, h.floors i j li lj);
        high = h.top i j li lj;
      }

  via : Everywhere (events k) (λ i j. D i (events k - s) < none → D (events k - s) j < none
      → relax D (events k - s) i j + bias ≤ D i (events k - s) + D (events k - s) j)
  via i j li lj =
      let p = events k - s in
      relax_via (D i j) (D i p) (D p j) (stored i j li lj) (stored i p li (omega arith)) (stored p j (omega arith) lj)

  pub from : Everywhere (events k) (λ i j. (relax D (events k - s) i j ≡ D i j)
      ⊎ Through (relax D (events k - s) i j) (D i (events k - s)) (D (events k - s) j))
  from i j li lj =
      let p = events k - s in
      relax_from (D i j) (D i p) (D p j) (stored i j li lj) (stored i p li (omega arith)) (stored p j (omega arith) lj)

  sound_more : Sound k (relax D (events k - s))
  sound_more ts q i j li lj =
      let p = events k - s in
      let lk : p ≤ events k = omega arith in
      ⊎_elim
      (λ e. omega (arith, h.sound ts q i j li lj))
      (λ w. omega (arith, h.sound ts q i p li lk, h.sound ts q p j lk lj))
      (from i j li lj)

  working_more : Floors (events k) (relax D (events k - s)) → Working k S (suc s) (relax D (events k - s))
  unfolding cap
  working_more ok =
      let n = events k in
      let p = n - s in
      let lk : p ≤ n = omega arith in
      let new = relax D p in
      let kk = h.diagonal p lk in
      let same_to : (i : ℕ) → i ≤ n → new i p ≡ D i p = λ i li.
      ⊎_elim (λ e. e) (λ w. omega arith) (from i p li lk) in
      let same_from : (j : ℕ) → j ≤ n → new p j ≡ D p j = λ j lj.
      ⊎_elim (λ e. e) (λ w. omega arith) (from p j lk lj) in
      record {
        sound = sound_more;
        floors = ok;
        top = λ i j li lj. omega (arith, h.top i j li lj);
        high = λ i j li lj l.
            ⊎_elim
            (λ e. omega (arith, h.high i j li lj (omega arith)))
            (λ w. omega (arith, h.high i p li lk w.first, h.high p j lk lj w.second))
            (from i j li lj);
        below = λ i j li lj. omega (arith, h.below i j li lj);
        diagonal = λ i li. omega (arith, h.diagonal i li, ok i i li li, floor_same i);
        triangle = λ m lm late i j li lj a b.
            by_eq m p
            (λ e.
            let a' : new i p < none = rw e at a in
            let b' : new p j < none = rw e at b in
            let to = same_to i li in
            let fro = same_from j lj in
            rw e (omega (arith, via i j li lj (omega arith) (omega arith))))
            (λ other.
            let early : n < m + s = by_lt n (m + s) (λ l. l) (λ l. absurd (other (omega arith))) in
            let tri = h.triangle m lm early in
            let big = cap_small (suc s) (omega arith) in
            ⊎_elim
            (λ e. ⊎_elim
            (λ f. omega (arith, tri i j li lj (omega arith) (omega arith)))
            (λ w.
            let ik = tri i p li lk (omega arith) w.first in
            let hi = h.high i m li lm (omega arith) in
            let hm = h.high m p lm lk w.first in
            omega (arith, via i j li lj (omega arith) w.second))
            (from m j lm lj))
            (λ v. ⊎_elim
            (λ f.
            let kj = tri p j lk lj v.second (omega arith) in
            let hm = h.high p m lk lm v.second in
            let hj = h.high m j lm lj (omega arith) in
            omega (arith, via i j li lj v.first (omega arith)))
            (λ w. omega (arith, tri p p lk lk v.second w.first, via i j li lj v.first w.second))
            (from m j lm lj))
            (from i m li lm));
      }

-- After each of the first s stops no entry is below its floor.
abbrev pub AboveFloors : ℕ → Matrix → ℕ → Type 0
AboveFloors n D s = (r : ℕ) → r ≤ s → Floors n (after n D r)

module _ (k : Ticket) (valid : Valid k) where
  working_none : Working k (first_entries k) 0 (first_entries k)
  unfolding cap
  working_none =
      let h = started k valid in
      record {
        sound = h.sound;
        floors = h.floors;
        top = h.top;
        high = h.high;
        below = λ i j li lj. omega arith;
        diagonal = λ i li. omega (arith, h.diagonal i li, h.floors i i li li, floor_same i);
        triangle = λ p lk late. absurd (omega arith);
      }

  pub working : (s : ℕ) → s ≤ events k + 1 → AboveFloors (events k) (first_entries k) s
      → Working k (first_entries k) s (after (events k) (first_entries k) s)
  unfolding after
  working zero l kept = working_none
  working (suc s) l kept =
      let few = valid.events_limit in
      working_more k (first_entries k) s (omega arith) (omega arith) _
      (working s (omega arith) (λ r p. kept r (omega arith)))
      (kept (suc s) (omega arith))

  pub working_sound : (s : ℕ) → s ≤ events k → AboveFloors (events k) (first_entries k) s → Sound k (after (events k) (first_entries k) (suc s))
  unfolding after
  working_sound s l kept =
      let few = valid.events_limit in
      sound_more k (first_entries k) s (omega arith) l _ (working s (omega arith) kept)

-- The entries only fall.
pub after_top : (n : ℕ) (D : Matrix) → Everywhere n (λ i j. D i j ≤ none) → (s : ℕ) → Everywhere n (λ i j. after n D s i j ≤ none)
unfolding after
after_top n D h zero i j li lj = h i j li lj
after_top n D h (suc s) i j li lj = omega (arith, after_top n D h s i j li lj)
