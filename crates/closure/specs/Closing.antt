-- The loops over the stops. Assumes nothing.
use Prim.Native.Nat.{ℕ, suc, ◌+◌, ◌-◌, ◌≤◌, min}
use Rattle.std.specs.Prelude.{◌≡◌, refl, true, false}
use Rattle.std.proofs.Math.Path.{ap₂}
use Rattle.std.proofs.Common.{◌∙◌, true≢false, ⊎_elim, add-one}
use Rattle.std.proofs.lemmas.Bool.{false≢true}
use Rattle.std.proofs.Math.Nat.{le-suc_iff}
use native.Mathlib.Omega.{arith}
use Rattle.closure.specs.Matrix.{Matrix, none, join, relax, floor_low, Everywhere, Stored}
use Rattle.closure.specs.Stops.{after, after_top, Floors, AboveFloors}
use Rattle.closure.specs.Meaning.{Carried}
use Rattle.closure.specs.Steps.{Fallen, Closed}

-- The entries W after s stops, from the entries D, with none below its floor so far: the shortest paths by those stops, if D were those by none.
pub record Closing (n : ℕ) (D W : Matrix) (s : ℕ) : Type 0 where
  pub kept : AboveFloors n D s
  pub entries : Everywhere n (λ i j. W i j ≡ after n D s i j)
  pub shortest : Carried n 0 D s W

-- The entries R are W after the stop k.
abbrev pub Next : ℕ → Matrix → Matrix → ℕ → Type 0
Next n W R k = Everywhere n (λ i j. R i j ≡ relax W k i j)

pub closing_none : (n : ℕ) (D : Matrix) → Floors n D → Closing n D D 0
unfolding after
closing_none n D h =
    record {
      kept = λ r l. let same : r ≡ 0 = omega arith in rw same h;
      entries = λ i j li lj. refl;
      shortest = λ k valid t e h. h;
    }

module _ (n : ℕ) (D W : Matrix) (s : ℕ) (h : Closing n D W s) where
  pub closing_stored : Everywhere n (λ i j. D i j ≤ none) → Everywhere n (λ i j. Stored (W i j))
  closing_stored top i j li lj =
      rw (h.entries i j li lj)
      (record {
        low = omega (arith, floor_low i j, h.kept s (omega arith) i j li lj);
        high = after_top n D top s i j li lj;
      })

  -- the entries R after the next stop, k
  module _ (R : Matrix) (k : ℕ) (here : s + k ≡ n) (next : Next n W R k) (step : Carried n (n - k) W (n - k + 1) R) where
    next_after : Everywhere n (λ i j. R i j ≡ after n D (suc s) i j)
    unfolding after
    next_after i j li lj =
        let same : n - s ≡ k = omega arith in
        let lk : k ≤ n = omega arith in
        rw same
        (next i j li lj
        ∙ ap₂ min (h.entries i j li lj) (ap₂ join (h.entries i k li lk) (h.entries k j lk lj)))

    on : Carried n s W (suc s) R
    on = let same : n - k ≡ s = omega arith in rw (← add-one s) (rw same at step)

    pub closing_more : Floors n R → Closing n D R (s + 1)
    closing_more ok =
        rw (add-one s)
        (record {
          kept = λ r lr.
              ⊎_elim
              (λ (q : r ≤ s). h.kept r q)
              (λ (e : r ≡ suc s). rw e (λ i j li lj. rw (← (next_after i j li lj)) (ok i j li lj)))
              (le-suc_iff.0 lr);
          entries = next_after;
          shortest = λ k valid t e g. on k valid t e (h.shortest k valid t e g);
        })

    pub closing_kept : AboveFloors n D (s + 1) → Closing n D R (s + 1)
    closing_kept ok = closing_more (λ i j li lj. rw (next_after i j li lj) (rw (add-one s) at (ok (s + 1) (omega arith)) i j li lj))

    pub closing_stop : Fallen n R → Closed n D R false
    closing_stop f =
        record {
          kept = λ e. absurd (false≢true e);
          entries = λ e. absurd (false≢true e);
          shortest = λ e. absurd (false≢true e);
          stopped = λ e.
              record {
                stop = s;
                stop_in = omega arith;
                before = h.kept;
                fallen =
                    record {
                      row = f.row;
                      column = f.column;
                      row_in = f.row_in;
                      column_in = f.column_in;
                      low = rw (← (next_after f.row f.column f.row_in f.column_in)) f.low;
                    };
              };
        }

pub closing_all : (n : ℕ) (D W : Matrix) (s : ℕ) → s ≡ n + 1 → Closing n D W s → Closed n D W true
closing_all n D W s e h =
    record {
      kept = λ t. rw (← e) h.kept;
      entries = λ t. rw (← e) h.entries;
      shortest = λ t. rw (← e) h.shortest;
      stopped = λ t. absurd (true≢false t);
    }
