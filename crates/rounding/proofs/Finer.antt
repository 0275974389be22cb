-- A finer grid gains no width (02, change 10), of tickets: of the fit sets (`finer_fit`) and of those that a commitment allows (`finer_allowed`), where some
-- total of whole ticks is the most. And where there is no schedule no grid has fit windows (`finer_none`).
-- Why: each of the q roundings of such a set on the grid is such a set of whole ticks, so none of them has a larger total; and together they have the set's.
use Rattle.std.specs.Prelude.{◌≡◌, List, ℕ, ◌*◌, ◌≤◌, ◌<◌}
use Rattle.std.proofs.Common.{ap, ◌∙◌, mul-le-mul_left, arith}
use Rattle.network.specs.Sum.{sum_mono}
use Rattle.temporal.specs.Ticket.{Ticket, Distinct, Schedule, Window, window_of, Ordered, Fit, total}
use Rattle.temporal.proofs.Ends.{fit_schedule}
use Rattle.temporal.specs.Plan.{State, Commitment}
use Rattle.temporal.specs.Run.{said_window, Allowed}
use Rattle.rounding.specs.Grid.{FineFit, scale_window, FineAllowed, NoneWider}
use Rattle.rounding.proofs.Round.{round_le, round_whole, sum_const}
use Rattle.rounding.specs.Scale.{scale_windows}
use Rattle.rounding.proofs.Scale.{at_scaled, scaled_fit, total_scaled}
use Rattle.rounding.specs.Rounded.{round_window, round_windows}
use Rattle.rounding.proofs.Rounded.{at_rounded, rounded_fit, total_rounded}

-- what no rounding exceeds, q times it is not exceeded
most_rounded : (q : ℕ) → 1 ≤ q → (k : Ticket) (ws : List Window) → Ordered ws → (most : ℕ)
    → ((s : ℕ) → s < q → total k (round_windows q s ws) ≤ most) → total k ws ≤ q * most
most_rounded q l k ws o most h =
    omega (
      arith,
      total_rounded q l k.owners ws o,
      sum_mono (λ s. total k (round_windows q s ws)) (λ s. most) q h,
      sum_const q most,
    )

-- ---- the fit sets

module _ (k : Ticket) (d : Distinct k) where
  -- ws is as wide as any fit set
  pub finer_fit : (ws : List Window) → Fit k ws → ((vs : List Window) → Fit k vs → total k vs ≤ total k ws) → NoneWider k (total k ws) (λ q. FineFit q k)
  finer_fit ws f widest = record {
    none = λ q l vs g. most_rounded q l k vs g.ordered (total k ws) (λ s b. widest (round_windows q s vs) (rounded_fit q s b k d vs g));
    one = λ q. (scale_windows q ws, scaled_fit q k d ws f, total_scaled q k.owners ws);
  }

  pub finer_none : ((ts : List ℕ) → ¬ Schedule k ts) → (q : ℕ) → 1 ≤ q → (ws : List Window) → ¬ FineFit q k ws
  finer_none n q l ws g =
      let r = fit_schedule k (round_windows q 0 ws) (rounded_fit q 0 l k d ws g) in
      n r.0 r.1

-- ---- the sets that a commitment allows

module _ (k : Ticket) (d : Distinct k) (start : State) (done : List Commitment) (former : List Window) where
  rounded_allowed : (q s : ℕ) → s < q → (ws : List Window) → FineAllowed q k start done former ws → Allowed k start done former (round_windows q s ws)
  rounded_allowed q s b ws a = record {
    fit = rounded_fit q s b k d ws a.fit;
    kept = λ p e t. at_rounded q s b ws p ∙ ap (round_window q s) (a.kept p e t) ∙ whole (said_window start done p);
    grown = λ p e t. rw (at_rounded q s b ws p) (
      omega (arith, round_le q s (window_of ws p).opens (q * (window_of former p).opens) (omega arith) (a.grown p e t).0, round_whole q s (window_of former p).opens b),
      omega (arith, round_le q s (q * (window_of former p).closes) (window_of ws p).closes (omega arith) (a.grown p e t).1, round_whole q s (window_of former p).closes b),
    );
  }
    where
      whole : (w : Window) → round_window q s (scale_window q w) ≡ w
      whole w i = record { opens = round_whole q s w.opens b i; closes = round_whole q s w.closes b i }

  scaled_allowed : (q : ℕ) (ws : List Window) → Allowed k start done former ws → FineAllowed q k start done former (scale_windows q ws)
  scaled_allowed q ws a = record {
    fit = scaled_fit q k d ws a.fit;
    kept = λ p e t. at_scaled q ws p ∙ ap (scale_window q) (a.kept p e t);
    grown = λ p e t. rw (at_scaled q ws p) (mul-le-mul_left q (a.grown p e t).0, mul-le-mul_left q (a.grown p e t).1);
  }

  -- ws is as wide as any allowed set
  pub finer_allowed : (ws : List Window) → Allowed k start done former ws → ((vs : List Window) → Allowed k start done former vs → total k vs ≤ total k ws)
      → NoneWider k (total k ws) (λ q. FineAllowed q k start done former)
  finer_allowed ws a widest = record {
    none = λ q l vs g. most_rounded q l k vs g.fit.ordered (total k ws) (λ s b. widest (round_windows q s vs) (rounded_allowed q s b vs g));
    one = λ q. (scale_windows q ws, scaled_allowed q ws a, total_scaled q k.owners ws);
  }
