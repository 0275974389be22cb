-- The weights of the events, stored one after the other: those that crate flow asks for.
use Rattle.std.specs.Prelude.{ℕ, suc, ◌+◌, ◌<◌, ◌≡◌, List, set, replicate}
use Rattle.std.proofs.Common.{◌∙◌, arith, below_none, below_more, get_or-set_same, get_or-set_other}
use Rattle.temporal.specs.Ticket.{weight}
use Rattle.temporal.proofs.Ticket.{weight_small}
use Rattle.network.specs.Stored.{at}
use Rattle.flow.specs.Solve.{Weights, weights_none, weights_more}

-- the first k events have the weights of their owners
pub record Weighs (owners xs : List ℕ) (k : ℕ) : Type 0 where
  pub weights : Weights k xs
  pub owned : (i : ℕ) → i < k → at xs (suc i) ≡ weight (at owners i)

pub weighs_none : (owners : List ℕ) → Weighs owners (replicate 81 0) 0
weighs_none owners = record { weights = weights_none; owned = below_none _ }

pub weighs_more : {owners xs : List ℕ} {k x : ℕ} → k < 40 → x ≡ weight (at owners k) → Weighs owners xs k → Weighs owners (set xs (k + 1) x) (k + 1)
weighs_more {owners} {xs} {k} {x} l e W = record {
  weights = weights_more x W.weights (omega arith) (rw e (weight_small (at owners k)));
  owned = below_more (λ i. at (set xs (k + 1) x) (suc i) ≡ weight (at owners i)) k
      (λ i li. get_or-set_other xs (k + 1) (suc i) x 0 (λ q. omega arith) ∙ W.owned i li)
      (let one : suc k ≡ k + 1 = omega arith in rw (one, get_or-set_same xs (k + 1) x 0 (omega (arith, W.weights.long))) e);
}
