-- The laws of what specs/Ticket defines.
use Rattle.std.specs.Prelude.{ℕ, ◌≤◌, leb}
use Rattle.std.proofs.Common.{arith, leb→le}
use Rattle.temporal.proofs.Lists.{test-All, All-at}
use Rattle.temporal.specs.Ticket.{weight, weights}

-- another table keeps this law if its numbers do
pub weight_small : (owner : ℕ) → weight owner ≤ 3
unfolding weight weights
weight_small owner = All-at (λ n. n ≤ 3) 0 (omega arith) weights (test-All (λ n. leb n 3) (λ n t. leb→le n 3 t) weights tt) owner
