-- The highest time of the nodes 1 to n.
use Rattle.std.specs.Prelude.{ℕ, ◌+◌, ◌≤◌, ◌<◌, max, ◌≡◌, List}
use Rattle.std.proofs.Common.{⊎_elim, arith, eq-or-lt_of_le}
use Rattle.network.specs.Stored.{at}

-- none of the nodes 1 to n is above r, and r is the least such number: 0 if there are no nodes
pub record Highest (pot : List ℕ) (n r : ℕ) : Type 0 where
  pub all : (i : ℕ) → 0 < i → i ≤ n → at pot i ≤ r
  pub least : (y : ℕ) → ((i : ℕ) → 0 < i → i ≤ n → at pot i ≤ y) → r ≤ y

pub highest_none : (pot : List ℕ) → Highest pot 0 0
highest_none pot = record { all = λ i p l. absurd (omega arith); least = λ y a. omega arith }

pub highest_more : {pot : List ℕ} {n r x : ℕ} → Highest pot n r → x ≡ at pot (n + 1) → Highest pot (n + 1) (max r x)
highest_more {pot} {n} {r} {x} H node = record {
  all = λ i p l. ⊎_elim
      (λ (q : i ≡ n + 1). rw q (omega arith))
      (λ (w : i < n + 1). omega (arith, H.all i p))
      (eq-or-lt_of_le l);
  least = λ y a. omega (arith, H.least y (λ i p l. a i p (omega arith)), a (n + 1) (omega arith) (omega arith));
}
