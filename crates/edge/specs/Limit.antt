-- An edge is stored, and its numbers and the times of its ends are small enough to compute with. Assumes nothing.
use Rattle.std.specs.Prelude.{ℕ, ◌+◌, ◌*◌, ◌≤◌, ◌<◌, List, length}
use Rattle.std.proofs.Common.{arith}
use Rattle.network.specs.Stored.{at, tail_of, head_of, cost_of, Network, Potential, pot_bound}

pub record EdgeFits (net pot : List ℕ) (e : ℕ) : Type 0 where
  pub inside : 4 * e + 3 < length net
  pub tail : tail_of net e < 81
  pub head : head_of net e < 81
  pub cost : cost_of net e ≤ 2000000
  pub from : at pot (tail_of net e) ≤ 1000000
  pub to : at pot (head_of net e) ≤ 1000000

pub edge_fits : {net : List ℕ} {m nodes : ℕ} {pot : List ℕ} → Network net m nodes → Potential net m pot → (e : ℕ) → e < m → EdgeFits net pot e
edge_fits {net} {m} {nodes} {pot} N P e le =
    record {
      inside = omega (arith, N.size);
      tail = omega (arith, N.tails e le, N.few);
      head = omega (arith, N.heads e le, N.few);
      cost = N.costs e le;
      from = pot_bound net m nodes pot N P (tail_of net e) (N.tails e le);
      to = pot_bound net m nodes pot N P (head_of net e) (N.heads e le);
    }

pub node_small : {net : List ℕ} {m nodes v : ℕ} → Network net m nodes → v < nodes → v < 81
node_small N l = omega (arith, N.few)

-- where edge e stands in the list, and its ends
pub record EdgePlace (net : List ℕ) (e : ℕ) : Type 0 where
  pub first : 4 * e < length net
  pub second : 4 * e + 1 < length net
  pub fourth : 4 * e + 3 < length net
  pub near : 4 * e < 16000
  pub near_second : 4 * e + 1 < 16000
  pub near_fourth : 4 * e + 3 < 16000
  pub tail : tail_of net e < 81
  pub head : head_of net e < 81

pub edge_place : {net : List ℕ} {m nodes : ℕ} → Network net m nodes → (e : ℕ) → e < m → EdgePlace net e
edge_place {net} {m} {nodes} N e le =
    record {
      first = omega (arith, N.size);
      second = omega (arith, N.size);
      fourth = omega (arith, N.size);
      near = omega (arith, N.rules);
      near_second = omega (arith, N.rules);
      near_fourth = omega (arith, N.rules);
      tail = node_small N (N.tails e le);
      head = node_small N (N.heads e le);
    }
