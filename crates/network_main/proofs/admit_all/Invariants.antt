-- `network_main::admit_all` meets its contract. The invariant: k edges are admitted after the boxes. Assumes nothing.
use Rattle.std.proofs.Common.{◌≡◌, length}
use Rattle.network_main.specs.Built.{Built}
use Rattle.network_main.proofs.admit_all.Given as goal

abbrev pub invariant-loop-k : goal.invariant-loop-k
invariant-loop-k l = record {
  by_tail : length l.tails ≡ length l.fn.tails;
  by_head : length l.heads ≡ length l.fn.heads;
  built : Built l.net l.n l.k l.pot l.tails l.heads;
}
