-- `network_main::admit_all` meets its contract. The invariant: k edges are admitted after the boxes. Assumes nothing.
use Rattle.std.proofs.Common.{rules}
use Rattle.network_main.specs.Built.{built_more}
use Rattle.network_main.proofs.admit_all.Goals as goal

pub loop-k-preserved : goal.loop-k-preserved
loop-k-preserved c = record {
  by_tail = search rules;
  by_head = search rules;
  built = built_more c.loop-k.invariant.built (rw c.if-not-admit.false at c.admit.ensures) c.edge-e.ensures.order;
}
