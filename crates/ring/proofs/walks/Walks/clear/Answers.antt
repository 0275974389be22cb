-- `Walks::clear` meets its contract: each place is filled with `TOP`.
use Rattle.std.proofs.Common.{◌≡◌, length, replicate, arith}
use Rattle.std.proofs.Math.ListN.{get_or-replicate}
use Rattle.ring.specs.WalkTable.{replicate_most}
use Rattle.ring.proofs.walks.Walks.clear.Goals as goal
use Rattle.ring.proofs.walks.Walks.clear.Goals.{After-fill}

filled : (c : After-fill) → c.fill.new.self ≡ replicate (length c.args.self.now.costs) 1000000000
filled c = c.fill.ensures.after (λ y e. e)

pub invariant_of-self : goal.invariant_of-self
invariant_of-self c = record { most = rw (filled c) (replicate_most (length c.args.self.now.costs) 1000000000) }

pub returns : goal.returns
returns c = (
  omega (arith, c.fill.ensures.len),
  λ i l. rw (filled (goal.at.returns c).After-fill) (get_or-replicate (length c.args.self.now.costs) i 1000000000 0 (omega arith)),
)
