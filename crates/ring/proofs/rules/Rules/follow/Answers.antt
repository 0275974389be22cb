-- `Rules::follow` meets its contract, rule by rule.
use Rattle.std.proofs.Common.{refl, arith}
use Rattle.ticket.specs.Stored.{pad}
use Rattle.ring.specs.Search.{following_first, following_more, following_all}
use Rattle.ring.proofs.rules.Rules.follow.Goals as goal

pub loop-i-init : goal.loop-i-init
unfolding pad
loop-i-init c = record { cost_most = omega (arith, c.args.self.now.small.cost_limit c.args.first); so_far = following_first (omega arith) refl }

pub loop-i-preserved : goal.loop-i-preserved
loop-i-preserved c = let h = c.loop-i.invariant in
    let e = c.pick-e in
    record { cost_most = omega (arith, c.args.self.now.small.cost_limit e.result, h.cost_most); so_far = following_more h.so_far (omega arith) (omega arith) e.ensures }

pub returns : goal.returns
returns c = following_all c.loop-i.invariant.so_far (omega arith)
