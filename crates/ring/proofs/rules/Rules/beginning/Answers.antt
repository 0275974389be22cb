-- `Rules::beginning` meets its contract, point by point.
use Rattle.std.proofs.Common.{◌≡◌, ◌+◌, subst, arith}
use Rattle.ring.specs.Search.{Begins}
use Rattle.ring.proofs.rules.Rules.beginning.Goals as goal

pub loop-q-preserved : goal.loop-q-preserved
loop-q-preserved c = c.through-start.ensures.is _ c.loop-q.invariant

pub returns : goal.returns
returns c = absurd (omega arith)

pub returns-2 : goal.returns-2
returns-2 c =
    let q : c.loop-q.q ≡ c.args.n = omega arith in
    subst (λ p. Begins c.args.n c.args.self.now (p + 1) c.through-start.result) q (c.through-start.ensures.is _ c.loop-q.invariant)
