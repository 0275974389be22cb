-- `Rules::round` meets its contract, rule by rule.
use Rattle.std.proofs.Common.{◌≡◌, ◌+◌, ◌-◌, subst, arith}
use Rattle.ring.specs.WalkTable.{Round, round_none, round_next}
use Rattle.ring.proofs.rules.Rules.round.Goals as goal
use Rattle.ring.proofs.rules.Rules.round.Goals.{After-lower}

-- rule e is passed too
passed : (c : After-lower) → Round c.args.self.now c.args.r c.loop-e.e c.args.w.now.costs c.lower.new.self.costs
passed c = rw (c.lower.ensures, c.at.ensures) (round_next (omega arith) (omega arith) (omega arith) c.loop-e.invariant.passed)

pub loop-e-init : goal.loop-e-init
loop-e-init c = record { end = omega arith; passed = round_none c.requires.ready }

pub loop-e-preserved : goal.loop-e-preserved
loop-e-preserved c =
    let q : c.loop-e.e + 1 - 1 ≡ c.loop-e.e = omega arith in
    record { end = omega arith; passed = rw q (passed (goal.at.loop-e-preserved c).After-lower) }

pub returns : goal.returns
returns c =
    let q : c.loop-e.e - 1 ≡ c.args.self.now.count = omega arith in
    rw q at c.loop-e.invariant.passed

pub returns-2 : goal.returns-2
returns-2 c =
    let q : c.loop-e.e ≡ c.args.self.now.count = omega arith in
    subst (λ e. Round c.args.self.now c.args.r e c.args.w.now.costs c.lower.new.self.costs) q (passed (goal.at.returns-2 c).After-lower)
