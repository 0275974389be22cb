-- `Rules::of` meets its contract, rule by rule.
use Rattle.std.proofs.Common.{arith}
use Rattle.ticket.specs.Writing.{content}
use Rattle.paths.proofs.Structs.{in_size}
use Rattle.ring.specs.Stored.{small_none}
use Rattle.ring.specs.Places.{Filled, written_bound, written_signed, written_small, filled_written, filled_back, filled_out}
use Rattle.ring.proofs.rules.Rules.of.Goals as goal
use Rattle.ring.proofs.rules.Rules.of.Goals.{After-push-in-loop-i-2}

pub invariant_of-rules-clause-small : goal.invariant_of-rules-clause-small
invariant_of-rules-clause-small c = small_none 338

pub cost-requires : goal.cost-requires
cost-requires c = let t = c.args.t.now in
    rw (written_signed t c.requires c.loop-j.j c.loop-j-test.true) (written_bound t c.requires c.loop-j.j c.loop-j-test.true)

pub push-requires-clause-small : goal.push-requires-clause-small
push-requires-clause-small c = let t = c.args.t.now in
    rw (c.cost.ensures, written_signed t c.requires c.loop-j.j c.loop-j-test.true) (written_small t c.requires c.loop-j.j c.loop-j-test.true)

pub loop-j-preserved : goal.loop-j-preserved
loop-j-preserved c = let t = c.args.t.now in
    let i = c.loop-j.invariant in
    let s = rw (c.cost.ensures, written_signed t c.requires c.loop-j.j c.loop-j-test.true) at c.push.ensures.list_after in
    record {
      count = omega (arith, c.push.ensures.count_after);
      filled = filled_written t c.requires c.loop-j.j c.loop-j-test.true c.push.new.self i.count i.filled c.push.ensures.count_after s;
    }

-- the two rules of event i are stored
both : (c : After-push-in-loop-i-2) → Filled (content c.args.t.now) c.push-in-loop-i-2.new.self
both c = let t = c.args.t.now in
    let l = c.loop-i in
    let e = c.push-in-loop-i.ensures in
    let f = c.push-in-loop-i-2.ensures in
    filled_out t c.requires l.i (omega arith) c.loop-i-test.true c.push-in-loop-i-2.new.self (omega (arith, e.count_after))
    (filled_back t c.requires l.i (omega arith) c.loop-i-test.true c.push-in-loop-i.new.self l.invariant.count l.invariant.filled e.count_after e.list_after)
    f.count_after f.list_after

pub loop-i-preserved : goal.loop-i-preserved
loop-i-preserved c = record {
  end = omega arith;
  count = omega (arith, c.push-in-loop-i.ensures.count_after, c.push-in-loop-i-2.ensures.count_after);
  filled = both (goal.at.loop-i-preserved c).After-push-in-loop-i-2;
}

pub returns : goal.returns
returns c = record { valid = c.requires; count = omega (arith, in_size c.args.t.now); filled = c.loop-i.invariant.filled }

pub returns-2 : goal.returns-2
returns-2 c = record {
  valid = c.requires;
  count = omega (arith, in_size c.args.t.now, c.push-in-loop-i.ensures.count_after, c.push-in-loop-i-2.ensures.count_after);
  filled = both (goal.at.returns-2 c).After-push-in-loop-i-2;
}
