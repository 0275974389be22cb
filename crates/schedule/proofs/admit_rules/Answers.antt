-- `admit_rules` meets its contract. The invariant: the rules below j are in the network, and the times keep them.
use native.Mathlib.Omega.{arith}
use mathlib.Core.Path.{◌≡◌, ◌∙◌}
use Rattle.schedule.specs.Schedule.{tried_more, tried_none, tried_timed, decided_yes, decided_no}
use Rattle.schedule.proofs.admit_rules.Goals as goal

pub loop-j-preserved : goal.loop-j-preserved
loop-j-preserved c = (omega arith, omega arith, tried_more c.loop-j.invariant.2 c.admit_rule_of.ensures c.if-not-admit_rule_of.false)

pub returns-then-not-admit_rule_of : goal.returns-then-not-admit_rule_of
returns-then-not-admit_rule_of c = record {
  decided = decided_no (tried_none c.loop-j.invariant.2 c.admit_rule_of.ensures (omega arith) c.if-not-admit_rule_of.true);
  net_len_unchanged = c.admit_rule_of.ensures.put.extends.long ∙ c.loop-j.invariant.2.long;
}

pub returns : goal.returns
returns c = let e : c.loop-j.j ≡ c.args.t.now.rules = omega arith in
    let T = c.loop-j.invariant.2 in record {
      decided = decided_yes T.growing.flowless.potential.long (tried_timed (rw e at T));
      net_len_unchanged = T.long;
    }
