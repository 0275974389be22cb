-- `test_rules` meets its contract. The loop has passed as many rules, and refused none. Assumes nothing.
use Rattle.std.proofs.Common.{◌<◌, arith, rules, sym, ◌∙◌, length, map, w32, SFits}
use mir.Facts.{to_z-of_z}
use Rattle.std.proofs.lemmas.List.{length-map}
use Rattle.std.proofs.lemmas.Result.{err_from_is_err_and}
use Rattle.temporal.specs.Table.{rule_cause}
use Rattle.ticket.proofs.Refusals.{number_positive}
use Rattle.table.specs.Lent.{rule_of}
use Rattle.table.proofs.Rules.{lent_at, at_lent, tested_cause, passed_all, passed_more, passed_stop}
use Rattle.table.proofs.test_rules.Goals as goal
use Rattle.table.proofs.test_rules.Goals.{In-loop-rule}

-- there is a rule
inside : (c : In-loop-rule) → c.loop-rule.rule-index < length (map rule_of c.args.rules.now)
inside c = rw length-map (omega arith)

pub returns-in_err-test_rule : goal.returns-in_err-test_rule
returns-in_err-test_rule c = let e = c.loop-rule.rule-index in
    let rule = lent_at c.args.rules.now e in
    let fits : SFits w32 rule.bound = search rules in
    let refused = tested_cause c.args.n (rule_of rule) (rw (to_z-of_z fits) at c.in_err-test_rule.ensures) in
    let p = err_from_is_err_and c.from_residual.result c.from_residual.ensures.1 in
    let more : 0 < rule_cause c.args.n (rule_of rule) = omega (arith, number_positive c.in_err-test_rule.field-0.0) in
    let stop = passed_stop c.args.n _ e (inside (goal.at.returns-in_err-test_rule c).In-loop-rule) (rule_of rule) (at_lent c.args.rules.now e) c.loop-rule.invariant more in
    rw (p.1, p.2) (refused ∙ sym stop)

pub loop-rule-preserved : goal.loop-rule-preserved
loop-rule-preserved c = let e = c.loop-rule.rule-index in
    let rule = lent_at c.args.rules.now e in
    let fits : SFits w32 rule.bound = search rules in
    passed_more c.args.n _ e (inside (goal.at.loop-rule-preserved c).In-loop-rule) (rule_of rule) (at_lent c.args.rules.now e) c.loop-rule.invariant
    (sym (tested_cause c.args.n (rule_of rule) (rw (to_z-of_z fits) at c.in_ok-test_rule.ensures)))

pub returns : goal.returns
returns c = sym (passed_all _ _ _ (rw length-map (omega arith)) c.loop-rule.invariant)
