-- `writing::test_rules` meets its contract. The invariant: the tests so far are passed. Assumes nothing.
use mathlib.Core.Path.{◌≡◌, refl, sym, ap, ◌∙◌}
use mathlib.Core.List.{[]}
use borrow.Author.Rules.{rules}
use Rattle.std.proofs.Common.{w32}
use Rattle.std.proofs.lemmas.Int.{to_z-of_z}
use Rattle.std.proofs.lemmas.Result.{err_from_is_err_and}
use Rattle.ticket.proofs.Fields.{rule_test_fixed}
use Rattle.ticket.specs.Format.{rule_test}
use Rattle.ticket.specs.Refusal.{tested}
use Rattle.ticket.specs.Writing.{rule_in, tests, test_rule}
use Rattle.writing.proofs.Tests.{more_passed, more_refused}
use Rattle.writing.proofs.test_rules.Goals as goal
use Rattle.writing.proofs.test_rules.Goals.{After-test_rule}

-- What was answered is the test of the rule.
answered : (c : After-test_rule) → c.test_rule.result ≡ tested (test_rule c.args.t.now c.loop-i.i [])
answered c = let t = c.args.t.now in
    let r = rule_in t c.loop-i.i in
    c.test_rule.ensures
    ∙ ap (λ z. tested (rule_test t.events (record { from = r.from; to = r.to; bound = z }) [])) (to_z-of_z w32 r.bound (record { sfits = search rules }))

pub loop-i-init : goal.loop-i-init
unfolding tests
loop-i-init c = refl

pub returns-in_err-test_rule : goal.returns-in_err-test_rule
returns-in_err-test_rule c = let t = c.args.t.now in
    let l = c.loop-i in
    let p = err_from_is_err_and c.from_residual.result c.from_residual.ensures.1 in
    rw (p.1, p.2) (more_refused (test_rule t) l.i l.invariant t.rules c.loop-i-test.true (sym c.in_err-test_rule.was ∙ answered (goal.at.returns-in_err-test_rule c).After-test_rule))

pub loop-i-preserved : goal.loop-i-preserved
loop-i-preserved c = let t = c.args.t.now in
    let l = c.loop-i in
    more_passed (test_rule t) l.i l.invariant (rule_test_fixed t.events (rule_in t l.i)) (sym c.in_ok-test_rule.was ∙ answered (goal.at.loop-i-preserved c).After-test_rule)
