-- `writing::test_ticket` meets its contract. Each return is one stage of the tests. Assumes nothing.
use mathlib.Core.Path.{◌≡◌, sym, ap, ◌∙◌}
use mathlib.Core.List.{[]}
use native.Mathlib.Omega.{arith}
use Rattle.std.proofs.lemmas.Result.{err_from_is_err_and}
use Rattle.ticket.specs.Parser.{got}
use Rattle.ticket.specs.Refusal.{tested}
use Rattle.ticket.specs.Writing.{tests, test_owner}
use Rattle.ticket.proofs.Refusals.{test_passed}
use Rattle.ticket.proofs.WritingLaws.{owner_fixed, tests_fixed}
use Rattle.ticket.proofs.WriteStages.{high_horizon, many_events, owners_fail, many_rules, last_tests}
use Rattle.writing.proofs.Tests.{same_refusal}
use Rattle.writing.proofs.test_ticket.Goals as goal
use Rattle.writing.proofs.test_ticket.Goals.{In_ok-test_owners}

-- The owners' tests are passed.
passed : (c : In_ok-test_owners) → tests c.args.t.events (test_owner c.args.t) [] ≡ got tt []
passed c = let t = c.args.t in
    test_passed (tests t.events (test_owner t)) (tests_fixed (test_owner t) [] (owner_fixed t) t.events) [] (sym c.in_ok-test_owners.was ∙ c.test_owners.ensures)

pub returns-then-t-gt-HORIZON : goal.returns-then-t-gt-HORIZON
returns-then-t-gt-HORIZON c = ap tested (sym (high_horizon c.args.t (omega arith)))

pub returns-then-t-gt-EVENTS : goal.returns-then-t-gt-EVENTS
returns-then-t-gt-EVENTS c = ap tested (sym (many_events c.args.t (omega arith) (omega arith)))

pub returns-in_err-test_owners : goal.returns-in_err-test_owners
returns-in_err-test_owners c = let t = c.args.t in
    let p = err_from_is_err_and c.from_residual.result c.from_residual.ensures.1 in
    rw (p.1, p.2)
    (same_refusal (tests t.events (test_owner t) []) _ (sym c.in_err-test_owners.was ∙ c.test_owners.ensures) (owners_fail t (omega arith) (omega arith)))

pub returns-then-t-gt-RULES : goal.returns-then-t-gt-RULES
returns-then-t-gt-RULES c =
    ap tested (sym (many_rules c.args.t (omega arith) (omega arith) (passed (goal.at.returns-then-t-gt-RULES c).In_ok-test_owners) (omega arith)))

pub returns : goal.returns
returns c =
    c.test_rules.ensures ∙ ap tested (sym (last_tests c.args.t (omega arith) (omega arith) (passed (goal.at.returns c).In_ok-test_owners) (omega arith)))
