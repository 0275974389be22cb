-- `table` meets its contract: each return is a row of the definition. Assumes nothing.
use mathlib.Core.Bool.{true, false}
use Rattle.std.proofs.Common.{◌≡◌, ◌<◌, length, map, arith, sym, ◌∙◌}
use Rattle.std.proofs.lemmas.List.{length-map}
use Rattle.std.proofs.lemmas.Result.{err_from_is_err_and}
use Rattle.temporal.specs.Ticket.{events}
use Rattle.temporal.specs.Distance.{distance}
use Rattle.temporal.specs.Run.{Valid}
use Rattle.temporal.specs.Table.{ticket_of, rules_cause}
use Rattle.temporal.proofs.TableCauses.{ticket_events, cause_rules, cause_last, rules_valid, ticket_valid, refuses, accepts}
use Rattle.ticket.proofs.Refusals.{number_positive}
use Rattle.closure.specs.Matrix.{entry, Everywhere}
use Rattle.closure.specs.Start.{start}
use Rattle.closure.specs.Answers.{start_floors, start_top, closed_small, closed_consistent, closed_distance, closed_none, written_filled}
use Rattle.table.specs.Lent.{rule_of}
use Rattle.table.proofs.Rules.{valid_rules}
use Rattle.table.proofs.table.Goals as goal
use Rattle.table.proofs.table.Goals.{After-from, After-ruled-w}

-- no rule is refused, so the ticket is valid
passed : (c : After-from) → rules_cause c.args.events (map rule_of c.args.rules.now) ≡ 0
passed c = sym c.in_ok-test_rules.ensures

valid : (c : After-from) → Valid (ticket_of c.args.horizon c.args.events (map rule_of c.args.rules.now))
valid c =
    let limits = c.in_ok-test_limits.ensures in
    ticket_valid c.args.horizon c.args.events (map rule_of c.args.rules.now) limits.1 limits.2 (rw length-map limits.3) (passed c)

-- the first entries
same : (c : After-ruled-w) → Everywhere c.args.events (λ i j. entry c.ruled-w.result i j ≡ start c.args.horizon (map rule_of c.args.rules.now) i j)
same c i j li lj =
    let limits = c.in_ok-test_limits.ensures in
    rw c.from.ensures at (c.ruled-w.ensures.1 i j (omega arith) (omega arith))

-- the ticket has so many events
count : (c : After-from) → events (ticket_of c.args.horizon c.args.events (map rule_of c.args.rules.now)) ≡ c.args.events
count c = ticket_events c.args.horizon c.args.events (map rule_of c.args.rules.now)

pub returns-in_err-test_rules : goal.returns-in_err-test_rules
returns-in_err-test_rules c =
    let limits = c.in_ok-test_limits.ensures in
    let refused = c.in_err-test_rules.ensures in
    let p = err_from_is_err_and c.from_residual-in_err-test_rules.result c.from_residual-in_err-test_rules.ensures.1 in
    let some : 0 < rules_cause c.args.events (map rule_of c.args.rules.now) = omega (arith, number_positive c.in_err-test_rules.field-0.0) in
    let first = cause_rules c.args.horizon c.args.events (map rule_of c.args.rules.now) (length c.args.out.now) limits.0 limits.1 limits.2 (rw length-map limits.3) some in
    rw (p.1, p.2) (refuses c.args.horizon c.args.events (map rule_of c.args.rules.now) c.args.out.now _ (first ∙ sym refused) (number_positive _))

pub ruled-w-requires-clause-valid_rules : goal.ruled-w-requires-clause-valid_rules
ruled-w-requires-clause-valid_rules c =
    valid_rules c.args.events _ c.in_ok-test_limits.ensures.2 (rules_valid _ _ (passed (goal.at.ruled-w-requires-clause-valid_rules c).After-from))

pub closure-requires-clause-floors : goal.closure-requires-clause-floors
closure-requires-clause-floors c =
    let at = goal.at.closure-requires-clause-floors c in
    start_floors _ (valid at.After-from) _ (count at.After-from) _ (same at.After-ruled-w)

pub closure-requires-clause-everywhere : goal.closure-requires-clause-everywhere
closure-requires-clause-everywhere c =
    let at = goal.at.closure-requires-clause-everywhere c in
    start_top _ (valid at.After-from) _ (count at.After-from) _ (same at.After-ruled-w)

pub returns-then-not-closure : goal.returns-then-not-closure
returns-then-not-closure c =
    let at = goal.at.returns-then-not-closure c in
    let limits = c.in_ok-test_limits.ensures in
    let none = cause_last c.args.horizon c.args.events (map rule_of c.args.rules.now) (length c.args.out.now) limits.0 limits.1 limits.2 (rw length-map limits.3) false
    (passed at.After-from) (closed_none _ (valid at.After-from) _ (count at.After-from) _ (same at.After-ruled-w) _ c.closure.ensures c.if-not-closure.true) in
    refuses c.args.horizon c.args.events (map rule_of c.args.rules.now) c.args.out.now 9 none (omega arith)

pub write-requires-clause-everywhere : goal.write-requires-clause-everywhere
write-requires-clause-everywhere c =
    let at = goal.at.write-requires-clause-everywhere c in
    let small = closed_small _ (valid at.After-from) _ (count at.After-from) _ (same at.After-ruled-w) _ c.closure.ensures c.if-not-closure.false in
    λ i j li lj some. omega (arith, small i j li lj)

pub returns : goal.returns
returns c =
    let at = goal.at.returns c in
    let limits = c.in_ok-test_limits.ensures in
    let v = valid at.After-from in
    let yes = c.if-not-closure.false in
    let none = cause_last c.args.horizon c.args.events (map rule_of c.args.rules.now) (length c.args.out.now) limits.0 limits.1 limits.2 (rw length-map limits.3) true
    (passed at.After-from) (closed_consistent _ v _ (count at.After-from) _ (same at.After-ruled-w) _ c.closure.ensures yes) in
    let full = written_filled c.args.events (distance (ticket_of c.args.horizon c.args.events (map rule_of c.args.rules.now))) _ c.args.out.now _ limits.2 limits.0
    (closed_distance _ v _ (count at.After-from) _ (same at.After-ruled-w) _ c.closure.ensures yes) c.write.ensures in
    rw full (accepts c.args.horizon c.args.events (map rule_of c.args.rules.now) c.args.out.now none)
