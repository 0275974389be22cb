-- `test_limits` meets its contract: each return is a row of the definition. Assumes nothing.
use native.Mathlib.Omega.{arith}
use Rattle.temporal.proofs.TableCauses.{cause_room, cause_horizon, cause_events, cause_count, refuses}
use Rattle.table.proofs.test_limits.Goals as goal

pub returns-then-out-lt-OUTPUT : goal.returns-then-out-lt-OUTPUT
returns-then-out-lt-OUTPUT c = λ rs long. refuses _ _ rs _ 10 (cause_room _ _ rs _ c.if-out-lt-OUTPUT.true) (omega arith)

pub returns-then-horizon-gt-HORIZON : goal.returns-then-horizon-gt-HORIZON
returns-then-horizon-gt-HORIZON c = λ rs long. refuses _ _ rs _ 2 (cause_horizon _ _ rs _ c.if-out-lt-OUTPUT.false c.if-horizon-gt-HORIZON.true) (omega arith)

pub returns-then-events-gt-EVENTS : goal.returns-then-events-gt-EVENTS
returns-then-events-gt-EVENTS c = λ rs long. refuses _ _ rs _ 3 (cause_events _ _ rs _ c.if-out-lt-OUTPUT.false c.if-horizon-gt-HORIZON.false c.if-events-gt-EVENTS.true) (omega arith)

pub returns-then-count-gt-RULES : goal.returns-then-count-gt-RULES
returns-then-count-gt-RULES c = λ rs long.
    refuses _ _ rs _ 5 (cause_count _ _ rs _ c.if-out-lt-OUTPUT.false c.if-horizon-gt-HORIZON.false c.if-events-gt-EVENTS.false (omega arith)) (omega arith)
