-- `reading::rule_at` meets its contract. Each return is one outcome of the parser. Assumes nothing.
use Prim.Native.Nat.{ℕ, ◌+◌, ◌≤◌}
use mathlib.Core.Path.{◌≡◌, ap, ◌∙◌}
use mathlib.Core.List.{[]}
use native.Mathlib.Omega.{arith}
use lib.IntN.{ℤ}
use lib.ListN.{get_or}
use mir.Syntax.{w32}
use mir.Val.{of_z, to_z}
use mir.ValLaws.{to_z-of_z, to_z-Fits}
use Rattle.temporal.specs.Ticket.{Rule}
use Rattle.ticket.specs.Format.{rule_test}
use Rattle.ticket.specs.Refusal.{tested}
use Rattle.reading.specs.Parts.{rule_of}
use Rattle.ticket.proofs.Fields.{rule_short, rule_refused, rule_got, rule_test_fixed}
use Rattle.ticket.proofs.Refusals.{passed_up, test_passed}
use Rattle.reading.proofs.rule_at.Goals as goal

pub returns-then-s-at-lt6 : goal.returns-then-s-at-lt6
returns-then-s-at-lt6 c = let a = c.args in
    rw (rule_short a.s.now a.at a.n (omega arith))

-- The bound is the two's complement of the four bytes.
signed : (u : ℕ) (z : ℤ) → u ≤ 4294967295 → z ≡ to_z w32 u → to_z w32 (of_z w32 z) ≡ to_z w32 u
signed u z h e = ap (λ x. to_z w32 (of_z w32 x)) e ∙ to_z-of_z w32 (to_z w32 u) (to_z-Fits w32 u (record { fits = omega arith }))

pub returns-in_err-test_rule : goal.returns-in_err-test_rule
returns-in_err-test_rule c = let a = c.args in
    let s = a.s.now in
    let u = c.u32_at in
    let r : ℤ → Rule = λ z. record { from = get_or s a.at 0; to = get_or s (a.at + 1) 0; bound = z } in
    let e = c.in_err-test_rule.ensures ∙ ap (λ z. tested (rule_test a.n (r z) [])) (signed u.result _ (omega arith) c.cast_signed-bound.ensures) in
    passed_up (λ x. x) rule_of (rule_test a.n (r (to_z w32 u.result)) []) _ c.from_residual.result c.from_residual.ensures.1 e
    (rule_refused s a.at a.n (omega arith) u.result u.ensures)

pub returns : goal.returns
returns c = let a = c.args in
    let s = a.s.now in
    let u = c.u32_at in
    let r : ℤ → Rule = λ z. record { from = get_or s a.at 0; to = get_or s (a.at + 1) 0; bound = z } in
    let bound = signed u.result _ (omega arith) c.cast_signed-bound.ensures in
    let e = c.in_ok-test_rule.ensures ∙ ap (λ z. tested (rule_test a.n (r z) [])) bound in
    let passed = test_passed (rule_test a.n (r (to_z w32 u.result))) (rule_test_fixed a.n (r (to_z w32 u.result))) [] e in
    rw (bound, rule_got s a.at a.n (omega arith) u.result u.ensures passed)
