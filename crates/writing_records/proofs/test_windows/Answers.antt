-- `writing_records::test_windows` meets its contract. The invariant: the tests so far are passed. Assumes nothing.
use mathlib.Core.Path.{refl, sym, ◌∙◌}
use Rattle.std.proofs.lemmas.Result.{err_from_is_err_and}
use Rattle.ticket.specs.Writing.{tests, test_window}
use Rattle.ticket.proofs.WritingLaws.{window_test_fixed}
use Rattle.writing.proofs.Tests.{more_passed, more_refused}
use Rattle.writing_records.proofs.test_windows.Goals as goal

pub loop-i-init : goal.loop-i-init
unfolding tests
loop-i-init c = refl

pub returns-in_err-test_window : goal.returns-in_err-test_window
unfolding test_window
returns-in_err-test_window c = let r = c.args.r.now in
    let l = c.loop-i in
    let p = err_from_is_err_and c.from_residual.result c.from_residual.ensures.1 in
    rw (p.1, p.2) (more_refused (test_window r) l.i l.invariant r.ticket.events c.loop-i-test.true (sym c.in_err-test_window.was ∙ c.test_window.ensures))

pub loop-i-preserved : goal.loop-i-preserved
unfolding test_window
loop-i-preserved c = let r = c.args.r.now in
    let l = c.loop-i in
    more_passed (test_window r) l.i l.invariant (window_test_fixed r l.i) (sym c.in_ok-test_window.was ∙ c.test_window.ensures)
