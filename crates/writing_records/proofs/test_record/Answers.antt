-- `writing_records::test_record` meets its contract. Each return is one stage of the tests. Assumes nothing.
use Prim.Native.Nat.{◌≤◌}
use mathlib.Core.Path.{◌≡◌, sym, ap, ◌∙◌}
use mathlib.Core.List.{[]}
use Rattle.std.proofs.lemmas.Result.{err_from_is_err_and}
use Rattle.ticket.specs.Parser.{got}
use Rattle.ticket.specs.Refusal.{tested}
use Rattle.ticket.specs.Writing.{tests, test_ticket, test_window}
use Rattle.ticket.proofs.Refusals.{test_passed}
use Rattle.ticket.proofs.WritingLaws.{ticket_fixed, tests_fixed, window_test_fixed}
use Rattle.ticket.proofs.WriteStages.{ticket_fails, windows_fail, last_counts}
use Rattle.ticket.proofs.Agree.{tested_valid}
use Rattle.writing.proofs.Tests.{same_refusal}
use Rattle.writing_records.proofs.test_record.Goals as goal
use Rattle.writing_records.proofs.test_record.Goals.{In_ok-test_ticket, In_ok-test_windows}

-- The ticket's tests are passed, so its events are few enough.
passed : (c : In_ok-test_ticket) → test_ticket c.args.r.now.ticket [] ≡ got tt []
passed c = let t = c.args.r.now.ticket in
    test_passed (test_ticket t) (ticket_fixed t) [] (sym c.in_ok-test_ticket.was ∙ c.test_ticket.ensures)

few : (c : In_ok-test_ticket) → c.args.r.now.ticket.events ≤ 40
few c = (tested_valid c.args.r.now.ticket [] tt [] (passed c)).1

-- The windows' tests are passed.
windows-passed : (c : In_ok-test_windows) → let r = c.args.r.now in tests r.ticket.events (test_window r) [] ≡ got tt []
windows-passed c = let r = c.args.r.now in
    test_passed (tests r.ticket.events (test_window r)) (tests_fixed (test_window r) [] (window_test_fixed r) r.ticket.events) []
    (sym c.in_ok-test_windows.was ∙ c.test_windows.ensures)

pub returns-in_err-test_ticket : goal.returns-in_err-test_ticket
returns-in_err-test_ticket c = let r = c.args.r.now in
    let p = err_from_is_err_and c.from_residual.result c.from_residual.ensures.1 in
    rw (p.1, p.2) (same_refusal (test_ticket r.ticket []) _ (sym c.in_err-test_ticket.was ∙ c.test_ticket.ensures) (ticket_fails r))

pub test_windows-requires : goal.test_windows-requires
test_windows-requires c = few (goal.at.test_windows-requires c).In_ok-test_ticket

pub returns-in_err-test_windows : goal.returns-in_err-test_windows
returns-in_err-test_windows c = let r = c.args.r.now in
    let p = err_from_is_err_and c.from_residual-in_err-test_windows.result c.from_residual-in_err-test_windows.ensures.1 in
    rw (p.1, p.2)
    (same_refusal (tests r.ticket.events (test_window r) []) _ (sym c.in_err-test_windows.was ∙ c.test_windows.ensures)
    (windows_fail r (passed (goal.at.returns-in_err-test_windows c).In_ok-test_ticket)))

pub test_counts-requires : goal.test_counts-requires
test_counts-requires c = few (goal.at.test_counts-requires c).In_ok-test_ticket

pub returns : goal.returns
returns c =
    c.test_counts.ensures
    ∙ ap tested (sym (last_counts c.args.r.now (passed (goal.at.returns c).In_ok-test_ticket) (windows-passed (goal.at.returns c).In_ok-test_windows)))
