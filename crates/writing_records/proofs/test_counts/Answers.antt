-- `writing_records::test_counts` meets its contract. The invariant: the tests so far are passed. Assumes nothing.
use mathlib.Core.Path.{◌≡◌, refl, sym, ◌∙◌}
use mathlib.Core.List.{[]}
use Rattle.std.proofs.lemmas.Result.{err_from_is_err_and}
use Rattle.ticket.specs.Refusal.{tested}
use Rattle.ticket.specs.Writing.{tests, test_count}
use Rattle.ticket.proofs.WritingLaws.{count_test_fixed}
use Rattle.writing.proofs.Tests.{more_passed, more_refused}
use Rattle.writing_records.specs.Parts.{count_tested}
use Rattle.writing_records.proofs.test_counts.Goals as goal
use Rattle.writing_records.proofs.test_counts.Goals.{After-test_count}

-- What was answered is the test of the count.
answered : (c : After-test_count) → c.test_count.result ≡ tested (test_count c.args.r.now c.loop-o.o [])
answered c = c.test_count.ensures ∙ count_tested c.args.r.now c.flag_counts-flags.result c.loop-o.o c.flag_counts-flags.ensures c.loop-o-test.true

pub loop-o-init : goal.loop-o-init
unfolding tests
loop-o-init c = refl

pub returns-in_err-test_count : goal.returns-in_err-test_count
returns-in_err-test_count c = let r = c.args.r.now in
    let l = c.loop-o in
    let p = err_from_is_err_and c.from_residual.result c.from_residual.ensures.1 in
    rw (p.1, p.2) (more_refused (test_count r) l.o l.invariant 5 c.loop-o-test.true (sym c.in_err-test_count.was ∙ answered (goal.at.returns-in_err-test_count c).After-test_count))

pub loop-o-preserved : goal.loop-o-preserved
loop-o-preserved c = let r = c.args.r.now in
    let l = c.loop-o in
    more_passed (test_count r) l.o l.invariant (count_test_fixed r l.o) (sym c.in_ok-test_count.was ∙ answered (goal.at.loop-o-preserved c).After-test_count)
