-- `reading_records::window_at` meets its contract. Each return is one outcome of the parser. Assumes nothing.
use mathlib.Core.Path.{◌≡◌}
use mathlib.Core.List.{[]}
use native.Mathlib.Omega.{arith}
use lib.Dec.{eqb}
use lib.ListN.{get_or}
use Rattle.ticket.specs.Parser.{layout, expect}
use Rattle.ticket.specs.Format.{sound}
use Rattle.ticket.specs.Writer.{flag_byte}
use Rattle.reading_records.specs.Parts.{window_of}
use Rattle.ticket.proofs.Width.{expect_fixed}
use Rattle.ticket.proofs.Fields.{expect_true, window_short, window_refused, window_got, sound_all, flag_kept}
use Rattle.ticket.proofs.Refusals.{passed_up, test_passed}
use Rattle.reading_records.proofs.window_at.Goals as goal

pub returns-then-s-at-lt9 : goal.returns-then-s-at-lt9
returns-then-s-at-lt9 c = let a = c.args in
    rw (window_short a.s.now a.at a.h (omega arith))

pub returns-in_err-test_window : goal.returns-in_err-test_window
returns-in_err-test_window c = let a = c.args in
    let s = a.s.now in
    let x = c.u32_at-opens in
    let y = c.u32_at-closes in
    let right = sound a.h (get_or s a.at 0) x.result y.result in
    passed_up (λ u. u) window_of (expect right layout []) _ c.from_residual.result c.from_residual.ensures.1 c.in_err-test_window.ensures
    (window_refused s a.at a.h (omega arith) x.result y.result x.ensures y.ensures)

pub returns : goal.returns
returns c = let a = c.args in
    let s = a.s.now in
    let f = get_or s a.at 0 in
    let x = c.u32_at-opens in
    let y = c.u32_at-closes in
    let right = sound a.h f x.result y.result in
    let passed = test_passed (expect right layout) (expect_fixed right layout) [] c.in_ok-test_window.ensures in
    let kept : flag_byte (eqb f 1) ≡ f = flag_kept f (sound_all a.h f x.result y.result (expect_true right layout [] [] tt passed)).0 in
    rw (window_got s a.at a.h (omega arith) x.result y.result x.ensures y.ensures passed, kept)
