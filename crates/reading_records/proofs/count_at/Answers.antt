-- `reading_records::count_at` meets its contract. Each return is one outcome of the parser. Assumes nothing.
use Prim.Native.Nat.{◌+◌}
use mathlib.Core.List.{[]}
use native.Mathlib.Omega.{arith}
use lib.ListN.{drop, length-drop}
use lib.Seq.{get_or-drop}
use Rattle.ticket.specs.Parser.{layout, expect}
use Rattle.ticket.specs.Format.{sound_count}
use Rattle.ticket.proofs.Laws.{little_short}
use Rattle.ticket.proofs.Width.{expect_fixed}
use Rattle.ticket.specs.RoundTrip.{Bytes}
use Rattle.ticket.proofs.RoundTrip.{little_back}
use Rattle.ticket.proofs.Stages.{no_count_lem, bad_count, good_count}
use Rattle.ticket.proofs.Refusals.{passed_up, test_passed}
use borrow.Author.Rules.{rules}
use Rattle.reading_records.proofs.count_at.Goals as goal

pub returns-then-s-at-lt2 : goal.returns-then-s-at-lt2
returns-then-s-at-lt2 c = let a = c.args in
    let s = drop a.at a.s.now in
    rw (no_count_lem a.x s (little_short 2 s (rw length-drop (omega arith))))

-- Two bytes hold no number above 65,535.
pub overflow_cast-count : goal.overflow_cast-count
overflow_cast-count c = let a = c.args in
    let whole : Bytes a.s.now = λ i. search rules in
    let bytes : Bytes (drop a.at a.s.now) = λ i. omega (arith, get_or-drop a.at a.s.now i 0, whole (a.at + i)) in
    record { fits = omega (arith, (little_back 2 _ c.u16_at-count.result _ bytes c.u16_at-count.ensures).2) }

pub returns-in_err-test_count : goal.returns-in_err-test_count
returns-in_err-test_count c = let a = c.args in
    let n = c.u16_at-count in
    passed_up (λ u. u) (λ k. k) (expect (sound_count a.x n.result) layout []) _ c.from_residual.result c.from_residual.ensures.1 c.in_err-test_count.ensures
    (bad_count a.x _ n.result _ n.ensures)

pub returns : goal.returns
returns c = let a = c.args in
    let n = c.u16_at-count in
    let right = sound_count a.x n.result in
    rw (good_count a.x _ n.result _ n.ensures (test_passed (expect right layout) (expect_fixed right layout) [] c.in_ok-test_count.ensures))
