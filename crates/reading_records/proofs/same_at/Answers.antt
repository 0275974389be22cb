-- `reading_records::same_at` meets its contract. Each return is one outcome of the parser. Assumes nothing.
use native.Mathlib.Omega.{arith}
use lib.ListN.{drop, length-drop}
use Rattle.ticket.proofs.Laws.{little_short}
use Rattle.ticket.proofs.Stages.{no_number, other_number, same_number}
use Rattle.reading_records.proofs.same_at.Goals as goal

pub returns-then-s-at-lt2 : goal.returns-then-s-at-lt2
returns-then-s-at-lt2 c = let a = c.args in
    let s = drop a.at a.s.now in
    rw (no_number a.x s (little_short 2 s (rw length-drop (omega arith))))

pub returns-then-u16_at-x : goal.returns-then-u16_at-x
returns-then-u16_at-x c = let a = c.args in
    let k = c.u16_at in
    rw (other_number a.x (drop a.at a.s.now) k.result _ k.ensures c.if-u16_at-x.true)

pub returns : goal.returns
returns c = let a = c.args in
    let k = c.u16_at in
    rw (same_number a.x (drop a.at a.s.now) k.result _ k.ensures c.if-u16_at-x.false)
