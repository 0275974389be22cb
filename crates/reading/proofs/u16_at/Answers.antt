-- `reading::u16_at` meets its contract. Two bytes, one after the other. Assumes nothing.
use Rattle.ticket.proofs.Laws.{little2_at}
use native.Mathlib.Omega.{arith}
use Rattle.reading.proofs.u16_at.Goals as goal

pub returns : goal.returns
returns c = let a = c.args in
    little2_at a.s.now a.at _ (omega arith) (omega (arith, c.from.ensures, c.from_le_bytes.ensures))
