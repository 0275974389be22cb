-- `reading::u32_at` meets its contract. Four bytes, one after the other. Assumes nothing.
use native.Mathlib.Omega.{arith}
use Rattle.ticket.proofs.Laws.{little4_at}
use Rattle.reading.proofs.u32_at.Goals as goal

pub returns : goal.returns
returns c = let a = c.args in
    little4_at a.s.now a.at _ (omega arith) (omega (arith, c.from_le_bytes.ensures))
