-- `writing_records::put_plan` meets its contract. The four parts lie one after the other. Assumes nothing.
use Prim.Native.Nat.{◌+◌, ◌*◌}
use mathlib.Core.Path.{ap, ◌∙◌}
use lib.Seq.{sets}
use Rattle.ticket.specs.Writer.{bytes, each, write_window}
use Rattle.ticket.specs.Writing.{firsts, entry_in, count_in}
use Rattle.writing_records.specs.Stores.{sets_plan}
use Rattle.writing_records.proofs.put_plan.Goals as goal

pub returns : goal.returns
returns c = let a = c.args in
    let r = a.r.now in
    let n = r.ticket.events in
    c.put_counts.ensures
    ∙ ap (λ l. sets l (a.at + 4 + 9 * n) (each (bytes 2) (firsts 5 (count_in r))))
    (c.put_u16-2.ensures
    ∙ ap (λ l. sets l (a.at + 2 + 9 * n) (bytes 2 5))
    (c.put_windows.ensures ∙ ap (λ l. sets l (a.at + 2) (each write_window (firsts n (entry_in r)))) c.put_u16.ensures))
    ∙ sets_plan a.out.now r a.at
