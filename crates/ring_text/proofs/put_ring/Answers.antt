-- `ring_text::put_ring` meets its contract: the struct, with the two lists of names, is a sheet of the ticket. Assumes nothing.
use Rattle.std.proofs.Common.{take}
use Rattle.text.specs.Stores.{puts_as}
use Rattle.ring_text.specs.Sheet.{sheet_text, sheet_writable}
use Rattle.ring_text.proofs.put_ring.Goals as goal

pub point_line-requires-clause-writable : goal.point_line-requires-clause-writable
point_line-requires-clause-writable c =
    let a = c.args in
    let p = c.requires in
    sheet_writable a.t p.valid a.labels.now a.roster.now p.t_value.0 p.t_value.1 (take a.count a.ring.now) p.ring_len.2

pub returns : goal.returns
returns c =
    let a = c.args in
    puts_as (sheet_text a.t c.requires.valid a.labels.now a.roster.now (take a.count a.ring.now) c.requires.ring_len.2) c.point_line.ensures
