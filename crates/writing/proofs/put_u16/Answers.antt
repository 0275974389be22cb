-- `writing::put_u16` meets its contract: the first two of the number's bytes. Assumes nothing.
use Rattle.ticket.specs.Writer.{bytes}
use Rattle.writing.proofs.put_u16.Goals as goal

pub returns : goal.returns
unfolding bytes
returns c = rw (c.put_bytes.ensures, c.to_le_bytes.ensures)
