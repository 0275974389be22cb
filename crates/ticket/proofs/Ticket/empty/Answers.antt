-- `ticket::Ticket::empty` meets its contract. The struct of the empty ticket, written out. Assumes nothing.
use Rattle.ticket.specs.Stored.{pad}
use mathlib.Core.Path.{refl}
use Rattle.ticket.proofs.Ticket.empty.Goals as goal

pub returns : goal.returns
unfolding pad
returns c = refl
