-- The invariant: the lines of the first i events are put, 44 bytes each at most.
use Rattle.std.proofs.Common.{◌+◌, ◌*◌, ◌≤◌}
use Rattle.text.specs.Text.{each, line_at}
use Rattle.text.specs.Stores.{Puts}
use Rattle.text.proofs.put_events.Given as goal

abbrev pub invariant-loop-i : goal.invariant-loop-i
invariant-loop-i l = record {
  room : l.next ≤ l.at + 44 * l.i;
  put : Puts (each l.i (line_at l.plan.ticket.owners l.plan.opens l.plan.closes)) l.initial.out l.out l.at l.next;
}
