-- What the loops of `Rules::of` keep: the rules stored so far are the ticket's.
use Rattle.std.proofs.Common.{◌≡◌, ◌+◌, ◌*◌, ◌≤◌}
use Rattle.ticket.specs.Writing.{content}
use Rattle.ring.specs.Places.{Filled}
use Rattle.ring.proofs.rules.Rules.of.Given as goal

abbrev pub invariant-loop-j : goal.invariant-loop-j
invariant-loop-j l = record { count : l.rules.count ≡ l.j; filled : Filled (content l.t) l.rules }

abbrev pub invariant-loop-i : goal.invariant-loop-i
invariant-loop-i l = record {
  end : l.i ≤ l.t.events + 1;
  count : l.rules.count + 2 ≡ l.t.rules + 2 * l.i;
  filled : Filled (content l.t) l.rules;
}
