-- The invariant: the rules to the points below j are stored.
use Rattle.parts.specs.Part.{joined, rule_between}
use Rattle.part_network.specs.Lay.{bound_in, Lays}
use Rattle.part_network.proofs.Distances.put_row.Given as goal

abbrev pub invariant-loop-j : goal.invariant-loop-j
invariant-loop-j l = Lays l.initial.net l.net l.self.n l.e (joined l.j (rule_between (bound_in l.self.points.now l.self.w.now) l.i)) l.next
