-- The invariant: the rules from the points below i are stored.
use Prim.Native.Nat.{suc}
use Rattle.parts.specs.Part.{joined, rule_between}
use Rattle.part_network.specs.Lay.{bound_in, Lays}
use Rattle.part_network.proofs.Distances.put_all.Given as goal

abbrev pub invariant-loop-i : goal.invariant-loop-i
invariant-loop-i l = Lays l.initial.net l.net l.self.n l.e (joined l.i (λ q. joined (suc l.self.n) (rule_between (bound_in l.self.points.now l.self.w.now) q))) l.next
