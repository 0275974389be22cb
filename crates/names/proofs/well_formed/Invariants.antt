-- What the loop of `names::well_formed` keeps: the names before `counter` are passed, so the answer is that of the rest.
use Rattle.std.proofs.Common.{◌≡◌, ◌-◌, ◌≤◌, length, drop}
use Rattle.names.specs.Names.{entries, well_formed}
use Rattle.names.proofs.well_formed.Given as goal

abbrev pub invariant-loop : goal.invariant-loop
invariant-loop l = record {
  inside : l.at ≤ length l.list;
  answer : well_formed l.list l.count ≡ entries (l.count - l.counter) (drop l.at l.list);
}
