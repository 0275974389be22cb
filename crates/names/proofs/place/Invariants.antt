-- What the loop of `names::place` keeps: `at` is the place of the length byte of the name at `counter`, and the rest is a list of names.
use Rattle.std.proofs.Common.{◌≡◌, ◌-◌, true, drop}
use Rattle.names.specs.Names.{entries, count, name_in, name_at}
use Rattle.names.proofs.place.Given as goal

abbrev pub invariant-loop : goal.invariant-loop
invariant-loop l = record {
  list : entries (count l.list - l.counter) (drop l.at l.list) ≡ true;
  name : name_at l.list l.k ≡ name_in (l.k - l.counter) (drop l.at l.list);
}
