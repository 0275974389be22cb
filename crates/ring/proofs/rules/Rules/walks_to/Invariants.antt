-- What the loop of `Rules::walks_to` keeps: the table is filled up to row r.
use Rattle.ring.specs.WalkTable.{WalkTable}
use Rattle.ring.proofs.rules.Rules.walks_to.Given as goal

abbrev pub invariant-loop-r : goal.invariant-loop-r
invariant-loop-r l = WalkTable l.self l.q l.r l.w.costs
