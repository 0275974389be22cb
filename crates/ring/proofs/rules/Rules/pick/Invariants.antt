-- What the loop of `Rules::pick` keeps: no rule below e can be taken.
use Rattle.std.proofs.Common.{T}
use Rattle.ring.specs.FirstOr.{Passed}
use Rattle.ring.specs.Search.{opens}
use Rattle.ring.proofs.rules.Rules.pick.Given as goal

abbrev pub invariant-loop-e : goal.invariant-loop-e
invariant-loop-e l = Passed (λ x. T (opens l.self l.w.costs l.r l.s l.limit l.p x)) l.e
