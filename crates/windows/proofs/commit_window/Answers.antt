-- `commit_window` meets its contract: three stores, and that of `widen`.
use Rattle.std.proofs.Common.{refl}
use Rattle.windows.specs.Settle.{asked_ends, ends_lie, commit_answer, asked_within}
use Rattle.windows.proofs.commit_window.Goals as goal

pub widen-requires-clause-ends : goal.widen-requires-clause-ends
widen-requires-clause-ends c = asked_ends c.requires.asked

pub returns-clause-committed : goal.returns-clause-committed
returns-clause-committed c = let A = c.requires.asked in record {
  answer = commit_answer A _ _ c.widen.ensures.chosen;
  lie = ends_lie c.args.t _ _ c.widen.ensures.chosen.allowed.ends;
  flags_are = refl;
  opens_past = asked_within A c.args.opens.now c.args.first c.widen.ensures.within.0;
  closes_past = asked_within A c.args.closes.now c.args.last c.widen.ensures.within.1;
}
