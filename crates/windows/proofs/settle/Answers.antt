-- `settle` meets its contract, by those of its parts.
use Rattle.std.proofs.Common.{arith}
use Rattle.demands.specs.Network.{built_flowless}
use Rattle.windows.specs.Widest.{built_spans, potential_chosen}
use Rattle.potentials.specs.Pairs.{read_windows_lem}
use Rattle.windows.proofs.settle.Goals as goal

pub widest-requires-clause-flowless : goal.widest-requires-clause-flowless
widest-requires-clause-flowless c =
    let S = c.requires.starts_within in
    built_flowless c.build.ensures.built c.requires.given S.limits (omega arith) _ S.long S.meeting

pub widest-requires-clause-spans : goal.widest-requires-clause-spans
widest-requires-clause-spans c = built_spans c.build.ensures.built c.requires.given c.requires.starts_within.limits

pub returns-clause-chosen : goal.returns-clause-chosen
returns-clause-chosen c =
    let best = c.widest.ensures.widened in
    rw (read_windows_lem c.read_windows.ensures)
    (potential_chosen c.build.ensures.built c.requires.given c.requires.starts_within.limits best.weights _ best.owned best.best)
