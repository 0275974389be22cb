-- `widen` meets its contract, by those of its parts.
use Rattle.potentials.specs.Pairs.{limited}
use Rattle.windows.specs.Settle.{commit_started, commit_chosen}
use Rattle.windows.proofs.widen.Goals as goal

pub settle-requires-clause-starts_within : goal.settle-requires-clause-starts_within
settle-requires-clause-starts_within c =
    let L = limited _ _ c.requires.given.few c.lay.ensures c.limits.ensures.low_after c.limits.ensures.high_after in
    commit_started c.requires.given L c.requires.ends c.lay.ensures

pub returns-clause-chosen : goal.returns-clause-chosen
returns-clause-chosen c =
    let L = limited _ _ c.requires.given.few c.lay.ensures c.limits.ensures.low_after c.limits.ensures.high_after in
    commit_chosen c.requires.given L c.requires.ends c.settle.ensures.chosen
