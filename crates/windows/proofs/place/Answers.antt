-- `place` meets its contract, by those of `spread` and `settle`.
use Rattle.std.proofs.Common.{refl}
use Rattle.windows.specs.Settle.{plan_started}
use Rattle.windows.proofs.place.Goals as goal

pub settle-requires-clause-starts_within : goal.settle-requires-clause-starts_within
settle-requires-clause-starts_within c = plan_started c.requires.given c.requires.decided refl c.spread.ensures
