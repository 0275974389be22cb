-- `Walks::none` makes walks.
use Rattle.ring.specs.WalkTable.{replicate_most}
use Rattle.ring.proofs.walks.Walks.none.Goals as goal

pub invariant_of-result : goal.invariant_of-result
invariant_of-result c = record { most = replicate_most 1722 1000000000 }
