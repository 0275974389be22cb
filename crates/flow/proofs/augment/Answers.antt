-- `augment` meets its contract, by those of `reach` and `push`.
use Rattle.flow.specs.Augment.{found_goal, augmented}
use Rattle.flow.proofs.augment.Goals as goal

pub unwrap-from-requires : goal.unwrap-from-requires
unwrap-from-requires c = found_goal _ c.reach.ensures.reached c.requires.left

pub returns-clause-augmented : goal.returns-clause-augmented
returns-clause-augmented c = augmented c.requires (rw c.unwrap-from.ensures at c.reach.ensures.reached) (rw c.reach.ensures.rooted at c.push.ensures)
