-- `seek` meets its contract, by that of `reach`.
use Rattle.admit.specs.Admit.{approached_search}
use Rattle.admit.proofs.seek.Goals as goal

pub returns : goal.returns
returns c = λ k. approached_search c.requires.growing _ _ k c.reach.ensures.reached c.requires.a_lt_nodes.1
