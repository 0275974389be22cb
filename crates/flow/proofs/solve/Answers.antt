-- `solve` meets its contract: the hi nodes rise, the weights are sent, and then every node is reached from the origin.
use mathlib.Core.Path.{◌∙◌}
use Rattle.network.specs.Index.{index_kept}
use Rattle.flow.specs.Solve.{by_tail, by_head, solved}
use Rattle.flow.proofs.solve.Goals as goal

pub lower-requires : goal.lower-requires
lower-requires c = let s = c.send.ensures.sent in record {
  network = s.network;
  potential = s.potential;
  index = index_kept _ _ _ _ _ _ by_tail s.kept c.list_edges.ensures.index;
  index_2 = index_kept _ _ _ _ _ _ by_head s.kept c.list_edges.ensures.index_2;
}

pub returns : goal.returns
returns c = solved c.send.ensures.sent c.lower.ensures.lowered c.requires.spans (λ v l. c.lower.ensures.beyond v l ∙ c.send.ensures.beyond v l ∙ c.widen.ensures.beyond v l)
