-- `send` meets its contract, by those of `start` and `serve`.
use Rattle.network.specs.Index.{index_kept}
use Rattle.flow.specs.Solve.{by_tail, by_head}
use Rattle.flow.proofs.send.Goals as goal

pub serve-requires : goal.serve-requires
serve-requires c = let s = c.start.ensures in record {
  carries = s.carries;
  index = index_kept _ _ _ _ _ _ by_tail s.kept c.requires.index;
  index_2 = index_kept _ _ _ _ _ _ by_head s.kept c.requires.index_2;
  weights = c.requires.weights;
}
