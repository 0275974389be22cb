-- `build` meets its contract, by those of its parts.
use native.Mathlib.Omega.{arith}
use mathlib.Core.Path.{◌∙◌}
use Rattle.potentials.specs.Pairs.{replicate_most}
use Rattle.parts.proofs.AllRules.{rules_most}
use Rattle.part_network.specs.Lay.{bound_in}
use Rattle.part_network.specs.Dense.{dense_built}
use Rattle.part_network.proofs.build.Goals as goal

pub boxes-requires : goal.boxes-requires
boxes-requires c = record {
  last_bound = (omega arith, omega arith);
  by_index = λ v lo hi. (omega (arith, replicate_most 81 0 v), omega (arith, replicate_most 81 c.args.horizon v));
}

pub returns : goal.returns
returns c = let a = c.args in
    let L = c.put_all.ensures in
    let long = L.extends.long ∙ c.order.ensures.extends.long ∙ c.boxes.ensures.net_len_unchanged in
    let few = rules_most (bound_in a.points.now a.w.now) a.n (omega arith) in record {
      value = L.counted;
      net_len_unchanged = long;
      by_index = λ owners. dense_built a.horizon a.n owners _ (omega (arith, few, long)) c.boxes.ensures.boxes c.order.ensures.extends c.order.ensures.order L;
    }
