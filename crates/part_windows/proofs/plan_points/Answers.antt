-- `plan_points` meets its contract, by those of its parts.
use native.Mathlib.Omega.{arith}
use mathlib.Core.Path.{refl}
use lib.ListN.{replicate}
use Rattle.demands.specs.Network.{built_flowless}
use Rattle.parts.proofs.AllRules.{rules_most}
use Rattle.windows.specs.Widest.{built_spans}
use Rattle.part_network.specs.Lay.{bound_in}
use Rattle.part_windows.specs.Planned.{part_few, part_top, part_ranged, entry_low, struct_held, struct_limits, start_meeting, plan_points}
use Rattle.part_windows.proofs.plan_points.Goals as goal

pub build-m-requires : goal.build-m-requires
build-m-requires c = let P = c.requires.given_part in record {
  n_bound = (part_few P, part_top P, omega arith);
  ranged = part_ranged P;
}

pub lay_earliest-requires : goal.lay_earliest-requires
lay_earliest-requires c = let P = c.requires.given_part in record {
  n_bound = part_few P;
  nodes = record { long = refl; origin = refl };
  by_index = entry_low P;
}

pub widest-requires : goal.widest-requires
widest-requires c = let a = c.args in
    let P = c.requires.given_part in
    let B = c.build-m.ensures.by_index (replicate 40 a.device) in
    let Q = c.lay_earliest.ensures in
    let few = rules_most (bound_in a.points.now a.w.now) a.n (part_few P) in record {
      n_bound = (part_few P, omega (arith, c.build-m.ensures.value, few, part_few P));
      flowless = rw c.build-m.ensures.value (built_flowless B (struct_held P) (struct_limits P) (omega arith) _ Q.nodes.long (start_meeting P Q));
      spans = rw c.build-m.ensures.value (built_spans B (struct_held P) (struct_limits P));
    }

pub read_windows-requires : goal.read_windows-requires
read_windows-requires c = record {
  n_bound = part_few c.requires.given_part;
  opens_len = c.requires.opens_len;
}

pub returns : goal.returns
returns c = let W = c.widest.ensures in
    plan_points c.requires.given_part (c.build-m.ensures.by_index (replicate 40 c.args.device)) W.owned (rw c.build-m.ensures.value at W.best) c.read_windows.ensures
