-- `search` meets its contract, by that of `admit_rules`.
use native.Mathlib.Omega.{arith}
use Prim.Native.Nat.{ℕ, ◌+◌, ◌≤◌}
use lib.ListN.{length, replicate, length-replicate}
use Rattle.potentials.specs.Pairs.{replicate_most}
use Rattle.schedule.specs.Schedule.{tried_start}
use Rattle.schedule.proofs.search.Goals as goal

pub boxes-requires : goal.boxes-requires
boxes-requires c = let G = c.requires.given in record {
  last_bound = (omega (arith, G.few), omega (arith, c.requires.rules_in_bounds));
  by_index = λ v lo hi. (omega (arith, replicate_most 81 0 v), omega (arith, G.top, replicate_most 81 c.args.t.now.horizon v));
}

pub admit_rules-requires : goal.admit_rules-requires
admit_rules-requires c = let room : 81 + c.args.t.now.rules ≤ length (replicate {A = ℕ} 400 0) = omega (arith, c.requires.given.most, length-replicate {A = ℕ} 400 0) in record {
  given = c.requires.given;
  rules_in_bounds = omega (arith, c.boxes.ensures.net_len_unchanged, c.requires.rules_in_bounds);
  tried = tried_start c.requires.given (omega (arith, c.boxes.ensures.net_len_unchanged, c.requires.rules_in_bounds)) c.requires.low c.boxes.ensures.boxes;
  rules_in_bounds_2 = (room, room);
}
