-- `mend_ticket` meets its contract, by that of `select`.
use native.Mathlib.Omega.{arith}
use Prim.Native.Nat.{ℕ, ◌+◌, ◌≤◌}
use lib.ListN.{length, replicate, length-replicate}
use Rattle.potentials.specs.Arrays.{valid_given}
use Rattle.potentials.specs.Pairs.{replicate_most}
use Rattle.select.specs.Selecting.{boxes_tried}
use Rattle.select.proofs.mend_ticket.Goals as goal

pub boxes-requires : goal.boxes-requires
boxes-requires c = let G = valid_given c.args.t c.requires in record {
  last_bound = (omega (arith, G.few), omega (arith, G.few, length-replicate {A = ℕ} 1344 0));
  by_index = λ v lo hi. (omega (arith, replicate_most 81 0 v), omega (arith, G.top, replicate_most 81 c.args.t.horizon v));
}

pub select-requires : goal.select-requires
select-requires c = let G = valid_given c.args.t c.requires in
    let room : 81 + c.args.t.rules ≤ length (replicate {A = ℕ} 400 0) = omega (arith, G.most, length-replicate {A = ℕ} 400 0) in record {
      given = G;
      valid = (c.requires, omega (arith, G.few, G.most, c.boxes.ensures.net_len_unchanged, length-replicate {A = ℕ} 1344 0));
      tried = boxes_tried c.args.t c.requires (omega (arith, G.few, c.boxes.ensures.net_len_unchanged, length-replicate {A = ℕ} 1344 0)) c.boxes.ensures.boxes;
      rules_in_bounds = (room, room);
    }
