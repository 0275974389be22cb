-- `select` meets its contract. The invariant: the selection among the rules below j stands in the arrays, and the network has the kept ones.
use native.Mathlib.Omega.{arith}
use Prim.Native.Nat.{◌<◌}
use mathlib.Core.Path.{refl}
use Rattle.select.specs.Selecting.{selecting_start, selecting_asks, selecting_kept, selecting_dropped, selecting_mended, selecting_listed}
use Rattle.select.proofs.select.Goals as goal
use Rattle.select.proofs.select.Goals.{then-admit_rule_of, else-admit_rule_of}

pub loop-j-init : goal.loop-j-init
loop-j-init c = (refl, refl, selecting_start c.args.t.now c.requires.tried)

pub admit_rule_of-requires : goal.admit_rule_of-requires
admit_rule_of-requires c = let S = c.loop-j.invariant.2 in
    let a = selecting_asks S c.requires.valid.0 (omega arith) c.requires.valid.1 in record {
      growing = a.0;
      small_rule = a.1;
      n_bound = a.2;
      j_in_bounds = (omega arith, omega arith);
    }

pub loop-j-preserved : goal.loop-j-preserved
loop-j-preserved c = let S = c.loop-j.invariant.2 in
    let lj : c.loop-j.j < c.args.t.now.rules = omega arith in
    let A = c.admit_rule_of.ensures in (
      omega arith,
      omega arith,
      elim c.if-admit_rule_of.branch [
        | then-admit_rule_of w ↦ rw (w.mended-is, w.keep.ensures) (selecting_kept S c.requires.valid.0 lj (rw w.if-admit_rule_of.true at A))
        | else-admit_rule_of w ↦ rw (w.mended-is, w.list.ensures) (selecting_dropped S c.requires.valid.0 lj (rw w.if-admit_rule_of.false at A))
      ],
    )

pub returns : goal.returns
returns c = record {
  ticket_value = selecting_mended c.loop-j.invariant.2 (omega arith);
  numbers_value = selecting_listed c.loop-j.invariant.2 (omega arith);
}
