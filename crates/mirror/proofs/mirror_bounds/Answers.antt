-- `mirror_bounds` meets its contract.
use Rattle.std.proofs.Common.{arith}
use Rattle.std.specs.Int.{w32}
use Rattle.std.proofs.lemmas.Int.{to_z-of_z}
use Rattle.mirror.proofs.Structs.{few_rules, replaced_more}
use Rattle.mirror.proofs.mirror_bounds.Goals as goal

pub loop-j-preserved : goal.loop-j-preserved
loop-j-preserved c = rw (to_z-of_z w32 c.mirror_bound.result (record { sfits = omega arith }))
    (replaced_more (omega (arith, few_rules c.args.t.now c.requires)) c.mirror_bound.ensures c.loop-j.invariant)
