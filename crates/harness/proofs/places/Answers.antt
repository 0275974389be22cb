-- `harness::places` meets its contract: what was copied stands in front of the zeros. Assumes nothing.
use Rattle.std.specs.Prelude.{◌++◌, drop, replicate}
use Rattle.std.proofs.Common.{ap, ◌∙◌}
use Rattle.harness.specs.Values.{placed_all}
use Rattle.harness.proofs.places.Goals as goal

pub returns : goal.returns
returns g c = let n = c.min-n.result in
    ap (λ xs. xs ++ drop n (replicate g.row.N c.args.zero)) c.copy_from_slice.ensures.after
    ∙ placed_all c.args.zero g.row.N c.args.s.now n c.min-n.ensures
