-- `gathered` meets its contract. The first e places hold the first e rules. Assumes nothing.
use Rattle.std.proofs.Common.{[], arith, rules, refl, pos, w32, SFits, slice_index_or, length-set, ◌∙◌}
use mir.Facts.{to_z-of_z}
use Rattle.table.specs.declared.Rule.{Rule}
use Rattle.table.proofs.Rules.{gathered_none, gathered_more}
use Rattle.table.proofs.gathered.Goals as goal

pub loop-e-init : goal.loop-e-init
loop-e-init c = (search rules, gathered_none c.args.from.now c.args.to.now c.args.bound.now [])

pub loop-e-preserved : goal.loop-e-preserved
loop-e-preserved c = let a = c.args in
    let loop = c.loop-e in
    let long = loop.invariant.0 in
    let fits : SFits w32 (slice_index_or a.bound.now loop.e (pos 0)) = search rules in
    let rule : Rule = record { from = slice_index_or a.from.now loop.e 0; to = slice_index_or a.to.now loop.e 0; bound = slice_index_or a.bound.now loop.e (pos 0) } in
    rw (to_z-of_z fits)
    (length-set loop.rules loop.e rule ∙ long, gathered_more a.from.now a.to.now a.bound.now loop.rules loop.e rule (omega arith) refl loop.invariant.1)
