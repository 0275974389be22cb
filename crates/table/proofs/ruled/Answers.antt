-- `ruled` meets its contract. The loop has stored as many rules. Assumes nothing.
use Rattle.std.proofs.Common.{◌≡◌, arith, length, length-set, map}
use mir.Facts.{to_z-of_z}
use Rattle.std.proofs.lemmas.List.{length-map}
use Rattle.temporal.specs.Run.{ValidRule}
use Rattle.closure.specs.Signed.{ranged_fits}
use Rattle.table.specs.Lent.{rule_of}
use Rattle.table.proofs.Rules.{lent_at, at_lent, valid_at, ruling_none, ruling_more}
use Rattle.table.proofs.ruled.Goals as goal
use Rattle.table.proofs.ruled.Goals.{In-loop-rule}

-- the rule of this turn is valid
valid : (c : In-loop-rule) → ValidRule 40 (rule_of (lent_at c.args.rules.now c.loop-rule.rule-index))
valid c = valid_at c.args.rules.now c.loop-rule.rule-index (omega arith) c.requires.valid_rules

pub loop-rule-init : goal.loop-rule-init
loop-rule-init c = (c.unruled-w.ensures.0, ruling_none _ _ c.unruled-w.result c.unruled-w.ensures.1)

pub place_of-place-requires : goal.place_of-place-requires
place_of-place-requires c = let v = valid (goal.at.place_of-place-requires c).In-loop-rule in
    (v.from_point, v.to_point)

pub bounds-w-place : goal.bounds-w-place
bounds-w-place c = let v = valid (goal.at.bounds-w-place c).In-loop-rule in
    omega (arith, v.from_point, v.to_point)

pub bounded-requires : goal.bounded-requires
bounded-requires c = let v = valid (goal.at.bounded-requires c).In-loop-rule in
    rw (to_z-of_z (ranged_fits _ v.at_least v.at_most)) (v.at_least, v.at_most)

pub bounds-w-place-in-loop-rule : goal.bounds-w-place-in-loop-rule
bounds-w-place-in-loop-rule c = let v = valid (goal.at.bounds-w-place-in-loop-rule c).In-loop-rule in
    omega (arith, v.from_point, v.to_point)

pub loop-rule-preserved : goal.loop-rule-preserved
loop-rule-preserved c = let loop = c.loop-rule in
    let v = valid (goal.at.loop-rule-preserved c).In-loop-rule in
    let stored = rw (to_z-of_z (ranged_fits _ v.at_least v.at_most)) at c.bounded.ensures in (
      simp length-set loop.invariant.0,
      rw (stored, c.place_of-place.ensures)
          (ruling_more _ _ loop.w loop.rule-index _ (at_lent c.args.rules.now loop.rule-index) (omega arith)
          loop.invariant.0 v.from_point v.to_point loop.invariant.1),
    )

pub returns : goal.returns
returns c = let end : c.loop-rule.rule-index ≡ length (map rule_of c.args.rules.now) = rw length-map (omega arith) in
    (c.loop-rule.invariant.0, rw end at c.loop-rule.invariant.1.entries)
