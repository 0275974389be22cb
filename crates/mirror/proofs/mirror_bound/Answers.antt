-- `mirror_bound` meets its contract: the three cases of a rule's points.
use Rattle.std.proofs.Common.{arith, pos, get_or}
use Rattle.std.proofs.lemmas.Int.{ints, clamps}
use Rattle.temporal.specs.Run.{ValidRule}
use Rattle.ticket.specs.Writing.{rule_in}
use Rattle.mirror.proofs.Structs.{bound_from_start, bound_between, bound_to_start, min_same, rule_valid}
use Rattle.mirror.proofs.mirror_bound.Goals as goal
use Rattle.mirror.proofs.mirror_bound.Goals.{Start}

valid : (c : Start) → ValidRule 255 (rule_in c.args.t.now c.args.j)
valid c = rule_valid c.args.t.now c.requires.valid c.args.j c.requires.j_in_bounds

pub overflow_sub-result : goal.overflow_sub-result
overflow_sub-result c = let v = valid (goal.at.overflow_sub-result c).Start in omega (arith, ints, c.requires.valid.horizon_limit)

pub returns-in-0-default : goal.returns-in-0-default
returns-in-0-default c =
    let v = valid (goal.at.returns-in-0-default c).Start in
    rw (bound_from_start _ _ _ (get_or c.args.t.now.bound c.args.j (pos 0)) c.in-0-default.is-0 v.differ) (omega (arith, ints, c.requires.valid.horizon_limit))

pub overflow_add-t : goal.overflow_add-t
overflow_add-t c = let v = valid (goal.at.overflow_add-t c).Start in omega (arith, ints, c.requires.valid.horizon_limit)

pub returns-in_default-eq0 : goal.returns-in_default-eq0
returns-in_default-eq0 c =
    let v = valid (goal.at.returns-in_default-eq0 c).Start in
    rw (bound_to_start _ _ _ (get_or c.args.t.now.bound c.args.j (pos 0)) c.in_default-eq0.is-0.1 c.in_default-eq0.is-1, ← min_same)
    (omega (arith, ints, clamps, c.requires.valid.horizon_limit, c.min.ensures.value))

pub returns-in_default : goal.returns-in_default
returns-in_default c =
    let v = valid (goal.at.returns-in_default c).Start in
    rw (bound_between _ _ _ (get_or c.args.t.now.bound c.args.j (pos 0)) c.in_default.is-0.1 c.in_default.is-1.1) (omega (arith, ints))
