-- `plan::plan_ticket` meets its contract: `windows` decides, and the record is written. Assumes nothing.
use Rattle.std.specs.Prelude.{refl, Ok}
use Rattle.std.proofs.Common.{ap, ◌∙◌}
use native.Mathlib.Omega.{arith}
use lib.Seq.{length-take-le}
use Rattle.causes.specs.Zeroed.{past_part}
use Rattle.plan.specs.Returned.{told}
use Rattle.plan.specs.Steps.{plan_asked, planned_none, planned_some, canonical_planned}
use Rattle.plan.specs.Meets.{meets_refused, meets_accepted}
use Rattle.plan.proofs.plan_ticket.Goals as goal

pub plan_windows-found-requires : goal.plan_windows-found-requires
plan_windows-found-requires c =
    let asked = plan_asked c.requires.valid (length-take-le 1824 c.args.scratch.now (omega (arith, c.requires.in_bounds))) refl refl in
    record { valid = asked.0; workspace = asked.1 }

pub returns-then-not-found : goal.returns-then-not-found
returns-then-not-found c = meets_refused c.args.out.now (planned_none c.plan_windows-found.ensures.planned_for c.if-not-found.true)
    refl
    (past_part 2400 1824 c.args.scratch.now c.plan_windows-found.new.net (omega arith)
    (c.plan_windows-found.ensures.net_len_unchanged ∙ length-take-le 1824 c.args.scratch.now (omega (arith, c.requires.in_bounds))))

pub write_out-requires : goal.write_out-requires
write_out-requires c = (canonical_planned c.plan_windows-found.ensures.planned_for c.requires.valid refl refl c.if-not-found.false, c.requires.in_bounds.0)

pub returns : goal.returns
returns c = meets_accepted c.args.out.now (planned_some c.plan_windows-found.ensures.planned_for c.if-not-found.false)
    (ap (λ x. told (Ok x)) c.write_out.ensures.value) c.write_out.ensures.out_after
    (past_part 2400 1824 c.args.scratch.now c.plan_windows-found.new.net (omega arith)
    (c.plan_windows-found.ensures.net_len_unchanged ∙ length-take-le 1824 c.args.scratch.now (omega (arith, c.requires.in_bounds))))
