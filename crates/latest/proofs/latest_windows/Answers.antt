-- `latest_windows` meets its contract, by those of crate `mirror` and of `windows::plan_windows`.
use Rattle.std.proofs.Common.{arith, ◌∙◌}
use Rattle.potentials.specs.Arrays.{valid_given}
use Rattle.latest.specs.Latest.{impossible_latest, mirror_asked, mirror_none, mirror_below, mirror_planned}
use Rattle.latest.proofs.latest_windows.Goals as goal
use Rattle.latest.proofs.latest_windows.Goals.{then-not-all_possible-via-then-not-all_possible, then-not-all_possible-via-else-not-all_possible+then-not-plan_windows}

pub plan_windows-requires : goal.plan_windows-requires
plan_windows-requires c =
    let asked = mirror_asked c.args.t.now c.mirror_ticket.result c.requires.valid c.mirror_ticket.ensures
    (c.all_possible.ensures.holds c.if-not-all_possible.false) c.requires.workspace in
    record { valid = asked.0; workspace = asked.1 }

pub returns-then-not-all_possible-clause-planned_for : goal.returns-then-not-all_possible-clause-planned_for
returns-then-not-all_possible-clause-planned_for c = elim c.then-not-all_possible.branch [
  | then-not-all_possible-via-then-not-all_possible w ↦
      rw (w.opens-is, w.closes-is) (impossible_latest c.args.t.now _ _ (c.all_possible.ensures.fails w.if-not-all_possible.true))
  | then-not-all_possible-via-else-not-all_possible+then-not-plan_windows w ↦
      rw (w.opens-is, w.closes-is)
      (mirror_none c.args.t.now w.mirror_ticket.result c.requires.valid w.mirror_ticket.ensures _ _ w.plan_windows.ensures.planned w.if-not-plan_windows.true)
]

pub mirror_windows-requires : goal.mirror_windows-requires
mirror_windows-requires c = let P = c.plan_windows.ensures.planned in
    let below = mirror_below c.args.t.now c.mirror_ticket.result c.requires.valid c.mirror_ticket.ensures _ _ P c.if-not-plan_windows.false in record {
      n_bound = (omega (arith, (valid_given c.args.t.now c.requires.valid).few), P.opens_past.long ∙ c.requires.workspace.opens_long, P.closes_past.long ∙ c.requires.workspace.closes_long);
      below = (λ i l. below.0 i (omega arith), λ i l. below.1 i (omega arith));
    }

pub returns-clause-planned_for : goal.returns-clause-planned_for
returns-clause-planned_for c =
    mirror_planned c.args.t.now c.mirror_ticket.result c.requires.valid c.mirror_ticket.ensures _ _ c.plan_windows.ensures.planned _ _
    c.if-not-plan_windows.false c.mirror_windows.ensures.closes_after c.mirror_windows.ensures.within
