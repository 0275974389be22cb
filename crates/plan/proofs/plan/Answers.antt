-- `plan::plan` meets its contract: 10 first, then what was read and decided, then the scratch is cleared. Assumes nothing.
use Rattle.std.proofs.Common.{refl}
use Rattle.temporal.specs.Plan.{plan}
use Rattle.ticket.specs.Parser.{wholly}
use Rattle.ticket.specs.Format.{read_ticket}
use Rattle.runs.proofs.Calls.{planning_read, planning_short}
use Rattle.runs.proofs.Scratch.{read_clears}
use Rattle.causes.specs.Room.{short_room, long_room}
use Rattle.plan.specs.Meets.{whole_short, whole_read}
use Rattle.plan.proofs.plan.Goals as goal

pub returns-then-short : goal.returns-then-short
returns-then-short c =
    let s = c.args in
    let whole = whole_short s.out.now s.scratch.now (planning_short s.ticket.now s.out.now s.scratch.now
    (short_room s.out.now s.scratch.now c.short.ensures c.if-short.true)) refl in
    record { value = whole.0; out_after = whole.1.0; scratch_after = whole.1.1 }

pub returns : goal.returns
returns c =
    let s = c.args in
    let whole = whole_read s.scratch.now
    (planning_read s.ticket.now s.out.now s.scratch.now
    (long_room s.out.now s.scratch.now c.short.ensures c.if-short.false))
    (read_clears s.out.now s.scratch.now plan (wholly read_ticket s.ticket.now))
    c.plan_bytes-answer.ensures c.clear.ensures in
    record { value = whole.0; out_after = whole.1.0; scratch_after = whole.1.1 }
