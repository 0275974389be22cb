-- `plan::commit` meets its contract: 10 first, then what was read and decided, then the scratch is cleared. Assumes nothing.
use Rattle.std.proofs.Common.{refl}
use Rattle.runs.proofs.Calls.{committing_read, committing_short}
use Rattle.runs.proofs.Scratch.{commit_read_clears}
use Rattle.causes.specs.Room.{short_room, long_room}
use Rattle.plan.specs.Meets.{whole_short, whole_read}
use Rattle.plan.proofs.commit.Goals as goal

pub returns-then-short : goal.returns-then-short
returns-then-short c =
    let s = c.args in
    let whole = whole_short s.out.now s.scratch.now (committing_short s.record.now s.caller s.event s.opens s.closes s.out.now s.scratch.now
    (short_room s.out.now s.scratch.now c.short.ensures c.if-short.true)) refl in
    record { value = whole.0; out_after = whole.1.0; scratch_after = whole.1.1 }

pub returns : goal.returns
returns c =
    let s = c.args in
    let whole = whole_read s.scratch.now
    (committing_read s.record.now s.caller s.event s.opens s.closes s.out.now s.scratch.now
    (long_room s.out.now s.scratch.now c.short.ensures c.if-short.false))
    (commit_read_clears s.record.now s.caller s.event s.opens s.closes s.out.now s.scratch.now)
    c.commit_bytes-answer.ensures c.clear.ensures in
    record { value = whole.0; out_after = whole.1.0; scratch_after = whole.1.1 }
