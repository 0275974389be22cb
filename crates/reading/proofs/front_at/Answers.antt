-- `reading::front_at` meets its contract. Each return is one stage of the parser. Assumes nothing.
use Prim.Native.Nat.{◌+◌}
use native.Mathlib.Omega.{arith}
use lib.ListN.{drop, length-drop}
use Rattle.ticket.proofs.Laws.{little_short}
use Rattle.ticket.proofs.Stages.{no_horizon, bad_horizon, no_events, bad_events, front_read}
use Rattle.reading.proofs.front_at.Goals as goal
use Rattle.reading.proofs.front_at.Goals.{then-s-at-via-then-s-at, then-s-at-via-else-s-at+then-s-at-lt4}

pub returns-then-s-at : goal.returns-then-s-at
returns-then-s-at c = let a = c.args in
    let s = drop a.at a.s.now in
    rw (no_horizon s (little_short 4 s (rw length-drop (
    elim c.then-s-at.branch [ then-s-at-via-then-s-at w ↦ omega arith | then-s-at-via-else-s-at+then-s-at-lt4 w ↦ omega arith ]))))

pub returns-then-horizon-gt-HORIZON : goal.returns-then-horizon-gt-HORIZON
returns-then-horizon-gt-HORIZON c = let a = c.args in
    let h = c.u32_at-horizon in
    rw (bad_horizon (drop a.at a.s.now) h.result _ h.ensures c.if-horizon-gt-HORIZON.true)

pub returns-then-s-next-lt2 : goal.returns-then-s-next-lt2
returns-then-s-next-lt2 c = let a = c.args in
    let s = a.s.now in
    let h = c.u32_at-horizon in
    rw (no_events (drop a.at s) h.result _ h.ensures c.if-horizon-gt-HORIZON.false (little_short 2 (drop (a.at + 4) s) (rw length-drop (omega arith))))

pub returns-then-events-gt-EVENTS : goal.returns-then-events-gt-EVENTS
returns-then-events-gt-EVENTS c = let a = c.args in
    let h = c.u32_at-horizon in
    let n = c.u16_at-events in
    rw (bad_events (drop a.at a.s.now) h.result _ h.ensures c.if-horizon-gt-HORIZON.false n.result _ n.ensures c.if-events-gt-EVENTS.true)

pub returns : goal.returns
returns c = let a = c.args in
    let h = c.u32_at-horizon in
    let n = c.u16_at-events in
    rw (front_read (drop a.at a.s.now) h.result _ h.ensures c.if-horizon-gt-HORIZON.false n.result _ n.ensures c.if-events-gt-EVENTS.false)
