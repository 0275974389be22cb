-- `ring_text::Sheet::put_point` meets its contract: an event's line has the names that the lists hold. Assumes nothing.
use Prim.Native.Nat.{◌-◌, ◌≤◌}
use mathlib.Core.Path.{◌≡◌}
use native.Mathlib.Omega.{arith}
use lib.ListN.{length, get_or}
use Rattle.names.specs.Names.{count, name_at}
use Rattle.names.specs.Laws.{name_short}
use Rattle.ring_text.specs.Lines.{line_start, line_event}
use Rattle.ring_text.proofs.Sheet.put_point.Goals as goal
use Rattle.ring_text.proofs.Sheet.put_point.Goals.{After-name-device}

label : (c : After-name-device) → c.name-label.result.now ≡ name_at c.args.self.now.labels.now (c.args.p - 1)
label c = c.name-label.ensures.name

device : (c : After-name-device) → c.name-device.result.now ≡ name_at c.args.self.now.roster.now (get_or c.args.self.now.ticket.now.owners (c.args.p - 1) 0)
device c = rw c.from-owner.ensures at c.name-device.ensures.name

label-short : (c : After-name-device) → length c.name-label.result.now ≤ 16
label-short c = let l = c.args.self.now.labels.now in
    rw (label c) (name_short l (count l) (c.requires.1.label (omega arith)).whole _)

device-short : (c : After-name-device) → length c.name-device.result.now ≤ 16
device-short c = let r = c.args.self.now.roster.now in
    rw (device c) (name_short r (count r) (c.requires.1.device (omega arith)).whole _)

pub returns-then-p-eq0 : goal.returns-then-p-eq0
returns-then-p-eq0 c = let s = c.args.self.now in
    let e = line_start s.ticket.now.owners s.labels.now s.roster.now c.args.p c.if-p-eq0.true in
    rw e c.put_word.ensures

pub put_event-requires : goal.put_event-requires
put_event-requires c = omega (arith, label-short (goal.at.put_event-requires c).After-name-device, device-short (goal.at.put_event-requires c).After-name-device, c.requires.0)

pub returns : goal.returns
returns c = let s = c.args.self.now in
    let e = line_event s.ticket.now.owners s.labels.now s.roster.now c.args.p (omega (arith, c.if-p-eq0.false)) in
    rw (e, ← (label (goal.at.returns c).After-name-device), ← (device (goal.at.returns c).After-name-device)) c.put_event.ensures
