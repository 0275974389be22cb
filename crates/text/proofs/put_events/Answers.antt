-- `text::put_events` meets its contract: the line of one event more. Assumes nothing.
use Rattle.std.proofs.Common.{arith}
use Rattle.text.specs.Text.{each_none, each_more}
use Rattle.text.specs.Stores.{puts_none, puts_then}
use Rattle.text.proofs.put_events.Goals as goal

pub loop-i-init : goal.loop-i-init
loop-i-init c = record { room = omega arith; put = rw each_none (puts_none c.args.out.now c.args.at (omega arith)) }

pub loop-i-preserved : goal.loop-i-preserved
loop-i-preserved c =
    let p = c.put_event-next.ensures in
    record { room = omega (arith, p.upper_bound); put = rw each_more (puts_then c.loop-i.invariant.put p.puts) }
