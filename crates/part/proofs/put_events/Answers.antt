-- `put_events` meets its contract. The invariant: the events so far are stored after the count.
use Prim.Native.Nat.{◌+◌, ◌*◌}
use mathlib.Core.Path.{refl, sym, ap, ◌∙◌}
use lib.Seq.{sets}
use Rattle.ticket.specs.Writer.{each}
use Rattle.ticket.specs.Writing.{firsts}
use Rattle.parts.specs.Parting.{write_numbered}
use Rattle.part.specs.Stored.{numbered_in, numbered_more, numbered_bytes}
use Rattle.part.proofs.put_events.Goals as goal

pub loop-i-init : goal.loop-i-init
unfolding firsts each
loop-i-init c = (refl, refl)

pub loop-i-preserved : goal.loop-i-preserved
loop-i-preserved c = let a = c.args in
    let l = c.loop-i in
    let p = c.put_window in
    let f = numbered_in a.points.now a.opens.now a.closes.now in (
      p.auto.out ∙ l.invariant.0,
      p.ensures
          ∙ ap (sets _ (2 + 9 * l.i)) (numbered_bytes a.points.now a.opens.now a.closes.now l.i)
          ∙ ap (λ o. sets o (2 + 9 * l.i) (write_numbered (f l.i))) l.invariant.1
          ∙ sym (numbered_more a.out.now l.i f),
    )
