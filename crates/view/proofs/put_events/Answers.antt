-- `put_events` meets its contract. The invariant: what is seen of the events so far is stored after the count.
use native.Mathlib.Omega.{arith}
use mathlib.Core.Path.{◌≡◌, refl, ap, ◌∙◌}
use lib.ListN.{length}
use lib.Seq.{sets}
use Rattle.temporal.specs.Ticket.{events}
use Rattle.ticket.specs.Writer.{each}
use Rattle.ticket.specs.Writing.{state_of}
use Rattle.ticket.proofs.Content.{in_events}
use Rattle.causes.specs.Structs.{canonical_few}
use Rattle.viewing.specs.View.{seen_to, write_seen}
use Rattle.viewing.proofs.Laws.{to_most}
use Rattle.view.specs.Stored.{count_more, bytes_more}
use Rattle.view.proofs.put_events.Goals as goal

pub loop-i-init : goal.loop-i-init
unfolding seen_to each
loop-i-init c = (canonical_few c.args.r.now c.requires.0, refl, refl, refl)

pub show_event-k-requires : goal.show_event-k-requires
show_event-k-requires c = let a = c.args in
    let l = c.loop-i in
    (omega (arith, to_most a.caller (state_of a.r.now) l.i), c.requires.0.bits _, omega arith)

pub loop-i-preserved : goal.loop-i-preserved
loop-i-preserved c = let a = c.args in
    let l = c.loop-i in
    let p = c.show_event-k in
    let inside = c.loop-i-test.true in (
      l.invariant.0,
      p.auto.out ∙ l.invariant.1,
      p.ensures.value ∙ count_more a.r.now a.caller l.i inside c.may_see.ensures l.invariant.2,
      p.ensures.out_after ∙ bytes_more a.r.now a.caller l.i inside c.may_see.ensures l.invariant.2 a.out.now l.invariant.3,
    )

pub returns : goal.returns
returns c = let a = c.args in
    let l = c.loop-i in
    let e : l.i ≡ events (state_of a.r.now).ticket = omega (arith, in_events a.r.now.ticket) in record {
      value = l.invariant.2 ∙ ap (λ n. length (seen_to n a.caller (state_of a.r.now))) e;
      out_after = l.invariant.3 ∙ ap (λ n. sets a.out.now 2 (each write_seen (seen_to n a.caller (state_of a.r.now)))) e;
    }
