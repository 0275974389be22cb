-- `put_numbers` meets its contract. The invariant: the numbers so far are stored after the count.
use native.Mathlib.Omega.{arith}
use Prim.Native.Nat.{◌+◌, ◌*◌}
use mathlib.Core.Path.{◌≡◌, refl, sym, ap, ◌∙◌}
use lib.Seq.{sets}
use Rattle.network.specs.Stored.{at}
use Rattle.ticket.specs.Writer.{bytes, each}
use Rattle.ticket.specs.Writing.{firsts}
use Rattle.ticket.proofs.WritingLaws.{length_firsts}
use Rattle.mend.specs.Steps.{numbers_stored, numbers_more}
use Rattle.mend.proofs.put_numbers.Goals as goal

pub loop-i-init : goal.loop-i-init
unfolding firsts each
loop-i-init c = (refl, refl)

pub loop-i-preserved : goal.loop-i-preserved
loop-i-preserved c = let l = c.loop-i in
    let p = c.put_u16-in-loop-i in
    let f = at c.args.numbers.now in (
      p.auto.out ∙ l.invariant.0,
      p.ensures
          ∙ ap (λ o. sets o (2 + 2 * l.i) (bytes 2 (f l.i))) l.invariant.1
          ∙ sym (numbers_more c.put_u16.new.out l.i f),
    )

pub returns : goal.returns
returns c = let a = c.args in
    let l = c.loop-i in
    let f = at a.numbers.now in
    let e : l.i ≡ a.n = omega arith in
    l.invariant.1
    ∙ ap (λ k. sets c.put_u16.new.out 2 (each (bytes 2) (firsts k f))) e
    ∙ ap (λ o. sets o 2 (each (bytes 2) (firsts a.n f))) c.put_u16.ensures
    ∙ numbers_stored a.list.now a.n (firsts a.n f) (length_firsts a.n f)
