-- `writing_records::put_counts` meets its contract. The invariant: the counts so far are stored from the place `at`. Assumes nothing.
use Prim.Native.Nat.{◌+◌, ◌*◌}
use mathlib.Core.Path.{refl, sym, ap, ◌∙◌}
use lib.Seq.{sets}
use Rattle.ticket.specs.Writer.{bytes, each}
use Rattle.ticket.specs.Writing.{firsts, count_in}
use Rattle.writing_records.specs.Stores.{sets_count}
use Rattle.writing_records.proofs.put_counts.Goals as goal

pub loop-o-init : goal.loop-o-init
unfolding firsts each
loop-o-init c = (refl, refl)

pub loop-o-preserved : goal.loop-o-preserved
loop-o-preserved c = let a = c.args in
    let l = c.loop-o in
    let p = c.put_u16 in (
      p.auto.out ∙ l.invariant.0,
      p.ensures
          ∙ ap (λ out. sets out (a.at + 2 * l.o) (bytes 2 (count_in a.r.now l.o))) l.invariant.1
          ∙ sym (sets_count a.out.now a.at l.o (count_in a.r.now)),
    )
