-- `writing_records::put_windows` meets its contract. The invariant: the windows so far are stored from the place `at`. Assumes nothing.
use Prim.Native.Nat.{◌+◌, ◌*◌}
use mathlib.Core.Path.{refl, sym, ap, ◌∙◌}
use lib.Seq.{sets}
use Rattle.ticket.specs.Writer.{each, write_window}
use Rattle.ticket.specs.Writing.{firsts, entry_in}
use Rattle.writing_records.specs.Parts.{window_written}
use Rattle.writing_records.specs.Stores.{sets_window}
use Rattle.writing_records.proofs.put_windows.Goals as goal

pub loop-i-init : goal.loop-i-init
unfolding firsts each
loop-i-init c = (refl, refl)

pub loop-i-preserved : goal.loop-i-preserved
loop-i-preserved c = let a = c.args in
    let l = c.loop-i in
    let p = c.put_window in
    let r = a.r.now in (
      p.auto.out ∙ l.invariant.0,
      p.ensures
          ∙ ap (sets _ (a.at + 9 * l.i)) (window_written r l.i (c.requires.storable.flags_known l.i c.loop-i-test.true))
          ∙ ap (λ o. sets o (a.at + 9 * l.i) (write_window (entry_in r l.i))) l.invariant.1
          ∙ sym (sets_window a.out.now a.at l.i (entry_in r)),
    )
