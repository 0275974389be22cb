-- `ring_text::put_signed` meets its contract: a bound below 0 is '-' and the number that it is below 0. Assumes nothing.
use mir.Syntax.{w32}
use mir.ValLaws.{to_z-of_z}
use Rattle.text.specs.Stores.{puts_then}
use Rattle.ring_text.specs.Lines.{signed_low, signed_high}
use Rattle.ring_text.proofs.put_signed.Goals as goal
use Rattle.ring_text.proofs.put_signed.Goals.{then-c-lt0, else-c-lt0}

pub returns : goal.returns
returns c = let z = c.args.c in
    let t = to_z-of_z w32 z c.ranges.c in
    let q = rw (c.unsigned_abs.ensures.value, t) at c.put_part.ensures.puts in
    elim c.if-c-lt0.branch [
      | then-c-lt0 w ↦ rw (← (signed_high z (rw t at w.if-c-lt0.true))) (puts_then w.put_byte-next.ensures (rw (w.out-is, w.next-is) at q))
      | else-c-lt0 w ↦ rw (← (signed_low z (rw t at w.if-c-lt0.false))) (rw (w.out-is, w.next-is) at q)
    ]
