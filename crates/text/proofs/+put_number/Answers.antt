-- `text::put_number` meets its contract: a number below 10 is one digit, any other a tenth of it and its last digit. Assumes nothing.
use Rattle.std.proofs.Common.{arith, ap, length, length-append}
use Rattle.text.specs.Text.{decimal_short, decimal_long}
use Rattle.text.specs.Stores.{puts_then, puts_length}
use Rattle.text.proofs.+put_number.Goals as goal

pub put_byte-requires : goal.put_byte-requires
put_byte-requires t c = omega (arith, ap length (decimal_short c.args.x c.if-x-lt10.true))

pub returns-then-x-lt10 : goal.returns-then-x-lt10
returns-then-x-lt10 t c = rw (decimal_short c.args.x c.if-x-lt10.true, ← c.digit.ensures) c.put_byte.ensures

pub put_number-next-requires : goal.put_number-next-requires
put_number-next-requires t c =
    let l = decimal_long c.args.x c.if-x-lt10.false in
    (omega arith, omega (arith, simp length-append at (ap length l)))

pub put_byte-requires-2 : goal.put_byte-requires-2
put_byte-requires-2 t c =
    let p = c.put_number-next.ensures in
    let l = decimal_long c.args.x c.if-x-lt10.false in
    omega (arith, p.end, puts_length p, simp length-append at (ap length l))

pub returns : goal.returns
returns t c =
    rw (decimal_long c.args.x c.if-x-lt10.false, ← c.digit-2.ensures) (puts_then c.put_number-next.ensures c.put_byte-2.ensures)
