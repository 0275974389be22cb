-- `text::put_part` meets its contract: a number of 32 bits has at most ten digits. Assumes nothing.
use Rattle.std.proofs.Common.{arith}
use Rattle.text.specs.Text.{decimal_length}
use Rattle.text.specs.Stores.{puts_then, puts_length}
use Rattle.text.proofs.put_part.Goals as goal

pub put_number-next-requires : goal.put_number-next-requires
put_number-next-requires c = omega (arith, decimal_length 10 c.args.x (omega arith) (omega arith))

pub put_byte-requires : goal.put_byte-requires
put_byte-requires c =
    let p = c.put_number-next.ensures in
    omega (arith, decimal_length 10 c.args.x (omega arith) (omega arith), p.end, puts_length p)

pub returns-clause-puts : goal.returns-clause-puts
returns-clause-puts c = puts_then c.put_number-next.ensures c.put_byte.ensures

pub returns-clause-upper_bound : goal.returns-clause-upper_bound
returns-clause-upper_bound c =
    omega (arith, decimal_length 10 c.args.x (omega arith) (omega arith), c.put_number-next.ensures.end, c.put_byte.ensures.end)
