-- `text::put_word` meets its contract. The invariant: the first i bytes of the word are put. Assumes nothing.
use native.Mathlib.Omega.{arith}
use Rattle.text.specs.Stores.{puts_more}
use Rattle.text.proofs.put_word.Goals as goal

pub loop-i-preserved : goal.loop-i-preserved
loop-i-preserved c = puts_more c.args.word.now c.loop-i.i (omega arith) (omega arith) c.loop-i.invariant
