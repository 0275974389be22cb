-- What the loop of `text::put_word` keeps.
use Prim.Native.Nat.{◌+◌}
use lib.ListN.{take}
use Rattle.text.specs.Stores.{Puts}
use Rattle.text.proofs.put_word.Given as goal

abbrev pub invariant-loop-i : goal.invariant-loop-i
invariant-loop-i l = Puts (take l.i l.word) l.initial.out l.out l.at (l.at + l.i)
