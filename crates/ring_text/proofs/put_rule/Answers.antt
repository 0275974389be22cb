-- `ring_text::put_rule` meets its contract: the word, the number and the bound are a line. Assumes nothing.
use mathlib.Core.List.{append_assoc}
use mir.Syntax.{w32}
use mir.ValLaws.{to_z-of_z}
use Rattle.text.specs.Stores.{puts_then}
use Rattle.ring_text.specs.Lines.{line_rule}
use Rattle.ring_text.proofs.put_rule.Goals as goal

pub returns : goal.returns
returns c = let w = c.put_word-a.ensures in
    let q = c.put_signed.ensures in
    let t = to_z-of_z w32 c.args.c c.ranges.c in
    rw line_rule (simp append_assoc at (puts_then w (puts_then c.put_part-b.ensures.puts (rw t at q))))
