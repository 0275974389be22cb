-- `text::put_event` meets its contract: four parts, one after another, are a line. Assumes nothing.
use Rattle.std.proofs.Common.{append_assoc}
use Rattle.text.specs.Text.{line}
use Rattle.text.specs.Stores.{puts_then}
use Rattle.text.proofs.put_event.Goals as goal

pub returns-clause-puts : goal.returns-clause-puts
unfolding line
returns-clause-puts c =
    rw (← c.from.ensures) (simp append_assoc at
    (puts_then c.put_part-a.ensures.puts (puts_then c.put_part-b.ensures.puts (puts_then c.put_part-c.ensures.puts c.put_part.ensures.puts))))
