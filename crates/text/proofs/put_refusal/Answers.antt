-- `text::put_refusal` meets its contract: the word and the number are a line. Assumes nothing.
use Rattle.text.specs.Text.{line}
use Rattle.text.specs.Stores.{puts_then}
use Rattle.text.proofs.put_refusal.Goals as goal

pub returns : goal.returns
unfolding line
returns c = puts_then c.put_word-a.ensures c.put_part.ensures.puts
