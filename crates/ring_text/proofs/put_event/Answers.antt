-- `ring_text::put_event` meets its contract: the word, the two names and what stands between them are a line. Assumes nothing.
use Rattle.text.specs.Stores.{puts_then}
use Rattle.ring_text.specs.Lines.{line_names}
use Rattle.ring_text.proofs.put_event.Goals as goal

pub returns : goal.returns
returns c = let e = c.put_byte.ensures in
    let d = c.put_word-d.ensures in
    let b = c.put_byte-c.ensures in
    let l = c.put_word-b.ensures in
    let w = c.put_word-a.ensures in
    rw line_names (puts_then w (puts_then l (puts_then b (puts_then d e))))
