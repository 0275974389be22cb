-- `ring_text::Sheet::from_of` meets its contract: case by case. Assumes nothing.
use mathlib.Core.Path.{sym, ◌∙◌}
use Rattle.ring_text.specs.Sheet.{from_written, from_back, from_start}
use Rattle.ring_text.proofs.Sheet.from_of.Goals as goal

pub returns-then-k-m : goal.returns-then-k-m
returns-then-k-m c = let t = c.args.self.now.ticket.now in
    c.from.ensures ∙ sym (from_written t.rules t.from c.args.x c.if-k-m.true)

pub returns-then-k-m-eq1 : goal.returns-then-k-m-eq1
returns-then-k-m-eq1 c = let t = c.args.self.now.ticket.now in
    sym (from_back t.rules t.from c.args.x c.if-k-m.false c.if-k-m-eq1.true)

pub returns : goal.returns
returns c = let t = c.args.self.now.ticket.now in
    sym (from_start t.rules t.from c.args.x c.if-k-m.false c.if-k-m-eq1.false)
