-- `ring_text::Sheet::bound_of` meets its contract: case by case. Assumes nothing.
use mathlib.Core.Path.{sym, ◌∙◌}
use native.Mathlib.Omega.{arith}
use borrow.Author.Rules.{rules}
use lib.ListN.{get_or}
use lib.IntN.{pos}
use mir.Syntax.{w32}
use mir.ValLaws.{to_z_pos, to_z-of_z}
use Prim.Native.Nat.{◌-◌}
use Rattle.ring_text.specs.Sheet.{bound_written, bound_back, bound_start}
use Rattle.ring_text.proofs.Sheet.bound_of.Goals as goal

pub returns-then-k-m : goal.returns-then-k-m
returns-then-k-m c = let t = c.args.self.now.ticket.now in
    let x = c.args.x in
    to_z-of_z w32 (get_or t.bound (x - 1) (pos 0)) (search rules) ∙ sym (bound_written t.rules t.horizon t.bound x c.if-k-m.true)

pub returns-then-k-m-eq1 : goal.returns-then-k-m-eq1
returns-then-k-m-eq1 c = let t = c.args.self.now.ticket.now in
    sym (bound_back t.rules t.horizon t.bound c.args.x c.if-k-m.false c.if-k-m-eq1.true)

pub returns : goal.returns
returns c = let t = c.args.self.now.ticket.now in
    to_z_pos w32 t.horizon (omega arith) ∙ sym (bound_start t.rules t.horizon t.bound c.args.x c.if-k-m.false c.if-k-m-eq1.false)
