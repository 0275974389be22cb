-- `ring_text::Sheet::point_line` and `ring_text::Sheet::rule_line` meet their contracts: each puts a line and leaves the rest to the other. Assumes nothing.
use Rattle.std.proofs.Common.{◌≡◌, arith, ap, ◌∷◌, length}
use borrow.Author.Rules.{sfits_of}
use mir.Syntax.{w32}
use mir.ValLaws.{to_z-of_z}
use Rattle.text.specs.Stores.{puts_none, puts_then, puts_length}
use Rattle.ring_text.specs.Sheet.{point_text}
use Rattle.ring_text.specs.Lines.{text_done, writable_rest, rule_short, start_short, start_pointed}
use Rattle.ring_text.proofs.Sheet.+point_line_rule_line.Goals as goal

pub point_line-returns-in_default : goal.point_line-returns-in_default
point_line-returns-in_default t c = rw (text_done _ c.args.ring.now c.in_default.ensures.cases) (puts_none c.args.out.now c.args.at (omega (arith, c.requires.room)))

pub point_line-put_point-next-requires : goal.point_line-put_point-next-requires
point_line-put_point-next-requires t c =
    let e : c.args.ring.now ≡ c.in-Some.field-0-0.now ∷ c.in-Some.rest.now = c.in-Some.ensures.cases.0 in
    (omega (arith, c.requires.room, ap length e), rw c.from_of.ensures (start_pointed (rw e at c.requires.writable)))

pub point_line-rule_line-requires : goal.point_line-rule_line-requires
point_line-rule_line-requires t c =
    let e : c.args.ring.now ≡ c.in-Some.field-0-0.now ∷ c.in-Some.rest.now = c.in-Some.ensures.cases.0 in
    let w = rw e at c.requires.writable in
    -- the point line that was put is that of the rule's point
    let p = rw c.from_of.ensures at c.put_point-next.ensures in
    (omega (arith, ap length e), (omega (arith, p.end, puts_length p, start_short w, c.requires.room, ap length e), w))

pub point_line-returns : goal.point_line-returns
unfolding point_text
point_line-returns t c =
    let e : c.args.ring.now ≡ c.in-Some.field-0-0.now ∷ c.in-Some.rest.now = c.in-Some.ensures.cases.0 in
    rw e (puts_then (rw c.from_of.ensures at c.put_point-next.ensures) c.rule_line.ensures)

pub rule_line-point_line-requires : goal.rule_line-point_line-requires
rule_line-point_line-requires t c =
    let b = c.bound_of in
    -- the rule line that was put is that of the rule
    let p = rw (to_z-of_z w32 b.result (sfits_of b.type_inv), b.ensures) at c.put_rule-next.ensures in
    let w = c.requires.writable in
    (omega arith, (omega (arith, p.end, puts_length p, rule_short w, c.requires.room), writable_rest w))

pub rule_line-returns : goal.rule_line-returns
rule_line-returns t c =
    let b = c.bound_of in
    puts_then (rw (to_z-of_z w32 b.result (sfits_of b.type_inv), b.ensures) at c.put_rule-next.ensures) c.point_line.ensures
