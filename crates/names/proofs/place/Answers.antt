-- `names::place` meets its contract, by the name that stands at `at`.
use Rattle.std.proofs.Common.{◌≡◌, ◌+◌, ◌-◌, suc, sym, ◌∙◌, arith, get_or}
use native.Mathlib.Nat.{sub-zero}
use Rattle.names.specs.Names.{count, name_at}
use Rattle.names.specs.Laws.{Entry, entries_first, entries_more, name_first, name_more, whole_facts}
use Rattle.names.proofs.place.Goals as goal
use Rattle.names.proofs.place.Goals.{At-loop}

here : (c : At-loop) → Entry c.args.list.now c.loop.at (get_or c.args.list.now c.loop.at 0)
here c = let s = c.args.list.now in
    let e : count s - c.loop.counter ≡ suc (count s - (c.loop.counter + 1)) = omega (arith, c.requires.below) in
    entries_first s c.loop.at (count s - (c.loop.counter + 1)) (rw e at c.loop.invariant.list)

pub loop-init : goal.loop-init
unfolding name_at
loop-init c = record { list = rw sub-zero (whole_facts c.args.list.now (count c.args.list.now) c.requires.whole).rest; name = rw sub-zero }

pub bounds-list-at : goal.bounds-list-at
bounds-list-at c = omega (arith, (here (goal.at.bounds-list-at c).At-loop).inside)

pub overflow_add-at-in-loop : goal.overflow_add-at-in-loop
overflow_add-at-in-loop c = omega (arith, (here (goal.at.overflow_add-at-in-loop c).At-loop).inside)

pub loop-preserved : goal.loop-preserved
loop-preserved c = let s = c.args.list.now in
    let k = c.args.k in
    let l = c.loop in
    let h = here (goal.at.loop-preserved c).At-loop in
    let e : count s - l.counter ≡ suc (count s - (l.counter + 1)) = omega (arith, c.requires.below) in
    let f : k - l.counter ≡ suc (k - (l.counter + 1)) = omega arith in
    rw c.from.ensures (record {
      list = sym (entries_more s l.at (count s - (l.counter + 1)) (get_or s l.at 0) h) ∙ (rw e at l.invariant.list);
      name = l.invariant.name ∙ (rw f (name_more s l.at (k - (l.counter + 1)) (get_or s l.at 0) h));
    })

pub overflow_add-start : goal.overflow_add-start
overflow_add-start c = omega (arith, (here (goal.at.overflow_add-start c).At-loop).inside)

pub bounds-list-at-2 : goal.bounds-list-at-2
bounds-list-at-2 c = omega (arith, (here (goal.at.bounds-list-at-2 c).At-loop).inside)

pub overflow_add-result : goal.overflow_add-result
overflow_add-result c = omega (arith, (here (goal.at.overflow_add-result c).At-loop).inside)

pub returns : goal.returns
returns c = let s = c.args.list.now in
    let k = c.args.k in
    let l = c.loop in
    let h = here (goal.at.returns c).At-loop in
    let e : k - l.counter ≡ 0 = omega arith in
    let d : l.at + 1 + c.from-2.result - (l.at + 1) ≡ get_or s l.at 0 = omega (arith, c.from-2.ensures) in
    record { order = omega arith; inside = omega (arith, h.inside, c.from-2.ensures); same = rw d (l.invariant.name ∙ rw e (name_first s l.at (get_or s l.at 0) h)) }
