-- `names::well_formed` meets its contract: the tests one after another, and the names one after another.
use Rattle.std.proofs.Common.{◌≡◌, ◌+◌, ◌-◌, suc, sym, ◌∙◌, arith}
use Rattle.std.proofs.lemmas.List.{take_rest}
use native.Mathlib.Nat.{sub-zero}
use Rattle.names.specs.Laws.{Entry, whole_short, whole_other, whole_rest, entry_there, entries_stop, entries_more, entries_end}
use Rattle.names.proofs.well_formed.Goals as goal
use Rattle.names.proofs.well_formed.Goals.{In-Some}

-- the name that was found
there : (c : In-Some) → Entry c.args.list.now c.loop.at c.in-Some.n
there c = entry_there c.args.list.now c.loop.at c.in-Some.n (sym (rw take_rest at c.in-Some.ensures))

pub returns-in_default : goal.returns-in_default
returns-in_default c = sym (whole_short c.args.list.now c.args.count c.in_default.len_below)

pub returns-then-from-count : goal.returns-then-from-count
returns-then-from-count c =
    sym (whole_other c.args.list.now c.args.count c.in-len2-up.len_at_least (λ e. c.if-from-count.true (omega (arith, c.from_le_bytes.ensures, c.from.ensures))))

pub loop-init : goal.loop-init
loop-init c = record {
  inside = omega arith;
  answer = rw sub-zero (whole_rest c.args.list.now c.args.count c.in-len2-up.len_at_least (omega (arith, c.from_le_bytes.ensures, c.from.ensures)));
}

pub returns-in_default-entry : goal.returns-in_default-entry
returns-in_default-entry c = let a = c.args in
    let l = c.loop in
    let e : a.count - l.counter ≡ suc (a.count - (l.counter + 1)) = omega arith in
    sym (l.invariant.answer ∙ rw e (entries_stop a.list.now l.at (a.count - (l.counter + 1)) (sym (rw take_rest at c.in_default-entry.ensures))))

pub overflow_add-at : goal.overflow_add-at
overflow_add-at c = omega (arith, (there (goal.at.overflow_add-at c).In-Some).name.most)

pub overflow_add-at-in-loop : goal.overflow_add-at-in-loop
overflow_add-at-in-loop c = omega (arith, (there (goal.at.overflow_add-at-in-loop c).In-Some).inside)

pub loop-preserved : goal.loop-preserved
loop-preserved c = let a = c.args in
    let l = c.loop in
    let h = there (goal.at.loop-preserved c).In-Some in
    let e : a.count - l.counter ≡ suc (a.count - (l.counter + 1)) = omega arith in
    record { inside = omega (arith, h.inside); answer = l.invariant.answer ∙ rw e (entries_more a.list.now l.at (a.count - (l.counter + 1)) c.in-Some.n h) }

pub returns : goal.returns
returns c = let a = c.args in
    let l = c.loop in
    let e : a.count - l.counter ≡ 0 = omega arith in
    sym (l.invariant.answer ∙ rw e (entries_end a.list.now l.at l.invariant.inside))
