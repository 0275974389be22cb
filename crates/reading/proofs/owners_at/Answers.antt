-- `reading::owners_at` meets its contract. The invariant: a list xs of as many owners as were read fills the array from the front, and what is left to read, put after xs, is the whole reading.
-- Assumes nothing.
use Prim.Native.Nat.{◌+◌, ◌-◌}
use mathlib.Core.Path.{◌≡◌, refl, sym, ap, ◌∙◌}
use mathlib.Core.List.{[], ◌∷◌, ◌++◌}
use native.Mathlib.Omega.{arith}
use lib.ListN.{get_or, set, drop, length-append}
use Rattle.ticket.specs.Parser.{many}
use Rattle.ticket.specs.Format.{read_owner}
use Rattle.ticket.specs.Stored.{pad}
use Rattle.ticket.proofs.Fields.{owner_short, owner_bad, owner_got}
use Rattle.ticket.specs.Laws.{after}
use Rattle.ticket.proofs.Laws.{after_none, many_more, many_stop, many_done, pad_set}
use Rattle.reading.proofs.owners_at.Goals as goal

pub loop-i-init : goal.loop-i-init
unfolding pad
loop-i-init c = let a = c.args in
    let i : a.n - 0 ≡ a.n = omega arith in
    let j : a.at + 0 ≡ a.at = omega arith in
    ([], omega arith, refl, refl, rw (i, j) (sym (after_none _)))

pub returns-then-s-at : goal.returns-then-s-at
returns-then-s-at c = let a = c.args in
    let l = c.loop-i in
    rw (l.invariant.4 ∙ many_stop read_owner a.n l.i l.invariant.0 _ _ (omega arith) (owner_short a.s.now (a.at + l.i) (omega arith)))

pub returns-then-b-gt4 : goal.returns-then-b-gt4
returns-then-b-gt4 c = let a = c.args in
    let l = c.loop-i in
    rw (l.invariant.4 ∙ many_stop read_owner a.n l.i l.invariant.0 _ _ (omega arith) (owner_bad a.s.now (a.at + l.i) (omega arith) (omega arith)))

pub loop-i-preserved : goal.loop-i-preserved
loop-i-preserved c = let a = c.args in
    let l = c.loop-i in
    let s = a.s.now in
    let xs = l.invariant.0 in
    let x = get_or s (a.at + l.i) 0 in
    let j : a.at + l.i + 1 ≡ a.at + (l.i + 1) = omega arith in (
      xs ++ x ∷ [],
      omega arith,
      omega (arith, length-append xs (x ∷ [])),
      ap (λ o. set o l.i x) l.invariant.3 ∙ pad_set 0 40 xs l.i x l.invariant.2 (omega arith),
      l.invariant.4
          ∙ many_more read_owner a.n l.i xs _ x _ (omega arith) (owner_got s (a.at + l.i) (omega arith) (omega arith))
          ∙ ap (λ k. after (xs ++ x ∷ []) (many read_owner (a.n - (l.i + 1)) (drop k s))) j,
    )

pub returns : goal.returns
returns c = let a = c.args in
    let l = c.loop-i in
    rw (l.invariant.3, l.invariant.4 ∙ many_done read_owner a.n l.i l.invariant.0 _ (omega arith))
