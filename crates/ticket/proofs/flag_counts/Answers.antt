-- `ticket::flag_counts` meets its contract. The invariant: the flags of the events so far are counted. Assumes nothing.
use Prim.Native.Nat.{ℕ}
use mathlib.Core.Path.{refl, sym, ap, ◌∙◌}
use mathlib.Core.Bool.{Bool, cond, ◌&&◌}
use native.Mathlib.Omega.{arith}
use lib.Dec.{eqb, ltb}
use lib.ListN.{get_or}
use Rattle.temporal.specs.Lists.{tab}
use Rattle.temporal.specs.Plan.{raise}
use Rattle.ticket.specs.Writing.{firsts}
use Rattle.ticket.proofs.WritingLaws.{length_firsts, counts_few, counts_next}
use Rattle.ticket.proofs.flag_counts.Goals as goal

pub loop-i-init : goal.loop-i-init
unfolding firsts tab
loop-i-init c = refl

pub count_flag-requires : goal.count_flag-requires
count_flag-requires c o = let a = c.args in
    let l = c.loop-i in
    let owners = firsts l.i (λ j. get_or a.owners.now j 0) in
    let few = counts_few o owners (firsts l.i (λ j. eqb (get_or a.flags.now j 0) 1)) in
    omega (arith, ap (λ ks. get_or ks o 0) l.invariant, few, length_firsts l.i (λ j. get_or a.owners.now j 0))

pub loop-i-preserved : goal.loop-i-preserved
loop-i-preserved c = let a = c.args in
    let l = c.loop-i in
    let g : ℕ → ℕ = λ j. get_or a.owners.now j 0 in
    let f : ℕ → Bool = λ j. eqb (get_or a.flags.now j 0) 1 in
    c.count_flag.ensures ∙ ap (λ ks. cond (f l.i && ltb (g l.i) 5) (raise ks (g l.i)) ks) l.invariant ∙ sym (counts_next l.i g f)
