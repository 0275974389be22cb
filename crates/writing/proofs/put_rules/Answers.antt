-- `writing::put_rules` meets its contract. The invariant: the rules so far are stored from the place `at`. Assumes nothing.
use Prim.Native.Nat.{◌+◌, ◌*◌}
use mathlib.Core.Path.{refl, sym, ap, ◌∙◌}
use lib.Seq.{sets}
use Rattle.ticket.specs.Writer.{each, write_rule}
use Rattle.ticket.specs.Writing.{firsts, rule_in}
use Rattle.writing.specs.Stores.{sets_rule}
use Rattle.writing.proofs.put_rules.Goals as goal

pub loop-i-init : goal.loop-i-init
unfolding firsts each
loop-i-init c = (refl, refl)

pub loop-i-preserved : goal.loop-i-preserved
loop-i-preserved c = let a = c.args in
    let l = c.loop-i in
    let p = c.put_rule in
    let f = rule_in a.t.now in (
      p.auto.out ∙ l.invariant.0,
      p.ensures
          ∙ ap (λ o. sets o (a.at + 6 * l.i) (write_rule (f l.i))) l.invariant.1
          ∙ sym (sets_rule a.out.now a.at l.i f),
    )
