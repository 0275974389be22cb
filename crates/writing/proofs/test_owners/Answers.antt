-- `writing::test_owners` meets its contract. The invariant: the tests so far are passed. Assumes nothing.
use mathlib.Core.Path.{refl, sym, ap, ◌∙◌}
use native.Mathlib.Omega.{arith}
use mathlib.Core.List.{[]}
use Rattle.std.proofs.lemmas.Grind.{common_steps}
use Rattle.ticket.specs.Refusal.{tested}
use Rattle.ticket.specs.Writing.{tests, test_owner}
use Rattle.ticket.proofs.WritingLaws.{owner_fails, owner_passes, tests_more}
use Rattle.writing.proofs.Tests.{more_refused}
use Rattle.writing.proofs.test_owners.Goals as goal

pub loop-owner-init : goal.loop-owner-init
unfolding tests
loop-owner-init c = refl

pub returns-then-owner-gt4 : goal.returns-then-owner-gt4
returns-then-owner-gt4 c = let t = c.args.t.now in
    let l = c.loop-owner in
    more_refused (test_owner t) l.owner-index l.invariant t.events (grind (arith, common_steps)) (ap tested (sym (owner_fails t l.owner-index (grind (arith, common_steps)))))

pub loop-owner-preserved : goal.loop-owner-preserved
loop-owner-preserved c = let t = c.args.t.now in
    let l = c.loop-owner in
    tests_more (test_owner t) [] l.owner-index l.invariant ∙ owner_passes t l.owner-index (grind (arith, common_steps))
