-- `may_see` meets its contract: the database first, then the owner.
use borrow.Author.Tests.{eq-eqb, ne_eqb}
use Rattle.viewing.specs.View.{may_see}
use Rattle.view.proofs.may_see.Goals as goal

pub returns-then-caller-eq-DATABASE : goal.returns-then-caller-eq-DATABASE
unfolding may_see
returns-then-caller-eq-DATABASE c = simp (eq-eqb _ _ c.if-caller-eq-DATABASE.true)

pub returns : goal.returns
unfolding may_see
returns c = simp (ne_eqb _ _ c.if-caller-eq-DATABASE.false)
