-- `causes::owns` meets its contract. Assumes nothing.
use Rattle.std.proofs.Common.{sym, ap, ◌∙◌, ⊎_elim, arith, ne_eqb}
use Rattle.std.specs.Prelude.{◌≡◌, ◌<◌, ◌∷◌, eqb, get_or}
use Rattle.ticket.specs.Writing.{firsts}
use Rattle.network.specs.Stored.{at}
use Rattle.causes.specs.Structs.{owner_in_lem, owner_past}
use Rattle.causes.proofs.owns.Goals as goal

pub returns-then-event-eq0 : goal.returns-then-event-eq0
returns-then-event-eq0 c =
    let a = c.args in
    let none : get_or (5 ∷ firsts a.n (λ i. at a.owners.now i)) a.event 5 ≡ 5 =
    ⊎_elim (λ (z : a.event ≡ 0). ap (λ p. get_or (5 ∷ firsts a.n (λ i. at a.owners.now i)) p 5) z)
    (λ (m : (a.event ≡ 0 → ⊥) × (a.n < a.event)). owner_past a.n (λ i. at a.owners.now i) a.event m.1) c.then-event-eq0.either in
    sym (ne_eqb _ a.device (λ e. omega (arith, none, c.requires.1)))

pub returns : goal.returns
returns c = let a = c.args in
    ap (λ o. eqb o a.device) (c.from.ensures ∙ owner_in_lem a.n _ a.event (omega arith) (omega arith))
