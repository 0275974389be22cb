-- The events of a device: they rise, each is owned by the device, and all such events are among them. And the way back: the place of an event
-- among its device's, so that the points of the part are the ticket's points of that device, one for one.
use Rattle.std.specs.Prelude.{cond, List, [], ◌∷◌, ℕ, zero, suc, eqb}
use Rattle.temporal.specs.Ticket.{Ticket}

-- how many of the events before the i-th, counted from 0, device d owns
unfoldable pub rank : ℕ → List ℕ → ℕ → ℕ
rank d [] i = 0
rank d (o ∷ os) zero = 0
rank d (o ∷ os) (suc i) = cond (eqb o d) (suc (rank d os i)) (rank d os i)

-- ---- the members of a ticket

module _ (d : ℕ) (k : Ticket) where
  -- where a point of the device stands in the part
  abbrev pub place : ℕ → ℕ
  place zero = 0
  place (suc i) = suc (rank d k.owners i)
