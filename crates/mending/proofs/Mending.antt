-- The laws of what specs/Mending defines.
use Rattle.std.specs.Prelude.{ℕ, ◌≤◌, ◌<◌, ◌≡◌, List, length}
use borrow.Author.Tests.{le-leb, lt-leb}
use Rattle.ticket.specs.Parser.{wholly}
use Rattle.ticket.specs.Format.{read_ticket}
use Rattle.mending.specs.Mending.{after_reading, mending, refusing, room}

-- ---- the same by cases

module _ (ticket out list : List ℕ) where
  pub mending_short_out : length out < 1584 → mending ticket out list ≡ refusing 10 out list
  unfolding mending room
  mending_short_out l = rw (lt-leb 1584 (length out) l)

  pub mending_short_list : 1584 ≤ length out → length list < 514 → mending ticket out list ≡ refusing 10 out list
  unfolding mending room
  mending_short_list l m = rw (le-leb 1584 (length out) l, lt-leb 514 (length list) m)

  pub mending_read : 1584 ≤ length out → 514 ≤ length list → mending ticket out list ≡ after_reading out list (wholly read_ticket ticket)
  unfolding mending room
  mending_read l m = rw (le-leb 1584 (length out) l, le-leb 514 (length list) m)
