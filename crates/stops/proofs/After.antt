-- The laws of what specs/After defines.
use Rattle.std.specs.Prelude.{ℕ, ◌≤◌, ◌<◌, ◌≡◌, true, false, List, ℤ, length}
use Rattle.std.proofs.Common.{le-leb}
use Rattle.std.proofs.lemmas.Bool.{lt-leb}
use Rattle.temporal.specs.Ticket.{Ticket}
use Rattle.temporal.specs.Distance.{consistent}
use Rattle.ticket.specs.Parser.{wholly}
use Rattle.ticket.specs.Format.{read_ticket}
use Rattle.stops.specs.After.{after_reading, table_after, worked, working}

-- ---- the same by cases

module _ (ticket : List ℕ) (s : ℕ) (out : List ℤ) where
  pub after_short : length out < 1681 → table_after ticket s out ≡ (10, out)
  unfolding table_after
  after_short l = rw (lt-leb 1681 (length out) l)

  pub after_read : 1681 ≤ length out → table_after ticket s out ≡ after_reading s out (wholly read_ticket ticket)
  unfolding table_after
  after_read l = rw (le-leb 1681 (length out) l)

module _ (k : Ticket) (s : ℕ) (out : List ℤ) where
  pub worked_none : consistent k ≡ false → worked k s out ≡ (9, out)
  unfolding worked
  worked_none e = rw e

  pub worked_some : consistent k ≡ true → worked k s out ≡ (0, working k s out)
  unfolding worked
  worked_some e = rw e
