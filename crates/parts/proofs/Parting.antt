-- The laws of what specs/Parting defines.
use Rattle.std.specs.Prelude.{ℕ, ◌≤◌, ◌<◌, ◌≡◌, true, false, List, length}
use borrow.Author.Tests.{le-leb, lt-leb}
use Rattle.temporal.specs.Ticket.{Ticket}
use Rattle.temporal.specs.Distance.{consistent}
use Rattle.ticket.specs.Parser.{wholly}
use Rattle.ticket.specs.Format.{read_ticket}
use Rattle.parts.specs.Parting.{accepting, after_reading, parted, parting, refusing}

-- ---- the same by cases

module _ (ticket : List ℕ) (device : ℕ) (out : List ℕ) where
  pub parting_short : length out < 362 → parting ticket device out ≡ refusing 10 out
  unfolding parting
  parting_short l = rw (lt-leb 362 (length out) l)

  pub parting_unknown : 362 ≤ length out → 4 < device → parting ticket device out ≡ refusing 4 out
  unfolding parting
  parting_unknown l m = rw (le-leb 362 (length out) l, lt-leb device 4 m)

  pub parting_read : 362 ≤ length out → device ≤ 4 → parting ticket device out ≡ after_reading device out (wholly read_ticket ticket)
  unfolding parting
  parting_read l m = rw (le-leb 362 (length out) l, le-leb device 4 m)

module _ (d : ℕ) (k : Ticket) (out : List ℕ) where
  pub parted_none : consistent k ≡ false → parted d k out ≡ refusing 9 out
  unfolding parted
  parted_none e = rw e

  pub parted_some : consistent k ≡ true → parted d k out ≡ accepting d k out
  unfolding parted
  parted_some e = rw e
