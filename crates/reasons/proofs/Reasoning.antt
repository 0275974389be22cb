-- The laws of what specs/Reasoning defines.
use Rattle.std.specs.Prelude.{◌≡◌, true, false, List, ℕ, ◌≤◌, ◌<◌, length}
use Rattle.std.proofs.Common.{le-leb}
use Rattle.std.proofs.lemmas.Bool.{lt-leb}
use Rattle.temporal.specs.Ticket.{Ticket, events}
use Rattle.temporal.specs.Distance.{consistent}
use Rattle.ticket.specs.Parser.{wholly}
use Rattle.ticket.specs.Format.{read_ticket}
use Rattle.names.specs.Names.{well_formed}
use Rattle.rings.specs.Ring.{ring}
use Rattle.reasons.specs.Text.{ring_text}
use Rattle.reasons.specs.Reasoning.{after_reading, explaining, printing, reasoning, refusing}

-- ---- the same by cases

module _ (ticket labels roster out : List ℕ) where
  pub reasoning_short : length out < 2200 → reasoning ticket labels roster out ≡ refusing 10 out
  unfolding reasoning
  reasoning_short l = rw (lt-leb 2200 (length out) l)

  pub reasoning_read : 2200 ≤ length out → reasoning ticket labels roster out ≡ after_reading labels roster out (wholly read_ticket ticket)
  unfolding reasoning
  reasoning_read l = rw (le-leb 2200 (length out) l)

module _ (k : Ticket) (labels roster out : List ℕ) where
  pub unlisted_labels : well_formed labels (events k) ≡ false → explaining k labels roster out ≡ refusing 16 out
  unfolding explaining
  unlisted_labels e = rw e

  pub unlisted_roster : well_formed labels (events k) ≡ true → well_formed roster 5 ≡ false → explaining k labels roster out ≡ refusing 16 out
  unfolding explaining
  unlisted_roster e f = rw (e, f)

  module _ (e : well_formed labels (events k) ≡ true) (f : well_formed roster 5 ≡ true) where
    pub explaining_possible : consistent k ≡ true → explaining k labels roster out ≡ refusing 17 out
    unfolding explaining
    explaining_possible c = rw (e, f, c)

    pub explaining_ring : consistent k ≡ false → explaining k labels roster out ≡ printing (ring_text k labels roster (ring k)) out
    unfolding explaining
    explaining_ring c = rw (e, f, c)
