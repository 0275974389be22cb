-- The table does not depend on who owns the events: a ticket has the schedules, and the distances, of `ticket_of`'s ticket.
use Rattle.std.specs.Prelude.{ℕ, ◌≡◌, true, List, T}
use Rattle.std.proofs.Common.{sym, ◌∙◌}
use Rattle.temporal.proofs.Lists.{T-true}
use Rattle.temporal.specs.Ticket.{Ticket, events, Schedule}
use Rattle.temporal.specs.Distance.{consistent, distance}
use Rattle.temporal.proofs.Distance.{consistent_has, distance_attained, distance_most, distance_is}
use Rattle.temporal.specs.Table.{ticket_of}
use Rattle.temporal.proofs.TableCauses.{ticket_events}

module _ (k : Ticket) where
  abbrev plain : Ticket
  plain = ticket_of k.horizon (events k) k.rules

  into : (ts : List ℕ) → Schedule k ts → Schedule plain ts
  into ts s = record { count = s.count ∙ sym (ticket_events k.horizon (events k) k.rules); inside = s.inside; obeys = s.obeys }

  back : (ts : List ℕ) → Schedule plain ts → Schedule k ts
  back ts s = record { count = s.count ∙ ticket_events k.horizon (events k) k.rules; inside = s.inside; obeys = s.obeys }

  module _ (some : T (consistent k)) where
    pub plain_consistent : consistent (ticket_of k.horizon (events k) k.rules) ≡ true
    plain_consistent =
        let w = (consistent_has k).0 some in
        T-true (consistent plain) ((consistent_has plain).1 (w.0, into w.0 w.1))

    pub plain_distance : (i j : ℕ) → distance (ticket_of k.horizon (events k) k.rules) i j ≡ distance k i j
    plain_distance i j =
        let w = distance_attained k i j some in
        distance_is plain i j (distance k i j) w.0 (into w.0 w.1) w.2 (λ us s. distance_most k i j us (back us s))
