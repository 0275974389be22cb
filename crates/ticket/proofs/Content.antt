-- The laws of what specs/Content defines.
use Rattle.std.specs.Prelude.{ℕ, ◌≡◌, List, length, Ok, Err}
use Rattle.std.proofs.Common.{sym, ap, subst, ◌∙◌, arith}
use Rattle.temporal.specs.Ticket as temporal
use Rattle.temporal.specs.Ticket.{events}
use Rattle.temporal.specs.Run.{Valid}
use Rattle.ticket.specs.Parser.{Cause, got, refused, wholly}
use Rattle.ticket.specs.Format.{read_ticket}
use Rattle.ticket.specs.Refusal.{refusal}
use Rattle.ticket.specs.Stored.{stored, whole_ticket}
use Rattle.ticket.proofs.Refusals.{was_ok, was_err}
use Rattle.ticket.specs.RoundTrip.{Bytes}
use Rattle.ticket.proofs.RoundTrip.{written_read}
use Rattle.ticket.specs.Writing.{owner_in, rule_in, content}
use Rattle.ticket.proofs.WritingLaws.{length_firsts}
use Rattle.ticket.proofs.Agree.{content_stored}
use Rattle.ticket.specs.declared.Ticket.{Ticket}
use Rattle.ticket.specs.declared.Refusal.{Refusal}
use Rattle.ticket.specs.Content.{Limits}

module _ (t : Ticket) where
  pub in_events : events (content t) ≡ t.events
  in_events = length_firsts t.events (owner_in t)

  pub in_rules : length (content t).rules ≡ t.rules
  in_rules = length_firsts t.rules (rule_in t)

  pub limits : Valid (content t) → Limits t
  limits v = record { few = omega (arith, in_events, v.events_limit); most = omega (arith, in_rules, v.rules_limit); high = v.horizon_limit }

-- what reading the bytes to their end answers
module _ (ticket : List ℕ) where
  -- the refusal for its cause,
  pub read_refused : {r : Refusal} → Err r ≡ whole_ticket ticket → (c : Cause) × (wholly read_ticket ticket ≡ refused c) × (r ≡ refusal c)
  read_refused e = was_err stored (wholly read_ticket ticket) e

  -- or a struct that says the ticket, a valid one
  module _ {t : Ticket} (e : Ok t ≡ whole_ticket ticket) where
    pub read_got : (k : temporal.Ticket) × (rest : List ℕ) × (wholly read_ticket ticket ≡ got k rest)
    read_got = let g = was_ok stored (wholly read_ticket ticket) e in (g.0, g.1, g.2)

    pub read_content : content t ≡ read_got.0
    unfolding read_got
    read_content = ap content (was_ok stored (wholly read_ticket ticket) e).3 ∙ content_stored read_got.0

    pub read_valid : Bytes ticket → Valid (content t)
    read_valid b = subst Valid (sym read_content) (written_read ticket read_got.0 read_got.1 b read_got.2).1
