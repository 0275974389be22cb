-- What the parts of reading a ticket answer of a list of bytes: the program's structs, or the refusal.
use Rattle.std.specs.Prelude.{ℕ, ◌+◌, List, map, length, drop, pos, Result}
use Rattle.ticket.specs.Parser.{many}
use Rattle.temporal.specs.Ticket as temporal
use Rattle.ticket.specs.Format as format
use Rattle.ticket.specs.Format.{size, read_owner, read_rule, read_front, read_rules, read_ticket}
use Rattle.ticket.specs.Refusal.{answer}
use Rattle.ticket.specs.Stored.{pad, stored}
use Rattle.ticket.specs.declared.ReadTicket.{ReadTicket}
use Rattle.ticket.specs.declared.Refusal.{Refusal}
use Rattle.reading.specs.declared.Rule.{Rule}
use Rattle.reading.specs.declared.Rules.{Rules}
use Rattle.reading.specs.declared.Front.{Front}

-- The n owners from the place `at`.
abbrev pub owners_at : List ℕ → ℕ → ℕ → Result (List ℕ) Refusal
owners_at s at n = answer (pad 0 40) (many read_owner n (drop at s))

-- ---- rules

abbrev pub rule_of : temporal.Rule → Rule
rule_of r = record { from = r.from; to = r.to; bound = r.bound }

-- The rule over n events at the place `at`.
abbrev pub rule_at : List ℕ → ℕ → ℕ → Result Rule Refusal
rule_at s at n = answer rule_of (read_rule n (drop at s))

abbrev pub rules_of : List temporal.Rule → Rules
rules_of rs =
    record {
      count = length rs;
      from = pad 0 256 (map (λ (r : temporal.Rule). r.from) rs);
      to = pad 0 256 (map (λ (r : temporal.Rule). r.to) rs);
      bound = pad (pos 0) 256 (map (λ (r : temporal.Rule). r.bound) rs);
    }

-- The m rules over n events from the place `at`.
abbrev pub rules_at : List ℕ → ℕ → ℕ → ℕ → Result Rules Refusal
rules_at s at n m = answer rules_of (many (read_rule n) m (drop at s))

-- The rules over n events with their number before them.
abbrev pub all_rules_at : List ℕ → ℕ → ℕ → Result Rules Refusal
all_rules_at s at n = answer rules_of (read_rules n (drop at s))

-- ---- the ticket

abbrev pub front_of : format.Front → Front
front_of f = record { horizon = f.horizon; events = f.events }

-- The first two numbers of the ticket that starts at the place `at`.
abbrev pub front_at : List ℕ → ℕ → Result Front Refusal
front_at s at = answer front_of (read_front (drop at s))

-- A ticket that starts at the place `at`, and the place past it.
abbrev pub read_of : ℕ → temporal.Ticket → ReadTicket
read_of at t = record { ticket = stored t; next = at + size t }

-- The ticket that starts at the place `at`.
abbrev pub ticket_at : List ℕ → ℕ → Result ReadTicket Refusal
ticket_at s at = answer (read_of at) (read_ticket (drop at s))
