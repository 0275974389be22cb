-- What reading does not refuse is not refused under other numbers: tickets (`valid_in`) and plan records (`readable_in`), which are as long as they were (`size_in`).
use Rattle.std.specs.Prelude.{◌≡◌, ℕ, ◌≤◌}
use Rattle.std.proofs.Common.{sym, ap, ◌∙◌, arith}
use Rattle.std.proofs.lemmas.List.{length-map}
use Rattle.temporal.proofs.Lists.{All-map, map-All}
use Rattle.temporal.specs.Ticket.{Rule, Ticket, events, origin, Lies}
use Rattle.temporal.specs.Plan.{State}
use Rattle.temporal.specs.Run.{ValidRule, Valid, Readable}
use Rattle.ticket.specs.Format.{state_size}
use Rattle.renumbering.specs.Order.{Order, length_reorder, new_point, All-reorder}
use Rattle.renumbering.specs.Renumber.{renumber_rule, renumber, renumber_state, Lengths, events_renumber}
use Rattle.renumbering.specs.Totals.{flags_same}

pub valid_in : {n : ℕ} (o : Order n) (k : Ticket) → events k ≡ n → Valid k → Valid (renumber o k)
valid_in o k e v = record {
  horizon_limit = v.horizon_limit;
  events_limit = omega (arith, events_renumber o k, v.events_limit);
  owners_known = All-reorder o 0 (λ a. a ≤ 4) (omega arith) k.owners v.owners_known;
  rules_limit = omega (arith, length-map k.rules (renumber_rule o), v.rules_limit);
  rules_valid = map-All (ValidRule (events (renumber o k))) (renumber_rule o) k.rules (All-map rule k.rules v.rules_valid);
}
  where
    rule : (r : Rule) → ValidRule (events k) r → ValidRule (events (renumber o k)) (renumber_rule o r)
    rule r w = record {
      from_point = omega (arith, new_point o r.from (omega (arith, w.from_point)), events_renumber o k);
      to_point = omega (arith, new_point o r.to (omega (arith, w.to_point)), events_renumber o k);
      differ = λ q. w.differ (sym (o.old_new r.from) ∙ ap o.old q ∙ o.old_new r.to);
      at_least = w.at_least;
      at_most = w.at_most;
    }

pub readable_lengths : {n : ℕ} (s : State) → events s.ticket ≡ n → Readable s → Lengths n s
readable_lengths s e r = record { owners = e; windows = r.windows_count ∙ e; flags = r.flags_count ∙ e }

module _ {n : ℕ} (o : Order n) (s : State) (e : events s.ticket ≡ n) (r : Readable s) where
  pub readable_in : Readable (renumber_state o s)
  readable_in = record {
    valid = valid_in o s.ticket e r.valid;
    windows_count = length_reorder o origin s.windows ∙ sym (events_renumber o s.ticket);
    windows_lie = All-reorder o origin (Lies s.ticket.horizon) (omega arith, omega arith) s.windows r.windows_lie;
    flags_count = length_reorder o _ s.flags ∙ sym (events_renumber o s.ticket);
    counts_count = r.counts_count;
    counts_least = λ d l. omega (arith, flags_same o s.ticket e s.flags (r.flags_count ∙ e) d, r.counts_least d l);
    counts_most = r.counts_most;
  }

  pub size_in : state_size (renumber_state o s) ≡ state_size s
  size_in = omega (
    arith,
    e,
    events_renumber o s.ticket,
    length-map s.ticket.rules (renumber_rule o),
    length_reorder o origin s.windows,
    r.windows_count,
  )
