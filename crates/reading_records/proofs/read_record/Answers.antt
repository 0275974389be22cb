-- `reading_records::read_record` meets its contract. Each return is one section of the parser; what comes after the record is what its size leaves. Assumes nothing.
use Prim.Native.Nat.{◌+◌, ◌*◌}
use mathlib.Core.Path.{ap, ◌∙◌}
use native.Mathlib.Omega.{arith}
use lib.ListN.{length, drop}
use Rattle.std.specs.Prelude.{Ok}
use Rattle.temporal.specs.Run.{Readable}
use Rattle.ticket.specs.Format.{flags_in, state_size, flag_counts, read_ticket, read_windows, read_counts, read_state}
use Rattle.ticket.specs.RoundTrip.{Bytes}
use Rattle.ticket.specs.Stored.{pad, stored_state}
use Rattle.ticket.specs.Writer.{write_state}
use Rattle.ticket.specs.declared.Ticket.{Ticket}
use Rattle.ticket.proofs.Refusals.{passed_up}
use Rattle.ticket.proofs.RoundTrip.{state_back, length_readable}
use Rattle.ticket.proofs.Stages.{bad_ticket, bad_windows, bad_counts}
use Rattle.reading.specs.Parts.{read_of}
use Rattle.reading.specs.Whole.{room, whole_trailing, whole_done}
use Rattle.reading_records.specs.Parts.{windows_of}
use Rattle.reading_records.specs.Rest.{ticket_read, windows_told, windows_read, counts_told, record_read}
use borrow.Author.Rules.{rules}
use Rattle.reading_records.proofs.read_record.Goals as goal

pub returns-in_err-ticket-clause-value : goal.returns-in_err-ticket-clause-value
returns-in_err-ticket-clause-value c = let s = c.args.s.now in
    passed_up (read_of 0) stored_state (read_ticket s) _ c.from_residual.result c.from_residual.ensures.1 c.in_err-ticket.ensures (λ k e. rw (bad_ticket s k e))

pub window_section-requires : goal.window_section-requires
window_section-requires c =
    let t = ticket_read c.args.s.now (λ i. search rules) _ c.in_ok-ticket.ensures in
    (t.4, t.6)

pub returns-in_err-flags-clause-value : goal.returns-in_err-flags-clause-value
returns-in_err-flags-clause-value c = let s = c.args.s.now in
    let bytes : Bytes s = λ i. search rules in
    let t = ticket_read s bytes _ c.in_ok-ticket.ensures in
    let up = c.from_residual-in_err-flags in
    passed_up windows_of stored_state (read_windows (length t.0.owners) t.0.horizon (drop c.in_ok-ticket.field-0.next s)) _ up.result up.ensures.1
    (c.in_err-flags.ensures ∙ windows_told s bytes _ c.in_ok-ticket.ensures) (λ k e. rw (bad_windows s t.0 _ t.1 k e))

pub flag_counts-xs-requires : goal.flag_counts-xs-requires
flag_counts-xs-requires c = (ticket_read c.args.s.now (λ i. search rules) _ c.in_ok-ticket.ensures).6

pub overflow_add-next : goal.overflow_add-next
overflow_add-next c = omega (arith, (ticket_read c.args.s.now (λ i. search rules) _ c.in_ok-ticket.ensures).4)

pub overflow_mul-n : goal.overflow_mul-n
overflow_mul-n c = omega (arith, (ticket_read c.args.s.now (λ i. search rules) _ c.in_ok-ticket.ensures).6)

pub overflow_add-next-2 : goal.overflow_add-next-2
overflow_add-next-2 c =
    let t = ticket_read c.args.s.now (λ i. search rules) _ c.in_ok-ticket.ensures in
    omega (arith, t.4, t.6)

pub count_section-requires : goal.count_section-requires
count_section-requires c = (windows_read c.args.s.now (λ i. search rules) _ c.in_ok-ticket.ensures _ c.in_ok-flags.ensures).3

pub returns-in_err-counts-clause-value : goal.returns-in_err-counts-clause-value
returns-in_err-counts-clause-value c = let s = c.args.s.now in
    let bytes : Bytes s = λ i. search rules in
    let ticket = c.in_ok-ticket.ensures in
    let windows = c.in_ok-flags.ensures in
    let t = ticket_read s bytes _ ticket in
    let w = windows_read s bytes _ ticket _ windows in
    let up = c.from_residual-in_err-counts in
    let r = c.in_ok-ticket.field-0 in
    passed_up (pad 0 5) stored_state (read_counts (flag_counts t.0.owners (flags_in w.0)) (drop (r.next + 2 + 9 * r.ticket.events) s)) _ up.result up.ensures.1
    (c.in_err-counts.ensures ∙ counts_told s bytes _ ticket _ windows _ c.flag_counts-xs.ensures)
    (λ k e. rw (bad_counts s t.0 _ t.1 w.0 _ w.1 k e))

pub overflow_add-end : goal.overflow_add-end
overflow_add-end c = omega (arith, (ticket_read c.args.s.now (λ i. search rules) _ c.in_ok-ticket.ensures).4)

pub overflow_mul-end : goal.overflow_mul-end
overflow_mul-end c = omega (arith, (ticket_read c.args.s.now (λ i. search rules) _ c.in_ok-ticket.ensures).6)

pub overflow_add-end-2 : goal.overflow_add-end-2
overflow_add-end-2 c =
    let t = ticket_read c.args.s.now (λ i. search rules) _ c.in_ok-ticket.ensures in
    omega (arith, t.4, t.6)

pub returns-then-end-s-clause-value : goal.returns-then-end-s-clause-value
returns-then-end-s-clause-value c = let s = c.args.s.now in
    let bytes : Bytes s = λ i. search rules in
    let (x, u, q, _, long) = record_read s bytes _ c.in_ok-ticket.ensures _ c.in_ok-flags.ensures _ c.flag_counts-xs.ensures _ c.in_ok-counts.ensures in
    whole_trailing write_state Readable read_state state_back state_size length_readable stored_state s bytes x u q (omega (arith, long))

pub returns-clause-value : goal.returns-clause-value
returns-clause-value c = let s = c.args.s.now in
    let bytes : Bytes s = λ i. search rules in
    let (x, u, q, same, long) = record_read s bytes _ c.in_ok-ticket.ensures _ c.in_ok-flags.ensures _ c.flag_counts-xs.ensures _ c.in_ok-counts.ensures in
    ap Ok same ∙ whole_done write_state Readable read_state state_back state_size length_readable stored_state s bytes x u q (omega (arith, long))

pub returns-clause-past : goal.returns-clause-past
returns-clause-past c = let s = c.args.s.now in
    let bytes : Bytes s = λ i. search rules in
    let t = ticket_read s bytes _ c.in_ok-ticket.ensures in
    let (x, u, q, _, long) = record_read s bytes _ c.in_ok-ticket.ensures _ c.in_ok-flags.ensures _ c.flag_counts-xs.ensures _ c.in_ok-counts.ensures in
    omega (
      arith,
      long,
      t.3,
      t.5,
      ap (λ (y : Ticket). y.rules) t.2,
      room write_state Readable read_state state_back state_size length_readable stored_state s bytes x u q,
    )
