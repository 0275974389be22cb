-- What the program prints for the bytes of a ticket, and how that follows from what planning returns and writes.
use Rattle.std.specs.Prelude.{ℕ, ◌+◌, ◌≤◌, ◌<◌, ◌≡◌, refl, Bool, true, false, cond, List, [], ◌++◌, ◌≢◌, length, get_or, take, Ok}
use Rattle.std.proofs.Common.{sym, ap, ap₂, ◌∙◌, ⊎_elim, arith}
use Rattle.std.proofs.Math.Path.{subst}
use Rattle.std.proofs.Math.Dec.{T}
use Rattle.std.proofs.Math.ListN.{length-append, get_or-append}
use Rattle.std.proofs.Math.Seq.{take-append_seam}
use Rattle.temporal.specs.Ticket.{Ticket, Window, events, origin, total}
use Rattle.temporal.specs.Distance.{consistent}
use Rattle.temporal.specs.Plan.{State, Answer, refused, accepted, planned, plan, planned_latest, plan_latest, plan_for}
use Rattle.temporal.specs.Run.{Valid, Readable}
use Rattle.temporal.proofs.LatestRun.{plan_for_lem}
use Rattle.ticket.specs.Parser.{Cause, number, Out, got, refused, wholly}
use Rattle.ticket.specs.RoundTrip.{Bytes}
use Rattle.ticket.proofs.RoundTrip.{written_read, read_written_state, answered}
use Rattle.ticket.proofs.Prefix.{ticket_prefix}
use Rattle.ticket.proofs.Laws.{number_some}
use Rattle.ticket.specs.Writer.{write_state}
use Rattle.ticket.specs.Writing.{content, over}
use Rattle.ticket.specs.Format.{read_ticket, read_state}
use Rattle.ticket.specs.Stored.{pad, stored_state, whole_record}
use Rattle.ticket.proofs.Agree.{field_at, content_stored}
use Rattle.ticket.specs.declared.Record.{Record}
use Rattle.runs.specs.Calls.{Outcome}
use Rattle.runs.specs.Calls as calls
use Rattle.text.specs.Text.{refusal, heading, event_line, totals_line, line_at, each, each_same, record_text}
use Rattle.parts.specs.Part.{part_totals}

-- a plan: the heading, and a line for each event
abbrev pub plan_text : State → List ℕ
plan_text s =
    heading (events s.ticket) (total s.ticket s.windows)
    ++ each (events s.ticket) (λ i. event_line (i + 1) (get_or s.ticket.owners i 0) (get_or s.windows i origin))

-- "under the plan the program prints one line with the five part totals in owner order" (02, change 8)
abbrev pub accepted_text : State → List ℕ
accepted_text s = plan_text s ++ totals_line (part_totals s.ticket)

abbrev pub answer_text : Answer → List ℕ
answer_text (refused r) = refusal r
answer_text (accepted s) = accepted_text s

-- bytes that are no ticket are refused under the number of their first cause; a ticket is planned, the latest plan where `late` says so
abbrev pub read_text : Bool → Out Ticket → List ℕ
read_text late (got k rest) = answer_text (plan_for late k)
read_text late (refused c) = refusal (number c)

unfoldable pub printed : Bool → List ℕ → List ℕ
printed late ticket = read_text late (wholly read_ticket ticket)

-- a ticket has at most 1,584 bytes (01, "Ticket and record"), so 1,585 bytes of the input tell all that is printed
pub printed_prefix : (late : Bool) (s : List ℕ) → printed late s ≡ printed late (take 1585 s)
unfolding printed
printed_prefix late s = ap (read_text late) (sym (ticket_prefix s))

pub record_text_lem : (s : State) → Readable s → record_text (stored_state s) (total s.ticket s.windows) ≡ plan_text s
record_text_lem s r = ap (λ (lines : List ℕ). heading (events s.ticket) (total s.ticket s.windows) ++ lines)
    (each_same (events s.ticket) _ _ (λ i (h : i < events s.ticket). same i h (omega (arith, r.windows_count))))
  where
    same : (i : ℕ) → i < length s.ticket.owners → i < length s.windows
        → line_at (stored_state s).ticket.owners (stored_state s).opens (stored_state s).closes i
        ≡ event_line (i + 1) (get_or s.ticket.owners i 0) (get_or s.windows i origin)
    same i h g = unfold pad in rw (
      get_or-append s.ticket.owners _ 0 i h,
      field_at (λ (w : Window). w.opens) origin 40 s.windows i g,
      field_at (λ (w : Window). w.closes) origin 40 s.windows i g,
    )

-- ---- from planning to the text

-- an accepted plan is of a ticket that has a schedule
possible : Answer → Bool
possible (refused r) = true
possible (accepted s) = consistent s.ticket

plan_possible : (late : Bool) (k : Ticket) → T (possible (plan_for late k))
unfolding possible plan plan_latest
plan_possible true k = by (consistent k) (λ t. t)
  where
    by : (b : Bool) → (T b → T (consistent k)) → T (possible (cond b (accepted (planned_latest k)) (refused 9)))
    by true f = f tt
    by false f = tt
plan_possible false k = by (consistent k) (λ t. t)
  where
    by : (b : Bool) → (T b → T (consistent k)) → T (possible (cond b (accepted (planned k)) (refused 9)))
    by true f = f tt
    by false f = tt

-- an accepted planning: the record that it wrote is read as s, whose text is printed
pub record Said (late : Bool) (ticket : List ℕ) (o : Outcome) (s : State) : Type 0 where
  pub readable : Readable s
  pub length_fits : o.length ≤ length o.out
  pub read : wholly read_state (take o.length o.out) ≡ got s []
  pub sum : o.total ≡ total s.ticket s.windows
  pub possible : T (consistent s.ticket)
  pub text : accepted_text s ≡ printed late ticket

-- what either plan of the bytes leaves, where there is room
abbrev pub outcome : Bool → (ticket out scratch : List ℕ) → Outcome
outcome late ticket out scratch = calls.after_reading out scratch (plan_for late) (wholly read_ticket ticket)

module _ (late : Bool) (ticket out scratch : List ℕ) where
  decided_refused : (a : Answer) → (calls.answered out scratch a).number ≢ 0 → refusal (calls.answered out scratch a).number ≡ answer_text a
  decided_refused (refused r) h = refl
  decided_refused (accepted s) h = absurd (h refl)

  read_refused : (x : Out Ticket) → (calls.after_reading out scratch (plan_for late) x).number ≢ 0
      → refusal (calls.after_reading out scratch (plan_for late) x).number ≡ read_text late x
  read_refused (got k rest) h = decided_refused (plan_for late k) h
  read_refused (refused c) h = refl

  pub printed_refused : (outcome late ticket out scratch).number ≢ 0 → refusal (outcome late ticket out scratch).number ≡ printed late ticket
  unfolding printed
  printed_refused h = read_refused (wholly read_ticket ticket) h

  decided : (k : Ticket) → Valid k → wholly read_ticket ticket ≡ got k [] → (a : Answer) → plan_for late k ≡ a
      → (calls.answered out scratch a).number ≡ 0 → (s : State) × Said late ticket (calls.answered out scratch a) s
  unfolding printed over possible
  decided k v e (refused r) p z = absurd (omega (arith, rw p at (plan_for_lem late k v)))
  decided k v e (accepted s) p z =
      let y : Readable s = rw p at (plan_for_lem late k v) in (
        s,
        record {
          readable = y;
          length_fits = simp length-append (omega arith);
          read = rw (take-append_seam (write_state s)) (read_written_state s y);
          sum = refl;
          possible = subst (λ a. T (possible a)) p (plan_possible late k);
          text = rw (e, p);
        },
      )

  pub printed_planned : Bytes ticket → (outcome late ticket out scratch).number ≡ 0 → (s : State) × Said late ticket (outcome late ticket out scratch) s
  printed_planned b z = ⊎_elim
      (λ (g : (k : Ticket) × (wholly read_ticket ticket ≡ got k [])).
      rw g.1 (decided g.0 (written_read ticket g.0 [] b g.1).1 g.1 (plan_for late g.0) refl (rw g.1 at z)))
      (λ (r : (c : Cause) × (wholly read_ticket ticket ≡ refused c)). absurd (omega (arith, number_some r.0, rw r.1 at z)))
      (answered read_ticket ticket)

module _ {late : Bool} {ticket : List ℕ} {o : Outcome} {s : State} (d : Said late ticket o s) where
  pub said_record : (n : ℕ) (xs : List ℕ) → n ≡ o.length → xs ≡ o.out → whole_record (take n xs) ≡ Ok (stored_state s)
  said_record n xs e f = rw (e, f, d.read)

  -- its ticket as a struct
  pub said_ticket : (r : Record) → r ≡ stored_state s → content r.ticket ≡ s.ticket
  said_ticket r e = ap (λ (x : Record). content x.ticket) e ∙ content_stored s.ticket

  pub said_text : (r : Record) (sum : ℕ) (totals : List ℕ) → r ≡ stored_state s → sum ≡ o.total → totals ≡ part_totals (content r.ticket)
      → record_text r sum ++ totals_line totals ≡ printed late ticket
  said_text r sum totals e f g =
      let lines : record_text r sum ≡ plan_text s = rw (e, f, d.sum) (record_text_lem s d.readable) in
      ap₂ (λ xs ys. xs ++ totals_line ys) lines (g ∙ ap part_totals (said_ticket r e)) ∙ d.text
