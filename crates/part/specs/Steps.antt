-- What the code has answered and written at each of its returns. Rests on `parts`' Parting and Parted, on part_windows' IsPart, and on `ticket` for what reading answers.
use Rattle.std.specs.Prelude.{ℕ, suc, ◌+◌, ◌*◌, ◌≤◌, ◌<◌, ◌≡◌, List, true, get_or, Ok, Err}
use Rattle.std.proofs.Common.{sym, ◌∙◌, arith}
use Rattle.std.proofs.Math.Path.{ap, subst}
use Rattle.std.proofs.Math.ListN.{length}
use Rattle.std.proofs.Math.Seq.{sets}
use Rattle.temporal.specs.Ticket as temporal
use Rattle.temporal.specs.Ticket.{origin}
use Rattle.temporal.specs.Distance.{consistent}
use Rattle.temporal.specs.Run.{Valid}
use Rattle.network.specs.Stored.{at}
use Rattle.ticket.specs.Writer.{bytes, each}
use Rattle.ticket.specs.Writing.{firsts, content}
use Rattle.ticket.proofs.Agree.{firsts_cong}
use Rattle.ticket.specs.Stored.{whole_ticket}
use Rattle.ticket.proofs.RoundTrip.{length_bytes}
use Rattle.ticket.proofs.Content.{read_refused, read_got, read_content}
use Rattle.ticket.specs.Refusal.{number_of}
use Rattle.ticket.proofs.Refusals.{refusal_number}
use Rattle.ticket.specs.declared.Ticket.{Ticket}
use Rattle.ticket.specs.declared.Refusal.{Refusal}
use Rattle.writing.specs.Stores.{sets_over, sets_then}
use Rattle.potentials.specs.Arrays.{window_at_lem}
use Rattle.parts.specs.Part.{members, part_total}
use Rattle.parts.proofs.Members.{point_most}
use Rattle.parts.specs.Parting.{numbered_at, numbered, write_numbered, write_part, Outcome, refusing, parted, after_reading, parting}
use Rattle.parts.proofs.Parting.{parting_read, parted_some}
use Rattle.parts.proofs.Parted.{length_part, part_size}
use Rattle.part_windows.specs.declared.Part.{Part}
use Rattle.part_windows.specs.Planned.{IsPart}
use Rattle.part.specs.Returned.{Answer, returned}
use Rattle.part.specs.Stored.{numbered_in}

-- a is what the outcome returns, and `out` its output
abbrev pub Meets : Outcome → Answer → List ℕ → Type 0
Meets o a out = (a ≡ returned o) × (out ≡ o.out)

pub meets_refused : {o : Outcome} {r : ℕ} {a : Answer} {out : List ℕ} → o ≡ refusing r out → a ≡ record { number = r; length = 0; total = 0 } → Meets o a out
meets_refused e q = (q ∙ ap returned (sym e), ap (λ (x : Outcome). x.out) (sym e))

-- ---- a ticket that was read

module _ (k : temporal.Ticket) (v : Valid k) (d : ℕ) {p : Part} (I : IsPart d k p) where
  -- the numbers of its events
  pub event_most : (q : ℕ) → q < p.events → at p.points (suc q) ≤ 40
  event_most q l = omega (arith, I.places (suc q) l, point_most d k (suc q) (omega (arith, I.counted)), v.events_limit)

  -- the arrays hold the events and their windows
  held : firsts p.events (numbered_in p.points p.opens p.closes) ≡ numbered d k
  held =
      firsts_cong p.events (numbered_in p.points p.opens p.closes) (numbered_at d k) (λ i l.
      let e : at p.points (suc i) ≡ get_or (members d k) i 0 = I.places (suc i) l in
      let f = sym (window_at_lem p.events p.opens p.closes i l) ∙ ap (λ ws. get_or ws i origin) I.windows in
      λ j. record { event = e j; window = f j })
      ∙ ap (λ n. firsts n (numbered_at d k)) I.counted

  pub part_written : (out : List ℕ) {out' : List ℕ} → 362 ≤ length out → consistent k ≡ true
      → out' ≡ sets (sets out 0 (bytes 2 p.events)) 2 (each write_numbered (firsts p.events (numbered_in p.points p.opens p.closes)))
      → Meets (parted d k out) (record { number = 0; length = 2 + 9 * p.events; total = p.total }) out'
  unfolding write_part
  part_written out {out'} room c e =
      let n : 2 + 9 * p.events ≡ length (write_part d k) = omega (arith, length_part d k, I.counted) in
      let t : p.total ≡ part_total d k = I.total in
      subst (λ o. Meets o (record { number = 0; length = 2 + 9 * p.events; total = p.total }) out') (sym (parted_some d k out c)) (
        (λ i. record { number = 0; length = n i; total = t i }),
        e
            ∙ ap (λ xs. sets (sets out 0 (bytes 2 p.events)) 2 (each write_numbered xs)) held
            ∙ ap (λ m. sets (sets out 0 (bytes 2 m)) 2 (each write_numbered (numbered d k))) I.counted
            ∙ sets_then (bytes 2 (length (members d k))) (each write_numbered (numbered d k)) out 0 2 (omega (arith, length_bytes 2 (length (members d k))))
            ∙ sets_over (write_part d k) out (omega (arith, (part_size d k v).1)),
      )

-- ---- reading

module _ (ticket : List ℕ) (d : ℕ) (out : List ℕ) (l : 362 ≤ length out) (m : d ≤ 4) where
  pub ticket_misread : {a : Answer} {e : Refusal} → Err e ≡ whole_ticket ticket → a ≡ record { number = number_of e; length = 0; total = 0 } → Meets (parting ticket d out) a out
  ticket_misread e q =
      let c = read_refused ticket e in
      meets_refused (parting_read ticket d out l m ∙ ap (after_reading d out) c.1)
      (q ∙ ap (λ (r : ℕ). record { number = r; length = 0; total = 0 }) (ap number_of c.2 ∙ refusal_number c.0))

  pub ticket_parted : {t : Ticket} → Ok t ≡ whole_ticket ticket → {a : Answer} {out' : List ℕ} → Meets (parted d (content t) out) a out' → Meets (parting ticket d out) a out'
  ticket_parted e {a} {out'} h =
      subst (λ o. Meets o a out')
      (ap (λ k. parted d k out) (read_content ticket e) ∙ ap (after_reading d out) (sym (read_got ticket e).2) ∙ sym (parting_read ticket d out l m)) h
