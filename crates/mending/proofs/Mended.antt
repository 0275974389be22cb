-- The laws of what specs/Mended defines.
use Rattle.std.specs.Prelude.{ℕ, ◌+◌, ◌*◌, ◌≤◌, ◌<◌, ◌≡◌, refl, ◌↔◌, ◌⊎◌, ◌≢◌, length}
use Rattle.std.proofs.Common.{sym, ◌∙◌, inl, inr, ⊎_elim, arith, length-append}
use Rattle.std.proofs.Math.Path.{ap, subst}
use mathlib.Core.List.{List, [], ◌++◌, append_assoc}
use Rattle.std.proofs.Math.ListN.{take}
use Rattle.std.proofs.Math.Seq.{take-append_seam}
use Rattle.temporal.specs.Lists.{All}
use Rattle.temporal.proofs.Lists.{All-map, below_or_not}
use Rattle.temporal.specs.Ticket.{Ticket}
use Rattle.temporal.specs.Run.{Valid}
use Rattle.ticket.specs.Parser.{Cause, number, got, refused, little, wholly}
use Rattle.ticket.proofs.Laws.{number_some}
use Rattle.ticket.specs.Format.{read_ticket}
use Rattle.ticket.specs.Writer.{bytes, each, write_ticket}
use Rattle.ticket.specs.Writing.{over}
use Rattle.ticket.specs.RoundTrip.{Bytes}
use Rattle.ticket.proofs.RoundTrip.{length_bytes, length_each, little_forth, many_forth, wholly_forth, read_written, written_read, answered}
use Rattle.ticket.proofs.Malformed.{malformed_number}
use Rattle.ticket.proofs.Sizes.{ticket_bytes}
use Rattle.ticket.specs.Content.{HoldsTicket}
use Rattle.mending.specs.Selection.{mended, dropped}
use Rattle.mending.proofs.Split.{selected_split, rising_all}
use Rattle.mending.specs.Laws.{HasSchedule}
use Rattle.mending.proofs.Laws.{mended_schedule, schedule_mended, selected_count, dropped_rising, mended_valid, put_back_place}
use Rattle.mending.specs.Mending.{write_numbers, Outcome, refusing, writing, accepting, after_reading, mending}
use Rattle.mending.proofs.Mending.{mending_short_out, mending_short_list, mending_read}
use Rattle.mending.specs.Mended.{Mended, Unmended, no_numbers, read_numbers, short, unread}

-- ---- the list

-- two bytes for the count and for each number
pub length_numbers : (numbers : List ℕ) → length (write_numbers numbers) ≡ 2 + 2 * length numbers
unfolding write_numbers
length_numbers numbers = omega (
  arith,
  length-append (bytes 2 (length numbers)) (each (bytes 2) numbers),
  length_bytes 2 (length numbers),
  length_each (bytes 2) 2 (λ x. length_bytes 2 x) numbers,
)

-- 514 bytes hold every list
pub numbers_fit : (k : Ticket) → Valid k → length (write_numbers (dropped k)) ≤ 514
numbers_fit k v = omega (arith, length_numbers (dropped k), selected_count k, v.rules_limit)

-- two bytes hold each, and their count
abbrev Small : List ℕ → Type 0
Small numbers = (length numbers < 65536) × All (λ x. x < 65536) numbers

numbers_forth : (numbers s : List ℕ) → Small numbers → read_numbers (write_numbers numbers ++ s) ≡ got numbers s
unfolding read_numbers write_numbers
numbers_forth numbers s h =
    rw (append_assoc, little_forth 2 (length numbers) (each (bytes 2) numbers ++ s) h.0)
    (many_forth (little 2) (bytes 2) (λ x. x < 65536) (λ x u l. little_forth 2 x u l) numbers s h.1)

empty_list : write_numbers [] ≡ no_numbers
unfolding write_numbers bytes each
empty_list = refl

module _ (k : Ticket) (v : Valid k) where
  dropped_small : All (λ x. x < 65536) (dropped k)
  dropped_small =
      All-map (λ x (h : (1 ≤ x) × (x ≤ length k.rules)). omega (arith, h.1, v.rules_limit)) (dropped k)
      (rising_all 1 1 (length k.rules) (dropped k) (omega arith) (dropped_rising k))

  -- what is written is read again: the numbers,
  pub dropped_read : wholly read_numbers (write_numbers (dropped k)) ≡ got (dropped k) []
  dropped_read = wholly_forth write_numbers Small read_numbers numbers_forth (dropped k) (omega (arith, selected_count k, v.rules_limit), dropped_small)

  -- and the mended ticket
  pub mended_read : HoldsTicket (write_ticket (mended k)) (mended k)
  mended_read = read_written (mended k) (mended_valid k v)

-- a ticket with a schedule, from the bytes that are written of it
schedule_same : (ticket : List ℕ) (k : Ticket) → HoldsTicket ticket k → write_ticket k ≡ ticket → HasSchedule k → (out list : List ℕ) → 1584 ≤ length out → 514 ≤ length list
    → mending ticket out list ≡ writing ticket no_numbers out list
schedule_same ticket k h w p out list l m =
    let e = schedule_mended k p in
    mending_read ticket out list l m
    ∙ ap (after_reading out list) h
    ∙ ap (λ (x : Ticket). writing (write_ticket x) (write_numbers (dropped k)) out list) e.0
    ∙ ap (λ (x : List ℕ). writing x (write_numbers (dropped k)) out list) w
    ∙ ap (λ (ns : List ℕ). writing ticket (write_numbers ns) out list) e.1
    ∙ ap (λ (x : List ℕ). writing ticket x out list) empty_list

module _ (ticket out list : List ℕ) where
  abbrev answer : Outcome
  answer = mending ticket out list

  refused_is : (x : ℕ) → Unmended ticket out list x → (answer ≡ refusing x out list) × (x ≢ 0)
  refused_is x (short e l) = (by l ∙ ap (λ r. refusing r out list) (sym e), λ z. omega (arith, z))
    where
      by : (length out < 1584) ⊎ (length list < 514) → answer ≡ refusing 10 out list
      by (inl l) = mending_short_out ticket out list l
      by (inr m) =
          ⊎_elim
          (λ (l : length out < 1584). mending_short_out ticket out list l)
          (λ (l : 1584 ≤ length out). mending_short_list ticket out list l m)
          (below_or_not (length out) 1584)
  refused_is x (unread c e l m q) = (
    mending_read ticket out list l m ∙ ap (after_reading out list) q ∙ ap (λ r. refusing r out list) (sym e),
    λ z. omega (arith, z, number_some c),
  )

  -- no cause applies
  record Unrefused (k : Ticket) : Type 0 where
    room : (1584 ≤ length out) × (514 ≤ length list)
    holds : HoldsTicket ticket k

  abbrev Decision : Type 0
  Decision = ((x : ℕ) × Unmended ticket out list x) ⊎ ((k : Ticket) × Unrefused k)

  decide : Decision
  decide =
      ⊎_elim
      (λ (l : length out < 1584). inl (10, short refl (inl l)))
      (λ (l : 1584 ≤ length out). ⊎_elim
      (λ (m : length list < 514). inl (10, short refl (inr m)))
      (λ (m : 514 ≤ length list). read l m (answered read_ticket ticket))
      (below_or_not (length list) 514))
      (below_or_not (length out) 1584)
    where
      read : 1584 ≤ length out → 514 ≤ length list → ((k : Ticket) × HoldsTicket ticket k) ⊎ ((c : Cause) × (wholly read_ticket ticket ≡ refused c)) → Decision
      read l m (inl r) = inr (r.0, record { room = (l, m); holds = r.1 })
      read l m (inr r) = inl (number r.0, unread r.0 refl l m r.1)

  unrefused_is : (k : Ticket) → Unrefused k → answer ≡ accepting k out list
  unrefused_is k u = mending_read ticket out list u.room.0 u.room.1 ∙ ap (after_reading out list) u.holds

  -- ---- the theorems

  -- the number is x and not 0 exactly where x is the number of the first cause that applies
  pub mend_refusal : (x : ℕ) → Unmended ticket out list x ↔ ((answer.number ≡ x) × (x ≢ 0))
  mend_refusal x = (
    λ f.
        let r = refused_is x f in
        (ap (λ (o : Outcome). o.number) r.0, r.1),
    λ q. by q decide,
  )
    where
      by : (answer.number ≡ x) × (x ≢ 0) → Decision → Unmended ticket out list x
      by q (inl r) = subst (Unmended ticket out list) (sym (ap (λ (o : Outcome). o.number) (refused_is r.0 r.1).0) ∙ q.0) r.1
      by q (inr u) = absurd (q.1 (sym q.0 ∙ ap (λ (o : Outcome). o.number) (unrefused_is u.0 u.1)))

  -- a refusal returns zeros and leaves both outputs as they were
  pub mend_zeros : answer.number ≢ 0 → (answer.length ≡ 0) × (answer.listed ≡ 0) × (answer.out ≡ out) × (answer.list ≡ list)
  mend_zeros n =
      let r = (refused_is answer.number ((mend_refusal answer.number).1 (refl, n))).0 in
      (ap (λ (o : Outcome). o.length) r, ap (λ (o : Outcome). o.listed) r, ap (λ (o : Outcome). o.out) r, ap (λ (o : Outcome). o.list) r)

  -- "malformed tickets meet 1 to 8 as before": no other number but 10 is given
  pub mend_number : (answer.number ≤ 8) ⊎ (answer.number ≡ 10)
  mend_number = by decide
    where
      under : (x : ℕ) → Unmended ticket out list x → (x ≤ 8) ⊎ (x ≡ 10)
      under x (short e l) = inr e
      under x (unread c e l m q) = inl (omega (arith, e, malformed_number ticket c q))

      by : Decision → (answer.number ≤ 8) ⊎ (answer.number ≡ 10)
      by (inl r) = subst (λ (n : ℕ). (n ≤ 8) ⊎ (n ≡ 10)) (sym (ap (λ (o : Outcome). o.number) (refused_is r.0 r.1).0)) (under r.0 r.1)
      by (inr u) = inl (omega (arith, ap (λ (o : Outcome). o.number) (unrefused_is u.0 u.1)))

  -- "9 is never given here"
  pub mend_not_nine : answer.number ≢ 9
  mend_not_nine e =
      ⊎_elim
      (λ (l : answer.number ≤ 8). omega (arith, e, l))
      (λ (q : answer.number ≡ 10). omega (arith, e, q))
      mend_number

  module _ (bytes : Bytes ticket) where
    mended_of : (k : Ticket) → Unrefused k → Mended ticket out list answer k
    unfolding over
    mended_of k u =
        let a = unrefused_is k u in
        let w = written_read ticket k [] bytes u.holds in
        let t : take answer.length answer.out ≡ write_ticket (mended k) =
        ap (λ (o : Outcome). take o.length o.out) a ∙ take-append_seam (write_ticket (mended k)) _ in
        let n : take answer.listed answer.list ≡ write_numbers (dropped k) =
        ap (λ (o : Outcome). take o.listed o.list) a ∙ take-append_seam (write_numbers (dropped k)) _ in
        record {
          room = u.room;
          holds = u.holds;
          number_is = ap (λ (o : Outcome). o.number) a;
          length_is = ap (λ (o : Outcome). o.length) a;
          listed_is = ap (λ (o : Outcome). o.listed) a;
          out_is = ap (λ (o : Outcome). o.out) a;
          list_is = ap (λ (o : Outcome). o.list) a;
          fits = (
            omega (arith, ap (λ (o : Outcome). o.length) a, ticket_bytes (mended k) (mended_valid k w.1)),
            omega (arith, ap (λ (o : Outcome). o.listed) a, numbers_fit k w.1),
          );
          reads = subst (λ s. HoldsTicket s (mended k)) (sym t) (mended_read k w.1);
          lists = ap (wholly read_numbers) n ∙ dropped_read k w.1;
          split = selected_split k;
          rising = dropped_rising k;
          scheduled = mended_schedule k;
          puts_back = λ i m. put_back_place k i m;
          same = λ p. (t ∙ ap write_ticket (schedule_mended k p).0 ∙ w.0, (schedule_mended k p).1);
          again = λ out' list' l m. schedule_same (take answer.length answer.out) (mended k)
              (subst (λ s. HoldsTicket s (mended k)) (sym t) (mended_read k w.1)) (sym t) (mended_schedule k) out' list' l m;
        }

    -- otherwise the ticket is mended
    pub mend_written : (answer.number ≡ 0) ↔ ((k : Ticket) × Mended ticket out list answer k)
    mend_written = (λ z. by z decide, λ m. m.1.number_is)
      where
        by : answer.number ≡ 0 → Decision → (k : Ticket) × Mended ticket out list answer k
        by z (inl r) = let q = refused_is r.0 r.1 in absurd (q.1 (sym (ap (λ (o : Outcome). o.number) q.0) ∙ z))
        by z (inr u) = (u.0, mended_of u.0 u.1)
