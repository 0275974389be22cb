-- The laws of what specs/Reasoned defines.
use Rattle.std.specs.Prelude.{◌≡◌, refl, Bool, true, false, List, [], ◌↔◌, ◌⊎◌, ◌≢◌, ℕ, ◌≤◌, ◌<◌, T, length, take}
use Rattle.std.proofs.Common.{sym, ap, subst, ◌∙◌, inl, inr, ⊎_elim, arith}
use Rattle.std.proofs.Math.Dec.{not_T}
use Rattle.std.proofs.Math.Seq.{take-append_seam}
use Rattle.temporal.proofs.Lists.{T-true, T-false, below_or_not}
use Rattle.temporal.specs.Ticket.{Ticket, Schedule, events}
use Rattle.temporal.specs.Distance.{consistent}
use Rattle.temporal.proofs.Distance.{consistent_has}
use Rattle.temporal.specs.Run.{Valid}
use Rattle.ticket.specs.Parser.{Cause, number, refused, wholly}
use Rattle.ticket.proofs.Laws.{number_some, number_not_nine}
use Rattle.ticket.specs.Format.{read_ticket}
use Rattle.ticket.specs.Writing.{over}
use Rattle.ticket.specs.RoundTrip.{Bytes}
use Rattle.ticket.proofs.RoundTrip.{written_read, answered}
use Rattle.ticket.specs.Content.{HoldsTicket}
use Rattle.names.specs.Names.{well_formed}
use Rattle.paths.proofs.Walks.{valid_points}
use Rattle.rings.specs.Ring.{ring}
use Rattle.rings.proofs.Printed.{ring_printed, ring_valid}
use Rattle.reasons.specs.Text.{ring_text}
use Rattle.reasons.specs.Reading.{read_text, steps}
use Rattle.reasons.proofs.Reading.{read_back}
use Rattle.reasons.proofs.Size.{text_size}
use Rattle.reasons.specs.Reasoning.{Outcome, refusing, printing, explaining, after_reading, reasoning}
use Rattle.reasons.proofs.Reasoning.{reasoning_short, reasoning_read}
use Rattle.reasons.proofs.Reasoning.{unlisted_labels, unlisted_roster, explaining_possible, explaining_ring}
use Rattle.reasons.specs.Reasoned.{Explained, Listed, Unexplained, short, unread, unlisted, possible}

-- ---- the lists

-- the labels break the layout, or else the roster does
abbrev Broken : Ticket → (labels roster : List ℕ) → Type 0
Broken k labels roster = (well_formed labels (events k) ≡ false) ⊎ ((well_formed labels (events k) ≡ true) × (well_formed roster 5 ≡ false))

test_lists : (k : Ticket) (labels roster : List ℕ) → Listed k labels roster ⊎ Broken k labels roster
test_lists k labels roster = go (well_formed labels (events k)) (well_formed roster 5) refl refl
  where
    go : (a b : Bool) → well_formed labels (events k) ≡ a → well_formed roster 5 ≡ b → Listed k labels roster ⊎ Broken k labels roster
    go true true e f = inl (record { labelled = e; known = f })
    go false b e f = inr (inl e)
    go true false e f = inr (inr (e, f))

not_both : (b : Bool) → b ≡ true → ¬ (b ≡ false)
not_both b e f = subst T f (rw e tt)

-- ---- what is answered

module _ (ticket labels roster out : List ℕ) where
  abbrev answer : Outcome
  answer = reasoning ticket labels roster out

  module _ (room : 2200 ≤ length out) (k : Ticket) (h : HoldsTicket ticket k) where
    explains : answer ≡ explaining k labels roster out
    explains = reasoning_read ticket labels roster out room ∙ ap (after_reading labels roster out) h

    answer_unlisted : ¬ Listed k labels roster → answer ≡ refusing 16 out
    answer_unlisted n = by (test_lists k labels roster)
      where
        by : Listed k labels roster ⊎ Broken k labels roster → answer ≡ refusing 16 out
        by (inl l) = absurd (n l)
        by (inr (inl e)) = explains ∙ unlisted_labels k labels roster out e
        by (inr (inr e)) = explains ∙ unlisted_roster k labels roster out e.0 e.1

    module _ (l : Listed k labels roster) where
      answer_possible : (ts : List ℕ) → Schedule k ts → answer ≡ refusing 17 out
      answer_possible ts s = explains ∙ explaining_possible k labels roster out l.labelled l.known (T-true (consistent k) ((consistent_has k).1 (ts, s)))

      answer_ring : ¬ T (consistent k) → answer ≡ printing (ring_text k labels roster (ring k)) out
      answer_ring n = explains ∙ explaining_ring k labels roster out l.labelled l.known (T-false (consistent k) (not_T (consistent k) n))

  refused_is : (x : ℕ) → Unexplained ticket labels roster out x → (answer ≡ refusing x out) × (x ≢ 0)
  refused_is x (short e l) = (reasoning_short ticket labels roster out l ∙ ap (λ r. refusing r out) (sym e), λ z. omega (arith, z))
  refused_is x (unread c e l q) = (
    reasoning_read ticket labels roster out l ∙ ap (after_reading labels roster out) q ∙ ap (λ r. refusing r out) (sym e),
    λ z. omega (arith, z, number_some c),
  )
  refused_is x (unlisted k e l q n) = (answer_unlisted l k q n ∙ ap (λ r. refusing r out) (sym e), λ z. omega (arith, z))
  refused_is x (possible k e l q f ts s) = (answer_possible l k q f ts s ∙ ap (λ r. refusing r out) (sym e), λ z. omega (arith, z))

  -- no cause applies
  record Unrefused (k : Ticket) : Type 0 where
    room : 2200 ≤ length out
    holds : HoldsTicket ticket k
    lists : Listed k labels roster
    none : ¬ T (consistent k)

  abbrev Decision : Type 0
  Decision = ((x : ℕ) × Unexplained ticket labels roster out x) ⊎ ((k : Ticket) × Unrefused k)

  decide : Decision
  decide = ⊎_elim (λ (l : length out < 2200). inl (10, short refl l)) (λ (l : 2200 ≤ length out). read l (answered read_ticket ticket)) (below_or_not (length out) 2200)
    where
      scheduled : 2200 ≤ length out → (k : Ticket) → HoldsTicket ticket k → Listed k labels roster → (b : Bool) → consistent k ≡ b → Decision
      scheduled l k h f true e =
          let s = (consistent_has k).0 (rw e tt) in
          inl (17, possible k refl l h f s.0 s.1)
      scheduled l k h f false e = inr (k, record { room = l; holds = h; lists = f; none = λ t. subst T e t })

      by_lists : 2200 ≤ length out → (k : Ticket) → HoldsTicket ticket k → Listed k labels roster ⊎ Broken k labels roster → Decision
      by_lists l k h (inl f) = scheduled l k h f (consistent k) refl
      by_lists l k h (inr (inl e)) = inl (16, unlisted k refl l h (λ f. not_both (well_formed labels (events k)) f.labelled e))
      by_lists l k h (inr (inr e)) = inl (16, unlisted k refl l h (λ f. not_both (well_formed roster 5) f.known e.1))

      read : 2200 ≤ length out → ((k : Ticket) × HoldsTicket ticket k) ⊎ ((c : Cause) × (wholly read_ticket ticket ≡ refused c)) → Decision
      read l (inl r) = by_lists l r.0 r.1 (test_lists r.0 labels roster)
      read l (inr r) = inl (number r.0, unread r.0 refl l r.1)

  unrefused_is : (k : Ticket) → Unrefused k → answer ≡ printing (ring_text k labels roster (ring k)) out
  unrefused_is k u = answer_ring u.room k u.holds u.lists u.none

  -- ---- the theorems

  -- the number is x and not 0 exactly where x is the number of the first cause that applies
  pub reason_refusal : (x : ℕ) → Unexplained ticket labels roster out x ↔ ((answer.number ≡ x) × (x ≢ 0))
  reason_refusal x = (
    λ f.
        let r = refused_is x f in
        (ap (λ (o : Outcome). o.number) r.0, r.1),
    λ q. by q decide,
  )
    where
      by : (answer.number ≡ x) × (x ≢ 0) → Decision → Unexplained ticket labels roster out x
      by q (inl r) = subst (Unexplained ticket labels roster out) (sym (ap (λ (o : Outcome). o.number) (refused_is r.0 r.1).0) ∙ q.0) r.1
      by q (inr u) = absurd (q.1 (sym q.0 ∙ ap (λ (o : Outcome). o.number) (unrefused_is u.0 u.1)))

  -- a refusal returns length 0, and leaves the output as it was
  pub reason_zeros : answer.number ≢ 0 → (answer.length ≡ 0) × (answer.out ≡ out)
  reason_zeros n =
      let r = (refused_is answer.number ((reason_refusal answer.number).1 (refl, n))).0 in
      (ap (λ (o : Outcome). o.length) r, ap (λ (o : Outcome). o.out) r)

  -- "A 9 becomes the printed ring here"
  pub reason_not_nine : answer.number ≢ 9
  reason_not_nine e = by ((reason_refusal 9).1 (e, λ z. omega (arith, z)))
    where
      by : Unexplained ticket labels roster out 9 → ⊥
      by (short q l) = omega (arith, q)
      by (unread c q l r) = number_not_nine c (sym q)
      by (unlisted k q l h n) = omega (arith, q)
      by (possible k q l h f ts s) = omega (arith, q)

  module _ (bytes : Bytes ticket) where
    explained : (k : Ticket) → Unrefused k → Explained ticket labels roster out answer k (ring k)
    explained k u =
        let v : Valid k = (written_read ticket k [] bytes u.holds).1 in
        let p = ring_printed k (valid_points k v) u.none in
        let a = unrefused_is k u in
        let n : answer.length ≡ length (ring_text k labels roster (ring k)) = ap (λ (o : Outcome). o.length) a in
        record {
          room = u.room;
          holds = u.holds;
          lists = u.lists;
          none = λ ts s. u.none ((consistent_has k).1 (ts, s));
          printed = p;
          number_is = ap (λ (o : Outcome). o.number) a;
          length_is = n;
          fits = omega (arith, n, text_size k v labels roster u.lists.labelled u.lists.known (ring k) p.a_ring.numbers (ring_valid k v u.none));
          out_is = ap (λ (o : Outcome). o.out) a;
        }

    -- otherwise the ring is printed
    pub reason_printed : (answer.number ≡ 0) ↔ ((k : Ticket) × (rules : List ℕ) × Explained ticket labels roster out answer k rules)
    reason_printed = (λ z. by z decide, λ e. e.2.number_is)
      where
        by : answer.number ≡ 0 → Decision
            → (k : Ticket) × (rules : List ℕ) × Explained ticket labels roster out answer k rules
        by z (inl r) =
            let q = refused_is r.0 r.1 in
            absurd (q.1 (sym (ap (λ (o : Outcome). o.number) q.0) ∙ z))
        by z (inr u) = (u.0, ring u.0, explained u.0 u.1)

  -- the numbers and the bounds of the ring are read back from the bytes that were written
  pub reason_reads : (k : Ticket) (rules : List ℕ) → Explained ticket labels roster out answer k rules → read_text (take answer.length answer.out) ≡ steps k rules
  unfolding over
  reason_reads k rules e =
      rw (e.length_is, e.out_is, take-append_seam) (read_back k labels roster rules e.lists.labelled e.lists.known)

  -- a ticket that is read, with its lists, gets the ring exactly where no schedule exists, and 17 exactly where one does
  pub ring_or_schedule : (k : Ticket) → 2200 ≤ length out → HoldsTicket ticket k → Listed k labels roster
      → ((answer.number ≡ 0) ↔ ((ts : List ℕ) → ¬ Schedule k ts)) × ((answer.number ≡ 17) ↔ ((ts : List ℕ) × Schedule k ts))
  ring_or_schedule k l h f = ((no_schedule, ring_is), (schedule, λ s. seventeen s.0 s.1))
    where
      seventeen : (ts : List ℕ) → Schedule k ts → answer.number ≡ 17
      seventeen ts s = ap (λ (o : Outcome). o.number) (answer_possible l k h f ts s)

      no_schedule : answer.number ≡ 0 → (ts : List ℕ) → ¬ Schedule k ts
      no_schedule z ts s = omega (arith, z, seventeen ts s)

      ring_is : ((ts : List ℕ) → ¬ Schedule k ts) → answer.number ≡ 0
      ring_is n =
          ap (λ (o : Outcome). o.number) (answer_ring l k h f (λ t.
          let s = (consistent_has k).0 t in
          n s.0 s.1))

      schedule : answer.number ≡ 17 → (ts : List ℕ) × Schedule k ts
      schedule e = by (consistent k) refl
        where
          by : (b : Bool) → consistent k ≡ b → (ts : List ℕ) × Schedule k ts
          by true q = (consistent_has k).0 (rw q tt)
          by false q = absurd (omega (arith, e, ap (λ (o : Outcome). o.number) (answer_ring l k h f (λ t. subst T q t))))
