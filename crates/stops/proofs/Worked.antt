-- The laws of what specs/Worked defines.
use Rattle.std.specs.Prelude.{◌≡◌, refl, Bool, true, false, List, [], ◌↔◌, ◌⊎◌, ◌≢◌, ℕ, ◌+◌, ◌≤◌, ◌<◌, T, ℤ, pos, length, get_or}
use Rattle.std.proofs.Common.{sym, ap, subst, ◌∙◌, inl, inr, ⊎_elim, arith}
use Rattle.std.proofs.Math.Dec.{not_T}
use Rattle.temporal.proofs.Lists.{T-true, T-false, below_or_not}
use Rattle.temporal.specs.Ticket.{Ticket, events}
use Rattle.temporal.specs.Distance.{consistent}
use Rattle.temporal.proofs.Distance.{consistent_has}
use Rattle.temporal.specs.Run.{Valid}
use Rattle.temporal.proofs.TableRows.{rows_first, rows_beyond}
use Rattle.ticket.specs.Parser.{Cause, number, refused, wholly}
use Rattle.ticket.proofs.Laws.{number_some}
use Rattle.ticket.specs.Format.{read_ticket}
use Rattle.ticket.specs.RoundTrip.{Bytes}
use Rattle.ticket.proofs.RoundTrip.{written_read, answered}
use Rattle.ticket.specs.Content.{HoldsTicket}
use Rattle.closure.specs.Steps.{cell}
use Rattle.stops.specs.After.{taken, working_at, working, worked, after_reading, table_after}
use Rattle.stops.proofs.After.{after_short, after_read, worked_none, worked_some}
use Rattle.stops.specs.Meant.{Entry}
use Rattle.stops.proofs.Meant.{working_means, working_filled}
use Rattle.stops.specs.Worked.{Unworked, Worked, short, unread, impossible}

module _ (ticket : List ℕ) (s : ℕ) (out : List ℤ) where
  abbrev answer : ℕ × List ℤ
  answer = table_after ticket s out

  works : 1681 ≤ length out → (k : Ticket) → HoldsTicket ticket k → answer ≡ worked k s out
  works room k h = after_read ticket s out room ∙ ap (after_reading s out) h

  refused_is : (x : ℕ) → Unworked ticket out x → (answer ≡ (x, out)) × (x ≢ 0)
  refused_is x (short e l) = (after_short ticket s out l ∙ ap (λ (r : ℕ). (r, out)) (sym e), λ z. omega (arith, z))
  refused_is x (unread c e l q) = (
    after_read ticket s out l ∙ ap (after_reading s out) q ∙ ap (λ (r : ℕ). (r, out)) (sym e),
    λ z. omega (arith, z, number_some c),
  )
  refused_is x (impossible k e l h n) = (
    works l k h ∙ worked_none k s out (T-false (consistent k) (not_T (consistent k) (λ t. let r = (consistent_has k).0 t in n r.0 r.1))) ∙ ap (λ (r : ℕ). (r, out)) (sym e),
    λ z. omega (arith, z),
  )

  -- no cause applies
  record Unrefused (k : Ticket) : Type 0 where
    room : 1681 ≤ length out
    holds : HoldsTicket ticket k
    has : T (consistent k)

  abbrev Decision : Type 0
  Decision = ((x : ℕ) × Unworked ticket out x) ⊎ ((k : Ticket) × Unrefused k)

  decide : Decision
  decide = ⊎_elim (λ (l : length out < 1681). inl (10, short refl l)) (λ (l : 1681 ≤ length out). read l (answered read_ticket ticket)) (below_or_not (length out) 1681)
    where
      scheduled : 1681 ≤ length out → (k : Ticket) → HoldsTicket ticket k → (b : Bool) → consistent k ≡ b → Decision
      scheduled l k h true e = inr (k, record { room = l; holds = h; has = rw e tt })
      scheduled l k h false e = inl (9, impossible k refl l h (λ ts q. subst T e ((consistent_has k).1 (ts, q))))

      read : 1681 ≤ length out → ((k : Ticket) × HoldsTicket ticket k) ⊎ ((c : Cause) × (wholly read_ticket ticket ≡ refused c)) → Decision
      read l (inl r) = scheduled l r.0 r.1 (consistent r.0) refl
      read l (inr r) = inl (number r.0, unread r.0 refl l r.1)

  unrefused_is : (k : Ticket) → Unrefused k → answer ≡ (0, working k s out)
  unrefused_is k u = works u.room k u.holds ∙ worked_some k s out (T-true (consistent k) u.has)

  -- ---- the theorems

  -- the number is x and not 0 exactly where x is the number of the first cause that applies: "all refusals stay as they are"
  pub after_refusal : (x : ℕ) → Unworked ticket out x ↔ ((answer.0 ≡ x) × (x ≢ 0))
  after_refusal x = (
    λ f.
        let r = refused_is x f in
        (ap (λ (o : ℕ × List ℤ). o.0) r.0, r.1),
    λ q. by q decide,
  )
    where
      by : (answer.0 ≡ x) × (x ≢ 0) → Decision → Unworked ticket out x
      by q (inl r) = subst (Unworked ticket out) (sym (ap (λ (o : ℕ × List ℤ). o.0) (refused_is r.0 r.1).0) ∙ q.0) r.1
      by q (inr u) = absurd (q.1 (sym q.0 ∙ ap (λ (o : ℕ × List ℤ). o.0) (unrefused_is u.0 u.1)))

  -- a refusal leaves the output as it was
  pub after_leaves : answer.0 ≢ 0 → answer.1 ≡ out
  after_leaves n = ap (λ (o : ℕ × List ℤ). o.1) (refused_is answer.0 ((after_refusal answer.0).1 (refl, n))).0

  module _ (bytes : Bytes ticket) where
    entries_of : (k : Ticket) → Unrefused k → Worked ticket s out answer.1 k
    entries_of k u =
        let v : Valid k = (written_read ticket k [] bytes u.holds).1 in
        let r = (consistent_has k).0 u.has in
        let e : answer.1 ≡ working k s out = ap (λ (o : ℕ × List ℤ). o.1) (unrefused_is k u) in
        record {
          room = u.room;
          holds = u.holds;
          times = r.0;
          schedule = r.1;
          entries = λ i j li lj. subst (Entry k (taken k s) i j) (sym (ap (λ xs. cell (events k) xs i j) e ∙ rows_first (events k + 1) (working_at k s) out i j (omega arith) (omega arith))) (working_means k v u.has s i j li lj);
          beyond = λ p l. ap (λ xs. get_or xs p (pos 0)) e ∙ rows_beyond (events k + 1) (working_at k s) out p l;
          finished = λ l. e ∙ working_filled k v u.has s l out;
        }

    -- otherwise the working entries are written
    pub after_worked : answer.0 ≡ 0 → (k : Ticket) × Worked ticket s out answer.1 k
    after_worked z = by decide
      where
        by : Decision → (k : Ticket) × Worked ticket s out answer.1 k
        by (inl r) = let q = refused_is r.0 r.1 in absurd (q.1 (sym (ap (λ (o : ℕ × List ℤ). o.0) q.0) ∙ z))
        by (inr u) = (u.0, entries_of u.0 u.1)
