-- The first cause to refuse a device's commitment, as the code finds it: temporal's `cause` by the numbers that a kept record's arrays have for the event.
use Rattle.std.specs.Prelude.{◌≡◌, refl, Bool, true, false, not, cond, ◌||◌, ◌∷◌, ℕ, ◌≤◌, eqb}
use Rattle.std.proofs.Math.Path.{sym, ap}
use Rattle.std.proofs.Common.{◌∙◌, le-ltb, eqb-true}
use Rattle.std.proofs.Math.Dec.{ltb}
use Rattle.temporal.proofs.Lists.{T-false}
use Rattle.temporal.specs.Ticket.{Ticket, fits}
use Rattle.temporal.specs.Plan.{owner_of, count_of, no_event, is_not_own, cause, asking}
use Rattle.temporal.proofs.Causes.{owned, own_test}
use Rattle.network.specs.Stored.{at}
use Rattle.ticket.specs.Writing.{content, state_of}
use Rattle.ticket.specs.declared.Record.{Record}
use Rattle.potentials.specs.Arrays.{window_list}
use Rattle.causes.specs.Structs.{Canonical, open_of, close_of, count_of_lem}

-- by numbers: whether the windows are fit, whether the event is the device's, whether the window named leaves the one that the event has, the device's count

abbrev pub first_cause : Bool → Bool → Bool → ℕ → ℕ
first_cause fit own leaves count =
    cond (not fit) 15
    (cond (not own) 20
    (cond leaves 13
    (cond (eqb count 65535) 18
    0)))

-- a device's events are told by their owner alone
own_told : (k : Ticket) (o p : ℕ) → o ≤ 4 → is_not_own k o p ≡ not (eqb (owner_of k p) o)
own_told k o p l = by (eqb (owner_of k p) o) refl
  where
    or_true : (b : Bool) → (b || true) ≡ true
    or_true true = refl
    or_true false = refl

    by : (b : Bool) → eqb (owner_of k p) o ≡ b → is_not_own k o p ≡ not (eqb (owner_of k p) o)
    by true e = T-false (is_not_own k o p) (own_test k o p (owned k o p l (eqb-true (owner_of k p) o e))) ∙ rw e refl
    by false e = rw e (or_true (no_event k p))

-- of an event that is the device's, the owner's count is the device's
count_told : (fit leaves own : Bool) {owned named : ℕ} → (own ≡ true → owned ≡ named) → first_cause fit own leaves owned ≡ first_cause fit own leaves named
count_told fit leaves true h = λ i. first_cause fit true leaves (h refl i)
count_told fit leaves false h = refl

module _ (r : Record) (ok : Canonical r) (caller event opens closes : ℕ) (known : caller ≤ 4) where
  abbrev owner : ℕ
  owner = owner_of (content r.ticket) event

  pub cause_of : cause (state_of r) (asking caller event opens closes)
      ≡ first_cause (fits (content r.ticket) (state_of r).windows) (eqb owner caller)
      (ltb closes opens || (ltb opens (at (0 ∷ r.opens) event) || ltb (at (0 ∷ r.closes) event) closes))
      (at r.counts caller)
  unfolding cause
  cause_of =
      rw (le-ltb 4 caller known, own_told (content r.ticket) caller event known, open_of r ok event, close_of r ok event, ← count_of_lem r ok caller)
      (count_told (fits (content r.ticket) (state_of r).windows)
      (ltb closes opens || (ltb opens (at (0 ∷ r.opens) event) || ltb (at (0 ∷ r.closes) event) closes))
      (eqb owner caller) (λ e. ap (count_of (state_of r)) (eqb-true owner caller e)))

  pub cause_told : {fit own leaves : Bool} {first last count k : ℕ}
      → fits (content r.ticket) (window_list r.ticket.events r.opens r.closes) ≡ fit
      → own ≡ eqb owner caller
      → first ≡ at (0 ∷ r.opens) event → last ≡ at (0 ∷ r.closes) event
      → leaves ≡ (ltb closes opens || (ltb opens first || ltb last closes))
      → count ≡ at r.counts caller
      → k ≡ first_cause fit own leaves count → k ≡ cause (state_of r) (asking caller event opens closes)
  unfolding window_list
  cause_told f w x y o n q =
      let l = o ∙ (λ i. ltb closes opens || (ltb opens (x i) || ltb (y i) closes)) in
      q ∙ (λ i. first_cause (sym f i) (w i) (l i) (n i)) ∙ sym cause_of
