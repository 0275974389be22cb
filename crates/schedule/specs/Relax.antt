-- The relaxation: what one rule and one round leave, and which rules hold then.
use Rattle.std.specs.Prelude.{ℕ, ◌+◌, ◌≤◌, ◌<◌, ◌≡◌, List}
use Rattle.std.proofs.Common.{sym, subst, ⊎_elim, arith}
use Rattle.temporal.proofs.Lists.{below_or_not}
use Rattle.network.specs.Stored.{at}
use Rattle.ticket.specs.declared.Ticket.{Ticket}
use Rattle.demands.specs.Rules.{Holds}
use Rattle.schedule.specs.Schedule.{Low}
use Rattle.schedule.specs.declared.Step.{Step}
use Rattle.schedule.specs.declared.Step.TheVariants.{Kept}

-- `Kept` says that rule j held, and that nothing was raised
pub record Raised (t : Ticket) (j : ℕ) (before after : List ℕ) (r : Step) : Type 0 where
  pub same : r ≡ Kept → after ≡ before
  pub held : r ≡ Kept → Holds t 0 (at after) j

-- the rules from k on hold
abbrev pub HoldFrom : Ticket → List ℕ → ℕ → Type 0
HoldFrom t times k = (i : ℕ) → k ≤ i → i < t.rules → Holds t 0 (at times) i

-- before rule j of a round, where the rules from `kept` on held at its start: the rules from `last` to j hold, and while `last` is 0 nothing was raised
pub record Rounds (t : Ticket) (kept : ℕ) (times : List ℕ) (last j : ℕ) : Type 0 where
  pub low : Low t.events t.horizon times
  pub least : last ≤ j
  pub passed : (i : ℕ) → last ≤ i → i < j → Holds t 0 (at times) i
  pub calm : last ≡ 0 → (j ≤ kept) × HoldFrom t times kept

pub rounds_start : {t : Ticket} {kept : ℕ} {times : List ℕ} → Low t.events t.horizon times → HoldFrom t times kept → Rounds t kept times 0 0
rounds_start L h = record {
  low = L;
  least = omega arith;
  passed = λ i lo hi. absurd (omega arith);
  calm = λ e. (omega arith, h);
}

module _ {t : Ticket} {kept : ℕ} {times : List ℕ} {last j : ℕ} (R : Rounds t kept times last j) where
  -- the rule held
  pub rounds_held : {times' : List ℕ} {r : Step} → (last ≡ 0 → j ≡ kept → ⊥) → Raised t j times times' r
      → r ≡ Kept → Rounds t kept times' last (j + 1)
  rounds_held {times'} {r} more S z =
      let e = S.same z in
      subst (λ xs. Rounds t kept xs last (j + 1)) (sym e) (record {
        low = R.low;
        least = omega (arith, R.least);
        passed = λ i lo hi.
            ⊎_elim (λ (p : i < j). R.passed i lo p)
            (λ (p : j ≤ i). let q : i ≡ j = omega arith in rw q (subst (λ xs. Holds t 0 (at xs) j) e (S.held z)))
            (below_or_not i j);
        calm = λ y. (omega (arith, (R.calm y).0, more y), (R.calm y).1);
      })

  -- a time was raised
  pub rounds_raised : {times' : List ℕ} → Low t.events t.horizon times' → Rounds t kept times' (j + 1) (j + 1)
  rounds_raised L = record {
    low = L;
    least = omega arith;
    passed = λ i lo hi. absurd (omega arith);
    calm = λ e. absurd (omega arith);
  }

  -- nothing was raised as far as the rules that hold from before
  pub rounds_calm : last ≡ 0 → j ≡ kept → HoldFrom t times 0
  rounds_calm e q i lo hi =
      ⊎_elim
      (λ (p : i < j). R.passed i (omega arith) p)
      (λ (p : j ≤ i). (R.calm e).1 i (omega arith) hi)
      (below_or_not i j)

  pub rounds_done : t.rules ≤ j → HoldFrom t times last
  rounds_done l i lo hi = R.passed i lo (omega arith)
