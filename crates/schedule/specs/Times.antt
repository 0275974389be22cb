-- The times of a schedule, as a potential of the points: a schedule keeps the rules exactly when its times do. Rests on temporal's Schedule.
use Rattle.std.specs.Prelude.{◌≡◌, List, ◌∷◌, ℕ, zero, suc, ◌≤◌, ◌<◌, length, get_or}
use Rattle.std.proofs.Common.{sym, ◌∙◌, arith}
use Rattle.temporal.proofs.Lists.{All-at, below-All, length_tab, get_d_tab}
use Rattle.temporal.specs.Lists.{tab}
use Rattle.temporal.specs.Bound.{AtMost}
use Rattle.temporal.specs.Ticket.{Rule, time, Schedule}
use Rattle.network.specs.Stored.{at}
use Rattle.ticket.specs.declared.Ticket.{Ticket}
use Rattle.ticket.specs.Writing.{content}
use Rattle.ticket.proofs.Content.{in_events}
use Rattle.potentials.specs.Arrays.{Given}
use Rattle.potentials.specs.Nodes.{close_self}
use Rattle.demands.specs.Rules.{rule_of_lem, of_rules, biased_rule, signed_rule, Obeyed}

-- times of the points that keep the rules
pub record Timed (t : Ticket) (p : ℕ → ℕ) : Type 0 where
  pub origin : p 0 ≡ 0
  pub inside : (v : ℕ) → v ≤ t.events → p v ≤ t.horizon
  pub obeys : Obeyed t 0 p

-- the ticks of the events
unfoldable pub times_of : ℕ → (ℕ → ℕ) → List ℕ
times_of n p = tab n (λ i. p (suc i))

length_times : (n : ℕ) (p : ℕ → ℕ) → length (times_of n p) ≡ n
unfolding times_of
length_times n p = length_tab n (λ i. p (suc i))

tick_of : (n : ℕ) (p : ℕ → ℕ) (i : ℕ) → i < n → get_or (times_of n p) i 0 ≡ p (suc i)
unfolding times_of
tick_of n p i l = get_d_tab n (λ i. p (suc i)) 0 i l

time_of : (n : ℕ) (p : ℕ → ℕ) → p 0 ≡ 0 → (v : ℕ) → v ≤ n → time (times_of n p) v ≡ p v
time_of n p z zero l = sym z
time_of n p z (suc i) l = tick_of n p i l

module _ {t : Ticket} (G : Given t) where
  pub schedule_timed : (ts : List ℕ) → Schedule (content t) ts → Timed t (time ts)
  schedule_timed ts s = record {
    origin = omega arith;
    inside = λ v l. (All-at (λ x. x ≤ (content t).horizon) 0 (omega arith) (0 ∷ ts) (omega arith, s.inside) v);
    obeys = λ j l. rw (close_self (at t.to j))
        (biased_rule G j l (time ts (at t.from j)) (time ts (at t.to j))
        (rule_of_lem G (λ (r : Rule). AtMost (time ts r.from) (time ts r.to) r.bound) s.obeys j l));
  }

  pub timed_schedule : (p : ℕ → ℕ) → Timed t p → Schedule (content t) (times_of t.events p)
  timed_schedule p T =
      let n = t.events in
      let ts = times_of n p in
      record {
        count = length_times n p ∙ sym (in_events t);
        inside = below-All (λ x. x ≤ (content t).horizon) 0 ts (λ i l.
            let li : i < n = omega (arith, length_times n p) in
            rw (tick_of n p i li) (T.inside (suc i) li));
        obeys = of_rules G (λ (r : Rule). AtMost (time ts r.from) (time ts r.to) r.bound) (λ j l.
            let a = at t.from j in
            let b = at t.to j in
            signed_rule G j l (time ts a) (time ts b)
            (rw (time_of n p T.origin a (G.from_point j l), time_of n p T.origin b (G.to_point j l))
            (rw (close_self b) at (T.obeys j l))));
      }
