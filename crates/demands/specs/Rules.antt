-- The rules of a ticket in arrays, as demands on the times of nodes. Windows are fit exactly when their ends, as times of nodes, meet them.
-- Rests on temporal's Ends, with the bias of one million.
use Rattle.std.specs.Prelude.{◌≡◌, Bool, true, false, List, ◌∷◌, ℕ, ◌+◌, ◌≤◌, ◌<◌, ℤ, pos, length, get_or}
use Rattle.std.proofs.Common.{sym, ◌∙◌, arith, to_z, of_z}
use Rattle.std.specs.Int.{w32}
use Rattle.std.proofs.lemmas.Int.{to_z-of_z}
use Rattle.temporal.specs.Lists.{All}
use Rattle.temporal.proofs.Lists.{All-at, All-below, below-All}
use Rattle.temporal.specs.Bound.{AtMost, above, below, biased}
use Rattle.temporal.proofs.Bound.{signed, with_bias}
use Rattle.temporal.specs.Ticket as temporal
use Rattle.temporal.specs.Ticket.{Rule, Window, origin}
use Rattle.temporal.specs.Ends.{Ends}
use Rattle.temporal.specs.Ticket.{Lies}
use Rattle.network.specs.Lists.{differ}
use Rattle.network.specs.Stored.{at}
use Rattle.ticket.specs.declared.Ticket.{Ticket}
use Rattle.ticket.specs.Writing.{content, rule_in}
use Rattle.ticket.proofs.Content.{in_events, in_rules}
use Rattle.potentials.specs.Arrays.{no_rule, Held, Given, rule_in_lem}
use Rattle.potentials.specs.Nodes.{close_node, close_most, potential_of, potential_open, potential_node}
use Rattle.demands.specs.Cost.{bound_fits}

-- a rule that a network of n events can hold
pub record SmallRule (n from to : ℕ) (bound : ℤ) : Type 0 where
  pub from_point : from ≤ n
  pub to_point : to ≤ n
  pub high : above bound ≤ 1000000
  pub deep : below bound ≤ 1000000

-- the answer of a test
pub record Tests (r : Bool) (A : Type 0) : Type 0 where
  pub holds : r ≡ true → A
  pub fails : r ≡ false → A → ⊥

pub tests_yes : {A : Type 0} → A → Tests true A
tests_yes a = record { holds = λ _. a; fails = λ e. differ e }

pub tests_no : {A : Type 0} → (A → ⊥) → Tests false A
tests_no h = record { holds = λ e. differ (sym e); fails = λ _. h }

-- rule j holds from the node of its `from` to the close of its `to`
abbrev pub Holds : Ticket → ℕ → (ℕ → ℕ) → ℕ → Type 0
Holds t n p j = p (close_node n (at t.to j)) + 1000000 ≤ p (at t.from j) + biased (get_or t.bound j (pos 0))

abbrev pub Obeyed : Ticket → ℕ → (ℕ → ℕ) → Type 0
Obeyed t n p = (j : ℕ) → j < t.rules → Holds t n p j

-- what is read of a rule in arrays
pub given_small : {t : Ticket} → Given t → (j : ℕ) → j < t.rules → SmallRule t.events (at t.from j) (at t.to j) (get_or t.bound j (pos 0))
given_small G j l = record { from_point = G.from_point j l; to_point = G.to_point j l; high = G.high j l; deep = G.deep j l }

pub given_bound : {t : Ticket} → Given t → (j : ℕ) → j < t.rules → to_z w32 (of_z w32 (get_or t.bound j (pos 0))) ≡ get_or t.bound j (pos 0)
given_bound {t} G j l = to_z-of_z w32 (get_or t.bound j (pos 0)) (bound_fits (get_or t.bound j (pos 0)) (G.high j l) (G.deep j l))

module _ {limit : ℕ} {t : Ticket} (G : Held limit t) where
  -- a rule of the ticket, with its bound signed and biased
  pub rule_of_lem : (P : Rule → Type 0) → All P (content t).rules → (j : ℕ) → j < t.rules → P (rule_in t j)
  rule_of_lem P h j l = rw (rule_in_lem t j l) at (All-below P no_rule (content t).rules h j (omega (arith, in_rules t)))

  pub of_rules : (P : Rule → Type 0) → ((j : ℕ) → j < t.rules → P (rule_in t j)) → All P (content t).rules
  of_rules P h = below-All P no_rule (content t).rules (λ j l. let lj : j < t.rules = omega (arith, in_rules t) in rw (rule_in_lem t j lj) (h j lj))

  pub biased_rule : (j : ℕ) → j < t.rules → (a b : ℕ) → AtMost a b (get_or t.bound j (pos 0)) → b + 1000000 ≤ a + biased (get_or t.bound j (pos 0))
  biased_rule j l a b h = (with_bias a b (get_or t.bound j (pos 0)) (G.deep j l)).0 h

  pub signed_rule : (j : ℕ) → j < t.rules → (a b : ℕ) → b + 1000000 ≤ a + biased (get_or t.bound j (pos 0)) → AtMost a b (get_or t.bound j (pos 0))
  signed_rule j l a b h = (with_bias a b (get_or t.bound j (pos 0)) (G.deep j l)).1 h

  -- the same times at the nodes
  pub obeyed_same : (n : ℕ) (p q : ℕ → ℕ) → ((v : ℕ) → v ≤ n + t.events → q v ≡ p v) → Obeyed t n p → Obeyed t n q
  obeyed_same n p q e h j l = omega (
    arith,
    e (close_node n (at t.to j)) (omega (arith, close_most n (at t.to j), G.to_point j l)),
    e (at t.from j) (omega (arith, G.from_point j l)),
    h j l,
  )

  -- ---- windows

  module _ (ws : List Window) where
    pub ends_obeyed : Ends (content t) ws → Obeyed t t.events (potential_of t.events ws)
    ends_obeyed E j l =
        let n = t.events in
        let a = at t.from j in
        let b = at t.to j in
        rw (potential_node n ws b, potential_open n ws a (G.from_point j l))
        (biased_rule j l (temporal.window_of ws a).opens (temporal.window_of ws b).closes
        ((signed (temporal.window_of ws a).opens (temporal.window_of ws b).closes (get_or t.bound j (pos 0))).1
        (rule_of_lem (λ (r : Rule). (temporal.window_of ws r.to).closes + below r.bound ≤ (temporal.window_of ws r.from).opens + above r.bound) E.obeys j l)))

    pub obeyed_ends : length ws ≡ t.events → All (Lies t.horizon) ws → Obeyed t t.events (potential_of t.events ws) → Ends (content t) ws
    obeyed_ends e L O = record {
      count = e ∙ sym (in_events t);
      ordered = λ p. (lies p).0;
      inside = λ p. (lies p).1;
      obeys = of_rules (λ (r : Rule). (temporal.window_of ws r.to).closes + below r.bound ≤ (temporal.window_of ws r.from).opens + above r.bound) (λ j l.
          let n = t.events in
          let a = at t.from j in
          let b = at t.to j in
          (signed (temporal.window_of ws a).opens (temporal.window_of ws b).closes (get_or t.bound j (pos 0))).0
          (signed_rule j l (temporal.window_of ws a).opens (temporal.window_of ws b).closes
          (rw (potential_node n ws b, potential_open n ws a (G.from_point j l)) at (O j l))));
    }
      where
        lies : (p : ℕ) → Lies t.horizon (temporal.window_of ws p)
        lies = All-at (Lies t.horizon) origin (omega arith) (origin ∷ ws) (omega arith, L)
