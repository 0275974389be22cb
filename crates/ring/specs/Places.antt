-- The rules of a ticket as they are stored, by their numbers: where rule e goes from, where to, and its cost.
-- Rests on ticket's `content`, and on rings' laws of the numbers and of the costs.
use Rattle.std.specs.Prelude.{◌≡◌, ℕ, ◌+◌, ◌*◌, ◌-◌, ◌/◌, ◌≤◌, ◌<◌, pos, length, get_or, set}
use Rattle.std.proofs.Math.Path.{sym}
use Rattle.std.proofs.Common.{⊎_elim, ap, ◌∙◌, subst, arith, to_z, of_z, length-set, get_or-set_same, get_or-set_other}
use Rattle.std.specs.Int.{w32}
use Rattle.std.proofs.lemmas.Int.{to_z-of_z}
use Rattle.temporal.proofs.Lists.{below_or_not}
use Rattle.temporal.specs.Bound.{above, below, biased}
use Rattle.temporal.specs.Ticket as temporal
use Rattle.temporal.specs.Ticket.{Rule, events}
use Rattle.temporal.specs.Run.{Valid}
use Rattle.ticket.specs.Writing.{rule_in, content}
use Rattle.ticket.proofs.Content.{limits}
use Rattle.ticket.specs.declared.Ticket.{Ticket}
use Rattle.demands.specs.Cost.{bound_fits}
use Rattle.ring.specs.declared.rules.Rule.{Rule as Stored}
use Rattle.ring.specs.declared.rules.Rules.{Rules}
use Rattle.ring.specs.Stored.{no_rule, entry}
use Rattle.paths.specs.Rules.{back, out, size, rule_at, from_of, to_of, bound_of}
use Rattle.paths.proofs.Walks.{rule_points, valid_points, bound_below, bound_above}
use Rattle.paths.proofs.Structs.{written_in, back_in, out_in}
use Rattle.rings.specs.Costs.{cost}
use Rattle.rings.proofs.Costs.{cost_back, cost_out, cost_most}

-- ---- what is stored

-- the rule with a number
abbrev pub rule : Rules → ℕ → Stored
rule rs e = entry rs.list e

-- the list has its places, and the rules stored so far are the ticket's
pub record Filled (k : temporal.Ticket) (rs : Rules) : Type 0 where
  pub long : length rs.list ≡ 338
  pub from_is : (x : ℕ) → 1 ≤ x → x ≤ rs.count → (rule rs x).from ≡ from_of k x
  pub to_is : (x : ℕ) → 1 ≤ x → x ≤ rs.count → (rule rs x).to ≡ to_of k x
  pub cost_is : (x : ℕ) → 1 ≤ x → x ≤ rs.count → (rule rs x).cost ≡ cost k x

-- all rules of a valid ticket are stored
pub record Whole (k : temporal.Ticket) (rs : Rules) : Type 0 where
  pub valid : Valid k
  pub count : size k ≡ rs.count
  pub filled : Filled k rs

-- every rule goes from a point to a point
module _ (k : temporal.Ticket) (v : Valid k) (e : ℕ) where
  pub from_point : from_of k e ≤ events k
  from_point = (rule_points k (valid_points k v) e).0

  pub to_point : to_of k e ≤ 40
  to_point = omega (arith, (rule_points k (valid_points k v) e).1, v.events_limit)

-- ---- one rule more

abbrev pub stored : ℕ → ℕ → ℕ → Stored
stored f d c = record { from = f; to = d; cost = c }

module _ {k : temporal.Ticket} {rs : Rules} (next : Rules) (f d c : ℕ) (h : Filled k rs) (q : next.count ≡ rs.count + 1)
    (s : next.list ≡ set rs.list (rs.count + 1) (stored f d c)) (r : rs.count < 336) where
  same : (x : ℕ) → x ≤ rs.count → rule next x ≡ rule rs x
  same x b = ap (λ xs. entry xs x) s ∙ get_or-set_other rs.list (rs.count + 1) x (stored f d c) no_rule (λ (e : x ≡ rs.count + 1). omega arith)

  last : rule next (rs.count + 1) ≡ stored f d c
  last = ap (λ xs. entry xs (rs.count + 1)) s ∙ get_or-set_same rs.list (rs.count + 1) (stored f d c) no_rule (omega (arith, h.long))

  grows : (of : Stored → ℕ) (g : ℕ → ℕ) → of (stored f d c) ≡ g (rs.count + 1)
      → ((x : ℕ) → 1 ≤ x → x ≤ rs.count → of (rule rs x) ≡ g x) → (x : ℕ) → 1 ≤ x → x ≤ next.count → of (rule next x) ≡ g x
  grows of g e p x a b =
      ⊎_elim (λ (i : x < rs.count + 1). ap of (same x (omega arith)) ∙ p x a (omega arith))
      (λ (i : rs.count + 1 ≤ x).
      let z : x ≡ rs.count + 1 = omega arith in
      rw z (ap of last ∙ e))
      (below_or_not x (rs.count + 1))

  pub filled_more : f ≡ from_of k (rs.count + 1) → d ≡ to_of k (rs.count + 1) → c ≡ cost k (rs.count + 1) → Filled k next
  filled_more a b e = record {
    long = ap length s ∙ length-set rs.list (rs.count + 1) (stored f d c) ∙ h.long;
    from_is = grows (λ y. y.from) (from_of k) a h.from_is;
    to_is = grows (λ y. y.to) (to_of k) b h.to_is;
    cost_is = grows (λ y. y.cost) (cost k) e h.cost_is;
  }

-- ---- the rules of a ticket's struct

module _ (t : Ticket) (v : Valid (content t)) where
  -- a written rule
  module _ (j : ℕ) (l : j < t.rules) where
    in_rule : rule_at (content t) (j + 1) ≡ rule_in t j
    in_rule =
        let e : j + 1 - 1 ≡ j = omega arith in
        written_in t (j + 1) (omega arith) (omega arith) ∙ ap (rule_in t) e

    pub written_small : (get_or t.from j 0 ≤ 40) × (get_or t.to j 0 ≤ 40) × (biased (get_or t.bound j (pos 0)) ≤ 2000000)
    unfolding cost
    written_small =
        let k = content t in
        subst (λ (r : Rule). (r.from ≤ 40) × (r.to ≤ 40) × (biased r.bound ≤ 2000000)) in_rule
        (omega (arith, from_point k v (j + 1), v.events_limit), to_point k v (j + 1), cost_most k v (j + 1))

    pub filled_written : {rs : Rules} (next : Rules) → rs.count ≡ j → Filled (content t) rs → next.count ≡ rs.count + 1
        → next.list ≡ set rs.list (rs.count + 1) (stored (get_or t.from j 0) (get_or t.to j 0) (biased (get_or t.bound j (pos 0)))) → Filled (content t) next
    unfolding cost
    filled_written {rs} next e h q s =
        let m = limits t v in
        let r : rule_at (content t) (rs.count + 1) ≡ rule_in t j = rw e in_rule in
        filled_more next (get_or t.from j 0) (get_or t.to j 0) (biased (get_or t.bound j (pos 0))) h q s (omega arith)
        (sym (ap (λ (x : Rule). x.from) r)) (sym (ap (λ (x : Rule). x.to) r)) (sym (ap (λ (x : Rule). biased x.bound) r))

    pub written_bound : (above (get_or t.bound j (pos 0)) ≤ 1000000) × (below (get_or t.bound j (pos 0)) ≤ 1000000)
    written_bound =
        let e : bound_of (content t) (j + 1) ≡ get_or t.bound j (pos 0) = ap (λ (r : Rule). r.bound) in_rule in
        (subst (λ z. above z ≤ 1000000) e (bound_above (content t) v (j + 1)), subst (λ z. below z ≤ 1000000) e (bound_below (content t) v (j + 1)))

    -- its bound, read back from its bits
    pub written_signed : to_z w32 (of_z w32 (get_or t.bound j (pos 0))) ≡ get_or t.bound j (pos 0)
    written_signed =
        let b = written_bound in
        to_z-of_z w32 (get_or t.bound j (pos 0)) (bound_fits (get_or t.bound j (pos 0)) b.0 b.1)

  -- the two unwritten rules of event i
  module _ (i : ℕ) (a : 1 ≤ i) (b : i ≤ t.events) where
    back_rule : (x : ℕ) → x + 1 ≡ t.rules + 2 * i → rule_at (content t) x ≡ back i
    back_rule x q =
        let e : (x - t.rules + 1) / 2 ≡ i = omega arith in
        back_in t x (omega arith) (omega arith) (omega arith) ∙ ap back e

    out_rule : (x : ℕ) → x ≡ t.rules + 2 * i → rule_at (content t) x ≡ out t.horizon i
    out_rule x q =
        let e : (x - t.rules) / 2 ≡ i = omega arith in
        out_in t x (omega arith) (omega arith) (λ o. omega arith) ∙ ap (out t.horizon) e

    pub filled_back : {rs : Rules} (next : Rules) → rs.count + 2 ≡ t.rules + 2 * i → Filled (content t) rs → next.count ≡ rs.count + 1
        → next.list ≡ set rs.list (rs.count + 1) (stored i 0 1000000) → Filled (content t) next
    filled_back {rs} next e h q s =
        let m = limits t v in
        let r = back_rule (rs.count + 1) (omega arith) in
        filled_more next i 0 1000000 h q s (omega arith) (sym (ap (λ (x : Rule). x.from) r)) (sym (ap (λ (x : Rule). x.to) r))
        (sym (cost_back (content t) (rs.count + 1) i r))

    pub filled_out : {rs : Rules} (next : Rules) → rs.count + 1 ≡ t.rules + 2 * i → Filled (content t) rs → next.count ≡ rs.count + 1
        → next.list ≡ set rs.list (rs.count + 1) (stored 0 i (1000000 + t.horizon)) → Filled (content t) next
    filled_out {rs} next e h q s =
        let m = limits t v in
        let r = out_rule (rs.count + 1) (omega arith) in
        filled_more next 0 i (1000000 + t.horizon) h q s (omega arith) (sym (ap (λ (x : Rule). x.from) r)) (sym (ap (λ (x : Rule). x.to) r))
        (sym (cost_out (content t) (rs.count + 1) t.horizon i r))
