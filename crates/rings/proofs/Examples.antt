-- The laws of what specs/Examples defines.
use Rattle.std.specs.Prelude.{◌≡◌, Bool, not, ◌&&◌, ℕ, T, leb, eqb, pos, negsuc, length}
use Rattle.std.proofs.Common.{sym, T_not, leb→le}
use Rattle.std.proofs.Math.Dec.{eqb_refl}
use Rattle.std.specs.Int.Signed.{le_z, le_z_yes}
use Rattle.temporal.specs.Lists.{All, all}
use Rattle.temporal.proofs.Lists.{test-All, T-pair}
use Rattle.temporal.specs.Bound.{above, below, biased}
use Rattle.temporal.specs.Ticket.{Rule, Ticket, events}
use Rattle.temporal.specs.Run.{ValidRule, Valid}
use Rattle.temporal.specs.Examples.{minus, ticket1, ticket6, ticket7}
use Rattle.rings.specs.Order.{seek, any_upto}
use Rattle.paths.specs.Rules.{unwritten, all_rules, rule_at}
use Rattle.rings.specs.Ring.{ring}
use Rattle.rings.specs.Costs.{top, cost, via, walks}
use Rattle.rings.specs.Greedy.{through, shortest, starts, continues, rest, greedy, found}
use Rattle.rings.proofs.Greedy.{ring_found}
use Rattle.rings.specs.Examples.{Holds, examples, fewer, two}

-- ---- a valid ticket, by a test

abbrev is_valid_rule : ℕ → Rule → Bool
is_valid_rule n r = leb r.from n && (leb r.to n && (not (eqb r.from r.to) && (le_z (negsuc 999999) r.bound && le_z r.bound (pos 1000000))))

valid_rule : (n : ℕ) (r : Rule) → T (is_valid_rule n r) → ValidRule n r
valid_rule n r t =
    let a = T-pair (leb r.from n) (leb r.to n && (not (eqb r.from r.to) && (le_z (negsuc 999999) r.bound && le_z r.bound (pos 1000000)))) t in
    let b = T-pair (leb r.to n) (not (eqb r.from r.to) && (le_z (negsuc 999999) r.bound && le_z r.bound (pos 1000000))) a.1 in
    let c = T-pair (not (eqb r.from r.to)) (le_z (negsuc 999999) r.bound && le_z r.bound (pos 1000000)) b.1 in
    let d = T-pair (le_z (negsuc 999999) r.bound) (le_z r.bound (pos 1000000)) c.1 in
    record {
      from_point = leb→le r.from n a.0;
      to_point = leb→le r.to n b.0;
      differ = λ e. T_not (eqb r.from r.to) c.0 (rw e (eqb_refl r.to));
      at_least = le_z_yes d.0;
      at_most = le_z_yes d.1;
    }

valid : (k : Ticket) → T (leb k.horizon 1000000) → T (leb (events k) 40) → T (all (λ o. leb o 4) k.owners) → T (leb (length k.rules) 256)
    → T (all (is_valid_rule (events k)) k.rules) → Valid k
valid k h n o m r = record {
  horizon_limit = leb→le k.horizon 1000000 h;
  events_limit = leb→le (events k) 40 n;
  owners_known = test-All (λ x. leb x 4) (λ x t. leb→le x 4 t) k.owners o;
  rules_limit = leb→le (length k.rules) 256 m;
  rules_valid = test-All (is_valid_rule (events k)) (valid_rule (events k)) k.rules r;
}

computed : (k : Ticket) → T (leb k.horizon 1000000) → T (leb (events k) 40) → T (all (λ o. leb o 4) k.owners) → T (leb (length k.rules) 256)
    → T (all (is_valid_rule (events k)) k.rules) → ring k ≡ found k
computed k h n o m r = sym (ring_found k (valid k h n o m r))

-- ---- every row of the table is what the definitions answer

pub examples_hold : All Holds examples
unfolding found shortest through greedy rest starts continues walks via cost top seek any_upto rule_at all_rules unwritten biased above below
examples_hold = (
  computed (ticket6 (pos 0)) tt tt tt tt tt,
  (
    computed (ticket7 (minus 11)) tt tt tt tt tt,
    (
      computed ticket1 tt tt tt tt tt,
      (computed two tt tt tt tt tt, (computed fewer tt tt tt tt tt, tt)),
    ),
  ),
)
