-- The struct of a network with more rules than a ticket's arrays have room for: no code holds it. What is proved of a ticket's struct, its window network and the
-- best windows then holds of a part. Rests on `ticket`, `potentials` and `demands`.
use Rattle.std.specs.Prelude.{◌≡◌, List, map, ℕ, ◌+◌, ◌*◌, ◌≤◌, pos, length, get_or}
use Rattle.std.proofs.Common.{ap, ◌∙◌}
use Rattle.std.proofs.Math.ListN.{get_or-map}
use Rattle.temporal.specs.Lists.{All}
use Rattle.temporal.proofs.Lists.{All-below}
use Rattle.temporal.specs.Bound.{above, below}
use Rattle.temporal.specs.Ticket.{Rule}
use Rattle.network.specs.Stored.{at}
use Rattle.network.specs.Edges.{Extends, Boxes}
use Rattle.ticket.specs.declared.Ticket.{Ticket}
use Rattle.ticket.specs.Writing.{firsts, content}
use Rattle.ticket.proofs.Agree.{firsts_cong, firsts_all}
use Rattle.potentials.specs.Arrays.{no_rule, Held}
use Rattle.demands.specs.Network.{Order, Built, built_by}
use Rattle.part_network.specs.Lay.{Lays}

-- n events, and arrays as long as the rules
abbrev pub dense : (h n : ℕ) → List ℕ → List Rule → Ticket
dense h n owners rs =
    record {
      horizon = h;
      events = n;
      owners = owners;
      rules = length rs;
      from = map (λ (r : Rule). r.from) rs;
      to = map (λ (r : Rule). r.to) rs;
      bound = map (λ (r : Rule). r.bound) rs;
    }

module _ (h n : ℕ) (owners : List ℕ) (rs : List Rule) where
  from_at : (j : ℕ) → at (dense h n owners rs).from j ≡ (get_or rs j no_rule).from
  from_at j = get_or-map (λ (r : Rule). r.from) rs j no_rule

  to_at : (j : ℕ) → at (dense h n owners rs).to j ≡ (get_or rs j no_rule).to
  to_at j = get_or-map (λ (r : Rule). r.to) rs j no_rule

  bound_at : (j : ℕ) → get_or (dense h n owners rs).bound j (pos 0) ≡ (get_or rs j no_rule).bound
  bound_at j = get_or-map (λ (r : Rule). r.bound) rs j no_rule

  -- it says what it is made of
  pub dense_content : content (dense h n owners rs) ≡ record { horizon = h; owners = firsts n (at owners); rules = rs }
  dense_content = ap (λ (qs : List Rule). record { horizon = h; owners = firsts n (at owners); rules = qs })
      (firsts_cong _ _ _ (λ j l. rw (from_at j, to_at j, bound_at j)) ∙ firsts_all rs no_rule)

  -- a rule that an edge can hold
  abbrev pub Small : Rule → Type 0
  Small r = (r.from ≤ n) × (r.to ≤ n) × (below r.bound ≤ 1000000) × (above r.bound ≤ 1000000)

  pub dense_held : (limit : ℕ) → h ≤ 1000000 → n ≤ 40 → length rs ≤ limit → All Small rs → Held limit (dense h n owners rs)
  dense_held limit lh ln lr a = record {
    top = lh;
    few = ln;
    most = lr;
    from_point = λ j l. rw (from_at j) (All-below Small no_rule rs a j l).0;
    to_point = λ j l. rw (to_at j) (All-below Small no_rule rs a j l).1;
    deep = λ j l. rw (bound_at j) (All-below Small no_rule rs a j l).2;
    high = λ j l. rw (bound_at j) (All-below Small no_rule rs a j l).3;
  }

  -- boxes, order and rules, stored one after the other
  pub dense_built : {one two net : List ℕ} {low high : ℕ → ℕ} {last : ℕ} → 4 * (5 * n + length rs) ≤ length net
      → Boxes one (2 * n + 1) low high → Extends one two (4 * n) → Order two n n → Lays two net n (5 * n) rs last → Built net (dense h n owners rs) low high
  dense_built size B x O L = built_by size B x O L.extends (λ j l. rw (from_at j, to_at j, bound_at j) (L.edges j l))
