-- What an entry means after each stop (02, change 3): the sum of the shortest path whose inner points are stops already taken, and `none` where there is
-- no such path. Definitions, and that an entry is known from its meaning. Rests on `paths`. That the entries have this meaning is proved in ShortestPaths.
use Rattle.std.specs.Prelude.{ℕ, ◌≡◌, ◌↔◌, ◌≢◌, T, ℤ}
use Rattle.std.proofs.Common.{sym, ap, ◌∙◌, subst, arith}
use Rattle.temporal.specs.Bound.{above, below}
use Rattle.temporal.specs.Ticket.{Ticket, events}
use Rattle.temporal.specs.Distance.{consistent}
use Rattle.temporal.proofs.DistanceLaws.{parts}
use Rattle.temporal.specs.Run.{Valid}
use Rattle.paths.specs.Shortest.{Taken, Shortest, Unreached}
use Rattle.paths.proofs.Shortest.{shortest_unique}
use Rattle.closure.specs.Cases.{by_eq}
use Rattle.closure.specs.Signed.{bias, lower}
use Rattle.closure.specs.Matrix.{Matrix, none, Everywhere}

-- the entry x from i to j after the first s stops: "the shortest path, where there is one, whose inner points are stops already taken"
pub record Means (k : Ticket) (s i j x : ℕ) : Type 0 where
  pub some : x ≢ none → Shortest k (Taken (events k) s) i j (lower x)
  pub nothing : x ≡ none → Unreached k (Taken (events k) s) i j

-- "every working entry"
abbrev pub ByStops : Ticket → ℕ → Matrix → Type 0
ByStops k s D = Everywhere (events k) (λ i j. Means k s i j (D i j))

-- "on a ticket with a schedule", of n events: where the entries D are its shortest paths by the first r stops, the entries E are those by the first s
abbrev pub Carried : ℕ → ℕ → Matrix → ℕ → Matrix → Type 0
Carried n r D s E = (k : Ticket) → Valid k → T (consistent k) → events k ≡ n → ByStops k r D → ByStops k s E

-- ---- laws

lower_injective : (x y : ℕ) → lower x ≡ lower y → x ≡ y
lower_injective x y e = omega (arith, parts x bias, parts y bias, ap above e, ap below e)

module _ (k : Ticket) (s i j x : ℕ) (h : Means k s i j x) where
  -- it is bias + d exactly where d is the sum of the shortest path
  pub means_shortest : (d : ℤ) → ((x ≢ none) × (lower x ≡ d)) ↔ Shortest k (Taken (events k) s) i j d
  means_shortest d = (
    λ e. subst (Shortest k (Taken (events k) s) i j) e.1 (h.some e.0),
    λ p.
        let reached : x ≢ none = λ e. h.nothing e p.rules p.path in
        (reached, shortest_unique k (Taken (events k) s) i j (lower x) d (h.some reached) p),
  )

  -- and `none` exactly where there is no such path
  pub means_none : (x ≡ none) ↔ Unreached k (Taken (events k) s) i j
  means_none = (h.nothing, λ u. by_eq x none (λ e. e) (λ n. absurd (u (h.some n).rules (h.some n).path)))

  pub means_unique : (y : ℕ) → Means k s i j y → x ≡ y
  means_unique y g =
      by_eq y none
      (λ e. means_none.1 (g.nothing e) ∙ sym e)
      (λ n. lower_injective x y ((means_shortest (lower y)).1 (g.some n)).1)
