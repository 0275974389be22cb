-- A ring that meets a point twice splits into two closed walks, one of which is a ring. So where there is a ring there is one of at most
-- n + 1 rules, and one with the fewest rules possible meets no point twice, and has no rule twice.
use Rattle.std.specs.Prelude.{◌≡◌, List, ◌∷◌, ◌++◌, ◌⊎◌, ℕ, zero, suc, ◌≤◌, ◌<◌, length}
use Rattle.std.proofs.Common.{ap, subst, inl, inr, ⊎_elim, arith, length-append}
use Rattle.temporal.specs.Lists.{All}
use Rattle.temporal.proofs.Lists.{All-join, All-parts, below_or_not}
use Rattle.temporal.specs.Ticket.{Ticket, events}
use Rattle.temporal.specs.DistanceLaws.{Points}
use Rattle.paths.specs.Rules.{from_of, Number, Walk}
use Rattle.paths.proofs.Walks.{walk_join, walk_cut, ups_join, downs_join}
use Rattle.paths.specs.Walks.{ups, downs}
use Rattle.paths.specs.Repeats.{Differ, Repeat}
use Rattle.paths.proofs.Repeats.{differ_map, repeats}
use Rattle.paths.specs.Shortest.{points}
use Rattle.paths.proofs.Shortest.{few_points}
use Rattle.rings.specs.Ring.{start_of, Ring}
use Rattle.rings.specs.Loops.{Loop}
use Rattle.rings.proofs.Loops.{ring_loop, loop_ring}

-- the inner walk, and the outer one that leaves it out
split : (k : Ticket) (a : List ℕ) (e : ℕ) (b : List ℕ) (f : ℕ) (c : List ℕ) (s : ℕ) → from_of k e ≡ from_of k f → Loop k s (a ++ ((e ∷ b) ++ (f ∷ c)))
    → Ring k (e ∷ b) ⊎ Ring k (a ++ (f ∷ c))
split k a e b f c s same l = ⊎_elim
    (λ (g : ups k (e ∷ b) < downs k (e ∷ b)). inl (loop_ring k (from_of k e) (e ∷ b) (record {
      some = omega arith;
      numbers = n₂.0;
      closed = subst (λ x. Walk k (from_of k e) (e ∷ b) x) turns (subst (λ x. Walk k x (e ∷ b) v.0) v.1.0 v.1);
      negative = g;
    })))
    (λ (g : downs k (e ∷ b) ≤ ups k (e ∷ b)). inr (loop_ring k s (a ++ (f ∷ c)) (record {
      some = omega (arith, length-append a (f ∷ c));
      numbers = All-join (Number k) a (f ∷ c) n₁.0 n₂.1;
      closed = walk_join k a (f ∷ c) s w.0 s w.1 (subst (λ x. Walk k x (f ∷ c) s) returns v.2);
      negative = omega (
        arith,
        l.negative,
        ups_join k a ((e ∷ b) ++ (f ∷ c)),
        ups_join k (e ∷ b) (f ∷ c),
        ups_join k a (f ∷ c),
        downs_join k a ((e ∷ b) ++ (f ∷ c)),
        downs_join k (e ∷ b) (f ∷ c),
        downs_join k a (f ∷ c),
      );
    })))
    (below_or_not (ups k (e ∷ b)) (downs k (e ∷ b)))
  where
    w : (x : ℕ) × Walk k s a x × Walk k x ((e ∷ b) ++ (f ∷ c)) s
    w = walk_cut k a ((e ∷ b) ++ (f ∷ c)) s s l.closed

    v : (x : ℕ) × Walk k w.0 (e ∷ b) x × Walk k x (f ∷ c) s
    v = walk_cut k (e ∷ b) (f ∷ c) w.0 s w.2

    n₁ : All (Number k) a × All (Number k) ((e ∷ b) ++ (f ∷ c))
    n₁ = All-parts (Number k) a ((e ∷ b) ++ (f ∷ c)) l.numbers

    n₂ : All (Number k) (e ∷ b) × All (Number k) (f ∷ c)
    n₂ = All-parts (Number k) (e ∷ b) (f ∷ c) n₁.1

    turns : v.0 ≡ from_of k e
    turns = omega (arith, v.2.0, same)

    returns : v.0 ≡ w.0
    returns = omega (arith, v.2.0, v.1.0, same)

-- a ring that meets a point twice is not the shortest
pub shorter : (k : Ticket) (es : List ℕ) → Ring k es → Repeat (from_of k) es → (fs : List ℕ) × Ring k fs × (length fs < length es)
shorter k es r t = ⊎_elim
    (λ (g : Ring k inner). (inner, g, size.0))
    (λ (g : Ring k outer). (outer, g, size.1))
    (split k t.front t.x t.middle t.y t.back (start_of k es) t.same (subst (Loop k (start_of k es)) t.shape (ring_loop k es r)))
  where
    inner : List ℕ
    inner = t.x ∷ t.middle

    outer : List ℕ
    outer = t.front ++ (t.y ∷ t.back)

    size : (length inner < length es) × (length outer < length es)
    size =
        let whole = ap length t.shape in
        let first = length-append t.front (inner ++ (t.y ∷ t.back)) in
        let second = length-append inner (t.y ∷ t.back) in
        (omega (arith, whole, first, second), omega (arith, whole, first, second, length-append t.front (t.y ∷ t.back)))

shorten : (k : Ticket) → Points k → (n : ℕ) (es : List ℕ) → length es ≤ n → Ring k es → (fs : List ℕ) × Ring k fs × (length fs ≤ suc (events k))
shorten k ps zero es l r = absurd (omega arith)
shorten k ps (suc n) es l r = ⊎_elim
    (λ (d : Differ (points k es)). (es, r, few_points k ps es d))
    (λ (t : Repeat (from_of k) es).
    let s = shorter k es r t in
    shorten k ps n s.0 (omega (arith, s.2)) s.1)
    (repeats (from_of k) es)

-- so one of at most n + 1 rules exists
pub short_ring : (k : Ticket) → Points k → (es : List ℕ) → Ring k es → (fs : List ℕ) × Ring k fs × (length fs ≤ suc (events k))
short_ring k ps es r = shorten k ps (length es) es (omega arith) r

-- with the fewest rules possible it meets no point twice
pub shortest_points : (k : Ticket) (es : List ℕ) → Ring k es → ((fs : List ℕ) → Ring k fs → length es ≤ length fs) → Differ (points k es)
shortest_points k es r least = ⊎_elim (λ (d : Differ (points k es)). d)
    (λ (t : Repeat (from_of k) es).
    let s = shorter k es r t in
    absurd (omega (arith, s.2, least s.0 s.1)))
    (repeats (from_of k) es)

-- and has no rule twice
pub shortest_rules : (k : Ticket) (es : List ℕ) → Ring k es → ((fs : List ℕ) → Ring k fs → length es ≤ length fs) → Differ es
shortest_rules k es r least = differ_map (from_of k) es (shortest_points k es r least)
