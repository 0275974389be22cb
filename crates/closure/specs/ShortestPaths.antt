-- After each stop every entry is the shortest path by the stops taken: `entries_hold`, for one stop `stop_carried`; and the distances are the shortest
-- paths: `distance_shortest`. An entry is not above a path, by Stops' triangles along it; and a path attains it, joined at the stop. Rests on `paths`.
use Prim.Native.Nat.{ℕ, zero, suc, ◌+◌, ◌*◌, ◌-◌, ◌≤◌, ◌<◌, min}
use Rattle.std.specs.Prelude.{◌≡◌, ◌≢◌, T, length}
use Rattle.std.proofs.Math.Path.{refl, sym, ap, ap₂, subst}
use Rattle.std.proofs.Common.{◌∙◌, add-one}
use mathlib.Core.List.{List, [], ◌∷◌, ◌++◌}
use Rattle.std.proofs.Math.Logic.{⊎_elim}
use Rattle.std.proofs.Math.Nat.{le-suc_iff}
use native.Mathlib.Omega.{arith}
use Rattle.temporal.proofs.Lists.{All-below, below-All}
use Rattle.temporal.specs.Bound.{above, below}
use Rattle.temporal.specs.Ticket.{Rule, Ticket, events, Schedule}
use Rattle.temporal.specs.Distance.{consistent, distance}
use Rattle.temporal.proofs.Distance.{consistent_has}
use Rattle.temporal.proofs.DistanceLaws.{inside}
use Rattle.temporal.specs.Run.{ValidRule, Valid}
use Rattle.paths.specs.Rules as all
use Rattle.paths.specs.Rules.{to_of, bound_of, Number}
use Rattle.paths.specs.Walks.{ups, downs}
use Rattle.paths.proofs.Walks.{ups_join, downs_join, sum_is, sum_least, rule_all, rule_points, valid_points, ups_most, rule_written, rule_back, rule_out}
use Rattle.paths.specs.Shortest.{Taken, Any, Path, Shortest}
use Rattle.paths.proofs.Shortest.{taken_more, path_more, path_join, shortest_all, short_path}
use Rattle.closure.specs.Cases.{by_lt}
use Rattle.closure.specs.Signed.{bias, lower, raise_parts, raise_high}
use Rattle.closure.specs.Matrix.{Matrix, none, join, relax, Everywhere}
use Rattle.closure.specs.Start.{unused, rule_at, plain, weight, ruled, first_entries, weight_cases, plain_cases, started}
use Rattle.closure.specs.Stops.{after, AboveFloors, cap_small, Working, working, working_sound, from}
use Rattle.closure.specs.Distances.{small, all_distance, sound_floors}
use Rattle.closure.specs.Meaning.{Means, ByStops, Carried, means_unique}

-- the sum of the rules, stored as an entry, is x
abbrev Costs : Ticket → List ℕ → ℕ → Type 0
Costs k es x = x + downs k es ≡ bias + ups k es

-- x is attained by a path whose inner points are among the first s stops
abbrev Attained : Ticket → ℕ → ℕ → ℕ → ℕ → Type 0
Attained k s i j x = (es : List ℕ) × Path k (Taken (events k) s) i j es × Costs k es x

-- ---- the first entries

module _ (k : Ticket) (valid : Valid k) where
  -- no entry is above a rule between its points
  Under : Rule → Type 0
  Under r = (first_entries k r.from r.to ≤ 3000000) × (first_entries k r.from r.to + below r.bound ≤ bias + above r.bound)

  start_rule : (e : ℕ) → Under (all.rule_at k e)
  unfolding Under above below
  start_rule e =
      let st = started k valid in
      let few = valid.horizon_limit in
      rule_all Under k
      (below-All Under unused k.rules (λ d l.
      let c = (rule_at k.rules d).bound in
      let r = All-below (ValidRule (events k)) unused k.rules valid.rules_valid d l in
      let low = st.rules d l in
      omega (arith, low, raise_high c r.at_least r.at_most, raise_parts c r.at_least)))
      (omega (arith, st.diagonal 0 (omega arith)))
      (λ i a b. (omega (arith, st.origin i b), omega (arith, st.horizon i b)))
      e

  -- and each is attained by a rule, or by none from a point to itself
  single : (e i j : ℕ) (r : Rule) (x : ℕ) → Number k e → all.rule_at k e ≡ r → i ≡ r.from → j ≡ r.to → x + below r.bound ≡ bias + above r.bound
      → Attained k 0 i j x
  unfolding ups downs
  single e i j r x number same p q c = (
    e ∷ [],
    record { numbers = (number, tt); leads = (p ∙ sym (ap (λ (y : Rule). y.from) same), ap (λ (y : Rule). y.to) same ∙ sym q); by = tt },
    omega (arith, c, ap (λ (y : Rule). below y.bound) same, ap (λ (y : Rule). above y.bound) same),
  )

  plain_attained : Everywhere (events k) (λ i j. plain k.horizon i j < none → Attained k 0 i j (plain k.horizon i j))
  unfolding ups downs above below
  plain_attained i j li lj l =
      let x = plain k.horizon i j in
      plain_cases k.horizon i j
      (λ e q. ([], record { numbers = tt; leads = e; by = tt }, omega (arith, q)))
      (λ a e q.
      let late : 1 ≤ i = by_lt 0 i (λ g. g) (λ g. absurd (a (omega arith))) in
      single (length k.rules + 2 * i - 1) i j (all.back i) x (omega arith) (rule_back k i late li) refl e (omega (arith, q)))
      (λ a e q.
      let late : 1 ≤ j = by_lt 0 j (λ g. g) (λ g. absurd (a (omega arith))) in
      single (length k.rules + 2 * j) i j (all.out k.horizon j) x (omega arith) (rule_out k j late lj) e refl (omega (arith, q)))
      (λ a q. absurd (omega (arith, q)))

  ruled_attained : (e : ℕ) → e ≤ length k.rules
      → Everywhere (events k) (λ i j. ruled k.horizon k.rules e i j < none → Attained k 0 i j (ruled k.horizon k.rules e i j))
  unfolding ruled
  ruled_attained zero le i j li lj l = plain_attained i j li lj l
  ruled_attained (suc e) le i j li lj l =
      let r = rule_at k.rules e in
      let old = ruled k.horizon k.rules e i j in
      by_lt (weight r i j) old
      (λ g. weight_cases r i j
      (λ p q w.
      let ok = All-below (ValidRule (events k)) unused k.rules valid.rules_valid e le in
      single (suc e) i j r (min old (weight r i j)) (omega arith) (rule_written k e le) p q (omega (arith, w, raise_parts r.bound ok.at_least)))
      (λ w. absurd (omega (arith, w))))
      (λ g.
      let same : old ≡ min old (weight r i j) = omega arith in
      subst (Attained k 0 i j) same (ruled_attained e (omega arith) i j li lj (omega arith)))

  -- ---- the stops

  module _ (ts : List ℕ) (schedule : Schedule k ts) where
    -- no entry falls below its floor
    kept : (s : ℕ) → s ≤ events k + 1 → AboveFloors (events k) (first_entries k) s
    unfolding after
    kept zero l r lr = let same : r ≡ 0 = omega arith in rw same (started k valid).floors
    kept (suc s) l r lr =
        ⊎_elim
        (λ (q : r ≤ s). kept s (omega arith) r q)
        (λ (q : r ≡ suc s). rw q (sound_floors k valid ts schedule (after (events k) (first_entries k) (suc s)) (working_sound k valid s (omega arith) (kept s (omega arith)))))
        (le-suc_iff.0 lr)

    entry_working : (s : ℕ) → s ≤ events k + 1 → Working k (first_entries k) s (after (events k) (first_entries k) s)
    entry_working s l = working k valid s l (kept s l)

    -- no entry is above a path by stops taken
    entry_least : (s : ℕ) → s ≤ events k + 1 → (es : List ℕ) (i j : ℕ) → i ≤ events k → j ≤ events k → Path k (Taken (events k) s) i j es
        → (after (events k) (first_entries k) s i j < none) × (after (events k) (first_entries k) s i j + downs k es ≤ bias + ups k es)
    unfolding ups downs Under
    entry_least s l [] i j li lj p =
        let h = (entry_working s l).diagonal i li in
        let same = ap (after (events k) (first_entries k) s i) p.leads in
        omega (arith, h, same)
    entry_least s l (e ∷ []) i j li lj p =
        let h = (entry_working s l).below i j li lj in
        let same = ap₂ (first_entries k) p.leads.0 (sym p.leads.1) in
        omega (arith, h, start_rule e, same)
    entry_least s l (e ∷ f ∷ es) i j li lj p =
        let w = entry_working s l in
        let q = to_of k e in
        let lq = (rule_points k (valid_points k valid) e).1 in
        let h = w.below i q li lq in
        let same = ap (λ x. first_entries k x q) p.leads.0 in
        let rest = entry_least s l (f ∷ es) q j lq lj (record { numbers = p.numbers.1; leads = p.leads.1; by = p.by.1 }) in
        let few = valid.events_limit in
        let near : (after (events k) (first_entries k) s i q ≤ 3000000) × (after (events k) (first_entries k) s i q + below (bound_of k e) ≤ bias + above (bound_of k e)) =
        omega (arith, h, start_rule e, same) in
        let tri = w.triangle q lq p.by.0.1 i j li lj (omega arith) rest.0 in
        omega (arith, tri, near, rest, w.high q j lq lj rest.0, cap_small s (omega arith))

    -- and each is attained by one
    entry_attained : (s : ℕ) → s ≤ events k + 1
        → Everywhere (events k) (λ i j. after (events k) (first_entries k) s i j < none → Attained k s i j (after (events k) (first_entries k) s i j))
    unfolding after
    entry_attained zero l i j li lj low = ruled_attained (length k.rules) (omega arith) i j li lj low
    entry_attained (suc s) l i j li lj low =
        let n = events k in
        let few = valid.events_limit in
        let D = after n (first_entries k) s in
        let m = n - s in
        let lm : m ≤ n = omega arith in
        let more = path_more k (Taken n s) (Taken n (suc s)) (taken_more n s) in
        ⊎_elim
        (λ e.
        let a = entry_attained s (omega arith) i j li lj (omega (arith, e)) in
        (a.0, more i j a.0 a.1, omega (arith, a.2, e)))
        (λ t.
        let a = entry_attained s (omega arith) i m li lm t.first in
        let b = entry_attained s (omega arith) m j lm lj t.second in (
          a.0 ++ b.0,
          path_join k (Taken n (suc s)) i m j a.0 b.0 (lm, omega arith) (more i m a.0 a.1) (more m j b.0 b.1),
          omega (arith, t.total, a.2, b.2, ups_join k a.0 b.0, downs_join k a.0 b.0),
        ))
        (from k (first_entries k) s (omega arith) (omega arith) D (entry_working s (omega arith)) i j li lj)

    -- a path of at most n + 1 rules is there too, so no entry is above a million for each of them
    entry_small : (s : ℕ) → s ≤ events k + 1 → Everywhere (events k) (λ i j. after (events k) (first_entries k) s i j < none → after (events k) (first_entries k) s i j ≤ 43000000)
    entry_small s l i j li lj low =
        let a = entry_attained s l i j li lj low in
        let p = short_path k (valid_points k valid) (Taken (events k) s) i j a.0 a.1 in
        omega (arith, (entry_least s l p.0 i j li lj p.1).1, ups_most k valid p.0, p.2, valid.events_limit)

    entries : (s : ℕ) → s ≤ events k + 1 → ByStops k s (after (events k) (first_entries k) s)
    entries s l i j li lj =
        let x = after (events k) (first_entries k) s i j in
        let top = (entry_working s l).top i j li lj in
        record {
          some = λ n.
              let low : x < none = by_lt x none (λ g. g) (λ g. absurd (n (omega arith))) in
              let a = entry_attained s l i j li lj low in
              record {
                rules = a.0;
                path = a.1;
                total = sum_is k a.0 bias x a.2;
                least = λ es p. sum_least k es bias x (entry_least s l es i j li lj p).1;
              };
          nothing = λ e es p. omega (arith, e, (entry_least s l es i j li lj p).0);
        }

  module _ (t : T (consistent k)) where
    ts : List ℕ
    ts = ((consistent_has k).0 t).0

    schedule : Schedule k ts
    unfolding ts
    schedule = ((consistent_has k).0 t).1

    -- on a ticket with a schedule, after each stop every working entry is the shortest path by the stops taken
    pub entries_hold : (s : ℕ) → s ≤ events k + 1 → ByStops k s (after (events k) (first_entries k) s)
    entries_hold = entries ts schedule

    -- from a point to itself they are 0
    pub entries_self : (s : ℕ) → s ≤ events k + 1 → (i : ℕ) → i ≤ events k → after (events k) (first_entries k) s i i ≡ bias
    entries_self s l = (entry_working ts schedule s l).diagonal

    -- none of them is below its floor, nor below minus the horizon, nor, but for `none`, above 41 millions
    pub entries_kept : (s : ℕ) → s ≤ events k + 1 → AboveFloors (events k) (first_entries k) s
    entries_kept = kept ts schedule

    pub entries_low : (s : ℕ) → s ≤ events k + 1 → Everywhere (events k) (λ i j. bias ≤ k.horizon + after (events k) (first_entries k) s i j)
    entries_low s l i j li lj = omega (arith, (entry_working ts schedule s l).sound ts schedule i j li lj, inside k ts schedule i)

    pub entries_small : (s : ℕ) → s ≤ events k + 1 → Everywhere (events k) (λ i j. after (events k) (first_entries k) s i j ≢ none → after (events k) (first_entries k) s i j ≤ 43000000)
    entries_small s l i j li lj n =
        let top = (entry_working ts schedule s l).top i j li lj in
        entry_small ts schedule s l i j li lj (by_lt (after (events k) (first_entries k) s i j) none (λ g. g) (λ g. absurd (n (omega arith))))

    -- entries with this meaning are those
    same_entries : (s : ℕ) → s ≤ events k + 1 → (D : Matrix) → ByStops k s D → Everywhere (events k) (λ i j. D i j ≡ after (events k) (first_entries k) s i j)
    same_entries s l D h i j li lj = means_unique k s i j (D i j) (h i j li lj) (after (events k) (first_entries k) s i j) (entries_hold s l i j li lj)

    -- before the first stop
    pub first_holds : (D : Matrix) → Everywhere (events k) (λ i j. D i j ≡ first_entries k i j) → ByStops k 0 D
    unfolding after
    first_holds D same i j li lj = subst (Means k 0 i j) (sym (same i j li lj)) (entries_hold 0 (omega arith) i j li lj)

    -- one stop more
    next_holds : (s : ℕ) → s ≤ events k → (D E : Matrix) → Everywhere (events k) (λ i j. E i j ≡ relax D (events k - s) i j) → ByStops k s D → ByStops k (suc s) E
    unfolding after
    next_holds s l D E next h i j li lj =
        let m = events k - s in
        let lm : m ≤ events k = omega arith in
        let same = same_entries s (omega arith) D h in
        let e : E i j ≡ after (events k) (first_entries k) (suc s) i j = next i j li lj ∙ ap₂ min (same i j li lj) (ap₂ join (same i m li lm) (same m j lm lj)) in
        subst (Means k (suc s) i j) (sym e) (entries_hold (suc s) (omega arith) i j li lj)

    -- the finished entry is the distance,
    pub entries_distance : Everywhere (events k) (λ i j.
        (after (events k) (first_entries k) (events k + 1) i j ≢ none) × (distance k i j ≡ lower (after (events k) (first_entries k) (events k + 1) i j)))
    entries_distance i j li lj =
        let D = after (events k) (first_entries k) (events k + 1) in
        let w = entry_working ts schedule (events k + 1) (omega arith) in
        let near = small k valid D w i j li lj in
        let v = valid.horizon_limit in
        (λ e. omega arith, all_distance k valid D w i j li lj)

    -- and the shortest path: "D(i, j) is the shortest path from i to j"
    pub distance_shortest : Everywhere (events k) (λ i j. Shortest k Any i j (distance k i j))
    distance_shortest i j li lj =
        let d = entries_distance i j li lj in
        shortest_all k (valid_points k valid) i j (distance k i j)
        (subst (Shortest k (Taken (events k) (events k + 1)) i j) (sym d.1) ((entries_hold (events k + 1) (omega arith) i j li lj).some d.0))

-- the stop p, which comes after n - p others
pub stop_carried : (n p : ℕ) → p ≤ n → (D E : Matrix) → Everywhere n (λ i j. E i j ≡ relax D p i j) → Carried n (n - p) D (n - p + 1) E
stop_carried n p l D E next k valid t e h =
    let same : events k - (n - p) ≡ p = omega arith in
    rw (add-one (n - p)) (next_holds k valid t (n - p) (omega arith) D E (λ i j li lj. rw same (next i j (omega arith) (omega arith))) h)
