-- The five part totals against the whole total (02, change 8): `parts_at_least`, and `parts_equal` where no rule joins events of two devices.
use Rattle.std.specs.Prelude.{◌≡◌, refl, List, ◌∷◌, ◌≢◌, ℕ, zero, suc, ◌+◌, ◌≤◌, T, ℤ, pos, negsuc, ◌≤ℤ◌, length, get_or}
use Rattle.std.proofs.Common.{sym, ap, subst, ◌∙◌, arith, leb→le}
use Rattle.temporal.specs.Lists.{All, ◌∈◌, tab}
use Rattle.temporal.proofs.Lists.{All-∈, ∈-All, get_d_past, by_points}
use Rattle.temporal.specs.Bound.{AtMost, above, below}
use Rattle.temporal.specs.Ticket.{Rule, Ticket, events, Distinct, time, Window, origin, window_of, Lies, Fit, fits, total}
use Rattle.temporal.specs.Ends.{Ends}
use Rattle.temporal.proofs.Ends.{fits_fit, ends_fit, fit_ends}
use Rattle.temporal.specs.Distance.{consistent, distance}
use Rattle.temporal.proofs.Distance.{distance_attained}
use Rattle.temporal.specs.DistanceLaws.{Points}
use Rattle.temporal.specs.Best.{best, Sooner, Chosen}
use Rattle.temporal.proofs.Best.{best_chosen, chosen_unique}
use Rattle.temporal.proofs.FitSets.{fits_closed, consistent_fits}
use Rattle.temporal.proofs.RunHolds.{planned_chosen}
use Rattle.parts.specs.Part.{members, point, part_ticket, restrict, part_plan, part_total, part_totals, owner, Separate, sum}
use Rattle.parts.proofs.Sums.{sum_cong, sum_le, sum_same}
use Rattle.parts.proofs.Members.{Of, point_place}
use Rattle.parts.specs.Members.{place}
use Rattle.parts.proofs.PartDistance.{part_events, distances_at, part_distinct, part_consistent}
use Rattle.parts.proofs.PartFit.{at_restrict, length_restrict, fit_restrict, together, length_together, at_together, restrict_together}
use Rattle.parts.proofs.PartTotal.{sum_restrict}

-- a larger bound
bound_more : (a b : ℕ) (x y : ℤ) → b + below x ≤ a + above x → x ≤ℤ y → b + below y ≤ a + above y
unfolding above below
bound_more a b (pos m) (pos n) h l = omega (arith, leb→le m n l.le)
bound_more a b (pos m) (negsuc n) h l = absurd l.le
bound_more a b (negsuc m) (pos n) h l = omega arith
bound_more a b (negsuc m) (negsuc n) h l = omega (arith, leb→le n m l.le)

module _ (k : Ticket) (some : T (consistent k)) where
  -- a distance is at most the bound of a rule between its points
  distance_rule : (r : Rule) → r ∈ k.rules → distance k r.from r.to ≤ℤ r.bound
  distance_rule r m =
      let w = distance_attained k r.from r.to some in
      subst (λ z. z ≤ℤ r.bound) w.2 (All-∈ (λ (q : Rule). AtMost (time w.0 q.from) (time w.0 q.to) q.bound) k.rules w.1.obeys m)

  -- the part's plan is the widest fit set of the part, and of these the earliest
  pub part_chosen : (d : ℕ) → Chosen (part_ticket d k) (Fit (part_ticket d k)) (part_plan d k)
  part_chosen d = planned_chosen (part_ticket d k) (part_distinct d k) (part_consistent d k some)

  -- a part is planned at least as wide as any fit windows are at its events
  pub part_at_least : (d : ℕ) (ws : List Window) → Fit k ws → total (part_ticket d k) (restrict d k ws) ≤ part_total d k
  part_at_least d ws f = (part_chosen d).widest (restrict d k ws) (fit_restrict d k ws f)

  module _ (owned : All (λ o. o ≤ 4) k.owners) where
    abbrev whole : List Window
    whole = best k (fits k)

    whole_fit : Fit k whole
    whole_fit =
        let w = consistent_fits k some in
        fits_fit k whole (best_chosen k (fits k) (fits_closed k) w.0 w.1).allowed

    sum_whole : sum (tab 5 (λ d. total (part_ticket d k) (restrict d k whole))) ≡ total k whole
    sum_whole = sum_restrict k whole owned whole_fit.count

    -- "The five part totals sum to no less than the whole total"
    pub parts_at_least : total k (best k (fits k)) ≤ sum (part_totals k)
    parts_at_least = omega (
      arith,
      sum_whole,
      sum_le 5 (λ d. total (part_ticket d k) (restrict d k whole)) (λ d. part_total d k) (λ d l. part_at_least d whole whole_fit),
    )

    module _ (distinct : Distinct k) (points : Points k) (separate : Separate k) where
      -- ---- the windows of all parts, each event with its device's

      parts : List Window
      parts = together k (λ d. part_plan d k)

      count : (d : ℕ) → length (part_plan d k) ≡ length (members d k)
      count d = (part_chosen d).allowed.count ∙ part_events d k

      restrict_parts : (d : ℕ) → restrict d k parts ≡ part_plan d k
      unfolding parts
      restrict_parts d = restrict_together k (λ e. part_plan e k) d (count d)

      at_parts : (d p : ℕ) → Of d k p → window_of parts p ≡ window_of (part_plan d k) (place d k p)
      unfolding parts
      at_parts d p h = at_together k (λ e. part_plan e k) d p h

      length_parts : length parts ≡ events k
      unfolding parts
      length_parts = length_together k (λ e. part_plan e k)

      part_ends : (d : ℕ) → Ends (part_ticket d k) (part_plan d k)
      part_ends d = fit_ends (part_ticket d k) (part_distinct d k) (part_plan d k) (part_chosen d).allowed

      -- ---- they are fit

      lying : (p : ℕ) → Lies k.horizon (window_of parts p)
      lying = by_points (λ p. Lies k.horizon (window_of parts p)) (events k) (omega arith, omega arith)
          (λ i l.
          let d : ℕ = get_or k.owners i 0 in
          subst (Lies k.horizon) (sym (at_parts d (suc i) (l, refl))) ((part_ends d).ordered (place d k (suc i)), (part_ends d).inside (place d k (suc i))))
          (λ q l. subst (Lies k.horizon) (sym (get_d_past (origin ∷ parts) origin q (omega (arith, length_parts)))) (omega arith, omega arith))

      -- two points of one device keep their distance
      apart : (d a b : ℕ) → Of d k a → Of d k b → a ≢ b → (window_of parts b).closes + below (distance k a b) ≤ (window_of parts a).opens + above (distance k a b)
      apart d a b ha hb n =
          let x = point_place d k a ha in
          let y = point_place d k b hb in
          let h : (window_of (part_plan d k) (place d k b)).closes + below (distance k (point d k (place d k a)) (point d k (place d k b)))
          ≤ (window_of (part_plan d k) (place d k a)).opens + above (distance k (point d k (place d k a)) (point d k (place d k b))) =
          distances_at d k (λ (r : Rule). (window_of (part_plan d k) r.to).closes + below r.bound ≤ (window_of (part_plan d k) r.from).opens + above r.bound)
          (part_ends d).obeys (place d k a) (place d k b) x.0 y.0 (λ e. n (sym x.1 ∙ ap (point d k) e ∙ y.1)) in
          rw (at_parts d a ha, at_parts d b hb) (rw (x.1, y.1) at h)

      -- the points of a rule are points of one device
      device : (a b : ℕ) → a ≤ events k → b ≤ events k → (1 ≤ a → 1 ≤ b → owner k a ≡ owner k b) → (d : ℕ) × Of d k a × Of d k b
      device zero zero la lb s = (0, tt, tt)
      device zero (suc j) la lb s = (get_or k.owners j 0, tt, (lb, refl))
      device (suc i) zero la lb s = (get_or k.owners i 0, (la, refl), tt)
      device (suc i) (suc j) la lb s = (get_or k.owners j 0, (la, s (omega arith) (omega arith)), (lb, refl))

      obeyed : (r : Rule) → r ∈ k.rules → (window_of parts r.to).closes + below r.bound ≤ (window_of parts r.from).opens + above r.bound
      obeyed r m =
          let l = All-∈ (λ (q : Rule). (q.from ≤ events k) × (q.to ≤ events k)) k.rules points m in
          let s = All-∈ (λ (q : Rule). 1 ≤ q.from → 1 ≤ q.to → owner k q.from ≡ owner k q.to) k.rules separate m in
          let n = All-∈ (λ (q : Rule). q.from ≢ q.to) k.rules distinct m in
          let v = device r.from r.to l.0 l.1 s in
          bound_more (window_of parts r.from).opens (window_of parts r.to).closes (distance k r.from r.to) r.bound
          (apart v.0 r.from r.to v.1 v.2 n) (distance_rule r m)

      parts_fit : Fit k parts
      parts_fit = ends_fit k parts record {
        count = length_parts;
        ordered = λ p. (lying p).0;
        inside = λ p. (lying p).1;
        obeys = ∈-All k.rules obeyed;
      }

      -- ---- so their total is the whole total

      whole_chosen : Chosen k (Fit k) whole
      whole_chosen = planned_chosen k distinct some

      sum_parts : sum (part_totals k) ≡ total k parts
      sum_parts =
          sum_cong 5 (λ d. part_total d k) (λ d. total (part_ticket d k) (restrict d k parts)) (λ d l. ap (total (part_ticket d k)) (sym (restrict_parts d)))
          ∙ sum_restrict k parts owned length_parts

      sum_equal : sum (part_totals k) ≡ total k whole
      sum_equal = omega (arith, sum_parts, parts_at_least, whole_chosen.widest parts parts_fit)

      -- ---- and the whole plan, at a device's events, is the widest and earliest there

      same_total : (d : ℕ) → d ≤ 4 → total (part_ticket d k) (restrict d k whole) ≡ part_total d k
      same_total d l = sum_same 5 (λ e. total (part_ticket e k) (restrict e k whole)) (λ e. part_total e k)
          (λ e m. part_at_least e whole whole_fit) (sum_whole ∙ sym sum_equal) d (omega arith)

      sooner : (d : ℕ) → Sooner (restrict d k whole) (part_plan d k)
      sooner d q =
          let e : window_of (part_plan d k) q ≡ window_of parts (point d k q) = ap (λ ws. window_of ws q) (sym (restrict_parts d)) ∙ at_restrict d k parts q in
          rw (at_restrict d k whole q, e) (whole_chosen.earliest parts parts_fit (sym sum_parts ∙ sum_equal) (point d k q))

      restrict_chosen : (d : ℕ) → d ≤ 4 → Chosen (part_ticket d k) (Fit (part_ticket d k)) (restrict d k whole)
      restrict_chosen d l = record {
        allowed = fit_restrict d k whole whole_fit;
        widest = λ vs f. omega (arith, (part_chosen d).widest vs f, same_total d l);
        earliest = λ vs f e.
            let s : Sooner (part_plan d k) vs = (part_chosen d).earliest vs f (e ∙ same_total d l) in
            λ q. (omega (arith, sooner d q, s q), omega (arith, sooner d q, s q));
      }

      -- "Where no rule joins events of two devices, the sum equals it, and the part windows are the windows of the whole plan"
      pub parts_equal : (sum (part_totals k) ≡ total k (best k (fits k))) × ((d : ℕ) → d ≤ 4 → part_plan d k ≡ restrict d k (best k (fits k)))
      parts_equal = (
        sum_equal,
        λ d l. chosen_unique (part_ticket d k) (Fit (part_ticket d k)) (part_plan d k) (restrict d k whole) (part_chosen d) (restrict_chosen d l)
            (count d ∙ sym (length_restrict d k whole)),
      )
