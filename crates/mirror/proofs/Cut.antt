-- The laws of what specs/Cut defines.
use Rattle.std.specs.Prelude.{◌≡◌, refl, Bool, true, false, not, cond, List, ◌∷◌, ◌≢◌, ◌↔◌, ℕ, zero, suc, ◌+◌, ◌≤◌, ◌<◌, min, T, leb, ℤ, pos, negsuc, ◌+ℤ◌, ◌-ℤ◌, ◌≤ℤ◌, length}
use Rattle.std.proofs.Common.{sym, ap, subst, ◌∙◌, arith, leb→le, le→leb}
use Rattle.std.proofs.Math.Dec.{nleb→lt}
use Rattle.std.proofs.lemmas.List.{length-map}
use Rattle.temporal.specs.Lists.{All}
use Rattle.temporal.proofs.Lists.{All-map, All-map₂, map-All, All-mapped, All-at}
use Rattle.temporal.specs.Bound.{AtMost, above, below}
use Rattle.temporal.proofs.Bound.{signed}
use Rattle.temporal.specs.Ticket.{Rule, Ticket, events, time, Schedule, Window, Fit, fits}
use Rattle.temporal.proofs.Ends.{fits_fit, fit_fits}
use Rattle.temporal.specs.Best.{best, best_latest, Chosen}
use Rattle.temporal.proofs.Best.{chosen_best, chosen_under}
use Rattle.temporal.specs.Distance.{consistent}
use Rattle.temporal.specs.Plan.{refused, accepted, planned, plan, planned_latest, plan_latest}
use Rattle.temporal.proofs.FitSets.{fits_closed}
use Rattle.temporal.specs.Run.{ValidRule, Valid}
use Rattle.temporal.proofs.RunHolds.{planned_chosen}
use Rattle.mirror.specs.Mirror.{mirror_bound, mirror_rule, mirror, mirror_windows, ProperRule, Proper}
use Rattle.mirror.proofs.Mirror.{proper_distinct, proper_mirror, consistent_same}
use Rattle.mirror.proofs.Mirror.{signs_plus, signs_minus, consistent_mirror}
use Rattle.mirror.proofs.LatestMirror.{latest_mirror}
use Rattle.mirror.specs.Cut.{Possible, cut, cut_bound, cut_mirror, cut_mirror_bound, cut_rule, minℤ, turned_back}

pub length_cut_mirror : (k : Ticket) → length (cut_mirror k).rules ≡ length k.rules
length_cut_mirror k = length-map (mirror k).rules (cut_rule k.horizon) ∙ length-map k.rules (mirror_rule k.horizon)

-- ---- signs

-- one of the two is 0
pub signs_one : (c : ℤ) → min (above c) (below c) ≡ 0
unfolding above below
signs_one (pos n) = omega arith
signs_one (negsuc n) = omega arith

signs_min : (c : ℤ) (h : ℕ) → (above (minℤ c (pos h)) ≡ min (above c) h) × (below (minℤ c (pos h)) ≡ below c)
unfolding above below
signs_min (pos n) h = by (leb n h) (λ t. leb→le n h t) (λ t. nleb→lt n h t)
  where
    by : (b : Bool) → (T b → n ≤ h) → (T (not b) → h < n) → (above (cond b (pos n) (pos h)) ≡ min n h) × (below (cond b (pos n) (pos h)) ≡ 0)
    by true y m = (omega (arith, y tt), refl)
    by false y m = (omega (arith, m tt), refl)
signs_min (negsuc n) h = (omega arith, refl)

pub signs_low : (c : ℤ) → (negsuc 999999 ≤ℤ c) ↔ (below c ≤ 1000000)
unfolding below
signs_low (pos n) = (λ h. omega arith, λ h. record { le = tt })
signs_low (negsuc n) = (λ h. omega (arith, leb→le n 999999 h.le), λ h. record { le = le→leb n 999999 (omega arith) })

pub signs_high : (c : ℤ) → (c ≤ℤ pos 1000000) ↔ (above c ≤ 1000000)
unfolding above
signs_high (pos n) = (λ h. leb→le n 1000000 h.le, λ h. record { le = le→leb n 1000000 h })
signs_high (negsuc n) = (λ h. omega arith, λ h. record { le = tt })

-- ---- the cut changes neither schedules nor fit sets

time_inside : (h : ℕ) (ts : List ℕ) → All (λ t. t ≤ h) ts → (p : ℕ) → time ts p ≤ h
time_inside h ts a p = All-at (λ t. t ≤ h) 0 (omega arith) (0 ∷ ts) (omega arith, a) p

cut_same : (h p : ℕ) (c : ℤ) (x y : ℕ) → y ≤ h → (y + below c ≤ x + above c) ↔ (y + below (cut_bound h p c) ≤ x + above (cut_bound h p c))
unfolding cut_bound
cut_same h zero c x y l = (λ a. omega (arith, signs_min c h, signs_one c), λ a. omega (arith, signs_min c h, signs_one c))
cut_same h (suc i) c x y l = (λ a. a, λ a. a)

pub schedule_cut : (k : Ticket) (ts : List ℕ) → Schedule k ts ↔ Schedule (cut k) ts
schedule_cut k ts = (there, back)
  where
    h : ℕ
    h = k.horizon

    Holds : Rule → Type 0
    Holds r = AtMost (time ts r.from) (time ts r.to) r.bound

    there : Schedule k ts → Schedule (cut k) ts
    there s = record {
      count = s.count;
      inside = s.inside;
      obeys = map-All Holds (cut_rule h) k.rules (All-map (λ r a.
          (signed (time ts r.from) (time ts r.to) (cut_bound h r.from r.bound)).1
          ((cut_same h r.from r.bound (time ts r.from) (time ts r.to) (time_inside h ts s.inside r.to)).0
          ((signed (time ts r.from) (time ts r.to) r.bound).0 a))) k.rules s.obeys);
    }

    back : Schedule (cut k) ts → Schedule k ts
    back s = record {
      count = s.count;
      inside = s.inside;
      obeys = All-map (λ r a.
          (signed (time ts r.from) (time ts r.to) r.bound).1
          ((cut_same h r.from r.bound (time ts r.from) (time ts r.to) (time_inside h ts s.inside r.to)).1
          ((signed (time ts r.from) (time ts r.to) (cut_bound h r.from r.bound)).0 a))) k.rules (All-mapped Holds (cut_rule h) k.rules s.obeys);
    }

-- so the fit sets, which are told by schedules, are the same too
pub fit_cut : (k : Ticket) (ws : List Window) → Fit k ws ↔ Fit (cut k) ws
fit_cut k ws = (
  λ f. record { count = f.count; ordered = f.ordered; every = λ ts c. (schedule_cut k ts).0 (f.every ts c) },
  λ f. record { count = f.count; ordered = f.ordered; every = λ ts c. (schedule_cut k ts).1 (f.every ts c) },
)

pub consistent_cut : (k : Ticket) → consistent (cut k) ≡ consistent k
consistent_cut k = consistent_same (cut k) k (λ ts s. (ts, (schedule_cut k ts).1 s)) (λ ts s. (ts, (schedule_cut k ts).0 s))

proper_cut : (k : Ticket) → Proper k → Proper (cut k)
proper_cut k p = map-All (ProperRule (events k)) (cut_rule k.horizon) k.rules p

-- so the earliest windows are the same
pub best_cut : (k : Ticket) → Proper k → T (consistent k) → best (cut k) (fits (cut k)) ≡ best k (fits k)
best_cut k p t =
    let ws : List Window = best k (fits k) in
    let c = planned_chosen k (proper_distinct k p) t in
    let d : Chosen (cut k) (Fit (cut k)) ws = record {
      allowed = (fit_cut k ws).0 c.allowed;
      widest = λ vs f. c.widest vs ((fit_cut k vs).1 f);
      earliest = λ vs f e. c.earliest vs ((fit_cut k vs).1 f) e;
    } in
    sym (chosen_best (cut k) (fits (cut k)) (fits_closed (cut k)) ws
    (chosen_under (cut k) (Fit (cut k)) (λ vs. T (fits (cut k) vs)) (fit_fits (cut k) (proper_distinct (cut k) (proper_cut k p))) (fits_fit (cut k)) ws d))

-- ---- the cut mirror

pub consistent_cut_mirror : (k : Ticket) → Proper k → consistent (cut_mirror k) ≡ consistent k
consistent_cut_mirror k p = consistent_cut (mirror k) ∙ consistent_mirror k p

pub best_cut_mirror : (k : Ticket) → Proper k → T (consistent k) → best (cut_mirror k) (fits (cut_mirror k)) ≡ best (mirror k) (fits (mirror k))
best_cut_mirror k p t = best_cut (mirror k) (proper_mirror k p) (subst T (sym (consistent_mirror k p)) t)

pub latest_cut_mirror : (k : Ticket) → Proper k → T (consistent k) → best_latest k (fits k) ≡ mirror_windows k.horizon (best (cut_mirror k) (fits (cut_mirror k)))
latest_cut_mirror k p t = latest_mirror k p t ∙ ap (mirror_windows k.horizon) (sym (best_cut_mirror k p t))

-- planning the latest plan is planning of the cut mirror, turned back
pub plan_latest_cut_mirror : (k : Ticket) → Proper k → plan_latest k ≡ turned_back k (plan (cut_mirror k))
unfolding plan_latest plan
plan_latest_cut_mirror k p = by (consistent k) (consistent (cut_mirror k)) refl (consistent_cut_mirror k p)
  where
    by : (b d : Bool) → consistent k ≡ b → d ≡ consistent k
        → cond b (accepted (planned_latest k)) (refused 9) ≡ turned_back k (cond d (accepted (planned (cut_mirror k))) (refused 9))
    by true true e f = rw (latest_cut_mirror k p (subst T (sym e) tt)) refl
    by true false e f = absurd (subst T (sym (f ∙ e)) tt)
    by false true e f = absurd (subst T (f ∙ e) tt)
    by false false e f = refl

-- ---- it is a ticket again

pub valid_proper : (k : Ticket) → Valid k → Proper k
valid_proper k v = All-map (λ r h. (h.from_point, h.to_point, h.differ)) k.rules v.rules_valid

bound_small : (h i j : ℕ) (c : ℤ) → h ≤ 1000000 → i ≢ j → (i ≡ 0 → below c ≡ 0) → (j ≡ 0 → below c ≤ h) → above c ≤ 1000000 → below c ≤ 1000000
    → (above (cut_mirror_bound h i j c) ≤ 1000000) × (below (cut_mirror_bound h i j c) ≤ 1000000)
unfolding cut_bound mirror_bound
bound_small h zero zero c lim d p q a b = absurd (d refl)
bound_small h zero (suc j) c lim d p q a b =
    (omega (arith, signs_minus c h, signs_one (c -ℤ pos h)), omega (arith, signs_minus c h, signs_one (c -ℤ pos h), p refl))
bound_small h (suc i) zero c lim d p q a b =
    let m = signs_min (c +ℤ pos h) h in
    (omega (arith, m.0), omega (arith, m.1, signs_plus c h, signs_one (c +ℤ pos h), q refl))
bound_small h (suc i) (suc j) c lim d p q a b = (a, b)

pub cut_mirror_valid : (k : Ticket) → Valid k → All (Possible k.horizon) k.rules → Valid (cut_mirror k)
cut_mirror_valid k v possible = record {
  horizon_limit = v.horizon_limit;
  events_limit = v.events_limit;
  owners_known = v.owners_known;
  rules_limit = subst (λ n. n ≤ 256) (sym (length_cut_mirror k)) v.rules_limit;
  rules_valid = map-All (ValidRule (events k)) (cut_rule h) (mirror k).rules (map-All (λ r. ValidRule (events k) (cut_rule h r)) (mirror_rule h) k.rules
      (All-map₂ valid k.rules v.rules_valid possible));
}
  where
    h : ℕ
    h = k.horizon

    valid : (r : Rule) → ValidRule (events k) r → Possible h r → ValidRule (events k) (cut_rule h (mirror_rule h r))
    valid r q p =
        let b = bound_small h r.from r.to r.bound v.horizon_limit q.differ p.0 p.1
        ((signs_high r.bound).0 q.at_most) ((signs_low r.bound).0 q.at_least) in
        record {
          from_point = q.to_point;
          to_point = q.from_point;
          differ = λ e. q.differ (sym e);
          at_least = (signs_low (cut_rule h (mirror_rule h r)).bound).1 b.1;
          at_most = (signs_high (cut_rule h (mirror_rule h r)).bound).1 b.0;
        }

pub schedule_possible : (k : Ticket) (ts : List ℕ) → Schedule k ts → All (Possible k.horizon) k.rules
schedule_possible k ts s = All-map possible k.rules s.obeys
  where
    possible : (r : Rule) → AtMost (time ts r.from) (time ts r.to) r.bound → Possible k.horizon r
    possible r a =
        let l = (signed (time ts r.from) (time ts r.to) r.bound).0 a in (
          λ z. omega (arith, l, signs_one r.bound, ap (time ts) z),
          λ z. omega (arith, l, signs_one r.bound, time_inside k.horizon ts s.inside r.from),
        )
