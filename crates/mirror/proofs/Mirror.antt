-- The laws of what specs/Mirror defines.
use Rattle.std.specs.Prelude.{◌≡◌, refl, Bool, true, false, not, cond, List, [], ◌∷◌, map, ◌↔◌, ℕ, zero, suc, ◌+◌, ◌*◌, ◌-◌, ◌≤◌, ◌<◌, T, ltb, ℤ, pos, negsuc, ◌+ℤ◌, ◌-ℤ◌, length}
use Rattle.std.proofs.Common.{sym, ap₂, subst, subst₂, ◌∙◌, arith, ltb→lt, nltb→le}
use Rattle.std.proofs.Math.IntN.{sub_ℕ, +ℤ-neg_ℤ_cancel, -ℤ-+ℤ_cancel}
use Rattle.std.proofs.lemmas.List.{length-map}
use Rattle.temporal.specs.Lists.{All}
use Rattle.temporal.proofs.Lists.{All-map, All-map₂, map-All, All-at, at-All, ∈-All}
use Rattle.temporal.specs.Bound.{AtMost, above, below}
use Rattle.temporal.proofs.Bound.{signed}
use Rattle.temporal.specs.Ticket.{Rule, Ticket, events, Distinct, time, Schedule, Window, origin, window_of, Lies, Fit, weight, total_of}
use Rattle.temporal.specs.Ends.{Ends}
use Rattle.temporal.proofs.Ends.{ends_fit, fit_ends}
use Rattle.temporal.specs.Distance.{consistent}
use Rattle.temporal.proofs.Distance.{consistent_has}
use Rattle.mirror.specs.Mirror.{Proper, ProperRule, mirror, mirror_bound, mirror_rule, mirror_ticks, mirror_window, mirror_windows}

pub proper_distinct : (k : Ticket) → Proper k → Distinct k
proper_distinct k p = All-map (λ r h. h.2) k.rules p

pub proper_mirror : (k : Ticket) → Proper k → Proper (mirror k)
proper_mirror k p = map-All (ProperRule (events k)) (mirror_rule k.horizon) k.rules
    (All-map (λ r h. (h.1, h.0, λ e. h.2 (sym e))) k.rules p)

-- ---- mirroring twice

map_twice : {A : Type 0} (P : A → Type 0) (f : A → A) → ((x : A) → P x → f (f x) ≡ x) → (xs : List A) → All P xs → map f (map f xs) ≡ xs
map_twice P f back [] h = refl
map_twice P f back (x ∷ xs) h = ap₂ ◌∷◌ (back x h.0) (map_twice P f back xs h.1)

bound_twice : (h i j : ℕ) (c : ℤ) → mirror_bound h j i (mirror_bound h i j c) ≡ c
unfolding mirror_bound
bound_twice h zero zero c = refl
bound_twice h zero (suc j) c = -ℤ-+ℤ_cancel c (pos h)
bound_twice h (suc i) zero c = +ℤ-neg_ℤ_cancel c (pos h)
bound_twice h (suc i) (suc j) c = refl

pub rule_twice : (h : ℕ) (r : Rule) → mirror_rule h (mirror_rule h r) ≡ r
rule_twice h r = λ i. record { from = r.from; to = r.to; bound = bound_twice h r.from r.to r.bound i }

pub mirror_twice : (k : Ticket) → mirror (mirror k) ≡ k
mirror_twice k =
    let e : map (mirror_rule k.horizon) (map (mirror_rule k.horizon) k.rules) ≡ k.rules =
    map_twice (λ r. Unit {0}) (mirror_rule k.horizon) (λ r u. rule_twice k.horizon r) k.rules (∈-All k.rules (λ r m. tt)) in
    λ i. record { horizon = k.horizon; owners = k.owners; rules = e i }

pub ticks_twice : (h : ℕ) (ts : List ℕ) → All (λ t. t ≤ h) ts → mirror_ticks h (mirror_ticks h ts) ≡ ts
ticks_twice h ts a = map_twice (λ t. t ≤ h) (λ t. h - t) (λ t (l : t ≤ h). omega arith) ts a

pub window_twice : (h : ℕ) (w : Window) → Lies h w → mirror_window h (mirror_window h w) ≡ w
window_twice h w l =
    let o : h - (h - w.opens) ≡ w.opens = omega arith in
    let c : h - (h - w.closes) ≡ w.closes = omega arith in
    λ i. record { opens = o i; closes = c i }

pub windows_twice : (h : ℕ) (ws : List Window) → All (Lies h) ws → mirror_windows h (mirror_windows h ws) ≡ ws
windows_twice h ws a = map_twice (Lies h) (mirror_window h) (window_twice h) ws a

-- ---- a signed sum, without signs

signs_sub : (a b : ℕ) → above (sub_ℕ a b) + b ≡ below (sub_ℕ a b) + a
unfolding above below
signs_sub a b = by (ltb a b) (λ t. ltb→lt a b t) (λ t. nltb→le a b t)
  where
    by : (t : Bool) → (T t → a < b) → (T (not t) → b ≤ a)
        → above (cond t (negsuc (b - suc a)) (pos (a - b))) + b ≡ below (cond t (negsuc (b - suc a)) (pos (a - b))) + a
    by true lt ge = omega (arith, lt tt)
    by false lt ge = omega (arith, ge tt)

signs_add : (c d : ℤ) → above (c +ℤ d) + (below c + below d) ≡ below (c +ℤ d) + (above c + above d)
unfolding above below
signs_add (pos a) (pos b) = omega arith
signs_add (pos a) (negsuc b) = omega (arith, signs_sub a (suc b))
signs_add (negsuc a) (pos b) = omega (arith, signs_sub b (suc a))
signs_add (negsuc a) (negsuc b) = omega arith

pub signs_plus : (c : ℤ) (h : ℕ) → above (c +ℤ pos h) + below c ≡ below (c +ℤ pos h) + (above c + h)
unfolding above below
signs_plus c h = omega (arith, signs_add c (pos h))

pub signs_minus : (c : ℤ) (h : ℕ) → above (c -ℤ pos h) + (below c + h) ≡ below (c -ℤ pos h) + above c
unfolding above below
signs_minus c zero = omega (arith, signs_add c (pos 0))
signs_minus c (suc m) = omega (arith, signs_add c (negsuc m))

-- ---- a rule between two points, and its mirror

-- what the time x of a point turns into: that of point 0 stays 0, those of an event add up to the horizon
abbrev Opposite : (h p x y : ℕ) → Type 0
Opposite h zero x y = (x ≡ 0) × (y ≡ 0)
Opposite h (suc i) x y = x + y ≡ h

opposite_rule : (h p q : ℕ) (c : ℤ) (x y x' y' : ℕ) → Opposite h p x x' → Opposite h q y y'
    → (y + below c ≤ x + above c) → x' + below (mirror_bound h p q c) ≤ y' + above (mirror_bound h p q c)
unfolding mirror_bound
opposite_rule h zero zero c x y x' y' s t l = omega arith
opposite_rule h zero (suc j) c x y x' y' s t l = omega (arith, signs_minus c h)
opposite_rule h (suc i) zero c x y x' y' s t l = omega (arith, signs_plus c h)
opposite_rule h (suc i) (suc j) c x y x' y' s t l = omega arith

-- ---- schedules

opposite_ticks : (h : ℕ) (ts : List ℕ) → All (λ t. t ≤ h) ts → (p : ℕ) → p ≤ length ts → Opposite h p (time ts p) (time (mirror_ticks h ts) p)
opposite_ticks h ts a zero l = (refl, refl)
opposite_ticks h [] a (suc i) l = omega arith
opposite_ticks h (t ∷ ts) a (suc zero) l = omega (arith, a.0)
opposite_ticks h (t ∷ ts) a (suc (suc i)) l = opposite_ticks h ts a.1 (suc i) (omega arith)

pub schedule_mirror : (k : Ticket) → Proper k → (ts : List ℕ) → Schedule k ts → Schedule (mirror k) (mirror_ticks k.horizon ts)
schedule_mirror k p ts s = record {
  count = length-map ts (λ t. h - t) ∙ s.count;
  inside = map-All (λ t. t ≤ h) (λ t. h - t) ts (All-map (λ t (l : t ≤ h). omega arith) ts s.inside);
  obeys = map-All (λ (r : Rule). AtMost (time us r.from) (time us r.to) r.bound) (mirror_rule h) k.rules (All-map₂ obeys k.rules p s.obeys);
}
  where
    h : ℕ
    h = k.horizon

    us : List ℕ
    us = mirror_ticks h ts

    at : (q : ℕ) → q ≤ events k → Opposite h q (time ts q) (time us q)
    at q l = opposite_ticks h ts s.inside q (omega (arith, s.count))

    obeys : (r : Rule) → ProperRule (events k) r → AtMost (time ts r.from) (time ts r.to) r.bound
        → AtMost (time us r.to) (time us r.from) (mirror_rule h r).bound
    obeys r e a = (signed (time us r.to) (time us r.from) (mirror_rule h r).bound).1
        (opposite_rule h r.from r.to r.bound (time ts r.from) (time ts r.to) (time us r.from) (time us r.to) (at r.from e.0) (at r.to e.1)
        ((signed (time ts r.from) (time ts r.to) r.bound).0 a))

-- the schedules of the mirror are the mirrored schedules
pub schedule_iff : (k : Ticket) → Proper k → (ts : List ℕ) → All (λ t. t ≤ k.horizon) ts → Schedule k ts ↔ Schedule (mirror k) (mirror_ticks k.horizon ts)
schedule_iff k p ts a = (
  schedule_mirror k p ts,
  λ s. subst₂ Schedule (mirror_twice k) (ticks_twice k.horizon ts a) (schedule_mirror (mirror k) (proper_mirror k p) (mirror_ticks k.horizon ts) s),
)

iff_same : (a b : Bool) → (T a → T b) → (T b → T a) → a ≡ b
iff_same true true f g = refl
iff_same true false f g = absurd (f tt)
iff_same false true f g = absurd (g tt)
iff_same false false f g = refl

-- two tickets of which one has a schedule if the other has
pub consistent_same : (k l : Ticket) → ((ts : List ℕ) → Schedule k ts → (us : List ℕ) × Schedule l us) → ((ts : List ℕ) → Schedule l ts → (us : List ℕ) × Schedule k us)
    → consistent k ≡ consistent l
consistent_same k l f g = iff_same (consistent k) (consistent l)
    (λ t. (consistent_has l).1 (f ((consistent_has k).0 t).0 ((consistent_has k).0 t).1))
    (λ t. (consistent_has k).1 (g ((consistent_has l).0 t).0 ((consistent_has l).0 t).1))

pub consistent_mirror : (k : Ticket) → Proper k → consistent (mirror k) ≡ consistent k
consistent_mirror k p = consistent_same (mirror k) k
    (λ ts s. (mirror_ticks h ts, subst (λ t. Schedule t (mirror_ticks h ts)) (mirror_twice k) (schedule_mirror (mirror k) (proper_mirror k p) ts s)))
    (λ ts s. (mirror_ticks h ts, schedule_mirror k p ts s))
  where
    h : ℕ
    h = k.horizon

-- ---- windows

pub lies_mirror : (h : ℕ) (ws : List Window) → All (Lies h) ws → All (Lies h) (mirror_windows h ws)
lies_mirror h ws a = map-All (Lies h) (mirror_window h) ws (All-map (λ w (l : Lies h w). omega arith) ws a)

opposite_windows : (h : ℕ) (ws : List Window) → All (Lies h) ws → (p : ℕ) → p ≤ length ws
    → Opposite h p (window_of ws p).opens (window_of (mirror_windows h ws) p).closes × Opposite h p (window_of ws p).closes (window_of (mirror_windows h ws) p).opens
opposite_windows h ws a zero l = ((refl, refl), (refl, refl))
opposite_windows h [] a (suc i) l = omega arith
opposite_windows h (w ∷ ws) a (suc zero) l = omega (arith, a.0)
opposite_windows h (w ∷ ws) a (suc (suc i)) l = opposite_windows h ws a.1 (suc i) (omega arith)

-- the windows of a fit set lie in 0 to the horizon
pub ends_lie : (k : Ticket) (ws : List Window) → Ends k ws → All (Lies k.horizon) ws
ends_lie k ws e = at-All (Lies k.horizon) origin ws (λ i. (e.ordered (suc i), e.inside (suc i)))

pub fit_lie : (k : Ticket) → Proper k → (ws : List Window) → Fit k ws → All (Lies k.horizon) ws
fit_lie k p ws f = ends_lie k ws (fit_ends k (proper_distinct k p) ws f)

ends_mirror : (k : Ticket) → Proper k → (ws : List Window) → Ends k ws → Ends (mirror k) (mirror_windows k.horizon ws)
ends_mirror k p ws e = record {
  count = length-map ws (mirror_window h) ∙ e.count;
  ordered = λ q. (lie q).0;
  inside = λ q. (lie q).1;
  obeys = map-All (λ (r : Rule). (window_of vs r.to).closes + below r.bound ≤ (window_of vs r.from).opens + above r.bound) (mirror_rule h) k.rules
      (All-map₂ obeys k.rules p e.obeys);
}
  where
    h : ℕ
    h = k.horizon

    vs : List Window
    vs = mirror_windows h ws

    lie : (q : ℕ) → Lies h (window_of vs q)
    lie q = All-at (Lies h) origin (omega arith) (origin ∷ vs) (omega arith, lies_mirror h ws (ends_lie k ws e)) q

    at : (q : ℕ) → q ≤ events k → Opposite h q (window_of ws q).opens (window_of vs q).closes × Opposite h q (window_of ws q).closes (window_of vs q).opens
    at q l = opposite_windows h ws (ends_lie k ws e) q (omega (arith, e.count))

    obeys : (r : Rule) → ProperRule (events k) r
        → (window_of ws r.to).closes + below r.bound ≤ (window_of ws r.from).opens + above r.bound
        → (window_of vs r.from).closes + below (mirror_rule h r).bound ≤ (window_of vs r.to).opens + above (mirror_rule h r).bound
    obeys r d l = opposite_rule h r.from r.to r.bound
        (window_of ws r.from).opens (window_of ws r.to).closes (window_of vs r.from).closes (window_of vs r.to).opens
        (at r.from d.0).0 (at r.to d.1).1 l

pub fit_mirror : (k : Ticket) → Proper k → (ws : List Window) → Fit k ws → Fit (mirror k) (mirror_windows k.horizon ws)
fit_mirror k p ws f = ends_fit (mirror k) (mirror_windows k.horizon ws) (ends_mirror k p ws (fit_ends k (proper_distinct k p) ws f))

pub fit_back : (k : Ticket) → Proper k → (ws : List Window) → Fit (mirror k) ws → Fit k (mirror_windows k.horizon ws)
fit_back k p ws f = subst (λ t. Fit t (mirror_windows k.horizon ws)) (mirror_twice k) (fit_mirror (mirror k) (proper_mirror k p) ws f)

-- the fit sets of the mirror are the mirrored fit sets
pub fit_iff : (k : Ticket) → Proper k → (ws : List Window) → All (Lies k.horizon) ws → Fit k ws ↔ Fit (mirror k) (mirror_windows k.horizon ws)
fit_iff k p ws a = (
  fit_mirror k p ws,
  λ f. subst (Fit k) (windows_twice k.horizon ws a) (fit_back k p (mirror_windows k.horizon ws) f),
)

-- as wide as before
pub total_mirror : (owners : List ℕ) (h : ℕ) (ws : List Window) → All (Lies h) ws → total_of owners (mirror_windows h ws) ≡ total_of owners ws
total_mirror [] h ws a = refl
total_mirror (owner ∷ owners) h [] a = refl
total_mirror (owner ∷ owners) h (w ∷ ws) a = ap₂ (λ n m. weight owner * n + m) (width w a.0) (total_mirror owners h ws a.1)
  where
    width : (w : Window) → Lies h w → (h - w.opens) - (h - w.closes) ≡ w.closes - w.opens
    width w l = omega arith
