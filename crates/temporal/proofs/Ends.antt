-- The laws of what specs/Ends defines.
use Rattle.std.specs.Prelude.{◌≡◌, refl, ◌&&◌, List, [], ◌∷◌, map, ◌≢◌, ◌↔◌, ℕ, zero, suc, ◌+◌, ◌≤◌, T, leb, eqb, length, get_or}
use Rattle.std.proofs.Common.{ap, ◌∙◌, subst, arith, leb→le, le→leb, eqb→eq}
use Rattle.std.proofs.Math.Decide.{ℕ_discrete}
use Rattle.std.proofs.Math.Dec.{eqb_refl}
use Rattle.std.proofs.lemmas.List.{length-map}
use Rattle.std.proofs.Math.ListN.{get_or-map}
use Rattle.temporal.specs.Lists.{All, all, ◌∈◌}
use Rattle.temporal.proofs.Lists.{All-map, All-map₂, test-All, All-test, All-at, at-All, All-∈, ∈-All, T-pair, pair-T}
use Rattle.temporal.specs.Bound.{AtMost, above, below}
use Rattle.temporal.proofs.Bound.{at_most_le, le_at_most, signed, test_signed}
use Rattle.temporal.specs.Ticket.{Lies}
use Rattle.temporal.specs.Ticket.{Rule, Ticket, events, Distinct, time, Schedule, rule_holds, is_schedule, Window, origin, window_of, Choice, Fit, window_lies, rule_fits, fits}
use Rattle.temporal.specs.Ends.{Ends}

eqb_eq : (m n : ℕ) → m ≡ n → T (eqb m n)
eqb_eq m n e = rw e (eqb_refl n)

-- ---- the test of a schedule

pub test_schedule : (k : Ticket) (ts : List ℕ) → T (is_schedule k ts) → Schedule k ts
unfolding is_schedule
test_schedule k ts t =
    let r = T-pair (eqb (length ts) (events k)) (all (λ x. leb x k.horizon) ts && all (rule_holds ts) k.rules) t in
    let s = T-pair (all (λ x. leb x k.horizon) ts) (all (rule_holds ts) k.rules) r.1 in
    record {
      count = eqb→eq (length ts) (events k) r.0;
      inside = test-All (λ x. leb x k.horizon) (λ x h. leb→le x k.horizon h) ts s.0;
      obeys = test-All (rule_holds ts) (λ q h. (test_signed (time ts q.from) (time ts q.to) q.bound).0 h) k.rules s.1;
    }

pub schedule_test : (k : Ticket) (ts : List ℕ) → Schedule k ts → T (is_schedule k ts)
unfolding is_schedule
schedule_test k ts s =
    pair-T (eqb (length ts) (events k)) (all (λ x. leb x k.horizon) ts && all (rule_holds ts) k.rules) (eqb_eq (length ts) (events k) s.count)
    (pair-T (all (λ x. leb x k.horizon) ts) (all (rule_holds ts) k.rules) (All-test (λ x. leb x k.horizon) (λ x h. le→leb x k.horizon h) ts s.inside)
    (All-test (rule_holds ts) (λ q h. (test_signed (time ts q.from) (time ts q.to) q.bound).1 h) k.rules s.obeys))

-- ---- a window between 0 and the horizon

pub lies : (h : ℕ) (w : Window) → T (window_lies h w) → Lies h w
lies h w t =
    let r = T-pair (leb w.opens w.closes) (leb w.closes h) t in
    (leb→le w.opens w.closes r.0, leb→le w.closes h r.1)

pub lies_test : (h : ℕ) (w : Window) → Lies h w → T (window_lies h w)
lies_test h w l = pair-T (leb w.opens w.closes) (leb w.closes h) (le→leb w.opens w.closes l.0) (le→leb w.closes h l.1)

pub fits_ends : (k : Ticket) (ws : List Window) → T (fits k ws) → Ends k ws
unfolding fits
fits_ends k ws t =
    let r = T-pair (eqb (length ws) (events k)) (all (window_lies k.horizon) ws && all (rule_fits ws) k.rules) t in
    let s = T-pair (all (window_lies k.horizon) ws) (all (rule_fits ws) k.rules) r.1 in
    let l : (w : Window) → T (window_lies k.horizon w) → Lies k.horizon w = λ w h. lies k.horizon w h in
    let o : (p : ℕ) → Lies k.horizon (window_of ws p) = All-at (Lies k.horizon) origin (omega arith) (origin ∷ ws) (omega arith, test-All (window_lies k.horizon) l ws s.0) in
    record {
      count = eqb→eq (length ws) (events k) r.0;
      ordered = λ p. (o p).0;
      inside = λ p. (o p).1;
      obeys = test-All (rule_fits ws) (λ q h. at_most_le (window_of ws q.from).opens (window_of ws q.to).closes q.bound h) k.rules s.1;
    }

pub ends_fits : (k : Ticket) (ws : List Window) → Ends k ws → T (fits k ws)
unfolding fits
ends_fits k ws e =
    let o : All (Lies k.horizon) ws = at-All (Lies k.horizon) origin ws (λ i. (e.ordered (suc i), e.inside (suc i))) in
    pair-T (eqb (length ws) (events k)) (all (window_lies k.horizon) ws && all (rule_fits ws) k.rules) (eqb_eq (length ws) (events k) e.count)
    (pair-T (all (window_lies k.horizon) ws) (all (rule_fits ws) k.rules) (All-test (window_lies k.horizon) (λ w h. lies_test k.horizon w h) ws o)
    (All-test (rule_fits ws) (λ q h. le_at_most (window_of ws q.from).opens (window_of ws q.to).closes q.bound h) k.rules e.obeys))

-- ---- every choice is a schedule if the ends are right

pub ends_fit : (k : Ticket) (ws : List Window) → Ends k ws → Fit k ws
ends_fit k ws e = record {
  count = e.count;
  ordered = at-All (λ (w : Window). w.opens ≤ w.closes) origin ws (λ i. e.ordered (suc i));
  every = λ ts c. record {
    count = c.count ∙ e.count;
    inside = at-All (λ t. t ≤ k.horizon) 0 ts (λ i. omega (arith, c.before (suc i), e.inside (suc i)));
    obeys = All-map (λ (r : Rule) (h : (window_of ws r.to).closes + below r.bound ≤ (window_of ws r.from).opens + above r.bound).
        (signed (time ts r.from) (time ts r.to) r.bound).1 (omega (arith, c.after r.from, c.before r.to))) k.rules e.obeys;
  };
}

-- ---- and only then: the choice of every close, and of every close but the open of one point

-- the closes, but at one place the open
corner : ℕ → List Window → List ℕ
corner i [] = []
corner zero (w ∷ ws) = w.opens ∷ map (λ (v : Window). v.closes) ws
corner (suc i) (w ∷ ws) = w.closes ∷ corner i ws

length_corner : (i : ℕ) (ws : List Window) → length (corner i ws) ≡ length ws
unfolding corner
length_corner i [] = refl
length_corner zero (w ∷ ws) = ap suc (length-map ws (λ (v : Window). v.closes))
length_corner (suc i) (w ∷ ws) = ap suc (length_corner i ws)

closes_at : (ws : List Window) (i : ℕ) → get_or (map (λ (v : Window). v.closes) ws) i 0 ≡ (get_or ws i origin).closes
closes_at ws i = get_or-map (λ (v : Window). v.closes) ws i origin

corner_same : (i : ℕ) (ws : List Window) → get_or (corner i ws) i 0 ≡ (get_or ws i origin).opens
unfolding corner
corner_same i [] = refl
corner_same zero (w ∷ ws) = refl
corner_same (suc i) (w ∷ ws) = corner_same i ws

corner_other : (i j : ℕ) → i ≢ j → (ws : List Window) → get_or (corner i ws) j 0 ≡ (get_or ws j origin).closes
unfolding corner
corner_other i j n [] = refl
corner_other zero zero n (w ∷ ws) = absurd (n refl)
corner_other zero (suc j) n (w ∷ ws) = closes_at ws j
corner_other (suc i) zero n (w ∷ ws) = refl
corner_other (suc i) (suc j) n (w ∷ ws) = corner_other i j (λ e. n (ap suc e)) ws

-- by the point: the open of point p, and the close of every other
pick : ℕ → List Window → List ℕ
pick zero ws = map (λ (v : Window). v.closes) ws
pick (suc i) ws = corner i ws

length_pick : (p : ℕ) (ws : List Window) → length (pick p ws) ≡ length ws
unfolding pick
length_pick zero ws = length-map ws (λ (v : Window). v.closes)
length_pick (suc i) ws = length_corner i ws

pick_same : (p : ℕ) (ws : List Window) → time (pick p ws) p ≡ (window_of ws p).opens
unfolding pick
pick_same zero ws = refl
pick_same (suc i) ws = corner_same i ws

pick_other : (p q : ℕ) → p ≢ q → (ws : List Window) → time (pick p ws) q ≡ (window_of ws q).closes
unfolding pick
pick_other zero zero n ws = refl
pick_other zero (suc j) n ws = closes_at ws j
pick_other (suc i) zero n ws = refl
pick_other (suc i) (suc j) n ws = corner_other i j (λ e. n (ap suc e)) ws

pick_choice : (p : ℕ) (ws : List Window) → ((q : ℕ) → (window_of ws q).opens ≤ (window_of ws q).closes) → Choice ws (pick p ws)
pick_choice p ws o = record {
  count = length_pick p ws;
  after = λ q. low q (ℕ_discrete p q);
  before = λ q. high q (ℕ_discrete p q);
}
  where
    low : (q : ℕ) → Dec (p ≡ q) → (window_of ws q).opens ≤ time (pick p ws) q
    low q (yes e) = omega (arith, subst (λ r. time (pick p ws) r ≡ (window_of ws r).opens) e (pick_same p ws))
    low q (no n) = omega (arith, pick_other p q n ws, o q)

    high : (q : ℕ) → Dec (p ≡ q) → time (pick p ws) q ≤ (window_of ws q).closes
    high q (yes e) = omega (arith, subst (λ r. time (pick p ws) r ≡ (window_of ws r).opens) e (pick_same p ws), o q)
    high q (no n) = omega (arith, pick_other p q n ws)

pub fit_ends : (k : Ticket) → Distinct k → (ws : List Window) → Fit k ws → Ends k ws
fit_ends k d ws f = record {
  count = f.count;
  ordered = o;
  inside = inside;
  obeys = All-map₂ obeys k.rules d (∈-All k.rules (λ r m. m));
}
  where
    o : (p : ℕ) → (window_of ws p).opens ≤ (window_of ws p).closes
    o p = All-at (λ (w : Window). w.opens ≤ w.closes) origin (omega arith) (origin ∷ ws) (omega arith, f.ordered) p

    schedule : (p : ℕ) → Schedule k (pick p ws)
    schedule p = f.every (pick p ws) (pick_choice p ws o)

    inside : (p : ℕ) → (window_of ws p).closes ≤ k.horizon
    inside zero = omega arith
    inside (suc i) = omega (arith, pick_other 0 (suc i) (λ e. omega arith) ws, All-at (λ t. t ≤ k.horizon) 0 (omega arith) (pick 0 ws) (schedule 0).inside i)

    obeys : (r : Rule) → r.from ≢ r.to → r ∈ k.rules → (window_of ws r.to).closes + below r.bound ≤ (window_of ws r.from).opens + above r.bound
    obeys r n m =
        let ts : List ℕ = pick r.from ws in
        let h = All-∈ (λ (q : Rule). AtMost (time ts q.from) (time ts q.to) q.bound) k.rules (schedule r.from).obeys m in
        omega (arith, (signed (time ts r.from) (time ts r.to) r.bound).0 h, pick_same r.from ws, pick_other r.from r.to n ws)

-- the test on the ends is fitness
pub fits_fit : (k : Ticket) (ws : List Window) → T (fits k ws) → Fit k ws
fits_fit k ws t = ends_fit k ws (fits_ends k ws t)

pub fit_fits : (k : Ticket) → Distinct k → (ws : List Window) → Fit k ws → T (fits k ws)
fit_fits k d ws f = ends_fits k ws (fit_ends k d ws f)

pub fits_iff_fit : (k : Ticket) → Distinct k → (ws : List Window) → T (fits k ws) ↔ Fit k ws
fits_iff_fit k d ws = (fits_fit k ws, fit_fits k d ws)

-- a ticket with a fit set has a schedule: every event at its close
pub fit_schedule : (k : Ticket) (ws : List Window) → Fit k ws → (ts : List ℕ) × Schedule k ts
fit_schedule k ws f =
    let o : (p : ℕ) → (window_of ws p).opens ≤ (window_of ws p).closes = All-at (λ (w : Window). w.opens ≤ w.closes) origin (omega arith) (origin ∷ ws) (omega arith, f.ordered) in
    (pick 0 ws, f.every (pick 0 ws) (pick_choice 0 ws o))
