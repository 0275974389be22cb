-- The laws of what specs/FitSets defines.
use Rattle.std.specs.Prelude.{◌≡◌, refl, Bool, true, false, List, ◌∷◌, map, ◌≢◌, ℕ, zero, suc, ◌+◌, ◌≤◌, T, leb, eqb, length, get_or}
use Rattle.std.proofs.Common.{sym, ap, ◌∙◌, subst, arith, leb→le, le→leb, eqb→eq, length-set, get_or-set_same, get_or-set_other}
use Rattle.std.proofs.Math.Decide.{ℕ_discrete}
use Rattle.std.proofs.Math.Dec.{eqb_refl}
use Rattle.std.proofs.lemmas.List.{length-map}
use Rattle.std.proofs.Math.ListN.{get_or-map}
use Rattle.temporal.specs.Lists.{All, upto}
use Rattle.temporal.proofs.Lists.{All-map, All-map₂, test-All, All-test, All-at, at-All, All-∈, ∈-All, ∈-upto, upto-∈, T-pair, pair-T}
use Rattle.temporal.specs.Bound.{above, below}
use Rattle.temporal.proofs.Bound.{signed}
use Rattle.temporal.specs.Ticket.{Rule, Ticket, events, time, Schedule, Window, origin, window_of, Lies, fits}
use Rattle.temporal.specs.Ends.{Ends}
use Rattle.temporal.proofs.Ends.{fits_ends, ends_fits}
use Rattle.temporal.specs.Lattice.{low, high, meet, join}
use Rattle.temporal.proofs.Lattice.{length_pointwise, at_meet, at_join}
use Rattle.temporal.specs.Best.{Closed}
use Rattle.temporal.specs.Distance.{consistent}
use Rattle.temporal.proofs.Distance.{consistent_has}
use Rattle.temporal.specs.Plan.{flagged, put, keeps_at, keeps, grows}
use Rattle.temporal.specs.FitSets.{Grows, KeepsAt, still}

-- ---- fit sets are closed under minimum and maximum

pub ends_meet : (k : Ticket) (a b : List Window) → Ends k a → Ends k b → Ends k (meet a b)
ends_meet k a b x y = record {
  count = length_pointwise low a b e ∙ x.count;
  ordered = λ p. omega (arith, o p, c p, x.ordered p, y.ordered p);
  inside = λ p. omega (arith, c p, x.inside p);
  obeys = All-map₂
      (λ (r : Rule)
      (h : (window_of a r.to).closes + below r.bound ≤ (window_of a r.from).opens + above r.bound)
      (g : (window_of b r.to).closes + below r.bound ≤ (window_of b r.from).opens + above r.bound).
      omega (arith, o r.from, c r.to))
      k.rules x.obeys y.obeys;
}
  where
    e : length a ≡ length b
    e = x.count ∙ sym y.count

    o : (p : ℕ) → (window_of (meet a b) p).opens ≡ (low (window_of a p) (window_of b p)).opens
    o p = ap (λ (w : Window). w.opens) (at_meet a b e p)

    c : (p : ℕ) → (window_of (meet a b) p).closes ≡ (low (window_of a p) (window_of b p)).closes
    c p = ap (λ (w : Window). w.closes) (at_meet a b e p)

pub ends_join : (k : Ticket) (a b : List Window) → Ends k a → Ends k b → Ends k (join a b)
ends_join k a b x y = record {
  count = length_pointwise high a b e ∙ x.count;
  ordered = λ p. omega (arith, o p, c p, x.ordered p, y.ordered p);
  inside = λ p. omega (arith, c p, x.inside p, y.inside p);
  obeys = All-map₂
      (λ (r : Rule)
      (h : (window_of a r.to).closes + below r.bound ≤ (window_of a r.from).opens + above r.bound)
      (g : (window_of b r.to).closes + below r.bound ≤ (window_of b r.from).opens + above r.bound).
      omega (arith, o r.from, c r.to))
      k.rules x.obeys y.obeys;
}
  where
    e : length a ≡ length b
    e = x.count ∙ sym y.count

    o : (p : ℕ) → (window_of (join a b) p).opens ≡ (high (window_of a p) (window_of b p)).opens
    o p = ap (λ (w : Window). w.opens) (at_join a b e p)

    c : (p : ℕ) → (window_of (join a b) p).closes ≡ (high (window_of a p) (window_of b p)).closes
    c p = ap (λ (w : Window). w.closes) (at_join a b e p)

pub fits_closed : (k : Ticket) → Closed k (fits k)
fits_closed k = record {
  shape = λ a t.
      let e = fits_ends k a t in
      (e.count, at-All (Lies k.horizon) origin a (λ i. (e.ordered (suc i), e.inside (suc i))));
  meets = λ a b t u. ends_fits k (meet a b) (ends_meet k a b (fits_ends k a t) (fits_ends k b u));
  joins = λ a b t u. ends_fits k (join a b) (ends_join k a b (fits_ends k a t) (fits_ends k b u));
}

pub at_still : (ts : List ℕ) (p : ℕ) → window_of (map still ts) p ≡ still (time ts p)
unfolding still
at_still ts zero = refl
at_still ts (suc i) = get_or-map still ts i 0

pub schedule_fits : (k : Ticket) (ts : List ℕ) → Schedule k ts → T (fits k (map still ts))
unfolding still
schedule_fits k ts s = ends_fits k (map still ts) record {
  count = length-map ts still ∙ s.count;
  ordered = λ p. omega (arith, o p, c p);
  inside = λ p. omega (arith, c p, inside p);
  obeys = All-map (λ (r : Rule) h. omega (arith, o r.from, c r.to, (signed (time ts r.from) (time ts r.to) r.bound).0 h)) k.rules s.obeys;
}
  where
    o : (p : ℕ) → (window_of (map still ts) p).opens ≡ time ts p
    o p = ap (λ (w : Window). w.opens) (at_still ts p)

    c : (p : ℕ) → (window_of (map still ts) p).closes ≡ time ts p
    c p = ap (λ (w : Window). w.closes) (at_still ts p)

    inside : (p : ℕ) → time ts p ≤ k.horizon
    inside p = All-at (λ t. t ≤ k.horizon) 0 (omega arith) (0 ∷ ts) (omega arith, s.inside) p

pub consistent_fits : (k : Ticket) → T (consistent k) → (ws : List Window) × T (fits k ws)
consistent_fits k t =
    let r = (consistent_has k).0 t in
    (map still r.0, schedule_fits k r.0 r.1)

test_keeps_at : (b : Bool) (v w : Window) → T (keeps_at b v w) → KeepsAt b v w
test_keeps_at true v w t =
    let r = T-pair (eqb w.opens v.opens) (eqb w.closes v.closes) t in
    (eqb→eq w.opens v.opens r.0, eqb→eq w.closes v.closes r.1)
test_keeps_at false v w t =
    let r = T-pair (leb w.opens v.opens) (leb v.closes w.closes) t in
    (leb→le w.opens v.opens r.0, leb→le v.closes w.closes r.1)

keeps_at_test : (b : Bool) (v w : Window) → KeepsAt b v w → T (keeps_at b v w)
keeps_at_test true v w h = pair-T (eqb w.opens v.opens) (eqb w.closes v.closes) (rw h.0 (eqb_refl v.opens)) (rw h.1 (eqb_refl v.closes))
keeps_at_test false v w h = pair-T (leb w.opens v.opens) (leb v.closes w.closes) (le→leb w.opens v.opens h.0) (le→leb v.closes w.closes h.1)

pub test_grows : (k : Ticket) (flags : List Bool) (old ws : List Window) → T (grows k flags old ws) → Grows k flags old ws
unfolding grows keeps
test_grows k flags old ws t =
    let r = T-pair (fits k ws) (keeps (events k) flags old ws) t in
    let a : All (λ p. KeepsAt (flagged flags p) (window_of old p) (window_of ws p)) (upto (events k)) =
    test-All (λ p. keeps_at (flagged flags p) (window_of old p) (window_of ws p)) (λ p h. test_keeps_at (flagged flags p) (window_of old p) (window_of ws p) h) (upto (events k)) r.1 in
    record {
      ends = fits_ends k ws r.0;
      kept = λ p l. All-∈ (λ q. KeepsAt (flagged flags q) (window_of old q) (window_of ws q)) (upto (events k)) a (∈-upto (events k) l);
    }

pub grows_test : (k : Ticket) (flags : List Bool) (old ws : List Window) → Grows k flags old ws → T (grows k flags old ws)
unfolding grows keeps
grows_test k flags old ws g =
    pair-T (fits k ws) (keeps (events k) flags old ws) (ends_fits k ws g.ends)
    (All-test (λ p. keeps_at (flagged flags p) (window_of old p) (window_of ws p)) (λ p h. keeps_at_test (flagged flags p) (window_of old p) (window_of ws p) h) (upto (events k))
    (∈-All {P = λ p. KeepsAt (flagged flags p) (window_of old p) (window_of ws p)} (upto (events k)) (λ p m. g.kept p (upto-∈ (events k) m))))

keeps_low : (b : Bool) (v w u : Window) → KeepsAt b v w → KeepsAt b v u → KeepsAt b v (low w u)
keeps_low true v w u h g = (omega arith, omega arith)
keeps_low false v w u h g = (omega arith, omega arith)

keeps_high : (b : Bool) (v w u : Window) → KeepsAt b v w → KeepsAt b v u → KeepsAt b v (high w u)
keeps_high true v w u h g = (omega arith, omega arith)
keeps_high false v w u h g = (omega arith, omega arith)

pub grows_closed : (k : Ticket) (flags : List Bool) (old : List Window) → Closed k (grows k flags old)
grows_closed k flags old = record {
  shape = λ a t. (fits_closed k).shape a (ends_fits k a (test_grows k flags old a t).ends);
  meets = λ a b t u. grows_test k flags old (meet a b) (meets a b (test_grows k flags old a t) (test_grows k flags old b u));
  joins = λ a b t u. grows_test k flags old (join a b) (joins a b (test_grows k flags old a t) (test_grows k flags old b u));
}
  where
    meets : (a b : List Window) → Grows k flags old a → Grows k flags old b → Grows k flags old (meet a b)
    meets a b x y = record {
      ends = ends_meet k a b x.ends y.ends;
      kept = λ p l. rw (at_meet a b (x.ends.count ∙ sym y.ends.count) p) (keeps_low (flagged flags p) (window_of old p) (window_of a p) (window_of b p) (x.kept p l) (y.kept p l));
    }

    joins : (a b : List Window) → Grows k flags old a → Grows k flags old b → Grows k flags old (join a b)
    joins a b x y = record {
      ends = ends_join k a b x.ends y.ends;
      kept = λ p l. rw (at_join a b (x.ends.count ∙ sym y.ends.count) p) (keeps_high (flagged flags p) (window_of old p) (window_of a p) (window_of b p) (x.kept p l) (y.kept p l));
    }

-- ---- one event's entry, by the point

module _ {A : Type 0} (d : A) where
  pub put_same : (xs : List A) (p : ℕ) (x : A) → 1 ≤ p → p ≤ length xs → get_or (d ∷ put xs p x) p d ≡ x
  put_same xs zero x h l = absurd (none h)
    where
      none : 1 ≤ 0 → ⊥
      none g = omega arith
  put_same xs (suc i) x h l = get_or-set_same xs i x d l

  pub put_other : (xs : List A) (p : ℕ) (x : A) (q : ℕ) → p ≢ q → get_or (d ∷ put xs p x) q d ≡ get_or (d ∷ xs) q d
  put_other xs zero x q n = refl
  put_other xs (suc i) x zero n = refl
  put_other xs (suc i) x (suc j) n = get_or-set_other xs i j x d (λ e. n (ap suc (sym e)))

  pub length_put : (xs : List A) (p : ℕ) (x : A) → length (put xs p x) ≡ length xs
  length_put xs zero x = refl
  length_put xs (suc i) x = length-set xs i x

-- ---- a window inside the old one leaves a fit set, and one that the commitment allows

pub narrowed : (k : Ticket) (ws : List Window) → Ends k ws → (p : ℕ) (w : Window) → 1 ≤ p → p ≤ events k
    → (window_of ws p).opens ≤ w.opens → w.opens ≤ w.closes → w.closes ≤ (window_of ws p).closes → Ends k (put ws p w)
narrowed k ws e p w one most lo mid hi = record {
  count = length_put origin ws p w ∙ e.count;
  ordered = λ q. (inner q).1;
  inside = λ q. omega (arith, inner q, e.inside q);
  obeys = All-map (λ (r : Rule) (h : (window_of ws r.to).closes + below r.bound ≤ (window_of ws r.from).opens + above r.bound).
      omega (arith, inner r.from, inner r.to)) k.rules e.obeys;
}
  where
    Inner : Window → Window → Type 0
    Inner v u = (v.opens ≤ u.opens) × (u.opens ≤ u.closes) × (u.closes ≤ v.closes)

    by : (q : ℕ) → Dec (p ≡ q) → Inner (window_of ws q) (window_of (put ws p w) q)
    by q (yes s) = subst (λ r. Inner (window_of ws r) (window_of (put ws p w) r)) s (rw (put_same origin ws p w one (rw e.count most)) (lo, mid, hi))
    by q (no n) = rw (put_other origin ws p w q n) (omega arith, e.ordered q, omega arith)

    inner : (q : ℕ)
        → ((window_of ws q).opens ≤ (window_of (put ws p w) q).opens)
        × ((window_of (put ws p w) q).opens ≤ (window_of (put ws p w) q).closes)
        × ((window_of (put ws p w) q).closes ≤ (window_of ws q).closes)
    inner q = by q (ℕ_discrete p q)

keeps_itself : (b : Bool) (v : Window) → KeepsAt b v v
keeps_itself true v = (refl, refl)
keeps_itself false v = (omega arith, omega arith)

pub itself_grows : (k : Ticket) (flags : List Bool) (old : List Window) → Ends k old → T (grows k flags old old)
itself_grows k flags old e = grows_test k flags old old record { ends = e; kept = λ p l. keeps_itself (flagged flags p) (window_of old p) }
