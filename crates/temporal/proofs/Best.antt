-- The laws of what specs/Best defines.
use Rattle.std.specs.Prelude.{◌≡◌, refl, Bool, ◌↔◌, T, get_or}
use Rattle.std.proofs.Math.Path.{sym, ap}
use Rattle.std.proofs.Common.{◌∙◌, subst}
use mathlib.Core.List.Memᴰ
use mathlib.Core.List.{List, [], ◌∷◌, map}
use Prim.Native.Nat.{ℕ, suc, ◌≤◌, ◌<◌}
use native.Mathlib.Omega.{arith}
use Rattle.std.proofs.Math.Dec.{eqb, eqb→eq, eqb_refl}
use Rattle.std.proofs.Math.ListN.{length}
use Rattle.std.proofs.Math.Seq.{ext_get_or}
use Rattle.temporal.specs.Lists.{All, ◌∈◌}
use Rattle.temporal.proofs.Lists.{All-map, All-at, All-∈, ∈-All, ∈-keep, keep-∈, ∈-each, each-∈, ∈-map, map-∈}
use Rattle.temporal.specs.Lists.{tuples, upto, tab, least, largest}
use Rattle.temporal.proofs.Lists.{∈-tuples, tuples-∈, ∈-upto, upto-∈, length_tab, get_d_tab, le_largest, largest-∈}
use Rattle.temporal.specs.Ticket.{Ticket, events, Window, origin, window_of, Lies, total}
use Rattle.temporal.specs.Lattice.{low, meet, join}
use Rattle.temporal.proofs.Lattice.{at_meet, total_meet_join}
use Rattle.temporal.specs.Best.{Chosen, Closed, Shape, Sooner, allowed_sets, best, earliest, widest, widest_sets, window_sets, windows}

-- ---- the enumeration has all sets of windows, and nothing else

pub ∈-windows : (h : ℕ) (w : Window) → Lies h w → w ∈ windows h
unfolding windows
∈-windows h w l =
    ∈-each (λ c. map (λ o. record { opens = o; closes = c }) (upto c)) (upto h) (∈-upto h l.1)
    (∈-map (λ o. record { opens = o; closes = w.closes }) (upto w.closes) (∈-upto w.closes l.0))

pub windows-∈ : (h : ℕ) (w : Window) → w ∈ windows h → Lies h w
unfolding windows
windows-∈ h w m =
    let a : (c : ℕ) × (c ∈ upto h) × (w ∈ map (λ o. record { opens = o; closes = c }) (upto c)) = each-∈ (λ c. map (λ o. record { opens = o; closes = c }) (upto c)) (upto h) m in
    let b : (o : ℕ) × (o ∈ upto a.0) × (w ≡ record { opens = o; closes = a.0 }) = map-∈ (λ o. record { opens = o; closes = a.0 }) (upto a.0) a.2 in
    subst (λ v. Lies h v) (sym b.2) (upto-∈ a.0 b.1, upto-∈ h a.1)

pub window_sets_has : (n h : ℕ) (ws : List Window) → (ws ∈ window_sets n h) ↔ Shape n h ws
unfolding window_sets
window_sets_has n h ws = (there, back)
  where
    there : ws ∈ tuples n (windows h) → Shape n h ws
    there m =
        let r = tuples-∈ n (windows h) m in
        (r.0, All-map (λ w k. windows-∈ h w k) ws r.1)

    back : Shape n h ws → ws ∈ tuples n (windows h)
    back s = subst (λ k. ws ∈ tuples k (windows h)) s.0 (∈-tuples (windows h) ws (All-map (λ w l. ∈-windows h w l) ws s.1))

-- ---- the earliest of a list of sets is the minimum of them all

sooner_meet_left : (a b : List Window) → length a ≡ length b → Sooner (meet a b) a
sooner_meet_left a b e p =
    (omega (arith, ap (λ (w : Window). w.opens) (at_meet a b e p)), omega (arith, ap (λ (w : Window). w.closes) (at_meet a b e p)))

sooner_meet_right : (a b : List Window) → length a ≡ length b → Sooner (meet a b) b
sooner_meet_right a b e p =
    (omega (arith, ap (λ (w : Window). w.opens) (at_meet a b e p)), omega (arith, ap (λ (w : Window). w.closes) (at_meet a b e p)))

pub sooner_trans : (a b c : List Window) → Sooner a b → Sooner b c → Sooner a c
sooner_trans a b c h k p = (omega (arith, h p, k p), omega (arith, h p, k p))

meet_all : List Window → List (List Window) → List Window
meet_all x [] = x
meet_all x (y ∷ ys) = meet x (meet_all y ys)

module _ (Q : List Window → Type 0) (n : ℕ) (len : (a : List Window) → Q a → length a ≡ n) (meets : (a b : List Window) → Q a → Q b → Q (meet a b)) where
  meet_all_has : (x : List Window) (xs : List (List Window)) → All Q (x ∷ xs) → Q (meet_all x xs)
  unfolding meet_all
  meet_all_has x [] h = h.0
  meet_all_has x (y ∷ ys) h = meets x (meet_all y ys) h.0 (meet_all_has y ys h.1)

  same_length : (x y : List Window) (ys : List (List Window)) → All Q (x ∷ y ∷ ys) → length x ≡ length (meet_all y ys)
  same_length x y ys h = len x h.0 ∙ sym (len (meet_all y ys) (meet_all_has y ys h.1))

  meet_all_sooner : (x : List Window) (xs : List (List Window)) → All Q (x ∷ xs) → All (Sooner (meet_all x xs)) (x ∷ xs)
  unfolding meet_all
  meet_all_sooner x [] h = (λ p. omega arith, tt)
  meet_all_sooner x (y ∷ ys) h = (
    sooner_meet_left x (meet_all y ys) (same_length x y ys h),
    All-map (λ v s. sooner_trans (meet x (meet_all y ys)) (meet_all y ys) v (sooner_meet_right x (meet_all y ys) (same_length x y ys h)) s) (y ∷ ys) (meet_all_sooner y ys h.1),
  )

  -- by the point: the least open and the least close
  meet_all_least : (x : List Window) (xs : List (List Window)) → All Q (x ∷ xs) → (p : ℕ)
      → ((window_of (meet_all x xs) p).opens ≡ least (map (λ ws. (window_of ws p).opens) (x ∷ xs))) × ((window_of (meet_all x xs) p).closes ≡ least (map (λ ws. (window_of ws p).closes) (x ∷ xs)))
  unfolding meet_all least
  meet_all_least x [] h p = (refl, refl)
  meet_all_least x (y ∷ ys) h p = step (meet_all_least y ys h.1 p) (at_meet x (meet_all y ys) (same_length x y ys h) p)
    where
      step : ((window_of (meet_all y ys) p).opens ≡ least (map (λ ws. (window_of ws p).opens) (y ∷ ys))) × ((window_of (meet_all y ys) p).closes ≡ least (map (λ ws. (window_of ws p).closes) (y ∷ ys)))
          → window_of (meet x (meet_all y ys)) p ≡ low (window_of x p) (window_of (meet_all y ys) p)
          → ((window_of (meet x (meet_all y ys)) p).opens ≡ least (map (λ ws. (window_of ws p).opens) (x ∷ y ∷ ys)))
          × ((window_of (meet x (meet_all y ys)) p).closes ≡ least (map (λ ws. (window_of ws p).closes) (x ∷ y ∷ ys)))
      step r e = (omega (arith, ap (λ (w : Window). w.opens) e, r.0), omega (arith, ap (λ (w : Window). w.closes) e, r.1))

  earliest_is : (x : List Window) (xs : List (List Window)) → All Q (x ∷ xs) → earliest n (x ∷ xs) ≡ meet_all x xs
  unfolding earliest
  earliest_is x xs h =
      ext_get_or origin (tab n entry) (meet_all x xs) (length_tab n entry ∙ sym (len (meet_all x xs) (meet_all_has x xs h)))
      (λ i l. get_d_tab n entry origin i (subst (λ m. i < m) (length_tab n entry) l) ∙ same i)
    where
      entry : ℕ → Window
      entry i = record { opens = least (map (λ ws. (window_of ws (suc i)).opens) (x ∷ xs)); closes = least (map (λ ws. (window_of ws (suc i)).closes) (x ∷ xs)) }

      same : (i : ℕ) → entry i ≡ get_or (meet_all x xs) i origin
      same i =
          let r = meet_all_least x xs h (suc i) in
          λ j. record { opens = sym r.0 j; closes = sym r.1 j }

  pub earliest_has : (xs : List (List Window)) {x : List Window} → x ∈ xs → All Q xs → Q (earliest n xs) × All (Sooner (earliest n xs)) xs
  earliest_has [] m h = absurd (Memᴰ.not-nil m)
  earliest_has (y ∷ ys) m h = subst (λ ws. Q ws × All (Sooner ws) (y ∷ ys)) (sym (earliest_is y ys h)) (meet_all_has y ys h, meet_all_sooner y ys h)

-- ---- `best` is allowed, widest and earliest

largest_attained : (xs : List ℕ) {x : ℕ} → x ∈ xs → largest xs ∈ xs
largest_attained [] m = absurd (Memᴰ.not-nil m)
largest_attained (y ∷ ys) m = largest-∈ y ys

module _ (k : Ticket) (allowed : List Window → Bool) (closed : Closed k allowed) where
  ∈-allowed : (a : List Window) → T (allowed a) → a ∈ allowed_sets k allowed
  unfolding allowed_sets
  ∈-allowed a t = ∈-keep allowed (window_sets (events k) k.horizon) ((window_sets_has (events k) k.horizon a).1 (closed.shape a t)) t

  pub le_widest : (a : List Window) → T (allowed a) → total k a ≤ widest k allowed
  unfolding widest
  le_widest a t = le_largest (map (total k) (allowed_sets k allowed)) (∈-map (total k) (allowed_sets k allowed) (∈-allowed a t))

  pub ordered : (a : List Window) → T (allowed a) → (i : ℕ) → (get_or a i origin).opens ≤ (get_or a i origin).closes
  ordered a t i = (All-at (Lies k.horizon) origin (omega arith) a (closed.shape a t).1 i).0

  -- allowed, and of the largest total
  unfoldable pub Widest : List Window → Type 0
  Widest a = T (allowed a) × (total k a ≡ widest k allowed)

  pub widest_length : (a : List Window) → Widest a → length a ≡ events k
  unfolding Widest
  widest_length a q = (closed.shape a q.0).0

  widest_meet : (a b : List Window) → Widest a → Widest b → Widest (meet a b)
  unfolding Widest
  widest_meet a b q r =
      let e : length a ≡ length b = (closed.shape a q.0).0 ∙ sym (closed.shape b r.0).0 in (
        closed.meets a b q.0 r.0,
        omega (
          arith,
          total_meet_join k.owners a b e (ordered a q.0) (ordered b r.0),
          le_widest (meet a b) (closed.meets a b q.0 r.0),
          le_widest (join a b) (closed.joins a b q.0 r.0),
          q.1,
          r.1,
        ),
      )

  pub widest_sets_are : All Widest (widest_sets k allowed)
  unfolding Widest widest_sets allowed_sets
  widest_sets_are = ∈-All (widest_sets k allowed) (λ a m.
      let r = keep-∈ (λ ws. eqb (total k ws) (widest k allowed)) (allowed_sets k allowed) m in
      ((keep-∈ allowed (window_sets (events k) k.horizon) r.0).1, eqb→eq (total k a) (widest k allowed) r.1))

  pub ∈-widest_sets : (a : List Window) → Widest a → a ∈ widest_sets k allowed
  unfolding Widest widest_sets
  ∈-widest_sets a q = ∈-keep (λ ws. eqb (total k ws) (widest k allowed)) (allowed_sets k allowed) (∈-allowed a q.0) (rw q.1 (eqb_refl (widest k allowed)))

  pub attained : (a : List Window) → T (allowed a) → (b : List Window) × Widest b
  unfolding Widest widest allowed_sets
  attained a t =
      let totals : List ℕ = map (total k) (allowed_sets k allowed) in
      let r = map-∈ (total k) (allowed_sets k allowed) (largest_attained totals (∈-map (total k) (allowed_sets k allowed) (∈-allowed a t))) in
      (r.0, ((keep-∈ allowed (window_sets (events k) k.horizon) r.1).1, sym r.2))

  pub best_chosen : (a : List Window) → T (allowed a) → Chosen k (λ ws. T (allowed ws)) (best k allowed)
  unfolding best Widest
  best_chosen a t =
      let w = attained a t in
      let r = earliest_has Widest (events k) widest_length widest_meet (widest_sets k allowed) (∈-widest_sets w.0 w.1) widest_sets_are in
      record {
        allowed = r.0.0;
        widest = λ vs q. omega (arith, r.0.1, le_widest vs q);
        earliest = λ vs q e. All-∈ (Sooner (best k allowed)) (widest_sets k allowed) r.1 (∈-widest_sets vs (q, e ∙ r.0.1));
      }

-- ---- nothing else is

pub chosen_unique : (k : Ticket) (P : List Window → Type 0) (a b : List Window) → Chosen k P a → Chosen k P b → length a ≡ length b → a ≡ b
chosen_unique k P a b c d e = ext_get_or origin a b e (λ i l. same i)
  where
    t : total k a ≡ total k b
    t = omega (arith, c.widest b d.allowed, d.widest a c.allowed)

    same : (i : ℕ) → get_or a i origin ≡ get_or b i origin
    same i =
        let s = c.earliest b d.allowed (sym t) (suc i) in
        let r = d.earliest a c.allowed t (suc i) in
        let o : (get_or a i origin).opens ≡ (get_or b i origin).opens = omega (arith, s, r) in
        let l : (get_or a i origin).closes ≡ (get_or b i origin).closes = omega (arith, s, r) in
        λ j. record { opens = o j; closes = l j }

pub chosen_best : (k : Ticket) (allowed : List Window → Bool) → Closed k allowed → (ws : List Window) → Chosen k (λ vs. T (allowed vs)) ws → ws ≡ best k allowed
chosen_best k allowed closed ws c =
    let d = best_chosen k allowed closed ws c.allowed in
    chosen_unique k (λ vs. T (allowed vs)) ws (best k allowed) c d ((closed.shape ws c.allowed).0 ∙ sym (closed.shape (best k allowed) d.allowed).0)

-- the same choice under two descriptions
pub chosen_under : (k : Ticket) (P Q : List Window → Type 0) → ((vs : List Window) → P vs → Q vs) → ((vs : List Window) → Q vs → P vs) → (ws : List Window) → Chosen k P ws → Chosen k Q ws
chosen_under k P Q f g ws c = record {
  allowed = f ws c.allowed;
  widest = λ vs q. c.widest vs (g vs q);
  earliest = λ vs q e. c.earliest vs (g vs q) e;
}
