-- The latest of the widest sets (02, change 1): where the allowed sets are closed under pointwise minimum and maximum, `best_latest` is allowed, widest
-- and latest (`best_latest_chosen`), and nothing else is (`chosen_best_latest`). Rests on Best, whose definitions it speaks of.
use Rattle.std.specs.Prelude.{◌≡◌, refl, Bool, ◌⊎◌, T, get_or}
use Rattle.std.proofs.Math.Path.{sym, ap}
use Rattle.std.proofs.Common.{◌∙◌, subst, inl, inr}
use mathlib.Core.List.Memᴰ
use mathlib.Core.List.{List, [], ◌∷◌, map}
use Prim.Native.Nat.{ℕ, suc, ◌≤◌, ◌<◌, max}
use native.Mathlib.Omega.{arith}
use Rattle.std.proofs.Math.ListN.{length}
use Rattle.std.proofs.Math.Seq.{ext_get_or}
use Rattle.temporal.specs.Lists.{All, ◌∈◌, tab, largest}
use Rattle.temporal.proofs.Lists.{All-map, All-∈, length_tab, get_d_tab, le_largest, largest-∈}
use Rattle.temporal.specs.Ticket.{Ticket, events, Window, origin, window_of, total}
use Rattle.temporal.specs.Lattice.{high, meet, join}
use Rattle.temporal.proofs.Lattice.{at_join, total_meet_join}
use Rattle.temporal.specs.Best.{widest_sets, latest_of, best_latest, Sooner, ChosenLatest, Closed}
use Rattle.temporal.proofs.Best.{sooner_trans}
use Rattle.temporal.proofs.Best.{le_widest, ordered, Widest, widest_length, widest_sets_are, ∈-widest_sets, attained}

-- ---- the latest of a list of sets is the maximum of them all

largest_single : (x : ℕ) → largest (x ∷ []) ≡ x
largest_single x = step (Memᴰ.cases_cons (largest-∈ x []))
  where
    step : (largest (x ∷ []) ≡ x) ⊎ (largest (x ∷ []) ∈ []) → largest (x ∷ []) ≡ x
    step (inl e) = e
    step (inr m) = absurd (Memᴰ.not-nil m)

largest_more : (x y : ℕ) (ys : List ℕ) → largest (x ∷ y ∷ ys) ≡ max x (largest (y ∷ ys))
largest_more x y ys =
    step (le_largest (x ∷ y ∷ ys) (Memᴰ.head refl)) (le_largest (x ∷ y ∷ ys) (Memᴰ.tail (largest-∈ y ys))) (Memᴰ.cases_cons (largest-∈ x (y ∷ ys)))
  where
    step : x ≤ largest (x ∷ y ∷ ys) → largest (y ∷ ys) ≤ largest (x ∷ y ∷ ys) → (largest (x ∷ y ∷ ys) ≡ x) ⊎ (largest (x ∷ y ∷ ys) ∈ (y ∷ ys))
        → largest (x ∷ y ∷ ys) ≡ max x (largest (y ∷ ys))
    step g h (inl e) = omega arith
    step g h (inr m) = omega (arith, le_largest (y ∷ ys) m)

sooner_join_left : (a b : List Window) → length a ≡ length b → Sooner a (join a b)
sooner_join_left a b e p =
    (omega (arith, ap (λ (w : Window). w.opens) (at_join a b e p)), omega (arith, ap (λ (w : Window). w.closes) (at_join a b e p)))

sooner_join_right : (a b : List Window) → length a ≡ length b → Sooner b (join a b)
sooner_join_right a b e p =
    (omega (arith, ap (λ (w : Window). w.opens) (at_join a b e p)), omega (arith, ap (λ (w : Window). w.closes) (at_join a b e p)))

-- at point p the set has the greatest open and the greatest close of several sets
abbrev Greatest : List Window → List (List Window) → ℕ → Type 0
Greatest ws sets p = ((window_of ws p).opens ≡ largest (map (λ vs. (window_of vs p).opens) sets)) × ((window_of ws p).closes ≡ largest (map (λ vs. (window_of vs p).closes) sets))

join_all : List Window → List (List Window) → List Window
join_all x [] = x
join_all x (y ∷ ys) = join x (join_all y ys)

module _ (Q : List Window → Type 0) (n : ℕ) (len : (a : List Window) → Q a → length a ≡ n) (joins : (a b : List Window) → Q a → Q b → Q (join a b)) where
  join_all_has : (x : List Window) (xs : List (List Window)) → All Q (x ∷ xs) → Q (join_all x xs)
  unfolding join_all
  join_all_has x [] h = h.0
  join_all_has x (y ∷ ys) h = joins x (join_all y ys) h.0 (join_all_has y ys h.1)

  same_length : (x y : List Window) (ys : List (List Window)) → All Q (x ∷ y ∷ ys) → length x ≡ length (join_all y ys)
  same_length x y ys h = len x h.0 ∙ sym (len (join_all y ys) (join_all_has y ys h.1))

  sooner_join_all : (x : List Window) (xs : List (List Window)) → All Q (x ∷ xs) → All (λ v. Sooner v (join_all x xs)) (x ∷ xs)
  unfolding join_all
  sooner_join_all x [] h = (λ p. omega arith, tt)
  sooner_join_all x (y ∷ ys) h = (
    sooner_join_left x (join_all y ys) (same_length x y ys h),
    All-map (λ v s. sooner_trans v (join_all y ys) (join x (join_all y ys)) s (sooner_join_right x (join_all y ys) (same_length x y ys h))) (y ∷ ys)
        (sooner_join_all y ys h.1),
  )

  join_all_greatest : (x : List Window) (xs : List (List Window)) → All Q (x ∷ xs) → (p : ℕ) → Greatest (join_all x xs) (x ∷ xs) p
  unfolding join_all
  join_all_greatest x [] h p = (sym (largest_single (window_of x p).opens), sym (largest_single (window_of x p).closes))
  join_all_greatest x (y ∷ ys) h p = step (join_all_greatest y ys h.1 p) (at_join x (join_all y ys) (same_length x y ys h) p)
    where
      step : Greatest (join_all y ys) (y ∷ ys) p → window_of (join x (join_all y ys)) p ≡ high (window_of x p) (window_of (join_all y ys) p)
          → Greatest (join x (join_all y ys)) (x ∷ y ∷ ys) p
      step r e = (
        omega (arith, ap (λ (w : Window). w.opens) e, r.0, largest_more (window_of x p).opens (window_of y p).opens (map (λ ws. (window_of ws p).opens) ys)),
        omega (arith, ap (λ (w : Window). w.closes) e, r.1, largest_more (window_of x p).closes (window_of y p).closes (map (λ ws. (window_of ws p).closes) ys)),
      )

  latest_of_is : (x : List Window) (xs : List (List Window)) → All Q (x ∷ xs) → latest_of n (x ∷ xs) ≡ join_all x xs
  unfolding latest_of
  latest_of_is x xs h =
      ext_get_or origin (tab n entry) (join_all x xs) (length_tab n entry ∙ sym (len (join_all x xs) (join_all_has x xs h)))
      (λ i l. get_d_tab n entry origin i (subst (λ m. i < m) (length_tab n entry) l) ∙ same i)
    where
      entry : ℕ → Window
      entry i = record { opens = largest (map (λ ws. (window_of ws (suc i)).opens) (x ∷ xs)); closes = largest (map (λ ws. (window_of ws (suc i)).closes) (x ∷ xs)) }

      same : (i : ℕ) → entry i ≡ get_or (join_all x xs) i origin
      same i =
          let r = join_all_greatest x xs h (suc i) in
          λ j. record { opens = sym r.0 j; closes = sym r.1 j }

  pub latest_of_has : (xs : List (List Window)) {x : List Window} → x ∈ xs → All Q xs → Q (latest_of n xs) × All (λ v. Sooner v (latest_of n xs)) xs
  latest_of_has [] m h = absurd (Memᴰ.not-nil m)
  latest_of_has (y ∷ ys) m h = subst (λ ws. Q ws × All (λ v. Sooner v ws) (y ∷ ys)) (sym (latest_of_is y ys h)) (join_all_has y ys h, sooner_join_all y ys h)

-- ---- `best_latest` is allowed, widest and latest

module _ (k : Ticket) (allowed : List Window → Bool) (closed : Closed k allowed) where
  widest_join : (a b : List Window) → Widest k allowed closed a → Widest k allowed closed b → Widest k allowed closed (join a b)
  unfolding Widest
  widest_join a b q r =
      let e : length a ≡ length b = (closed.shape a q.0).0 ∙ sym (closed.shape b r.0).0 in (
        closed.joins a b q.0 r.0,
        omega (
          arith,
          total_meet_join k.owners a b e (ordered k allowed closed a q.0) (ordered k allowed closed b r.0),
          le_widest k allowed closed (meet a b) (closed.meets a b q.0 r.0),
          le_widest k allowed closed (join a b) (closed.joins a b q.0 r.0),
          q.1,
          r.1,
        ),
      )

  pub best_latest_chosen : (a : List Window) → T (allowed a) → ChosenLatest k (λ ws. T (allowed ws)) (best_latest k allowed)
  unfolding best_latest Widest
  best_latest_chosen a t =
      let w = attained k allowed closed a t in
      let r = latest_of_has (Widest k allowed closed) (events k) (widest_length k allowed closed) widest_join (widest_sets k allowed)
      (∈-widest_sets k allowed closed w.0 w.1) (widest_sets_are k allowed closed) in
      record {
        allowed = r.0.0;
        widest = λ vs q. omega (arith, r.0.1, le_widest k allowed closed vs q);
        latest = λ vs q e. All-∈ (λ v. Sooner v (best_latest k allowed)) (widest_sets k allowed) r.1 (∈-widest_sets k allowed closed vs (q, e ∙ r.0.1));
      }

-- ---- nothing else is

pub chosen_latest_unique : (k : Ticket) (P : List Window → Type 0) (a b : List Window) → ChosenLatest k P a → ChosenLatest k P b → length a ≡ length b → a ≡ b
chosen_latest_unique k P a b c d e = ext_get_or origin a b e (λ i l. same i)
  where
    t : total k a ≡ total k b
    t = omega (arith, c.widest b d.allowed, d.widest a c.allowed)

    same : (i : ℕ) → get_or a i origin ≡ get_or b i origin
    same i =
        let s = c.latest b d.allowed (sym t) (suc i) in
        let r = d.latest a c.allowed t (suc i) in
        let o : (get_or a i origin).opens ≡ (get_or b i origin).opens = omega (arith, s, r) in
        let l : (get_or a i origin).closes ≡ (get_or b i origin).closes = omega (arith, s, r) in
        λ j. record { opens = o j; closes = l j }

pub chosen_best_latest : (k : Ticket) (allowed : List Window → Bool) → Closed k allowed → (ws : List Window) → ChosenLatest k (λ vs. T (allowed vs)) ws
    → ws ≡ best_latest k allowed
chosen_best_latest k allowed closed ws c =
    let d = best_latest_chosen k allowed closed ws c.allowed in
    chosen_latest_unique k (λ vs. T (allowed vs)) ws (best_latest k allowed) c d
    ((closed.shape ws c.allowed).0 ∙ sym (closed.shape (best_latest k allowed) d.allowed).0)

-- the same choice under two descriptions
pub chosen_latest_under : (k : Ticket) (P Q : List Window → Type 0) → ((vs : List Window) → P vs → Q vs) → ((vs : List Window) → Q vs → P vs)
    → (ws : List Window) → ChosenLatest k P ws → ChosenLatest k Q ws
chosen_latest_under k P Q f g ws c = record {
  allowed = f ws c.allowed;
  widest = λ vs q. c.widest vs (g vs q);
  latest = λ vs q e. c.latest vs (g vs q) e;
}
