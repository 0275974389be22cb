-- The laws of what specs/Laws defines.
use Rattle.std.specs.Prelude.{◌≡◌, refl, Bool, true, false, cond, ◌||◌, ◌⊎◌, eqb, length}
use Rattle.std.proofs.Common.{sym, ap, subst, eqb-true, eq-eqb}
use mathlib.Core.List.{List, [], ◌∷◌, ◌++◌, append_assoc, append-nil, map-append}
use mathlib.Core.List.Memᴰ
use Rattle.std.proofs.Math.Logic.{inl, inr, ⊎_elim}
use Prim.Native.Nat.{ℕ, zero, suc, ◌+◌, ◌*◌, ◌≤◌, ◌<◌}
use native.Mathlib.Omega.{arith}
use Rattle.std.proofs.Math.ListN.{length-append}
use Rattle.temporal.specs.Lists.{All, ◌∈◌}
use Rattle.temporal.proofs.Lists.{All-map, All-at, All-join, ∈-All, below_or_not}
use Rattle.temporal.specs.Ticket.{events, Lies, origin, window_of}
use Rattle.temporal.specs.Plan.{State, owner_of}
use Rattle.temporal.specs.Run.{Readable}
use Rattle.ticket.specs.Parser.{got, wholly}
use Rattle.ticket.specs.Writer.{bytes, each, write_window}
use Rattle.ticket.specs.Writing.{firsts}
use Rattle.ticket.specs.RoundTrip.{Bytes, LiesIn}
use Rattle.ticket.proofs.RoundTrip.{window_forth, little_forth, many_forth, wholly_forth, length_each, length_window}
use Rattle.ticket.proofs.Bytes.{one_more, after_each_other, number_bytes, each_bytes, window_bytes_lem}
use Rattle.viewing.specs.View.{may_see, Seen, seen_at, seen_if, seen_to, seen, write_seen, write_view, view, read_seen, read_view}
use Rattle.viewing.specs.Laws.{Rising, Sees, Visible, numbers}

-- the test of it
may_see_lem : (caller owner : ℕ) → may_see caller owner ≡ true → Sees caller owner
unfolding may_see
may_see_lem caller owner = by (eqb caller 4) refl
  where
    by : (b : Bool) → eqb caller 4 ≡ b → (b || eqb owner caller) ≡ true → Sees caller owner
    by true e h = inl (eqb-true caller 4 e)
    by false e h = inr (eqb-true owner caller h)

sees_may : (caller owner : ℕ) → Sees caller owner → may_see caller owner ≡ true
unfolding may_see
sees_may caller owner (inl e) = rw (eq-eqb caller 4 e)
sees_may caller owner (inr e) = by (eqb caller 4)
  where
    by : (b : Bool) → (b || eqb owner caller) ≡ true
    by true = refl
    by false = eq-eqb owner caller e

if_only : (caller : ℕ) (s : State) (p : ℕ) {x : Seen} → x ∈ seen_if caller s p → Sees caller (owner_of s.ticket p) × (x ≡ seen_at s p)
if_only caller s p {x} = by (may_see caller (owner_of s.ticket p)) refl
  where
    first : (x ≡ seen_at s p) ⊎ (x ∈ []) → x ≡ seen_at s p
    first (inl e) = e
    first (inr n) = absurd (Memᴰ.not-nil n)

    by : (b : Bool) → may_see caller (owner_of s.ticket p) ≡ b → x ∈ cond b (seen_at s p ∷ []) [] → Sees caller (owner_of s.ticket p) × (x ≡ seen_at s p)
    by true e m = (may_see_lem caller (owner_of s.ticket p) e, first (Memᴰ.cases_cons m))
    by false e m = absurd (Memᴰ.not-nil m)

if_all : (caller : ℕ) (s : State) (p : ℕ) → Sees caller (owner_of s.ticket p) → seen_at s p ∈ seen_if caller s p
if_all caller s p h = subst (λ b. seen_at s p ∈ cond b (seen_at s p ∷ []) []) (sym (sees_may caller (owner_of s.ticket p) h)) (Memᴰ.head refl)

module _ (caller : ℕ) (s : State) where
  to_only : (n : ℕ) {x : Seen} → x ∈ seen_to n caller s → (p : ℕ) × (1 ≤ p) × (p ≤ n) × Sees caller (owner_of s.ticket p) × (x ≡ seen_at s p)
  unfolding seen_to
  to_only zero m = absurd (Memᴰ.not-nil m)
  to_only (suc n) {x} m = step (λ k. to_only n k) (Memᴰ.append_cases (seen_to n caller s) m)
    where
      step : (x ∈ seen_to n caller s → (p : ℕ) × (1 ≤ p) × (p ≤ n) × Sees caller (owner_of s.ticket p) × (x ≡ seen_at s p))
          → (x ∈ seen_to n caller s) ⊎ (x ∈ seen_if caller s (suc n))
          → (p : ℕ) × (1 ≤ p) × (p ≤ suc n) × Sees caller (owner_of s.ticket p) × (x ≡ seen_at s p)
      step f (inl k) = let r = f k in (r.0, r.1, omega (arith, r.2), r.3, r.4)
      step f (inr k) = let g = if_only caller s (suc n) k in (suc n, omega arith, omega arith, g.0, g.1)

  to_all : (n p : ℕ) → 1 ≤ p → p ≤ n → Sees caller (owner_of s.ticket p) → seen_at s p ∈ seen_to n caller s
  unfolding seen_to
  to_all zero p l m h = absurd (none l m)
    where
      none : 1 ≤ p → p ≤ 0 → ⊥
      none a b = omega arith
  to_all (suc n) p l m h = step (λ k. to_all n p l k h) (last m)
    where
      last : p ≤ suc n → (p ≤ n) ⊎ (p ≡ suc n)
      last k = ⊎_elim (λ (g : p < suc n). inl (omega arith)) (λ (g : suc n ≤ p). inr (omega arith)) (below_or_not p (suc n))

      step : (p ≤ n → seen_at s p ∈ seen_to n caller s) → (p ≤ n) ⊎ (p ≡ suc n) → seen_at s p ∈ (seen_to n caller s ++ seen_if caller s (suc n))
      step f (inl k) = Memᴰ.append_left (seen_if caller s (suc n)) (f k)
      step f (inr e) = Memᴰ.append_right (seen_to n caller s) (subst (λ q. seen_at s p ∈ seen_if caller s q) e (if_all caller s p h))

  -- what is seen is the number, flag and window of an event that the caller may see,
  pub seen_only : {x : Seen} → x ∈ seen caller s → (p : ℕ) × Visible caller s p × (x ≡ seen_at s p)
  seen_only m = let r = to_only (events s.ticket) m in (r.0, ((r.1, r.2), r.3), r.4)

  -- and each such event is seen
  pub seen_all : (p : ℕ) → Visible caller s p → seen_at s p ∈ seen caller s
  seen_all p v = to_all (events s.ticket) p v.0.0 v.0.1 v.1

  -- so a device without events sees none
  pub seen_none : ((p : ℕ) → ¬ Visible caller s p) → seen caller s ≡ []
  seen_none n = by (seen caller s) (λ x m. let r = seen_only m in n r.0 r.1)
    where
      by : (xs : List Seen) → ((x : Seen) → ¬ (x ∈ xs)) → xs ≡ []
      by [] h = refl
      by (x ∷ xs) h = absurd (h x (Memᴰ.head refl))

rising_more : (xs : List ℕ) (y : ℕ) → Rising xs → All (λ x. x < y) xs → Rising (xs ++ y ∷ [])
rising_more [] y r h = (tt, tt)
rising_more (x ∷ xs) y r h = (All-join (λ z. x < z) xs (y ∷ []) r.0 (h.0, tt), rising_more xs y r.1 h.1)

module _ (caller : ℕ) (s : State) where
  -- of the events 1 to n, whether the last is seen or not
  rising_to : (n : ℕ) → Rising (numbers (seen_to n caller s)) × All (λ p. p ≤ n) (numbers (seen_to n caller s))
  unfolding seen_to
  rising_to zero = (tt, tt)
  rising_to (suc n) = by (may_see caller (owner_of s.ticket (suc n))) (rising_to n)
    where
      Good : List ℕ → Type 0
      Good ps = Rising ps × All (λ p. p ≤ suc n) ps

      by : (b : Bool) → Rising (numbers (seen_to n caller s)) × All (λ p. p ≤ n) (numbers (seen_to n caller s))
          → Good (numbers (seen_to n caller s ++ cond b (seen_at s (suc n) ∷ []) []))
      by true h = subst Good (sym (map-append (λ (x : Seen). x.event) (seen_to n caller s) (seen_at s (suc n) ∷ []))) (
        rising_more (numbers (seen_to n caller s)) (suc n) h.0 (All-map (λ p (l : p ≤ n). omega arith) (numbers (seen_to n caller s)) h.1),
        All-join (λ p. p ≤ suc n) (numbers (seen_to n caller s)) (suc n ∷ [])
            (All-map (λ p (l : p ≤ n). omega arith) (numbers (seen_to n caller s)) h.1) (omega arith, tt),
      )
      by false h =
          subst (λ xs. Good (numbers xs)) (sym (append-nil (seen_to n caller s)))
          (h.0, All-map (λ p (l : p ≤ n). omega arith) (numbers (seen_to n caller s)) h.1)

  -- "rising": so no event is seen twice
  pub seen_rising : Rising (numbers (seen caller s))
  seen_rising = (rising_to (events s.ticket)).0

to_database : (s : State) (n : ℕ) → seen_to n 4 s ≡ firsts n (λ i. seen_at s (suc i))
unfolding seen_to may_see firsts
to_database s zero = refl
to_database s (suc n) = ap (λ xs. xs ++ seen_at s (suc n) ∷ []) (to_database s n)

-- "the database sees all": the events 1 to n, each with its flag and window
pub seen_database : (s : State) → seen 4 s ≡ firsts (events s.ticket) (λ i. seen_at s (suc i))
seen_database s = to_database s (events s.ticket)

-- ---- how many, and how long

if_most : (b : Bool) (x : Seen) → length (cond b (x ∷ []) []) ≤ 1
if_most true x = omega arith
if_most false x = omega arith

module _ (caller : ℕ) (s : State) where
  pub to_most : (n : ℕ) → length (seen_to n caller s) ≤ n
  unfolding seen_to
  to_most zero = omega arith
  to_most (suc n) =
      omega (arith, to_most n, length-append (seen_to n caller s) (seen_if caller s (suc n)), if_most (may_see caller (owner_of s.ticket (suc n))) (seen_at s (suc n)))

  seen_most : length (seen caller s) ≤ events s.ticket
  seen_most = to_most (events s.ticket)

pub length_seen : (x : Seen) → length (write_seen x) ≡ 10
unfolding write_seen
length_seen x = omega (arith, length_window x.entry)

-- two bytes for the count, ten for each event
pub length_view : (caller : ℕ) (s : State) → length (view caller s) ≡ 2 + 10 * length (seen caller s)
unfolding write_view bytes
length_view caller s = omega (arith, length_each write_seen 10 length_seen (seen caller s))

-- so 402 bytes hold every view
pub view_fits : (caller : ℕ) (s : State) → Readable s → length (view caller s) ≤ 402
view_fits caller s r = omega (arith, length_view caller s, seen_most caller s, r.valid.events_limit)

-- of no events it is a count of 0
pub view_none : (caller : ℕ) (s : State) → ((p : ℕ) → ¬ Visible caller s p) → view caller s ≡ 0 ∷ 0 ∷ []
unfolding write_view bytes each
view_none caller s n = ap write_view (seen_none caller s n)

-- ---- a view is bytes

module _ (caller : ℕ) (s : State) (r : Readable s) where
  number_small : (x : Seen) → x ∈ seen caller s → x.event < 256
  number_small x m =
      let h = to_only caller s (events s.ticket) m in
      omega (arith, ap (λ (y : Seen). y.event) h.4, h.2, r.valid.events_limit)

  pub view_bytes : Bytes (view caller s)
  unfolding write_view write_seen
  view_bytes =
      after_each_other (bytes 2 (length (seen caller s))) _ (number_bytes 2 (length (seen caller s)))
      (each_bytes write_seen (seen caller s)
      (∈-All (seen caller s) (λ x m. one_more x.event (write_window x.entry) (number_small x m) (window_bytes_lem x.entry))))

-- ---- a view is read back

-- its window lies in 0 to the limit of the horizon
abbrev Legible : Seen → Type 0
Legible x = LiesIn 1000000 x.entry

seen_forth : (x : Seen) (t : List ℕ) → Legible x → read_seen (write_seen x ++ t) ≡ got x t
unfolding read_seen write_seen
seen_forth x t g = rw (window_forth 1000000 (omega arith) x.entry t g)

module _ (caller : ℕ) (s : State) (r : Readable s) where
  lies : (p : ℕ) → Lies 1000000 (window_of s.windows p)
  lies p =
      let h : Lies s.ticket.horizon (window_of s.windows p) =
      All-at (Lies s.ticket.horizon) origin (omega arith, omega arith) (origin ∷ s.windows) ((omega arith, omega arith), r.windows_lie) p in
      (h.0, omega (arith, h.1, r.valid.horizon_limit))

  legible : All Legible (seen caller s)
  legible = ∈-All (seen caller s) (λ x m. let h = seen_only caller s m in subst Legible (sym h.2) (lies h.0))

  -- who has a view has what is seen
  pub view_read : wholly read_view (view caller s) ≡ got (seen caller s) []
  unfolding read_view write_view
  view_read =
      wholly_forth write_view (λ xs. (length xs ≤ 40) × All Legible xs) read_view forth (seen caller s)
      (omega (arith, seen_most caller s, r.valid.events_limit), legible)
    where
      forth : (xs : List Seen) (t : List ℕ) → (length xs ≤ 40) × All Legible xs → read_view (write_view xs ++ t) ≡ got xs t
      forth xs t g =
          rw (append_assoc, little_forth 2 (length xs) (each write_seen xs ++ t) (omega (arith, g.0)))
          (many_forth read_seen write_seen Legible seen_forth xs t g.1)
