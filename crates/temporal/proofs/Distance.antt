-- The laws of what specs/Distance defines.
use Rattle.std.specs.Prelude.{◌≡◌, refl, Bool, true, false, not, cond, List, [], ◌∷◌, map, ◌↔◌, ◌⊎◌, ℕ, T, ℤ, pos, negsuc, ◌≤ℤ◌, length}
use Rattle.std.proofs.Common.{sym, ap, subst, inl, inr, le_trans, le_antisymm, le_of_lt, leb→le, le→leb}
use mathlib.Core.List.Memᴰ
use Rattle.std.proofs.Math.Dec.{nleb→lt}
use Rattle.std.proofs.Math.IntN.{sub_ℕ}
use Rattle.std.specs.Int.Signed.{le_z, ≤ℤ_refl}
use Rattle.temporal.proofs.Lists.{iff_same, All-map, All-∈, ∈-keep, keep-∈, ∈-map, map-∈, ∈-tuples, ∈-upto}
use Rattle.temporal.specs.Lists.{All, ◌∈◌, keep, tuples, upto}
use Rattle.temporal.specs.Ticket.{Ticket, events, time, Schedule, is_schedule}
use Rattle.temporal.proofs.Ends.{test_schedule, schedule_test}
use Rattle.temporal.specs.Distance.{consistent, distance, largestℤ, maxℤ, schedules, some?}

-- ---- the enumeration has all schedules, and nothing else

pub schedules_has : (k : Ticket) (ts : List ℕ) → (ts ∈ schedules k) ↔ Schedule k ts
unfolding schedules
schedules_has k ts = (there, back)
  where
    there : ts ∈ keep (is_schedule k) (tuples (events k) (upto k.horizon)) → Schedule k ts
    there m = test_schedule k ts (keep-∈ (is_schedule k) (tuples (events k) (upto k.horizon)) m).1

    back : Schedule k ts → ts ∈ keep (is_schedule k) (tuples (events k) (upto k.horizon))
    back s =
        let m : ts ∈ tuples (length ts) (upto k.horizon) = ∈-tuples (upto k.horizon) ts (All-map (λ t h. ∈-upto k.horizon h) ts s.inside) in
        ∈-keep (is_schedule k) (tuples (events k) (upto k.horizon)) (subst (λ n. ts ∈ tuples n (upto k.horizon)) s.count m) (schedule_test k ts s)

some-∈ : {A : Type 0} (xs : List A) → T (some? xs) → (x : A) × (x ∈ xs)
some-∈ [] h = absurd h
some-∈ (x ∷ xs) h = (x, Memᴰ.head refl)

∈-some : {A : Type 0} (xs : List A) {x : A} → x ∈ xs → T (some? xs)
∈-some [] m = absurd (Memᴰ.not-nil m)
∈-some (x ∷ xs) m = tt

pub consistent_has : (k : Ticket) → T (consistent k) ↔ ((ts : List ℕ) × Schedule k ts)
unfolding consistent
consistent_has k = (there, back)
  where
    there : T (some? (schedules k)) → (ts : List ℕ) × Schedule k ts
    there t =
        let r = some-∈ (schedules k) t in
        (r.0, (schedules_has k r.0).0 r.1)

    back : (ts : List ℕ) × Schedule k ts → T (some? (schedules k))
    back r = ∈-some (schedules k) ((schedules_has k r.0).1 r.1)

-- two tickets of which one has a schedule if the other has
pub consistent_same : (k l : Ticket) → ((ts : List ℕ) → Schedule k ts → (us : List ℕ) × Schedule l us) → ((ts : List ℕ) → Schedule l ts → (us : List ℕ) × Schedule k us)
    → consistent k ≡ consistent l
consistent_same k l f g = iff_same (consistent k) (consistent l)
    (λ t. (consistent_has l).1 (f ((consistent_has k).0 t).0 ((consistent_has k).0 t).1))
    (λ t. (consistent_has k).1 (g ((consistent_has l).0 t).0 ((consistent_has l).0 t).1))

-- ---- the largest integer

le_z_trans : (a b c : ℤ) → T (le_z a b) → T (le_z b c) → T (le_z a c)
le_z_trans (pos a) (pos b) (pos c) h k = le→leb a c (le_trans (leb→le a b h) (leb→le b c k))
le_z_trans (pos a) (pos b) (negsuc c) h k = k
le_z_trans (pos a) (negsuc b) c h k = absurd h
le_z_trans (negsuc a) (pos b) (pos c) h k = tt
le_z_trans (negsuc a) (pos b) (negsuc c) h k = absurd k
le_z_trans (negsuc a) (negsuc b) (pos c) h k = tt
le_z_trans (negsuc a) (negsuc b) (negsuc c) h k = le→leb c a (le_trans (leb→le c b k) (leb→le b a h))

le_z_total : (a b : ℤ) → T (not (le_z a b)) → T (le_z b a)
le_z_total (pos a) (pos b) t = le→leb b a (le_of_lt (nleb→lt a b t))
le_z_total (pos a) (negsuc b) t = tt
le_z_total (negsuc a) (pos b) t = absurd t
le_z_total (negsuc a) (negsuc b) t = le→leb a b (le_of_lt (nleb→lt b a t))

-- the larger of two is one of them, and neither is above it
max_cases : (a b : ℤ) (t : Bool) → (T t → T (le_z a b)) → (T (not t) → T (le_z b a)) → T (le_z a (cond t b a)) × T (le_z b (cond t b a)) × ((cond t b a ≡ a) ⊎ (cond t b a ≡ b))
max_cases a b true y n = (y tt, (≤ℤ_refl b).le, inr refl)
max_cases a b false y n = ((≤ℤ_refl a).le, n tt, inl refl)

max_is : (a b : ℤ) → T (le_z a (maxℤ a b)) × T (le_z b (maxℤ a b)) × ((maxℤ a b ≡ a) ⊎ (maxℤ a b ≡ b))
max_is a b = max_cases a b (le_z a b) (λ t. t) (λ t. le_z_total a b t)

largest_is : (x : ℤ) (xs : List ℤ) → (largestℤ (x ∷ xs) ∈ (x ∷ xs)) × All (λ z. T (le_z z (largestℤ (x ∷ xs)))) (x ∷ xs)
largest_is x [] = (Memᴰ.head refl, ((≤ℤ_refl x).le, tt))
largest_is x (y ∷ ys) = step (largest_is y ys) (max_is x (largestℤ (y ∷ ys)))
  where
    m : ℤ
    m = largestℤ (y ∷ ys)

    has : (maxℤ x m ≡ x) ⊎ (maxℤ x m ≡ m) → m ∈ (y ∷ ys) → maxℤ x m ∈ (x ∷ y ∷ ys)
    has (inl e) k = Memᴰ.head e
    has (inr e) k = Memᴰ.tail (Memᴰ.cast e k)

    step : (m ∈ (y ∷ ys)) × All (λ z. T (le_z z m)) (y ∷ ys) → T (le_z x (maxℤ x m)) × T (le_z m (maxℤ x m)) × ((maxℤ x m ≡ x) ⊎ (maxℤ x m ≡ m))
        → (maxℤ x m ∈ (x ∷ y ∷ ys)) × All (λ z. T (le_z z (maxℤ x m))) (x ∷ y ∷ ys)
    step r q = (has q.2 r.0, (q.0, All-map (λ z h. le_z_trans z m (maxℤ x m) h q.1) (y ∷ ys) r.1))

largest_of : (xs : List ℤ) {x : ℤ} → x ∈ xs → (largestℤ xs ∈ xs) × All (λ z. T (le_z z (largestℤ xs))) xs
largest_of [] m = absurd (Memᴰ.not-nil m)
largest_of (y ∷ ys) m = largest_is y ys

pub le_z_antisym : (a b : ℤ) → T (le_z a b) → T (le_z b a) → a ≡ b
le_z_antisym (pos a) (pos b) h k = ap pos (le_antisymm (leb→le a b h) (leb→le b a k))
le_z_antisym (pos a) (negsuc b) h k = absurd h
le_z_antisym (negsuc a) (pos b) h k = absurd k
le_z_antisym (negsuc a) (negsuc b) h k = ap negsuc (le_antisymm (leb→le a b k) (leb→le b a h))

-- ---- the distance is attained by a schedule, and no schedule exceeds it

pub distance_attained : (k : Ticket) (i j : ℕ) → T (consistent k) → (ts : List ℕ) × Schedule k ts × (sub_ℕ (time ts j) (time ts i) ≡ distance k i j)
unfolding distance
distance_attained k i j t =
    let w = (consistent_has k).0 t in
    let f : List ℕ → ℤ = λ ts. sub_ℕ (time ts j) (time ts i) in
    let r = largest_of (map f (schedules k)) (∈-map f (schedules k) ((schedules_has k w.0).1 w.1)) in
    let v = map-∈ f (schedules k) r.0 in
    (v.0, (schedules_has k v.0).0 v.1, sym v.2)

pub distance_most : (k : Ticket) (i j : ℕ) (ts : List ℕ) → Schedule k ts → sub_ℕ (time ts j) (time ts i) ≤ℤ distance k i j
unfolding distance
distance_most k i j ts s =
    let f : List ℕ → ℤ = λ us. sub_ℕ (time us j) (time us i) in
    let m = ∈-map f (schedules k) ((schedules_has k ts).1 s) in
    record { le = All-∈ (λ z. T (le_z z (largestℤ (map f (schedules k))))) (map f (schedules k)) (largest_of (map f (schedules k)) m).1 m }

-- so it is known from one schedule that attains it and a bound for all
pub distance_is : (k : Ticket) (i j : ℕ) (z : ℤ) (ts : List ℕ) → Schedule k ts → sub_ℕ (time ts j) (time ts i) ≡ z
    → ((us : List ℕ) → Schedule k us → sub_ℕ (time us j) (time us i) ≤ℤ z) → distance k i j ≡ z
distance_is k i j z ts s e most =
    let r = distance_attained k i j ((consistent_has k).1 (ts, s)) in
    let u : T (le_z (distance k i j) z) = subst (λ d. T (le_z d z)) r.2 (most r.0 r.1).le in
    let l : T (le_z z (distance k i j)) = subst (λ d. T (le_z d (distance k i j))) e (distance_most k i j ts s).le in
    le_z_antisym (distance k i j) z u l
