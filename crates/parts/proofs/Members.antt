-- The laws of what specs/Members defines.
use Rattle.std.specs.Prelude.{◌≡◌, refl, Bool, true, false, cond, List, [], ◌∷◌, ℕ, zero, suc, ◌+◌, ◌≤◌, ◌<◌, T, eqb, length, get_or}
use Rattle.std.proofs.Common.{sym, ap, subst, ◌∙◌, ⊎_elim, arith, eqb→eq}
use Rattle.std.proofs.Math.Dec.{eqb_refl}
use Rattle.temporal.proofs.Lists.{below_or_not}
use Rattle.temporal.specs.Ticket.{Ticket, events}
use Rattle.parts.specs.Part.{owned_from, members, point}
use Rattle.parts.specs.Members.{place, rank}

-- ---- the members of a list of owners, numbered from p

-- the i-th event, if d owns it, stands at its rank
rank_by : (p i r : ℕ) (xs : List ℕ) → r < length xs → get_or xs r 0 ≡ suc p + i
    → (b : Bool) → (cond b (suc r) r < length (cond b (p ∷ xs) xs)) × (get_or (cond b (p ∷ xs) xs) (cond b (suc r) r) 0 ≡ p + suc i)
rank_by p i r xs l e true = (omega arith, omega arith)
rank_by p i r xs l e false = (l, omega arith)

first_by : (p : ℕ) (xs : List ℕ) (b : Bool) → T b → (0 < length (cond b (p ∷ xs) xs)) × (get_or (cond b (p ∷ xs) xs) 0 0 ≡ p + 0)
first_by p xs true t = (omega arith, omega arith)
first_by p xs false t = absurd t

ranked : (d p : ℕ) (os : List ℕ) (i : ℕ) → i < length os → get_or os i 0 ≡ d
    → (rank d os i < length (owned_from d p os)) × (get_or (owned_from d p os) (rank d os i) 0 ≡ p + i)
unfolding owned_from rank
ranked d p [] i l e = absurd (none l)
  where
    none : i < 0 → ⊥
    none g = omega arith
ranked d p (o ∷ os) zero l e = first_by p (owned_from d (suc p) os) (eqb o d) (rw e (eqb_refl d))
ranked d p (o ∷ os) (suc i) l e =
    let r = ranked d (suc p) os i (omega arith) e in
    rank_by p i (rank d os i) (owned_from d (suc p) os) r.0 r.1 (eqb o d)

-- what stands at place j is an event that d owns
owned_by : (d p o : ℕ) (os xs : List ℕ) → ((j : ℕ) → j < length xs → (i : ℕ) × (i < length os) × (get_or os i 0 ≡ d) × (get_or xs j 0 ≡ suc p + i))
    → (b : Bool) → (T b → o ≡ d) → (j : ℕ) → j < length (cond b (p ∷ xs) xs)
    → (i : ℕ) × (i < suc (length os)) × (get_or (o ∷ os) i 0 ≡ d) × (get_or (cond b (p ∷ xs) xs) j 0 ≡ p + i)
owned_by d p o os xs f true t zero l = (0, omega arith, t tt, omega arith)
owned_by d p o os xs f true t (suc j) l =
    let r = f j (omega arith) in
    (suc r.0, omega (arith, r.1), r.2, omega (arith, r.3))
owned_by d p o os xs f false t j l =
    let r = f j l in
    (suc r.0, omega (arith, r.1), r.2, omega (arith, r.3))

owned : (d p : ℕ) (os : List ℕ) (j : ℕ) → j < length (owned_from d p os)
    → (i : ℕ) × (i < length os) × (get_or os i 0 ≡ d) × (get_or (owned_from d p os) j 0 ≡ p + i)
unfolding owned_from
owned d p [] j l = absurd (none l)
  where
    none : j < 0 → ⊥
    none g = omega arith
owned d p (o ∷ os) j l = owned_by d p o os (owned_from d (suc p) os) (λ i m. owned d (suc p) os i m) (eqb o d) (λ t. eqb→eq o d t) j l

rising_by : (p : ℕ) (xs : List ℕ) → ((j : ℕ) → j < length xs → p < get_or xs j 0) → ((i j : ℕ) → i < j → j < length xs → get_or xs i 0 < get_or xs j 0)
    → (b : Bool) (i j : ℕ) → i < j → j < length (cond b (p ∷ xs) xs) → get_or (cond b (p ∷ xs) xs) i 0 < get_or (cond b (p ∷ xs) xs) j 0
rising_by p xs f g true i zero l m = absurd (none l)
  where
    none : i < 0 → ⊥
    none q = omega arith
rising_by p xs f g true zero (suc j) l m = f j (omega arith)
rising_by p xs f g true (suc i) (suc j) l m = g i j (omega arith) (omega arith)
rising_by p xs f g false i j l m = g i j l m

rising : (d p : ℕ) (os : List ℕ) (i j : ℕ) → i < j → j < length (owned_from d p os) → get_or (owned_from d p os) i 0 < get_or (owned_from d p os) j 0
unfolding owned_from
rising d p [] i j l m = absurd (none m)
  where
    none : j < 0 → ⊥
    none g = omega arith
rising d p (o ∷ os) i j l m =
    rising_by p (owned_from d (suc p) os) (λ q h. omega (arith, (owned d (suc p) os q h).3)) (λ a b x y. rising d (suc p) os a b x y) (eqb o d) i j l m

few_by : (p n : ℕ) (xs : List ℕ) → length xs ≤ n → (b : Bool) → length (cond b (p ∷ xs) xs) ≤ suc n
few_by p n xs l true = omega arith
few_by p n xs l false = omega arith

few : (d p : ℕ) (os : List ℕ) → length (owned_from d p os) ≤ length os
unfolding owned_from
few d p [] = omega arith
few d p (o ∷ os) = few_by p (length os) (owned_from d (suc p) os) (few d (suc p) os) (eqb o d)

-- ---- the members of a ticket

module _ (d : ℕ) (k : Ticket) where
  pub members_few : length (members d k) ≤ events k
  members_few = few d 1 k.owners

  pub members_rising : (i j : ℕ) → i < j → j < length (members d k) → get_or (members d k) i 0 < get_or (members d k) j 0
  members_rising i j l m = rising d 1 k.owners i j l m

  -- the member at place j is an event, and d owns it
  pub member_owned : (j : ℕ) → j < length (members d k) → (i : ℕ) × (i < events k) × (get_or k.owners i 0 ≡ d) × (get_or (members d k) j 0 ≡ suc i)
  member_owned j l =
      let r = owned d 1 k.owners j l in
      (r.0, r.1, r.2, omega (arith, r.3))

  -- an event that d owns is the member at its rank
  pub owned_member : (i : ℕ) → i < events k → get_or k.owners i 0 ≡ d
      → (rank d k.owners i < length (members d k)) × (get_or (members d k) (rank d k.owners i) 0 ≡ suc i)
  owned_member i l e =
      let r = ranked d 1 k.owners i l e in
      (r.0, omega (arith, r.1))

  -- no member stands at two places
  pub members_differ : (i j : ℕ) → i < length (members d k) → j < length (members d k) → get_or (members d k) i 0 ≡ get_or (members d k) j 0 → i ≡ j
  members_differ i j l m e = ⊎_elim
      (λ (h : i < j). absurd (omega (arith, members_rising i j h m)))
      (λ (h : j ≤ i). ⊎_elim (λ (g : j < i). absurd (omega (arith, members_rising j i g l))) (λ (g : i ≤ j). omega arith) (below_or_not j i))
      (below_or_not i j)

  -- ---- by the point

  -- point 0, or an event that d owns
  abbrev pub Of : ℕ → Type 0
  Of zero = Unit {0}
  Of (suc i) = (i < events k) × (get_or k.owners i 0 ≡ d)

  pub point_of : (q : ℕ) → q ≤ length (members d k) → Of (point d k q)
  point_of zero l = tt
  point_of (suc j) l =
      let r = member_owned j l in
      subst Of (sym r.3) (r.1, r.2)

  pub point_most : (q : ℕ) → q ≤ length (members d k) → point d k q ≤ events k
  point_most q l = most (point d k q) (point_of q l)
    where
      most : (p : ℕ) → Of p → p ≤ events k
      most zero h = omega arith
      most (suc i) h = h.0

  pub place_point : (q : ℕ) → q ≤ length (members d k) → (place d k) (point d k q) ≡ q
  place_point zero l = refl
  place_point (suc j) l =
      let r = member_owned j l in
      let s = owned_member r.0 r.1 r.2 in
      ap (place d k) r.3 ∙ ap suc (members_differ (rank d k.owners r.0) j s.0 l (s.1 ∙ sym r.3))

  pub point_place : (p : ℕ) → Of p → ((place d k) p ≤ length (members d k)) × (point d k ((place d k) p) ≡ p)
  point_place zero h = (omega arith, refl)
  point_place (suc i) h = owned_member i h.0 h.1
