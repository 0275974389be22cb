-- The points of a part in an array, added event by event. Rests on `parts` for the device's events.
use Rattle.std.specs.Prelude.{◌≡◌, refl, Bool, true, false, cond, List, [], ◌∷◌, ◌++◌, ℕ, suc, ◌+◌, ◌≤◌, ◌<◌, eqb, length, get_or, set}
use Rattle.std.proofs.Common.{sym, ap, subst, ◌∙◌, ⊎_elim, arith, length-set, length-append, get_or-set_same, get_or-set_other}
use Rattle.std.proofs.Math.ListN.{get_or-append}
use Rattle.std.proofs.Math.Seq.{get_or-append_seam}
use Rattle.temporal.proofs.Lists.{below_or_not}
use Rattle.network.specs.Stored.{at}
use Rattle.ticket.specs.Writing.{firsts}
use Rattle.ticket.proofs.WritingLaws.{firsts_more, length_firsts}
use Rattle.parts.specs.Part.{owned_from}

-- the array and the count after one event
abbrev pub added : List ℕ → ℕ → ℕ → ℕ → ℕ → List ℕ × ℕ
added points m event owner device = cond (eqb owner device) (set points (m + 1) event, m + 1) (points, m)

-- the m events that device d owns of those with these owners, after point 0
pub record Placed (d : ℕ) (owners points : List ℕ) (m : ℕ) : Type 0 where
  pub long : length points ≡ 41
  pub counted : m ≡ length (owned_from d 1 owners)
  pub few : m ≤ length owners
  pub places : (q : ℕ) → q ≤ m → at points q ≡ get_or (0 ∷ owned_from d 1 owners) q 0

pub placed_none : (d : ℕ) (f : ℕ → ℕ) (points : List ℕ) → length points ≡ 41 → at points 0 ≡ 0 → Placed d (firsts 0 f) points 0
unfolding owned_from firsts
placed_none d f points long e = record { long = long; counted = refl; few = omega arith; places = λ q l. let z : q ≡ 0 = omega arith in rw z e }

-- ---- one event more

-- the event after those with the owners os, if d owns it
abbrev last : ℕ → ℕ → ℕ → List ℕ
last d o p = cond (eqb o d) (p ∷ []) []

cons_append : (b : Bool) (p : ℕ) (xs ys : List ℕ) → cond b (p ∷ (xs ++ ys)) (xs ++ ys) ≡ cond b (p ∷ xs) xs ++ ys
cons_append true p xs ys = refl
cons_append false p xs ys = refl

owned_snoc : (d p o : ℕ) (os : List ℕ) → owned_from d p (os ++ o ∷ []) ≡ owned_from d p os ++ last d o (p + length os)
unfolding owned_from
owned_snoc d p o [] = ap (last d o) (omega arith)
owned_snoc d p o (x ∷ os) =
    ap (λ xs. cond (eqb x d) (p ∷ xs) xs) (owned_snoc d (suc p) o os ∙ ap (λ q. owned_from d (suc p) os ++ last d o q) (omega arith))
    ∙ cons_append (eqb x d) p (owned_from d (suc p) os) (last d o (p + suc (length os)))

module _ {d : ℕ} {os points : List ℕ} {m : ℕ} (P : Placed d os points m) (o event : ℕ) (there : event ≡ 1 + length os) (room : length os < 40) where
  abbrev list : List ℕ
  list = owned_from d 1 os

  by_owner : (b : Bool) → let x : List ℕ × ℕ = cond b (set points (m + 1) event, m + 1) (points, m) in
      let ys = list ++ cond b ((1 + length os) ∷ []) [] in
      (length x.0 ≡ 41) × (x.1 ≡ length ys) × (x.1 ≤ length os + 1) × ((q : ℕ) → q ≤ x.1 → at x.0 q ≡ get_or (0 ∷ ys) q 0)
  by_owner true = (
    simp length-set P.long,
    omega (arith, P.counted, length-append list ((1 + length os) ∷ [])),
    omega (arith, P.few),
    λ q l. ⊎_elim
        (λ (h : q < m + 1).
        get_or-set_other points (m + 1) q event 0 (λ e. omega arith)
        ∙ P.places q (omega arith)
        ∙ sym (get_or-append (0 ∷ list) ((1 + length os) ∷ []) 0 q (omega (arith, P.counted))))
        (λ (h : m + 1 ≤ q).
        let e : q ≡ m + 1 = omega arith in
        let f : m + 1 ≡ length (0 ∷ list) = omega (arith, P.counted) in
        rw e (get_or-set_same points (m + 1) event 0 (omega (arith, P.long, P.few))
        ∙ there ∙ sym (ap (λ k. get_or ((0 ∷ list) ++ (1 + length os) ∷ []) k 0) f ∙ get_or-append_seam (0 ∷ list) (1 + length os) [] 0)))
        (below_or_not q (m + 1)),
  )
  by_owner false = (
    P.long,
    omega (arith, P.counted, length-append list []),
    omega (arith, P.few),
    λ q l. P.places q l ∙ sym (get_or-append (0 ∷ list) [] 0 q (omega (arith, P.counted))),
  )

  placed_snoc : {points' : List ℕ} {m' : ℕ} → (points', m') ≡ added points m event o d → Placed d (os ++ o ∷ []) points' m'
  placed_snoc {points'} {m'} e =
      let h = by_owner (eqb o d) in
      let p : points' ≡ (added points m event o d).0 = ap (λ (x : List ℕ × ℕ). x.0) e in
      let q : m' ≡ (added points m event o d).1 = ap (λ (x : List ℕ × ℕ). x.1) e in
      rw (p, q) record {
        long = h.0;
        counted = h.1 ∙ ap length (sym (owned_snoc d 1 o os));
        few = omega (arith, h.2, length-append os (o ∷ []));
        places = λ r l. h.3 r l ∙ ap (λ xs. get_or (0 ∷ xs) r 0) (sym (owned_snoc d 1 o os));
      }

pub placed_more : {d : ℕ} (f : ℕ → ℕ) {points points' : List ℕ} {m m' : ℕ} (i : ℕ) → i < 40 → Placed d (firsts i f) points m → (points', m') ≡ added points m (i + 1) (f i) d
    → Placed d (firsts (i + 1) f) points' m'
placed_more {d} f {points} {points'} {m} {m'} i l P e =
    subst (λ os. Placed d os points' m') (sym (firsts_more i f))
    (placed_snoc P (f i) (i + 1) (omega (arith, length_firsts i f)) (omega (arith, length_firsts i f)) e)
