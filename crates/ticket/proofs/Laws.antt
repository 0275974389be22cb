-- The laws of what specs/Laws defines.
use Prim.Native.Nat.{ℕ, zero, suc, ◌+◌, ◌*◌, ◌-◌, ◌≤◌, ◌<◌}
use Rattle.std.specs.Prelude.{◌≡◌, refl, List, [], ◌∷◌, ◌++◌, map, ◌≢◌, set, drop}
use Rattle.std.proofs.Common.{sym, ap, ◌∙◌, append_assoc, append-nil, le_of_suc-le-suc, add-one, drop-cons}
use Rattle.std.proofs.lemmas.List.{map-append, length-map}
use native.Mathlib.Omega.{arith}
use Rattle.std.proofs.Math.ListN.{length, get_or, length-append}
use Rattle.std.proofs.Math.Seq.{set-append_seam}
use Rattle.ticket.specs.Parser.{Cause, short, horizon, events, owner, rules, points, bound, trailing, room, layout, number, Out, got, refused, Parser, then, give, byte, little, many}
use Rattle.ticket.specs.Stored.{pad}
use Rattle.ticket.specs.Laws.{after}

-- A cause's number is not 0.
pub number_some : (k : Cause) → 0 < number k
unfolding number
number_some short = omega arith
number_some horizon = omega arith
number_some events = omega arith
number_some owner = omega arith
number_some rules = omega arith
number_some points = omega arith
number_some bound = omega arith
number_some trailing = omega arith
number_some room = omega arith
number_some layout = omega arith

-- Nor is it 9, the number of a ticket with no schedule.
pub number_not_nine : (k : Cause) → number k ≢ 9
unfolding number
number_not_nine short = omega arith
number_not_nine horizon = omega arith
number_not_nine events = omega arith
number_not_nine owner = omega arith
number_not_nine rules = omega arith
number_not_nine points = omega arith
number_not_nine bound = omega arith
number_not_nine trailing = omega arith
number_not_nine room = omega arith
number_not_nine layout = omega arith

-- ---- one field

pub byte_at : (s : List ℕ) (at : ℕ) → at < length s → byte (drop at s) ≡ got (get_or s at 0) (drop (at + 1) s)
byte_at s at h = rw (add-one, drop-cons s at 0)

pub little_short : (k : ℕ) (s : List ℕ) → length s < k → little k s ≡ refused short
unfolding little
little_short zero s h = absurd (omega arith)
little_short (suc k) [] h = refl
little_short (suc k) (b ∷ s) h = rw (little_short k s (le_of_suc-le-suc h))

-- A number of two bytes, and of four, by the bytes at the place `at`.
module _ (s : List ℕ) (at x : ℕ) where
  pub little2_at : at + 2 ≤ length s → x ≡ get_or s at 0 + 256 * get_or s (at + 1) 0 → little 2 (drop at s) ≡ got x (drop (at + 2) s)
  unfolding little
  little2_at h e =
      let v : get_or s at 0 + 256 * (get_or s (at + 1) 0 + 256 * 0) ≡ x = omega arith in
      let e2 : at + 1 + 1 ≡ at + 2 = omega arith in
      rw (byte_at s at (omega arith), byte_at s (at + 1) (omega arith), v, e2)

  pub little4_at : at + 4 ≤ length s
      → x ≡ get_or s at 0 + 256 * (get_or s (at + 1) 0 + 256 * (get_or s (at + 2) 0 + 256 * get_or s (at + 3) 0))
      → little 4 (drop at s) ≡ got x (drop (at + 4) s)
  unfolding little
  little4_at h e =
      let e2 : at + 1 + 1 ≡ at + 2 = omega arith in
      let e3 : at + 2 + 1 ≡ at + 3 = omega arith in
      let e4 : at + 3 + 1 ≡ at + 4 = omega arith in
      let v : get_or s at 0 + 256 * (get_or s (at + 1) 0 + 256 * (get_or s (at + 2) 0 + 256 * (get_or s (at + 3) 0 + 256 * 0))) ≡ x = omega arith in
      rw (byte_at s at (omega arith), byte_at s (at + 1) (omega arith), e2, byte_at s (at + 2) (omega arith), e3, byte_at s (at + 3) (omega arith), v, e4)

pub after_none : {A : Type 0} (o : Out (List A)) → after [] o ≡ o
after_none (got ys s) = refl
after_none (refused k) = refl

pub after_cons : {A : Type 0} (xs : List A) (x : A) (o : Out (List A)) → after xs (then o (λ ys. give (x ∷ ys))) ≡ after (xs ++ x ∷ []) o
after_cons xs x (got ys s) = rw append_assoc
after_cons xs x (refused k) = refl

module _ {A : Type 0} (p : Parser A) (m i : ℕ) (xs : List A) (s : List ℕ) where
  pub many_more : (x : A) (s' : List ℕ) → i < m → p s ≡ got x s'
      → after xs (many p (m - i) s) ≡ after (xs ++ x ∷ []) (many p (m - (i + 1)) s')
  unfolding many
  many_more x s' l e =
      let k : m - i ≡ suc (m - (i + 1)) = omega arith in
      rw (k, e) (after_cons xs x (many p (m - (i + 1)) s'))

  pub many_stop : (k : Cause) → i < m → p s ≡ refused k → after xs (many p (m - i) s) ≡ refused k
  unfolding many
  many_stop k l e =
      let j : m - i ≡ suc (m - (i + 1)) = omega arith in
      rw (j, e)

  pub many_done : m ≤ i → after xs (many p (m - i) s) ≡ got xs s
  unfolding many
  many_done l =
      let j : m - i ≡ 0 = omega arith in
      rw (j, append-nil)

-- ---- padding

module _ {A : Type 0} (z : A) (k : ℕ) (xs : List A) where
  pub pad_set : (i : ℕ) (x : A) → length xs ≡ i → i < k → set (pad z k xs) i x ≡ pad z k (xs ++ x ∷ [])
  unfolding pad
  pad_set i x e l =
      let j : k - length xs ≡ suc (k - length (xs ++ x ∷ [])) = omega (arith, length-append xs (x ∷ [])) in
      rw (← e, j, append_assoc) (set-append_seam xs z _ x)

-- The same of one field of the elements.
pub pad_map : {A B : Type 0} (f : A → B) (z : B) (k : ℕ) (xs : List A) (i : ℕ) (x : A) → length xs ≡ i → i < k
    → set (pad z k (map f xs)) i (f x) ≡ pad z k (map f (xs ++ x ∷ []))
pad_map f z k xs i x e l = pad_set z k (map f xs) i (f x) (length-map xs f ∙ e) l ∙ ap (pad z k) (sym (map-append f xs (x ∷ [])))
