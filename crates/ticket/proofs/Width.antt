-- The laws of what specs/Width defines.
use Prim.Native.Nat.{ℕ, zero, suc, ◌+◌, ◌*◌}
use Rattle.std.specs.Prelude.{◌≡◌, refl, List, [], ◌∷◌, Bool, true, false, length, drop}
use Rattle.std.proofs.Math.Path.{sym, subst}
use Rattle.std.proofs.Common.{ap, ◌∙◌, zero-mul, arith, length-drop, drop-drop}
use Rattle.std.proofs.Math.Nat.{suc-mul}
use Rattle.ticket.specs.Parser.{Cause, Out, got, refused, Parser, then, ◌>>=◌, give, expect, byte, little, many}
use Rattle.ticket.specs.Width.{Fixed}

-- A reading is not both refused and done.
pub not_got : {A : Type 0} {k : Cause} {x : A} {t : List ℕ} → refused k ≡ got x t → ⊥
not_got e = let z : ◌≡◌ {A = ℕ} 0 1 = cc in omega arith

-- Two readings, one after the other, are done only if both are.
pub then_got : {A B : Type 0} (o : Out A) (f : A → Parser B) (y : B) (u : List ℕ) → then o f ≡ got y u
    → (x : A) × (t : List ℕ) × (o ≡ got x t) × (f x t ≡ got y u)
then_got (got x t) f y u e = (x, t, refl, e)
then_got (refused k) f y u e = absurd (not_got e)

-- The same, for a proof that goes on with what the first one read.
pub stage : {A B G : Type 0} (p : Parser A) (f : A → Parser B) (s : List ℕ) (y : B) (u : List ℕ) → then (p s) f ≡ got y u
    → ((x : A) (t : List ℕ) → p s ≡ got x t → f x t ≡ got y u → G) → G
stage {A} {B} {G} p f s y u e next = go (p s) refl e
  where
    go : (o : Out A) → p s ≡ o → then o f ≡ got y u → G
    go (got x t) q g = next x t q g
    go (refused k) q g = absurd (not_got g)

pub byte_fixed : Fixed 1 byte
byte_fixed [] x t e = absurd (not_got e)
byte_fixed (b ∷ s) x t e = (cc, omega arith)

pub give_fixed : {A : Type 0} (x : A) → Fixed 0 (give x)
give_fixed x s y t e = (cc, omega arith)

pub expect_fixed : (b : Bool) (k : Cause) → Fixed 0 (expect b k)
expect_fixed true k s x t e = (cc, omega arith)
expect_fixed false k s x t e = absurd (not_got e)

pub bind_fixed : {A B : Type 0} (j k : ℕ) (p : Parser A) (f : A → Parser B) → Fixed j p → ((x : A) → Fixed k (f x)) → Fixed (j + k) (p >>= f)
bind_fixed j k p f hp hf s y u e =
    let (x, t, a, b) = then_got (p s) f y u e in
    let g = hp s x t a in
    let h = hf x t y u b in
    (h.0 ∙ ap (drop k) g.0 ∙ drop-drop k j s, omega (arith, g.1, h.1, ap length g.0, length-drop j s))

pub little_fixed : (k : ℕ) → Fixed k (little k)
unfolding little
little_fixed zero = give_fixed 0
little_fixed (suc k) =
    let e : 1 + (k + 0) ≡ suc k = omega arith in
    subst (λ (n : ℕ). Fixed n (little (suc k))) e
    (bind_fixed 1 (k + 0) byte _ byte_fixed (λ b. bind_fixed k 0 (little k) _ (little_fixed k) (λ x. give_fixed (b + 256 * x))))

module _ {A : Type 0} (j : ℕ) (p : Parser A) (hp : Fixed j p) where
  pub many_fixed : (m : ℕ) → Fixed (m * j) (many p m)
  unfolding many
  many_fixed zero =
      let e : 0 ≡ 0 * j = sym (zero-mul j) in
      subst (λ (n : ℕ). Fixed n (many p 0)) e (give_fixed [])
  many_fixed (suc m) =
      let e : j + (m * j + 0) ≡ suc m * j = omega (arith, suc-mul m j) in
      subst (λ (n : ℕ). Fixed n (many p (suc m))) e
      (bind_fixed j (m * j + 0) p _ hp (λ x. bind_fixed (m * j) 0 (many p m) _ (many_fixed m) (λ xs. give_fixed (x ∷ xs))))

-- As many are read as were asked for.
pub many_length : {A : Type 0} (p : Parser A) (m : ℕ) (s : List ℕ) (xs : List A) (t : List ℕ) → many p m s ≡ got xs t → length xs ≡ m
unfolding many
many_length p zero s xs t e = ap length (let x : xs ≡ [] = cc in x)
many_length p (suc m) s xs t e =
    let (x, t₁, a, b) = then_got (p s) _ xs t e in
    let (ys, t₂, a₂, b₂) = then_got (many p m t₁) _ xs t b in
    let i = many_length p m t₁ ys t₂ a₂ in
    let same : xs ≡ x ∷ ys = cc in
    rw same (ap suc i)
