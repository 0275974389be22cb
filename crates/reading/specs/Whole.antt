-- A reading with nothing after it, once for tickets and records. Assumes nothing.
use Rattle.std.specs.Prelude.{ℕ, ◌+◌, ◌≤◌, ◌<◌, ◌≡◌, refl, List, [], ◌∷◌, length, Ok, Err}
use Rattle.std.proofs.Common.{ap, arith, length-append}
use Rattle.ticket.specs.Parser.{got, Parser, then, end, wholly}
use Rattle.ticket.specs.Refusal.{answer}
use Rattle.ticket.specs.RoundTrip.{Bytes, Back}
use Rattle.ticket.specs.declared.Refusal.TheVariants.{Trailing}

-- p reads what w writes, in `size` bytes, and has read a with the bytes u after it.
module _ {A B : Type 0} (w : A → List ℕ) (P : A → Type 0) (p : Parser A) (back : Back w P p) (size : A → ℕ) (long : (a : A) → P a → length (w a) ≡ size a)
    (f : A → B) (s : List ℕ) (h : Bytes s) (a : A) (u : List ℕ) (q : p s ≡ got a u) where
  pub room : length s ≡ size a + length u
  room =
      let b = back s a u h q in
      omega (arith, ap length b.0, length-append (w a) u, long a b.2)

  pub whole_trailing : size a < length s → Err Trailing ≡ answer f (wholly p s)
  whole_trailing l = rw q (go u room)
    where
      go : (t : List ℕ) → length s ≡ size a + length t → Err Trailing ≡ answer f (then (end t) (λ x. got a))
      go [] r = absurd (omega arith)
      go (b ∷ t) r = refl

  pub whole_done : length s ≤ size a → Ok (f a) ≡ answer f (wholly p s)
  whole_done l = rw q (go u room)
    where
      go : (t : List ℕ) → length s ≡ size a + length t → Ok (f a) ≡ answer f (then (end t) (λ x. got a))
      go [] r = refl
      go (b ∷ t) r = absurd (omega arith)
