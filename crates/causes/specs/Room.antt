-- Whether the output and the scratch have room: what `short` answers, in the terms of crate `runs`.
use Rattle.std.proofs.Math.Path.{◌≡◌, refl}
use Rattle.std.proofs.Common.{sym, ◌∙◌, ⊎_elim, arith, le-leb, lt-ltb, le-ltb}
use Rattle.std.specs.Prelude.{Bool, ◌&&◌, List, ℕ, ◌≤◌, ◌<◌, ltb, length}
use Rattle.std.proofs.Math.Bool.{true, false, not}
use Rattle.std.proofs.lemmas.Bool.{lt-leb}
use Rattle.std.proofs.Math.Dec.{leb, leb→le}
use Rattle.temporal.proofs.Lists.{T-pair, below_or_not}
use Rattle.runs.specs.Calls.{room}

-- a test and its opposite
pub ltb_leb : (m n : ℕ) → ltb m n ≡ not (leb n m)
ltb_leb m n = ⊎_elim (λ (l : m < n). rw (lt-ltb m n l, lt-leb n m l)) (λ (l : n ≤ m). rw (le-ltb m n l, le-leb n m l)) (below_or_not m n)

-- what `short` says of the output and the scratch
module _ (out scratch : List ℕ) {r : Bool} (e : r ≡ not (leb 1958 (length out) && leb 2400 (length scratch))) where
  pub short_room : r ≡ true → room out scratch ≡ false
  unfolding room
  short_room q = by (leb 1958 (length out) && leb 2400 (length scratch)) (sym e ∙ q)
    where
      by : (b : Bool) → not b ≡ true → b ≡ false
      by true h = absurd (let z : ◌≡◌ {A = ℕ} 0 1 = cc in omega arith)
      by false h = refl

  pub long_room : r ≡ false → room out scratch ≡ true
  unfolding room
  long_room q = by (leb 1958 (length out) && leb 2400 (length scratch)) (sym e ∙ q)
    where
      by : (b : Bool) → not b ≡ false → b ≡ true
      by true h = refl
      by false h = absurd (let z : ◌≡◌ {A = ℕ} 0 1 = cc in omega arith)

  pub long_enough : r ≡ false → (1958 ≤ length out) × (2400 ≤ length scratch)
  unfolding room
  long_enough q =
      let p = T-pair (leb 1958 (length out)) (leb 2400 (length scratch)) (rw (long_room q) tt) in
      (leb→le 1958 (length out) p.0, leb→le 2400 (length scratch) p.1)
