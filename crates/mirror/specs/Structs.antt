-- The mirror in arrays: what the loops of the code leave, and that the struct they make says the cut mirror. Rests on Cut and on `ticket`'s
-- `content`.
use Rattle.std.specs.Prelude.{◌≡◌, List, ℕ, ◌-◌, ◌≤◌, ◌<◌, ℤ, pos, length, get_or, replicate}
use Rattle.network.specs.Stored.{at}
use Rattle.ticket.specs.declared.Ticket.{Ticket}
use Rattle.mirror.specs.Cut.{cut_mirror_bound}

-- ---- an array whose first places are written anew

-- the first n places hold f, and the others are as they were; d stands for what is no place
pub record Replaced {A : Type 0} (d : A) (n : ℕ) (f : ℕ → A) (xs xs' : List A) : Type 0 where
  pub long : length xs' ≡ length xs
  pub first : (i : ℕ) → i < n → get_or xs' i d ≡ f i
  pub rest : (i : ℕ) → n ≤ i → get_or xs' i d ≡ get_or xs i d

-- ---- windows

-- the first n of them are at most h
abbrev pub Below : ℕ → ℕ → List ℕ → Type 0
Below h n xs = (i : ℕ) → i < n → at xs i ≤ h

-- in the first n places the closes give the opens, and the opens the closes
pub record Exchanged (h n : ℕ) (opens closes opens' closes' : List ℕ) : Type 0 where
  pub opened : Replaced 0 n (λ i. h - at closes i) opens opens'
  pub closed : Replaced 0 n (λ i. h - at opens i) closes closes'

-- ---- the struct

-- the bounds of the first n mirrored rules
abbrev pub Bounds : Ticket → List ℤ → ℕ → Type 0
Bounds t bounds n = Replaced (pos 0) n (λ j. cut_mirror_bound t.horizon (at t.from j) (at t.to j) (get_or t.bound j (pos 0))) (replicate 256 (pos 0)) bounds
