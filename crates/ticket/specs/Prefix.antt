-- A ticket is decided by its first 1,585 bytes: cut there, whatever is longer is read, or refused, as before (`ticket_prefix`). Assumes nothing.
use Prim.Native.Nat.{ℕ, ◌+◌, ◌≤◌}
use Rattle.std.specs.Prelude.{◌≡◌, List, take}
use Rattle.ticket.specs.Parser.{Out, got, refused}
use Rattle.ticket.specs.Parser.{Parser}

-- Of all the bytes the first answer, of the first n the second: the same value, and of what is left the first m bytes, where at most k were read; or the
-- same cause.
abbrev pub Agrees : {A : Type 0} → ℕ → ℕ → Out A → Out A → Type 0
Agrees n k (got x t) o = (m : ℕ) × (n ≤ m + k) × (o ≡ got x (take m t))
Agrees n k (refused c) o = o ≡ refused c

-- p reads at most k bytes: it gives the same answer on any k or more of the first ones.
abbrev pub Reads : {A : Type 0} → ℕ → Parser A → Type 0
Reads {A} k p = (n : ℕ) (s : List ℕ) → k ≤ n → Agrees n k (p s) (p (take n s))
