-- Reading the text of a ring back: "from the text alone the ring's rule numbers and bounds can be read back in one way only" (02, change 2).
-- Rests on Text, and on `names` for what a name's bytes are.
use Prim.Native.Nat.{ℕ, zero, suc, ◌+◌, ◌*◌, ◌-◌}
use Rattle.std.specs.Prelude.{cond, ◌&&◌, leb, eqb, ℤ, pos, negsuc, length, drop}
use mathlib.Core.List.{List, [], ◌∷◌, map}
use Rattle.temporal.specs.Ticket.{Ticket}
use Rattle.paths.specs.Rules.{bound_of}

-- ---- the reader

-- the text after a line
unfoldable pub skip_line : List ℕ → List ℕ
skip_line [] = []
skip_line (b ∷ s) = cond (eqb b 10) s (skip_line s)

-- the digits at the start of s, after digits that make n, as a number; and the text after the byte that ends them
unfoldable pub read_number : ℕ → List ℕ → ℕ × List ℕ
read_number n [] = (n, [])
read_number n (b ∷ s) = cond (leb 48 b && leb b 57) (read_number (10 * n + (b - 48)) s) (n, s)

abbrev pub plus : ℕ × List ℕ → ℤ × List ℕ
plus p = (pos p.0, p.1)

abbrev pub minus : ℕ × List ℕ → ℤ × List ℕ
minus p = (negsuc (p.0 - 1), p.1)

-- the same with a sign
unfoldable pub read_signed : List ℕ → ℤ × List ℕ
read_signed [] = (pos 0, [])
read_signed (b ∷ s) = cond (eqb b 45) (minus (read_number 0 s)) (plus (read_number 0 (b ∷ s)))

-- a point line is passed over; after "by " the rule line has the number and the bound. At most k rules are read
unfoldable pub read_rules : ℕ → List ℕ → List (ℕ × ℤ)
read_rules zero s = []
read_rules (suc k) [] = []
read_rules (suc k) (b ∷ s) =
    let n = read_number 0 (drop 3 (skip_line (b ∷ s))) in
    let c = read_signed n.1 in
    (n.0, c.0) ∷ read_rules k c.1

-- the numbers and the bounds that a text tells: it has no more rules than bytes
unfoldable pub read_text : List ℕ → List (ℕ × ℤ)
read_text s = read_rules (length s) s

-- the numbers and the bounds of a ring
abbrev pub steps : Ticket → List ℕ → List (ℕ × ℤ)
steps k ring = map (λ x. (x, bound_of k x)) ring
