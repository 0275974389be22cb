-- How long the lines and the text of a ring are: 2,200 bytes hold a ring of at most 41 rules (02, change 2), and of a rule with its point at most 53.
-- Rests on Text, on `names` for the length of a name, and on `rings` for the range of a bound.
use Rattle.std.specs.Prelude.{ℕ, zero, suc, ◌*◌, ◌≤◌, ◌<◌, ◌≡◌, true, ℤ, pos, negsuc, nat_abs, length, get_or}
use mathlib.Core.List.{List, [], ◌∷◌}
use native.Mathlib.Omega.{arith}
use Rattle.std.proofs.Common.{length-append}
use Rattle.temporal.specs.Lists.{All}
use Rattle.temporal.specs.Bound.{above, below}
use Rattle.temporal.specs.Ticket.{Ticket, events}
use Rattle.temporal.specs.Run.{Valid}
use Rattle.text.specs.Text.{decimal_length, line}
use Rattle.names.specs.Names.{well_formed}
use Rattle.names.specs.Laws.{name_short}
use Rattle.paths.specs.Rules.{from_of, bound_of, Number}
use Rattle.paths.proofs.Walks.{bound_below, bound_above}
use Rattle.rings.proofs.Printed.{size_valid}
use Rattle.reasons.specs.Text.{signed_decimal, at_line, point_line, rule_line, ring_text}

-- ---- the lines

pub point_size : (owners labels roster : List ℕ) (n : ℕ) → well_formed labels n ≡ true → well_formed roster 5 ≡ true
    → (p : ℕ) → length (point_line owners labels roster p) ≤ 37
unfolding point_line at_line line
point_size owners labels roster n l r zero = omega arith
point_size owners labels roster n l r (suc i) = simp length-append (omega (arith, name_short labels n l i, name_short roster 5 r (get_or owners i 0)))

signed_size : (c : ℤ) → nat_abs c ≤ 1000000 → length (signed_decimal c) ≤ 8
unfolding signed_decimal
signed_size (pos n) h = omega (arith, decimal_length 7 n (omega arith) (omega arith))
signed_size (negsuc n) h = omega (arith, decimal_length 7 (suc n) (omega arith) (omega arith))

pub rule_size : (x : ℕ) (c : ℤ) → x < 1000 → nat_abs c ≤ 1000000 → length (rule_line x c) ≤ 16
unfolding rule_line line
rule_size x c h l = simp length-append (omega (arith, decimal_length 3 x (omega arith) (omega arith), signed_size c l))

-- ---- the text

in_parts : (c : ℤ) → above c ≤ 1000000 → below c ≤ 1000000 → nat_abs c ≤ 1000000
unfolding above below
in_parts (pos n) a b = a
in_parts (negsuc n) a b = b

module _ (k : Ticket) (v : Valid k) where
  -- a bound, of an unwritten rule too, has at most seven digits
  pub bound_small : (x : ℕ) → nat_abs (bound_of k x) ≤ 1000000
  bound_small x = in_parts (bound_of k x) (bound_above k v x) (bound_below k v x)

  module _ (labels roster : List ℕ) (l : well_formed labels (events k) ≡ true) (r : well_formed roster 5 ≡ true) where
    text_room : (ring : List ℕ) → All (Number k) ring → length (ring_text k labels roster ring) ≤ 53 * length ring
    unfolding ring_text
    text_room [] h = omega arith
    text_room (x ∷ xs) h =
        rw (length-append, length-append)
        (omega (
          arith,
          text_room xs h.1,
          point_size k.owners labels roster (events k) l r (from_of k x),
          rule_size x (bound_of k x) (omega (arith, h.0.1, size_valid k v)) (bound_small x),
        ))

    -- 2,200 bytes hold the text of a ring of at most 41 rules
    pub text_size : (ring : List ℕ) → All (Number k) ring → length ring ≤ 41 → length (ring_text k labels roster ring) ≤ 2200
    text_size ring h few = omega (arith, text_room ring h)
