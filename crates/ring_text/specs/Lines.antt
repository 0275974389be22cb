-- What the contracts and the proofs of the writers cite: the lines as the code puts them, and what holds of the first rule that is left.
-- Rests on Sheet, on `reasons` for the lines and their lengths, and on `names` for what a list holds.
use Prim.Native.Nat.{ℕ, suc, ◌-◌, ◌≤◌}
use Rattle.std.specs.Prelude.{◌≡◌, refl, true, false, List, [], ◌∷◌, ◌++◌, ℤ, pos, negsuc, nat_abs, length, get_or}
use Rattle.std.proofs.Math.Path.{ap}
use Rattle.std.proofs.Common.{le-ltb}
use native.Mathlib.Omega.{arith}
use Rattle.std.specs.Int.Signed.{lt_z}
use Rattle.names.specs.Names.{name_at, HasName}
use Rattle.names.specs.Laws.{has_name}
use Rattle.text.specs.Text.{decimal, line}
use Rattle.reasons.specs.Text.{signed_decimal, at_line, point_line, rule_line}
use Rattle.reasons.proofs.Size.{point_size, rule_size}
use Rattle.ring_text.specs.Sheet.{Sheet, from_in, bound_in, start_line, point_text, Writable, point_known, bound_known}

-- a bound with its sign: as it is, or '-' and how far it is below 0
pub signed_low : (z : ℤ) → lt_z z (pos 0) ≡ false → decimal (nat_abs z) ≡ signed_decimal z
unfolding signed_decimal
signed_low (pos n) e = refl
signed_low (negsuc n) e = absurd (let x : ◌≡◌ {A = ℕ} 0 1 = cc in omega arith)

pub signed_high : (z : ℤ) → lt_z z (pos 0) ≡ true → 45 ∷ decimal (nat_abs z) ≡ signed_decimal z
unfolding signed_decimal
signed_high (pos n) e = absurd (let x : ◌≡◌ {A = ℕ} 0 1 = cc (le-ltb n 0 (omega arith)) in omega arith)
signed_high (negsuc n) e = refl

-- the point p has a label and a device, if it is an event
pub record Pointed (s : Sheet) (p : ℕ) : Type 0 where
  pub few : p ≤ 40
  pub label : 1 ≤ p → HasName s.labels (p - 1)
  pub device : 1 ≤ p → HasName s.roster (get_or s.owners (p - 1) 0)

-- the lines as the code puts them
module _ (owners labels roster : List ℕ) (p : ℕ) where
  pub line_start : p ≡ 0 → point_line owners labels roster p ≡ 97 ∷ 116 ∷ 32 ∷ 115 ∷ 116 ∷ 97 ∷ 114 ∷ 116 ∷ 10 ∷ []
  unfolding point_line line
  line_start e = rw e

  pub line_event : 1 ≤ p → point_line owners labels roster p ≡ at_line (name_at labels (p - 1)) (name_at roster (get_or owners (p - 1) 0))
  unfolding point_line
  line_event h =
      let e : p ≡ suc (p - 1) = omega arith in
      ap (point_line owners labels roster) e

pub line_names : (label device : List ℕ) → at_line label device ≡ 97 ∷ 116 ∷ 32 ∷ (label ++ 32 ∷ (device ++ 10 ∷ []))
unfolding at_line line
line_names label device = refl

pub line_rule : (x : ℕ) (c : ℤ) → rule_line x c ≡ 98 ∷ 121 ∷ 32 ∷ (decimal x ++ 32 ∷ (signed_decimal c ++ 10 ∷ []))
unfolding rule_line line
line_rule x c = refl

-- where no rule is left, no text is
pub text_done : (s : Sheet) (ring : List ℕ) → length ring ≡ 0 → point_text s ring ≡ []
unfolding point_text
text_done s [] h = refl
text_done s (x ∷ xs) h = absurd (omega arith)

-- ---- the first rule that is left

module _ {s : Sheet} {x : ℕ} {xs : List ℕ} (r : Writable s (x ∷ xs)) where
  -- the same sheet with the rules after it
  pub writable_rest : Writable s xs
  writable_rest =
      record {
        events = r.events;
        events_limit = r.events_limit;
        horizon_limit = r.horizon_limit;
        rules_limit = r.rules_limit;
        owners_known = r.owners_known;
        from_points = r.from_points;
        bounds_small = r.bounds_small;
        labels_listed = r.labels_listed;
        roster_listed = r.roster_listed;
        numbers = r.numbers.1;
      }

  -- the line of the rule is not longer than 16
  pub rule_short : length (rule_line x (bound_in s x)) ≤ 16
  rule_short = rule_size x (bound_in s x) (omega (arith, r.numbers.0.1, r.rules_limit, r.events_limit)) (bound_known s (x ∷ xs) r x r.numbers.0.0 r.numbers.0.1)

  -- the line of its point is not longer than 37
  pub start_short : length (start_line s x) ≤ 37
  start_short = point_size s.owners s.labels s.roster r.events r.labels_listed r.roster_listed (from_in s x)

  -- its point has names
  pub start_pointed : Pointed s (from_in s x)
  start_pointed =
      let k = point_known s (x ∷ xs) r x r.numbers.0.0 r.numbers.0.1 in
      record {
        few = omega (arith, k, r.events_limit);
        label = λ (g : 1 ≤ from_in s x). has_name s.labels r.events (from_in s x - 1) r.labels_listed (omega (arith, k));
        device = λ (g : 1 ≤ from_in s x). has_name s.roster 5 (get_or s.owners (from_in s x - 1) 0) r.roster_listed (omega (arith, r.owners_known (from_in s x - 1) (omega (arith, k))));
      }
