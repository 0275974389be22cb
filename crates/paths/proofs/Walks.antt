-- The laws of what specs/Walks defines.
use Rattle.std.specs.Prelude.{◌≡◌, ℕ, zero, suc, ◌+◌, ◌*◌, ◌-◌, ◌≤◌, ◌<◌, ℤ, pos, negsuc, ◌+ℤ◌, ◌≤ℤ◌, length, get_or}
use Rattle.std.proofs.Math.Path.{refl}
use Rattle.std.proofs.Common.{sym, ap, ◌∙◌, subst, add-zero, get_or-append-add}
use mathlib.Core.List.{List, [], ◌∷◌, ◌++◌}
use native.Mathlib.Omega.{arith}
use Rattle.std.proofs.Math.IntN.{sub_ℕ}
use Rattle.std.proofs.Math.ListN.{get_or-append}
use Rattle.temporal.specs.Lists.{All}
use Rattle.temporal.proofs.Lists.{All-map, All-at, All-join}
use Rattle.temporal.specs.Bound.{AtMost, above, below}
use Rattle.temporal.proofs.Bound.{above_most, below_most, signed}
use Rattle.temporal.specs.Ticket.{Rule, Ticket, events, time, Schedule}
use Rattle.temporal.specs.Run.{ValidRule, Valid}
use Rattle.temporal.specs.DistanceLaws.{Points}
use Rattle.temporal.proofs.DistanceLaws.{parts, from_parts, inside}
use Rattle.paths.specs.Rules.{back, out, unwritten, all_rules, rule_at, from_of, to_of, bound_of, Walk, sum}
use Rattle.paths.specs.Walks.{downs, ups}

-- ---- walks, joined and cut

module _ (k : Ticket) where
  pub walk_join : (a b : List ℕ) (p x q : ℕ) → Walk k p a x → Walk k x b q → Walk k p (a ++ b) q
  walk_join [] b p x q h g = subst (λ y. Walk k y b q) (sym h) g
  walk_join (e ∷ es) b p x q h g = (h.0, walk_join es b (to_of k e) x q h.1 g)

  pub walk_cut : (a b : List ℕ) (p q : ℕ) → Walk k p (a ++ b) q → (x : ℕ) × Walk k p a x × Walk k x b q
  walk_cut [] b p q h = (p, refl, h)
  walk_cut (e ∷ es) b p q h =
      let r = walk_cut es b (to_of k e) q h.1 in
      (r.0, (h.0, r.1), r.2)

pub ups_join : (k : Ticket) (a b : List ℕ) → ups k (a ++ b) ≡ ups k a + ups k b
unfolding ups
ups_join k [] b = omega arith
ups_join k (e ∷ es) b = omega (arith, ups_join k es b)

pub downs_join : (k : Ticket) (a b : List ℕ) → downs k (a ++ b) ≡ downs k a + downs k b
unfolding downs
downs_join k [] b = omega arith
downs_join k (e ∷ es) b = omega (arith, downs_join k es b)

add_parts : (a b : ℤ) → above (a +ℤ b) + (below a + below b) ≡ below (a +ℤ b) + (above a + above b)
unfolding above below
add_parts (pos a) (pos b) = omega arith
add_parts (pos a) (negsuc b) = omega (arith, parts a (suc b))
add_parts (negsuc a) (pos b) = omega (arith, parts b (suc a))
add_parts (negsuc a) (negsuc b) = omega arith

pub sum_parts : (k : Ticket) (es : List ℕ) → above (sum k es) + downs k es ≡ below (sum k es) + ups k es
unfolding ups downs
sum_parts k [] = unfold above below in refl
sum_parts k (e ∷ es) = omega (arith, add_parts (bound_of k e) (sum k es), sum_parts k es)

-- the sum, stored higher by `base`, is x, or at least x
pub sum_is : (k : Ticket) (es : List ℕ) (base x : ℕ) → x + downs k es ≡ base + ups k es → sum k es ≡ sub_ℕ x base
sum_is k es base x e = from_parts (sum k es) x base (omega (arith, sum_parts k es))

pub sum_least : (k : Ticket) (es : List ℕ) (base x : ℕ) → x + downs k es ≤ base + ups k es → sub_ℕ x base ≤ℤ sum k es
sum_least k es base x l = (signed base x (sum k es)).1 (omega (arith, sum_parts k es))

-- ---- what holds of every rule

all_unwritten : (P : Rule → Type 0) (h i n : ℕ) → ((j : ℕ) → i ≤ j → j < i + n → P (back j) × P (out h j)) → All P (unwritten h i n)
unfolding unwritten
all_unwritten P h i zero f = tt
all_unwritten P h i (suc n) f =
    let b = f i (omega arith) (omega arith) in
    (b.0, (b.1, all_unwritten P h (suc i) n (λ j l g. f j (omega arith) (omega arith))))

-- by the number: of the written rules, of 0 to 0: 0, which stands where there is no rule, and of the two unwritten ones of every event
pub rule_all : (P : Rule → Type 0) (k : Ticket) → All P k.rules → P (back 0) → ((i : ℕ) → 1 ≤ i → i ≤ events k → P (back i) × P (out k.horizon i))
    → (e : ℕ) → P (rule_at k e)
unfolding rule_at all_rules
rule_all P k h z f zero = z
rule_all P k h z f (suc i) = All-at P (back 0) z (k.rules ++ unwritten k.horizon 1 (events k))
    (All-join P k.rules (unwritten k.horizon 1 (events k)) h (all_unwritten P k.horizon 1 (events k) (λ j l g. f j l (omega arith)))) i

-- every rule goes from a point of the ticket to one
pub rule_points : (k : Ticket) → Points k → (e : ℕ) → (from_of k e ≤ events k) × (to_of k e ≤ events k)
rule_points k points e = rule_all (λ (r : Rule). (r.from ≤ events k) × (r.to ≤ events k)) k points (omega arith) (λ i l h. ((h, omega arith), (omega arith, h))) e

module _ (k : Ticket) (v : Valid k) where
  pub valid_points : Points k
  valid_points = All-map (λ (r : Rule) (h : ValidRule (events k) r). (h.from_point, h.to_point)) k.rules v.rules_valid

  -- the bound of every rule lies between -1,000,000 and 1,000,000
  pub bound_below : (e : ℕ) → below (bound_of k e) ≤ 1000000
  unfolding below
  bound_below e = rule_all (λ (r : Rule). below r.bound ≤ 1000000) k
      (All-map (λ (r : Rule) (h : ValidRule (events k) r). below_most r.bound h.at_least) k.rules v.rules_valid)
      (omega arith) (λ i a b. (omega arith, omega arith)) e

  pub bound_above : (e : ℕ) → above (bound_of k e) ≤ 1000000
  unfolding above
  bound_above e = rule_all (λ (r : Rule). above r.bound ≤ 1000000) k
      (All-map (λ (r : Rule) (h : ValidRule (events k) r). above_most r.bound h.at_most) k.rules v.rules_valid)
      (omega arith) (λ i a b. (omega arith, v.horizon_limit)) e

  -- so no sum is above a million for each of its rules
  pub ups_most : (es : List ℕ) → ups k es ≤ length es * 1000000
  unfolding ups
  ups_most [] = omega arith
  ups_most (e ∷ es) = omega (arith, bound_above e, ups_most es)

-- ---- the numbers: 1 to m in ticket order, m + 2 × i - 1 for "i to 0: 0", m + 2 × i for "0 to i: H"

pub rule_written : (k : Ticket) (i : ℕ) → i < length k.rules → rule_at k (suc i) ≡ get_or k.rules i (back 0)
unfolding rule_at all_rules
rule_written k i l = get_or-append k.rules (unwritten k.horizon 1 (events k)) (back 0) i l

twice : (j : ℕ) → 2 * suc j ≡ suc (suc (2 * j))
twice j = omega arith

at_unwritten : (h i n j : ℕ) → j < n → (get_or (unwritten h i n) (2 * j) (back 0) ≡ back (i + j)) × (get_or (unwritten h i n) (suc (2 * j)) (back 0) ≡ out h (i + j))
unfolding unwritten
at_unwritten h i zero j l = absurd (omega arith)
at_unwritten h i (suc n) zero l = (ap back (sym (add-zero i)), ap (out h) (sym (add-zero i)))
at_unwritten h i (suc n) (suc j) l =
    let r = at_unwritten h (suc i) n j (omega arith) in
    let e : suc i + j ≡ i + suc j = omega arith in
    (rw (twice j) (r.0 ∙ ap back e), rw (twice j) (r.1 ∙ ap (out h) e))

pub rule_back : (k : Ticket) (i : ℕ) → 1 ≤ i → i ≤ events k → rule_at k (length k.rules + 2 * i - 1) ≡ back i
unfolding rule_at all_rules
rule_back k zero l h = absurd (omega arith)
rule_back k (suc j) l h =
    let e : length k.rules + 2 * suc j - 1 ≡ suc (length k.rules + 2 * j) = omega arith in
    let s : 1 + j ≡ suc j = omega arith in
    rw e (get_or-append-add k.rules (unwritten k.horizon 1 (events k)) (2 * j) (back 0) ∙ (at_unwritten k.horizon 1 (events k) j h).0 ∙ ap back s)

pub rule_out : (k : Ticket) (i : ℕ) → 1 ≤ i → i ≤ events k → rule_at k (length k.rules + 2 * i) ≡ out k.horizon i
unfolding rule_at all_rules
rule_out k zero l h = absurd (omega arith)
rule_out k (suc j) l h =
    let e : length k.rules + 2 * suc j ≡ suc (length k.rules + suc (2 * j)) = omega arith in
    let s : 1 + j ≡ suc j = omega arith in
    rw e (get_or-append-add k.rules (unwritten k.horizon 1 (events k)) (suc (2 * j)) (back 0) ∙ (at_unwritten k.horizon 1 (events k) j h).1 ∙ ap (out k.horizon) s)

-- ---- walks and schedules

-- in a schedule every rule holds, the unwritten ones too
schedule_rule : (k : Ticket) (ts : List ℕ) → Schedule k ts → (e : ℕ) → AtMost (time ts (from_of k e)) (time ts (to_of k e)) (bound_of k e)
unfolding above below
schedule_rule k ts s e = rule_all (λ (r : Rule). AtMost (time ts r.from) (time ts r.to) r.bound) k s.obeys
    ((signed 0 0 (pos 0)).1 (omega arith))
    (λ i l h. ((signed (time ts i) 0 (pos 0)).1 (omega arith), (signed 0 (time ts i) (pos k.horizon)).1 (omega (arith, inside k ts s i)))) e

-- so from p to q it has no more than the sum of any walk: along it the times in between cancel
pub schedule_walk : (k : Ticket) (ts : List ℕ) → Schedule k ts → (p : ℕ) (es : List ℕ) (q : ℕ) → Walk k p es q → time ts q + downs k es ≤ time ts p + ups k es
unfolding ups downs
schedule_walk k ts s p [] q w = omega (arith, ap (time ts) w)
schedule_walk k ts s p (e ∷ es) q w =
    let one = (signed (time ts (from_of k e)) (time ts (to_of k e)) (bound_of k e)).0 (schedule_rule k ts s e) in
    omega (arith, ap (time ts) w.0, one, schedule_walk k ts s (to_of k e) es q w.1)
