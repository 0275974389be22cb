-- The loops over lent rules, and the test of a rule. Assumes nothing.
use Rattle.std.specs.Prelude.{ℕ, zero, suc, ◌+◌, ◌*◌, ◌≤◌, ◌<◌, min, ◌≡◌, refl, ◌||◌, not, List, [], ◌∷◌, ◌++◌, map, ℤ, pos, negsuc, length, get_or, drop, take, set, Result}
use Rattle.std.specs.Int.Signed.{lt_z}
use Rattle.std.proofs.Common.{sym, ap, ap₂, ◌∙◌, add-one, arith, drop-cons, get_or-set_same, get_or-set_other}
use borrow.Author.Tests.{lt-ltb, le-ltb, lt-leb, le-leb, eq-eqb, ne_eqb}
use Rattle.std.proofs.Math.Seq.{drop-length}
use Rattle.std.proofs.Math.ListN.{get_or-map}
use Rattle.std.proofs.lemmas.List.{length-map, take_more_set, map-append}
use Rattle.temporal.specs.Lists.{All, tab}
use Rattle.temporal.proofs.Lists.{All-below, All-map}
use Rattle.temporal.specs.Ticket.{Rule}
use Rattle.temporal.specs.Run.{ValidRule}
use Rattle.temporal.specs.Table.{rule_cause, rules_cause}
use Rattle.temporal.proofs.TableCauses.{rules_end, rules_pass, rules_stop}
use Rattle.ticket.specs.Format.{within, rule_test}
use Rattle.ticket.specs.Refusal.{tested, answer_number}
use Rattle.ticket.specs.declared.Refusal.{Refusal}
use Rattle.closure.specs.Cases.{by_bool, by_lt, by_eq}
use Rattle.closure.specs.Signed.{raise}
use Rattle.closure.specs.Matrix.{entry, Everywhere}
use Rattle.closure.specs.Start.{plain, unused, rule_at, ruled, weight_at, weight_cases, ruled_top}
use Rattle.table.specs.Lent.{rule_of, flat_at, rules_of}
use Rattle.table.specs.declared.Rule.{Rule as Lent}

-- Lent rules by index; past the end stands a rule that is not used.
abbrev pub lent_at : List Lent → ℕ → Lent
lent_at rules e = get_or rules e (record { from = 0; to = 0; bound = pos 0 })

pub at_lent : (rules : List Lent) (e : ℕ) → rule_at (map rule_of rules) e ≡ rule_of (lent_at rules e)
at_lent rules e = get_or-map rule_of rules e (record { from = 0; to = 0; bound = pos 0 })

-- ---- the test of a rule

out_of_range : (z : ℤ) → (lt_z z (negsuc 999999) || lt_z (pos 1000000) z) ≡ not (within z)
out_of_range (pos n) = by_lt 1000000 n (λ l. rw (lt-ltb 1000000 n l, lt-leb n 1000000 l) refl) (λ l. rw (le-ltb 1000000 n l, le-leb n 1000000 l) refl)
out_of_range (negsuc n) = by_lt 999999 n (λ l. rw (lt-ltb 999999 n l, lt-leb (suc n) 1000000 (omega arith)) refl) (λ l. rw (le-ltb 999999 n l, le-leb (suc n) 1000000 (omega arith)) refl)

test_cause : (n : ℕ) (r : Rule) → answer_number (tested (rule_test n r [])) ≡ rule_cause n r
unfolding rule_cause
test_cause n r =
    by_lt n r.from
    (λ a. rw (lt-ltb n r.from a, lt-leb r.from n a) refl)
    (λ a. by_lt n r.to
    (λ b. rw (le-ltb n r.from a, le-leb r.from n a, lt-ltb n r.to b, lt-leb r.to n b) refl)
    (λ b. by_eq r.from r.to
    (λ e. rw (le-ltb n r.from a, le-leb r.from n a, le-ltb n r.to b, le-leb r.to n b, eq-eqb r.from r.to e) refl)
    (λ e. by_bool (within r.bound)
    (λ w. rw (le-ltb n r.from a, le-leb r.from n a, le-ltb n r.to b, le-leb r.to n b, ne_eqb r.from r.to e, out_of_range r.bound, w) refl)
    (λ w. rw (le-ltb n r.from a, le-leb r.from n a, le-ltb n r.to b, le-leb r.to n b, ne_eqb r.from r.to e, out_of_range r.bound, w) refl))))

-- The number that the test of a rule answers is that of its cause.
pub tested_cause : (n : ℕ) (r : Rule) {x : Result (Unit {0}) Refusal} → x ≡ tested (rule_test n r []) → answer_number x ≡ rule_cause n r
tested_cause n r q = ap answer_number q ∙ test_cause n r

-- ---- the loop of the tests

-- None of the first e rules is refused.
pub record Passed (n : ℕ) (rules : List Rule) (e : ℕ) : Type 0 where
  pub left : rules_cause n rules ≡ rules_cause n (drop e rules)

module _ (n : ℕ) (rules : List Rule) where
  pub passed_none : Passed n rules 0
  passed_none = record { left = refl }

  pub passed_all : (e : ℕ) → e ≡ length rules → Passed n rules e → rules_cause n rules ≡ 0
  passed_all e q h = h.left ∙ rw (q, drop-length rules) (rules_end n)

  module _ (e : ℕ) (l : e < length rules) (r : Rule) (here : rule_at rules e ≡ r) (h : Passed n rules e) where
    next : drop e rules ≡ r ∷ drop (suc e) rules
    next = drop-cons rules e unused l ∙ ap (λ x. x ∷ drop (suc e) rules) here

    pub passed_more : rule_cause n r ≡ 0 → Passed n rules (e + 1)
    passed_more z = rw (add-one e) (record { left = h.left ∙ ap (rules_cause n) next ∙ rules_pass n r (drop (suc e) rules) z })

    pub passed_stop : 0 < rule_cause n r → rules_cause n rules ≡ rule_cause n r
    passed_stop p = h.left ∙ ap (rules_cause n) next ∙ rules_stop n r (drop (suc e) rules) p

-- ---- the loop that lowers entries

-- Rules that are valid over n events are so over 40.
pub valid_rules : (n : ℕ) (rules : List Rule) → n ≤ 40 → All (ValidRule n) rules → All (ValidRule 40) rules
valid_rules n rules few all =
    All-map
    (λ r v.
    let near = v.from_point in
    let far = v.to_point in
    record { from_point = omega arith; to_point = omega arith; differ = v.differ; at_least = v.at_least; at_most = v.at_most })
    rules all

-- The lent rule e is valid.
pub valid_at : (rules : List Lent) (e : ℕ) → e < length rules → All (ValidRule 40) (map rule_of rules) → ValidRule 40 (rule_of (lent_at rules e))
valid_at rules e l all = rw (at_lent rules e) at (All-below (ValidRule 40) unused (map rule_of rules) all e (rw length-map l))

-- The entries of the array w are those with the first e rules.
pub record Ruling (h : ℕ) (rules : List Rule) (w : List ℕ) (e : ℕ) : Type 0 where
  pub entries : Everywhere 40 (λ i j. entry w i j ≡ ruled h rules e i j)

pub ruling_none : (h : ℕ) (rules : List Rule) (w : List ℕ) → Everywhere 40 (λ i j. entry w i j ≡ plain h i j) → Ruling h rules w 0
unfolding ruled
ruling_none h rules w same = record { entries = same }

-- One more rule lowers its entry.
pub ruling_more : (h : ℕ) (rules : List Rule) (w : List ℕ) (e : ℕ) (r : Rule) → rule_at rules e ≡ r → h ≤ 1000000 → length w ≡ 1681
    → r.from ≤ 40 → r.to ≤ 40 → Ruling h rules w e
    → Ruling h rules (set w (41 * r.from + r.to) (min (get_or w (41 * r.from + r.to) 0) (raise r.bound))) (e + 1)
unfolding ruled
ruling_more h rules w e r here small long lf lt all =
    let p = 41 * r.from + r.to in
    let x = min (get_or w p 0) (raise r.bound) in
    rw (add-one e)
    (record {
      entries = λ i j li lj.
          rw here
          (by_eq (41 * i + j) p
          (λ q.
          let row : i ≡ r.from = omega arith in
          let column : j ≡ r.to = omega arith in
          ap (λ z. get_or (set w p x) z 0) q
          ∙ get_or-set_same w p x 0 (omega arith)
          ∙ rw (row, column) (ap₂ min (all.entries r.from r.to lf lt) (sym (weight_at r))))
          (λ other.
          get_or-set_other w p (41 * i + j) x 0 other
          ∙ all.entries i j li lj
          ∙ weight_cases r i j
          (λ a b c. absurd (other (omega arith)))
          (λ c. omega (arith, ruled_top h rules small e i j))));
    })

-- ---- the loop that gathers

tab_more : {A : Type 0} (m : ℕ) (f : ℕ → A) → tab (suc m) f ≡ tab m f ++ (f m ∷ [])
unfolding tab
tab_more zero f = refl
tab_more (suc m) f = ap (λ l. f 0 ∷ l) (tab_more m (λ i. f (suc i)))

module _ (from to : List ℕ) (bound : List ℤ) (rules : List Lent) where
  pub gathered_none : map rule_of (take 0 rules) ≡ rules_of 0 from to bound
  unfolding tab
  gathered_none = refl

  -- One more rule is stored.
  pub gathered_more : (e : ℕ) (r : Lent) → e < length rules → rule_of r ≡ flat_at from to bound e → map rule_of (take e rules) ≡ rules_of e from to bound
      → map rule_of (take (e + 1) (set rules e r)) ≡ rules_of (e + 1) from to bound
  gathered_more e r l here h =
      ap (map rule_of) (take_more_set rules e r l)
      ∙ map-append rule_of (take e rules) (r ∷ [])
      ∙ ap₂ (λ rs x. rs ++ (x ∷ [])) h here
      ∙ sym (rw (add-one e) (tab_more e (flat_at from to bound)))
