-- What is stored for the events: two numbers an event at i and n + i, and the windows that a potential gives.
use Prim.Native.Nat.{ℕ, zero, suc, ◌+◌, ◌*◌, ◌≤◌, ◌<◌}
use Rattle.std.specs.Prelude.{◌≡◌, Bool, true, false, List, eqb, length, set, replicate}
use Rattle.std.proofs.Math.Path.{refl, ap}
use Rattle.std.proofs.Common.{sym, ◌∙◌, length-set, get_or-set_same, get_or-set_other}
use Rattle.std.proofs.Math.Bool.{cond}
use native.Mathlib.Omega.{arith}
use borrow.Author.Count.{below_none, below_more}
use Rattle.temporal.proofs.Lists.{tab_cong}
use Rattle.temporal.specs.Ticket.{Window}
use Rattle.network.specs.Lists.{set_more}
use Rattle.network.specs.Stored.{at}
use Rattle.ticket.proofs.WritingLaws.{firsts_tab}
use Rattle.potentials.specs.Arrays.{window_list, window_at_lem, Within, within_same}
use Rattle.potentials.specs.Nodes.{by_nodes, windows_of, potential_of, potential_open, potential_close}

-- ---- two numbers an event

-- an array of the nodes, with 0 at the origin
pub record Nodes (xs : List ℕ) : Type 0 where
  pub long : length xs ≡ 81
  pub origin : at xs 0 ≡ 0

-- the pairs of the first k events
pub record Pairs (n : ℕ) (f g : ℕ → ℕ) (xs : List ℕ) (k : ℕ) : Type 0 where
  pub nodes : Nodes xs
  pub first : (i : ℕ) → i < k → at xs (suc i) ≡ f i
  pub second : (i : ℕ) → i < k → at xs (n + suc i) ≡ g i

-- the boxes of a commitment: the least open and the greatest close
abbrev pub low_open : List ℕ → List ℕ → ℕ → ℕ
low_open flags opens i = cond (eqb (at flags i) 1) (at opens i) 0

abbrev pub high_close : ℕ → List ℕ → List ℕ → ℕ → ℕ
high_close h flags closes i = cond (eqb (at flags i) 1) (at closes i) h

pub record Limited (h n : ℕ) (flags opens closes low high : List ℕ) : Type 0 where
  pub lows : Pairs n (low_open flags opens) (at closes) low n
  pub highs : Pairs n (at opens) (high_close h flags closes) high n

-- x at the place of each free event among the first k, from the base b on
unfoldable pub loosened : (b x : ℕ) (flags : List ℕ) (k : ℕ) (xs : List ℕ) → List ℕ
loosened b x flags zero xs = xs
loosened b x flags (suc k) xs = cond (eqb (at flags k) 1) (loosened b x flags k xs) (set (loosened b x flags k xs) (b + k + 1) x)

module _ (xs : List ℕ) (p x : ℕ) where
  cond_length : (c : Bool) → length (cond c xs (set xs p x)) ≡ length xs
  cond_length true = refl
  cond_length false = length-set xs p x

  cond_same : (c : Bool) → p < length xs → at (cond c xs (set xs p x)) p ≡ cond c (at xs p) x
  cond_same true l = refl
  cond_same false l = get_or-set_same xs p x 0 l

  cond_other : (c : Bool) (v : ℕ) → (v ≡ p → ⊥) → at (cond c xs (set xs p x)) v ≡ at xs v
  cond_other true v n = refl
  cond_other false v n = get_or-set_other xs p v x 0 n

module _ (b x : ℕ) (flags : List ℕ) where
  pub loosened_none : (xs : List ℕ) → xs ≡ loosened b x flags 0 xs
  unfolding loosened
  loosened_none xs = refl

  pub loosened_more : (k : ℕ) (xs : List ℕ)
      → loosened b x flags (k + 1) xs ≡ cond (eqb (at flags k) 1) (loosened b x flags k xs) (set (loosened b x flags k xs) (b + k + 1) x)
  unfolding loosened
  loosened_more k xs = let e : k + 1 ≡ suc k = omega arith in ap (λ j. loosened b x flags j xs) e

  pub loosened_length : (k : ℕ) (xs : List ℕ) → length (loosened b x flags k xs) ≡ length xs
  unfolding loosened
  loosened_length zero xs = refl
  loosened_length (suc k) xs = cond_length (loosened b x flags k xs) (b + k + 1) x (eqb (at flags k) 1) ∙ loosened_length k xs

  -- places outside those of the first k events stay
  loosened_other : (k : ℕ) (xs : List ℕ) (v : ℕ) → ((i : ℕ) → i < k → v ≡ b + suc i → ⊥) → at (loosened b x flags k xs) v ≡ at xs v
  unfolding loosened
  loosened_other zero xs v n = refl
  loosened_other (suc k) xs v n =
      cond_other (loosened b x flags k xs) (b + k + 1) x (eqb (at flags k) 1) v (λ e. n k (omega arith) (omega (arith, e)))
      ∙ loosened_other k xs v (λ i l. n i (omega arith))

  loosened_at : (k : ℕ) (xs : List ℕ) → b + k < length xs → (i : ℕ) → i < k → at (loosened b x flags k xs) (b + suc i) ≡ cond (eqb (at flags i) 1) (at xs (b + suc i)) x
  unfolding loosened
  loosened_at zero xs l i li = absurd (omega arith)
  loosened_at (suc k) xs l i li = below_more (λ i. at (loosened b x flags (suc k) xs) (b + suc i) ≡ cond (eqb (at flags i) 1) (at xs (b + suc i)) x) k
      (λ i li. cond_other (loosened b x flags k xs) (b + k + 1) x (eqb (at flags k) 1) (b + suc i) (λ e. omega (arith, e)) ∙ loosened_at k xs (omega arith) i li)
      (let p : b + k + 1 ≡ b + suc k = omega arith in
      rw p (cond_same (loosened b x flags k xs) (b + suc k) x (eqb (at flags k) 1) (omega (arith, loosened_length k xs)))
      ∙ ap (λ y. cond (eqb (at flags k) 1) y x) (loosened_other k xs (b + suc k) (λ i li e. omega (arith, e))))
      i (omega arith)

  -- a turn of the loop; p is the place of event k + 1
  pub grown_by : {p : ℕ} (k : ℕ) (xs : List ℕ) {ys zs : List ℕ} → p ≡ b + k + 1 → ys ≡ loosened b x flags k xs
      → zs ≡ cond (eqb (at flags k) 1) ys (set ys p x) → zs ≡ loosened b x flags (k + 1) xs
  grown_by k xs e q h = rw (e, q) at h ∙ sym (loosened_more k xs)

-- from the potential of the windows
pub limited : {h n : ℕ} {flags pot low high : List ℕ} (opens closes : List ℕ) → n ≤ 40 → Pairs n (at opens) (at closes) pot n
    → low ≡ loosened 0 0 flags n pot → high ≡ loosened n h flags n pot → Limited h n flags opens closes low high
limited {h} {n} {flags} {pot} opens closes few P e f = rw (e, f) record {
  lows = record {
    nodes = record { long = loosened_length 0 0 flags n pot ∙ P.nodes.long; origin = loosened_other 0 0 flags n pot 0 (λ i l q. omega (arith, q)) ∙ P.nodes.origin };
    first = λ i l. let z : suc i ≡ 0 + suc i = omega arith in rw z (loosened_at 0 0 flags n pot (omega (arith, P.nodes.long)) i l) ∙ ap (λ y. cond (eqb (at flags i) 1) y 0) (P.first i l);
    second = λ i l. loosened_other 0 0 flags n pot (n + suc i) (λ j lj q. omega (arith, q)) ∙ P.second i l;
  };
  highs = record {
    nodes = record { long = loosened_length n h flags n pot ∙ P.nodes.long; origin = loosened_other n h flags n pot 0 (λ i l q. omega (arith, q)) ∙ P.nodes.origin };
    first = λ i l. loosened_other n h flags n pot (suc i) (λ j lj q. omega (arith, q)) ∙ P.first i l;
    second = λ i l. loosened_at n h flags n pot (omega (arith, P.nodes.long)) i l ∙ ap (λ y. cond (eqb (at flags i) 1) y h) (P.second i l);
  };
}

-- windows in arrays, laid out as a potential
pub pairs_potential : {n : ℕ} {pot : List ℕ} (opens closes : List ℕ) → Pairs n (at opens) (at closes) pot n → (v : ℕ) → v < 2 * n + 1
    → at pot v ≡ potential_of n (window_list n opens closes) v
pairs_potential {n} opens closes P zero l = P.nodes.origin ∙ sym (potential_open n (window_list n opens closes) 0 (omega arith))
pairs_potential {n} {pot} opens closes P (suc u) l = by_nodes (λ v. at pot v ≡ potential_of n (window_list n opens closes) v) n
    (λ i li. P.first i li ∙ sym (potential_open n (window_list n opens closes) (suc i) li ∙ ap (λ (w : Window). w.opens) (window_at_lem n opens closes i li)))
    (λ i li. P.second i li ∙ sym (potential_close n (window_list n opens closes) (suc i) (omega arith) ∙ ap (λ (w : Window). w.closes) (window_at_lem n opens closes i li)))
    (suc u) (omega arith) l

pub replicate_most : (m x i : ℕ) → at (replicate m x) i ≤ x
replicate_most zero x i = omega arith
replicate_most (suc m) x zero = omega arith
replicate_most (suc m) x (suc i) = replicate_most m x i

-- ---- the windows of a potential, in arrays

-- the first k of them; only the first k places differ
pub record Read (n : ℕ) (pot opens closes opens' closes' : List ℕ) (k : ℕ) : Type 0 where
  pub opens_within : Within k opens opens'
  pub closes_within : Within k closes closes'
  pub opened : (i : ℕ) → i < k → at opens' i ≡ at pot (i + 1)
  pub closed : (i : ℕ) → i < k → at closes' i ≡ at pot (n + i + 1)

within_more : {xs xs' : List ℕ} {k : ℕ} (x : ℕ) → Within k xs xs' → Within (k + 1) xs (set xs' k x)
within_more {xs} {xs'} {k} x W = record { long = simp length-set W.long; past = λ i l. get_or-set_other xs' k i x 0 (λ q. omega arith) ∙ W.past i (omega arith) }

pub read_none : (n : ℕ) (pot opens closes : List ℕ) → Read n pot opens closes opens closes 0
read_none n pot opens closes = record { opens_within = within_same 0 opens; closes_within = within_same 0 closes; opened = below_none _; closed = below_none _ }

pub read_more : {n : ℕ} {pot opens closes opens' closes' : List ℕ} {k : ℕ} → k < length opens → k < length closes → Read n pot opens closes opens' closes' k
    → Read n pot opens closes (set opens' k (at pot (k + 1))) (set closes' k (at pot (n + k + 1))) (k + 1)
read_more {n} {pot} {opens} {closes} {opens'} {closes'} {k} lo lc R = record {
  opens_within = within_more (at pot (k + 1)) R.opens_within;
  closes_within = within_more (at pot (n + k + 1)) R.closes_within;
  opened = set_more (λ i x. x ≡ at pot (i + 1)) opens' k (at pot (k + 1)) (omega (arith, R.opens_within.long)) R.opened refl;
  closed = set_more (λ i x. x ≡ at pot (n + i + 1)) closes' k (at pot (n + k + 1)) (omega (arith, R.closes_within.long)) R.closed refl;
}

pub read_windows_lem : {n : ℕ} {pot opens closes opens' closes' : List ℕ} → Read n pot opens closes opens' closes' n → window_list n opens' closes' ≡ windows_of n (at pot)
unfolding window_list windows_of
read_windows_lem {n} {pot} {opens} {closes} {opens'} {closes'} R = firsts_tab n _ ∙ tab_cong n _ _ (λ i l.
    let p : i + 1 ≡ suc i = omega arith in
    let q : n + i + 1 ≡ n + suc i = omega arith in
    let a = R.opened i l ∙ ap (at pot) p in
    let b = R.closed i l ∙ ap (at pot) q in
    λ j. record { opens = a j; closes = b j })
