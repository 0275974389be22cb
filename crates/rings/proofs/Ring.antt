-- The laws of what specs/Ring defines.
use Rattle.std.specs.Prelude.{◌≡◌, refl, ◌&&◌, List, [], ◌∷◌, ◌↔◌, ℕ, zero, suc, ◌<◌, T, leb, eqb, pos, length}
use Rattle.std.proofs.Common.{subst, arith, leb→le, le→leb, eqb→eq}
use mathlib.Core.List.Memᴰ
use Rattle.std.proofs.Math.Dec.{eqb_refl}
use Rattle.std.specs.Int.Signed.{lt_z}
use Rattle.temporal.specs.Lists.{all, ◌∈◌, keep, tuples, tab}
use Rattle.temporal.proofs.Lists.{All-map, test-All, All-test, pair-T, T-pair, All-∈, keep-∈, ∈-keep, ∈-tuples, tuples-∈, All-tab}
use Rattle.temporal.specs.Ticket.{Ticket}
use Rattle.paths.specs.Rules.{size, from_of, to_of, Number, Walk, sum}
use Rattle.rings.specs.Ring.{Ring, is_number, is_ring, is_walk, numbers, rings, start_of}

-- ---- the enumeration has all rings, and nothing else

test_number : (k : Ticket) (e : ℕ) → T (is_number k e) → Number k e
test_number k e t =
    let r = T-pair (leb 1 e) (leb e (size k)) t in
    (leb→le 1 e r.0, leb→le e (size k) r.1)

number_test : (k : Ticket) (e : ℕ) → Number k e → T (is_number k e)
number_test k e h = pair-T (leb 1 e) (leb e (size k)) (le→leb 1 e h.0) (le→leb e (size k) h.1)

pub eqb_eq : (m n : ℕ) → m ≡ n → T (eqb m n)
eqb_eq m n e = rw e (eqb_refl n)

test_walk : (k : Ticket) (p : ℕ) (es : List ℕ) (q : ℕ) → T (is_walk k p es q) → Walk k p es q
test_walk k p [] q t = eqb→eq p q t
test_walk k p (e ∷ es) q t =
    let r = T-pair (eqb p (from_of k e)) (is_walk k (to_of k e) es q) t in
    (eqb→eq p (from_of k e) r.0, test_walk k (to_of k e) es q r.1)

walk_test : (k : Ticket) (p : ℕ) (es : List ℕ) (q : ℕ) → Walk k p es q → T (is_walk k p es q)
walk_test k p [] q h = eqb_eq p q h
walk_test k p (e ∷ es) q h = pair-T (eqb p (from_of k e)) (is_walk k (to_of k e) es q) (eqb_eq p (from_of k e) h.0) (walk_test k (to_of k e) es q h.1)

pub ring_test : (k : Ticket) (es : List ℕ) → T (is_ring k es) ↔ Ring k es
unfolding is_ring
ring_test k es = (there, back')
  where
    s : ℕ
    s = start_of k es

    there : T (is_ring k es) → Ring k es
    there t =
        let a = T-pair (leb 1 (length es)) (all (is_number k) es && (is_walk k s es s && lt_z (sum k es) (pos 0))) t in
        let b = T-pair (all (is_number k) es) (is_walk k s es s && lt_z (sum k es) (pos 0)) a.1 in
        let c = T-pair (is_walk k s es s) (lt_z (sum k es) (pos 0)) b.1 in
        record {
          some = leb→le 1 (length es) a.0;
          numbers = test-All (is_number k) (test_number k) es b.0;
          closed = test_walk k s es s c.0;
          negative = record { lt = c.1 };
        }

    back' : Ring k es → T (is_ring k es)
    back' r =
        pair-T (leb 1 (length es)) (all (is_number k) es && (is_walk k s es s && lt_z (sum k es) (pos 0))) (le→leb 1 (length es) r.some)
        (pair-T (all (is_number k) es) (is_walk k s es s && lt_z (sum k es) (pos 0)) (All-test (is_number k) (number_test k) es r.numbers)
        (pair-T (is_walk k s es s) (lt_z (sum k es) (pos 0)) (walk_test k s es s r.closed) r.negative.lt))

∈-tab : (n : ℕ) (f : ℕ → ℕ) (i : ℕ) → i < n → f i ∈ tab n f
unfolding tab
∈-tab zero f i l = absurd (omega arith)
∈-tab (suc n) f zero l = Memᴰ.head refl
∈-tab (suc n) f (suc i) l = Memᴰ.tail (∈-tab n (λ j. f (suc j)) i (omega arith))

pub numbers_has : (k : Ticket) (e : ℕ) → (e ∈ numbers k) ↔ Number k e
unfolding numbers
numbers_has k e = (λ m. All-∈ (Number k) (tab (size k) suc) (All-tab (Number k) (size k) suc (λ i l. (omega arith, l))) m, back' e)
  where
    back' : (e : ℕ) → Number k e → e ∈ tab (size k) suc
    back' zero h = absurd (omega arith)
    back' (suc i) h = ∈-tab (size k) suc i h.1

pub rings_has : (k : Ticket) (count : ℕ) (es : List ℕ) → (es ∈ rings k count) ↔ (Ring k es × (length es ≡ count))
unfolding rings
rings_has k count es = (there, back')
  where
    there : es ∈ keep (is_ring k) (tuples count (numbers k)) → Ring k es × (length es ≡ count)
    there m =
        let r = keep-∈ (is_ring k) (tuples count (numbers k)) m in
        ((ring_test k es).0 r.1, (tuples-∈ count (numbers k) r.0).0)

    back' : Ring k es × (length es ≡ count) → es ∈ keep (is_ring k) (tuples count (numbers k))
    back' r =
        let m : es ∈ tuples (length es) (numbers k) = ∈-tuples (numbers k) es (All-map (λ e h. (numbers_has k e).1 h) es r.0.numbers) in
        ∈-keep (is_ring k) (tuples count (numbers k)) (subst (λ n. es ∈ tuples n (numbers k)) r.1 m) ((ring_test k es).1 r.0)
