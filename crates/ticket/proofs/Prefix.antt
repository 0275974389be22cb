-- The laws of what specs/Prefix defines.
use Prim.Native.Nat.{ℕ, zero, suc, ◌+◌, ◌*◌, ◌≤◌, ◌<◌}
use Rattle.std.specs.Prelude.{◌≡◌, refl, List, [], ◌∷◌, Bool, true, false, leb, take}
use Rattle.std.proofs.Math.Nat.{suc-mul}
use Rattle.std.proofs.Common.{arith, leb-true, to_z}
use Rattle.std.proofs.Math.Seq.{take-nil}
use Rattle.std.specs.Int.{w32}
use Rattle.temporal.specs.Ticket.{Rule}
use Rattle.ticket.specs.Parser.{Cause, horizon, events, owner, rules, points, bound, trailing, Out, got, refused}
use Rattle.ticket.specs.Parser.{Parser, then, ◌>>=◌, ◌>>◌, give, expect, byte, little, many, end, wholly}
use Rattle.ticket.specs.Format.{apart, within, rule_test, read_owner, read_rule, read_ticket}
use Rattle.ticket.specs.Prefix.{Agrees, Reads}

byte_reads : Reads 1 byte
byte_reads zero s l = absurd (omega (arith, l))
byte_reads (suc n) [] l = refl
byte_reads (suc n) (b ∷ s) l = (n, omega arith, refl)

give_reads : {A : Type 0} (x : A) → Reads 0 (give x)
give_reads x n s l = (n, omega arith, refl)

expect_reads : (b : Bool) (c : Cause) → Reads 0 (expect b c)
expect_reads true c = λ n s l. (n, omega arith, refl)
expect_reads false c = λ n s l. refl

-- A test: what follows it may need that it holds.
test_reads : {A : Type 0} (k : ℕ) (b : Bool) (c : Cause) (q : Parser A) → (b ≡ true → Reads k q) → Reads k (expect b c >> q)
test_reads k true c q h = h refl
test_reads k false c q h = λ n s l. refl

-- One reading after another.
further : {A : Type 0} (n m j k : ℕ) → n ≤ m + j → (o r : Out A) → Agrees m k o r → Agrees n (j + k) o r
further n m j k l (got x t) r h = (h.0, omega (arith, l, h.1), h.2)
further n m j k l (refused c) r h = h

bind_reads : {A B : Type 0} (j k : ℕ) (p : Parser A) (f : A → Parser B) → Reads j p → ((x : A) → Reads k (f x)) → Reads (j + k) (p >>= f)
bind_reads {A} j k p f hp hf n s l = go (p s) (p (take n s)) (hp n s (omega (arith, l)))
  where
    go : (o r : Out A) → Agrees n j o r → Agrees n (j + k) (then o f) (then r f)
    go (got x t) r h = rw h.2 (further n h.0 j k h.1 (f x t) (f x (take h.0 t)) (hf x h.0 t (omega (arith, l, h.1))))
    go (refused c) r h = rw h

-- One that reads at most j bytes reads at most k.
wider : {A : Type 0} (j k : ℕ) (p : Parser A) → j ≤ k → Reads j p → Reads k p
wider {A} j k p l h n s g = go (p s) (p (take n s)) (h n s (omega (arith, l, g)))
  where
    go : (o r : Out A) → Agrees n j o r → Agrees n k o r
    go (got x t) r q = (q.0, omega (arith, l, q.1), q.2)
    go (refused c) r q = q

little_reads : (k : ℕ) → Reads k (little k)
unfolding little
little_reads zero = give_reads 0
little_reads (suc k) = wider (1 + (k + 0)) (suc k) (little (suc k)) (omega arith)
    (bind_reads 1 (k + 0) byte _ byte_reads (λ b. bind_reads k 0 (little k) _ (little_reads k) (λ x. give_reads (b + 256 * x))))

module _ {A : Type 0} (j : ℕ) (p : Parser A) (hp : Reads j p) where
  many_reads : (m : ℕ) → Reads (m * j) (many p m)
  unfolding many
  many_reads zero = wider 0 (0 * j) (many p 0) (omega arith) (give_reads [])
  many_reads (suc m) = wider (j + (m * j + 0)) (suc m * j) (many p (suc m)) (omega (arith, suc-mul m j))
      (bind_reads j (m * j + 0) p _ hp (λ x. bind_reads (m * j) 0 (many p m) _ (many_reads m) (λ xs. give_reads (x ∷ xs))))

-- ---- a ticket

owner_reads : Reads 1 read_owner
unfolding read_owner
owner_reads = bind_reads 1 0 byte _ byte_reads (λ b. test_reads 0 (leb b 4) owner (give b) (λ e. give_reads b))

rule_test_reads : (n : ℕ) (r : Rule) → Reads 0 (rule_test n r)
rule_test_reads n r = test_reads 0 (apart n r.from r.to) points _ (λ e. expect_reads (within r.bound) bound)

rule_reads : (n : ℕ) → Reads 6 (read_rule n)
unfolding read_rule
rule_reads n =
    bind_reads 1 5 byte _ byte_reads (λ i.
    bind_reads 1 4 byte _ byte_reads (λ j.
    bind_reads 4 0 (little 4) _ (little_reads 4) (λ c.
    let r : Rule = record { from = i; to = j; bound = to_z w32 c } in
    bind_reads 0 0 (rule_test n r) _ (rule_test_reads n r) (λ u. give_reads r))))

-- 4 for the horizon, 2 for the number of events and at most 40 owners, 2 for the number of rules and at most 256 of 6 bytes
ticket_reads : Reads 1584 read_ticket
unfolding read_ticket
ticket_reads =
    bind_reads 4 1580 (little 4) _ (little_reads 4) (λ h.
    test_reads 1580 (leb h 1000000) horizon _ (λ eh.
    bind_reads 2 1578 (little 2) _ (little_reads 2) (λ n.
    test_reads 1578 (leb n 40) events _ (λ en.
    bind_reads 40 1538 (many read_owner n) _
    (wider (n * 1) 40 (many read_owner n) (omega (arith, leb-true n 40 en)) (many_reads 1 read_owner owner_reads n)) (λ os.
    bind_reads 2 1536 (little 2) _ (little_reads 2) (λ m.
    test_reads 1536 (leb m 256) rules _ (λ em.
    bind_reads 1536 0 (many (read_rule n) m) _
    (wider (m * 6) 1536 (many (read_rule n) m) (omega (arith, leb-true m 256 em)) (many_reads 6 (read_rule n) (rule_reads n) m)) (λ rs.
    give_reads (record { horizon = h; owners = os; rules = rs })))))))))

-- A reading to the end needs to know of one byte more whether it is there.
pub wholly_prefix : {A : Type 0} (k : ℕ) (p : Parser A) → Reads k p → (n : ℕ) (s : List ℕ) → k < n → wholly p (take n s) ≡ wholly p s
wholly_prefix {A} k p h n s l = go (p s) (p (take n s)) (h n s (omega (arith, l)))
  where
    some : (x : A) (m b : ℕ) (t : List ℕ) → 0 < m → (end >> give x) (take m (b ∷ t)) ≡ refused trailing
    some x zero b t g = absurd (omega (arith, g))
    some x (suc m) b t g = refl

    go : (o r : Out A) → Agrees n k o r → then r (λ x. end >> give x) ≡ then o (λ x. end >> give x)
    go (got x []) r q = rw (q.2, take-nil q.0)
    go (got x (b ∷ t)) r q = rw q.2 (some x q.0 b t (omega (arith, l, q.1)))
    go (refused c) r q = rw q

-- "A ticket is 8 + n + 6 × m bytes, at most 1,584" (01, "Ticket and record"): 1,585 bytes tell whatever there is to tell.
pub ticket_prefix : (s : List ℕ) → wholly read_ticket (take 1585 s) ≡ wholly read_ticket s
ticket_prefix s = wholly_prefix 1584 read_ticket ticket_reads 1585 s (omega arith)
