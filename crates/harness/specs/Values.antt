-- The structs of given values: as many of each slice as a struct has places, and zeros where a slice is shorter.
use Rattle.std.specs.Prelude.{ℕ, ◌≤◌, ◌<◌, min, ◌≡◌, List, ◌++◌, ℤ, pos, length, take, drop, replicate}
use Rattle.std.proofs.Common.{ap, ◌∙◌, ⊎_elim, arith, length-take, take_all}
use Rattle.std.proofs.lemmas.List.{drop-replicate}
use Rattle.temporal.proofs.Lists.{below_or_not}
use Rattle.ticket.specs.Stored.{pad}
use Rattle.ticket.specs.declared.Ticket.{Ticket}
use Rattle.ticket.specs.declared.Record.{Record}

-- The first k of s, then z.
abbrev pub placed : {A : Type 0} → A → ℕ → List A → List A
placed z k s = pad z k (take k s)

abbrev pub valued : ℕ → ℕ → List ℕ → ℕ → List ℕ → List ℕ → List ℤ → Ticket
valued h n os m fs ts bs =
    record {
      horizon = h;
      events = n;
      owners = placed 0 40 os;
      rules = m;
      from = placed 0 256 fs;
      to = placed 0 256 ts;
      bound = placed (pos 0) 256 bs;
    }

abbrev pub recorded : Ticket → List ℕ → List ℕ → List ℕ → List ℕ → Record
recorded t fs os cs ks =
    record { ticket = t; flags = placed 0 40 fs; opens = placed 0 40 os; closes = placed 0 40 cs; counts = placed 0 5 ks }

-- As many as there is room for, in front of zeros.
pub placed_all : {A : Type 0} (z : A) (k : ℕ) (s : List A) (n : ℕ) → n ≡ min (length s) k → take n s ++ drop n (replicate k z) ≡ placed z k s
unfolding pad
placed_all z k s n e =
    ⊎_elim
    (λ (h : length s < k).
    let q : n ≡ length s = omega arith in
    rw (q, take_all (length s) s (omega arith), take_all k s (omega arith)) (ap (λ xs. s ++ xs) (drop-replicate (length s) k z)))
    (λ (h : k ≤ length s).
    let q : n ≡ k = omega arith in
    rw q (ap (λ xs. take k s ++ xs) (drop-replicate k k z ∙ ap (λ m. replicate m z) (omega (arith, length-take k s)))))
    (below_or_not (length s) k)

-- Lists that are as much of the slices as there are places are those of a given struct.
pub valued_of : (h n m : ℕ) (o os f fs t ts : List ℕ) (b bs : List ℤ) → o ≡ placed 0 40 os → f ≡ placed 0 256 fs → t ≡ placed 0 256 ts → b ≡ placed (pos 0) 256 bs
    → ◌≡◌ {A = Ticket} (record { horizon = h; events = n; owners = o; rules = m; from = f; to = t; bound = b }) (valued h n os m fs ts bs)
valued_of h n m o os f fs t ts b bs eo ef et eb = rw (eo, ef, et, eb)

pub recorded_of : (t v : Ticket) (f fs o os c cs k ks : List ℕ) → t ≡ v → f ≡ placed 0 40 fs → o ≡ placed 0 40 os → c ≡ placed 0 40 cs → k ≡ placed 0 5 ks
    → ◌≡◌ {A = Record} (record { ticket = t; flags = f; opens = o; closes = c; counts = k }) (recorded v fs os cs ks)
recorded_of t v f fs o os c cs k ks et ef eo ec ek = rw (et, ef, eo, ec, ek)
