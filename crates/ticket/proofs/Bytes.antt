-- What is written of a readable state is a list of bytes (`state_bytes`), so that it may be read again as a record from anywhere. Assumes nothing.
use Rattle.std.specs.Prelude.{ℕ, zero, suc, ◌/◌, ◌%◌, ◌≤◌, ◌<◌, List, [], ◌∷◌, ◌++◌, length}
use Rattle.std.proofs.Common.{arith, of_z}
use Rattle.std.specs.Int.{w32}
use Rattle.temporal.specs.Lists.{All}
use Rattle.temporal.proofs.Lists.{All-map, ∈-All}
use Rattle.temporal.specs.Ticket.{Rule, Ticket}
use Rattle.temporal.specs.Plan.{State}
use Rattle.temporal.specs.Run.{ValidRule, Valid, Readable}
use Rattle.ticket.specs.Format.{Entry}
use Rattle.ticket.specs.Writer.{bytes, each, write_rule, write_ticket, flag_byte, entries, write_window, write_state}
use Rattle.ticket.proofs.Fields.{flag_small}
use Rattle.ticket.specs.RoundTrip.{Bytes}

-- ---- lists of bytes

pub one_more : (b : ℕ) (s : List ℕ) → b < 256 → Bytes s → Bytes (b ∷ s)
one_more b s l h zero = l
one_more b s l h (suc i) = h i

pub after_each_other : (s t : List ℕ) → Bytes s → Bytes t → Bytes (s ++ t)
after_each_other [] t h k = k
after_each_other (b ∷ s) t h k = one_more b (s ++ t) (h 0) (after_each_other s t (λ i. h (suc i)) k)

every_one : (s : List ℕ) → All (λ b. b < 256) s → Bytes s
every_one [] h = λ i. omega arith
every_one (b ∷ s) h = one_more b s h.0 (every_one s h.1)

pub number_bytes : (k x : ℕ) → Bytes (bytes k x)
unfolding bytes
number_bytes zero x = λ i. omega arith
number_bytes (suc k) x = one_more (x % 256) (bytes k (x / 256)) (omega arith) (number_bytes k (x / 256))

pub each_bytes : {A : Type 0} (w : A → List ℕ) (xs : List A) → All (λ x. Bytes (w x)) xs → Bytes (each w xs)
unfolding each
each_bytes w [] h = λ i. omega arith
each_bytes w (x ∷ xs) h = after_each_other (w x) (each w xs) h.0 (each_bytes w xs h.1)

-- ---- what is written

rule_bytes_lem : (n : ℕ) → n ≤ 40 → (r : Rule) → ValidRule n r → Bytes (write_rule r)
unfolding write_rule
rule_bytes_lem n l r v =
    one_more r.from (r.to ∷ bytes 4 (of_z w32 r.bound)) (omega (arith, v.from_point))
    (one_more r.to (bytes 4 (of_z w32 r.bound)) (omega (arith, v.to_point)) (number_bytes 4 (of_z w32 r.bound)))

valid_bytes : (k : Ticket) → Valid k → Bytes (write_ticket k)
unfolding write_ticket
valid_bytes k v =
    after_each_other (bytes 4 k.horizon) _ (number_bytes 4 k.horizon)
    (after_each_other (bytes 2 (length k.owners)) _ (number_bytes 2 (length k.owners))
    (after_each_other k.owners _ (every_one k.owners (All-map (λ o (l : o ≤ 4). omega arith) k.owners v.owners_known))
    (after_each_other (bytes 2 (length k.rules)) _ (number_bytes 2 (length k.rules))
    (each_bytes write_rule k.rules (All-map (rule_bytes_lem (length k.owners) v.events_limit) k.rules v.rules_valid)))))

pub window_bytes_lem : (e : Entry) → Bytes (write_window e)
unfolding write_window
window_bytes_lem e =
    let a = e.window.opens in
    let b = e.window.closes in
    one_more (flag_byte e.committed) (bytes 4 a ++ bytes 4 b) (omega (arith, flag_small e.committed))
    (after_each_other (bytes 4 a) (bytes 4 b) (number_bytes 4 a) (number_bytes 4 b))

-- What is written of a readable state is a list of bytes.
pub state_bytes : (s : State) → Readable s → Bytes (write_state s)
unfolding write_state
state_bytes s r =
    after_each_other (write_ticket s.ticket) _ (valid_bytes s.ticket r.valid)
    (after_each_other (bytes 2 (length s.windows)) _ (number_bytes 2 (length s.windows))
    (after_each_other (each write_window (entries s.flags s.windows)) _
    (each_bytes write_window (entries s.flags s.windows) (∈-All (entries s.flags s.windows) (λ e m. window_bytes_lem e)))
    (after_each_other (bytes 2 5) _ (number_bytes 2 5)
    (each_bytes (bytes 2) s.counts (∈-All s.counts (λ k m. number_bytes 2 k))))))
