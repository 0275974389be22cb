-- Laws of stores in a row: what stands in the output after the parts of a ticket. Assumes nothing.
use Rattle.std.specs.Prelude.{ℕ, suc, ◌+◌, ◌*◌, ◌/◌, ◌≤◌, ◌≡◌, refl, List, [], ◌∷◌, ◌++◌, length, set, drop}
use Rattle.std.proofs.Common.{sym, ap, ◌∙◌, append_assoc, append-nil, add-zero, arith}
use Rattle.std.proofs.lemmas.List.Edits.{sets, sets-eq}
use Rattle.std.specs.Int.{w32, to_le_bytes}
use Rattle.temporal.specs.Ticket.{Rule}
use Rattle.ticket.specs.Writer.{bytes, each, write_rule, write_ticket}
use Rattle.ticket.proofs.RoundTrip.{length_bytes, length_each, length_rule}
use Rattle.ticket.specs.Writing.{firsts, over}
use Rattle.ticket.proofs.WritingLaws.{firsts_more, length_firsts}

-- The four bytes of a number.
pub le_bytes : (x : ℕ) → to_le_bytes w32 x ≡ bytes 4 x
unfolding bytes
le_bytes x =
    let two : x / 65536 ≡ x / 256 / 256 = omega arith in
    let three : x / 16777216 ≡ x / 256 / 256 / 256 = omega arith in
    rw (two, three)

pub sets_append : (xs ys l : List ℕ) (i : ℕ) → sets l i (xs ++ ys) ≡ sets (sets l i xs) (i + length xs) ys
sets_append [] ys l i = ap (λ k. sets l k ys) (sym (add-zero i))
sets_append (x ∷ xs) ys l i =
    let e : suc i + length xs ≡ i + suc (length xs) = omega arith in
    sets_append xs ys (set l i x) (suc i) ∙ ap (λ k. sets (sets (set l i x) (suc i) xs) k ys) e

-- Stores from the start of the output.
pub sets_over : (bs l : List ℕ) → length bs ≤ length l → sets l 0 bs ≡ over bs l
unfolding over
sets_over bs l h =
    let e : 0 + length bs ≡ length bs = omega arith in
    sets-eq bs l 0 (omega arith) ∙ ap (λ k. bs ++ drop k l) e

pub each_append : {A : Type 0} (w : A → List ℕ) (xs ys : List A) → each w (xs ++ ys) ≡ each w xs ++ each w ys
unfolding each
each_append w [] ys = refl
each_append w (x ∷ xs) ys = ap (λ l. w x ++ l) (each_append w xs ys) ∙ sym (append_assoc (w x) (each w xs) (each w ys))

each_one : {A : Type 0} (w : A → List ℕ) (y : A) → each w (y ∷ []) ≡ w y
unfolding each
each_one w y = append-nil (w y)

pub length_rules : (i : ℕ) (f : ℕ → Rule) → length (each write_rule (firsts i f)) ≡ 6 * i
length_rules i f = omega (arith, length_each write_rule 6 length_rule (firsts i f), length_firsts i f)

-- One more of the things that w writes, at the place p.
pub sets_each : {A : Type 0} (w : A → List ℕ) (l : List ℕ) (at i : ℕ) (f : ℕ → A) (p : ℕ) → at + length (each w (firsts i f)) ≡ p
    → sets l at (each w (firsts (i + 1) f)) ≡ sets (sets l at (each w (firsts i f))) p (w (f i))
sets_each w l at i f p e =
    ap (λ xs. sets l at (each w xs)) (firsts_more i f)
    ∙ ap (sets l at) (each_append w (firsts i f) (f i ∷ []) ∙ ap (λ m. each w (firsts i f) ++ m) (each_one w (f i)))
    ∙ sets_append (each w (firsts i f)) (w (f i)) l at
    ∙ ap (λ k. sets (sets l at (each w (firsts i f))) k (w (f i))) e

-- One rule more.
pub sets_rule : (l : List ℕ) (at i : ℕ) (f : ℕ → Rule)
    → sets l at (each write_rule (firsts (i + 1) f)) ≡ sets (sets l at (each write_rule (firsts i f))) (at + 6 * i) (write_rule (f i))
sets_rule l at i f = sets_each write_rule l at i f (at + 6 * i) (omega (arith, length_rules i f))

pub sets_then : (xs ys l : List ℕ) (i j : ℕ) → i + length xs ≡ j → sets (sets l i xs) j ys ≡ sets l i (xs ++ ys)
sets_then xs ys l i j e = ap (λ k. sets (sets l i xs) k ys) (sym e) ∙ sym (sets_append xs ys l i)

-- The five parts of a ticket, one after the other.
pub sets_ticket : (l : List ℕ) (h n m : ℕ) (os : List ℕ) (rs : List Rule) → length os ≡ n → length rs ≡ m
    → sets (sets (sets (sets (sets l 0 (bytes 4 h)) 4 (bytes 2 n)) 6 os) (6 + n) (bytes 2 m)) (8 + n) (each write_rule rs)
    ≡ sets l 0 (write_ticket (record { horizon = h; owners = os; rules = rs }))
unfolding write_ticket
sets_ticket l h n m os rs ln lm =
    rw (ln, lm)
    (sets_then (bytes 2 m) (each write_rule rs) _ (6 + n) (8 + n) (omega (arith, length_bytes 2 m))
    ∙ sets_then os _ _ 6 (6 + n) (omega arith)
    ∙ sets_then (bytes 2 n) _ _ 4 6 (omega (arith, length_bytes 2 n))
    ∙ sets_then (bytes 4 h) _ l 0 4 (omega (arith, length_bytes 4 h)))
