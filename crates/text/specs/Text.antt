-- The text that the program prints, as lists of ASCII codes: 01's "Examples", where the program is described.
use Rattle.std.specs.Prelude.{ℕ, zero, suc, ◌+◌, ◌/◌, ◌%◌, ◌≤◌, ◌<◌, ◌^◌, ◌≡◌, refl, cond, List, [], ◌∷◌, ◌++◌, ◌⊎◌, ltb, length, get_or}
use Rattle.std.proofs.Common.{sym, ap, ◌∙◌, pow-suc, eq-zero-or-pos, arith, lt-ltb, le-ltb, inl, inr, ⊎_elim, add-one, length-append}
use Rattle.temporal.specs.Ticket.{Window}
use Rattle.ticket.specs.declared.Record.{Record}

-- ---- numbers

-- the digit d
abbrev pub digit : ℕ → ℕ
digit d = 48 + d

-- the last digits of n, as many as it has, or as many as `most` where that is fewer
unfoldable decimal_within : ℕ → ℕ → List ℕ
decimal_within zero n = []
decimal_within (suc most) n = cond (ltb n 10) (digit n ∷ []) (decimal_within most (n / 10) ++ digit (n % 10) ∷ [])

-- n in decimal digits: it has no more than n + 1 of them
pub decimal : ℕ → List ℕ
decimal n = decimal_within (suc n) n

short_or_long : (n : ℕ) → (n < 10) ⊎ (10 ≤ n)
short_or_long n = ⊎_elim (λ (z : n / 10 ≡ 0). inl (omega arith)) (λ (p : 0 < n / 10). inr (omega arith)) (eq-zero-or-pos (n / 10))

within_short : (most n : ℕ) → n < 10 → decimal_within (suc most) n ≡ digit n ∷ []
unfolding decimal_within
within_short most n h = rw (lt-ltb n 10 h)

within_long : (most n : ℕ) → 10 ≤ n → decimal_within (suc most) n ≡ decimal_within most (n / 10) ++ digit (n % 10) ∷ []
unfolding decimal_within
within_long most n h = rw (le-ltb n 10 h)

within_same : (a b n : ℕ) → n < a → n < b → decimal_within a n ≡ decimal_within b n
within_same zero b n h k = absurd (omega arith)
within_same (suc a) zero n h k = absurd (omega arith)
within_same (suc a) (suc b) n h k = ⊎_elim
    (λ (l : n < 10). within_short a n l ∙ sym (within_short b n l))
    (λ (g : 10 ≤ n). within_long a n g ∙ ap (λ (ds : List ℕ). ds ++ digit (n % 10) ∷ []) (within_same a b (n / 10) (omega arith) (omega arith)) ∙ sym (within_long b n g))
    (short_or_long n)

-- a number below 10 is one digit, any other is a tenth of it and its last digit
pub decimal_short : (n : ℕ) → n < 10 → decimal n ≡ digit n ∷ []
unfolding decimal
decimal_short n h = within_short n n h

pub decimal_long : (n : ℕ) → 10 ≤ n → decimal n ≡ decimal (n / 10) ++ digit (n % 10) ∷ []
unfolding decimal
decimal_long n h = within_long n n h ∙ ap (λ (ds : List ℕ). ds ++ digit (n % 10) ∷ []) (within_same n (suc (n / 10)) (n / 10) (omega arith) (omega arith))

-- a number below 10 to the power k has at most k digits
pub decimal_length : (k n : ℕ) → n < 10 ^ k → 0 < k → length (decimal n) ≤ k
decimal_length zero n h p = absurd (omega arith)
decimal_length (suc k) n h p = ⊎_elim
    (λ (l : n < 10). rw (decimal_short n l) (omega arith))
    (λ (g : 10 ≤ n). rw (decimal_long n g, length-append) (longer k h g (λ q. decimal_length k (n / 10) (omega (arith, pow-suc 10 k)) q)))
    (short_or_long n)
  where
    longer : (j : ℕ) → n < 10 ^ suc j → 10 ≤ n → (0 < j → length (decimal (n / 10)) ≤ j) → length (decimal (n / 10)) + 1 ≤ suc j
    longer zero h g f = absurd (omega arith)
    longer (suc j) h g f = omega (arith, f (omega arith))

-- ---- lines

-- the parts of a line stand one space apart, and the line ends with byte 10
unfoldable pub line : List ℕ → List (List ℕ) → List ℕ
line part [] = part ++ 10 ∷ []
line part (next ∷ rest) = part ++ 32 ∷ line next rest

-- "refused" and the number
abbrev pub refusal : ℕ → List ℕ
refusal number = line (114 ∷ 101 ∷ 102 ∷ 117 ∷ 115 ∷ 101 ∷ 100 ∷ []) (decimal number ∷ [])

-- "plan", the number of events and the total
abbrev pub heading : ℕ → ℕ → List ℕ
heading events total = line (112 ∷ 108 ∷ 97 ∷ 110 ∷ []) (decimal events ∷ decimal total ∷ [])

-- an event, its owner, its open and its close
abbrev pub event_line : ℕ → ℕ → Window → List ℕ
event_line event owner w = line (decimal event) (decimal owner ∷ decimal w.opens ∷ decimal w.closes ∷ [])

-- the five part totals in owner order (02, change 8): "one line with the five part totals"
abbrev pub totals_line : List ℕ → List ℕ
totals_line totals =
    line (decimal (get_or totals 0 0)) (decimal (get_or totals 1 0) ∷ decimal (get_or totals 2 0) ∷ decimal (get_or totals 3 0) ∷ decimal (get_or totals 4 0) ∷ [])

-- the line of the event at index i of three lists
abbrev pub line_at : (owners opens closes : List ℕ) → ℕ → List ℕ
line_at owners opens closes i = event_line (i + 1) (get_or owners i 0) (record { opens = get_or opens i 0; closes = get_or closes i 0 })

-- the texts f 0 to f (k - 1), one after another
unfoldable pub each : ℕ → (ℕ → List ℕ) → List ℕ
each zero f = []
each (suc k) f = each k f ++ f k

pub each_none : (f : ℕ → List ℕ) → each 0 f ≡ []
unfolding each
each_none f = refl

pub each_more : (k : ℕ) (f : ℕ → List ℕ) → each (k + 1) f ≡ each k f ++ f k
unfolding each
each_more k f = rw add-one

pub each_same : (k : ℕ) (f g : ℕ → List ℕ) → ((i : ℕ) → i < k → f i ≡ g i) → each k f ≡ each k g
unfolding each
each_same zero f g h = refl
each_same (suc k) f g h = rw (each_same k f g (λ i l. h i (omega arith)), h k (omega arith))

-- a record's struct and a total: the heading, and a line for each event
abbrev pub record_text : Record → ℕ → List ℕ
record_text r sum = heading r.ticket.events sum ++ each r.ticket.events (line_at r.ticket.owners r.opens r.closes)
