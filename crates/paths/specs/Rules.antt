-- All rules of a ticket with their numbers (02, change 2), and walks along them. Definitions only. Rests on `temporal`'s tickets.
use Rattle.std.specs.Prelude.{◌≡◌, List, [], ◌∷◌, ◌++◌, ℕ, zero, suc, ◌+◌, ◌*◌, ◌≤◌, ℤ, pos, ◌+ℤ◌, length, get_or}
use Rattle.temporal.specs.Ticket.{Rule, Ticket, events}

-- ---- the rules and their numbers

-- "i to 0: 0" and "0 to i: h", the unwritten rules of event i: it lies in 0 to h
abbrev pub back : ℕ → Rule
back i = record { from = i; to = 0; bound = pos 0 }

abbrev pub out : ℕ → ℕ → Rule
out h i = record { from = 0; to = i; bound = pos h }

-- those of n events from i on
unfoldable pub unwritten : ℕ → ℕ → ℕ → List Rule
unwritten h i zero = []
unwritten h i (suc n) = back i ∷ out h i ∷ unwritten h (suc i) n

-- "numbered 1 to m in ticket order. The unwritten ones count too: i to 0: 0 has number m + 2 × i - 1, 0 to i: H has m + 2 × i"
unfoldable pub all_rules : Ticket → List Rule
all_rules k = k.rules ++ unwritten k.horizon 1 (events k)

-- how many there are: m + 2 × n
abbrev pub size : Ticket → ℕ
size k = length k.rules + 2 * events k

-- the rule with a number, from 1 on; "0 to 0: 0" where there is none
unfoldable pub rule_at : Ticket → ℕ → Rule
rule_at k zero = back 0
rule_at k (suc i) = get_or (all_rules k) i (back 0)

abbrev pub from_of : Ticket → ℕ → ℕ
from_of k e = (rule_at k e).from

abbrev pub to_of : Ticket → ℕ → ℕ
to_of k e = (rule_at k e).to

abbrev pub bound_of : Ticket → ℕ → ℤ
bound_of k e = (rule_at k e).bound

-- e is the number of a rule
abbrev pub Number : Ticket → ℕ → Type 0
Number k e = (1 ≤ e) × (e ≤ size k)

-- ---- walks

-- the rules lead from point p to point q: the first goes from p, each other from where the one before it goes to, and the last to q
abbrev pub Walk : Ticket → ℕ → List ℕ → ℕ → Type 0
Walk k p [] q = p ≡ q
Walk k p (e ∷ es) q = (p ≡ from_of k e) × Walk k (to_of k e) es q

-- the sum of the bounds
abbrev pub sum : Ticket → List ℕ → ℤ
sum k [] = pos 0
sum k (e ∷ es) = bound_of k e +ℤ sum k es
