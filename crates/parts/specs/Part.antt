-- One device's part of a ticket (02, change 8). Definitions only.
-- The device's events are numbered anew in the part, 1 to m, rising; `point` leads back to the ticket's points.
use Rattle.std.specs.Prelude.{◌≡◌, cond, List, [], ◌∷◌, ◌++◌, map, ℕ, zero, suc, ◌+◌, ◌≤◌, eqb, ℤ, length, get_or}
use Rattle.temporal.specs.Lists.{All, tab}
use Rattle.temporal.specs.Ticket.{Rule, Ticket, Window, window_of, fits, total}
use Rattle.temporal.specs.Distance.{distance}
use Rattle.temporal.specs.Best.{best}

-- of events with these owners, numbered from p, those that device d owns
unfoldable pub owned_from : ℕ → ℕ → List ℕ → List ℕ
owned_from d p [] = []
owned_from d p (o ∷ os) = cond (eqb o d) (p ∷ owned_from d (suc p) os) (owned_from d (suc p) os)

-- "one device's events", by their numbers, rising
abbrev pub members : ℕ → Ticket → List ℕ
members d k = owned_from d 1 k.owners

-- the ticket's point at which the part's point q stands: 0 at 0, and q at the q-th of the device's events
abbrev pub point : ℕ → Ticket → ℕ → ℕ
point d k q = get_or (0 ∷ members d k) q 0

-- the lists f 0 to f (n - 1), one after the other
unfoldable pub joined : {A : Type 0} → ℕ → (ℕ → List A) → List A
joined zero f = []
joined (suc n) f = joined n f ++ f n

abbrev pub bounded_rule : (ℕ → ℕ → ℤ) → ℕ → ℕ → Rule
bounded_rule bound i j = record { from = i; to = j; bound = bound i j }

-- from a point to itself there is no rule
unfoldable pub rule_between : (ℕ → ℕ → ℤ) → ℕ → ℕ → List Rule
rule_between bound i j = cond (eqb i j) [] (bounded_rule bound i j ∷ [])

-- a rule from each of the points 0 to n to each other
unfoldable pub all_rules : ℕ → (ℕ → ℕ → ℤ) → List Rule
all_rules n bound = joined (suc n) (λ i. joined (suc n) (rule_between bound i))

-- the ticket's distance between two points of the part
abbrev pub distance_of : ℕ → Ticket → ℕ → ℕ → ℤ
distance_of d k i j = distance k (point d k i) (point d k j)

-- the part: "all distances among these and point 0"; the horizon stays, and so does the owner, and with it the weight
abbrev pub part_ticket : ℕ → Ticket → Ticket
part_ticket d k = record { horizon = k.horizon; owners = map (λ p. d) (members d k); rules = all_rules (length (members d k)) (distance_of d k) }

-- of windows for all events, those of device d's events
abbrev pub restrict : ℕ → Ticket → List Window → List Window
restrict d k ws = map (window_of ws) (members d k)

-- "plan that part with the same weights"
abbrev pub part_plan : ℕ → Ticket → List Window
part_plan d k = best (part_ticket d k) (fits (part_ticket d k))

-- the part's total: the total width of its plan
abbrev pub part_total : ℕ → Ticket → ℕ
part_total d k = total (part_ticket d k) (part_plan d k)

-- "the five part totals in owner order"
abbrev pub part_totals : Ticket → List ℕ
part_totals k = tab 5 (λ d. part_total d k)

-- what the totals "sum to"
unfoldable pub sum : List ℕ → ℕ
sum [] = 0
sum (x ∷ xs) = x + sum xs

-- the device that owns event p
abbrev pub owner : Ticket → ℕ → ℕ
owner k p = get_or (0 ∷ k.owners) p 0

-- "no rule joins events of two devices"; point 0 is no event
abbrev pub Separate : Ticket → Type 0
Separate k = All (λ (r : Rule). 1 ≤ r.from → 1 ≤ r.to → owner k r.from ≡ owner k r.to) k.rules
