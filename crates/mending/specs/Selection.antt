-- Mending a ticket (02, change 6): which rules are kept, which are dropped, and the mended ticket. Definitions only.
-- Rests on temporal's `consistent`: a schedule exists.
use Rattle.std.specs.Prelude.{ℕ, suc, Bool, cond, List, [], ◌∷◌, ◌++◌}
use Rattle.temporal.specs.Ticket.{Rule, Ticket}
use Rattle.temporal.specs.Distance.{consistent}

-- the ticket's events and limits, with these rules
abbrev pub with_rules : Ticket → List Rule → Ticket
with_rules k rules = record { horizon = k.horizon; owners = k.owners; rules = rules }

-- "a schedule exists for it together with the rules kept so far and the limits 0 to H"
abbrev pub consistent_with : Ticket → List Rule → Rule → Bool
consistent_with k kept r = consistent (with_rules k (kept ++ r ∷ []))

-- the rules kept so far, and the numbers of those dropped so far
pub record Selection : Type 0 where
  pub kept : List Rule
  pub dropped : List ℕ

abbrev pub nothing : Selection
nothing = record { kept = []; dropped = [] }

abbrev pub keeping : Selection → Rule → Selection
keeping s r = record { kept = s.kept ++ r ∷ []; dropped = s.dropped }

abbrev pub dropping : Selection → ℕ → Selection
dropping s i = record { kept = s.kept; dropped = s.dropped ++ i ∷ [] }

-- the rule with the number i: "keeps a rule if [consistent_with]; otherwise it drops it"
abbrev pub step : Ticket → Selection → ℕ → Rule → Selection
step k s i r = cond (consistent_with k s.kept r) (keeping s r) (dropping s i)

-- "walks the rules in ticket order": these, which have the numbers from i on
unfoldable pub select : Ticket → Selection → ℕ → List Rule → Selection
select k s i [] = s
select k s i (r ∷ rules) = select k (step k s i r) (suc i) rules

-- all rules, which are numbered 1 to m
unfoldable pub selected : Ticket → Selection
selected k = select k nothing 1 k.rules

abbrev pub kept_rules : Ticket → List Rule
kept_rules k = (selected k).kept

-- "the ticket with the kept rules"
abbrev pub mended : Ticket → Ticket
mended k = with_rules k (kept_rules k)

-- "the dropped rules' numbers"
abbrev pub dropped : Ticket → List ℕ
dropped k = (selected k).dropped
