-- Lent rules, as `temporal`'s rules: structs, and three lists. Definitions only.
use Rattle.std.specs.Prelude.{ℕ, List, ℤ, pos, get_or}
use Rattle.temporal.specs.Lists.{tab}
use Rattle.temporal.specs.Ticket.{Rule}
use Rattle.table.specs.declared.Rule.{Rule as Lent}

-- a lent rule, as a rule
abbrev pub rule_of : Lent → Rule
rule_of r = record { from = r.from; to = r.to; bound = r.bound }

-- The rule e of three lists, and the first m rules.
abbrev pub flat_at : List ℕ → List ℕ → List ℤ → ℕ → Rule
flat_at from to bound e = record { from = get_or from e 0; to = get_or to e 0; bound = get_or bound e (pos 0) }

abbrev pub rules_of : ℕ → List ℕ → List ℕ → List ℤ → List Rule
rules_of m from to bound = tab m (flat_at from to bound)
