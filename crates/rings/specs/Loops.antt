-- Closed walks with a negative sum, its numbers without a sign; they are rings from whichever rule they start. Rests on paths' Walks.
use Rattle.std.specs.Prelude.{List, ℕ, ◌≤◌, ◌<◌, length}
use Rattle.temporal.specs.Lists.{All}
use Rattle.temporal.specs.Ticket.{Ticket}
use Rattle.paths.specs.Rules.{Number, Walk}
use Rattle.paths.specs.Walks.{ups, downs}

-- ---- closed walks with a negative sum

pub record Loop (k : Ticket) (p : ℕ) (es : List ℕ) : Type 0 where
  pub some : 1 ≤ length es
  pub numbers : All (Number k) es
  pub closed : Walk k p es p
  pub negative : ups k es < downs k es
