-- Laws of the selection: a step by its two cases, what every step keeps, and that with fewer rules there is still a schedule. Rests on Selection.
use Rattle.std.specs.Prelude.{ℕ, suc, Bool, true, false, not, cond, List, [], ◌∷◌, T}
use Rattle.temporal.specs.Lists.{All}
use Rattle.temporal.specs.Ticket.{Rule, Ticket}
use Rattle.temporal.specs.Distance.{consistent}
use Rattle.temporal.proofs.Distance.{consistent_has}
use Rattle.mending.specs.Selection.{with_rules, consistent_with, Selection, keeping, dropping, step, select}

module _ (k : Ticket) (s : Selection) (i : ℕ) (r : Rule) where
  pub by_step : (P : Selection → Type 0) → (T (consistent_with k s.kept r) → P (keeping s r)) → (T (not (consistent_with k s.kept r)) → P (dropping s i))
      → P (step k s i r)
  by_step P y n = go (consistent_with k s.kept r) y n
    where
      go : (b : Bool) → (T b → P (keeping s r)) → (T (not b) → P (dropping s i)) → P (cond b (keeping s r) (dropping s i))
      go true y n = y tt
      go false y n = n tt

-- what a step keeps holds at the end, where no rule is left
pub select_keeps : (k : Ticket) (P : Selection → ℕ → List Rule → Type 0)
    → ((s : Selection) (i : ℕ) (r : Rule) (rules : List Rule) → P s i (r ∷ rules) → P (step k s i r) (suc i) rules)
    → (s : Selection) (i : ℕ) (rules : List Rule) → P s i rules → (n : ℕ) × P (select k s i rules) n []
unfolding select
select_keeps k P f s i [] h = (i, h)
select_keeps k P f s i (r ∷ rules) h = select_keeps k P f (step k s i r) (suc i) rules (f s i r rules h)

-- a schedule of some rules is one of others that hold where these do
pub fewer : (k : Ticket) (rules others : List Rule) → ((P : Rule → Type 0) → All P rules → All P others)
    → T (consistent (with_rules k rules)) → T (consistent (with_rules k others))
fewer k rules others f t =
    let s = (consistent_has (with_rules k rules)).0 t in
    (consistent_has (with_rules k others)).1 (s.0, record { count = s.1.count; inside = s.1.inside; obeys = f _ s.1.obeys })
