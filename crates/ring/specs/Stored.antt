-- A rule as it is stored, in a list by its number; place 0 is not used. Rests on nothing.
use Rattle.std.specs.Prelude.{◌≡◌, refl, ℕ, zero, suc, ◌≤◌, List, get_or, replicate}
use Rattle.std.proofs.Common.{arith, ap}
use Rattle.ring.specs.declared.rules.Rule.{Rule}

-- what stands in a place that holds no rule
abbrev pub no_rule : Rule
no_rule = record { from = 0; to = 0; cost = 0 }

abbrev pub entry : List Rule → ℕ → Rule
entry rs e = get_or rs e no_rule

-- every place holds points and a cost
pub record Small (rs : List Rule) : Type 0 where
  pub from_most : (x : ℕ) → (entry rs x).from ≤ 40
  pub to_most : (x : ℕ) → (entry rs x).to ≤ 40
  pub cost_limit : (x : ℕ) → (entry rs x).cost ≤ 2000000

none_stored : (n x : ℕ) → entry (replicate n no_rule) x ≡ no_rule
none_stored zero x = refl
none_stored (suc n) zero = refl
none_stored (suc n) (suc x) = none_stored n x

pub small_none : (n : ℕ) → Small (replicate n no_rule)
small_none n = record {
  from_most = λ x. omega (arith, ap (λ (r : Rule). r.from) (none_stored n x));
  to_most = λ x. omega (arith, ap (λ (r : Rule). r.to) (none_stored n x));
  cost_limit = λ x. omega (arith, ap (λ (r : Rule). r.cost) (none_stored n x));
}
