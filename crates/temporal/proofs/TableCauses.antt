-- The causes to refuse, one by one, and what holds of an input that has none. Rests on the definitions of Table.
use Prim.Native.Nat.{ℕ, zero, suc, ◌≤◌, ◌<◌}
use Rattle.std.specs.Prelude.{◌≡◌, Bool, true, false, cond, ◌||◌, T, ltb, ℤ, pos, negsuc, length, replicate}
use Rattle.std.proofs.Math.Path.{refl}
use Rattle.std.proofs.Common.{ap, ◌∙◌, arith}
use mathlib.Core.List.{List, [], ◌∷◌}
use Rattle.std.proofs.Math.Dec.{eqb}
use Rattle.std.proofs.lemmas.List.{length-replicate}
use Rattle.std.specs.Int.Signed.{lt_z, lt_z_no}
use borrow.Author.Tests.{lt-ltb, le-ltb, eq-eqb, ltb-false, eqb-false}
use Rattle.temporal.specs.Lists.{All}
use Rattle.temporal.specs.Ticket.{Rule, events}
use Rattle.temporal.specs.Distance.{consistent}
use Rattle.temporal.specs.Run.{ValidRule, Valid}
use Rattle.temporal.specs.Table.{ticket_of, or_else, rule_cause, rules_cause, cause, filled, table_of}

-- ---- the rules

or_none : (x y : ℕ) → x ≡ 0 → or_else x y ≡ y
unfolding or_else
or_none zero y e = refl
or_none (suc x) y e = absurd (omega arith)

or_some : (x y : ℕ) → 0 < x → or_else x y ≡ x
unfolding or_else
or_some zero y l = absurd (omega arith)
or_some (suc x) y l = refl

or_zero : (x y : ℕ) → or_else x y ≡ 0 → (x ≡ 0) × (y ≡ 0)
unfolding or_else
or_zero zero y e = (refl, e)
or_zero (suc x) y e = absurd (omega arith)

module _ (n : ℕ) where
  pub rules_end : rules_cause n [] ≡ 0
  unfolding rules_cause
  rules_end = refl

  pub rules_pass : (r : Rule) (rs : List Rule) → rule_cause n r ≡ 0 → rules_cause n (r ∷ rs) ≡ rules_cause n rs
  unfolding rules_cause
  rules_pass r rs e = or_none (rule_cause n r) (rules_cause n rs) e

  pub rules_stop : (r : Rule) (rs : List Rule) → 0 < rule_cause n r → rules_cause n (r ∷ rs) ≡ rule_cause n r
  unfolding rules_cause
  rules_stop r rs l = or_some (rule_cause n r) (rules_cause n rs) l

  -- a point above n, or equal points
  module _ (r : Rule) where
    pub rule_from : n < r.from → rule_cause n r ≡ 6
    unfolding rule_cause
    rule_from l = rw (lt-ltb n r.from l)

    pub rule_to : r.from ≤ n → n < r.to → rule_cause n r ≡ 6
    unfolding rule_cause
    rule_to k l = rw (le-ltb n r.from k, lt-ltb n r.to l)

    pub rule_same : r.from ≤ n → r.to ≤ n → r.from ≡ r.to → rule_cause n r ≡ 6
    unfolding rule_cause
    rule_same k l e = rw (le-ltb n r.from k, le-ltb n r.to l, eq-eqb r.from r.to e)

  -- a choice that is not its first value was decided by a false test
  not_first : (x y : ℕ) (b : Bool) → cond b (suc x) y ≡ 0 → (b ≡ false) × (y ≡ 0)
  not_first x y true e = absurd (omega arith)
  not_first x y false e = (refl, e)

  neither : (a b : Bool) → (a || b) ≡ false → (a ≡ false) × (b ≡ false)
  neither true b e = absurd (let z : ◌≡◌ {A = ℕ} 0 1 = cc in omega arith)
  neither false b e = (refl, e)

  pub rule_valid : (r : Rule) → rule_cause n r ≡ 0 → ValidRule n r
  unfolding rule_cause
  rule_valid r z =
      let range = lt_z r.bound (negsuc 999999) || lt_z (pos 1000000) r.bound in
      let a = not_first 5 (cond range 7 0) (ltb n r.from || (ltb n r.to || eqb r.from r.to)) z in
      let b = not_first 6 0 range a.1 in
      let p = neither (ltb n r.from) (ltb n r.to || eqb r.from r.to) a.0 in
      let q = neither (ltb n r.to) (eqb r.from r.to) p.1 in
      let s = neither (lt_z r.bound (negsuc 999999)) (lt_z (pos 1000000) r.bound) b.0 in
      record {
        from_point = ltb-false _ _ p.0;
        to_point = ltb-false _ _ q.0;
        differ = eqb-false _ _ q.1;
        at_least = lt_z_no (rw s.0 tt);
        at_most = lt_z_no (rw s.1 tt);
      }

  pub rules_valid : (rs : List Rule) → rules_cause n rs ≡ 0 → All (ValidRule n) rs
  unfolding rules_cause
  rules_valid [] z = tt
  rules_valid (r ∷ rs) z =
      let e = or_zero (rule_cause n r) (rules_cause n rs) z in
      (rule_valid r e.0, rules_valid rs e.1)

-- ---- the causes, in their order

module _ (h n : ℕ) (rules : List Rule) (room : ℕ) where
  pub cause_room : room < 1681 → cause h n rules room ≡ 10
  unfolding cause
  cause_room l = rw (lt-ltb room 1681 l)

  module _ (wide : 1681 ≤ room) where
    pub cause_horizon : 1000000 < h → cause h n rules room ≡ 2
    unfolding cause
    cause_horizon l = rw (le-ltb room 1681 wide, lt-ltb 1000000 h l)

    module _ (near : h ≤ 1000000) where
      pub cause_events : 40 < n → cause h n rules room ≡ 3
      unfolding cause
      cause_events l = rw (le-ltb room 1681 wide, le-ltb 1000000 h near, lt-ltb 40 n l)

      module _ (few : n ≤ 40) where
        pub cause_count : 256 < length rules → cause h n rules room ≡ 5
        unfolding cause
        cause_count l = rw (le-ltb room 1681 wide, le-ltb 1000000 h near, le-ltb 40 n few, lt-ltb 256 (length rules) l)

        module _ (count : length rules ≤ 256) where
          past : cause h n rules room ≡ or_else (rules_cause n rules) (cond (consistent (ticket_of h n rules)) 0 9)
          unfolding cause
          past = rw (le-ltb room 1681 wide, le-ltb 1000000 h near, le-ltb 40 n few, le-ltb 256 (length rules) count)

          pub cause_rules : 0 < rules_cause n rules → cause h n rules room ≡ rules_cause n rules
          cause_rules l = past ∙ or_some _ _ l

          pub cause_last : (b : Bool) → rules_cause n rules ≡ 0 → consistent (ticket_of h n rules) ≡ b → cause h n rules room ≡ cond b 0 9
          cause_last b z e = past ∙ or_none _ _ z ∙ ap (λ t. cond t 0 9) e

-- ---- an input with no cause

past_some : (b : Bool) (m x : ℕ) → cond b (suc m) x ≡ 0 → x ≡ 0
past_some true m x e = absurd (omega arith)
past_some false m x e = e

last_some : (b : Bool) (m : ℕ) → cond b 0 (suc m) ≡ 0 → T b
last_some true m e = tt
last_some false m e = absurd (omega arith)

-- has a schedule
pub accepted_consistent : (h n : ℕ) (rules : List Rule) (room : ℕ) → cause h n rules room ≡ 0 → T (consistent (ticket_of h n rules))
unfolding cause
accepted_consistent h n rules room e =
    last_some (consistent (ticket_of h n rules)) 8 (or_zero (rules_cause n rules) _
    (past_some (ltb 256 (length rules)) 4 _ (past_some (ltb 40 n) 2 _ (past_some (ltb 1000000 h) 1 _ (past_some (ltb room 1681) 9 _ e))))).1

-- ---- an input with no cause before the last

replicate_all : (n : ℕ) → All (λ o. o ≤ 4) (replicate n 0)
replicate_all zero = tt
replicate_all (suc n) = (omega arith, replicate_all n)

module _ (h n : ℕ) (rules : List Rule) where
  pub ticket_events : events (ticket_of h n rules) ≡ n
  ticket_events = length-replicate n 0

  pub ticket_valid : h ≤ 1000000 → n ≤ 40 → length rules ≤ 256 → rules_cause n rules ≡ 0 → Valid (ticket_of h n rules)
  ticket_valid near few count z =
      record {
        horizon_limit = near;
        events_limit = omega (arith, ticket_events);
        owners_known = replicate_all n;
        rules_limit = count;
        rules_valid = rw ticket_events (rules_valid n rules z);
      }

-- ---- the answers

module _ (h n : ℕ) (rules : List Rule) (out : List ℤ) where
  pub refuses : (r : ℕ) → cause h n rules (length out) ≡ r → 0 < r → (r, out) ≡ table_of h n rules out
  unfolding table_of
  refuses zero e l = absurd (omega arith)
  refuses (suc r) e l = rw e refl

  pub accepts : cause h n rules (length out) ≡ 0 → (0, filled n (ticket_of h n rules) out) ≡ table_of h n rules out
  unfolding table_of
  accepts e = rw e refl
