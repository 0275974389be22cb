-- The laws of what specs/TableRefusals defines.
use Rattle.std.specs.Prelude.{ℕ, ◌≤◌, ◌<◌, ◌≡◌, Bool, true, cond, ◌||◌, List, [], ◌∷◌, ◌↔◌, ◌≢◌, ℤ, pos, negsuc, length}
use Rattle.std.proofs.Math.Path.{refl}
use Rattle.std.proofs.Common.{sym, ap, subst, ◌∙◌, inl, inr, arith}
use Rattle.std.proofs.Math.Bool.{false}
use Rattle.std.proofs.Math.Dec.{not_T, ltb, eqb}
use Rattle.std.specs.Int.Signed.{lt_z, lt_z_yes, lt_z_no, clash_ℤ}
use borrow.Author.Tests.{ltb-true, ltb-false, eqb-true, eqb-false}
use Rattle.temporal.specs.Lists.{All}
use Rattle.temporal.proofs.Lists.{T-false}
use Rattle.temporal.specs.Ticket.{Rule, Schedule}
use Rattle.temporal.specs.Distance.{consistent}
use Rattle.temporal.proofs.Distance.{consistent_has}
use Rattle.temporal.specs.Run.{ValidRule, Valid}
use Rattle.temporal.specs.Table.{ticket_of, rule_cause, rules_cause, cause, table_of}
use Rattle.temporal.proofs.TableCauses.{rules_end, rules_pass, rules_stop, rule_valid, cause_room, cause_horizon, cause_events, cause_count}
use Rattle.temporal.proofs.TableCauses.{cause_rules, cause_last, ticket_events, ticket_valid, refuses, accepts}
use Rattle.temporal.specs.TableRefusals.{RightBound, RightPoints, RuleRefused, RulesRefused, TableRefused, points, bound, short, horizon, events, count, rule, impossible}

by_lt : {G : Type 0} (a b : ℕ) → (a < b → G) → (b ≤ a → G) → G
by_lt {G} a b f g = go (ltb a b) refl
  where
    go : (t : Bool) → ltb a b ≡ t → G
    go true e = f (ltb-true a b e)
    go false e = g (ltb-false a b e)

-- ---- one rule

module _ (n : ℕ) (r : Rule) (P : ℕ → Type 0) where
  by_rule : (¬ RightPoints n r → P 6) → (RightPoints n r → ¬ RightBound r → P 7) → (RightPoints n r → RightBound r → P 0) → P (rule_cause n r)
  unfolding rule_cause
  by_rule p6 p7 p0 =
      go (ltb n r.from) (ltb n r.to) (eqb r.from r.to) (lt_z r.bound (negsuc 999999)) (lt_z (pos 1000000) r.bound) refl refl refl refl refl
    where
      right : ltb n r.from ≡ false → ltb n r.to ≡ false → eqb r.from r.to ≡ false → RightPoints n r
      right a b c = (ltb-false _ _ a, ltb-false _ _ b, eqb-false _ _ c)

      go : (a b c d e : Bool) → ltb n r.from ≡ a → ltb n r.to ≡ b → eqb r.from r.to ≡ c → lt_z r.bound (negsuc 999999) ≡ d
          → lt_z (pos 1000000) r.bound ≡ e → P (cond (a || (b || c)) 6 (cond (d || e) 7 0))
      go true b c d e qa qb qc qd qe = p6 (λ p. omega (arith, p.0, ltb-true n r.from qa))
      go false true c d e qa qb qc qd qe = p6 (λ p. omega (arith, p.1, ltb-true n r.to qb))
      go false false true d e qa qb qc qd qe = p6 (λ p. p.2 (eqb-true _ _ qc))
      go false false false true e qa qb qc qd qe = p7 (right qa qb qc) (λ x. clash_ℤ (lt_z_yes (rw qd tt)) x.0)
      go false false false false true qa qb qc qd qe = p7 (right qa qb qc) (λ x. clash_ℤ (lt_z_yes (rw qe tt)) x.1)
      go false false false false false qa qb qc qd qe = p0 (right qa qb qc) (lt_z_no (rw qd tt), lt_z_no (rw qe tt))

module _ (n : ℕ) (r : Rule) where
  rule_has : 0 < rule_cause n r → RuleRefused n r (rule_cause n r)
  rule_has = by_rule n r (λ x. 0 < x → RuleRefused n r x) (λ w l. points refl w) (λ p w l. bound refl p w) (λ p b l. absurd (omega (arith, l)))

  rule_is : (x : ℕ) → RuleRefused n r x → (rule_cause n r ≡ x) × (0 < x)
  rule_is x c = by_rule n r (λ y. RuleRefused n r x → (y ≡ x) × (0 < x)) six seven none c
    where
      six : ¬ RightPoints n r → RuleRefused n r x → (6 ≡ x) × (0 < x)
      six w (points e v) = (sym e, omega arith)
      six w (bound e p v) = absurd (w p)

      seven : RightPoints n r → ¬ RightBound r → RuleRefused n r x → (7 ≡ x) × (0 < x)
      seven p w (points e v) = absurd (v p)
      seven p w (bound e q v) = (sym e, omega arith)

      none : RightPoints n r → RightBound r → RuleRefused n r x → (0 ≡ x) × (0 < x)
      none p b (points e v) = absurd (v p)
      none p b (bound e q v) = absurd (v b)

  rule_none : ValidRule n r → rule_cause n r ≡ 0
  rule_none v = by_rule n r (λ y. y ≡ 0)
      (λ w. absurd (w (v.from_point, v.to_point, v.differ)))
      (λ p w. absurd (w (v.at_least, v.at_most)))
      (λ p b. refl)

-- ---- rule by rule

module _ (n : ℕ) where
  rules_has : (rs : List Rule) → 0 < rules_cause n rs → RulesRefused n rs (rules_cause n rs)
  rules_has [] l = absurd (omega (arith, l, rules_end n))
  rules_has (r ∷ rs) l = by_lt 0 (rule_cause n r)
      (λ s. inl (subst (RuleRefused n r) (sym (rules_stop n r rs s)) (rule_has n r s)))
      (λ z.
      let e : rule_cause n r ≡ 0 = omega (arith, z) in
      let p = rules_pass n r rs e in
      inr (rule_valid n r e, subst (RulesRefused n rs) (sym p) (rules_has rs (omega (arith, l, p)))))

  rules_is : (rs : List Rule) (x : ℕ) → RulesRefused n rs x → (rules_cause n rs ≡ x) × (0 < x)
  rules_is [] x c = absurd c
  rules_is (r ∷ rs) x (inl c) =
      let e = rule_is n r x c in
      (rules_stop n r rs (omega (arith, e)) ∙ e.0, e.1)
  rules_is (r ∷ rs) x (inr c) =
      let e = rules_is rs x c.1 in
      (rules_pass n r rs (rule_none n r c.0) ∙ e.0, e.1)

  rules_none : (rs : List Rule) → All (ValidRule n) rs → rules_cause n rs ≡ 0
  rules_none [] h = rules_end n
  rules_none (r ∷ rs) h = rules_pass n r rs (rule_none n r h.0) ∙ rules_none rs h.1

-- ---- the whole

module _ (h n : ℕ) (rules : List Rule) (room : ℕ) where
  cause_has : 0 < cause h n rules room → TableRefused h n rules room (cause h n rules room)
  cause_has l =
      by_lt room 1681 (λ s. short (cause_room h n rules room s) s) (λ wide.
      by_lt 1000000 h (λ s. horizon (cause_horizon h n rules room wide s) wide s) (λ near.
      by_lt 40 n (λ s. events (cause_events h n rules room wide near s) wide near s) (λ few.
      by_lt 256 (length rules) (λ s. count (cause_count h n rules room wide near few s) wide near few s) (λ some.
      by_lt 0 (rules_cause n rules)
      (λ s. rule wide near few some (subst (RulesRefused n rules) (sym (cause_rules h n rules room wide near few some s)) (rules_has n rules s)))
      (λ z.
      let e : rules_cause n rules ≡ 0 = omega (arith, z) in
      by_schedule (consistent (ticket_of h n rules)) refl wide (ticket_valid h n rules near few some e)
      (cause_last h n rules room wide near few some _ e refl))))))
    where
      by_schedule : (b : Bool) → consistent (ticket_of h n rules) ≡ b → 1681 ≤ room → Valid (ticket_of h n rules) → cause h n rules room ≡ cond b 0 9
          → TableRefused h n rules room (cause h n rules room)
      by_schedule true q wide v e = absurd (omega (arith, l, e))
      by_schedule false q wide v e = impossible e wide v (λ ts s. rw q at ((consistent_has (ticket_of h n rules)).1 (ts, s)))

  cause_is : (x : ℕ) → TableRefused h n rules room x → (cause h n rules room ≡ x) × (0 < x)
  cause_is x (short e s) = (cause_room h n rules room s ∙ sym e, omega arith)
  cause_is x (horizon e wide s) = (cause_horizon h n rules room wide s ∙ sym e, omega arith)
  cause_is x (events e wide near s) = (cause_events h n rules room wide near s ∙ sym e, omega arith)
  cause_is x (count e wide near few s) = (cause_count h n rules room wide near few s ∙ sym e, omega arith)
  cause_is x (rule wide near few some c) =
      let q = rules_is n rules x c in
      (cause_rules h n rules room wide near few some (omega (arith, q)) ∙ q.0, q.1)
  cause_is x (impossible e wide v none) =
      let same = ticket_events h n rules in
      let z : rules_cause n rules ≡ 0 = rules_none n rules (subst (λ m. All (ValidRule m) rules) same v.rules_valid) in
      let k = ticket_of h n rules in
      let no : consistent k ≡ false = T-false (consistent k) (not_T (consistent k) (λ t. none ((consistent_has k).0 t).0 ((consistent_has k).0 t).1)) in
      (cause_last h n rules room wide v.horizon_limit (omega (arith, v.events_limit, same)) v.rules_limit false z no ∙ sym e, omega arith)

-- ---- the theorem

table_number : (h n : ℕ) (rules : List Rule) (out : List ℤ) → (table_of h n rules out).0 ≡ cause h n rules (length out)
table_number h n rules out = by_lt 0 (cause h n rules (length out))
    (λ l. ap (λ (a : ℕ × List ℤ). a.0) (sym (refuses h n rules out _ refl l)))
    (λ z.
    let e : cause h n rules (length out) ≡ 0 = omega (arith, z) in
    ap (λ (a : ℕ × List ℤ). a.0) (sym (accepts h n rules out e)) ∙ sym e)

-- the table's number is x and not 0 exactly where x is the number of the first cause that applies, so 0 exactly where none does
pub table_refusal : (h n : ℕ) (rules : List Rule) (out : List ℤ) (x : ℕ)
    → TableRefused h n rules (length out) x ↔ (((table_of h n rules out).0 ≡ x) × (x ≢ 0))
table_refusal h n rules out x = (
  λ c. let q = cause_is h n rules (length out) x c in (table_number h n rules out ∙ q.0, λ z. omega (arith, q.1, z)),
  λ q.
      let e : cause h n rules (length out) ≡ x = sym (table_number h n rules out) ∙ q.0 in
      subst (TableRefused h n rules (length out)) e (cause_has h n rules (length out) (omega (arith, e, q.1))),
)

not_nine : (n : ℕ) (rs : List Rule) → ¬ RulesRefused n rs 9
not_nine n [] c = c
not_nine n (r ∷ rs) (inl (points e w)) = omega (arith, e)
not_nine n (r ∷ rs) (inl (bound e p w)) = omega (arith, e)
not_nine n (r ∷ rs) (inr c) = not_nine n rs c.1

-- so it is 9 exactly where nothing else is wrong and no schedule exists
pub table_nine : (h n : ℕ) (rules : List Rule) (out : List ℤ)
    → ((table_of h n rules out).0 ≡ 9)
    ↔ ((1681 ≤ length out) × Valid (ticket_of h n rules) × ((ts : List ℕ) → ¬ Schedule (ticket_of h n rules) ts))
table_nine h n rules out = (
  λ e. by ((table_refusal h n rules out 9).1 (e, λ z. omega (arith, z))),
  λ q. ((table_refusal h n rules out 9).0 (impossible refl q.0 q.1 q.2)).0,
)
  where
    by : TableRefused h n rules (length out) 9 → (1681 ≤ length out) × Valid (ticket_of h n rules) × ((ts : List ℕ) → ¬ Schedule (ticket_of h n rules) ts)
    by (short e l) = absurd (omega (arith, e))
    by (horizon e w l) = absurd (omega (arith, e))
    by (events e w l m) = absurd (omega (arith, e))
    by (count e w l m o) = absurd (omega (arith, e))
    by (rule w l m o c) = absurd (not_nine n rules c)
    by (impossible e w v none) = (w, v, none)
