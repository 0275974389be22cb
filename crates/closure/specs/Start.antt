-- The entries before the first stop: every event lies in 0 to the horizon, and each rule lowers one entry. Rests on `temporal`'s schedules.
use Prim.Native.Nat.{ℕ, zero, suc, ◌+◌, ◌≤◌, ◌<◌, min}
use Rattle.std.specs.Prelude.{◌≡◌, refl, cond, List, eqb, pos, length, get_or}
use Rattle.std.proofs.Common.{sym, ap, ◌∙◌, ⊎_elim, arith, eq-eqb, ne_eqb}
use Rattle.std.proofs.Math.Nat.{le-suc_iff}
use Rattle.temporal.proofs.Lists.{All-below}
use Rattle.temporal.specs.Bound.{AtMost}
use Rattle.temporal.proofs.Bound.{signed}
use Rattle.temporal.specs.Ticket.{Rule, Ticket, events, time, Schedule}
use Rattle.temporal.proofs.DistanceLaws.{inside}
use Rattle.temporal.specs.Run.{ValidRule, Valid}
use Rattle.closure.specs.Cases.{by_eq}
use Rattle.closure.specs.Signed.{bias, raise, raise_parts, raise_low, raise_high}
use Rattle.closure.specs.Matrix.{Matrix, none, floor, Everywhere, floor_same, floor_other}

-- The rule e; past the end stands a rule that is not used.
abbrev pub unused : Rule
unused = record { from = 0; to = 0; bound = pos 0 }

abbrev pub rule_at : List Rule → ℕ → Rule
rule_at rules e = get_or rules e unused

-- The entry from i to j before any rule.
unfoldable pub plain : ℕ → Matrix
plain h i j = cond (eqb i j) bias (cond (eqb j 0) bias (cond (eqb i 0) (bias + h) none))

-- What a rule says of the entry from i to j.
unfoldable pub weight : Rule → Matrix
weight r i j = cond (eqb i r.from) (cond (eqb j r.to) (raise r.bound) none) none

-- The entries with the first e rules.
unfoldable pub ruled : ℕ → List Rule → ℕ → Matrix
ruled h rules zero i j = plain h i j
ruled h rules (suc e) i j = min (ruled h rules e i j) (weight (rule_at rules e) i j)

abbrev pub start : ℕ → List Rule → Matrix
start h rules = ruled h rules (length rules)

-- The entries of a ticket before its first stop.
abbrev pub first_entries : Ticket → Matrix
first_entries k = start k.horizon k.rules

-- No schedule has more between two points than their entry says.
abbrev pub Sound : Ticket → Matrix → Type 0
Sound k D = (ts : List ℕ) → Schedule k ts → Everywhere (events k) (λ i j. time ts j + bias ≤ time ts i + D i j)

-- What holds of the entries with the first e rules.
pub record WithRules (k : Ticket) (e : ℕ) (D : Matrix) : Type 0 where
  pub sound : Sound k D
  pub floors : Everywhere (events k) (λ i j. floor i j ≤ D i j)
  pub top : Everywhere (events k) (λ i j. D i j ≤ none)
  pub high : Everywhere (events k) (λ i j. D i j < none → D i j ≤ 3000000)
  pub diagonal : (i : ℕ) → i ≤ events k → D i i ≤ bias
  pub origin : (i : ℕ) → i ≤ events k → D i 0 ≤ bias
  pub horizon : (j : ℕ) → j ≤ events k → D 0 j ≤ bias + k.horizon
  pub rules : (d : ℕ) → d < e → D (rule_at k.rules d).from (rule_at k.rules d).to ≤ raise (rule_at k.rules d).bound

-- ---- laws

pub plain_same : (h i : ℕ) → plain h i i ≡ bias
unfolding plain
plain_same h i = rw (eq-eqb i i refl)

pub plain_origin : (h i : ℕ) → plain h i 0 ≡ bias
unfolding plain
plain_origin h i = by_eq i 0 (λ e. rw (eq-eqb i 0 e)) (λ k. rw (ne_eqb i 0 k))

pub plain_horizon : (h j : ℕ) → (0 ≡ j → ⊥) → plain h 0 j ≡ bias + h
unfolding plain
plain_horizon h j k = rw (ne_eqb 0 j k, ne_eqb j 0 (λ e. k (sym e)))

pub plain_none : (h i j : ℕ) → (i ≡ j → ⊥) → (j ≡ 0 → ⊥) → (i ≡ 0 → ⊥) → plain h i j ≡ none
unfolding plain
plain_none h i j a b c = rw (ne_eqb i j a, ne_eqb j 0 b, ne_eqb i 0 c)

pub plain_cases : {A : Type 0} (h i j : ℕ) → (i ≡ j → plain h i j ≡ bias → A) → ((i ≡ j → ⊥) → j ≡ 0 → plain h i j ≡ bias → A)
    → ((i ≡ j → ⊥) → i ≡ 0 → plain h i j ≡ bias + h → A) → ((i ≡ j → ⊥) → plain h i j ≡ none → A) → A
plain_cases h i j f g u v =
    by_eq i j
    (λ e. f e (rw e (plain_same h j)))
    (λ a. by_eq j 0
    (λ e. g a e (rw e (plain_origin h i)))
    (λ b. by_eq i 0
    (λ e. u a e (rw e (plain_horizon h j (λ z. b (sym z)))))
    (λ c. v a (plain_none h i j a b c))))

plain_top : (h i j : ℕ) → h ≤ 1000000 → plain h i j ≤ none
plain_top h i j l = plain_cases h i j (λ e q. omega arith) (λ a e q. omega arith) (λ a e q. omega arith) (λ a q. omega arith)

plain_started : (k : Ticket) → Valid k → WithRules k 0 (plain k.horizon)
plain_started k valid =
    let h = k.horizon in
    let small = valid.horizon_limit in
    record {
      sound = λ ts s i j li lj.
          let t = time ts in
          let here = inside k ts s j in
          plain_cases h i j
          (λ e q. omega (arith, ap t e))
          (λ a e q. omega (arith, ap t e))
          (λ a e q. omega (arith, ap t e))
          (λ a q. omega arith);
      floors = λ i j li lj.
          plain_cases h i j
          (λ e q. omega (arith, ap (floor i) (sym e), floor_same i))
          (λ a e q. omega (arith, floor_other i j a))
          (λ a e q. omega (arith, floor_other i j a))
          (λ a q. omega (arith, floor_other i j a));
      top = λ i j li lj. plain_top h i j small;
      high = λ i j li lj l.
          plain_cases h i j (λ e q. omega arith) (λ a e q. omega arith) (λ a e q. omega arith) (λ a q. omega arith);
      diagonal = λ i li. omega (arith, plain_same h i);
      origin = λ i li. omega (arith, plain_origin h i);
      horizon = λ j lj. by_eq 0 j (λ e. rw (← e) (omega (arith, plain_same h 0))) (λ k. omega (arith, plain_horizon h j k));
      rules = λ d l. absurd (omega arith);
    }

pub weight_at : (r : Rule) → weight r r.from r.to ≡ raise r.bound
unfolding weight
weight_at r = rw (eq-eqb r.from r.from refl, eq-eqb r.to r.to refl)

weight_from : (r : Rule) (i j : ℕ) → (i ≡ r.from → ⊥) → weight r i j ≡ none
unfolding weight
weight_from r i j h = rw (ne_eqb i r.from h)

weight_to : (r : Rule) (j : ℕ) → (j ≡ r.to → ⊥) → weight r r.from j ≡ none
unfolding weight
weight_to r j h = rw (eq-eqb r.from r.from refl, ne_eqb j r.to h)

pub weight_cases : {A : Type 0} (r : Rule) (i j : ℕ)
    → (i ≡ r.from → j ≡ r.to → weight r i j ≡ raise r.bound → A) → (weight r i j ≡ none → A) → A
weight_cases r i j f g =
    by_eq i r.from
    (λ p. by_eq j r.to (λ q. f p q (rw (p, q) (weight_at r))) (λ h. g (rw p (weight_to r j h))))
    (λ h. g (weight_from r i j h))

-- One rule more.
module _ (k : Ticket) (valid : Valid k) (e : ℕ) (less : e < length k.rules) (D : Matrix) (h : WithRules k e D) where
  rule_started : WithRules k (suc e) (λ i j. min (D i j) (weight (rule_at k.rules e) i j))
  rule_started =
      let r = rule_at k.rules e in
      let ok = All-below (ValidRule (events k)) unused k.rules valid.rules_valid e less in
      let small = valid.horizon_limit in
      let low = raise_low r.bound ok.at_least in
      let high = raise_high r.bound ok.at_least ok.at_most in
      record {
        sound = λ ts s i j li lj.
            let t = time ts in
            let old = h.sound ts s i j li lj in
            weight_cases r i j
            (λ p q w.
            let obeyed = All-below (λ (x : Rule). AtMost (time ts x.from) (time ts x.to) x.bound) unused k.rules s.obeys e less in
            let rest = (signed (time ts r.from) (time ts r.to) r.bound).0 obeyed in
            let parts = raise_parts r.bound ok.at_least in
            omega (arith, ap t p, ap t q))
            (λ w. omega (arith, inside k ts s j));
        floors = λ i j li lj.
            let old = h.floors i j li lj in
            weight_cases r i j
            (λ p q w. omega (arith, floor_other i j (λ z. ok.differ (sym p ∙ z ∙ q))))
            (λ w. omega (arith, h.top i j li lj));
        top = λ i j li lj. omega (arith, h.top i j li lj);
        high = λ i j li lj l.
            weight_cases r i j
            (λ p q w. omega arith)
            (λ w. omega (arith, h.top i j li lj, h.high i j li lj (omega (arith, h.top i j li lj))));
        diagonal = λ i li. omega (arith, h.diagonal i li);
        origin = λ i li. omega (arith, h.origin i li);
        horizon = λ j lj. omega (arith, h.horizon j lj);
        rules = λ d l.
            ⊎_elim
            (λ (q : d < e). omega (arith, h.rules d q))
            (λ (q : suc d ≡ suc e). let same : d ≡ e = omega arith in rw same (omega (arith, weight_at r)))
            (le-suc_iff.0 l);
      }

pub ruled_top : (h : ℕ) (rules : List Rule) → h ≤ 1000000 → (e i j : ℕ) → ruled h rules e i j ≤ none
unfolding ruled
ruled_top h rules small zero i j = plain_top h i j small
ruled_top h rules small (suc e) i j = omega (arith, ruled_top h rules small e i j)

module _ (k : Ticket) (valid : Valid k) where
  ruled_started : (e : ℕ) → e ≤ length k.rules → WithRules k e (ruled k.horizon k.rules e)
  unfolding ruled
  ruled_started zero l = plain_started k valid
  ruled_started (suc e) l = rule_started k valid e (omega arith) (ruled k.horizon k.rules e) (ruled_started e (omega arith))

  pub started : WithRules k (length k.rules) (start k.horizon k.rules)
  started = ruled_started (length k.rules) (omega arith)
