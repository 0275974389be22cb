-- What the writers are lent: a sheet, the numbers and arrays of a ticket's struct and the two lists of names. The point that a rule goes from, its bound and
-- the text, by a sheet; and that these are those of the ticket that the struct holds (`sheet_text`). Rests on `reasons` for the lines, on `paths` for the rules.
use Prim.Native.Nat.{ℕ, zero, suc, ◌+◌, ◌*◌, ◌-◌, ◌/◌, ◌%◌, ◌≤◌, ◌<◌}
use Rattle.std.specs.Prelude.{◌≡◌, true, cond, leb, eqb, ℤ, pos, nat_abs, get_or}
use Rattle.std.proofs.Math.Path.{refl, ap, ap₂}
use Rattle.std.proofs.Common.{sym, ◌∙◌, ⊎_elim, arith}
use mathlib.Core.List.{List, [], ◌∷◌, ◌++◌}
use borrow.Author.Tests.{le-leb, lt-leb, eq-eqb, ne_eqb}
use Rattle.temporal.specs.Lists.{All}
use Rattle.temporal.proofs.Lists.{All-at, below_or_not}
use Rattle.temporal.specs.Ticket.{Rule, events}
use Rattle.temporal.specs.Run.{Valid}
use Rattle.ticket.specs.Writing.{owner_in, content}
use Rattle.ticket.proofs.WritingLaws.{get_d_firsts}
use Rattle.ticket.proofs.Content.{in_events, in_rules}
use Rattle.ticket.specs.declared.Ticket.{Ticket}
use Rattle.names.specs.Names.{well_formed, name_at}
use Rattle.paths.specs.Rules.{from_of, bound_of, Number}
use Rattle.paths.proofs.Walks.{rule_points, valid_points}
use Rattle.paths.proofs.Structs.{written_in, back_in, out_in}
use Rattle.reasons.specs.Text.{at_line, point_line, rule_line, ring_text}
use Rattle.reasons.proofs.Size.{bound_small}
use Rattle.ring_text.specs.declared.Sheet as declared

-- ---- the definitions

pub record Sheet : Type 0 where
  pub horizon : ℕ
  pub rules : ℕ
  pub owners : List ℕ
  pub from : List ℕ
  pub bound : List ℤ
  pub labels : List ℕ
  pub roster : List ℕ

-- that of a ticket's struct and two lists of names
abbrev pub sheet_in : Ticket → List ℕ → List ℕ → Sheet
sheet_in t labels roster =
    record { horizon = t.horizon; rules = t.rules; owners = t.owners; from = t.from; bound = t.bound; labels = labels; roster = roster }

-- and that of what the writers are lent
abbrev pub lent : declared.Sheet → Sheet
lent s = sheet_in s.ticket.now s.labels.now s.roster.now

-- the point that rule x goes from, of m written rules
unfoldable pub from_at : ℕ → List ℕ → ℕ → ℕ
from_at m from x = cond (leb x m) (get_or from (x - 1) 0) (cond (eqb ((x - m) % 2) 1) ((x - m + 1) / 2) 0)

-- its bound
unfoldable pub bound_at : ℕ → ℕ → List ℤ → ℕ → ℤ
bound_at m h bound x = cond (leb x m) (get_or bound (x - 1) (pos 0)) (cond (eqb ((x - m) % 2) 1) (pos 0) (pos h))

abbrev pub from_in : Sheet → ℕ → ℕ
from_in s x = from_at s.rules s.from x

abbrev pub bound_in : Sheet → ℕ → ℤ
bound_in s x = bound_at s.rules s.horizon s.bound x

-- the line of the point that rule x goes from
abbrev pub start_line : Sheet → ℕ → List ℕ
start_line s x = point_line s.owners s.labels s.roster (from_in s x)

-- the text from the line of rule x on, where `more` is the text of the rules left
abbrev pub rule_text : Sheet → ℕ → List ℕ → List ℕ
rule_text s x more = rule_line x (bound_in s x) ++ more

-- the text from a point line on
unfoldable pub point_text : Sheet → List ℕ → List ℕ
point_text s [] = []
point_text s (x ∷ xs) = start_line s x ++ rule_text s x (point_text s xs)

-- what the writers ask of n events: points and bounds of a ticket that was read, lists of names as they must be, and numbers of rules that there are
pub record Writable (s : Sheet) (ring : List ℕ) : Type 0 where
  pub events : ℕ
  pub events_limit : events ≤ 40
  pub horizon_limit : s.horizon ≤ 1000000
  pub rules_limit : s.rules ≤ 256
  pub owners_known : (i : ℕ) → i < events → get_or s.owners i 0 ≤ 4
  pub from_points : (i : ℕ) → i < s.rules → get_or s.from i 0 ≤ events
  pub bounds_small : (i : ℕ) → i < s.rules → nat_abs (get_or s.bound i (pos 0)) ≤ 1000000
  pub labels_listed : well_formed s.labels events ≡ true
  pub roster_listed : well_formed s.roster 5 ≡ true
  pub numbers : All (λ x. (1 ≤ x) × (x ≤ s.rules + 2 * events)) ring

-- ---- the point and the bound of a rule, case by case

module _ (m : ℕ) (from : List ℕ) (x : ℕ) where
  pub from_written : x ≤ m → from_at m from x ≡ get_or from (x - 1) 0
  unfolding from_at
  from_written h = rw (le-leb x m h)

  pub from_back : m < x → (x - m) % 2 ≡ 1 → from_at m from x ≡ (x - m + 1) / 2
  unfolding from_at
  from_back h e = rw (lt-leb x m h, eq-eqb ((x - m) % 2) 1 e)

  pub from_start : m < x → ((x - m) % 2 ≡ 1 → ⊥) → from_at m from x ≡ 0
  unfolding from_at
  from_start h e = rw (lt-leb x m h, ne_eqb ((x - m) % 2) 1 e)

module _ (m h : ℕ) (bound : List ℤ) (x : ℕ) where
  pub bound_written : x ≤ m → bound_at m h bound x ≡ get_or bound (x - 1) (pos 0)
  unfolding bound_at
  bound_written l = rw (le-leb x m l)

  pub bound_back : m < x → (x - m) % 2 ≡ 1 → bound_at m h bound x ≡ pos 0
  unfolding bound_at
  bound_back l e = rw (lt-leb x m l, eq-eqb ((x - m) % 2) 1 e)

  pub bound_start : m < x → ((x - m) % 2 ≡ 1 → ⊥) → bound_at m h bound x ≡ pos h
  unfolding bound_at
  bound_start l e = rw (lt-leb x m l, ne_eqb ((x - m) % 2) 1 e)

-- by the kind of rule x of m written ones: a written one, one to 0, one from 0
by_rule : (X : Type 0) (m x : ℕ) → (x ≤ m → X) → (m < x → (x - m) % 2 ≡ 1 → X) → (m < x → ((x - m) % 2 ≡ 1 → ⊥) → X) → X
by_rule X m x written back start = ⊎_elim
    (λ (l : m < x). ⊎_elim (λ (o : (x - m) % 2 < 1). start l (λ q. omega arith)) (λ (o : 1 ≤ (x - m) % 2). back l (omega arith)) (below_or_not ((x - m) % 2) 1))
    written
    (below_or_not m x)

module _ (s : Sheet) (ring : List ℕ) (r : Writable s ring) (x : ℕ) (l : 1 ≤ x) (h : x ≤ s.rules + 2 * r.events) where
  -- a rule goes from a point that there is
  pub point_known : from_in s x ≤ r.events
  point_known =
      by_rule (from_in s x ≤ r.events) s.rules x
      (λ g. omega (arith, from_written s.rules s.from x g, r.from_points (x - 1) (omega arith)))
      (λ g o. omega (arith, from_back s.rules s.from x g o))
      (λ g o. omega (arith, from_start s.rules s.from x g o))

  -- and its bound is not large
  pub bound_known : nat_abs (bound_in s x) ≤ 1000000
  bound_known =
      by_rule (nat_abs (bound_in s x) ≤ 1000000) s.rules x
      (λ g. rw (bound_written s.rules s.horizon s.bound x g) (r.bounds_small (x - 1) (omega arith)))
      (λ g o. rw (bound_back s.rules s.horizon s.bound x g o) (omega arith))
      (λ g o. rw (bound_start s.rules s.horizon s.bound x g o) r.horizon_limit)

-- ---- the struct of a ticket

module _ (t : Ticket) where
  module _ (x : ℕ) (l : 1 ≤ x) (h : x ≤ t.rules + 2 * t.events) where
    pub from_same : from_at t.rules t.from x ≡ from_of (content t) x
    from_same =
        by_rule (from_at t.rules t.from x ≡ from_of (content t) x) t.rules x
        (λ g. from_written t.rules t.from x g ∙ sym (ap (λ (r : Rule). r.from) (written_in t x l g)))
        (λ g o. from_back t.rules t.from x g o ∙ sym (ap (λ (r : Rule). r.from) (back_in t x g h o)))
        (λ g o. from_start t.rules t.from x g o ∙ sym (ap (λ (r : Rule). r.from) (out_in t x g h o)))

    pub bound_same : bound_at t.rules t.horizon t.bound x ≡ bound_of (content t) x
    bound_same =
        by_rule (bound_at t.rules t.horizon t.bound x ≡ bound_of (content t) x) t.rules x
        (λ g. bound_written t.rules t.horizon t.bound x g ∙ sym (ap (λ (r : Rule). r.bound) (written_in t x l g)))
        (λ g o. bound_back t.rules t.horizon t.bound x g o ∙ sym (ap (λ (r : Rule). r.bound) (back_in t x g h o)))
        (λ g o. bound_start t.rules t.horizon t.bound x g o ∙ sym (ap (λ (r : Rule). r.bound) (out_in t x g h o)))

  module _ (v : Valid (content t)) (labels roster : List ℕ) where
    same_line : (p : ℕ) → p ≤ events (content t) → point_line t.owners labels roster p ≡ point_line (content t).owners labels roster p
    unfolding point_line
    same_line zero l = refl
    same_line (suc i) l = ap (λ o. at_line (name_at labels i) (name_at roster o)) (sym (get_d_firsts t.events (owner_in t) 0 i (omega (arith, in_events t))))

    -- the text by a struct's sheet is that of the ticket which the struct holds
    pub sheet_text : (ring : List ℕ) → All (Number (content t)) ring → point_text (sheet_in t labels roster) ring ≡ ring_text (content t) labels roster ring
    unfolding point_text ring_text
    sheet_text [] h = refl
    sheet_text (x ∷ xs) h =
        let top : x ≤ t.rules + 2 * t.events = omega (arith, h.0.1, in_events t, in_rules t) in
        let f = from_same x h.0.0 top in
        let line = ap (point_line t.owners labels roster) f ∙ same_line (from_of (content t) x) (rule_points (content t) (valid_points (content t) v) x).0 in
        ap₂ ◌++◌ line (ap₂ ◌++◌ (ap (rule_line x) (bound_same x h.0.0 top)) (sheet_text xs h.1))

    -- and such a sheet is ready
    pub sheet_writable : well_formed labels (events (content t)) ≡ true → well_formed roster 5 ≡ true → (ring : List ℕ) → All (Number (content t)) ring
        → Writable (sheet_in t labels roster) ring
    sheet_writable l r ring n =
        record {
          events = events (content t);
          events_limit = v.events_limit;
          horizon_limit = v.horizon_limit;
          rules_limit = omega (arith, in_rules t, v.rules_limit);
          owners_known = λ i g.
              let e = get_d_firsts t.events (owner_in t) 0 i (omega (arith, in_events t)) in
              omega (arith, e, All-at (λ o. o ≤ 4) 0 (omega arith) (content t).owners v.owners_known i);
          from_points = λ i g.
              let e = ap (λ (u : Rule). u.from) (written_in t (i + 1) (omega arith) (omega arith)) in
              let same : i + 1 - 1 ≡ i = omega arith in
              omega (arith, e, ap (λ j. get_or t.from j 0) same, (rule_points (content t) (valid_points (content t) v) (i + 1)).0);
          bounds_small = λ i g.
              let same : i + 1 - 1 ≡ i = omega arith in
              let e : bound_of (content t) (i + 1) ≡ get_or t.bound i (pos 0) =
              ap (λ (u : Rule). u.bound) (written_in t (i + 1) (omega arith) (omega arith)) ∙ ap (λ j. get_or t.bound j (pos 0)) same in
              rw (← e) (bound_small (content t) v (i + 1));
          labels_listed = l;
          roster_listed = r;
          numbers = rw (← (in_rules t)) n;
        }
