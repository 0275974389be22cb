-- The loop over the rules: the kept ones are in the network of the points, with a potential that meets them. Rests on `mending`'s Selection, and on `schedule`
-- and `admit` for one rule more.
use Rattle.std.specs.Prelude.{ℕ, suc, ◌+◌, ◌*◌, ◌≤◌, ◌<◌, ◌≡◌, refl, Bool, true, false, List, [], ◌∷◌, ◌++◌, map, T, pos, length, get_or, set, drop, replicate}
use Rattle.std.proofs.Common.{sym, ap, subst, ◌∙◌, arith, length-append, drop_of_length-le, drop-cons}
use Rattle.std.proofs.Math.Dec.{not_T}
use Rattle.std.proofs.Math.ListN.{get_or-append}
use Rattle.std.proofs.Math.Seq.{get_or-append_seam}
use Rattle.temporal.specs.Lists.{All}
use Rattle.temporal.proofs.Lists.{T-true, T-false, All-join, All-below}
use Rattle.temporal.specs.Bound.{biased}
use Rattle.temporal.specs.Ticket as temporal
use Rattle.temporal.specs.Ticket.{Rule, events}
use Rattle.temporal.specs.Distance.{consistent}
use Rattle.temporal.proofs.Distance.{consistent_has}
use Rattle.temporal.specs.Run.{Valid, ValidRule}
use Rattle.network.specs.Stored.{at}
use Rattle.network.specs.Grow.{Growing}
use Rattle.network.specs.Edges.{extends_edge, Boxes, boxes_kept}
use Rattle.admit.specs.Admit.{Admits}
use Rattle.ticket.specs.Writing.{rule_in, firsts, content}
use Rattle.ticket.specs.Stored.{pad}
use Rattle.ticket.proofs.Laws.{pad_set, pad_map}
use Rattle.ticket.proofs.Agree.{field_at, firsts_cong, firsts_all}
use Rattle.ticket.proofs.Content.{in_rules}
use Rattle.ticket.specs.declared.Ticket.{Ticket}
use Rattle.select.specs.declared.Mended.{Mended}
use Rattle.potentials.specs.Arrays.{no_rule, Given, rule_in_lem, valid_given}
use Rattle.demands.specs.Rules.{SmallRule, given_small}
use Rattle.schedule.specs.Times.{times_of, schedule_timed, timed_schedule}
use Rattle.schedule.specs.Schedule.{low_zeros, Tried, tried_start, tried_more, tried_none, tried_timed}
use Rattle.mending.specs.Selection.{with_rules, consistent_with, Selection, nothing, keeping, dropping, step, select, selected, mended, dropped}

-- ---- the struct with some rules

-- the places past them are 0
abbrev pub kept_struct : Ticket → List Rule → Ticket
kept_struct t rules =
    record {
      horizon = t.horizon;
      events = t.events;
      owners = t.owners;
      rules = length rules;
      from = pad 0 256 (map (λ (r : Rule). r.from) rules);
      to = pad 0 256 (map (λ (r : Rule). r.to) rules);
      bound = pad (pos 0) 256 (map (λ (r : Rule). r.bound) rules);
    }

-- a rule of it, by its index
module _ (t : Ticket) (rules : List Rule) (i : ℕ) (l : i < length rules) where
  from_at : at (kept_struct t rules).from i ≡ (get_or rules i no_rule).from
  from_at = field_at (λ (r : Rule). r.from) no_rule 256 rules i l

  to_at : at (kept_struct t rules).to i ≡ (get_or rules i no_rule).to
  to_at = field_at (λ (r : Rule). r.to) no_rule 256 rules i l

  bound_at : get_or (kept_struct t rules).bound i (pos 0) ≡ (get_or rules i no_rule).bound
  bound_at = field_at (λ (r : Rule). r.bound) no_rule 256 rules i l

  rule_at_lem : rule_in (kept_struct t rules) i ≡ get_or rules i no_rule
  rule_at_lem = rw (from_at, to_at, bound_at)

kept_content : (t : Ticket) (rules : List Rule) → content (kept_struct t rules) ≡ with_rules (content t) rules
kept_content t rules = ap (with_rules (content t)) (firsts_cong _ _ _ (rule_at_lem t rules) ∙ firsts_all rules no_rule)

-- a valid ticket with other rules that are few and valid
valid_with : (k : temporal.Ticket) (rules : List Rule) → Valid k → length rules ≤ 256 → All (ValidRule (events k)) rules → Valid (with_rules k rules)
valid_with k rules v l a = record {
  horizon_limit = v.horizon_limit;
  events_limit = v.events_limit;
  owners_known = v.owners_known;
  rules_limit = l;
  rules_valid = a;
}

kept_given : (t : Ticket) (rules : List Rule) → Valid (with_rules (content t) rules) → Given (kept_struct t rules)
kept_given t rules v = valid_given (kept_struct t rules) (subst Valid (sym (kept_content t rules)) v)

-- ---- a rule more

module _ (t : Ticket) (rules : List Rule) (r : Rule) where
  abbrev more : List Rule
  more = rules ++ r ∷ []

  long_more : length more ≡ length rules + 1
  long_more = length-append rules (r ∷ [])

  -- the network has the first rules of the longer list as well
  tried_longer : {net : List ℕ} {size : ℕ} {pot tails heads : List ℕ} → Tried net size (kept_struct t rules) pot tails heads (length rules)
      → Tried net size (kept_struct t more) pot tails heads (length rules)
  tried_longer T = record {
    long = T.long;
    boxes = T.boxes;
    ruled = λ i l.
        let lm : i < length more = omega (arith, long_more) in
        let e : get_or more i no_rule ≡ get_or rules i no_rule = get_or-append rules (r ∷ []) no_rule i l in
        rw (from_at t more i lm, to_at t more i lm, bound_at t more i lm, e) (rw (from_at t rules i l, to_at t rules i l, bound_at t rules i l) at (T.ruled i l));
    growing = T.growing;
  }

  -- what is asked of the network is asked of the longer list's last rule
  admits_last : {net net' : List ℕ} {pot tails heads : List ℕ} {b : Bool} (n : ℕ)
      → Admits net net' (2 * n + length rules) (n + 1) pot tails heads r.from r.to (biased r.bound) b
      → Admits net net' (2 * n + length rules) (n + 1) pot tails heads
      (at (kept_struct t more).from (length rules)) (at (kept_struct t more).to (length rules)) (biased (get_or (kept_struct t more).bound (length rules) (pos 0))) b
  admits_last n A =
      let l : length rules < length more = omega (arith, long_more) in
      let e : get_or more (length rules) no_rule ≡ r = get_or-append_seam rules r [] no_rule in
      rw (from_at t more (length rules) l, to_at t more (length rules) l, bound_at t more (length rules) l, e) A

  module _ {net net' : List ℕ} {size : ℕ} {pot tails heads pot' tails' heads' : List ℕ}
      (T₀ : Tried net size (kept_struct t rules) pot tails heads (length rules)) (ok : Valid (with_rules (content t) more)) where
    -- admitted: the network has the longer list, and its potential is a schedule
    module _ (A : Admits net net' (2 * t.events + length rules) (t.events + 1) pot' tails' heads' r.from r.to (biased r.bound) true) where
      pub tried_kept : Tried net' size (kept_struct t more) pot' tails' heads' (length more)
      tried_kept = subst (Tried net' size (kept_struct t more) pot' tails' heads') (sym long_more) (tried_more (tried_longer T₀) (admits_last t.events A) refl)

      pub consistent_kept : consistent_with (content t) rules r ≡ true
      consistent_kept = T-true (consistent_with (content t) rules r) (subst (λ k. T (consistent k)) (kept_content t more)
          ((consistent_has (content (kept_struct t more))).1 (times_of t.events (at pot'), timed_schedule (kept_given t more ok) (at pot') (tried_timed tried_kept))))

    -- refused: the network has the shorter list still, and no schedule keeps the longer one
    module _ (A : Admits net net' (2 * t.events + length rules) (t.events + 1) pot' tails' heads' r.from r.to (biased r.bound) false) where
      pub tried_dropped : Tried net' size (kept_struct t rules) pot' tails' heads' (length rules)
      tried_dropped = record {
        long = A.put.extends.long ∙ T₀.long;
        boxes = boxes_kept A.put.extends (omega arith) T₀.boxes;
        ruled = λ i l. extends_edge A.put.extends (omega arith) (T₀.ruled i l);
        growing = (A.refused refl).0;
      }

      pub consistent_dropped : consistent_with (content t) rules r ≡ false
      consistent_dropped = T-false (consistent_with (content t) rules r) (not_T (consistent_with (content t) rules r) (λ h.
          let s = (consistent_has (content (kept_struct t more))).0 (subst (λ k. T (consistent k)) (sym (kept_content t more)) h) in
          tried_none (tried_longer T₀) (admits_last t.events A) (omega (arith, long_more)) refl _ (schedule_timed (kept_given t more ok) s.0 s.1)))

-- ---- the loop

-- rule j of k kept, and the number of a dropped rule listed
abbrev pub keeps : Mended → Ticket → ℕ → Mended
keeps m k j =
    let t = m.ticket in
    record {
      ticket = record {
        horizon = t.horizon;
        events = t.events;
        owners = t.owners;
        rules = t.rules + 1;
        from = set t.from t.rules (at k.from j);
        to = set t.to t.rules (at k.to j);
        bound = set t.bound t.rules (get_or k.bound j (pos 0));
      };
      dropped = m.dropped;
      numbers = m.numbers;
    }

abbrev pub lists : Mended → ℕ → Mended
lists m number = record { ticket = m.ticket; dropped = m.dropped + 1; numbers = set m.numbers m.dropped number }

-- after j rules: the selection so far in m, the rest of it, and the network of the kept rules
pub record Selecting (t : Ticket) (size : ℕ) (net pot tails heads : List ℕ) (j : ℕ) (m : Mended) : Type 0 where
  pub selection : Selection
  pub rest : select (content t) selection (j + 1) (drop j (content t).rules) ≡ selected (content t)
  pub counted : m.ticket.rules + m.dropped ≡ j
  pub valid : All (ValidRule (events (content t))) selection.kept
  pub tried : Tried net size (kept_struct t selection.kept) pot tails heads (length selection.kept)
  pub ticket_is : m.ticket ≡ kept_struct t selection.kept
  pub dropped_is : m.dropped ≡ length selection.dropped
  pub numbers_is : m.numbers ≡ pad 0 256 selection.dropped

-- the struct with no rules
abbrev no_rules : Ticket → Ticket
no_rules t =
    record {
      horizon = t.horizon;
      events = t.events;
      owners = t.owners;
      rules = 0;
      from = replicate 256 0;
      to = replicate 256 0;
      bound = replicate 256 (pos 0);
    }

pub selecting_start : (t : Ticket) {size : ℕ} {net pot tails heads : List ℕ} → Tried net size (kept_struct t []) pot tails heads 0
    → Selecting t size net pot tails heads 0 (record { ticket = no_rules t; dropped = 0; numbers = replicate 256 0 })
unfolding selected pad
selecting_start t T = record {
  selection = nothing;
  rest = refl;
  counted = refl;
  valid = tt;
  tried = T;
  ticket_is = refl;
  dropped_is = refl;
  numbers_is = refl;
}

-- the boxes of the points, before any rule
pub boxes_tried : (t : Ticket) {net : List ℕ} → Valid (content t) → 8 * t.events ≤ length net
    → Boxes net (t.events + 1) (at (replicate 81 0)) (at (replicate 81 t.horizon))
    → Tried net (length net) (kept_struct t []) (replicate 81 0) (replicate 400 0) (replicate 400 0) 0
boxes_tried t ok l B = tried_start (kept_given t [] (valid_with (content t) [] ok (omega arith) tt)) l (low_zeros t.events t.horizon) B

module _ {t : Ticket} {size : ℕ} {net pot tails heads : List ℕ} {j : ℕ} {m : Mended} (S : Selecting t size net pot tails heads j m) (ok : Valid (content t)) (lj : j < t.rules) where
  abbrev this : Rule
  this = rule_in t j

  few : j < 256
  few = omega (arith, lj, ok.rules_limit, in_rules t)

  kept_is : m.ticket.rules ≡ length S.selection.kept
  kept_is = ap (λ (k : Ticket). k.rules) S.ticket_is

  count : length S.selection.kept + length S.selection.dropped ≡ j
  count = omega (arith, S.counted, kept_is, S.dropped_is)

  -- what adding the rule asks
  pub selecting_asks : 8 * t.events + 4 * t.rules ≤ size
      → Growing net (2 * t.events + m.ticket.rules) (t.events + 1) pot tails heads × ((j < 256) × SmallRule t.events this.from this.to this.bound)
      × ((t.events ≤ 40) × (m.ticket.rules < 256) × (4 * (2 * t.events + m.ticket.rules) + 3 < length net))
  selecting_asks l =
      let G = valid_given t ok in (
        subst (λ k. Growing net (2 * t.events + k) (t.events + 1) pot tails heads) (sym kept_is) S.tried.growing,
        (few, given_small G j lj),
        (G.few, omega (arith, S.counted, few), omega (arith, S.counted, S.tried.long)),
      )

  -- the selection takes a step
  stepped : select (content t) (step (content t) S.selection (j + 1) this) (suc (j + 1)) (drop (suc j) (content t).rules) ≡ selected (content t)
  unfolding select
  stepped = (rw (drop-cons (content t).rules j no_rule (omega (arith, in_rules t)), rule_in_lem t j lj) at S.rest)

  longer_valid : Valid (with_rules (content t) (S.selection.kept ++ this ∷ []))
  longer_valid = valid_with (content t) (S.selection.kept ++ this ∷ []) ok (omega (arith, length-append S.selection.kept (this ∷ []), count, few))
      (All-join _ S.selection.kept (this ∷ []) S.valid (one, tt))
    where
      one : ValidRule (events (content t)) this
      one = rw (rule_in_lem t j lj) at (All-below (ValidRule (events (content t))) no_rule (content t).rules ok.rules_valid j (omega (arith, in_rules t)))

  kept_more : keeps (record { ticket = kept_struct t S.selection.kept; dropped = m.dropped; numbers = m.numbers }) t j
      ≡ record { ticket = kept_struct t (S.selection.kept ++ this ∷ []); dropped = m.dropped; numbers = m.numbers }
  kept_more =
      let s = S.selection in
      let l : length s.kept < 256 = omega (arith, count, few) in
      rw (
        length-append s.kept (this ∷ []),
        pad_map (λ (r : Rule). r.from) 0 256 s.kept (length s.kept) this refl l,
        pad_map (λ (r : Rule). r.to) 0 256 s.kept (length s.kept) this refl l,
        pad_map (λ (r : Rule). r.bound) (pos 0) 256 s.kept (length s.kept) this refl l,
      )

  module _ {net' pot' tails' heads' : List ℕ} where
    pub selecting_kept : Admits net net' (2 * t.events + m.ticket.rules) (t.events + 1) pot' tails' heads' this.from this.to (biased this.bound) true
        → Selecting t size net' pot' tails' heads' (j + 1) (keeps m t j)
    selecting_kept A =
        let s = S.selection in
        let A' = rw kept_is at A in
        let u : suc (j + 1) ≡ j + 1 + 1 = omega arith in
        let d : suc j ≡ j + 1 = omega arith in
        record {
          selection = keeping s this;
          rest = rw (consistent_kept t s.kept this S.tried longer_valid A', u, d) at stepped;
          counted = omega (arith, S.counted);
          valid = longer_valid.rules_valid;
          tried = tried_kept t s.kept this S.tried longer_valid A';
          ticket_is = rw S.ticket_is (ap (λ (m : Mended). m.ticket) kept_more);
          dropped_is = S.dropped_is;
          numbers_is = S.numbers_is;
        }

    pub selecting_dropped : Admits net net' (2 * t.events + m.ticket.rules) (t.events + 1) pot' tails' heads' this.from this.to (biased this.bound) false
        → Selecting t size net' pot' tails' heads' (j + 1) (lists m (j + 1))
    selecting_dropped A =
        let s = S.selection in
        let A' = rw kept_is at A in
        let u : suc (j + 1) ≡ j + 1 + 1 = omega arith in
        let d : suc j ≡ j + 1 = omega arith in
        record {
          selection = dropping s (j + 1);
          rest = rw (consistent_dropped t s.kept this S.tried longer_valid A', u, d) at stepped;
          counted = omega (arith, S.counted);
          valid = S.valid;
          tried = tried_dropped t s.kept this S.tried longer_valid A';
          ticket_is = S.ticket_is;
          dropped_is = omega (arith, S.dropped_is, length-append s.dropped ((j + 1) ∷ []));
          numbers_is = rw (S.numbers_is, S.dropped_is) (pad_set 0 256 s.dropped (length s.dropped) (j + 1) refl (omega (arith, count, few)));
        }

-- ---- at the end of the rules

-- the numbers in the array
array_numbers : (numbers : List ℕ) → firsts (length numbers) (at (pad 0 256 numbers)) ≡ numbers
unfolding pad
array_numbers numbers = firsts_cong _ _ _ (λ i l. get_or-append numbers _ 0 i l) ∙ firsts_all numbers 0

module _ {t : Ticket} {size : ℕ} {net pot tails heads : List ℕ} {j : ℕ} {m : Mended} (S : Selecting t size net pot tails heads j m) (e : j ≡ t.rules) where
  done : S.selection ≡ selected (content t)
  unfolding select
  done = (rw (drop_of_length-le (content t).rules {i = j} (omega (arith, in_rules t))) at S.rest)

  pub selecting_mended : content m.ticket ≡ mended (content t)
  selecting_mended = rw S.ticket_is (kept_content t S.selection.kept ∙ ap (λ (s : Selection). with_rules (content t) s.kept) done)

  pub selecting_listed : firsts m.dropped (at m.numbers) ≡ dropped (content t)
  selecting_listed = rw (S.dropped_is, S.numbers_is) (array_numbers S.selection.dropped ∙ ap (λ (s : Selection). s.dropped) done)
