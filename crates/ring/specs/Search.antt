-- What the search for the ring finds: the fewest rules and the first rule, both point by point in one loop, and then the others. Each is what rings'
-- Greedy says of it.
-- The rules stored are those of some ticket, which the code does not have: so each claim is of whichever ticket they are of.
use Rattle.std.specs.Prelude.{◌≡◌, refl, Some, None, ◌&&◌, ◌⊎◌, T, ltb, eqb, length, set}
use Rattle.std.proofs.Common.{sym, ap₂, ◌∙◌, subst, inl, inr, ⊎_elim, arith, length-append}
use Rattle.std.proofs.Math.Path.{ap}
use Rattle.std.proofs.Math.Bool.{Bool}
use mathlib.Core.List.{List, [], ◌∷◌, ◌++◌, append_assoc, append-nil}
use Prim.Native.Nat.{ℕ, suc, ◌+◌, ◌*◌, ◌-◌, ◌≤◌, ◌<◌}
use Rattle.temporal.proofs.Lists.{below_or_not}
use Rattle.temporal.specs.Ticket.{Ticket, events}
use Rattle.ticket.specs.Stored.{pad}
use Rattle.ticket.proofs.Laws.{pad_set}
use Rattle.rings.specs.Order.{First, any_upto}
use Rattle.rings.proofs.Order.{seek_is, seek_none, any_has, has_any}
use Rattle.paths.specs.Rules.{size, from_of, to_of}
use Rattle.rings.specs.Ring.{ring}
use Rattle.rings.specs.Costs.{top, cost, walks}
use Rattle.rings.proofs.Costs.{via_least, walks_more}
use Rattle.rings.specs.Greedy.{through, shortest, starts, continues, rest, greedy, found}
use Rattle.rings.proofs.Greedy.{ring_found}
use Rattle.rings.proofs.Greedy.{through_iff, starts_iff, starts_some, greedy_more, continues_iff, continues_some, rest_more}
use Rattle.ring.specs.declared.Start.{Start}
use Rattle.ring.specs.Answer.{printed, printed_some}
use Rattle.ring.specs.declared.rules.Rules.{Rules}
use Rattle.ring.specs.Places.{rule, Whole, from_point, to_point}
use Rattle.ring.specs.FirstOr.{FirstOr, first_or_start, first_or_join, first_or_same, first_or_first, first_or_some}
use Rattle.ring.specs.WalkTable.{cell, WalkTable}

-- ---- the fewest rules

-- a ring of r rules goes through one of the first q points
abbrev pub Through : Ticket → ℕ → ℕ → Type 0
Through k q r = (p : ℕ) × (p < q) × T (through k r p)

-- the fewest rules of a ring through one of the first q points; n + 2 stands for "no ring"
pub record Nearest (n : ℕ) (rs : Rules) (q best : ℕ) : Type 0 where
  pub low : 1 ≤ best
  pub high : best ≤ n + 2
  pub is : (k : Ticket) → Whole k rs → FirstOr (Through k q) (n + 2) best

-- one point more, by its table
nearest_more : {n : ℕ} {rs : Rules} {w : List ℕ} {q best next : ℕ} → q ≤ 40 → Nearest n rs q best → WalkTable rs q (best - 1) w
    → FirstOr (λ x. cell w x q < x * 1000000) best next → Nearest n rs (q + 1) next
nearest_more {n} {rs} {w} {q} {best} {next} lq h t g = record {
  low = g.low;
  high = omega (arith, g.high, h.high);
  is = λ k a.
      first_or_join (h.is k a) (here k a) (λ x s l p. (p.0, omega (arith, p.1), p.2)) (λ x s l p. (q, omega arith, p))
      (λ x s l p. last k x p.0 p.1 p.2);
}
  where
    here : (k : Ticket) → Whole k rs → FirstOr (λ x. T (through k x q)) best next
    here k a =
        let at : (x : ℕ) → x < best → cell w x q ≡ walks k q x q = λ x l. t.is k a x q (omega arith) lq in
        first_or_same g (λ x s l (p : cell w x q < x * 1000000). (through_iff k x q).1 (omega (arith, at x l)))
        (λ x s l p. omega (arith, at x l, (through_iff k x q).0 p))

    last : (k : Ticket) (x y : ℕ) → y < q + 1 → T (through k x y) → Through k q x ⊎ T (through k x q)
    last k x y l p =
        ⊎_elim (λ (z : y < q). inl (y, z, p))
        (λ (z : q ≤ y).
        let e : y ≡ q = omega arith in
        inr (subst (λ v. T (through k x v)) e p))
        (below_or_not y q)

-- all points
module _ {n : ℕ} {rs : Rules} {best : ℕ} (h : Nearest n rs (n + 1) best) (k : Ticket) (a : Whole k rs) (e : events k ≡ n) where
  any : FirstOr (λ r. T (any_upto (through k r) (events k))) (suc (suc (events k))) best
  any =
      let b : n + 2 ≡ suc (suc (events k)) = omega arith in
      first_or_same (rw b at (h.is k a))
      (λ x s l p. has_any (through k x) (events k) p.0 (omega (arith, p.1)) p.2)
      (λ x s l p. let r = any_has (through k x) (events k) p in (r.0, omega (arith, r.1), r.2))

  nearest_some : best ≤ n + 1 → shortest k ≡ best
  unfolding shortest
  nearest_some l =
      let t : ℕ → Bool = λ r. any_upto (through k r) (events k) in
      seek_is t 1 (suc (events k)) best (first_or_first t (suc (events k)) best any (omega arith))

  nearest_through : best ≤ n + 1 → (p : ℕ) × (walks k p best p < best * 1000000)
  nearest_through l =
      let r = (h.is k a).here (omega arith) in
      (r.0, (through_iff k best r.0).0 r.2)

  nearest_not : n + 1 < best → shortest k ≡ 0
  unfolding shortest
  nearest_not l = seek_none (λ r. any_upto (through k r) (events k)) 1 (suc (events k)) (λ x s b. any.none x s (omega arith))

-- ---- a rule that can be taken

-- by what is stored and a table: after cost s at point p, rule e goes on from p, and with the least cost of r rules behind it stays below the limit
abbrev pub opens : Rules → List ℕ → ℕ → ℕ → ℕ → ℕ → ℕ → Bool
opens rs w r s limit p e = eqb ((rule rs e).from) p && ltb (s + (rule rs e).cost + cell w r ((rule rs e).to)) limit

opens_continues : {k : Ticket} {rs : Rules} {w : List ℕ} {q last : ℕ} → Whole k rs → WalkTable rs q last w
    → (r s limit p e : ℕ) → r ≤ last → 1 ≤ e → e ≤ rs.count → opens rs w r s limit p e ≡ continues k q limit s p r e
unfolding continues
opens_continues {k} {rs} {w} {q} a t r s limit p e lr le lm =
    let h = a.filled in
    let d : cell w r ((rule rs e).to) ≡ walks k q r (to_of k e) = ap (cell w r) (h.to_is e le lm) ∙ t.is k a r (to_of k e) lr (to_point k a.valid e) in
    let c = h.cost_is e le lm in
    let sum : s + (rule rs e).cost + cell w r ((rule rs e).to) ≡ s + cost k e + walks k q r (to_of k e) = omega arith in
    ap₂ (λ x y. eqb x p && ltb y limit) (h.from_is e le lm) sum

-- ---- the first rule

-- a ring of r + 1 rules can start with rule e, which goes from one of the first q points
abbrev pub Starts : Ticket → ℕ → ℕ → ℕ → Type 0
Starts k r q e = (from_of k e < q) × T (starts k r e)

-- the first rule from one of the first q points that can start a ring of r + 1 rules; count + 1 stands for "no rule"
pub record Opening (rs : Rules) (r q e : ℕ) : Type 0 where
  pub low : 1 ≤ e
  pub high : e ≤ rs.count + 1
  pub is : (k : Ticket) → Whole k rs → FirstOr (Starts k r q) (rs.count + 1) e

-- where no ring of r + 1 rules goes through one of the first q points, no rule from there can start one
opening_none : {rs : Rules} {r q : ℕ} → ((k : Ticket) → Whole k rs → ¬ Through k q (suc r)) → Opening rs r q (rs.count + 1)
opening_none {rs} {r} n = record {
  low = omega arith;
  high = omega arith;
  is = λ k a. first_or_start (rs.count + 1) (omega arith) (λ x s l h. n k a (from_of k x, h.0, passes k x s (omega (arith, a.count)) h.1));
}
  where
    passes : (k : Ticket) (x : ℕ) → 1 ≤ x → x ≤ size k → T (starts k r x) → T (through k (suc r) (from_of k x))
    passes k x s l h =
        let p : ℕ = from_of k x in
        (through_iff k (suc r) p).1 (omega (arith, (starts_iff k r x).0 h, walks_more k p r p, via_least k (walks k p r) p (size k) x s l refl))

-- one point more, by its table
opening_more : {rs : Rules} {w : List ℕ} {r last q e f : ℕ} → r ≤ last → Opening rs r q e → WalkTable rs q last w
    → FirstOr (λ x. T (opens rs w r 0 ((r + 1) * 1000000) q x)) e f → Opening rs r (q + 1) f
opening_more {rs} {w} {r} {last} {q} {e} {f} lr h t g = record {
  low = g.low;
  high = omega (arith, g.high, h.high);
  is = λ k a.
      first_or_join (h.is k a) g (λ x s l p. (omega (arith, p.0), p.1)) (λ x s l p. there k a x s (omega arith) p)
      (λ x s l p. back k a x s (omega arith) p);
}
  where
    same : (k : Ticket) → Whole k rs → (x : ℕ) → 1 ≤ x → x ≤ rs.count
        → opens rs w r 0 ((r + 1) * 1000000) q x ≡ continues k q ((r + 1) * 1000000) 0 q r x
    same k a x s l = opens_continues a t r 0 ((r + 1) * 1000000) q x lr s l

    there : (k : Ticket) → Whole k rs → (x : ℕ) → 1 ≤ x → x ≤ rs.count → T (opens rs w r 0 ((r + 1) * 1000000) q x) → Starts k r (q + 1) x
    there k a x s l p =
        let c = (continues_iff k q ((r + 1) * 1000000) 0 q r x).0 (subst T (same k a x s l) p) in
        (omega (arith, c.0), (starts_iff k r x).1 (omega (arith, c.1, ap (λ y. walks k y r (to_of k x)) c.0)))

    back : (k : Ticket) → Whole k rs → (x : ℕ) → 1 ≤ x → x ≤ rs.count → Starts k r (q + 1) x
        → Starts k r q x ⊎ T (opens rs w r 0 ((r + 1) * 1000000) q x)
    back k a x s l p =
        ⊎_elim (λ (z : from_of k x < q). inl (z, p.1))
        (λ (z : q ≤ from_of k x).
        let e : q ≡ from_of k x = omega (arith, p.0) in
        let c : 0 + cost k x + walks k q r (to_of k x) < (r + 1) * 1000000 = omega (arith, (starts_iff k r x).0 p.1, ap (λ y. walks k y r (to_of k x)) e) in
        inr (subst T (sym (same k a x s l)) ((continues_iff k q ((r + 1) * 1000000) 0 q r x).1 (e, c))))
        (below_or_not (from_of k x) q)

-- where a ring goes through a point, the first rule is found
opening_first : {rs : Rules} {r q e : ℕ} (k : Ticket) → Whole k rs → r ≤ 40 → events k < q → Opening rs r q e
    → (p : ℕ) → walks k p (suc r) p < suc r * 1000000 → First (starts k r) 1 (size k) e
opening_first {rs} {r = r} {e = e} k a lr lq h p l =
    let b : rs.count + 1 ≡ suc (size k) = omega (arith, a.count) in
    let z : FirstOr (λ x. T (starts k r x)) (suc (size k)) e =
    first_or_same (rw b at (h.is k a)) (λ x s i p. p.1) (λ x s i p. (omega (arith, from_point k a.valid x), p)) in
    first_or_first (starts k r) (size k) e z (first_or_some (starts k r) (size k) e z _ (starts_some k r p lr l))

-- ---- the start

-- the fewest rules of a ring through one of the first q points, and the first rule from one of them that can start it
pub record Begins (n : ℕ) (rs : Rules) (q : ℕ) (s : Start) : Type 0 where
  pub nearest : Nearest n rs q s.count
  pub opening : Opening rs (s.count - 1) q s.first

-- one point more, for whichever n
pub record Joins (rs : Rules) (q : ℕ) (s r : Start) : Type 0 where
  pub is : (n : ℕ) → Begins n rs q s → Begins n rs (q + 1) r

-- by its table: the first rule is looked for below the one found before, or below all if there are fewer rules now
pub joins : {rs : Rules} {w : List ℕ} {q count end first : ℕ} {s : Start} → q ≤ 40 → WalkTable rs q (s.count - 1) w
    → FirstOr (λ x. cell w x q < x * 1000000) s.count count → ((count < s.count) × (end ≡ rs.count + 1)) ⊎ ((s.count ≤ count) × (end ≡ s.first))
    → FirstOr (λ x. T (opens rs w (count - 1) 0 (count * 1000000) q x)) end first → Joins rs q s (record { count = count; first = first })
joins {rs} {q = q} {count} {end} {s = s} lq t g b f =
    let c : count - 1 + 1 ≡ count = omega (arith, g.low) in
    record {
      is = λ n h. record { nearest = nearest_more lq h.nearest t g; opening = opening_more (omega (arith, g.high)) (before n h) t (rw c f) };
    }
  where
    before : (n : ℕ) → Begins n rs q s → Opening rs (count - 1) q end
    before n h =
        ⊎_elim (λ p. rw p.1 (opening_none (λ k a. (h.nearest.is k a).none (suc (count - 1)) (omega arith) (omega (arith, p.0, g.low)))))
        (λ p.
        let e : count ≡ s.count = omega (arith, p.0, g.high) in
        rw (p.1, e) h.opening)
        b

-- ---- the other rules

-- i of the rules are found; the walk is at point p, after cost s
pub record Followed (k : Ticket) (count q i s p : ℕ) (out : List ℕ) : Type 0 where
  pub rules : List ℕ
  pub many : length rules ≡ i
  pub stored : out ≡ pad 0 41 rules
  pub left : greedy k count ≡ rules ++ rest k q (count * 1000000) s p (count - i)
  pub closing : s + walks k q (count - i) p < count * 1000000

-- all are found
pub record Closed (k : Ticket) (count : ℕ) (out : List ℕ) : Type 0 where
  pub many : length (greedy k count) ≡ count
  pub stored : out ≡ pad 0 41 (greedy k count)

followed_first : {rs : Rules} (k : Ticket) (r e : ℕ) → Whole k rs → First (starts k r) 1 (size k) e
    → Followed k (suc r) (from_of k e) 1 ((rule rs e).cost) ((rule rs e).to) (pad 0 41 (e ∷ []))
followed_first {rs} k r e a f =
    let l : e ≤ rs.count = omega (arith, f.below, a.count) in
    let c : (rule rs e).cost ≡ cost k e = a.filled.cost_is e f.above l in
    let t : (rule rs e).to ≡ to_of k e = a.filled.to_is e f.above l in
    let d : suc r - 1 ≡ r = omega arith in
    rw (c, t) (record { rules = e ∷ []; many = refl; stored = refl; left = rw d (greedy_more k r e f); closing = rw d ((starts_iff k r e).0 f.passes) })

followed_more : {rs : Rules} {w out : List ℕ} {q last i s p e : ℕ} (k : Ticket) (count : ℕ) → Whole k rs → WalkTable rs q last w
    → count ≤ 41 → i < count → count - 1 - i ≤ last → Followed k count q i s p out
    → FirstOr (λ x. T (opens rs w (count - 1 - i) s (count * 1000000) p x)) (rs.count + 1) e
    → Followed k count q (i + 1) (s + (rule rs e).cost) ((rule rs e).to) (set out i e)
unfolding top
followed_more {rs} {w} {out} {q} {last} {i} {s} {p} {e} k count a t lc li lr h g =
    let r : ℕ = count - 1 - i in
    let limit : ℕ = count * 1000000 in
    let d : count - i ≡ suc r = omega arith in
    let d' : count - (i + 1) ≡ r = omega arith in
    let b : rs.count + 1 ≡ suc (size k) = omega (arith, a.count) in
    let z : FirstOr (λ x. T (continues k q limit s p r x)) (suc (size k)) e =
    first_or_same (rw b at g) (λ x u l y. subst T (opens_continues a t r s limit p x lr u (omega (arith, a.count))) y)
    (λ x u l y. subst T (sym (opens_continues a t r s limit p x lr u (omega (arith, a.count)))) y) in
    let some = continues_some k q limit (omega arith) s p r (rw d at h.closing) in
    let f = first_or_first (continues k q limit s p r) (size k) e z (first_or_some (continues k q limit s p r) (size k) e z _ some) in
    let le : e ≤ rs.count = omega (arith, f.below, a.count) in
    let c : (rule rs e).cost ≡ cost k e = a.filled.cost_is e f.above le in
    let v : (rule rs e).to ≡ to_of k e = a.filled.to_is e f.above le in
    rw (c, v) (record {
      rules = h.rules ++ e ∷ [];
      many = omega (arith, length-append h.rules (e ∷ []), h.many);
      stored = ap (λ xs. set xs i e) h.stored ∙ pad_set 0 41 h.rules i e h.many (omega arith);
      left = rw (d', append_assoc) (h.left ∙ ap (λ xs. h.rules ++ xs) (rw d (rest_more k q limit s p r e f)));
      closing = rw d' ((continues_iff k q limit s p r e).0 f.passes).1;
    })

followed_all : {q i s p : ℕ} {out : List ℕ} (k : Ticket) (count : ℕ) → i ≡ count → Followed k count q i s p out → Closed k count out
unfolding rest
followed_all {q} {i} {s} {p} k count e h =
    let d : count - i ≡ 0 = omega arith in
    let g : greedy k count ≡ h.rules = rw (d, append-nil) at h.left in
    record { many = ap length g ∙ h.many ∙ e; stored = h.stored ∙ ap (pad 0 41) (sym g) }

-- the same of the code, by the table of the root that `first` goes from: if it is the rule that the ring starts with
abbrev Started : Rules → List ℕ → ℕ → ℕ → (Ticket → Type 0) → Type 0
Started rs w first count P =
    (k : Ticket) → Whole k rs → WalkTable rs (from_of k first) (count - 1) w → First (starts k (count - 1)) 1 (size k) first → P k

pub record Following (rs : Rules) (w : List ℕ) (first count i s p : ℕ) (out : List ℕ) : Type 0 where
  pub is : Started rs w first count (λ k. Followed k count (from_of k first) i s p out)

pub record Follows (rs : Rules) (w : List ℕ) (first count : ℕ) (out : List ℕ) : Type 0 where
  pub is : Started rs w first count (λ k. Closed k count out)

module _ {rs : Rules} {w : List ℕ} {first count : ℕ} {out : List ℕ} where
  pub following_first : 1 ≤ count → out ≡ pad 0 41 [] → Following rs w first count 1 ((rule rs first).cost) ((rule rs first).to) (set out 0 first)
  following_first l e =
      let c : suc (count - 1) ≡ count = omega arith in
      let o : set out 0 first ≡ pad 0 41 (first ∷ []) = ap (λ xs. set xs 0 first) e ∙ pad_set 0 41 [] 0 first refl (omega arith) in
      record {
        is = λ k a t f.
            rw o (subst (λ x. Followed k x (from_of k first) 1 ((rule rs first).cost) ((rule rs first).to) (pad 0 41 (first ∷ []))) c
            (followed_first k (count - 1) first a f));
      }

  module _ {i s p : ℕ} (h : Following rs w first count i s p out) where
    pub following_more : {e : ℕ} → count ≤ 41 → i < count → FirstOr (λ x. T (opens rs w (count - 1 - i) s (count * 1000000) p x)) (rs.count + 1) e
        → Following rs w first count (i + 1) (s + (rule rs e).cost) ((rule rs e).to) (set out i e)
    following_more lc li g = record { is = λ k a t f. followed_more k count a t lc li (omega arith) (h.is k a t f) g }

    pub following_all : i ≡ count → Follows rs w first count out
    following_all e = record { is = λ k a t f. followed_all k count e (h.is k a t f) }

-- ---- the ring

module _ {rs : Rules} (k : Ticket) (a : Whole k rs) where
  found_some : {count : ℕ} {out : List ℕ} → 1 ≤ count → shortest k ≡ count → Closed k count out → Some (record { count = count; rules = out }) ≡ printed (ring k)
  unfolding found
  found_some {count} {out} l e h =
      let g : greedy k count ≡ ring k = ap (greedy k) (sym e) ∙ ring_found k a.valid in
      let s : printed (greedy k count) ≡ Some (record { count = length (greedy k count); rules = pad 0 41 (greedy k count) }) = printed_some (greedy k count) (omega (arith, h.many)) in
      rw (← g, s) (ap₂ (λ (c : ℕ) (r : List ℕ). Some (record { count = c; rules = r })) (sym h.many) h.stored)

  found_none : shortest k ≡ 0 → None ≡ printed (ring k)
  unfolding found greedy
  found_none e = ap printed (ap (greedy k) (sym e) ∙ ring_found k a.valid)

module _ {n : ℕ} {rs : Rules} {s : Start} (h : Begins n rs (n + 1) s) (k : Ticket) (a : Whole k rs) (e : events k ≡ n) where
  -- a schedule exists
  pub answers_none : n + 1 < s.count → None ≡ printed (ring k)
  answers_none l = found_none k a (nearest_not h.nearest k a e l)

  -- none does
  pub answers_some : {w out : List ℕ} → n ≤ 40 → s.count ≤ n + 1 → WalkTable rs (rule rs s.first).from (s.count - 1) w
      → Follows rs w s.first s.count out → Some (record { count = s.count; rules = out }) ≡ printed (ring k)
  answers_some ln l t f =
      let r : ℕ = s.count - 1 in
      let c : s.count ≡ suc r = omega (arith, h.nearest.low) in
      let p = nearest_through h.nearest k a e l in
      let z : First (starts k r) 1 (size k) s.first =
      opening_first k a (omega arith) (omega arith) h.opening p.0 (subst (λ x. walks k p.0 x p.0 < x * 1000000) c p.1) in
      let q : (rule rs s.first).from ≡ from_of k s.first = a.filled.from_is s.first z.above (omega (arith, z.below, a.count)) in
      found_some k a h.nearest.low (nearest_some h.nearest k a e l) (f.is k a (rw q at t) z)
