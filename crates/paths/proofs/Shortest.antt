-- The laws of what specs/Shortest defines.
use Rattle.std.specs.Prelude.{◌≡◌, List, [], ◌∷◌, ◌++◌, map, ◌↔◌, ◌⊎◌, ℕ, zero, suc, ◌+◌, ◌-◌, ◌≤◌, ◌<◌, ℤ, length, ◌≤ℤ◌}
use Rattle.std.proofs.Common.{sym, ap, ◌∙◌, subst, inl, inr, ⊎_elim, arith, length-append}
use Rattle.std.proofs.lemmas.List.{length-map}
use Rattle.temporal.specs.Lists.{All}
use Rattle.temporal.proofs.Lists.{All-map, All-join, All-parts, below_or_not}
use Rattle.temporal.specs.Ticket.{Ticket, events}
use Rattle.temporal.proofs.Distance.{le_z_antisym}
use Rattle.temporal.specs.DistanceLaws.{Points}
use Rattle.paths.specs.Rules.{from_of, to_of, Number, Walk}
use Rattle.paths.proofs.Walks.{walk_join, walk_cut, rule_points}
use Rattle.paths.specs.Repeats.{Differ, Repeat}
use Rattle.paths.proofs.Repeats.{pigeonhole, repeats}
use Rattle.paths.specs.Shortest.{Any, Path, Shortest, Taken, inner, points}

-- ---- laws

-- there is one shortest sum
pub shortest_unique : (k : Ticket) (P : ℕ → Type 0) (i j : ℕ) (d f : ℤ) → Shortest k P i j d → Shortest k P i j f → d ≡ f
shortest_unique k P i j d f a b = le_z_antisym d f
    (subst (λ x. d ≤ℤ x) b.total (a.least b.rules b.path)).le
    (subst (λ x. f ≤ℤ x) a.total (b.least a.rules a.path)).le

-- the stops: none at first, then n - s as the next after s others
pub taken_none : (n p : ℕ) → Taken n 0 p → ⊥
taken_none n p h = omega arith

pub taken_more : (n s p : ℕ) → Taken n s p → Taken n (suc s) p
taken_more n s p h = (h.0, omega arith)

pub taken_next : (n s p : ℕ) → s ≤ n → Taken n (suc s) p ↔ (Taken n s p ⊎ (p ≡ n - s))
taken_next n s p l = (there, ⊎_elim (λ (h : Taken n s p). taken_more n s p h) (λ (e : p ≡ n - s). (omega arith, omega arith)))
  where
    there : Taken n (suc s) p → Taken n s p ⊎ (p ≡ n - s)
    there h = ⊎_elim (λ (g : n < p + s). inl (h.0, g)) (λ (g : p + s ≤ n). inr (omega arith)) (below_or_not n (p + s))

-- a path by more points
pub path_more : (k : Ticket) (P Q : ℕ → Type 0) → ((p : ℕ) → P p → Q p) → (i j : ℕ) (es : List ℕ) → Path k P i j es → Path k Q i j es
path_more k P Q f i j es h = record { numbers = h.numbers; leads = h.leads; by = All-map f (inner k es) h.by }

module _ (k : Ticket) (P : ℕ → Type 0) where
  -- two walks that meet at an admitted point
  inner_join : (a b : List ℕ) (i m : ℕ) → Walk k i a m → P m → All P (inner k a) → All P (inner k b) → All P (inner k (a ++ b))
  inner_join [] b i m w at x y = y
  inner_join (e ∷ []) [] i m w at x y = tt
  inner_join (e ∷ []) (f ∷ b) i m w at x y = (subst P (sym w.1) at, y)
  inner_join (e ∷ f ∷ a) b i m w at x y = (x.0, inner_join (f ∷ a) b (to_of k e) m w.1 at x.1 y)

  pub path_join : (i m j : ℕ) (a b : List ℕ) → P m → Path k P i m a → Path k P m j b → Path k P i j (a ++ b)
  path_join i m j a b at x y = record {
    numbers = All-join (Number k) a b x.numbers y.numbers;
    leads = walk_join k a b i m j x.leads y.leads;
    by = inner_join a b i m x.leads at x.by y.by;
  }

-- ---- after all stops, every walk is a path by stops taken

module _ (k : Ticket) (ps : Points k) where
  inner_points : (es : List ℕ) → All (Taken (events k) (events k + 1)) (inner k es)
  inner_points [] = tt
  inner_points (e ∷ []) = tt
  inner_points (e ∷ f ∷ es) = (((rule_points k ps e).1, omega arith), inner_points (f ∷ es))

  pub shortest_all : (i j : ℕ) (d : ℤ) → Shortest k (Taken (events k) (events k + 1)) i j d → Shortest k Any i j d
  shortest_all i j d h = record {
    rules = h.rules;
    path = path_more k (Taken (events k) (events k + 1)) Any (λ p t. tt) i j h.rules h.path;
    total = h.total;
    least = λ es g. h.least es (record { numbers = g.numbers; leads = g.leads; by = inner_points es });
  }

-- if these are all different, there are at most n + 1
module _ (k : Ticket) (ps : Points k) where
  all_points : (es : List ℕ) → All (λ p. p < suc (events k)) (points k es)
  all_points [] = tt
  all_points (e ∷ es) = (omega (arith, rule_points k ps e), all_points es)

  pub few_points : (es : List ℕ) → Differ (points k es) → length es ≤ suc (events k)
  few_points es d = omega (arith, length-map es (from_of k), pigeonhole (suc (events k)) (points k es) d (all_points es))

-- the inner points of a walk, those before a rule and those from it on
inner_cut : (k : Ticket) (P : ℕ → Type 0) (a : List ℕ) (e : ℕ) (b : List ℕ) → All P (inner k (a ++ (e ∷ b))) ↔ (All P (map (to_of k) a) × All P (inner k (e ∷ b)))
inner_cut k P [] e b = (λ h. (tt, h), λ h. h.1)
inner_cut k P (x ∷ []) e b = (λ h. ((h.0, tt), h.1), λ h. (h.0.0, h.1))
inner_cut k P (x ∷ y ∷ a) e b =
    let r = inner_cut k P (y ∷ a) e b in
    (λ h. ((h.0, (r.0 h.1).0), (r.0 h.1).1), λ h. (h.0.0, r.1 (h.0.1, h.1)))

-- a path that meets a point twice, without the rules in between
cut_out : (k : Ticket) (P : ℕ → Type 0) (i j : ℕ) (a : List ℕ) (e : ℕ) (b : List ℕ) (f : ℕ) (c : List ℕ) → from_of k e ≡ from_of k f
    → Path k P i j (a ++ ((e ∷ b) ++ (f ∷ c))) → Path k P i j (a ++ (f ∷ c))
cut_out k P i j a e b f c same p =
    let w = walk_cut k a ((e ∷ b) ++ (f ∷ c)) i j p.leads in
    let v = walk_cut k (e ∷ b) (f ∷ c) w.0 j w.2 in
    let met : v.0 ≡ w.0 = v.2.0 ∙ sym same ∙ sym v.1.0 in
    let n = All-parts (Number k) a ((e ∷ b) ++ (f ∷ c)) p.numbers in
    let g = (inner_cut k P a e (b ++ (f ∷ c))).0 p.by in
    record {
      numbers = All-join (Number k) a (f ∷ c) n.0 (All-parts (Number k) (e ∷ b) (f ∷ c) n.1).1;
      leads = walk_join k a (f ∷ c) i w.0 j w.1 (subst (λ x. Walk k x (f ∷ c) j) met v.2);
      by = (inner_cut k P a f c).1 (g.0, ((inner_cut k P (e ∷ b) f c).0 g.1).1);
    }

-- where there is a path, there is one of at most n + 1 rules
module _ (k : Ticket) (ps : Points k) (P : ℕ → Type 0) (i j : ℕ) where
  shortened : (n : ℕ) (es : List ℕ) → length es ≤ n → Path k P i j es → (fs : List ℕ) × Path k P i j fs × (length fs ≤ suc (events k))
  shortened zero es l p = (es, p, omega arith)
  shortened (suc n) es l p = ⊎_elim
      (λ (d : Differ (points k es)). (es, p, few_points k ps es d))
      (λ (t : Repeat (from_of k) es).
      let whole = ap length t.shape in
      let first = length-append t.front ((t.x ∷ t.middle) ++ (t.y ∷ t.back)) in
      let second = length-append (t.x ∷ t.middle) (t.y ∷ t.back) in
      shortened n (t.front ++ (t.y ∷ t.back)) (omega (arith, whole, first, second, length-append t.front (t.y ∷ t.back)))
      (cut_out k P i j t.front t.x t.middle t.y t.back t.same (subst (Path k P i j) t.shape p)))
      (repeats (from_of k) es)

  pub short_path : (es : List ℕ) → Path k P i j es → (fs : List ℕ) × Path k P i j fs × (length fs ≤ suc (events k))
  short_path es p = shortened (length es) es (omega arith) p
