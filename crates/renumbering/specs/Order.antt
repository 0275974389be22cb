-- Orders of n events, and lists over the events put into a new order. Rests on `temporal`, Lists, alone.
use Rattle.std.specs.Prelude.{◌≡◌, refl, cond, List, [], ◌∷◌, ◌≢◌, T, leb, ltb, eqb, length, replicate}
use Rattle.std.proofs.Math.Path.{sym}
use Rattle.std.proofs.Common.{ap, ◌∙◌, subst, ⊎_elim, arith, le-leb, ltb→lt, lt→ltb, eqb→eq, ext_get_or}
use Prim.Native.Nat.{ℕ, zero, suc, ◌≤◌, ◌<◌}
use Rattle.std.proofs.lemmas.Bool.{lt-leb}
use Rattle.std.proofs.Math.Dec.{eqb_refl}
use Rattle.std.proofs.Math.ListN.{get_or}
use Rattle.std.proofs.lemmas.List.{length-replicate}
use Rattle.temporal.proofs.Lists.{iff_same, All-at, All-tab, length_tab, get_d_tab, tab_cong, get_d_past, below_or_not}
use Rattle.temporal.specs.Lists.{All, tab}

-- ---- the definitions

-- an order of n events (02, change 12: "sort their event lists differently"): new event i is the old event `old i`, the old event p is the new
-- event `new p`, and the two undo each other. Point 0 stays, and so does a number past n, which names no event
pub record Order (n : ℕ) : Type 0 where
  pub old : ℕ → ℕ
  pub new : ℕ → ℕ
  pub old_new : (p : ℕ) → old (new p) ≡ p
  pub new_old : (p : ℕ) → new (old p) ≡ p
  pub start : old 0 ≡ 0
  pub past : (p : ℕ) → n < p → old p ≡ p

-- "the combined order": first by a, then what is so numbered by b
abbrev pub combine : {n : ℕ} → Order n → Order n → Order n
combine a b = record {
  old = λ i. a.old (b.old i);
  new = λ p. b.new (a.new p);
  old_new = λ p. ap a.old (b.old_new (a.new p)) ∙ a.old_new p;
  new_old = λ i. ap b.new (a.new_old (b.old i)) ∙ b.new_old i;
  start = ap a.old b.start ∙ a.start;
  past = λ p l. ap a.old (b.past p l) ∙ a.past p l;
}

-- every event keeps its number
abbrev pub same : (n : ℕ) → Order n
same n = record { old = λ i. i; new = λ p. p; old_new = λ p. refl; new_old = λ p. refl; start = refl; past = λ p l. refl }

-- the order that puts the events back
abbrev pub inverse : {n : ℕ} → Order n → Order n
inverse o = record {
  old = o.new;
  new = o.old;
  old_new = o.new_old;
  new_old = o.old_new;
  start = ap o.new (sym o.start) ∙ o.new_old 0;
  past = λ p l. ap o.new (sym (o.past p l)) ∙ o.new_old p;
}

-- a list over the events in the new order: at new event i stands what stood at the old event; d is what stands at point 0
unfoldable pub reorder : {n : ℕ} {A : Type 0} → Order n → A → List A → List A
reorder {n} o d xs = tab n (λ i. get_or (d ∷ xs) (o.old (suc i)) d)

-- ---- points and events keep to themselves

module _ {n : ℕ} (o : Order n) where
  pub old_point : (p : ℕ) → p ≤ n → o.old p ≤ n
  old_point p l = ⊎_elim moved (λ (h : o.old p ≤ n). h) (below_or_not n (o.old p))
    where
      moved : n < o.old p → o.old p ≤ n
      moved h = omega (arith, sym (o.new_old (o.old p)) ∙ ap o.new (o.past (o.old p) h) ∙ o.new_old p)

  pub old_event : (p : ℕ) → 1 ≤ p → 1 ≤ o.old p
  old_event p l = omega (arith, apart)
    where
      apart : o.old p ≢ 0
      apart q = omega (arith, sym (o.new_old p) ∙ ap o.new q ∙ (inverse o).start)

module _ {n : ℕ} (o : Order n) where
  pub new_point : (p : ℕ) → p ≤ n → o.new p ≤ n
  new_point = old_point (inverse o)

  pub new_event : (p : ℕ) → 1 ≤ p → 1 ≤ o.new p
  new_event = old_event (inverse o)

-- ---- the same as tests

eq→eqb : (a b : ℕ) → a ≡ b → T (eqb a b)
eq→eqb a b e = rw e (eqb_refl b)

module _ {n : ℕ} (o : Order n) where
  -- two points are one, a number is past the events, a number is 0: as before
  pub equal_same : (p q : ℕ) → eqb (o.new p) (o.new q) ≡ eqb p q
  equal_same p q = iff_same (eqb (o.new p) (o.new q)) (eqb p q)
      (λ t. eq→eqb p q (sym (o.old_new p) ∙ ap o.old (eqb→eq (o.new p) (o.new q) t) ∙ o.old_new q))
      (λ t. eq→eqb (o.new p) (o.new q) (ap o.new (eqb→eq p q t)))

  pub past_same : (p : ℕ) → ltb n (o.new p) ≡ ltb n p
  past_same p = iff_same (ltb n (o.new p)) (ltb n p) (λ t. lt→ltb n p (there (ltb→lt n (o.new p) t))) (λ t. lt→ltb n (o.new p) (back (ltb→lt n p t)))
    where
      there : n < o.new p → n < p
      there h = ⊎_elim (λ (l : n < p). l) (λ (l : p ≤ n). omega (arith, new_point o p l)) (below_or_not n p)

      back : n < p → n < o.new p
      back h = omega (arith, (inverse o).past p h)

  pub start_same : (p : ℕ) → eqb (o.new p) 0 ≡ eqb p 0
  start_same p = ap (eqb (o.new p)) (sym (inverse o).start) ∙ equal_same p 0

-- ---- a list in the new order, by the point

-- within a list the default is not read
pub get_d_any : {A : Type 0} (xs : List A) (c d : A) (i : ℕ) → i < length xs → get_or xs i c ≡ get_or xs i d
get_d_any [] c d i l = absurd (omega arith)
get_d_any (x ∷ xs) c d zero l = refl
get_d_any (x ∷ xs) c d (suc i) l = get_d_any xs c d i (omega arith)

any_start : {A : Type 0} (xs : List A) (c d : A) (p : ℕ) → 1 ≤ p → p ≤ length xs → get_or (d ∷ xs) p d ≡ get_or (c ∷ xs) p c
any_start xs c d zero one l = absurd (omega arith)
any_start xs c d (suc i) one l = get_d_any xs d c i l

module _ {n : ℕ} {A : Type 0} (o : Order n) (d : A) where
  pub length_reorder : (xs : List A) → length (reorder o d xs) ≡ n
  unfolding reorder
  length_reorder xs = length_tab n (λ i. get_or (d ∷ xs) (o.old (suc i)) d)

  pub at_point : (xs : List A) (p : ℕ) → p ≤ n → get_or (d ∷ reorder o d xs) p d ≡ get_or (d ∷ xs) (o.old p) d
  unfolding reorder
  at_point xs zero l = sym (ap (λ q. get_or (d ∷ xs) q d) o.start)
  at_point xs (suc i) l = get_d_tab n (λ j. get_or (d ∷ xs) (o.old (suc j)) d) d i l

  -- at any number, since past the end stands d
  pub at_old : (xs : List A) → length xs ≡ n → (p : ℕ) → get_or (d ∷ reorder o d xs) p d ≡ get_or (d ∷ xs) (o.old p) d
  at_old xs e p = ⊎_elim past (λ (l : p ≤ n). at_point xs p l) (below_or_not n p)
    where
      past : n < p → get_or (d ∷ reorder o d xs) p d ≡ get_or (d ∷ xs) (o.old p) d
      past l =
          get_d_past (d ∷ reorder o d xs) d p (omega (arith, length_reorder xs)) ∙ sym (get_d_past (d ∷ xs) d p (omega arith))
          ∙ sym (ap (λ q. get_or (d ∷ xs) q d) (o.past p l))

  pub at_new : (xs : List A) → length xs ≡ n → (p : ℕ) → get_or (d ∷ reorder o d xs) (o.new p) d ≡ get_or (d ∷ xs) p d
  at_new xs e p = at_old xs e (o.new p) ∙ ap (λ q. get_or (d ∷ xs) q d) (o.old_new p)

  -- a list is known from its entries
  pub reorder_is : (xs ys : List A) → length ys ≡ n → ((p : ℕ) → 1 ≤ p → p ≤ n → get_or (d ∷ xs) (o.old p) d ≡ get_or (d ∷ ys) p d) → reorder o d xs ≡ ys
  reorder_is xs ys e h = ext_get_or d (reorder o d xs) ys (length_reorder xs ∙ sym e) (λ i l. at i (subst (λ m. i < m) (length_reorder xs) l))
    where
      at : (i : ℕ) → i < n → get_or (reorder o d xs) i d ≡ get_or ys i d
      at i l = at_point xs (suc i) l ∙ h (suc i) (omega arith) l

  -- any two values at point 0: no event has it
  pub reorder_start : (c : A) (xs : List A) → length xs ≡ n → reorder o d xs ≡ reorder o c xs
  unfolding reorder
  reorder_start c xs e = tab_cong n _ _ (λ i l. any_start xs c d (o.old (suc i)) (old_event o (suc i) (omega arith)) (omega (arith, old_point o (suc i) l)))

  pub All-reorder : (P : A → Type 0) → P d → (xs : List A) → All P xs → All P (reorder o d xs)
  unfolding reorder
  All-reorder P z xs h = All-tab P n (λ i. get_or (d ∷ xs) (o.old (suc i)) d) (λ i l. All-at P d z (d ∷ xs) (z, h) (o.old (suc i)))

  at_replicate : (m p : ℕ) → get_or (d ∷ replicate m d) p d ≡ d
  at_replicate m zero = refl
  at_replicate zero (suc i) = refl
  at_replicate (suc m) (suc i) = at_replicate m i

  pub reorder_replicate : (m : ℕ) → reorder o d (replicate m d) ≡ replicate n d
  reorder_replicate m = reorder_is (replicate m d) (replicate n d) (length-replicate n d) (λ p one l. at_replicate m (o.old p) ∙ sym (at_replicate n p))

-- ---- twice is once by the combined order; the same order changes nothing; the inverse undoes

module _ {n : ℕ} {A : Type 0} (d : A) where
  pub reorder_combine : (a b : Order n) (xs : List A) → reorder b d (reorder a d xs) ≡ reorder (combine a b) d xs
  reorder_combine a b xs = reorder_is b d (reorder a d xs) (reorder (combine a b) d xs) (length_reorder (combine a b) d xs)
      (λ p one l. at_point a d xs (b.old p) (old_point b p l) ∙ sym (at_point (combine a b) d xs p l))

  pub reorder_same : (xs : List A) → length xs ≡ n → reorder (same n) d xs ≡ xs
  reorder_same xs e = reorder_is (same n) d xs xs e (λ p one l. refl)

  pub reorder_undo : (o : Order n) (xs : List A) → length xs ≡ n → reorder (inverse o) d (reorder o d xs) ≡ xs
  reorder_undo o xs e = reorder_is (inverse o) d (reorder o d xs) xs e (λ p one l. at_new o d xs e p)

  pub reorder_redo : (o : Order n) (xs : List A) → length xs ≡ n → reorder o d (reorder (inverse o) d xs) ≡ xs
  reorder_redo o xs e = reorder_is o d (reorder (inverse o) d xs) xs e (λ p one l. at_new (inverse o) d xs e p)

-- ---- an order from two functions that undo each other on the points; past these every number stays

module _ (n : ℕ) (f g : ℕ → ℕ) (f_most : (p : ℕ) → p ≤ n → f p ≤ n) (g_most : (p : ℕ) → p ≤ n → g p ≤ n)
    (f_g : (p : ℕ) → p ≤ n → f (g p) ≡ p) (g_f : (p : ℕ) → p ≤ n → g (f p) ≡ p) (f_start : f 0 ≡ 0) where
  abbrev pub on_points : (ℕ → ℕ) → ℕ → ℕ
  on_points h p = cond (leb p n) (h p) p

  pub on_point : (h : ℕ → ℕ) (p : ℕ) → p ≤ n → on_points h p ≡ h p
  on_point h p l = rw (le-leb p n l)

  pub on_past : (h : ℕ → ℕ) (p : ℕ) → n < p → on_points h p ≡ p
  on_past h p l = rw (lt-leb p n l)

  pub undone : (h j : ℕ → ℕ) → ((p : ℕ) → p ≤ n → j p ≤ n) → ((p : ℕ) → p ≤ n → h (j p) ≡ p) → (p : ℕ) → on_points h (on_points j p) ≡ p
  undone h j most undoes p = ⊎_elim
      (λ (l : n < p). ap (on_points h) (on_past j p l) ∙ on_past h p l)
      (λ (l : p ≤ n). ap (on_points h) (on_point j p l) ∙ on_point h (j p) (most p l) ∙ undoes p l)
      (below_or_not n p)

  abbrev pub order_on : Order n
  order_on = record {
    old = on_points f;
    new = on_points g;
    old_new = undone f g g_most f_g;
    new_old = undone g f f_most g_f;
    start = on_point f 0 (omega arith) ∙ f_start;
    past = on_past f;
  }
