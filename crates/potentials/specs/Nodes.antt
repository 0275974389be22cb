-- Windows as a potential of 2 n + 1 nodes and back: node i is the open of event i, node n + i its close.
-- Rests on temporal's windows.
use Rattle.std.specs.Prelude.{◌≡◌, refl, cond, List, leb, length, get_or}
use Rattle.std.proofs.Common.{sym, ap, ◌∙◌, subst, ⊎_elim, le-leb}
use Prim.Native.Nat.{ℕ, zero, suc, ◌+◌, ◌*◌, ◌-◌, ◌≤◌, ◌<◌}
use native.Mathlib.Omega.{arith}
use Rattle.std.proofs.lemmas.Bool.{lt-leb}
use Rattle.temporal.specs.Lists.{tab}
use Rattle.temporal.proofs.Lists.{length_tab, get_d_tab, below_or_not}
use Rattle.temporal.specs.Ticket as temporal
use Rattle.temporal.specs.Ticket.{Window, origin}

-- the node of a point's close; for n = 0 the point itself
unfoldable pub close_node : ℕ → ℕ → ℕ
close_node n zero = 0
close_node n (suc i) = n + suc i

pub close_start : (n q : ℕ) → q ≡ 0 → close_node n q ≡ 0
unfolding close_node
close_start n zero e = refl
close_start n (suc i) e = absurd (omega arith)

pub close_event : (n q : ℕ) → 0 < q → close_node n q ≡ n + q
unfolding close_node
close_event n zero l = absurd (omega arith)
close_event n (suc i) l = refl

pub close_self : (q : ℕ) → close_node 0 q ≡ q
unfolding close_node
close_self zero = refl
close_self (suc i) = omega arith

pub close_most : (n q : ℕ) → close_node n q ≤ n + q
unfolding close_node
close_most n zero = omega arith
close_most n (suc i) = omega arith

-- what holds of the opens and of the closes holds of every node above 0
pub by_nodes : (P : ℕ → Type 0) (n : ℕ) → ((i : ℕ) → i < n → P (suc i)) → ((i : ℕ) → i < n → P (n + suc i)) → (v : ℕ) → 0 < v → v < 2 * n + 1 → P v
by_nodes P n opens closes v lo hi =
    ⊎_elim
    (λ (l : v < suc n).
    let e : suc (v - 1) ≡ v = omega arith in
    subst P e (opens (v - 1) (omega arith)))
    (λ (l : suc n ≤ v).
    let e : n + suc (v - suc n) ≡ v = omega arith in
    subst P e (closes (v - suc n) (omega arith)))
    (below_or_not v (suc n))

-- ---- there and back

abbrev pub window_from : ℕ → (ℕ → ℕ) → ℕ → Window
window_from n p i = record { opens = p (suc i); closes = p (n + suc i) }

-- the windows of a potential
unfoldable pub windows_of : ℕ → (ℕ → ℕ) → List Window
windows_of n p = tab n (window_from n p)

-- the potential of windows
unfoldable pub potential_of : ℕ → List Window → ℕ → ℕ
potential_of n ws v = cond (leb v n) (temporal.window_of ws v).opens (temporal.window_of ws (v - n)).closes

pub length_windows : (n : ℕ) (p : ℕ → ℕ) → length (windows_of n p) ≡ n
unfolding windows_of
length_windows n p = length_tab n (window_from n p)

windows_at_lem : (n : ℕ) (p : ℕ → ℕ) (i : ℕ) → i < n → get_or (windows_of n p) i origin ≡ window_from n p i
unfolding windows_of
windows_at_lem n p i l = get_d_tab n (window_from n p) origin i l

module _ (n : ℕ) (ws : List Window) where
  pub potential_open : (q : ℕ) → q ≤ n → potential_of n ws q ≡ (temporal.window_of ws q).opens
  unfolding potential_of
  potential_open q l = rw (le-leb q n l)

  pub potential_close : (q : ℕ) → 0 < q → potential_of n ws (n + q) ≡ (temporal.window_of ws q).closes
  unfolding potential_of
  potential_close q l =
      let e : n + q - n ≡ q = omega arith in
      rw (lt-leb (n + q) n (omega arith), e)

  pub potential_node : (q : ℕ) → potential_of n ws (close_node n q) ≡ (temporal.window_of ws q).closes
  unfolding close_node
  potential_node zero = potential_open 0 (omega arith)
  potential_node (suc i) = potential_close (suc i) (omega arith)

pub potential_windows : (n : ℕ) (p : ℕ → ℕ) → p 0 ≡ 0 → (v : ℕ) → v < 2 * n + 1 → potential_of n (windows_of n p) v ≡ p v
potential_windows n p z zero l = potential_open n (windows_of n p) 0 (omega arith) ∙ sym z
potential_windows n p z (suc i) l = by_nodes (λ v. potential_of n (windows_of n p) v ≡ p v) n
    (λ i li. potential_open n (windows_of n p) (suc i) li ∙ ap (λ (w : Window). w.opens) (windows_at_lem n p i li))
    (λ i li. potential_close n (windows_of n p) (suc i) (omega arith) ∙ ap (λ (w : Window). w.closes) (windows_at_lem n p i li))
    (suc i) (omega arith) l
