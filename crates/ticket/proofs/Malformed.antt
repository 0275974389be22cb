-- A ticket that cannot be read is refused under a number of 1 to 8, a record under one of these or 14. Rests on Parser and Format.
use Prim.Native.Nat.{ℕ, zero, suc, ◌≤◌}
use Rattle.std.specs.Prelude.{◌≡◌, refl, Bool, true, false, ◌⊎◌, leb, eqb, length}
use Rattle.std.proofs.Common.{subst, inl, inr, arith}
use mathlib.Core.List.{List, [], ◌∷◌}
use mir.Syntax.{w32}
use mir.Val.{to_z}
use Rattle.temporal.specs.Ticket.{Rule}
use Rattle.ticket.specs.Parser.{Cause, horizon, events, owner, rules, points, bound, layout, number, Out, got, refused, Parser, then, ◌>>=◌, expect, byte, little, many, end, wholly}
use Rattle.ticket.specs.Format.{apart, within, rule_test, read_owner, read_rule, read_ticket}
use Rattle.ticket.specs.Format.{sound, sound_count, flags_in, flag_counts, read_window, read_same, read_windows, read_count, each_count, read_counts, read_state}

-- the number of a reading, 0 where it is done
abbrev refusal : {A : Type 0} → Out A → ℕ
refusal (got x s) = 0
refusal (refused cause) = number cause

module _ (P : ℕ → Type 0) (low : (x : ℕ) → x ≤ 8 → P x) where
  -- on every list of bytes it is one of P, to which 0 to 8 belong
  abbrev Among : {A : Type 0} → Parser A → Type 0
  Among p = (s : List ℕ) → P (refusal (p s))

  done : P 0
  done = low 0 (omega arith)

  module _ {A B : Type 0} where
    bind_among : (p : Parser A) (f : A → Parser B) → Among p → ((x : A) → Among (f x)) → Among (p >>= f)
    bind_among p f h g s = go (p s) (h s)
      where
        go : (o : Out A) → P (refusal o) → P (refusal (then o f))
        go (got x t) l = g x t
        go (refused cause) l = l

  expect_among : (b : Bool) (cause : Cause) → P (number cause) → Among (expect b cause)
  expect_among true cause l s = done
  expect_among false cause l s = l

  expect_low : (b : Bool) (cause : Cause) → number cause ≤ 8 → Among (expect b cause)
  expect_low b cause l = expect_among b cause (low (number cause) l)

  byte_among : Among byte
  unfolding number
  byte_among [] = low 1 (omega arith)
  byte_among (b ∷ s) = done

  little_among : (k : ℕ) → Among (little k)
  unfolding little
  little_among zero = λ s. done
  little_among (suc k) = bind_among byte _ byte_among (λ b. bind_among (little k) _ (little_among k) (λ x s. done))

  many_among : {A : Type 0} (p : Parser A) → Among p → (k : ℕ) → Among (many p k)
  unfolding many
  many_among p h zero = λ s. done
  many_among p h (suc k) = bind_among p _ h (λ x. bind_among (many p k) _ (many_among p h k) (λ xs s. done))

  -- ---- a ticket

  owner_among : Among read_owner
  unfolding read_owner number
  owner_among = bind_among byte _ byte_among (λ b. bind_among (expect (leb b 4) owner) _ (expect_low (leb b 4) owner (omega arith)) (λ u s. done))

  rule_among : (n : ℕ) → Among (read_rule n)
  unfolding read_rule number
  rule_among n =
      bind_among byte _ byte_among (λ i.
      bind_among byte _ byte_among (λ j.
      bind_among (little 4) _ (little_among 4) (λ c.
      let r : Rule = record { from = i; to = j; bound = to_z w32 c } in
      bind_among (rule_test n r) _
      (bind_among (expect (apart n i j) points) _ (expect_low (apart n i j) points (omega arith)) (λ u. expect_low (within r.bound) bound (omega arith)))
      (λ u s. done))))

  ticket_among : Among read_ticket
  unfolding read_ticket number
  ticket_among =
      bind_among (little 4) _ (little_among 4) (λ h.
      bind_among (expect (leb h 1000000) horizon) _ (expect_low (leb h 1000000) horizon (omega arith)) (λ u.
      bind_among (little 2) _ (little_among 2) (λ n.
      bind_among (expect (leb n 40) events) _ (expect_low (leb n 40) events (omega arith)) (λ v.
      bind_among (many read_owner n) _ (many_among read_owner owner_among n) (λ os.
      bind_among (little 2) _ (little_among 2) (λ m.
      bind_among (expect (leb m 256) rules) _ (expect_low (leb m 256) rules (omega arith)) (λ w.
      bind_among (many (read_rule n) m) _ (many_among (read_rule n) (rule_among n) m) (λ rs s. done))))))))

  whole_among : {A : Type 0} (p : Parser A) → Among p → Among (wholly p)
  unfolding number
  whole_among p h = bind_among p _ h (λ x. bind_among end _ ends (λ u s. done))
    where
      ends : Among end
      ends [] = done
      ends (b ∷ s) = low 8 (omega arith)

  -- ---- a record

  module _ (fourteen : P 14) where
    expect_layout : (b : Bool) → Among (expect b layout)
    unfolding number
    expect_layout b = expect_among b layout fourteen

    same_among : (x : ℕ) → Among (read_same x)
    unfolding read_same
    same_among x = bind_among (little 2) _ (little_among 2) (λ k. expect_layout (eqb k x))

    window_among : (h : ℕ) → Among (read_window h)
    unfolding read_window
    window_among h =
        bind_among byte _ byte_among (λ f.
        bind_among (little 4) _ (little_among 4) (λ a.
        bind_among (little 4) _ (little_among 4) (λ b.
        bind_among (expect (sound h f a b) layout) _ (expect_layout (sound h f a b)) (λ u s. done))))

    windows_among : (n h : ℕ) → Among (read_windows n h)
    unfolding read_windows
    windows_among n h = bind_among (read_same n) _ (same_among n) (λ u. many_among (read_window h) (window_among h) n)

    count_among : (x : ℕ) → Among (read_count x)
    unfolding read_count
    count_among x = bind_among (little 2) _ (little_among 2) (λ k. bind_among (expect (sound_count x k) layout) _ (expect_layout (sound_count x k)) (λ u s. done))

    each_among : (xs : List ℕ) → Among (each_count xs)
    unfolding each_count
    each_among [] = λ s. done
    each_among (x ∷ xs) = bind_among (read_count x) _ (count_among x) (λ k. bind_among (each_count xs) _ (each_among xs) (λ ks s. done))

    counts_among : (xs : List ℕ) → Among (read_counts xs)
    unfolding read_counts
    counts_among xs = bind_among (read_same 5) _ (same_among 5) (λ u. each_among xs)

    state_among : Among read_state
    unfolding read_state
    state_among =
        bind_among read_ticket _ ticket_among (λ k.
        bind_among (read_windows (length k.owners) k.horizon) _ (windows_among (length k.owners) k.horizon) (λ es.
        bind_among (read_counts (flag_counts k.owners (flags_in es))) _ (counts_among (flag_counts k.owners (flags_in es))) (λ cs s. done)))

-- ---- the numbers

pub malformed_number : (s : List ℕ) (cause : Cause) → wholly read_ticket s ≡ refused cause → number cause ≤ 8
malformed_number s cause e = subst (λ o. refusal o ≤ 8) e (whole_among (λ x. x ≤ 8) (λ x l. l) read_ticket (ticket_among (λ x. x ≤ 8) (λ x l. l)) s)

abbrev OfRecord : ℕ → Type 0
OfRecord x = (x ≤ 8) ⊎ (x ≡ 14)

pub malformed_record : (s : List ℕ) (cause : Cause) → wholly read_state s ≡ refused cause → (number cause ≤ 8) ⊎ (number cause ≡ 14)
malformed_record s cause e = subst (λ o. OfRecord (refusal o)) e (whole_among OfRecord (λ x l. inl l) read_state (state_among OfRecord (λ x l. inl l) (inr refl)) s)
