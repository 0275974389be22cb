-- What is read at a place of a list, as the program's tests tell it: an owner, a rule, a window; and how many bytes each field and the section of windows take.
-- Assumes nothing.
use Rattle.std.specs.Prelude.{ℕ, zero, suc, ◌+◌, ◌*◌, ◌-◌, ◌≤◌, ◌<◌, ◌≡◌, refl, List, [], ◌∷◌, Bool, true, false, ◌&&◌, length, get_or, drop, leb, eqb}
use Rattle.std.proofs.Common.{le_of_suc-le-suc, length-drop, drop_of_length-le, to_z}
use native.Mathlib.Omega.{arith}
use borrow.Author.Tests.{le-leb, lt-leb, leb-true, leb-false, eq-eqb, ne_eqb}
use Rattle.std.specs.Int.{w32}
use Rattle.temporal.specs.Ticket.{Rule}
use Rattle.ticket.specs.Parser.{Cause, short, owner, points, bound, layout, got, refused, ◌>>◌, expect, byte, little}
use Rattle.ticket.specs.Format.{apart, within, sound, rule_test, sound_count, read_owner, read_rule, read_window, read_same, read_windows, read_count}
use Rattle.ticket.specs.Writer.{flag_byte}
use Rattle.ticket.proofs.Laws.{byte_at, little_short, little4_at}
use Rattle.ticket.proofs.Width.{not_got, byte_fixed, give_fixed, expect_fixed, bind_fixed, little_fixed, many_fixed}
use Rattle.ticket.specs.Width.{Fixed}

-- ---- a test

-- It reads nothing, so it is the same wherever it stands.
module _ (b : Bool) (c : Cause) where
  pub expect_fails : (k : Cause) (s : List ℕ) → expect b c [] ≡ refused k → expect b c s ≡ refused k
  expect_fails k s = go b
    where
      go : (x : Bool) → expect x c [] ≡ refused k → expect x c s ≡ refused k
      go true e = absurd (let z : ◌≡◌ {A = ℕ} 0 1 = cc in omega arith)
      go false e = e

  pub expect_true : (s t : List ℕ) (x : Unit {0}) → expect b c s ≡ got x t → b ≡ true
  expect_true s t x = go b
    where
      go : (y : Bool) → expect y c s ≡ got x t → y ≡ true
      go true e = refl
      go false e = absurd (not_got e)

  pub expect_holds : (s : List ℕ) → expect b c [] ≡ got tt [] → expect b c s ≡ got tt s
  expect_holds s e = rw (expect_true [] [] tt e)

pub both : (a b : Bool) → a && b ≡ true → (a ≡ true) × (b ≡ true)
both true true e = (refl, refl)
both true false e = absurd (let z : ◌≡◌ {A = ℕ} 0 1 = cc in omega arith)
both false b e = absurd (let z : ◌≡◌ {A = ℕ} 0 1 = cc in omega arith)

-- ---- an owner

module _ (s : List ℕ) (at : ℕ) where
  pub owner_short : length s ≤ at → read_owner (drop at s) ≡ refused short
  unfolding read_owner
  owner_short h = rw (drop_of_length-le s h)

  pub owner_bad : at < length s → 4 < get_or s at 0 → read_owner (drop at s) ≡ refused owner
  unfolding read_owner
  owner_bad h l = rw (byte_at s at h, lt-leb _ _ l)

  pub owner_got : at < length s → get_or s at 0 ≤ 4 → read_owner (drop at s) ≡ got (get_or s at 0) (drop (at + 1) s)
  unfolding read_owner
  owner_got h l = rw (byte_at s at h, le-leb _ _ l)

-- ---- a rule

short_rule : (n : ℕ) (t : List ℕ) → length t < 6 → read_rule n t ≡ refused short
unfolding read_rule
short_rule n [] h = refl
short_rule n (a ∷ []) h = refl
short_rule n (a ∷ b ∷ t) h = rw (little_short 4 t (le_of_suc-le-suc (le_of_suc-le-suc h)))

pub rule_short : (s : List ℕ) (at n : ℕ) → length s - at < 6 → read_rule n (drop at s) ≡ refused short
rule_short s at n h = short_rule n (drop at s) (rw length-drop h)

-- The tests of a rule read nothing, so they are the same wherever they stand.
module _ (n : ℕ) (r : Rule) where
  pub points_fail : apart n r.from r.to ≡ false → rule_test n r [] ≡ refused points
  points_fail e = rw e

  pub bound_fails : apart n r.from r.to ≡ true → within r.bound ≡ false → rule_test n r [] ≡ refused bound
  bound_fails e h = rw (e, h)

  pub rule_passes : (s : List ℕ) → apart n r.from r.to ≡ true → within r.bound ≡ true → rule_test n r s ≡ got tt s
  rule_passes s e h = rw (e, h)

  pub rule_fails : (k : Cause) (s : List ℕ) → rule_test n r [] ≡ refused k → rule_test n r s ≡ refused k
  rule_fails k s = go (apart n r.from r.to) (within r.bound)
    where
      go : (a b : Bool) → (expect a points >> expect b bound) [] ≡ refused k → (expect a points >> expect b bound) s ≡ refused k
      go true true e = absurd (let z : ◌≡◌ {A = ℕ} 0 1 = cc in omega arith)
      go true false e = e
      go false b e = e

  pub rule_holds_lem : (s : List ℕ) → rule_test n r [] ≡ got tt [] → rule_test n r s ≡ got tt s
  rule_holds_lem s = go (apart n r.from r.to) (within r.bound)
    where
      go : (a b : Bool) → (expect a points >> expect b bound) [] ≡ got tt [] → (expect a points >> expect b bound) s ≡ got tt s
      go true true e = refl
      go true false e = absurd (not_got e)
      go false b e = absurd (not_got e)

module _ (s : List ℕ) (at n : ℕ) (h : at + 6 ≤ length s) (c : ℕ) (b : little 4 (drop (at + 2) s) ≡ got c (drop (at + 2 + 4) s)) where
  abbrev rule : Rule
  rule = record { from = get_or s at 0; to = get_or s (at + 1) 0; bound = to_z w32 c }

  pub rule_refused : (k : Cause) → rule_test n rule [] ≡ refused k → read_rule n (drop at s) ≡ refused k
  unfolding read_rule
  rule_refused k e =
      let two : at + 1 + 1 ≡ at + 2 = omega arith in
      rw (byte_at s at (omega arith), byte_at s (at + 1) (omega arith), two, b, rule_fails n rule k (drop (at + 2 + 4) s) e)

  pub rule_got : rule_test n rule [] ≡ got tt [] → read_rule n (drop at s) ≡ got rule (drop (at + 6) s)
  unfolding read_rule
  rule_got e =
      let two : at + 1 + 1 ≡ at + 2 = omega arith in
      let six : at + 2 + 4 ≡ at + 6 = omega arith in
      rw (byte_at s at (omega arith), byte_at s (at + 1) (omega arith), two, b, rule_holds_lem n rule (drop (at + 2 + 4) s) e, six)

-- The points of a rule, by the three tests.
module _ (n i j : ℕ) where
  pub apart_from : n < i → apart n i j ≡ false
  apart_from h = rw (lt-leb i n h)

  pub apart_to : i ≤ n → n < j → apart n i j ≡ false
  apart_to h k = rw (le-leb i n h, lt-leb j n k)

  pub apart_same : i ≤ n → j ≤ n → i ≡ j → apart n i j ≡ false
  apart_same h k e = rw (le-leb i n h, le-leb j n k, eq-eqb i j e)

  pub apart_yes : i ≤ n → j ≤ n → (i ≡ j → ⊥) → apart n i j ≡ true
  apart_yes h k e = rw (le-leb i n h, le-leb j n k, ne_eqb i j e)

-- ---- a window

abbrev low4 : List ℕ → ℕ
low4 t = get_or t 0 0 + 256 * (get_or t (0 + 1) 0 + 256 * (get_or t (0 + 2) 0 + 256 * get_or t (0 + 3) 0))

short_window : (h : ℕ) (t : List ℕ) → length t < 9 → read_window h t ≡ refused short
unfolding read_window
short_window h [] l = refl
short_window h (f ∷ t) l = go (leb 4 (length t)) refl
  where
    go : (b : Bool) → leb 4 (length t) ≡ b → read_window h (f ∷ t) ≡ refused short
    go false k = rw (little_short 4 t (leb-false 4 (length t) k))
    go true k = rw (little4_at t 0 (low4 t) (omega (arith, leb-true 4 (length t) k)) refl, little_short 4 (drop 4 t) (rw length-drop (omega arith)))

pub window_short : (s : List ℕ) (at h : ℕ) → length s - at < 9 → read_window h (drop at s) ≡ refused short
window_short s at h l = short_window h (drop at s) (rw length-drop l)

module _ (s : List ℕ) (at h : ℕ) (l : at + 9 ≤ length s) (a b : ℕ)
    (ea : little 4 (drop (at + 1) s) ≡ got a (drop (at + 1 + 4) s)) (eb : little 4 (drop (at + 5) s) ≡ got b (drop (at + 5 + 4) s)) where
  pub window_refused : (k : Cause) → expect (sound h (get_or s at 0) a b) layout [] ≡ refused k → read_window h (drop at s) ≡ refused k
  unfolding read_window
  window_refused k e =
      let five : at + 1 + 4 ≡ at + 5 = omega arith in
      rw (byte_at s at (omega arith), ea, five, eb, expect_fails (sound h (get_or s at 0) a b) layout k (drop (at + 5 + 4) s) e)

  pub window_got : expect (sound h (get_or s at 0) a b) layout [] ≡ got tt []
      → read_window h (drop at s) ≡ got (record { committed = eqb (get_or s at 0) 1; window = record { opens = a; closes = b } }) (drop (at + 9) s)
  unfolding read_window
  window_got e =
      let five : at + 1 + 4 ≡ at + 5 = omega arith in
      let nine : at + 5 + 4 ≡ at + 9 = omega arith in
      rw (byte_at s at (omega arith), ea, five, eb, expect_holds (sound h (get_or s at 0) a b) layout (drop (at + 5 + 4) s) e, nine)

-- The tests of a window.
module _ (h f a b : ℕ) where
  pub sound_flag : 1 < f → sound h f a b ≡ false
  sound_flag l = rw (lt-leb f 1 l)

  pub sound_order : f ≤ 1 → b < a → sound h f a b ≡ false
  sound_order k l = rw (le-leb f 1 k, lt-leb a b l)

  pub sound_horizon : f ≤ 1 → a ≤ b → h < b → sound h f a b ≡ false
  sound_horizon k j l = rw (le-leb f 1 k, le-leb a b j, lt-leb b h l)

  pub sound_yes : f ≤ 1 → a ≤ b → b ≤ h → sound h f a b ≡ true
  sound_yes k j l = rw (le-leb f 1 k, le-leb a b j, le-leb b h l)

  pub sound_all : sound h f a b ≡ true → (f ≤ 1) × (a ≤ b) × (b ≤ h)
  sound_all e =
      let k = both (leb f 1 && leb a b) (leb b h) e in
      let l = both (leb f 1) (leb a b) k.0 in
      (leb-true f 1 l.0, leb-true a b l.1, leb-true b h k.1)

pub flag_small : (f : Bool) → flag_byte f ≤ 1
flag_small true = omega arith
flag_small false = omega arith

pub flag_read : (f : Bool) → eqb (flag_byte f) 1 ≡ f
flag_read true = refl
flag_read false = refl

-- A flag that is 0 or 1 is the byte that is written of it.
pub flag_kept : (f : ℕ) → f ≤ 1 → flag_byte (eqb f 1) ≡ f
flag_kept zero h = refl
flag_kept (suc zero) h = refl
flag_kept (suc (suc f)) h = absurd (omega arith)

-- ---- each takes a fixed number of bytes

pub owner_fixed : Fixed 1 read_owner
unfolding read_owner
owner_fixed =
    bind_fixed 1 0 byte _ byte_fixed (λ b.
    bind_fixed 0 0 (expect (leb b 4) owner) _ (expect_fixed (leb b 4) owner) (λ u. give_fixed b))

pub rule_test_fixed : (n : ℕ) (r : Rule) → Fixed 0 (rule_test n r)
rule_test_fixed n r =
    bind_fixed 0 0 (expect (apart n r.from r.to) points) _ (expect_fixed (apart n r.from r.to) points) (λ u.
    expect_fixed (within r.bound) bound)

pub rule_fixed : (n : ℕ) → Fixed 6 (read_rule n)
unfolding read_rule
rule_fixed n =
    bind_fixed 1 5 byte _ byte_fixed (λ i.
    bind_fixed 1 4 byte _ byte_fixed (λ j.
    bind_fixed 4 0 (little 4) _ (little_fixed 4) (λ c.
    bind_fixed 0 0 (rule_test n (record { from = i; to = j; bound = to_z w32 c })) _ (rule_test_fixed n (record { from = i; to = j; bound = to_z w32 c })) (λ u.
    give_fixed (record { from = i; to = j; bound = to_z w32 c })))))

pub window_fixed : (h : ℕ) → Fixed 9 (read_window h)
unfolding read_window
window_fixed h =
    bind_fixed 1 8 byte _ byte_fixed (λ f.
    bind_fixed 4 4 (little 4) _ (little_fixed 4) (λ a.
    bind_fixed 4 0 (little 4) _ (little_fixed 4) (λ b.
    bind_fixed 0 0 (expect (sound h f a b) layout) _ (expect_fixed (sound h f a b) layout) (λ u.
    give_fixed (record { committed = eqb f 1; window = record { opens = a; closes = b } })))))

pub same_fixed : (x : ℕ) → Fixed 2 (read_same x)
unfolding read_same
same_fixed x = bind_fixed 2 0 (little 2) _ (little_fixed 2) (λ k. expect_fixed (eqb k x) layout)

pub count_fixed : (x : ℕ) → Fixed 2 (read_count x)
unfolding read_count
count_fixed x =
    bind_fixed 2 0 (little 2) _ (little_fixed 2) (λ k.
    bind_fixed 0 0 (expect (sound_count x k) layout) _ (expect_fixed (sound_count x k) layout) (λ u. give_fixed k))

pub windows_fixed : (n h : ℕ) → Fixed (2 + n * 9) (read_windows n h)
unfolding read_windows
windows_fixed n h = bind_fixed 2 (n * 9) (read_same n) _ (same_fixed n) (λ u. many_fixed 9 (read_window h) (window_fixed h) n)
