-- The reading of a ticket and of a record, stage by stage: each stage's outcome decides the rest. Assumes nothing.
use Rattle.std.specs.Prelude.{ℕ, suc, ◌+◌, ◌≤◌, ◌<◌, ◌≡◌, refl, List, [], ◌∷◌, ◌++◌, Bool, true, false, leb, length, get_or, drop}
use Rattle.std.proofs.Common.{◌∙◌, append-nil, drop_of_length-le, drop-cons}
use Rattle.std.proofs.Math.Numerals.{add-one}
use borrow.Author.Tests.{le-leb, lt-leb, eq-eqb, ne_eqb}
use Rattle.ticket.specs.Parser.{Cause, short, horizon, events, rules, layout, Out, got, refused, Parser, then, ◌>>=◌, give, expect, little, many}
use Rattle.temporal.specs.Ticket.{Rule, Ticket}
use Rattle.ticket.specs.Format.{Entry, flags_in, windows_in, read_owner, read_rule, Front, read_front, read_rules, read_ticket, read_window, read_same, read_windows, sound_count}
use Rattle.ticket.specs.Format.{read_count, each_count, read_counts, flag_counts, read_state}
use Rattle.ticket.specs.Laws.{after}
use Rattle.ticket.proofs.Laws.{after_cons}
use Rattle.ticket.proofs.Fields.{expect_fails, expect_holds}

-- ---- the first two numbers

module _ (s : List ℕ) where
  pub no_horizon : little 4 s ≡ refused short → read_front s ≡ refused short
  unfolding read_front
  no_horizon e = rw e

  module _ (h : ℕ) (s₁ : List ℕ) (eh : little 4 s ≡ got h s₁) where
    pub bad_horizon : 1000000 < h → read_front s ≡ refused horizon
    unfolding read_front
    bad_horizon l = rw (eh, lt-leb h 1000000 l)

    module _ (lh : h ≤ 1000000) where
      pub no_events : little 2 s₁ ≡ refused short → read_front s ≡ refused short
      unfolding read_front
      no_events e = rw (eh, le-leb h 1000000 lh, e)

      module _ (n : ℕ) (s₂ : List ℕ) (en : little 2 s₁ ≡ got n s₂) where
        pub bad_events : 40 < n → read_front s ≡ refused events
        unfolding read_front
        bad_events l = rw (eh, le-leb h 1000000 lh, en, lt-leb n 40 l)

        pub front_read : n ≤ 40 → read_front s ≡ got (record { horizon = h; events = n }) s₂
        unfolding read_front
        front_read l = rw (eh, le-leb h 1000000 lh, en, le-leb n 40 l)

-- ---- the rules with their number

module _ (n : ℕ) (s : List ℕ) where
  pub no_rules_lem : little 2 s ≡ refused short → read_rules n s ≡ refused short
  unfolding read_rules
  no_rules_lem e = rw e

  module _ (m : ℕ) (s₁ : List ℕ) (em : little 2 s ≡ got m s₁) where
    pub many_rules : 256 < m → read_rules n s ≡ refused rules
    unfolding read_rules
    many_rules l = rw (em, lt-leb m 256 l)

    pub some_rules : m ≤ 256 → read_rules n s ≡ many (read_rule n) m s₁
    unfolding read_rules
    some_rules l = rw (em, le-leb m 256 l)

-- ---- a ticket, part by part

by_out : {A G : Type 0} (o : Out A) → ((k : Cause) → o ≡ refused k → G) → ((x : A) (t : List ℕ) → o ≡ got x t → G) → G
by_out (got x t) f g = g x t refl
by_out (refused k) f g = f k refl

by_test : {G : Type 0} (b : Bool) → (b ≡ true → G) → (b ≡ false → G) → G
by_test true f g = f refl
by_test false f g = g refl

abbrev ticket_after : Front → Parser Ticket
ticket_after f = do
  os ← many read_owner f.events
  rs ← read_rules f.events
  give (record { horizon = f.horizon; owners = os; rules = rs })

ticket_parts : (s : List ℕ) → read_ticket s ≡ then (read_front s) ticket_after
unfolding read_ticket read_front read_rules
ticket_parts s =
    by_out (little 4 s) (λ k e. rw e) (λ h s₁ eh.
    by_test (leb h 1000000) (λ bh.
    by_out (little 2 s₁) (λ k e. rw (eh, bh, e)) (λ n s₂ en.
    by_test (leb n 40) (λ bn.
    by_out (many read_owner n s₂) (λ k e. rw (eh, bh, en, bn, e)) (λ os s₃ eo.
    by_out (little 2 s₃) (λ k e. rw (eh, bh, en, bn, eo, e)) (λ m s₄ em.
    by_test (leb m 256) (λ bm. rw (eh, bh, en, bn, eo, em, bm)) (λ bm. rw (eh, bh, en, bn, eo, em, bm)))))
    (λ bn. rw (eh, bh, en, bn))))
    (λ bh. rw (eh, bh)))

module _ (s : List ℕ) where
  pub bad_front : (k : Cause) → read_front s ≡ refused k → read_ticket s ≡ refused k
  bad_front k e = ticket_parts s ∙ rw e

  module _ (f : Front) (s₁ : List ℕ) (ef : read_front s ≡ got f s₁) where
    pub bad_owners : (k : Cause) → many read_owner f.events s₁ ≡ refused k → read_ticket s ≡ refused k
    bad_owners k e = ticket_parts s ∙ rw (ef, e)

    module _ (os : List ℕ) (s₂ : List ℕ) (eo : many read_owner f.events s₁ ≡ got os s₂) where
      pub bad_rules : (k : Cause) → read_rules f.events s₂ ≡ refused k → read_ticket s ≡ refused k
      bad_rules k e = ticket_parts s ∙ rw (ef, eo, e)

      pub whole : (rs : List Rule) (s₃ : List ℕ) → read_rules f.events s₂ ≡ got rs s₃
          → read_ticket s ≡ got (record { horizon = f.horizon; owners = os; rules = rs }) s₃
      whole rs s₃ e = ticket_parts s ∙ rw (ef, eo, e)

-- ---- a record, section by section

module _ (s : List ℕ) where
  pub bad_ticket : (k : Cause) → read_ticket s ≡ refused k → read_state s ≡ refused k
  unfolding read_state
  bad_ticket k e = rw e

  module _ (t : Ticket) (s₁ : List ℕ) (et : read_ticket s ≡ got t s₁) where
    pub bad_windows : (k : Cause) → read_windows (length t.owners) t.horizon s₁ ≡ refused k → read_state s ≡ refused k
    unfolding read_state
    bad_windows k e = rw (et, e)

    module _ (es : List Entry) (s₂ : List ℕ) (ew : read_windows (length t.owners) t.horizon s₁ ≡ got es s₂) where
      pub bad_counts : (k : Cause) → read_counts (flag_counts t.owners (flags_in es)) s₂ ≡ refused k → read_state s ≡ refused k
      unfolding read_state
      bad_counts k e = rw (et, ew, e)

      pub whole_state : (cs s₃ : List ℕ) → read_counts (flag_counts t.owners (flags_in es)) s₂ ≡ got cs s₃
          → read_state s ≡ got (record { ticket = t; windows = windows_in es; flags = flags_in es; counts = cs }) s₃
      unfolding read_state
      whole_state cs s₃ e = rw (et, ew, e)

-- The section of windows.
module _ (n h : ℕ) (s : List ℕ) where
  pub other_events : (k : Cause) → read_same n s ≡ refused k → read_windows n h s ≡ refused k
  unfolding read_windows
  other_events k e = rw e

  pub same_events : (s₁ : List ℕ) → read_same n s ≡ got tt s₁ → read_windows n h s ≡ many (read_window h) n s₁
  unfolding read_windows
  same_events s₁ e = rw e

-- The section of counts.
module _ (xs s : List ℕ) where
  pub other_devices : (k : Cause) → read_same 5 s ≡ refused k → read_counts xs s ≡ refused k
  unfolding read_counts
  other_devices k e = rw e

  pub same_devices : (s₁ : List ℕ) → read_same 5 s ≡ got tt s₁ → read_counts xs s ≡ each_count xs s₁
  unfolding read_counts
  same_devices s₁ e = rw e

-- A number that has to be x.
module _ (x : ℕ) (s : List ℕ) where
  pub no_number : little 2 s ≡ refused short → read_same x s ≡ refused short
  unfolding read_same
  no_number e = rw e

  module _ (k : ℕ) (s₁ : List ℕ) (ek : little 2 s ≡ got k s₁) where
    pub other_number : (k ≡ x → ⊥) → read_same x s ≡ refused layout
    unfolding read_same
    other_number h = rw (ek, ne_eqb k x h)

    pub same_number : k ≡ x → read_same x s ≡ got tt s₁
    unfolding read_same
    same_number h = rw (ek, eq-eqb k x h)

-- The count of a device with x flags set.
module _ (x : ℕ) (s : List ℕ) where
  pub no_count_lem : little 2 s ≡ refused short → read_count x s ≡ refused short
  unfolding read_count
  no_count_lem e = rw e

  module _ (k : ℕ) (s₁ : List ℕ) (ek : little 2 s ≡ got k s₁) where
    pub bad_count : (c : Cause) → expect (sound_count x k) layout [] ≡ refused c → read_count x s ≡ refused c
    unfolding read_count
    bad_count c e = rw (ek, expect_fails (sound_count x k) layout c s₁ e)

    pub good_count : expect (sound_count x k) layout [] ≡ got tt [] → read_count x s ≡ got k s₁
    unfolding read_count
    good_count e = rw (ek, expect_holds (sound_count x k) layout s₁ e)

-- A count for each of a list: ks have been read, the first i.
module _ (xs : List ℕ) (i : ℕ) (ks s : List ℕ) where
  pub counts_more : (k : ℕ) (s₁ : List ℕ) → i < length xs → read_count (get_or xs i 0) s ≡ got k s₁
      → after ks (each_count (drop i xs) s) ≡ after (ks ++ k ∷ []) (each_count (drop (i + 1) xs) s₁)
  unfolding each_count
  counts_more k s₁ l e = rw (drop-cons xs i 0, add-one, e) (after_cons ks k (each_count (drop (suc i) xs) s₁))

  pub counts_stop : (c : Cause) → i < length xs → read_count (get_or xs i 0) s ≡ refused c → after ks (each_count (drop i xs) s) ≡ refused c
  unfolding each_count
  counts_stop c l e = rw (drop-cons xs i 0, e)

  pub counts_read : length xs ≤ i → after ks (each_count (drop i xs) s) ≡ got ks s
  unfolding each_count
  counts_read l = rw (drop_of_length-le xs l, append-nil)
