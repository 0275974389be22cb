-- A record that the code hands on is Canonical: what it says is readable, with zeros past its events in the arrays of windows and flags, and with five counts.
-- What a struct says is `ticket`'s `content` and `state_of`; of its arrays alone `potentials` says it.
use Rattle.std.specs.Prelude.{◌≡◌, Bool, true, false, List, ◌∷◌, map, ◌++◌, ℕ, zero, suc, ◌-◌, ◌≤◌, ◌<◌, ◌⊎◌, get_or, set, Ok, Err}
use Rattle.std.proofs.Math.Path.{refl, sym, ap}
use Rattle.std.proofs.Common.{subst, ◌∙◌, arith, inl, inr, length-append, length-set, get_or-set_other}
use Rattle.std.proofs.Math.ListN.{length, replicate, length-replicate, length-map}
use Rattle.std.proofs.Math.Seq.{get_or-append-add}
use Rattle.temporal.proofs.Lists.{below_or_not, by_points, get_d_past}
use Rattle.temporal.specs.Ticket as temporal
use Rattle.temporal.specs.Ticket.{Window, events, origin}
use Rattle.temporal.specs.Plan.{State, count_of}
use Rattle.temporal.specs.Run.{Valid, Readable}
use Rattle.network.specs.Stored.{at}
use Rattle.network.specs.Lists.{zeros_at}
use Rattle.ticket.proofs.Agree.{field_at, counts_all, state_stored}
use Rattle.ticket.specs.Writing.{firsts, content, state_of, Storable}
use Rattle.ticket.proofs.WritingLaws.{length_firsts, get_d_firsts}
use Rattle.ticket.specs.Parser.{Cause, got, refused, wholly}
use Rattle.ticket.specs.Format.{read_state}
use Rattle.ticket.specs.Refusal.{refusal}
use Rattle.ticket.proofs.Refusals.{was_ok, was_err}
use Rattle.ticket.specs.RoundTrip.{Bytes}
use Rattle.ticket.proofs.RoundTrip.{written_read_state}
use Rattle.ticket.specs.Stored.{pad, stored_state, whole_record}
use Rattle.ticket.specs.Writer.{flag_byte}
use Rattle.ticket.proofs.Content.{in_events, in_rules}
use Rattle.potentials.specs.Arrays.{window_list, window_at_lem, Lie, Within}
use Rattle.ticket.specs.declared.Record.{Record}
use Rattle.ticket.specs.declared.Refusal.{Refusal}

-- ---- an array of 40 numbers, 0 past the first n

pub record Past (n : ℕ) (xs : List ℕ) : Type 0 where
  pub long : length xs ≡ 40
  pub zero_past : (i : ℕ) → n ≤ i → at xs i ≡ 0

pub zeros_past : (n : ℕ) → Past n (replicate 40 0)
zeros_past n = record { long = refl; zero_past = λ i l. zeros_at 40 i }

pub within_past : {n : ℕ} {xs ys : List ℕ} → Past n xs → Within n xs ys → Past n ys
within_past p w = record { long = w.long ∙ p.long; zero_past = λ i l. w.past i l ∙ p.zero_past i l }

pub set_past : {n : ℕ} {xs : List ℕ} (i x : ℕ) → i < n → Past n xs → Past n (set xs i x)
set_past {n} {xs} i x l p = record {
  long = simp length-set p.long;
  zero_past = λ j h. get_or-set_other xs i j x 0 (λ q. omega arith) ∙ p.zero_past j h;
}

past_point : {n : ℕ} {xs : List ℕ} → Past n xs → (q : ℕ) → n < q → at (0 ∷ xs) q ≡ 0
past_point p zero l = refl
past_point p (suc j) l = p.zero_past j (omega arith)

module _ {A : Type 0} (f : A → ℕ) (xs : List A) (few : length xs ≤ 40) where
  pub pad_past : Past (length xs) (pad 0 40 (map f xs))
  unfolding pad
  pad_past = record {
    long = simp (length-append, length-replicate, length-map) (omega arith);
    zero_past = λ i l.
        ap (λ j. at (map f xs ++ replicate (40 - length (map f xs)) 0) j) (omega (arith, length-map xs f))
        ∙ get_or-append-add (map f xs) (replicate (40 - length (map f xs)) 0) (i - length (map f xs)) 0
        ∙ zeros_at (40 - length (map f xs)) (i - length (map f xs));
  }

five_padded : (ks : List ℕ) → length ks ≡ 5 → length (pad 0 5 ks) ≡ 5
unfolding pad
five_padded ks e = simp (length-append, length-replicate) (omega (arith, e))

module _ (s : State) (ok : Readable s) where
  few : length s.windows ≤ 40
  few = omega (arith, ok.windows_count, ok.valid.events_limit)

  state_of_lem : state_of (stored_state s) ≡ s
  state_of_lem = state_stored s ok.windows_count ok.flags_count ok.counts_count

-- ---- a record that the code hands on

pub record Canonical (r : Record) : Type 0 where
  pub flags_past : Past r.ticket.events r.flags
  pub opens_past : Past r.ticket.events r.opens
  pub closes_past : Past r.ticket.events r.closes
  pub bits : (i : ℕ) → at r.flags i ≤ 1
  pub counts_long : length r.counts ≡ 5
  pub readable : Readable (state_of r)

canonical_read : (s : State) → Readable s → Canonical (stored_state s)
canonical_read s ok = record {
  flags_past = subst (λ n. Past n (stored_state s).flags) ok.flags_count (pad_past flag_byte s.flags (omega (arith, ok.flags_count, ok.valid.events_limit)));
  opens_past = subst (λ n. Past n (stored_state s).opens) ok.windows_count (pad_past (λ (w : Window). w.opens) s.windows (few s ok));
  closes_past = subst (λ n. Past n (stored_state s).closes) ok.windows_count (pad_past (λ (w : Window). w.closes) s.windows (few s ok));
  bits = λ i. by i (below_or_not i (length s.flags));
  counts_long = five_padded s.counts ok.counts_count;
  readable = subst Readable (sym (state_of_lem s ok)) ok;
}
  where
    flag_byte_lem : (b : Bool) → flag_byte b ≤ 1
    flag_byte_lem true = omega arith
    flag_byte_lem false = omega arith

    by : (i : ℕ) → (i < length s.flags) ⊎ (length s.flags ≤ i) → at (stored_state s).flags i ≤ 1
    by i (inl l) = omega (arith, field_at flag_byte false 40 s.flags i l, flag_byte_lem (get_or s.flags i false))
    by i (inr l) = omega (arith, (pad_past flag_byte s.flags (omega (arith, ok.flags_count, ok.valid.events_limit))).zero_past i l)

module _ (r : Record) (ok : Canonical r) where
  counted : events (content r.ticket) ≡ r.ticket.events
  counted = in_events r.ticket

  pub canonical_few : r.ticket.events ≤ 40
  canonical_few = omega (arith, counted, ok.readable.valid.events_limit)

  -- the window of a point, in the arrays
  pub open_of : (p : ℕ) → (temporal.window_of (state_of r).windows p).opens ≡ at (0 ∷ r.opens) p
  unfolding window_list
  open_of = by_points (λ p. (temporal.window_of (state_of r).windows p).opens ≡ at (0 ∷ r.opens) p) r.ticket.events refl
      (λ i l. ap (λ (w : Window). w.opens) (window_at_lem r.ticket.events r.opens r.closes i l))
      (λ q l. ap (λ (w : Window). w.opens) (get_d_past (origin ∷ (state_of r).windows) origin q (omega (arith, ok.readable.windows_count, counted))) ∙ sym (past_point ok.opens_past q l))

  pub close_of : (p : ℕ) → (temporal.window_of (state_of r).windows p).closes ≡ at (0 ∷ r.closes) p
  unfolding window_list
  close_of = by_points (λ p. (temporal.window_of (state_of r).windows p).closes ≡ at (0 ∷ r.closes) p) r.ticket.events refl
      (λ i l. ap (λ (w : Window). w.closes) (window_at_lem r.ticket.events r.opens r.closes i l))
      (λ q l. ap (λ (w : Window). w.closes) (get_d_past (origin ∷ (state_of r).windows) origin q (omega (arith, ok.readable.windows_count, counted))) ∙ sym (past_point ok.closes_past q l))

  -- the count of a device
  pub count_of_lem : (o : ℕ) → count_of (state_of r) o ≡ at r.counts o
  count_of_lem o = ap (λ ns. at ns o) (counts_all r.counts ok.counts_long)

  pub canonical_lies : Lie r.ticket r.opens r.closes
  unfolding window_list
  canonical_lies = ok.readable.windows_lie

  -- it can be written with no test
  pub canonical_storable : Storable r
  canonical_storable = record {
    events_limit = canonical_few;
    rules_limit = omega (arith, in_rules r.ticket, ok.readable.valid.rules_limit);
    flags_known = λ i l. ok.bits i;
  }

-- ---- windows, to be tested and summed

pub lies_asked : {r : Record} → Canonical r → Valid (content r.ticket) × Lie r.ticket r.opens r.closes
lies_asked {r} ok = (ok.readable.valid, canonical_lies r ok)

-- the number of a point in an array
pub point_in : (xs : List ℕ) (p : ℕ) → (p ≡ 0 → ⊥) → at xs (p - 1) ≡ at (0 ∷ xs) p
point_in xs zero n = absurd (n refl)
point_in xs (suc i) n = ap (at xs) (omega arith)

-- the owner of a point, in the array of owners f, of which n are an event's
module _ (n : ℕ) (f : ℕ → ℕ) where
  pub owner_in_lem : (p : ℕ) → 1 ≤ p → p ≤ n → f (p - 1) ≡ get_or (5 ∷ firsts n f) p 5
  owner_in_lem zero l m = absurd (none l)
    where
      none : 1 ≤ 0 → ⊥
      none g = omega arith
  owner_in_lem (suc i) l m = ap f (omega arith) ∙ sym (get_d_firsts n f 5 i (omega arith))

  pub owner_past : (p : ℕ) → n < p → get_or (5 ∷ firsts n f) p 5 ≡ 5
  owner_past p l = get_d_past (5 ∷ firsts n f) 5 p (omega (arith, length_firsts n f))

-- ---- a record that was read

-- what reading the bytes to their end answers
module _ (bytes : List ℕ) where
  -- the refusal for its cause,
  pub read_refused : {e : Refusal} → Err e ≡ whole_record bytes → (c : Cause) × (wholly read_state bytes ≡ refused c) × (e ≡ refusal c)
  read_refused e = was_err stored_state (wholly read_state bytes) e

  -- or a struct that says the state, and is one that the code hands on
  module _ {r : Record} (e : Ok r ≡ whole_record bytes) where
    pub read_got : (s : State) × (rest : List ℕ) × (wholly read_state bytes ≡ got s rest)
    read_got = let g = was_ok stored_state (wholly read_state bytes) e in (g.0, g.1, g.2)

    struct_state : r ≡ stored_state read_got.0
    unfolding read_got
    struct_state = (was_ok stored_state (wholly read_state bytes) e).3

    module _ (b : Bytes bytes) where
      readable : Readable read_got.0
      readable = (written_read_state bytes read_got.0 read_got.1 b read_got.2).1

      pub read_canonical : Canonical r
      read_canonical = subst Canonical (sym struct_state) (canonical_read read_got.0 readable)

      pub read_state_lem : state_of r ≡ read_got.0
      read_state_lem = ap state_of struct_state ∙ state_of_lem read_got.0 readable
