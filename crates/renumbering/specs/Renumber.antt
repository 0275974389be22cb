-- The renumbered ticket, ticks, windows, flags, plan record, commitment and call (02, change 12); and that renumbering twice is renumbering once by the combined
-- order (`renumber_combine`, `state_combine`, `commitment_combine`).
use Rattle.std.specs.Prelude.{◌≡◌, refl, Bool, false, List, [], ◌∷◌, map, ℕ, length}
use Rattle.std.proofs.lemmas.Simd.{map-map}
use Rattle.std.proofs.Common.{map-id}
use Rattle.temporal.specs.Ticket.{Rule, Ticket, events, Window, origin}
use Rattle.temporal.specs.Plan.{State, Commitment}
use Rattle.runs.specs.Run.{Call}
use Rattle.renumbering.specs.Order.{Order, combine, same, inverse, reorder, length_reorder, reorder_combine, reorder_same, reorder_undo}

-- ---- the definitions: "Renumbering the events of a ticket, with owners, rules and commitments following"

module _ {n : ℕ} (o : Order n) where
  -- a rule between the same points, under their new numbers
  abbrev pub renumber_rule : Rule → Rule
  renumber_rule r = record { from = o.new r.from; to = o.new r.to; bound = r.bound }

  -- the horizon stays, the owners stand in the new order, and the rules as they stood
  abbrev pub renumber : Ticket → Ticket
  renumber k = record { horizon = k.horizon; owners = reorder o 0 k.owners; rules = map renumber_rule k.rules }

  -- a tick, a window, a flag for each event, in the new order
  abbrev pub renumber_ticks : List ℕ → List ℕ
  renumber_ticks ts = reorder o 0 ts

  abbrev pub renumber_windows : List Window → List Window
  renumber_windows ws = reorder o origin ws

  abbrev pub renumber_flags : List Bool → List Bool
  renumber_flags fs = reorder o false fs

  -- a plan record; the devices' counts stay
  abbrev pub renumber_state : State → State
  renumber_state s = record {
    ticket = renumber s.ticket;
    windows = renumber_windows s.windows;
    flags = renumber_flags s.flags;
    counts = s.counts;
  }

  -- the same event under its new number; a number that names no event stays
  abbrev pub renumber_commitment : Commitment → Commitment
  renumber_commitment c = record { room = c.room; caller = c.caller; event = o.new c.event; opens = c.opens; closes = c.closes }

  -- the same of a call: it is lent the same output and scratch
  abbrev pub renumber_call : Call → Call
  renumber_call c = record { caller = c.caller; event = o.new c.event; opens = c.opens; closes = c.closes; out = c.out; scratch = c.scratch }

-- a window and a flag for each of n events
pub record Lengths (n : ℕ) (s : State) : Type 0 where
  pub owners : events s.ticket ≡ n
  pub windows : length s.windows ≡ n
  pub flags : length s.flags ≡ n

pub events_renumber : {n : ℕ} (o : Order n) (k : Ticket) → events (renumber o k) ≡ n
events_renumber o k = length_reorder o 0 k.owners

-- ---- "Renumbering twice equals renumbering once by the combined order"

module _ {n : ℕ} (a b : Order n) where
  pub renumber_combine : (k : Ticket) → renumber b (renumber a k) ≡ renumber (combine a b) k
  renumber_combine k = λ i. record {
    horizon = k.horizon;
    owners = reorder_combine 0 a b k.owners i;
    rules = map-map (renumber_rule b) (renumber_rule a) k.rules i;
  }

  pub state_combine : (s : State) → renumber_state b (renumber_state a s) ≡ renumber_state (combine a b) s
  state_combine s = λ i. record {
    ticket = renumber_combine s.ticket i;
    windows = reorder_combine origin a b s.windows i;
    flags = reorder_combine false a b s.flags i;
    counts = s.counts;
  }

  pub commitment_combine : (c : Commitment) → renumber_commitment b (renumber_commitment a c) ≡ renumber_commitment (combine a b) c
  commitment_combine c = refl

-- ---- the same order changes nothing

module _ {n : ℕ} where
  pub renumber_same : (k : Ticket) → events k ≡ n → renumber (same n) k ≡ k
  renumber_same k e = λ i. record { horizon = k.horizon; owners = reorder_same 0 k.owners e i; rules = map-id k.rules i }

  pub state_same : (s : State) → Lengths n s → renumber_state (same n) s ≡ s
  state_same s l = λ i. record {
    ticket = renumber_same s.ticket l.owners i;
    windows = reorder_same origin s.windows l.windows i;
    flags = reorder_same false s.flags l.flags i;
    counts = s.counts;
  }

-- ---- the inverse order undoes

map_undo : {A : Type 0} (f g : A → A) → ((x : A) → g (f x) ≡ x) → (xs : List A) → map g (map f xs) ≡ xs
map_undo f g h [] = refl
map_undo f g h (x ∷ xs) = λ i. h x i ∷ map_undo f g h xs i

module _ {n : ℕ} (o : Order n) where
  rule_undo : (r : Rule) → renumber_rule (inverse o) (renumber_rule o r) ≡ r
  rule_undo r = λ i. record { from = o.old_new r.from i; to = o.old_new r.to i; bound = r.bound }

  pub renumber_undo : (k : Ticket) → events k ≡ n → renumber (inverse o) (renumber o k) ≡ k
  renumber_undo k e = λ i. record {
    horizon = k.horizon;
    owners = reorder_undo 0 o k.owners e i;
    rules = map_undo (renumber_rule o) (renumber_rule (inverse o)) rule_undo k.rules i;
  }

  pub state_undo : (s : State) → Lengths n s → renumber_state (inverse o) (renumber_state o s) ≡ s
  state_undo s l = λ i. record {
    ticket = renumber_undo s.ticket l.owners i;
    windows = reorder_undo origin o s.windows l.windows i;
    flags = reorder_undo false o s.flags l.flags i;
    counts = s.counts;
  }

  pub commitment_undo : (c : Commitment) → renumber_commitment (inverse o) (renumber_commitment o c) ≡ c
  commitment_undo c = λ i. record { room = c.room; caller = c.caller; event = o.old_new c.event i; opens = c.opens; closes = c.closes }
