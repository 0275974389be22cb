-- One device's part of a renumbered ticket on bytes (02, changes 8 and 12): the call returns the same number, length and total, and what it writes has the same
-- events with the same windows, under their new numbers (`renumbered_part`). Both parts rise (`parts`, Parted). Rests on Parts.
use Rattle.std.specs.Prelude.{◌≡◌, refl, Bool, true, false, List, [], ◌∷◌, ◌↔◌, ℕ, zero, suc, ◌≤◌, ◌<◌, T, length, take}
use Rattle.std.proofs.Common.{sym, ap, subst, ◌∙◌, ⊎_elim, arith}
use mathlib.Core.List.Memᴰ
use Rattle.std.proofs.Math.Seq.{take-append_seam}
use Rattle.temporal.specs.Lists.{◌∈◌}
use Rattle.temporal.proofs.Lists.{All-∈, below_or_not}
use Rattle.temporal.specs.Ticket.{Ticket, events, window_of}
use Rattle.temporal.specs.Distance.{consistent}
use Rattle.temporal.specs.Run.{Valid}
use Rattle.ticket.specs.Parser.{got, wholly}
use Rattle.ticket.specs.Content.{HoldsTicket}
use Rattle.ticket.specs.Writing.{firsts, over}
use Rattle.ticket.specs.RoundTrip.{Bytes}
use Rattle.ticket.proofs.RoundTrip.{written_read}
use Rattle.ticket.proofs.Agree.{all_firsts}
use Rattle.parts.specs.Part.{members, point, part_plan}
use Rattle.parts.proofs.Members.{member_owned, point_of, place_point}
use Rattle.parts.specs.Members.{place}
use Rattle.parts.specs.Parting.{Numbered, numbered_at, numbered, write_part, Outcome, refusing, accepting, parted, parting}
use Rattle.parts.proofs.Parting.{parting_short, parting_unknown, parting_read, parted_none, parted_some}
use Rattle.parts.specs.Parted.{read_part}
use Rattle.parts.proofs.Parted.{part_read, length_part}
use Rattle.renumbering.specs.Order.{Order, inverse, new_event}
use Rattle.renumbering.specs.Renumber.{renumber, events_renumber, renumber_undo}
use Rattle.renumbering.specs.Schedules.{consistent_in}
use Rattle.renumbering.specs.Reading.{valid_in}
use Rattle.renumbering.specs.PartOrder.{members_same, at_there}
use Rattle.renumbering.specs.Parts.{part_total_lem, part_windows_lem}

-- ---- what is claimed

-- the same window, and the event under its new number
abbrev pub renumber_numbered : {n : ℕ} → Order n → Numbered → Numbered
renumber_numbered o x = record { event = o.new x.event; window = x.window }

-- of two calls: what they return, and of two that are accepted what is read back from their outputs
pub record RenumberedPart {n : ℕ} (o : Order n) (a b : Outcome) : Type 0 where
  pub number : b.number ≡ a.number
  pub length : b.length ≡ a.length
  pub total : b.total ≡ a.total
  pub kept : a.number ≡ 0
      → (xs : List Numbered) × (ys : List Numbered)
      × (wholly read_part (take a.length a.out) ≡ got xs [])
      × (wholly read_part (take b.length b.out) ≡ got ys [])
      × ((x : Numbered) → (x ∈ xs) ↔ (renumber_numbered o x ∈ ys))

-- ---- the events of both parts

∈-firsts : {A : Type 0} (f : ℕ → A) (n i : ℕ) → i < n → f i ∈ firsts n f
unfolding firsts
∈-firsts f zero i l = absurd (omega arith)
∈-firsts f (suc n) i l = ⊎_elim
    (λ (m : i < n). Memᴰ.append_left (f n ∷ []) (∈-firsts f n i m))
    (λ (m : n ≤ i). Memᴰ.append_right (firsts n f) (Memᴰ.head (ap f (omega arith))))
    (below_or_not i n)

-- an event stands at a place from 1 on
place_event : (d : ℕ) (k : Ticket) (p : ℕ) → 1 ≤ p → 1 ≤ place d k p
place_event d k zero l = omega arith
place_event d k (suc i) l = omega arith

-- what stands at such a place
placed : (d : ℕ) (k : Ticket) (q : ℕ) → 1 ≤ q → q ≤ length (members d k) → record { event = point d k q; window = window_of (part_plan d k) q } ∈ numbered d k
placed d k zero one l = absurd (omega arith)
placed d k (suc j) one l = ∈-firsts (numbered_at d k) (length (members d k)) j l

part_in : (d : ℕ) {n : ℕ} (o : Order n) (k : Ticket) → events k ≡ n → T (consistent k) → (x : Numbered) → x ∈ numbered d k → renumber_numbered o x ∈ numbered d (renumber o k)
part_in d o k e t x m = All-∈ (λ y. renumber_numbered o y ∈ numbered d (renumber o k)) (numbered d k) (all_firsts _ (numbered_at d k) (length (members d k)) at) m
  where
    -- the i-th of the one part, by its place in the other
    at : (i : ℕ) → i < length (members d k) → renumber_numbered o (numbered_at d k i) ∈ numbered d (renumber o k)
    at i l =
        let p : ℕ = point d k (suc i) in
        let q : ℕ = place d (renumber o k) (o.new p) in
        let r = at_there d o k e (suc i) l in
        let one : 1 ≤ p = omega (arith, (member_owned d k i l).3) in
        let w : window_of (part_plan d (renumber o k)) q ≡ window_of (part_plan d k) (suc i) =
        part_windows_lem d o k e t p (point_of d k (suc i) l) ∙ ap (window_of (part_plan d k)) (place_point d k (suc i) l) in
        Memᴰ.cast (λ j. record { event = sym r.1 j; window = sym w j })
        (placed d (renumber o k) q (place_event d (renumber o k) (o.new p) (new_event o p one)) (omega (arith, r.0, members_same d o k e)))

part_iff : (d : ℕ) {n : ℕ} (o : Order n) (k : Ticket) → events k ≡ n → T (consistent k)
    → (x : Numbered) → (x ∈ numbered d k) ↔ (renumber_numbered o x ∈ numbered d (renumber o k))
part_iff d o k e t x = (
  part_in d o k e t x,
  λ m. Memᴰ.cast (λ j. record { event = sym (o.old_new x.event) j; window = x.window })
      (subst (λ l. renumber_numbered (inverse o) (renumber_numbered o x) ∈ numbered d l) (renumber_undo o k e)
      (part_in d (inverse o) (renumber o k) (events_renumber o k) (rw (consistent_in o k e) t) (renumber_numbered o x) m)),
)

-- ---- the call

refused_both : {n : ℕ} (o : Order n) (r : ℕ) → 1 ≤ r → (out : List ℕ) → RenumberedPart o (refusing r out) (refusing r out)
refused_both o r l out = record { number = refl; length = refl; total = refl; kept = λ z. absurd (omega (arith, z)) }

accepted_both : (d : ℕ) (k : Ticket) (o : Order (events k)) → Valid k → T (consistent k) → (out : List ℕ)
    → RenumberedPart o (accepting d k out) (accepting d (renumber o k) out)
unfolding over
accepted_both d k o v t out = record {
  number = refl;
  length = omega (arith, length_part d k, length_part d (renumber o k), members_same d o k refl);
  total = part_total_lem d o k refl t;
  kept = λ z. (
    numbered d k,
    numbered d (renumber o k),
    ap (wholly read_part) (take-append_seam (write_part d k) _) ∙ part_read d k v t,
    ap (wholly read_part) (take-append_seam (write_part d (renumber o k)) _) ∙ part_read d (renumber o k) (valid_in o k refl v) (rw (consistent_in o k refl) t),
    part_iff d o k refl t,
  );
}

pub renumbered_part : (ticket : List ℕ) → Bytes ticket → (k : Ticket) → HoldsTicket ticket k → (o : Order (events k)) (ticket' : List ℕ)
    → HoldsTicket ticket' (renumber o k) → (device : ℕ) (out : List ℕ) → RenumberedPart o (parting ticket device out) (parting ticket' device out)
renumbered_part ticket bytes k h o ticket' h' device out = ⊎_elim
    (λ (l : length out < 362). rw (parting_short ticket device out l, parting_short ticket' device out l) (refused_both o 10 (omega arith) out))
    (λ (l : 362 ≤ length out). ⊎_elim
    (λ (m : 4 < device). rw (parting_unknown ticket device out l m, parting_unknown ticket' device out l m) (refused_both o 4 (omega arith) out))
    (λ (m : device ≤ 4). rw (parting_read ticket device out l m, parting_read ticket' device out l m, h, h') (by (consistent k) refl))
    (below_or_not 4 device))
    (below_or_not (length out) 362)
  where
    by : (b : Bool) → consistent k ≡ b → RenumberedPart o (parted device k out) (parted device (renumber o k) out)
    by true q = rw (parted_some device k out q, parted_some device (renumber o k) out (consistent_in o k refl ∙ q))
        (accepted_both device k o (written_read ticket k [] bytes h).1 (subst T (sym q) tt) out)
    by false q = rw (parted_none device k out q, parted_none device (renumber o k) out (consistent_in o k refl ∙ q)) (refused_both o 9 (omega arith) out)
