-- What an accepted part of a reading tells: what was read, what is left, and that it was there. Assumes nothing.
use Rattle.std.specs.Prelude.{ℕ, ◌+◌, ◌*◌, ◌≤◌, ◌≡◌, List, leb, length, drop, Ok}
use Rattle.std.proofs.Common.{sym, ap, ◌∙◌, mul-one, arith, leb-true, length-drop, drop-drop}
use Rattle.temporal.specs.Ticket as temporal
use Rattle.ticket.specs.Parser.{got, Parser, expect, little, many, horizon, events, rules}
use Rattle.ticket.specs.Format as format
use Rattle.ticket.specs.Format.{read_owner, read_rule, read_front, read_rules}
use Rattle.ticket.specs.Refusal.{answer}
use Rattle.ticket.specs.Stored.{pad}
use Rattle.ticket.specs.Width.{Fixed}
use Rattle.ticket.specs.declared.ReadTicket.{ReadTicket}
use Rattle.ticket.proofs.Refusals.{was_ok}
use Rattle.ticket.proofs.Width.{stage, expect_fixed, little_fixed, bind_fixed, give_fixed, many_fixed, many_length}
use Rattle.ticket.proofs.Stages.{whole}
use Rattle.ticket.proofs.Fields.{expect_true, owner_fixed, rule_fixed}
use Rattle.reading.specs.Parts.{owners_at, rules_of, all_rules_at, front_of, front_at, read_of, ticket_at}
use Rattle.reading.specs.declared.Front.{Front}
use Rattle.reading.specs.declared.Rules.{Rules}

-- A reading of k bytes at the place `at` leaves what is k places on.
pub left_at : {A : Type 0} (k : ℕ) (p : Parser A) → Fixed k p → (s : List ℕ) (at : ℕ) (x : A) (t : List ℕ) → at ≤ length s → p (drop at s) ≡ got x t
    → (p (drop at s) ≡ got x (drop (at + k) s)) × (at + k ≤ length s)
left_at k p f s at x t h e =
    let (rest, room) = f (drop at s) x t e in
    (e ∙ ap (got x) (rest ∙ drop-drop k at s), omega (arith, room, length-drop at s))

front_fixed : Fixed 6 read_front
unfolding read_front
front_fixed =
    bind_fixed 4 2 (little 4) _ (little_fixed 4) (λ h.
    bind_fixed 0 2 (expect (leb h 1000000) horizon) _ (expect_fixed (leb h 1000000) horizon) (λ u.
    bind_fixed 2 0 (little 2) _ (little_fixed 2) (λ n.
    bind_fixed 0 0 (expect (leb n 40) events) _ (expect_fixed (leb n 40) events) (λ v. give_fixed (record { horizon = h; events = n })))))

front_few : (s : List ℕ) (f : format.Front) (t : List ℕ) → read_front s ≡ got f t → f.events ≤ 40
unfolding read_front
front_few s f t e =
    stage (little 4) _ s f t e (λ h s₁ eh e₁.
    stage (expect (leb h 1000000) horizon) _ s₁ f t e₁ (λ u s₂ bh e₂.
    stage (little 2) _ s₂ f t e₂ (λ n s₃ en e₃.
    stage (expect (leb n 40) events) _ s₃ f t e₃ (λ v s₄ bn e₄.
    let same : f ≡ record { horizon = h; events = n } = cc in
    rw same (leb-true n 40 (expect_true (leb n 40) events s₃ s₄ v bn))))))

rules_room : (n : ℕ) (s : List ℕ) (rs : List temporal.Rule) (t : List ℕ) → read_rules n s ≡ got rs t → 2 + 6 * length rs ≤ length s
unfolding read_rules
rules_room n s rs t e =
    stage (little 2) _ s rs t e (λ m s₁ em e₁.
    stage (expect (leb m 256) rules) _ s₁ rs t e₁ (λ u s₂ bm e₂.
    let f = little_fixed 2 s m s₁ em in
    let g = expect_fixed (leb m 256) rules s₁ u s₂ bm in
    let k = many_fixed 6 (read_rule n) (rule_fixed n) m s₂ rs t e₂ in
    omega (arith, many_length (read_rule n) m s₂ rs t e₂, f.1, k.1, ap length f.0, length-drop 2 s, ap length g.0)))

-- The owners from a place on.
pub owners_got : (s : List ℕ) (at n : ℕ) (owners : List ℕ) → at ≤ length s → Ok owners ≡ owners_at s at n
    → (os : List ℕ) × (many read_owner n (drop at s) ≡ got os (drop (at + n) s)) × (owners ≡ pad 0 40 os) × (length os ≡ n) × (at + n ≤ length s)
owners_got s at n owners h e =
    let p = many read_owner n in
    let (os, t, q, same) = was_ok (pad 0 40) (p (drop at s)) e in
    let (g, room) = left_at (n * 1) p (many_fixed 1 read_owner owner_fixed n) s at os t h q in
    let one : at + n * 1 ≡ at + n = ap (λ k. at + k) (mul-one n) in
    (os, g ∙ ap (λ k. got os (drop k s)) one, same, many_length read_owner n (drop at s) os t q, omega (arith, one))

-- The rules with their number, from a place on.
pub rules_got : (s : List ℕ) (at n : ℕ) (x : Rules) → at ≤ length s → Ok x ≡ all_rules_at s at n
    → (rs : List temporal.Rule) × (t : List ℕ) × (read_rules n (drop at s) ≡ got rs t) × (x ≡ rules_of rs) × (at + 2 + 6 * x.count ≤ length s)
rules_got s at n x h e =
    let (rs, t, q, same) = was_ok rules_of (read_rules n (drop at s)) e in
    (rs, t, q, same, rw same (omega (arith, rules_room n (drop at s) rs t q, length-drop at s)))

-- An accepted ticket is put together from its parts.
assembled : (at h n : ℕ) (owners : List ℕ) (x : Rules) (os : List ℕ) (rs : List temporal.Rule) → n ≡ length os → owners ≡ pad 0 40 os → x ≡ rules_of rs
    → ◌≡◌ {A = ReadTicket}
    (record {
      ticket = record { horizon = h; events = n; owners = owners; rules = x.count; from = x.from; to = x.to; bound = x.bound };
      next = at + 8 + n + 6 * x.count;
    })
    (read_of at (record { horizon = h; owners = os; rules = rs }))
assembled at h n owners x os rs en eo ex =
    let next : at + 8 + length os + 6 * length rs ≡ at + (8 + length os + 6 * length rs) = omega arith in
    rw (en, eo, ex, next)

-- The parts of the ticket that starts at the place `at`: its first two numbers,
module _ (s : List ℕ) (at : ℕ) (f : Front) (ef : Ok f ≡ front_at s at) where
  pub front_got : (read_front (drop at s) ≡ got (record { horizon = f.horizon; events = f.events }) (drop (at + 6) s)) × (at + 6 ≤ length s) × (f.events ≤ 40)
  front_got =
      let (x, t, q, same) = was_ok front_of (read_front (drop at s)) ef in
      let six = (front_fixed (drop at s) x t q).1 in
      let (g, room) = left_at 6 read_front front_fixed s at x t (omega (arith, six, length-drop at s)) q in
      rw same (g, room, front_few (drop at s) x t q)

  -- its owners,
  module _ (owners : List ℕ) (eo : Ok owners ≡ owners_at s (at + 6) f.events) where
    pub owners_read : (os : List ℕ)
        × (many read_owner f.events (drop (at + 6) s) ≡ got os (drop (at + 6 + f.events) s))
        × (owners ≡ pad 0 40 os)
        × (length os ≡ f.events)
        × (at + 6 + f.events ≤ length s)
    owners_read = owners_got s (at + 6) f.events owners front_got.1 eo

    -- and its rules.
    module _ (x : Rules) (er : Ok x ≡ all_rules_at s (at + 6 + f.events) f.events) where
      pub rules_read : (rs : List temporal.Rule)
          × (t : List ℕ)
          × (read_rules f.events (drop (at + 6 + f.events) s) ≡ got rs t)
          × (x ≡ rules_of rs)
          × (at + 6 + f.events + 2 + 6 * x.count ≤ length s)
      rules_read = rules_got s (at + 6 + f.events) f.events x owners_read.4 er

      pub ticket_got :
          Ok (record {
            ticket = record { horizon = f.horizon; events = f.events; owners = owners; rules = x.count; from = x.from; to = x.to; bound = x.bound };
            next = at + 8 + f.events + 6 * x.count;
          }) ≡ ticket_at s at
      ticket_got =
          let o = owners_read in
          let r = rules_read in
          ap Ok (assembled at f.horizon f.events owners x o.0 r.0 (sym o.3) o.2 r.3)
          ∙ ap (answer (read_of at)) (sym (whole (drop at s) _ _ front_got.0 o.0 _ o.1 r.0 r.1 r.2))
