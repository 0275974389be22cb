-- The laws of what specs/Scratch defines.
use Rattle.std.specs.Prelude.{◌≡◌, refl, Bool, true, false, cond, ◌&&◌, List, ◌↔◌, ◌≢◌, ℕ, ◌≤◌, ◌<◌, T, leb, length, take, drop, replicate}
use Rattle.std.proofs.Common.{ap, ◌∙◌, inl, inr, ⊎_elim, arith, le-leb, take_at, drop_at}
use Rattle.std.proofs.lemmas.List.{length-replicate}
use Rattle.temporal.proofs.Lists.{below_or_not}
use Rattle.temporal.specs.Plan.{State, Answer, plan, plan_latest}
use Rattle.temporal.specs.Run as states
use Rattle.ticket.specs.Parser.{Out, wholly}
use Rattle.ticket.specs.Format.{read_ticket, read_state}
use Rattle.ticket.specs.RoundTrip.{Bytes}
use Rattle.ticket.proofs.Malformed.{malformed_number, malformed_record}
use Rattle.runs.specs.Calls.{Outcome, room, zeroed, cleared, without_room, answered, after_reading, planning, planning_latest, committing}
use Rattle.runs.proofs.Calls.{enough_room, no_room_out, no_room_scratch, planning_short, planning_read}
use Rattle.runs.proofs.Calls.{planning_latest_short, planning_latest_read, committing_short, committing_read}
use Rattle.runs.specs.Calls.{commit_for, commit_read}
use Rattle.runs.proofs.Calls.{commit_read_unknown, commit_read_known}
use Rattle.runs.specs.Run.{Call, asks, outcome, Unplanned, short, unread, impossible}
use Rattle.runs.specs.Refusals.{CommitRefused, lent_short, unknown_caller, unreadable, decided}
use Rattle.runs.proofs.Refusals.{by_room, has_room, no_room, plan_refusal, commit_refusal}
use Rattle.runs.proofs.Latest.{latest_refusal}
use Rattle.runs.specs.Scratch.{Alike, Leaves, Short}

-- ---- 10

module _ (out scratch : List ℕ) where
  short_no_room : Short out scratch → ¬ T (room out scratch)
  short_no_room (inl l) = no_room out scratch (no_room_out out scratch l)
  short_no_room (inr l) = no_room out scratch (⊎_elim
      (λ (k : length out < 1958). no_room_out out scratch k)
      (λ (k : 1958 ≤ length out). no_room_scratch out scratch k l)
      (below_or_not (length out) 1958))

  no_room_short : ¬ T (room out scratch) → Short out scratch
  no_room_short n = ⊎_elim
      (λ (l : length out < 1958). inl l)
      (λ (k : 1958 ≤ length out). ⊎_elim
      (λ (l : length scratch < 2400). inr l)
      (λ (l : 2400 ≤ length scratch). absurd (n (has_room out scratch (enough_room out scratch k l))))
      (below_or_not (length scratch) 2400))
      (below_or_not (length out) 1958)

  module _ (ticket : List ℕ) where
    unplanned_ten : Unplanned ticket out scratch 10 ↔ Short out scratch
    unplanned_ten = (by, λ q. short refl (short_no_room q))
      where
        by : Unplanned ticket out scratch 10 → Short out scratch
        by (short e n) = no_room_short n
        by (unread c e t q) = absurd (omega (arith, e, malformed_number ticket c q))
        by (impossible k e t q none) = absurd (omega (arith, e))

    -- "scratch brings a 10 only below it, a short output as before"
    pub plan_ten : ((planning ticket out scratch).number ≡ 10) ↔ Short out scratch
    plan_ten = (
      λ e. unplanned_ten.0 ((plan_refusal ticket out scratch 10).1 (e, λ z. omega (arith, z))),
      λ q. ((plan_refusal ticket out scratch 10).0 (unplanned_ten.1 q)).0,
    )

    pub latest_ten : ((planning_latest ticket out scratch).number ≡ 10) ↔ Short out scratch
    latest_ten = (
      λ e. unplanned_ten.0 ((latest_refusal ticket out scratch 10).1 (e, λ z. omega (arith, z))),
      λ q. ((latest_refusal ticket out scratch 10).0 (unplanned_ten.1 q)).0,
    )

pub commit_ten : (current : List ℕ) → Bytes current → (c : Call) → ((outcome current c).number ≡ 10) ↔ Short c.out c.scratch
commit_ten current bytes c = (
  λ e. by ((commit_refusal current bytes c 10).1 (e, λ z. omega (arith, z))),
  λ q. ((commit_refusal current bytes c 10).0 (lent_short refl (short_no_room c.out c.scratch q))).0,
)
  where
    by_cause : (s : State) → states.FirstCause s (asks c) 10 → Short c.out c.scratch
    by_cause s (states.short e n) = no_room_short c.out c.scratch n
    by_cause s (states.unknown e t l) = absurd (omega (arith, e))
    by_cause s (states.unfit e t l n) = absurd (omega (arith, e))
    by_cause s (states.not_own e t l f n) = absurd (omega (arith, e))
    by_cause s (states.outside e t l f v n) = absurd (omega (arith, e))
    by_cause s (states.full e t l f v i k) = absurd (omega (arith, e))

    by : CommitRefused current c 10 → Short c.out c.scratch
    by (lent_short e n) = no_room_short c.out c.scratch n
    by (unknown_caller e t l) = absurd (omega (arith, e))
    by (unreadable k e t d q) = ⊎_elim (λ l. absurd (omega (arith, e, l))) (λ z. absurd (omega (arith, e, z))) (malformed_record current k q)
    by (decided s t d h f) = by_cause s f

-- ---- what is returned and written

answered_alike : (out s z : List ℕ) (a : Answer) → Alike (answered out s a) (answered out z a)
answered_alike out s z (Answer.refused r) = record { number = refl; length = refl; total = refl; out = refl }
answered_alike out s z (Answer.accepted x) = record { number = refl; length = refl; total = refl; out = refl }

pub read_alike : {A : Type 0} (out s z : List ℕ) (decide : A → Answer) (o : Out A) → Alike (after_reading out s decide o) (after_reading out z decide o)
read_alike out s z decide (Out.got x rest) = answered_alike out s z (decide x)
read_alike out s z decide (Out.refused k) = record { number = refl; length = refl; total = refl; out = refl }

-- by the caller of a commitment
module _ (current : List ℕ) (caller event opens closes : ℕ) where
  pub commit_read_alike : (out s z : List ℕ) → Alike (commit_read current caller event opens closes out s) (commit_read current caller event opens closes out z)
  commit_read_alike out s z = ⊎_elim
      (λ (l : 4 < caller).
      rw (commit_read_unknown current caller event opens closes out s l, commit_read_unknown current caller event opens closes out z l)
      (record { number = refl; length = refl; total = refl; out = refl }))
      (λ (l : caller ≤ 4).
      rw (commit_read_known current caller event opens closes out s l, commit_read_known current caller event opens closes out z l)
      (read_alike out s z (commit_for caller event opens closes) (wholly read_state current)))
      (below_or_not 4 caller)

room_is : (out scratch : List ℕ) → 2400 ≤ length scratch → room out scratch ≡ leb 1958 (length out)
unfolding room
room_is out scratch l = rw (le-leb 2400 (length scratch) l) (by (leb 1958 (length out)))
  where
    by : (b : Bool) → (b && true) ≡ b
    by true = refl
    by false = refl

module _ (out s z : List ℕ) (l : 2400 ≤ length s) (m : 2400 ≤ length z) where
  call_alike : (o p : Outcome) → Alike o p → Alike (cond (room out s) o (without_room out s)) (cond (room out z) p (without_room out z))
  call_alike o p h = rw (room_is out s l, room_is out z m) (by (leb 1958 (length out)))
    where
      by : (b : Bool) → Alike (cond b o (without_room out s)) (cond b p (without_room out z))
      by true = h
      by false = record { number = refl; length = refl; total = refl; out = refl }

  pub plan_alike : (ticket : List ℕ) → Alike (planning ticket out s) (planning ticket out z)
  unfolding planning
  plan_alike ticket = call_alike _ _ (read_alike out s z plan (wholly read_ticket ticket))

  pub latest_alike : (ticket : List ℕ) → Alike (planning_latest ticket out s) (planning_latest ticket out z)
  unfolding planning_latest
  latest_alike ticket = call_alike _ _ (read_alike out s z plan_latest (wholly read_ticket ticket))

  pub commit_alike : (current : List ℕ) (caller event opens closes : ℕ)
      → Alike (committing current caller event opens closes out s) (committing current caller event opens closes out z)
  unfolding committing
  commit_alike current caller event opens closes = call_alike _ _ (commit_read_alike current caller event opens closes out s z)

-- ---- what is left in the scratch

zeroed_take : (n : ℕ) (xs : List ℕ) → take n (zeroed n xs) ≡ replicate n 0
unfolding zeroed
zeroed_take n xs = take_at (replicate n 0) (drop n xs) n (length-replicate n 0)

zeroed_drop : (n : ℕ) (xs : List ℕ) → drop n (zeroed n xs) ≡ drop n xs
unfolding zeroed
zeroed_drop n xs = drop_at (replicate n 0) (drop n xs) n (length-replicate n 0)

answered_clears : (out scratch : List ℕ) (a : Answer) → (answered out scratch a).scratch ≡ cleared scratch
answered_clears out scratch (Answer.refused r) = refl
answered_clears out scratch (Answer.accepted s) = refl

pub read_clears : {A : Type 0} (out scratch : List ℕ) (decide : A → Answer) (o : Out A) → (after_reading out scratch decide o).scratch ≡ cleared scratch
read_clears out scratch decide (Out.got x rest) = answered_clears out scratch (decide x)
read_clears out scratch decide (Out.refused k) = refl

pub commit_read_clears : (current : List ℕ) (caller event opens closes : ℕ) (out scratch : List ℕ)
    → (commit_read current caller event opens closes out scratch).scratch ≡ cleared scratch
commit_read_clears current caller event opens closes out scratch = ⊎_elim
    (λ (l : 4 < caller). ap (λ (o : Outcome). o.scratch) (commit_read_unknown current caller event opens closes out scratch l))
    (λ (l : caller ≤ 4).
    ap (λ (o : Outcome). o.scratch) (commit_read_known current caller event opens closes out scratch l)
    ∙ read_clears out scratch (commit_for caller event opens closes) (wholly read_state current))
    (below_or_not 4 caller)

leaves_short : (out scratch : List ℕ) {o : Outcome} → o ≡ without_room out scratch → Leaves scratch o
leaves_short out scratch e = rw e (record { clears = λ n. absurd (n refl); rest = refl; untouched = λ z. refl })

leaves_read : (scratch : List ℕ) {o read : Outcome} → o ≡ read → read.scratch ≡ cleared scratch → o.number ≢ 10 → Leaves scratch o
leaves_read scratch {o} e clears n =
    let c : o.scratch ≡ cleared scratch = ap (λ (x : Outcome). x.scratch) e ∙ clears in
    record {
      clears = λ m. rw c (zeroed_take 2400 scratch);
      rest = rw c (zeroed_drop 2400 scratch);
      untouched = λ z. absurd (n z);
    }

module _ (out scratch : List ℕ) where
  not_ten : {x : ℕ} → room out scratch ≡ true → (x ≡ 10) ↔ Short out scratch → x ≢ 10
  not_ten e i z = short_no_room out scratch (i.0 z) (has_room out scratch e)

  pub plan_leaves : (ticket : List ℕ) → Leaves scratch (planning ticket out scratch)
  plan_leaves ticket = by_room out scratch
      (λ e. leaves_read scratch (planning_read ticket out scratch e) (read_clears out scratch plan (wholly read_ticket ticket)) (not_ten e (plan_ten out scratch ticket)))
      (λ e. leaves_short out scratch (planning_short ticket out scratch e))

  pub latest_leaves : (ticket : List ℕ) → Leaves scratch (planning_latest ticket out scratch)
  latest_leaves ticket = by_room out scratch
      (λ e. leaves_read scratch (planning_latest_read ticket out scratch e) (read_clears out scratch plan_latest (wholly read_ticket ticket))
      (not_ten e (latest_ten out scratch ticket)))
      (λ e. leaves_short out scratch (planning_latest_short ticket out scratch e))

pub commit_leaves : (current : List ℕ) → Bytes current → (c : Call) → Leaves c.scratch (outcome current c)
commit_leaves current bytes c = by_room c.out c.scratch
    (λ e. leaves_read c.scratch
    (committing_read current c.caller c.event c.opens c.closes c.out c.scratch e)
    (commit_read_clears current c.caller c.event c.opens c.closes c.out c.scratch)
    (not_ten c.out c.scratch e (commit_ten current bytes c)))
    (λ e. leaves_short c.out c.scratch (committing_short current c.caller c.event c.opens c.closes c.out c.scratch e))
