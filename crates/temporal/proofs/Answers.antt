-- An answer from its certificate: windows that are allowed, widest and earliest are the ones that planning or a commitment answers, so that
-- nothing has to be enumerated to know an answer.
use Rattle.std.specs.Prelude.{◌≡◌, refl, Bool, true, false, cond, List, [], ◌∷◌, ℕ, zero, suc, T, eqb, length, replicate}
use Rattle.std.proofs.Common.{sym, arith, eqb→eq}
use Rattle.std.proofs.Math.Dec.{not_T}
use Rattle.temporal.specs.Lists.{All}
use Rattle.temporal.proofs.Lists.{T-true, T-false}
use Rattle.temporal.specs.Ticket.{Rule, Ticket, events, Schedule, is_schedule, Window, fits, total_of, total}
use Rattle.temporal.specs.Ends.{Ends}
use Rattle.temporal.proofs.Ends.{fits_ends, ends_fits, test_schedule}
use Rattle.temporal.specs.Best.{best, best_latest, Sooner, Chosen, ChosenLatest}
use Rattle.temporal.proofs.Best.{chosen_best, chosen_under}
use Rattle.temporal.proofs.Latest.{chosen_best_latest, chosen_latest_under}
use Rattle.temporal.specs.Distance.{consistent}
use Rattle.temporal.proofs.Distance.{consistent_has}
use Rattle.temporal.specs.Plan.{State, owner_of, raise, Commitment, refused, accepted, number, put, grows, plan, plan_latest, window, cause, committed, commit}
use Rattle.temporal.specs.Run.{ValidRule, Valid}
use Rattle.temporal.proofs.FitSets.{fits_closed, test_grows, grows_test, grows_closed, narrowed, itself_grows}
use Rattle.temporal.specs.FitSets.{Grows}
use Rattle.temporal.proofs.Causes.{by_cause}

pub plan_is : (k : Ticket) (ts : List ℕ) (ws : List Window) → T (is_schedule k ts) → Chosen k (Ends k) ws
    → plan k ≡ accepted (record { ticket = k; windows = ws; flags = replicate (events k) false; counts = replicate 5 0 })
unfolding plan
plan_is k ts ws t c =
    let e : ws ≡ best k (fits k) =
    chosen_best k (fits k) (fits_closed k) ws (chosen_under k (Ends k) (λ vs. T (fits k vs)) (λ vs x. ends_fits k vs x) (λ vs x. fits_ends k vs x) ws c) in
    rw (T-true (consistent k) ((consistent_has k).1 (ts, test_schedule k ts t)), e)

pub plan_latest_is : (k : Ticket) (ts : List ℕ) (ws : List Window) → T (is_schedule k ts) → ChosenLatest k (Ends k) ws
    → plan_latest k ≡ accepted (record { ticket = k; windows = ws; flags = replicate (events k) false; counts = replicate 5 0 })
unfolding plan_latest
plan_latest_is k ts ws t c =
    let e : ws ≡ best_latest k (fits k) =
    chosen_best_latest k (fits k) (fits_closed k) ws (chosen_latest_under k (Ends k) (λ vs. T (fits k vs)) (λ vs x. ends_fits k vs x) (λ vs x. fits_ends k vs x) ws c) in
    rw (T-true (consistent k) ((consistent_has k).1 (ts, test_schedule k ts t)), e)

sooner_none : (vs : List Window) → Sooner [] vs
sooner_none vs zero = (omega arith, omega arith)
sooner_none vs (suc p) = (omega arith, omega arith)

-- with no event there is no rule
plan_none : (h : ℕ) (owners : List ℕ) (rules : List Rule) → length owners ≡ 0 → All (ValidRule (length owners)) rules
    → (plan (record { horizon = h; owners = owners; rules = rules })
    ≡ accepted (record { ticket = record { horizon = h; owners = owners; rules = rules }; windows = []; flags = []; counts = replicate 5 0 }))
    × (total_of owners [] ≡ 0)
unfolding is_schedule fits
plan_none h [] [] e v =
    let k : Ticket = record { horizon = h; owners = []; rules = [] } in (
      plan_is k [] [] tt (record { allowed = fits_ends k [] tt; widest = λ vs x. omega arith; earliest = λ vs x t. sooner_none vs }),
      refl,
    )
plan_none h [] (r ∷ rs) e v = absurd (omega (arith, v.0.from_point, v.0.to_point, v.0.differ))
plan_none h (o ∷ os) rs e v = absurd (omega arith)

-- "With no events it is empty, total 0" (01), whatever the horizon
pub plan_empty : (k : Ticket) → Valid k → events k ≡ 0
    → (plan k ≡ accepted (record { ticket = k; windows = []; flags = []; counts = replicate 5 0 })) × (total k [] ≡ 0)
plan_empty k valid e = plan_none k.horizon k.owners k.rules e valid.rules_valid

pub plan_refused : (k : Ticket) → ((ts : List ℕ) → ¬ Schedule k ts) → plan k ≡ refused 9
unfolding plan
plan_refused k n = rw (T-false (consistent k) (not_T (consistent k) (λ t. n ((consistent_has k).0 t).0 ((consistent_has k).0 t).1))) refl

pub plan_latest_refused : (k : Ticket) → ((ts : List ℕ) → ¬ Schedule k ts) → plan_latest k ≡ refused 9
unfolding plan_latest
plan_latest_refused k n = rw (T-false (consistent k) (not_T (consistent k) (λ t. n ((consistent_has k).0 t).0 ((consistent_has k).0 t).1))) refl

pub commit_is : (s : State) (c : Commitment) (ws : List Window) → cause s c ≡ 0
    → Chosen s.ticket (Grows s.ticket (put s.flags c.event true) (put s.windows c.event (window c))) ws
    → commit s c ≡ accepted (record {
      ticket = s.ticket;
      windows = ws;
      flags = put s.flags c.event true;
      counts = raise s.counts (owner_of s.ticket c.event);
    })
unfolding commit
commit_is s c ws z ch =
    let k : Ticket = s.ticket in
    let fs : List Bool = put s.flags c.event true in
    let old : List Window = put s.windows c.event (window c) in
    let e : ws ≡ best k (grows k fs old) =
    chosen_best k (grows k fs old) (grows_closed k fs old) ws
    (chosen_under k (Grows k fs old) (λ vs. T (grows k fs old vs)) (λ vs x. grows_test k fs old vs x) (λ vs x. test_grows k fs old vs x) ws ch) in
    rw (z, e)

-- where no cause applies some set is allowed: the windows as they were, but the one named
pub commit_allows : (s : State) (c : Commitment) → T (eqb (cause s c) 0)
    → T (grows s.ticket (put s.flags c.event true) (put s.windows c.event (window c)) (put s.windows c.event (window c)))
commit_allows s c = by_cause s c (λ r. T (eqb r 0) → T (grows s.ticket fs old old))
    (λ n z. absurd z)
    (λ r l z. absurd z)
    (λ r l n z. absurd z)
    (λ r l f n z. absurd z)
    (λ r l f e n z. absurd z)
    (λ r l f e i q z. absurd z)
    (λ r l f e i n z. itself_grows s.ticket fs old
    (narrowed s.ticket s.windows (fits_ends s.ticket s.windows f) c.event (window c) e.0.0 e.0.1 i.1 i.0 i.2))
  where
    fs : List Bool
    fs = put s.flags c.event true

    old : List Window
    old = put s.windows c.event (window c)

number_by : (b : Bool) (n : ℕ) (s : State) → (T b → n ≡ 0) → number (cond b (accepted s) (refused n)) ≡ n
number_by true n s h = sym (h tt)
number_by false n s h = refl

pub commit_number : (s : State) (c : Commitment) → number (commit s c) ≡ cause s c
unfolding commit
commit_number s c = number_by (eqb (cause s c) 0) (cause s c) (committed s c) (λ t. eqb→eq (cause s c) 0 t)
