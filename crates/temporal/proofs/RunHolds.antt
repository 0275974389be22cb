-- The claim of a run holds, by induction over the list of commitments.
use Rattle.std.specs.Prelude.{◌≡◌, Bool, not, cond, ◌⊎◌, ◌≢◌, ℕ, zero, suc, ◌+◌, ◌≤◌, ◌<◌, eqb, length, get_or, set}
use Rattle.std.proofs.Math.Path.{refl, sym, ap, subst}
use Rattle.std.proofs.Common.{◌∙◌, inl, inr, arith, T_not, eqb→eq, get_or-set_same, get_or-set_other}
use Rattle.std.proofs.Math.Bool.{true, false}
use mathlib.Core.List.{List, [], ◌∷◌}
use Rattle.std.proofs.Math.Decide.{ℕ_discrete}
use Rattle.std.proofs.Math.Dec.{T, not_T, eqb_refl}
use Rattle.std.proofs.Math.ListN.{replicate, length-set}
use Rattle.std.proofs.lemmas.List.{length-replicate}
use Rattle.temporal.specs.Lists.{All}
use Rattle.temporal.proofs.Lists.{All-map, All-below, T-true, T-false, one_most}
use Rattle.temporal.specs.Ticket.{Ticket, events, Distinct, Schedule, Window, origin, window_of, Fit, fits}
use Rattle.temporal.proofs.Ends.{fits_fit, fit_fits, ends_fit, fit_ends, fit_schedule}
use Rattle.temporal.specs.Best.{Chosen}
use Rattle.temporal.proofs.Best.{best_chosen, chosen_unique, chosen_under}
use Rattle.temporal.specs.Distance.{consistent}
use Rattle.temporal.proofs.Distance.{consistent_has}
use Rattle.temporal.specs.Plan.{State, owner_of, count_of, raise, Commitment, Answer, refused, accepted, flagged, put, grows, planned, plan, window, cause, committed, commit}
use Rattle.temporal.proofs.FitSets.{fits_closed, consistent_fits, test_grows, grows_test, grows_closed, put_same, put_other, length_put, narrowed, itself_grows}
use Rattle.temporal.specs.FitSets.{KeepsAt, Grows}
use Rattle.temporal.proofs.Causes.{cause_first, fit_cause, acceptable, acceptable_accepted}
use Rattle.temporal.proofs.Answers.{commit_number}
use Rattle.temporal.specs.Run.{Valid, device_flags, Readable, is_committed, said_window, Event, Acceptable, FirstCause, Place, Allowed, Answered}
use Rattle.temporal.specs.Run.{Claim, after, numbers, NeverUnfit, Start, planning, reading, Run}

-- a ticket that reading does not refuse has no rule from a point to itself
pub distinct : (k : Ticket) → Valid k → Distinct k
distinct k v = All-map (λ r h. h.differ) k.rules v.rules_valid

-- ---- the owner of an event, and the set flags of a device

pub owner_known : (k : Ticket) → Valid k → (p : ℕ) → Event k p → owner_of k p < 5
owner_known k v zero e = absurd (none e.0)
  where
    none : 1 ≤ 0 → ⊥
    none g = omega arith
owner_known k v (suc i) e = omega (arith, All-below (λ o. o ≤ 4) 5 k.owners v.owners_known i e.1)

-- one more flag of the event's owner, or the same ones
set_most : (o : ℕ) (owners : List ℕ) (fs : List Bool) (i : ℕ) → device_flags o owners (set fs i true) ≤ cond (eqb (get_or owners i 5) o) 1 0 + device_flags o owners fs
set_most o [] fs i = omega arith
set_most o (owner ∷ owners) [] i = omega arith
set_most o (owner ∷ owners) (f ∷ fs) zero = omega arith
set_most o (owner ∷ owners) (f ∷ fs) (suc i) = omega (arith, set_most o owners fs i)

put_most : (o : ℕ) (k : Ticket) (fs : List Bool) (p : ℕ) → device_flags o k.owners (put fs p true) ≤ cond (eqb (owner_of k p) o) 1 0 + device_flags o k.owners fs
put_most o k fs zero = omega arith
put_most o k fs (suc i) = set_most o k.owners fs i

pub none_set : (o : ℕ) (owners : List ℕ) (n : ℕ) → device_flags o owners (replicate n false) ≡ 0
none_set o [] n = refl
none_set o (owner ∷ owners) zero = refl
none_set o (owner ∷ owners) (suc n) = omega (arith, none_set o owners n)

pub none_counted : (n o : ℕ) → ◌≡◌ {A = ℕ} (get_or (replicate n 0) o 0) 0
none_counted zero o = refl
none_counted (suc n) zero = refl
none_counted (suc n) (suc o) = none_counted n o

pub none_flagged : (n p : ℕ) → flagged (replicate n false) p ≡ false
none_flagged n zero = refl
none_flagged zero (suc i) = refl
none_flagged (suc n) (suc i) = none_flagged n i

eqb_no : (m n : ℕ) → m ≢ n → eqb m n ≡ false
eqb_no m n h = T-false (eqb m n) (not_T (eqb m n) (λ t. h (eqb→eq m n t)))

eqb_yes : (n : ℕ) → eqb n n ≡ true
eqb_yes n = T-true (eqb n n) (eqb_refl n)

-- the count of one device is one higher
raise_at : (ns : List ℕ) (a o : ℕ) → a < length ns → get_or (raise ns a) o 0 ≡ cond (eqb a o) 1 0 + get_or ns o 0
raise_at ns a o l = go (ℕ_discrete a o)
  where
    go : Dec (a ≡ o) → get_or (raise ns a) o 0 ≡ cond (eqb a o) 1 0 + get_or ns o 0
    go (yes q) = subst (λ x. get_or (raise ns a) x 0 ≡ cond (eqb a x) 1 0 + get_or ns x 0) q (rw (eqb_yes a) (get_or-set_same ns a (suc (get_or ns a 0)) 0 l ∙ omega arith))
    go (no n) = rw (eqb_no a o n) (get_or-set_other ns a o (suc (get_or ns a 0)) 0 (λ e. n (sym e)) ∙ omega arith)

-- ---- one accepted commitment

module _ (start : State) (done : List Commitment) (now : State) (place : Place start done now) (c : Commitment) (a : Acceptable now c) where
  k : Ticket
  k = now.ticket

  fs : List Bool
  fs = put now.flags c.event true

  old : List Window
  old = put now.windows c.event (window c)

  -- the flag of a point, whether it is the event named now or another
  committed_same : is_committed start (c ∷ done) c.event ≡ true
  committed_same = rw (eqb_yes c.event) refl

  committed_other : (p : ℕ) → c.event ≢ p → is_committed start (c ∷ done) p ≡ is_committed start done p
  committed_other p n = rw (eqb_no c.event p n) refl

  said_same : said_window start (c ∷ done) c.event ≡ window c
  said_same = rw (eqb_yes c.event) refl

  said_other : (p : ℕ) → c.event ≢ p → said_window start (c ∷ done) p ≡ said_window start done p
  said_other p n = rw (eqb_no c.event p n) refl

  flag_same : flagged fs c.event ≡ true
  unfolding fs
  flag_same = put_same false now.flags c.event true a.event.0 (rw place.readable.flags_count a.event.1)

  old_same : window_of old c.event ≡ window c
  unfolding old
  old_same = put_same origin now.windows c.event (window c) a.event.0 (rw place.readable.windows_count a.event.1)

  old_other : (p : ℕ) → c.event ≢ p → window_of old p ≡ window_of now.windows p
  unfolding old
  old_other p n = put_other origin now.windows c.event (window c) p n

  new_flags : (p : ℕ) → Event now.ticket p → flagged fs p ≡ is_committed start (c ∷ done) p
  unfolding fs
  new_flags p e = go (ℕ_discrete c.event p)
    where
      go : Dec (c.event ≡ p) → flagged (put now.flags c.event true) p ≡ is_committed start (c ∷ done) p
      go (yes q) = subst (λ r. flagged (put now.flags c.event true) r ≡ is_committed start (c ∷ done) r) q (flag_same ∙ sym committed_same)
      go (no n) = put_other false now.flags c.event true p n ∙ place.flags p e ∙ sym (committed_other p n)

  old_committed : (p : ℕ) → Event now.ticket p → T (is_committed start (c ∷ done) p) → window_of old p ≡ said_window start (c ∷ done) p
  old_committed p e t = go (ℕ_discrete c.event p)
    where
      go : Dec (c.event ≡ p) → window_of old p ≡ said_window start (c ∷ done) p
      go (yes q) = subst (λ r. window_of old r ≡ said_window start (c ∷ done) r) q (old_same ∙ sym said_same)
      go (no n) = old_other p n ∙ place.kept p e (subst T (committed_other p n) t) ∙ sym (said_other p n)

  old_free : (p : ℕ) → T (not (is_committed start (c ∷ done) p)) → window_of old p ≡ window_of now.windows p
  old_free p t = go (ℕ_discrete c.event p)
    where
      go : Dec (c.event ≡ p) → window_of old p ≡ window_of now.windows p
      go (yes q) = absurd (subst (λ b. T (not b)) committed_same (subst (λ r. T (not (is_committed start (c ∷ done) r))) (sym q) t))
      go (no n) = old_other p n

  -- the test of the commitment and the allowed sets
  grows_allowed : (vs : List Window) → Grows k fs old vs → Allowed k start (c ∷ done) now.windows vs
  unfolding k
  grows_allowed vs g = record {
    fit = ends_fit now.ticket vs g.ends;
    kept = λ p e t.
        let h : KeepsAt true (window_of old p) (window_of vs p) =
        subst (λ b. KeepsAt b (window_of old p) (window_of vs p)) (new_flags p e ∙ T-true (is_committed start (c ∷ done) p) t) (g.kept p e.1) in
        (λ i. record { opens = h.0 i; closes = h.1 i }) ∙ old_committed p e t;
    grown = λ p e t.
        let h : KeepsAt false (window_of old p) (window_of vs p) =
        subst (λ b. KeepsAt b (window_of old p) (window_of vs p)) (new_flags p e ∙ T-false (is_committed start (c ∷ done) p) t) (g.kept p e.1) in
        subst (λ w. KeepsAt false w (window_of vs p)) (old_free p t) h;
  }

  allowed_grows : (vs : List Window) → Allowed k start (c ∷ done) now.windows vs → Grows k fs old vs
  unfolding k
  allowed_grows vs w = record {
    ends = fit_ends now.ticket (distinct now.ticket place.readable.valid) vs w.fit;
    kept = kept;
  }
    where
      by : (p : ℕ) → Event now.ticket p → (b : Bool) → is_committed start (c ∷ done) p ≡ b → KeepsAt b (window_of old p) (window_of vs p)
      by p e true q =
          let t : T (is_committed start (c ∷ done) p) = subst T (sym q) tt in
          let h : window_of vs p ≡ window_of old p = w.kept p e t ∙ sym (old_committed p e t) in
          (ap (λ (v : Window). v.opens) h, ap (λ (v : Window). v.closes) h)
      by p e false q =
          let t : T (not (is_committed start (c ∷ done) p)) = subst (λ b. T (not b)) (sym q) tt in
          subst (λ v. KeepsAt false v (window_of vs p)) (sym (old_free p t)) (w.grown p e t)

      kept : (p : ℕ) → p ≤ events now.ticket → KeepsAt (flagged fs p) (window_of old p) (window_of vs p)
      kept zero l = (omega arith, omega arith)
      kept (suc i) l =
          let e : Event now.ticket (suc i) = (omega arith, l) in
          subst (λ b. KeepsAt b (window_of old (suc i)) (window_of vs (suc i))) (sym (new_flags (suc i) e)) (by (suc i) e (is_committed start (c ∷ done) (suc i)) refl)

  tested : Chosen now.ticket (λ vs. T (grows now.ticket fs old vs)) (committed now c).windows
  unfolding fs old
  tested = best_chosen now.ticket (grows now.ticket fs old) (grows_closed now.ticket fs old) old
      (itself_grows now.ticket fs old (narrowed now.ticket now.windows
      (fit_ends now.ticket (distinct now.ticket place.readable.valid) now.windows a.fit) c.event (window c) a.event.0 a.event.1 a.after a.ordered a.before))

  next_chosen : Chosen now.ticket (Allowed now.ticket start (c ∷ done) now.windows) (committed now c).windows
  unfolding k
  next_chosen = chosen_under now.ticket (λ vs. T (grows now.ticket fs old vs)) (Allowed now.ticket start (c ∷ done) now.windows)
      (λ vs t. grows_allowed vs (test_grows now.ticket fs old vs t))
      (λ vs w. grows_test now.ticket fs old vs (allowed_grows vs w))
      (committed now c).windows tested

  -- and what 01 says of the new windows determines them
  pub next_unique : (ws : List Window) → Chosen now.ticket (Allowed now.ticket start (c ∷ done) now.windows) ws → ws ≡ (committed now c).windows
  next_unique ws ch = chosen_unique now.ticket (Allowed now.ticket start (c ∷ done) now.windows) ws (committed now c).windows ch next_chosen
      (ch.allowed.fit.count ∙ sym next_chosen.allowed.fit.count)

  -- the count of the event's owner has risen, and still fits in two bytes
  risen : (o : ℕ) → count_of (committed now c) o ≡ cond (eqb (owner_of now.ticket c.event) o) 1 0 + count_of now o
  risen o = raise_at now.counts (owner_of now.ticket c.event) o (rw place.readable.counts_count (owner_known now.ticket place.readable.valid c.event a.event))

  risen_most : (o : ℕ) → o < 5 → count_of (committed now c) o ≤ 65535
  risen_most o l = go (ℕ_discrete (owner_of now.ticket c.event) o)
    where
      go : Dec (owner_of now.ticket c.event ≡ o) → count_of (committed now c) o ≤ 65535
      go (yes q) =
          let n : count_of now o ≢ 65535 = subst (λ x. count_of now x ≢ 65535) q a.rises in
          omega (arith, risen o, one_most (eqb (owner_of now.ticket c.event) o), place.readable.counts_most o l, n)
      go (no n) = omega (arith, rw (eqb_no (owner_of now.ticket c.event) o n) at (risen o), place.readable.counts_most o l)

  next_place : Place start (c ∷ done) (committed now c)
  unfolding fs
  next_place =
      let shape = (grows_closed now.ticket fs old).shape (committed now c).windows tested.allowed in
      record {
        readable = record {
          valid = place.readable.valid;
          windows_count = shape.0;
          windows_lie = shape.1;
          flags_count = length_put false now.flags c.event true ∙ place.readable.flags_count;
          counts_count = length-set now.counts (owner_of now.ticket c.event) _ ∙ place.readable.counts_count;
          counts_least = λ o l. omega (arith, risen o, put_most o now.ticket now.flags c.event, place.readable.counts_least o l);
          counts_most = risen_most;
        };
        ticket = place.ticket;
        flags = new_flags;
        counts = λ o. omega (arith, risen o, place.counts o);
        fit = next_chosen.allowed.fit;
        kept = next_chosen.allowed.kept;
      }

-- ---- the whole list

-- what is said of the answer to c at the place `now`
abbrev Next : State → List Commitment → State → Commitment → List Commitment → Answer → Type 0
Next start done now c cs answer = Answered answer
    (λ r. FirstCause now c r × Claim start done now cs)
    (λ next. Acceptable now c × Chosen next.ticket (Allowed next.ticket start (c ∷ done) now.windows) next.windows × Claim start (c ∷ done) next cs)

pub claim : (start : State) (done : List Commitment) (now : State) → Place start done now → (cs : List Commitment) → Claim start done now cs
claim start done now place [] = place
claim start done now place (c ∷ cs) =
    (place, answered (λ p. claim start (c ∷ done) (committed now c) p cs) (claim start done now place cs))
  where
    refusal : T (not (eqb (cause now c) 0)) → FirstCause now c (cause now c)
    refusal t = go (cause_first now c (distinct now.ticket place.readable.valid))
      where
        go : FirstCause now c (cause now c) ⊎ ((cause now c ≡ 0) × Acceptable now c) → FirstCause now c (cause now c)
        go (inl f) = f
        go (inr e) = absurd (T_not (eqb (cause now c) 0) t (rw e.0 tt))

    by : (b : Bool) → (T b → Acceptable now c) → (T (not b) → FirstCause now c (cause now c))
        → (Place start (c ∷ done) (committed now c) → Claim start (c ∷ done) (committed now c) cs) → Claim start done now cs
        → Next start done now c cs (cond b (accepted (committed now c)) (refused (cause now c)))
    by true y n f g = (y tt, next_chosen start done now place c (y tt), f (next_place start done now place c (y tt)))
    by false y n f g = (n tt, g)

    answered : (Place start (c ∷ done) (committed now c) → Claim start (c ∷ done) (committed now c) cs) → Claim start done now cs → Next start done now c cs (commit now c)
    answered f g = unfold commit in by (eqb (cause now c) 0) (λ t. acceptable now c t) refusal f g

start_place : (s : State) → Readable s → Fit s.ticket s.windows → Place s [] s
start_place s r f = record {
  readable = r;
  ticket = refl;
  flags = λ p e. refl;
  counts = λ o. omega arith;
  fit = f;
  kept = λ p e t. refl;
}

-- a commitment to which no cause applies is accepted, with the best of the allowed sets
pub acceptable_has_plan : (s : State) → Readable s → (c : Commitment) → Acceptable s c
    → (commit s c ≡ accepted (committed s c)) × Chosen s.ticket (Allowed s.ticket s (c ∷ []) s.windows) (committed s c).windows
unfolding commit
acceptable_has_plan s r c a = (rw (acceptable_accepted s c (distinct s.ticket r.valid) a), next_chosen s [] s (start_place s r a.fit) c a)

-- no commitment is refused under 15
never_unfit_from : (start : State) (done : List Commitment) (now : State) (cs : List Commitment) → Claim start done now cs → All (λ r. r ≢ 15) (numbers now cs)
never_unfit_from start done now [] h = tt
never_unfit_from start done now (c ∷ cs) h = (
  subst (λ r. r ≢ 15) (sym (commit_number now c)) (fit_cause now c (distinct now.ticket h.0.readable.valid) h.0.fit),
  by (commit now c) (λ s d g. never_unfit_from start d s cs g) h.1,
)
  where
    by : (answer : Answer) → ((s : State) (d : List Commitment) → Claim start d s cs → All (λ r. r ≢ 15) (numbers s cs)) → Next start done now c cs answer
        → All (λ r. r ≢ 15) (numbers (after now answer) cs)
    by (refused r) f g = f now done g.1
    by (accepted next) f g = f next (c ∷ done) g.2

-- ---- planning

pub planned_chosen : (k : Ticket) → Distinct k → T (consistent k) → Chosen k (Fit k) (planned k).windows
planned_chosen k d t =
    let w = consistent_fits k t in
    chosen_under k (λ vs. T (fits k vs)) (Fit k) (λ vs h. fits_fit k vs h) (λ vs f. fit_fits k d vs f) (planned k).windows
    (best_chosen k (fits k) (fits_closed k) w.0 w.1)

-- a ticket with a schedule has a plan
pub consistent_has_plan : (k : Ticket) → Distinct k → T (consistent k) → (plan k ≡ accepted (planned k)) × Chosen k (Fit k) (planned k).windows
unfolding plan
consistent_has_plan k d t = (rw (T-true (consistent k) t), planned_chosen k d t)

-- and what 01 says of a plan determines it
pub planned_unique : (k : Ticket) → Distinct k → (ws : List Window) → Chosen k (Fit k) ws
    → plan k ≡ accepted (record { ticket = k; windows = ws; flags = replicate (events k) false; counts = replicate 5 0 })
unfolding plan
planned_unique k d ws ch =
    let t : T (consistent k) = (consistent_has k).1 (fit_schedule k ws ch.allowed) in
    let best_is = planned_chosen k d t in
    let e : ws ≡ (planned k).windows = chosen_unique k (Fit k) ws (planned k).windows ch best_is (ch.allowed.count ∙ sym best_is.allowed.count) in
    rw (T-true (consistent k) t, e)

planned_readable : (k : Ticket) → Valid k → T (consistent k) → Readable (planned k)
planned_readable k v t =
    let w = consistent_fits k t in
    let shape = (fits_closed k).shape (planned k).windows (best_chosen k (fits k) (fits_closed k) w.0 w.1).allowed in
    record {
      valid = v;
      windows_count = shape.0;
      windows_lie = shape.1;
      flags_count = length-replicate (events k) false;
      counts_count = refl;
      counts_least = λ o l. omega (arith, none_set o k.owners (events k));
      counts_most = λ o l. omega (arith, none_counted 5 o);
    }

-- what an accepted planning keeps is a start like any other
planned_starts : (k : Ticket) → Valid k → (s : State) → plan k ≡ accepted s → Readable s × Fit s.ticket s.windows
unfolding plan
planned_starts k v s = by (consistent k) refl
  where
    by : (b : Bool) → consistent k ≡ b → cond b (accepted (planned k)) (refused 9) ≡ accepted s → Readable s × Fit s.ticket s.windows
    by true e q =
        let t : T (consistent k) = subst T (sym e) tt in
        subst (λ a. Answered a (λ r. ⊥) (λ s. Readable s × Fit s.ticket s.windows)) q (planned_readable k v t, (planned_chosen k (distinct k v) t).allowed)
    by false e q = absurd (subst (λ a. Answered a (λ r. Unit {0}) (λ s. ⊥)) q tt)

-- the claim of 01, "A run": one theorem for every start and every list
pub run : (start : Start) (cs : List Commitment) → Run start cs
run (reading s) cs = λ r f. claim s [] s (start_place s r f) cs
run (planning k) cs = λ v. unfold plan in by v (consistent k) refl
  where
    Planned : Answer → Type 0
    Planned answer = Answered answer
        (λ r. (r ≡ 9) × ((ts : List ℕ) → ¬ Schedule k ts))
        (λ s. (s.ticket ≡ k) × ((p : ℕ) → flagged s.flags p ≡ false) × (s.counts ≡ replicate 5 0) × Chosen k (Fit k) s.windows × Claim s [] s cs)

    by : Valid k → (b : Bool) → consistent k ≡ b → Planned (cond b (accepted (planned k)) (refused 9))
    by v true e =
        let t : T (consistent k) = subst T (sym e) tt in
        let ch = planned_chosen k (distinct k v) t in
        (refl, none_flagged (events k), refl, ch, claim (planned k) [] (planned k) (start_place (planned k) (planned_readable k v t) ch.allowed) cs)
    by v false e = (refl, λ ts s. subst T e ((consistent_has k).1 (ts, s)))

-- in a run 15 never occurs
pub never_unfit : (start : Start) (cs : List Commitment) → NeverUnfit start cs
never_unfit (reading s) cs = λ r f. never_unfit_from s [] s cs (claim s [] s (start_place s r f) cs)
never_unfit (planning k) cs = λ v s e.
    let r = planned_starts k v s e in
    never_unfit_from s [] s cs (claim s [] s (start_place s r.0 r.1) cs)
