-- One planning and one commitment as the code takes them: what is asked of `latest` and `windows`, what comes back, and that it is kept.
use Rattle.std.specs.Prelude.{◌≡◌, refl, Bool, true, false, cond, List, [], ◌∷◌, ℕ, ◌+◌, ◌-◌, ◌≤◌, ◌<◌, length, set, replicate}
use Rattle.std.proofs.Common.{sym, ap, ◌∙◌, add-one, arith, ne_eqb, length-set, get_or-set_same, get_or-set_other}
use Rattle.std.proofs.Math.Path.{subst}
use Rattle.std.proofs.Math.Decide.{ℕ_discrete}
use Rattle.temporal.specs.Ticket.{Ticket}
use Rattle.temporal.specs.Plan.{State, owner_of, raise, Commitment, accepted, refused, plan_for, cause, commit, asking}
use Rattle.temporal.specs.Run.{Valid, Readable, Acceptable}
use Rattle.temporal.specs.Run as states
use Rattle.temporal.proofs.Causes.{acceptable, cause_counts}
use Rattle.temporal.proofs.RunHolds as states_hold
use Rattle.temporal.proofs.LatestRun.{plan_for_lem}
use Rattle.network.specs.Stored.{at}
use Rattle.ticket.specs.Writing.{content, state_of}
use Rattle.ticket.proofs.Agree.{counts_all}
use Rattle.ticket.proofs.Content.{in_events, in_rules}
use Rattle.ticket.specs.declared.Ticket.{Ticket as Struct}
use Rattle.ticket.specs.declared.Record.{Record}
use Rattle.potentials.specs.Arrays.{window_list, flag_list, Within}
use Rattle.windows.specs.Promises.{state_in, Workspace, Committed}
use Rattle.windows.specs.Settle.{Asked}
use Rattle.latest.specs.Latest.{PlannedFor}
use Rattle.causes.specs.Structs.{Past, zeros_past, within_past, set_past, Canonical, canonical_few, count_of_lem}

-- ---- what an accepted call leaves is readable

planned_readable : (late : Bool) (k : Ticket) → Valid k → (s : State) → plan_for late k ≡ accepted s → Readable s
planned_readable late k v s e = rw e at (plan_for_lem late k v)

pub committed_readable : (s : State) → Readable s → (c : Commitment) → cause s c ≡ 0 → (next : State) → commit s c ≡ accepted next → Readable next
committed_readable s ok c z next e =
    let h = rw e at (states_hold.run (states.reading s) (c ∷ []) ok (acceptable s c (rw z tt)).fit).1 in h.2.readable

-- ---- room for the edges

edges_room : (t : Struct) (net opens closes : List ℕ) → Valid (content t) → length net ≡ 1824 → length opens ≡ 40 → length closes ≡ 40 → Workspace t net opens closes
edges_room t net opens closes v l o c = record {
  size = omega (arith, v.events_limit, v.rules_limit, in_events t, in_rules t);
  opens_long = o;
  closes_long = c;
}

-- ---- the state that a record's struct says

-- by its arrays
state_in_lem : (t : Struct) (flags opens closes counts : List ℕ) → length counts ≡ 5
    → state_in t flags opens closes counts ≡ state_of (record { ticket = t; flags = flags; opens = opens; closes = closes; counts = counts })
unfolding window_list flag_list
state_in_lem t flags opens closes counts l = rw (counts_all counts l) refl

-- ---- a commitment that is accepted

module _ (r : Record) (ok : Canonical r) (caller event opens closes : ℕ) (z : cause (state_of r) (asking caller event opens closes) ≡ 0) where
  passed : Acceptable (state_of r) (asking caller event opens closes)
  passed = acceptable (state_of r) (asking caller event opens closes) (rw z tt)

  pub commit_asked : {net : List ℕ} → length net ≡ 1824
      → Workspace r.ticket net r.opens r.closes × Asked r.ticket r.flags r.opens r.closes event opens closes
  commit_asked {net} l = (
    edges_room r.ticket net r.opens r.closes ok.readable.valid l ok.opens_past.long ok.closes_past.long,
    record {
      valid = ok.readable.valid;
      passes = unfold window_list flag_list in rw passed.own (cause_counts (state_of r) (asking caller event opens closes) (replicate 5 0)
          (λ q. omega (arith, q, states_hold.none_counted 5 (owner_of (content r.ticket) event))) z);
      flags_long = ok.flags_past.long;
      opens_long = ok.opens_past.long;
      closes_long = ok.closes_past.long;
    },
  )

  -- the record with these arrays and the caller's count one higher
  abbrev pub raised : (flags opens closes : List ℕ) → Record
  raised flags' opens' closes' =
      record { ticket = r.ticket; flags = flags'; opens = opens'; closes = closes'; counts = set r.counts caller (at r.counts caller + 1) }

  -- what a commitment leaves in the arrays is kept
  pub canonical_committed : {flags' opens' closes' : List ℕ}
      → Committed r.ticket r.flags r.opens r.closes flags' opens' closes' event opens closes
      → Canonical (raised flags' opens' closes') × (commit (state_of r) (asking caller event opens closes) ≡ accepted (state_of (raised flags' opens' closes')))
  unfolding window_list flag_list
  canonical_committed {flags'} {opens'} {closes'} C = (
    record {
      flags_past = subst (Past r.ticket.events) (sym C.flags_are) (set_past (event - 1) 1 inside ok.flags_past);
      opens_past = within_past ok.opens_past C.opens_past;
      closes_past = within_past ok.closes_past C.closes_past;
      bits = λ i. subst (λ xs. at xs i ≤ 1) (sym C.flags_are) (set_bit i (ℕ_discrete i (event - 1)));
      counts_long = five;
      readable = committed_readable (state_of r) ok.readable (asking caller event opens closes) z (state_of (raised flags' opens' closes')) decided;
    },
    decided,
  )
    where
      inside : event - 1 < r.ticket.events
      inside = omega (arith, passed.event, in_events r.ticket)

      five : length (set r.counts caller (at r.counts caller + 1)) ≡ 5
      five = length-set r.counts caller (at r.counts caller + 1) ∙ ok.counts_long

      one_more : raise (state_of r).counts (owner_of (content r.ticket) event) ≡ set r.counts caller (at r.counts caller + 1)
      one_more = rw (counts_all r.counts ok.counts_long, passed.own, add-one) refl

      decided : commit (state_of r) (asking caller event opens closes) ≡ accepted (state_of (raised flags' opens' closes'))
      decided =
          ap (λ o. commit (state_of r) (asking o event opens closes)) (sym passed.own)
          ∙ C.answer (state_of r).counts passed.rises ∙ ap (λ ns. accepted (state_in r.ticket flags' opens' closes' ns)) one_more
          ∙ ap accepted (state_in_lem r.ticket flags' opens' closes' (set r.counts caller (at r.counts caller + 1)) five)

      set_bit : (i : ℕ) → Dec (i ≡ event - 1) → at (set r.flags (event - 1) 1) i ≤ 1
      set_bit i (yes q) = omega (arith, ap (at (set r.flags (event - 1) 1)) q, get_or-set_same r.flags (event - 1) 1 0 (omega (arith, inside, canonical_few r ok, ok.flags_past.long)))
      set_bit i (no n) = omega (arith, get_or-set_other r.flags (event - 1) i 1 0 n, ok.bits i)

  -- the caller is a device, and its count can rise
  pub caller_counted : (caller < 5) × (at r.counts caller ≤ 65535)
  caller_counted = (omega (arith, passed.known), omega (arith, count_of_lem r ok caller, ok.readable.counts_most caller (omega (arith, passed.known))))

-- ---- planning

module _ {t : Struct} where
  pub plan_asked : {net opens closes : List ℕ} → Valid (content t) → length net ≡ 1824 → length opens ≡ 40 → length closes ≡ 40 → Valid (content t) × Workspace t net opens closes
  plan_asked {net} {opens} {closes} v l o c = (v, edges_room t net opens closes v l o c)

  module _ {late : Bool} {opens closes opens' closes' : List ℕ} {b : Bool} (P : PlannedFor late t opens closes opens' closes' b) where
    pub planned_none : b ≡ false → plan_for late (content t) ≡ refused 9
    planned_none q = P.answer ∙ ap (λ x. cond x (accepted (state_in t (replicate 40 0) opens' closes' (replicate 5 0))) (refused 9)) q

    pub planned_some : b ≡ true
        → plan_for late (content t) ≡ accepted (state_of (record { ticket = t; flags = replicate 40 0; opens = opens'; closes = closes'; counts = replicate 5 0 }))
    planned_some q =
        P.answer ∙ ap (λ x. cond x (accepted (state_in t (replicate 40 0) opens' closes' (replicate 5 0))) (refused 9)) q
        ∙ ap accepted (state_in_lem t (replicate 40 0) opens' closes' (replicate 5 0) refl)

    pub canonical_planned : Valid (content t) → opens ≡ replicate 40 0 → closes ≡ replicate 40 0 → b ≡ true
        → Canonical (record { ticket = t; flags = replicate 40 0; opens = opens'; closes = closes'; counts = replicate 5 0 })
    canonical_planned v zo zc q = record {
      flags_past = zeros_past t.events;
      opens_past = grown opens' zo P.opens_past;
      closes_past = grown closes' zc P.closes_past;
      bits = λ i. omega (arith, (zeros_past 0).zero_past i (omega arith));
      counts_long = refl;
      readable = planned_readable late (content t) v _ (planned_some q);
    }
      where
        grown : {xs : List ℕ} (ys : List ℕ) → xs ≡ replicate 40 0 → Within t.events xs ys → Past t.events ys
        grown ys z w = within_past (zeros_past t.events) (subst (λ zs. Within t.events zs ys) z w)

-- ---- a commitment that is refused

pub commit_refused : (s : State) (c : Commitment) {k : ℕ} → k ≡ cause s c → (k ≡ 0 → ⊥) → commit s c ≡ refused k
unfolding commit
commit_refused s c {k} e n = rw (← e, ne_eqb k 0 n)
