-- From the best potential of a part's network to the windows of its plan. Rests on the laws of a struct's window network, for the struct that the part would have
-- (part_network's `dense`).
use Rattle.std.specs.Prelude.{ℕ, zero, suc, ◌+◌, ◌*◌, ◌-◌, ◌≤◌, ◌<◌, ◌≡◌, refl, List, [], ◌∷◌, map, T, length, get_or, replicate}
use Rattle.std.proofs.Common.{sym, ap₂, ◌∙◌, arith, ext_get_or}
use Rattle.std.proofs.Math.Path.{ap, subst}
use Rattle.std.proofs.lemmas.List.{length-map, get_or-replicate}
use Rattle.temporal.specs.Bound.{above, below}
use Rattle.temporal.specs.Ticket as temporal
use Rattle.temporal.specs.Ticket.{Rule, Window, events, time, origin, window_of, fits, total_of}
use Rattle.temporal.specs.Ends.{Ends}
use Rattle.temporal.proofs.Ends.{fits_ends, ends_fits, fit_ends}
use Rattle.temporal.specs.Distance.{consistent, distance}
use Rattle.temporal.specs.Best.{Chosen}
use Rattle.temporal.proofs.Best.{chosen_best, chosen_under}
use Rattle.temporal.proofs.FitSets.{fits_closed, at_still, schedule_fits}
use Rattle.temporal.specs.FitSets.{still}
use Rattle.temporal.specs.Run.{Valid}
use Rattle.network.specs.Stored.{at}
use Rattle.flow.specs.Width.{LeastWidest}
use Rattle.network.specs.Stored.{stored}
use Rattle.ticket.specs.Writing.{firsts, content}
use Rattle.ticket.proofs.WritingLaws.{length_firsts, get_d_firsts}
use Rattle.ticket.proofs.Content.{in_events}
use Rattle.ticket.specs.declared.Ticket.{Ticket}
use Rattle.potentials.specs.Arrays.{window_list, window_at_lem, Held}
use Rattle.potentials.specs.Nodes.{by_nodes, windows_of, potential_of, potential_open, potential_close}
use Rattle.potentials.specs.Pairs.{Pairs, Read, read_windows_lem, replicate_most}
use Rattle.demands.specs.Network.{Built, Limits, Meeting, meeting_same, edges}
use Rattle.windows.specs.Boxes.{free_boxes, free_allowed, free_chosen}
use Rattle.windows.specs.Widest.{potential_chosen}
use Rattle.closure.specs.Signed.{lower}
use Rattle.closure.specs.Matrix.{entry}
use Rattle.parts.specs.Part.{members, point, all_rules, distance_of, part_ticket, part_plan, part_total}
use Rattle.parts.proofs.AllRules.{rules_all, rules_cong, rules_most}
use Rattle.parts.proofs.Members.{point_most, members_few}
use Rattle.parts.proofs.PartDistance.{part_distinct}
use Rattle.parts.proofs.Parts.{part_chosen}
use Rattle.parts.specs.PartEarliest.{earliest_times}
use Rattle.parts.proofs.PartEarliest.{earliest_above, time_earliest, part_earliest}
use Rattle.part_network.specs.Points.{Placed}
use Rattle.part_network.specs.Lay.{bound_in, Ranged}
use Rattle.part_network.specs.Dense.{dense, Small, dense_content, dense_held}
use Rattle.part_windows.specs.declared.Part.{Part}
use Rattle.part_windows.specs.Entries.{Distances, lower_parts}

-- what is asked of the points and the entries of device d's part
pub record GivenPart (t : Ticket) (d n : ℕ) (points w : List ℕ) : Type 0 where
  pub valid : Valid (content t)
  pub has : T (consistent (content t))
  pub counted : n ≡ length (members d (content t))
  pub places : (q : ℕ) → q ≤ n → at points q ≡ point d (content t) q
  pub distances : Distances (content t) t.events (entry w)

-- what a part's struct says of a ticket with a schedule
pub record IsPart (d : ℕ) (k : temporal.Ticket) (p : Part) : Type 0 where
  pub counted : p.events ≡ length (members d k)
  pub few : p.events ≤ 40
  pub places : (q : ℕ) → q ≤ p.events → at p.points q ≡ point d k q
  pub windows : window_list p.events p.opens p.closes ≡ part_plan d k
  pub total : p.total ≡ part_total d k

module _ {t : Ticket} {d n : ℕ} {points w : List ℕ} (P : GivenPart t d n points w) where
  abbrev k : temporal.Ticket
  k = content t

  at_most : (q : ℕ) → q ≤ n → at points q ≤ t.events
  at_most q l = omega (arith, P.places q l, point_most d k q (omega (arith, P.counted)), in_events t)

  pub part_few : n ≤ 40
  part_few = omega (arith, P.counted, members_few d k, P.valid.events_limit)

  pub part_top : t.horizon ≤ 1000000
  part_top = P.valid.horizon_limit

  pub part_ranged : Ranged n points w
  part_ranged = record {
    point = λ q l. omega (arith, at_most q l, in_events t, P.valid.events_limit);
    low = λ i j li lj. P.distances.low (at points i) (at points j) (at_most i li) (at_most j lj);
    high = λ i j li lj. P.distances.high (at points i) (at points j) (at_most i li) (at_most j lj);
  }

  -- the bounds are the distances
  bound_is : (i j : ℕ) → i ≤ n → j ≤ n → bound_in points w i j ≡ distance_of d k i j
  bound_is i j li lj =
      sym (P.distances.are (at points i) (at points j) (at_most i li) (at_most j lj)) ∙ ap₂ (distance k) (P.places i li) (P.places j lj)

  rules_are : all_rules n (bound_in points w) ≡ (part_ticket d k).rules
  rules_are = rules_cong n (bound_in points w) (distance_of d k) bound_is ∙ ap (λ m. all_rules m (distance_of d k)) P.counted

  -- ---- the part's struct

  abbrev pub struct : Ticket
  struct = dense t.horizon n (replicate 40 d) (all_rules n (bound_in points w))

  owners_are : firsts n (at (replicate 40 d)) ≡ map (λ p. d) (members d k)
  owners_are = ext_get_or 0 (firsts n (at (replicate 40 d))) (map (λ p. d) (members d k))
      (length_firsts n (at (replicate 40 d)) ∙ P.counted ∙ sym (length-map (members d k) (λ p. d)))
      (λ i l.
      let li : i < n = omega (arith, length_firsts n (at (replicate 40 d))) in
      get_d_firsts n (at (replicate 40 d)) 0 i li
      ∙ get_or-replicate {A = ℕ} 40 i d 0 (omega (arith, part_few))
      ∙ sym (same (members d k) i (omega (arith, P.counted))))
    where
      same : (xs : List ℕ) (i : ℕ) → i < length xs → get_or (map (λ (p : ℕ). d) xs) i 0 ≡ d
      same [] i l = absurd (none l)
        where
          none : i < 0 → ⊥
          none q = omega arith
      same (x ∷ xs) zero l = refl
      same (x ∷ xs) (suc i) l = same xs i (omega arith)

  struct_content : content struct ≡ part_ticket d k
  struct_content = dense_content t.horizon n (replicate 40 d) (all_rules n (bound_in points w))
      ∙ ap₂ (λ (os : List ℕ) (rs : List Rule). record { horizon = t.horizon; owners = os; rules = rs }) owners_are rules_are

  pub struct_held : Held 1640 struct
  struct_held = dense_held t.horizon n (replicate 40 d) (all_rules n (bound_in points w)) 1640 part_top part_few (rules_most (bound_in points w) n part_few)
      (rules_all n (bound_in points w) (Small t.horizon n (replicate 40 d) (all_rules n (bound_in points w)))
      (λ i j li lj ne.
      let p = lower_parts (entry w (at points i) (at points j)) in
      (li, lj, omega (arith, p.1, part_ranged.low i j li lj), omega (arith, p.0, part_ranged.high i j li lj))))

  pub struct_limits : Limits struct (at (replicate 81 0)) (at (replicate 81 t.horizon))
  struct_limits = λ v lo hi. (omega (arith, replicate_most 81 0 v), omega (arith, replicate_most 81 t.horizon v, part_top))

  -- ---- where to start: every event at its earliest time

  start : List Window
  start = map still (earliest_times d k)

  started : Ends (content struct) start
  unfolding start
  started = subst (λ j. Ends j start) (sym struct_content) (fits_ends (part_ticket d k) start (schedule_fits (part_ticket d k) (earliest_times d k) (part_earliest k P.has d)))

  -- the entry of a point to point 0
  back_is : (q : ℕ) → q ≤ n → distance k (point d k q) 0 ≡ lower (entry w (at points q) 0)
  back_is q l = ap (λ p. distance k p 0) (sym (P.places q l)) ∙ P.distances.are (at points q) 0 (at_most q l) (omega arith)

  time_is : (i : ℕ) → i < n → 2000000 - entry w (at points (suc i)) 0 ≡ time (earliest_times d k) (suc i)
  time_is i l =
      sym (lower_parts (entry w (at points (suc i)) 0)).1 ∙ sym (ap below (back_is (suc i) l))
      ∙ sym (time_earliest k P.has d (suc i) (omega (arith, P.counted)))

  pub entry_low : (q : ℕ) → q ≤ n → (at points q ≤ 40) × (entry w (at points q) 0 ≤ 2000000)
  entry_low q l = (
    part_ranged.point q l,
    omega (arith, (lower_parts (entry w (at points q) 0)).0, ap above (back_is q l), earliest_above k P.has (point d k q)),
  )

  pub start_meeting : {pot : List ℕ} → Pairs n (λ (i : ℕ). 2000000 - entry w (at points (suc i)) 0) (λ (i : ℕ). 2000000 - entry w (at points (suc i)) 0) pot n
      → Meeting struct (at (replicate 81 0)) (at (replicate 81 t.horizon)) (at pot)
  unfolding start still
  start_meeting {pot} Q = meeting_same struct_held (at (replicate 81 0)) (at (replicate 81 t.horizon)) (potential_of n start) (at pot) same
      (free_allowed struct_held (free_boxes struct_held) start started).meeting
    where
      opened : (i : ℕ) → (temporal.window_of start (suc i)).opens ≡ time (earliest_times d k) (suc i)
      opened i = ap (λ (x : Window). x.opens) (at_still (earliest_times d k) (suc i))

      closed : (i : ℕ) → (temporal.window_of start (suc i)).closes ≡ time (earliest_times d k) (suc i)
      closed i = ap (λ (x : Window). x.closes) (at_still (earliest_times d k) (suc i))

      same : (v : ℕ) → v < 2 * n + 1 → at pot v ≡ potential_of n start v
      same zero l = Q.nodes.origin ∙ sym (potential_open n start 0 (omega arith))
      same (suc u) l = by_nodes (λ v. at pot v ≡ potential_of n start v) n
          (λ i li. Q.first i li ∙ time_is i li ∙ sym (potential_open n start (suc i) li ∙ opened i))
          (λ i li. Q.second i li ∙ time_is i li ∙ sym (potential_close n start (suc i) (omega arith) ∙ closed i))
          (suc u) (omega arith) l

  -- ---- the windows

  pub plan_points : {net pot opens closes opens' closes' : List ℕ} {weights : ℕ → ℕ} → Built net struct (at (replicate 81 0)) (at (replicate 81 t.horizon))
      → ((i : ℕ) → i < n → weights (suc i) ≡ temporal.weight (at (replicate 40 d) i)) → LeastWidest (stored n (edges struct) net) weights (at pot)
      → Read n pot opens closes opens' closes' n → window_list n opens' closes' ≡ part_plan d k
  plan_points {net} {pot} {weights = weights} B owned L R =
      let C = free_chosen struct_held (free_boxes struct_held) (windows_of n (at pot)) (potential_chosen B struct_held struct_limits weights (at pot) owned L) in
      let D : Chosen (part_ticket d k) (Ends (part_ticket d k)) (windows_of n (at pot)) = subst (λ j. Chosen j (Ends j) (windows_of n (at pot))) struct_content C in
      read_windows_lem R
      ∙ chosen_best (part_ticket d k) (fits (part_ticket d k)) (fits_closed (part_ticket d k)) (windows_of n (at pot))
      (chosen_under (part_ticket d k) (Ends (part_ticket d k)) (λ vs. T (fits (part_ticket d k) vs)) (λ vs x. ends_fits (part_ticket d k) vs x)
      (λ vs x. fits_ends (part_ticket d k) vs x) (windows_of n (at pot)) D)

  -- ---- windows in arrays that are those of the plan

  module _ (opens closes : List ℕ) (e : window_list n opens closes ≡ part_plan d k) where
    pub part_lies : (i : ℕ) → i < n → (at opens i ≤ at closes i) × (at closes i ≤ 1000000)
    part_lies i l =
        let E = fit_ends (part_ticket d k) (part_distinct d k) (part_plan d k) (part_chosen k P.has d).allowed in
        let q : temporal.window_of (part_plan d k) (suc i) ≡ record { opens = at opens i; closes = at closes i } =
        ap (λ ws. get_or ws i origin) (sym e) ∙ window_at_lem n opens closes i l in
        (rw q at (E.ordered (suc i)), omega (arith, rw q at (E.inside (suc i)), part_top))

    pub part_total_lem : total_of (firsts n (at (replicate 40 d))) (window_list n opens closes) ≡ part_total d k
    part_total_lem = ap₂ total_of owners_are e

-- the points that `members` finds
pub placed_given : (t : Ticket) {d n : ℕ} {points : List ℕ} (w : List ℕ) → Valid (content t) → T (consistent (content t)) → Placed d (content t).owners points n
    → Distances (content t) t.events (entry w) → GivenPart t d n points w
placed_given t w v c P D = record { valid = v; has = c; counted = P.counted; places = P.places; distances = D }
