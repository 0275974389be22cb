-- The laws of what specs/Parted defines.
use Rattle.std.specs.Prelude.{ℕ, suc, ◌+◌, ◌*◌, ◌^◌, ◌≤◌, ◌<◌, ◌≡◌, refl, Bool, true, false, cond, ◌↔◌, ◌⊎◌, ◌≢◌, T, length, get_or}
use Rattle.std.proofs.Common.{sym, subst, ◌∙◌, inl, inr, ⊎_elim, arith, length-append, ext_get_or}
use Rattle.std.proofs.Math.Path.{ap, ap₂}
use mathlib.Core.List.{List, [], ◌∷◌, ◌++◌, append_assoc, append-nil, map}
use Rattle.std.proofs.Math.Dec.{not_T}
use Rattle.std.proofs.lemmas.List.{length-map}
use Rattle.std.proofs.Math.ListN.{get_or-map, take}
use Rattle.std.proofs.Math.Seq.{take-append_seam}
use Rattle.temporal.proofs.Lists.{All-map, T-true, T-false, below_or_not, tab_cong}
use Rattle.temporal.specs.Lists.{tab}
use Rattle.temporal.specs.Ticket.{Rule, Ticket, events, Schedule, Window, origin, window_of, fits, total_of, total}
use Rattle.temporal.specs.Ends.{Ends}
use Rattle.temporal.proofs.Ends.{fit_ends}
use Rattle.temporal.specs.Distance.{consistent}
use Rattle.temporal.proofs.Distance.{consistent_has}
use Rattle.temporal.specs.DistanceLaws.{Points}
use Rattle.temporal.specs.Best.{best}
use Rattle.temporal.specs.Plan as temporal
use Rattle.temporal.specs.Plan.{State, plan}
use Rattle.temporal.specs.Run.{ValidRule, Valid, Answered}
use Rattle.temporal.proofs.RunHolds.{distinct}
use Rattle.ticket.specs.Parser.{Cause, number, got, refused, many, wholly}
use Rattle.ticket.proofs.Laws.{number_some}
use Rattle.ticket.specs.Format.{read_ticket}
use Rattle.ticket.specs.Writer.{bytes, each}
use Rattle.ticket.specs.Writing.{firsts, over}
use Rattle.ticket.proofs.WritingLaws.{length_firsts, get_d_firsts}
use Rattle.ticket.specs.RoundTrip.{Bytes}
use Rattle.ticket.proofs.RoundTrip.{length_bytes, length_each, little_forth, many_forth, written_read, answered}
use Rattle.ticket.proofs.Agree.{all_firsts}
use Rattle.ticket.proofs.Malformed.{malformed_number}
use Rattle.ticket.specs.Content.{HoldsTicket}
use Rattle.parts.specs.Part.{members, part_ticket, restrict, part_plan, part_total, part_totals, sum, Separate}
use Rattle.parts.proofs.Members.{members_few, members_rising, member_owned}
use Rattle.parts.proofs.PartDistance.{part_distinct}
use Rattle.parts.proofs.Parts.{part_chosen, parts_at_least, parts_equal}
use Rattle.parts.specs.Parting.{Numbered, numbered_at, numbered, write_numbered, write_part, Outcome, refusing, accepting, parted, after_reading, parting}
use Rattle.parts.proofs.Parting.{parting_short, parting_unknown, parting_read, parted_none, parted_some}
use Rattle.parts.specs.Parted.{Parted, Unparted, read_numbered, read_part, shown, short, unknown, unread, impossible}

-- ---- a part as bytes

pub length_numbered : (p : Numbered) → length (write_numbered p) ≡ 9
unfolding write_numbered
length_numbered p =
    let w = p.window in
    omega (arith, length-append (bytes 4 w.opens) (bytes 4 w.closes), length_bytes 4 w.opens, length_bytes 4 w.closes)

-- two bytes for the count, nine for each event
pub length_part : (d : ℕ) (k : Ticket) → length (write_part d k) ≡ 2 + 9 * length (members d k)
unfolding write_part
length_part d k = omega (
  arith,
  length-append (bytes 2 (length (members d k))) (each write_numbered (numbered d k)),
  length_bytes 2 (length (members d k)),
  length_each write_numbered 9 length_numbered (numbered d k),
  length_firsts (length (members d k)) (numbered_at d k),
)

-- so 362 bytes hold every part
pub part_size : (d : ℕ) (k : Ticket) → Valid k → (length (write_part d k) ≡ 2 + 9 * length (members d k)) × (length (write_part d k) ≤ 362)
part_size d k v = (length_part d k, omega (arith, length_part d k, members_few d k, v.events_limit))

-- "each event's number in a byte": a byte holds it
pub member_byte : (d : ℕ) (k : Ticket) → Valid k → (i : ℕ) → i < length (members d k) → (1 ≤ get_or (members d k) i 0) × (get_or (members d k) i 0 < 256)
member_byte d k v i l =
    let r = member_owned d k i l in
    (omega (arith, r.3), omega (arith, r.1, r.3, v.events_limit))

-- with no event of the device the part is a count of 0, and its total is 0
pub part_empty : (d : ℕ) (k : Ticket) → length (members d k) ≡ 0 → (write_part d k ≡ 0 ∷ 0 ∷ []) × (part_total d k ≡ 0)
unfolding write_part bytes each firsts
part_empty d k e = (
  ap (λ n. bytes 2 n ++ each write_numbered (firsts n (numbered_at d k))) e,
  ap (λ os. total_of os (part_plan d k)) (none (members d k) e),
)
  where
    none : (xs : List ℕ) → length xs ≡ 0 → map (λ p. d) xs ≡ []
    none [] q = refl
    none (x ∷ xs) q = absurd (omega arith)

-- four bytes hold each end
abbrev Small : Numbered → Type 0
Small p = (p.window.opens < 256 ^ 4) × (p.window.closes < 256 ^ 4)

numbered_forth : (p : Numbered) (s : List ℕ) → Small p → read_numbered (write_numbered p ++ s) ≡ got p s
unfolding read_numbered write_numbered
numbered_forth p s h =
    rw (
      append_assoc,
      little_forth 4 p.window.opens (bytes 4 p.window.closes ++ s) h.0,
      little_forth 4 p.window.closes s h.1,
    )

module _ (d : ℕ) (k : Ticket) (v : Valid k) (some : T (consistent k)) where
  part_ends : Ends (part_ticket d k) (part_plan d k)
  part_ends = fit_ends (part_ticket d k) (part_distinct d k) (part_plan d k) (part_chosen k some d).allowed

  ends_small : (i : ℕ) → Small (numbered_at d k i)
  ends_small i =
      let o = part_ends.ordered (suc i) in
      let h = part_ends.inside (suc i) in
      (omega (arith, o, h, v.horizon_limit), omega (arith, h, v.horizon_limit))

  -- what is written is read again
  pub part_read : wholly read_part (write_part d k) ≡ got (numbered d k) []
  unfolding read_part write_part
  part_read = rw (
    little_forth 2 (length (members d k)) (each write_numbered (numbered d k)) (omega (arith, members_few d k, v.events_limit)),
    events_read,
  )
    where
      events_read : many read_numbered (length (members d k)) (each write_numbered (numbered d k)) ≡ got (numbered d k) []
      events_read =
          ap₂ (λ n s. many read_numbered n s) (sym (length_firsts (length (members d k)) (numbered_at d k))) (sym (append-nil (each write_numbered (numbered d k))))
          ∙ many_forth read_numbered write_numbered Small numbered_forth (numbered d k) [] (all_firsts Small (numbered_at d k) (length (members d k)) (λ i l. ends_small i))

module _ (d : ℕ) (k : Ticket) where
  -- the events of the part are the device's
  pub numbered_events : map (λ (p : Numbered). p.event) (numbered d k) ≡ members d k
  numbered_events = ext_get_or 0 (map (λ (p : Numbered). p.event) (numbered d k)) (members d k) len (λ i l. at i (subst (λ n. i < n) len l))
    where
      len : length (map (λ (p : Numbered). p.event) (numbered d k)) ≡ length (members d k)
      len = length-map (numbered d k) (λ (p : Numbered). p.event) ∙ length_firsts (length (members d k)) (numbered_at d k)

      at : (i : ℕ) → i < length (members d k) → get_or (map (λ (p : Numbered). p.event) (numbered d k)) i 0 ≡ get_or (members d k) i 0
      at i l =
          get_or-map (λ (p : Numbered). p.event) (numbered d k) i (record { event = 0; window = origin })
          ∙ ap (λ (p : Numbered). p.event) (get_d_firsts (length (members d k)) (numbered_at d k) (record { event = 0; window = origin }) i l)

  -- and where their windows are those of a set of windows for all events, that set shows them
  pub numbered_shown : (ws : List Window) → part_plan d k ≡ restrict d k ws → numbered d k ≡ shown ws (members d k)
  numbered_shown ws e = ext_get_or none (numbered d k) (shown ws (members d k)) (len ∙ sym (length-map (members d k) _)) (λ i l. at i (subst (λ n. i < n) len l))
    where
      none : Numbered
      none = record { event = 0; window = origin }

      len : length (numbered d k) ≡ length (members d k)
      len = length_firsts (length (members d k)) (numbered_at d k)

      at : (i : ℕ) → i < length (members d k) → get_or (numbered d k) i none ≡ get_or (shown ws (members d k)) i none
      at i l =
          get_d_firsts (length (members d k)) (numbered_at d k) none i l
          ∙ ap (λ (vs : List Window). record { event = get_or (members d k) i 0; window = get_or vs i origin }) e
          ∙ ap (λ (w : Window). record { event = get_or (members d k) i 0; window = w }) (get_or-map (window_of ws) (members d k) i 0)
          ∙ sym (get_or-map (λ p. record { event = p; window = window_of ws p }) (members d k) i 0)

module _ (ticket : List ℕ) (device : ℕ) (out : List ℕ) where
  abbrev answer : Outcome
  answer = parting ticket device out

  reads_on : 362 ≤ length out → device ≤ 4 → (k : Ticket) → HoldsTicket ticket k → answer ≡ parted device k out
  reads_on l m k h = parting_read ticket device out l m ∙ ap (after_reading device out) h

  refused_is : (x : ℕ) → Unparted ticket device out x → (answer ≡ refusing x out) × (x ≢ 0)
  refused_is x (short e l) = (parting_short ticket device out l ∙ ap (λ r. refusing r out) (sym e), λ z. omega (arith, z))
  refused_is x (unknown e l m) = (parting_unknown ticket device out l m ∙ ap (λ r. refusing r out) (sym e), λ z. omega (arith, z))
  refused_is x (unread c e l m q) = (
    parting_read ticket device out l m ∙ ap (after_reading device out) q ∙ ap (λ r. refusing r out) (sym e),
    λ z. omega (arith, z, number_some c),
  )
  refused_is x (impossible k e l m h n) = (
    reads_on l m k h
        ∙ parted_none device k out (T-false (consistent k) (not_T (consistent k) (λ t. let r = (consistent_has k).0 t in n r.0 r.1)))
        ∙ ap (λ r. refusing r out) (sym e),
    λ z. omega (arith, z),
  )

  -- no cause applies
  record Unrefused (k : Ticket) : Type 0 where
    room : 362 ≤ length out
    known : device ≤ 4
    holds : HoldsTicket ticket k
    has : T (consistent k)

  abbrev Decision : Type 0
  Decision = ((x : ℕ) × Unparted ticket device out x) ⊎ ((k : Ticket) × Unrefused k)

  decide : Decision
  decide =
      ⊎_elim
      (λ (l : length out < 362). inl (10, short refl l))
      (λ (l : 362 ≤ length out). ⊎_elim
      (λ (m : 4 < device). inl (4, unknown refl l m))
      (λ (m : device ≤ 4). read l m (answered read_ticket ticket))
      (below_or_not 4 device))
      (below_or_not (length out) 362)
    where
      scheduled : 362 ≤ length out → device ≤ 4 → (k : Ticket) → HoldsTicket ticket k → (b : Bool) → consistent k ≡ b → Decision
      scheduled l m k h true e = inr (k, record { room = l; known = m; holds = h; has = rw e tt })
      scheduled l m k h false e = inl (9, impossible k refl l m h (λ ts q. subst T e ((consistent_has k).1 (ts, q))))

      read : 362 ≤ length out → device ≤ 4 → ((k : Ticket) × HoldsTicket ticket k) ⊎ ((c : Cause) × (wholly read_ticket ticket ≡ refused c)) → Decision
      read l m (inl r) = scheduled l m r.0 r.1 (consistent r.0) refl
      read l m (inr r) = inl (number r.0, unread r.0 refl l m r.1)

  unrefused_is : (k : Ticket) → Unrefused k → answer ≡ accepting device k out
  unrefused_is k u = reads_on u.room u.known k u.holds ∙ parted_some device k out (T-true (consistent k) u.has)

  -- ---- the theorems

  -- the number is x and not 0 exactly where x is the number of the first cause that applies
  pub part_refusal : (x : ℕ) → Unparted ticket device out x ↔ ((answer.number ≡ x) × (x ≢ 0))
  part_refusal x = (
    λ f.
        let r = refused_is x f in
        (ap (λ (o : Outcome). o.number) r.0, r.1),
    λ q. by q decide,
  )
    where
      by : (answer.number ≡ x) × (x ≢ 0) → Decision → Unparted ticket device out x
      by q (inl r) = subst (Unparted ticket device out) (sym (ap (λ (o : Outcome). o.number) (refused_is r.0 r.1).0) ∙ q.0) r.1
      by q (inr u) = absurd (q.1 (sym q.0 ∙ ap (λ (o : Outcome). o.number) (unrefused_is u.0 u.1)))

  -- a refusal returns zeros and leaves the output as it was
  pub part_zeros : answer.number ≢ 0 → (answer.length ≡ 0) × (answer.total ≡ 0) × (answer.out ≡ out)
  part_zeros n =
      let r = (refused_is answer.number ((part_refusal answer.number).1 (refl, n))).0 in
      (ap (λ (o : Outcome). o.length) r, ap (λ (o : Outcome). o.total) r, ap (λ (o : Outcome). o.out) r)

  -- no number above 10 is given
  pub part_number : answer.number ≤ 10
  part_number = by decide
    where
      under : (x : ℕ) → Unparted ticket device out x → x ≤ 10
      under x (short e l) = omega (arith, e)
      under x (unknown e l m) = omega (arith, e)
      under x (unread c e l m q) = omega (arith, e, malformed_number ticket c q)
      under x (impossible k e l m h n) = omega (arith, e)

      by : Decision → answer.number ≤ 10
      by (inl r) = omega (arith, ap (λ (o : Outcome). o.number) (refused_is r.0 r.1).0, under r.0 r.1)
      by (inr u) = omega (arith, ap (λ (o : Outcome). o.number) (unrefused_is u.0 u.1))

  -- "Impossible tickets get 9", and no other call does
  pub part_nine : (answer.number ≡ 9) ↔ ((k : Ticket) × (362 ≤ length out) × (device ≤ 4) × HoldsTicket ticket k × ((ts : List ℕ) → ¬ Schedule k ts))
  part_nine = (
    λ e. by ((part_refusal 9).1 (e, λ z. omega (arith, z))),
    λ w. ((part_refusal 9).0 (impossible w.0 refl w.1 w.2 w.3 w.4)).0,
  )
    where
      by : Unparted ticket device out 9 → (k : Ticket) × (362 ≤ length out) × (device ≤ 4) × HoldsTicket ticket k × ((ts : List ℕ) → ¬ Schedule k ts)
      by (short e l) = absurd (omega (arith, e))
      by (unknown e l m) = absurd (omega (arith, e))
      by (unread c e l m q) = absurd (omega (arith, e, malformed_number ticket c q))
      by (impossible k e l m h n) = (k, l, m, h, n)

  module _ (bytes : Bytes ticket) where
    parted_of : (k : Ticket) → Unrefused k → Parted ticket device out answer k
    unfolding over
    parted_of k u =
        let a = unrefused_is k u in
        let v = (written_read ticket k [] bytes u.holds).1 in
        let r = (consistent_has k).0 u.has in
        let t : take answer.length answer.out ≡ write_part device k =
        ap (λ (o : Outcome). take o.length o.out) a ∙ take-append_seam (write_part device k) _ in
        record {
          room = u.room;
          known = u.known;
          holds = u.holds;
          times = r.0;
          schedule = r.1;
          number_is = ap (λ (o : Outcome). o.number) a;
          length_is = ap (λ (o : Outcome). o.length) a ∙ (part_size device k v).0;
          fits = omega (arith, ap (λ (o : Outcome). o.length) a, (part_size device k v).1);
          out_is = ap (λ (o : Outcome). o.out) a;
          reads = ap (wholly read_part) t ∙ part_read device k v u.has;
          events_are = numbered_events device k;
          rising = members_rising device k;
          in_a_byte = member_byte device k v;
          chosen = part_chosen k u.has device;
          total_is = ap (λ (o : Outcome). o.total) a;
          empty = λ e. ((part_empty device k e).0, ap (λ (o : Outcome). o.total) a ∙ (part_empty device k e).1);
        }

    -- otherwise the part is written
    pub part_written : (answer.number ≡ 0) ↔ ((k : Ticket) × Parted ticket device out answer k)
    part_written = (λ z. by z decide, λ m. m.1.number_is)
      where
        by : answer.number ≡ 0 → Decision → (k : Ticket) × Parted ticket device out answer k
        by z (inl r) = let q = refused_is r.0 r.1 in absurd (q.1 (sym (ap (λ (o : Outcome). o.number) q.0) ∙ z))
        by z (inr u) = (u.0, parted_of u.0 u.1)

-- ---- the five calls against the plan

-- what a ticket with a plan has
planned_windows : (k : Ticket) (s : State) → plan k ≡ temporal.accepted s → T (consistent k) × (s.windows ≡ best k (fits k))
unfolding plan
planned_windows k s = by (consistent k) refl
  where
    by : (b : Bool) → consistent k ≡ b → cond b (temporal.accepted (temporal.planned k)) (temporal.refused 9) ≡ temporal.accepted s
        → T (consistent k) × (s.windows ≡ best k (fits k))
    by true e q = (subst T (sym e) tt, subst (λ a. Answered a (λ r. ⊥) (λ x. x.windows ≡ best k (fits k))) q refl)
    by false e q = absurd (subst (λ a. Answered a (λ r. Unit {0}) (λ x. ⊥)) q tt)

valid_points : (k : Ticket) → Valid k → Points k
valid_points k v = All-map (λ (r : Rule) (h : ValidRule (events k) r). (h.from_point, h.to_point)) k.rules v.rules_valid

-- the bytes hold the ticket k, whose plan is s; each of the five calls is lent an output that is long enough
module _ (ticket : List ℕ) (bytes : Bytes ticket) (k : Ticket) (holds : HoldsTicket ticket k) (s : State) (plans : plan k ≡ temporal.accepted s)
    (outs : ℕ → List ℕ) (room : (d : ℕ) → d ≤ 4 → 362 ≤ length (outs d)) where
  abbrev call : ℕ → Outcome
  call d = parting ticket d (outs d)

  valid : Valid k
  valid = (written_read ticket k [] bytes holds).1

  some : T (consistent k)
  some = (planned_windows k s plans).0

  accepts : (d : ℕ) → d ≤ 4 → call d ≡ accepting d k (outs d)
  accepts d l = unrefused_is ticket d (outs d) k (record { room = room d l; known = l; holds = holds; has = some })

  -- the five totals returned are the five part totals
  pub five_totals : tab 5 (λ d. (call d).total) ≡ part_totals k
  five_totals = tab_cong 5 (λ d. (call d).total) (λ d. part_total d k) (λ d l. ap (λ (o : Outcome). o.total) (accepts d (omega arith)))

  -- "The five part totals sum to no less than the whole total"
  pub five_at_least : total k s.windows ≤ sum (tab 5 (λ d. (call d).total))
  five_at_least = omega (
    arith,
    ap sum five_totals,
    ap (total k) (planned_windows k s plans).1,
    parts_at_least k some valid.owners_known,
  )

  -- "Where no rule joins events of two devices, the sum equals it, and the part windows are the windows of the whole plan"
  pub five_equal : Separate k → (sum (tab 5 (λ d. (call d).total)) ≡ total k s.windows)
      × ((d : ℕ) → d ≤ 4 → wholly read_part (take (call d).length (call d).out) ≡ got (shown s.windows (members d k)) [])
  unfolding over
  five_equal separate =
      let e = parts_equal k some valid.owners_known (distinct k valid) (valid_points k valid) separate in
      let w = (planned_windows k s plans).1 in (
        ap sum five_totals ∙ e.0 ∙ ap (total k) (sym w),
        λ d l.
            ap (λ (o : Outcome). wholly read_part (take o.length o.out)) (accepts d l)
            ∙ ap (wholly read_part) (take-append_seam (write_part d k) _)
            ∙ part_read d k valid some
            ∙ ap (λ ps. got ps []) (numbered_shown d k s.windows (e.1 d l ∙ ap (restrict d k) (sym w))),
      )
