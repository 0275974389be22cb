-- The laws of what specs/FinerRun defines.
use Rattle.std.specs.Prelude.{◌≡◌, List, [], ◌∷◌, ◌≢◌, ℕ, ◌≤◌}
use Rattle.std.proofs.Common.{sym, subst, ◌∙◌, arith}
use Rattle.temporal.specs.Ticket.{Ticket, Schedule, Window, Fit, total}
use Rattle.temporal.specs.Plan.{State, Commitment}
use Rattle.temporal.proofs.RunHolds.{distinct}
use Rattle.ticket.specs.Parser.{got, wholly}
use Rattle.ticket.proofs.Laws.{number_not_nine}
use Rattle.ticket.specs.Format.{read_ticket}
use Rattle.ticket.specs.RoundTrip.{Bytes}
use Rattle.ticket.proofs.RoundTrip.{written_read}
use Rattle.runs.specs.Calls.{Outcome, planning, planning_latest}
use Rattle.runs.specs.Run.{Call, asks, outcome, written, Current, Claim, Unplanned, short, unread, impossible, Start, planned, given}
use Rattle.runs.proofs.RunHolds.{run}
use Rattle.runs.proofs.Latest.{latest_run}
use Rattle.rounding.specs.Grid.{FineFit, FineAllowed, NoneWider}
use Rattle.rounding.proofs.Finer.{finer_fit, finer_none, finer_allowed}
use Rattle.rounding.specs.FinerRun.{FinerClaim, FinerPlan, FinerRun}

-- ---- the commitments

place_of : (start : State) (done : List Commitment) (current : List ℕ) (now : State) (cs : List Call) → Claim start done current now cs → Current start done current now
place_of start done current now [] h = h
place_of start done current now (c ∷ cs) h = h.0

claim : (start : State) (done : List Commitment) (current : List ℕ) (now : State) (cs : List Call) → Claim start done current now cs → FinerClaim start done current now cs
claim start done current now [] h = tt
claim start done current now (c ∷ cs) h = (
  λ n. claim start done current now cs (h.1 n).1,
  λ z.
      let r = h.2 z in
      let next = r.0 in
      let a = r.1 in
      let at = place_of start (asks c ∷ done) (written (outcome current c)) next cs r.2 in (
        next,
        at.holds,
        subst (λ most. NoneWider next.ticket most (λ q. FineAllowed q next.ticket start (asks c ∷ done) now.windows)) (sym a.sum)
            (finer_allowed next.ticket (distinct next.ticket at.place.readable.valid) start (asks c ∷ done) now.windows next.windows
            a.chosen.allowed a.chosen.widest),
        claim start (asks c ∷ done) (written (outcome current c)) next cs r.2,
      ),
)

-- ---- either plan

-- what both plans have of `Planned` and `PlannedLatest`
record Widest (ticket : List ℕ) (o : Outcome) (s : State) : Type 0 where
  pub read : wholly read_ticket ticket ≡ got s.ticket []
  pub fit : Fit s.ticket s.windows
  pub widest : (ws : List Window) → Fit s.ticket ws → total s.ticket ws ≤ total s.ticket s.windows
  pub sum : o.total ≡ total s.ticket s.windows

module _ (ticket out scratch : List ℕ) (bytes : Bytes ticket) (o : Outcome) (cs : List Call) where
  none : (r : ℕ) → r ≡ 9 → Unplanned ticket out scratch r → (k : Ticket) → wholly read_ticket ticket ≡ got k [] → (q : ℕ) → 1 ≤ q → (ws : List Window) → ¬ FineFit q k ws
  none r e (short f n) k g = absurd (omega (arith, e, f))
  none r e (unread c f t n) k g = absurd (number_not_nine c (sym f ∙ e))
  none r e (impossible k' f t g' n) k g =
      let same : k' ≡ k = cc in
      finer_none k (distinct k (written_read ticket k [] bytes g).1) (subst (λ (x : Ticket). (ts : List ℕ) → ¬ Schedule x ts) same n)

  plan : (o.number ≢ 0 → Unplanned ticket out scratch o.number) → (o.number ≡ 0 → (s : State) × Widest ticket o s × Claim s [] (written o) s cs) → FinerPlan ticket o cs
  plan refused made = record {
    accepted = λ z.
        let r = made z in
        let s = r.0 in
        let w = r.1 in
        let at = place_of s [] (written o) s cs r.2 in (
          s,
          w.read,
          at.holds,
          subst (λ most. NoneWider s.ticket most (λ q. FineFit q s.ticket)) (sym w.sum)
              (finer_fit s.ticket (distinct s.ticket at.place.readable.valid) s.windows w.fit w.widest),
          claim s [] (written o) s cs r.2,
        );
    nine = λ e. none o.number e (refused (λ z. omega (arith, e, z)));
  }

-- ---- the theorems

-- 02, change 10, for every start of a run and every list of commitments
pub finer_run : (start : Start) (cs : List Call) → FinerRun start cs
finer_run (planned ticket out scratch) cs = λ bytes.
    let r = run (planned ticket out scratch) cs bytes in
    plan ticket out scratch bytes (planning ticket out scratch) cs r.0 (λ z.
    let (s, p, c) = r.1 z in
    (s, record { read = p.read; fit = p.chosen.allowed; widest = p.chosen.widest; sum = p.sum }, c))
finer_run (given current) cs = λ bytes s holds fit. claim s [] current s cs (run (given current) cs bytes s holds fit)

-- and for every latest plan
pub finer_latest : (ticket out scratch : List ℕ) (cs : List Call) → Bytes ticket → FinerPlan ticket (planning_latest ticket out scratch) cs
finer_latest ticket out scratch cs bytes =
    let r = latest_run ticket out scratch cs bytes in
    plan ticket out scratch bytes (planning_latest ticket out scratch) cs r.0 (λ z.
    let (s, p, c) = r.1 z in
    (s, record { read = p.read; fit = p.chosen.allowed; widest = p.chosen.widest; sum = p.sum }, c))
