-- The theorem of two records on bytes. Rests on States.
use Rattle.std.specs.Prelude.{◌≡◌, length}
use Rattle.std.proofs.Math.Path.{ap}
use Rattle.std.proofs.Common.{sym, ◌∙◌}
use mathlib.Core.List.{List, []}
use Prim.Native.Nat.{ℕ, ◌+◌, ◌*◌, ◌≤◌}
use native.Mathlib.Omega.{arith}
use Rattle.temporal.specs.Plan.{State, asking, number, commit}
use Rattle.temporal.specs.Run.{Readable}
use Rattle.ticket.proofs.RoundTrip.{written_read_state}
use Rattle.runs.specs.Calls.{committing}
use Rattle.runs.proofs.Calls.{enough_room}
use Rattle.runs.proofs.RunHolds.{outcome_number}
use Rattle.viewing.specs.View.{viewing}
use Rattle.viewing.specs.Viewed.{Shown}
use Rattle.viewing.proofs.Viewed.{shown_of}
use Rattle.viewing.specs.Noninterference.{Given, Noninterference, SameTo}
use Rattle.viewing.proofs.States.{same_seen, same_view, same_number}

-- ---- on bytes

module _ (d : ℕ) (given : List ℕ) (s : State) (g : Given given s) where
  readable : Readable s
  readable = (written_read_state given s [] g.bytes g.holds).1

  shows : d ≤ 3 → (out : List ℕ) → 402 ≤ length out → Shown given d out (viewing given d out) s
  shows k out l = shown_of given d out l (omega arith) s readable g.holds g.fit

  answers_as : (event opens closes : ℕ) (out scratch : List ℕ) → 1958 ≤ length out → 2400 ≤ length scratch
      → (committing given d event opens closes out scratch).number ≡ number (commit s (asking d event opens closes))
  answers_as event opens closes out scratch l m =
      outcome_number given s g.holds (record { caller = d; event = event; opens = opens; closes = closes; out = out; scratch = scratch })
      ∙ ap (λ b. number (commit s (record { room = b; caller = d; event = event; opens = opens; closes = closes }))) (enough_room out scratch l m)

-- the view and the number answered depend on nothing but the device's own
pub noninterference : (d : ℕ) → d ≤ 3 → (given given' : List ℕ) (s s' : State)
    → Given given s → Given given' s' → SameTo d s s' → Noninterference d given given'
noninterference d l given given' s s' g g' a = record {
  shown = λ out m. ((shows d given s g l out m).number_is, (shows d given' s' g' l out m).number_is);
  views = λ out out' m m'.
      let v = shows d given s g l out m in
      let v' = shows d given' s' g' l out' m' in (
        v.length_is ∙ ap (λ n. 2 + 10 * n) (ap length (same_seen d l s s' a)) ∙ sym v'.length_is,
        v.written_is ∙ same_view d l s s' a ∙ sym v'.written_is,
      );
  answers = λ event opens closes out scratch out' scratch' m n m' n'.
      answers_as d given s g event opens closes out scratch m n
      ∙ same_number s s' (readable d given s g) (readable d given' s' g') g.fit g'.fit (asking d event opens closes) a
      ∙ sym (answers_as d given' s' g' event opens closes out' scratch' m' n');
}
