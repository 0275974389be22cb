-- The mirror as a ticket, for the code: a bound of a rule from the start is cut at the horizon, where every event lies anyhow. It has the same
-- schedules and fit sets as the mirror, so its earliest plan is the mirror of the latest plan (`latest_cut_mirror`, `plan_latest_cut_mirror`). Where each
-- rule with the start can be kept at all, as in every ticket that has a schedule (`schedule_possible`), the bounds lie in a ticket's range again
-- (`cut_mirror_valid`). Rests on LatestMirror.
use Rattle.std.specs.Prelude.{◌≡◌, cond, map, ℕ, zero, suc, ◌≤◌, ℤ, pos}
use Rattle.std.specs.Int.Signed.{le_z}
use Rattle.temporal.specs.Bound.{below}
use Rattle.temporal.specs.Ticket.{Rule, Ticket}
use Rattle.temporal.specs.Plan.{Answer, refused, accepted}
use Rattle.mirror.specs.Mirror.{mirror_bound, mirror, mirror_windows}

-- ---- the definitions

-- the smaller of two integers
abbrev pub minℤ : ℤ → ℤ → ℤ
minℤ a b = cond (le_z a b) a b

-- the bound of a rule from the start, and no other, is cut at the horizon
unfoldable pub cut_bound : (h from : ℕ) → ℤ → ℤ
cut_bound h zero c = minℤ c (pos h)
cut_bound h (suc i) c = c

-- the bound of a rule's mirror, cut
abbrev pub cut_mirror_bound : (h from to : ℕ) → ℤ → ℤ
cut_mirror_bound h i j c = cut_bound h j (mirror_bound h i j c)

-- the points as they are
abbrev pub cut_rule : ℕ → Rule → Rule
cut_rule h r = record { from = r.from; to = r.to; bound = cut_bound h r.from r.bound }

-- every rule cut, horizon and owners as they are
abbrev pub cut : Ticket → Ticket
cut k = record { horizon = k.horizon; owners = k.owners; rules = map (cut_rule k.horizon) k.rules }

-- the mirror in which "0 to j: c + H" is cut to "0 to j: min (c + H) H"
abbrev pub cut_mirror : Ticket → Ticket
cut_mirror k = cut (mirror k)

-- ticks from 0 to h can keep the rule where one of its points is the start: "0 to j: c" with c from 0 up, "j to 0: c" with c from -h up
abbrev pub Possible : ℕ → Rule → Type 0
Possible h r = (r.from ≡ 0 → below r.bound ≡ 0) × (r.to ≡ 0 → below r.bound ≤ h)

-- the answer to the mirror, turned back: the windows mirrored, the ticket the one that was asked
abbrev pub turned_back : Ticket → Answer → Answer
turned_back k (refused r) = refused r
turned_back k (accepted s) = accepted (record { ticket = k; windows = mirror_windows k.horizon s.windows; flags = s.flags; counts = s.counts })
