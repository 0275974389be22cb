-- Scratch of planning, the latest plan and commitment (02, change 9). A call answers 10 exactly where output or scratch is too short (`plan_ten`, `latest_ten`,
-- `commit_ten`). With 2,400 numbers or more of scratch, what is returned and written depends neither on how many there are nor on what they hold (`plan_alike`,
-- `latest_alike`, `commit_alike`). After every answer but 10 the first 2,400 are 0 and the rest is as it was, and after 10 all are as they were (`plan_leaves`,
-- `latest_leaves`, `commit_leaves`). Rests on Calls, Refusals and Latest.
use Rattle.std.specs.Prelude.{◌≡◌, List, ◌⊎◌, ◌≢◌, ℕ, ◌<◌, length, take, drop, replicate}
use Rattle.runs.specs.Calls.{Outcome}

-- ---- what is claimed

-- the output or the scratch is too short
abbrev pub Short : List ℕ → List ℕ → Type 0
Short out scratch = (length out < 1958) ⊎ (length scratch < 2400)

-- "the same records, totals and refusals": only what is left in the scratch may differ
pub record Alike (o p : Outcome) : Type 0 where
  pub number : o.number ≡ p.number
  pub length : o.length ≡ p.length
  pub total : o.total ≡ p.total
  pub out : o.out ≡ p.out

-- "They clear those first 2,400", after every answer but 10; the rest is untouched (01, "Network, table, plan")
pub record Leaves (scratch : List ℕ) (o : Outcome) : Type 0 where
  pub clears : o.number ≢ 10 → take 2400 o.scratch ≡ replicate 2400 0
  pub rest : drop 2400 o.scratch ≡ drop 2400 scratch
  pub untouched : o.number ≡ 10 → o.scratch ≡ scratch
