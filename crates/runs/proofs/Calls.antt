-- The laws of what specs/Calls defines.
use Rattle.std.specs.Prelude.{◌≡◌, true, false, List, ℕ, ◌≤◌, ◌<◌, length}
use Rattle.std.proofs.Common.{le-leb, lt-ltb, le-ltb}
use Rattle.std.proofs.lemmas.Bool.{lt-leb}
use Rattle.ticket.specs.Parser.{wholly}
use Rattle.ticket.specs.Format.{read_state}
use Rattle.runs.specs.Calls.{after_reading, commit_for, commit_read, committing, plan_read, plan_read_latest, planning, planning_latest, refusing, room, without_room}

-- ---- the same by cases

pub enough_room : (out scratch : List ℕ) → 1958 ≤ length out → 2400 ≤ length scratch → room out scratch ≡ true
unfolding room
enough_room out scratch l m = rw (le-leb 1958 (length out) l, le-leb 2400 (length scratch) m)

pub no_room_out : (out scratch : List ℕ) → length out < 1958 → room out scratch ≡ false
unfolding room
no_room_out out scratch l = rw (lt-leb 1958 (length out) l)

pub no_room_scratch : (out scratch : List ℕ) → 1958 ≤ length out → length scratch < 2400 → room out scratch ≡ false
unfolding room
no_room_scratch out scratch l m = rw (le-leb 1958 (length out) l, lt-leb 2400 (length scratch) m)

module _ (ticket out scratch : List ℕ) where
  pub planning_short : room out scratch ≡ false → planning ticket out scratch ≡ without_room out scratch
  unfolding planning
  planning_short e = rw e

  pub planning_read : room out scratch ≡ true → planning ticket out scratch ≡ plan_read ticket out scratch
  unfolding planning
  planning_read e = rw e

  pub planning_latest_short : room out scratch ≡ false → planning_latest ticket out scratch ≡ without_room out scratch
  unfolding planning_latest
  planning_latest_short e = rw e

  pub planning_latest_read : room out scratch ≡ true → planning_latest ticket out scratch ≡ plan_read_latest ticket out scratch
  unfolding planning_latest
  planning_latest_read e = rw e

module _ (bytes : List ℕ) (caller event opens closes : ℕ) (out scratch : List ℕ) where
  pub committing_short : room out scratch ≡ false → committing bytes caller event opens closes out scratch ≡ without_room out scratch
  unfolding committing
  committing_short e = rw e

  pub committing_read : room out scratch ≡ true → committing bytes caller event opens closes out scratch ≡ commit_read bytes caller event opens closes out scratch
  unfolding committing
  committing_read e = rw e

  pub commit_read_unknown : 4 < caller → commit_read bytes caller event opens closes out scratch ≡ refusing 19 out scratch
  unfolding commit_read
  commit_read_unknown l = rw (lt-ltb 4 caller l)

  pub commit_read_known : caller ≤ 4
      → commit_read bytes caller event opens closes out scratch
      ≡ after_reading out scratch (commit_for caller event opens closes) (wholly read_state bytes)
  unfolding commit_read
  commit_read_known l = rw (le-ltb 4 caller l)
