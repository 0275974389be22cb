-- The laws of what specs/View defines.
use Rattle.std.specs.Prelude.{◌≡◌, true, false, List, ℕ, ◌≤◌, ◌<◌, length}
use borrow.Author.Tests.{le-leb, lt-leb, lt-ltb, le-ltb}
use Rattle.temporal.specs.Ticket.{fits}
use Rattle.temporal.specs.Plan.{State}
use Rattle.ticket.specs.Parser.{wholly}
use Rattle.ticket.specs.Format.{read_state}
use Rattle.viewing.specs.View.{after_reading, refusing, showing, view, viewed, viewing}

-- ---- the same by cases

module _ (bytes : List ℕ) (caller : ℕ) (out : List ℕ) where
  pub viewing_short : length out < 402 → viewing bytes caller out ≡ refusing 10 out
  unfolding viewing
  viewing_short l = rw (lt-leb 402 (length out) l)

  pub viewing_unknown : 402 ≤ length out → 4 < caller → viewing bytes caller out ≡ refusing 19 out
  unfolding viewing
  viewing_unknown l m = rw (le-leb 402 (length out) l, lt-ltb 4 caller m)

  pub viewing_read : 402 ≤ length out → caller ≤ 4 → viewing bytes caller out ≡ after_reading caller out (wholly read_state bytes)
  unfolding viewing
  viewing_read l m = rw (le-leb 402 (length out) l, le-ltb 4 caller m)

module _ (caller : ℕ) (s : State) (out : List ℕ) where
  pub viewed_unfit : fits s.ticket s.windows ≡ false → viewed caller s out ≡ refusing 15 out
  unfolding viewed
  viewed_unfit e = rw e

  pub viewed_fit : fits s.ticket s.windows ≡ true → viewed caller s out ≡ showing (view caller s) out
  unfolding viewed
  viewed_fit e = rw e
