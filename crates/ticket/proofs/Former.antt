-- The laws of what specs/Former defines.
use Rattle.std.specs.Prelude.{ℕ, ◌<◌, ◌≡◌, refl, ◌≢◌, length}
use Rattle.std.proofs.Common.{subst, ◌∙◌, arith}
use mathlib.Core.List.{List, [], append-nil}
use Rattle.temporal.specs.Lists.{All, tab}
use Rattle.temporal.specs.Ticket.{Ticket}
use Rattle.temporal.specs.Run.{Valid, device_flags}
use Rattle.ticket.specs.Parser.{Cause, short, layout, got, refused, little, wholly}
use Rattle.ticket.specs.Format.{Entry, flags_in, each_count, read_counts, flag_counts, read_state}
use Rattle.ticket.specs.Writer.{bytes}
use Rattle.ticket.proofs.Laws.{little_short}
use Rattle.ticket.proofs.Stages.{bad_counts, other_devices, same_devices, other_number, same_number, no_count_lem}
use Rattle.ticket.proofs.RoundTrip.{little_forth, ticket_forth, windows_forth}
use Rattle.ticket.specs.RoundTrip.{LiesIn}
use Rattle.ticket.specs.Former.{former_bytes}

module _ (t : Ticket) (es : List Entry) (valid : Valid t) (long : length es ≡ length t.owners) (lies : All (LiesIn t.horizon) es) where
  counts_refused : (k : ℕ) (c : Cause) → read_counts (flag_counts t.owners (flags_in es)) (bytes 2 k) ≡ refused c → wholly read_state (former_bytes t es k) ≡ refused c
  counts_refused k c e =
      rw (bad_counts (former_bytes t es k) t _ (ticket_forth t _ valid) es (bytes 2 k)
      (windows_forth (length t.owners) t.horizon es (bytes 2 k) valid.events_limit valid.horizon_limit long lies) c e)

  number_read : (k : ℕ) → k < 65536 → little 2 (bytes 2 k) ≡ got k []
  number_read k l = subst (λ (b : List ℕ). little 2 b ≡ got k []) (append-nil (bytes 2 k)) (little_forth 2 k [] (omega arith))

  pub former_layout : (k : ℕ) → k < 65536 → k ≢ 5 → wholly read_state (former_bytes t es k) ≡ refused layout
  former_layout k l n = counts_refused k layout (other_devices _ (bytes 2 k) layout (other_number 5 (bytes 2 k) k [] (number_read k l) n))

  pub former_short : wholly read_state (former_bytes t es 5) ≡ refused short
  unfolding each_count tab
  former_short =
      counts_refused 5 short
      (same_devices _ (bytes 2 5) [] (same_number 5 (bytes 2 5) 5 [] (number_read 5 (omega arith)) refl) ∙ rw (no_count_lem (device_flags 0 t.owners (flags_in es)) [] (little_short 2 [] (omega arith))))
