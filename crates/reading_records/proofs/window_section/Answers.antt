-- `reading_records::window_section` meets its contract. Each return is one part of the parser. Assumes nothing.
use mathlib.Core.Path.{sym, ap, ◌∙◌}
use lib.ListN.{drop}
use Rattle.ticket.specs.Format.{read_same}
use Rattle.ticket.specs.Refusal.{answer}
use Rattle.ticket.proofs.Refusals.{passed_up}
use Rattle.ticket.proofs.Stages.{other_events, same_events}
use Rattle.reading_records.specs.Parts.{windows_of}
use Rattle.reading_records.specs.Rest.{same_got}
use Rattle.reading_records.proofs.window_section.Goals as goal

pub returns-in_err-same_at : goal.returns-in_err-same_at
returns-in_err-same_at c = let a = c.args in
    let s = drop a.at a.s.now in
    passed_up (λ u. u) windows_of (read_same a.n s) _ c.from_residual.result c.from_residual.ensures.1 c.in_err-same_at.ensures (other_events a.n a.h s)

pub windows_at-requires : goal.windows_at-requires
windows_at-requires c = let a = c.args in
    ((same_got a.s.now a.at a.n c.requires.0 c.in_ok-same_at.ensures).1, c.requires.1)

pub returns : goal.returns
returns c = let a = c.args in
    let known = same_got a.s.now a.at a.n c.requires.0 c.in_ok-same_at.ensures in
    c.windows_at.ensures ∙ ap (answer windows_of) (sym (same_events a.n a.h (drop a.at a.s.now) _ known.0))
