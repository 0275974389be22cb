-- `reading_records::windows_at` meets its contract. The invariant is that of `rules_at`. Assumes nothing.
use Prim.Native.Nat.{◌+◌, ◌*◌, ◌-◌}
use mathlib.Core.Path.{◌≡◌, refl, sym, ap, ap₂, ◌∙◌}
use mathlib.Core.List.{[], ◌∷◌, ◌++◌}
use native.Mathlib.Omega.{arith}
use lib.ListN.{set, drop, length-append, length-drop}
use lib.Seq.{drop-drop}
use Rattle.ticket.specs.Parser.{many}
use Rattle.ticket.specs.Format.{Entry, read_window}
use Rattle.ticket.specs.Writer.{flag_byte}
use Rattle.ticket.specs.Stored.{pad}
use Rattle.reading_records.specs.Parts.{window_of, windows_of}
use Rattle.ticket.proofs.Fields.{window_fixed}
use Rattle.ticket.proofs.Refusals.{was_ok, passed_up}
use Rattle.ticket.specs.Laws.{after}
use Rattle.ticket.proofs.Laws.{after_none, many_more, many_stop, many_done, pad_map}
use Rattle.reading_records.proofs.windows_at.Goals as goal

pub loop-i-init : goal.loop-i-init
unfolding pad
loop-i-init c = let a = c.args in
    let i : a.n - 0 ≡ a.n = omega arith in
    let j : a.at + 0 ≡ a.at = omega arith in
    ([], omega arith, refl, refl, refl, refl, rw (i, j) (sym (after_none _)))

pub returns-in_err-window : goal.returns-in_err-window
returns-in_err-window c = let a = c.args in
    let l = c.loop-i in
    let part = read_window a.h (drop (a.at + 9 * l.i) a.s.now) in
    passed_up window_of windows_of part _ c.from_residual.result c.from_residual.ensures.1 c.in_err-window.ensures
    (λ k e. l.invariant.6 ∙ many_stop (read_window a.h) a.n l.i l.invariant.0 _ k (omega arith) e)

pub loop-i-preserved : goal.loop-i-preserved
loop-i-preserved c = let a = c.args in
    let l = c.loop-i in
    let s = a.s.now in
    let p = a.at + 9 * l.i in
    let es = l.invariant.0 in
    let (x, t, done, same) = was_ok window_of (read_window a.h (drop p s)) c.in_ok-window.ensures in
    let (rest, room) = window_fixed a.h (drop p s) x t done in
    let next : p + 9 ≡ a.at + 9 * (l.i + 1) = omega arith in (
      es ++ x ∷ [],
      omega (arith, room, length-drop p s),
      omega (arith, length-append es (x ∷ [])),
      ap₂ (λ o v. set o l.i v) l.invariant.3 (ap (λ y. y.flag) same) ∙ pad_map (λ (y : Entry). flag_byte y.committed) 0 40 es l.i x l.invariant.2 (omega arith),
      ap₂ (λ o v. set o l.i v) l.invariant.4 (ap (λ y. y.opens) same) ∙ pad_map (λ (y : Entry). y.window.opens) 0 40 es l.i x l.invariant.2 (omega arith),
      ap₂ (λ o v. set o l.i v) l.invariant.5 (ap (λ y. y.closes) same) ∙ pad_map (λ (y : Entry). y.window.closes) 0 40 es l.i x l.invariant.2 (omega arith),
      l.invariant.6
          ∙ many_more (read_window a.h) a.n l.i es _ x t (omega arith) done
          ∙ ap (λ k. after (es ++ x ∷ []) (many (read_window a.h) (a.n - (l.i + 1)) k)) (rest ∙ drop-drop 9 p s ∙ ap (λ k. drop k s) next),
    )

pub returns : goal.returns
returns c = let a = c.args in
    let l = c.loop-i in
    rw (l.invariant.3, l.invariant.4, l.invariant.5, l.invariant.6 ∙ many_done (read_window a.h) a.n l.i l.invariant.0 _ (omega arith))
