-- `reading_records::counts_at` meets its contract. The invariant: what was read so far stands before what is left to read. Assumes nothing.
use Prim.Native.Nat.{◌+◌, ◌*◌}
use mathlib.Core.Path.{◌≡◌, refl, sym, ap, ap₂, ◌∙◌}
use mathlib.Core.List.{[], ◌∷◌, ◌++◌}
use native.Mathlib.Omega.{arith}
use lib.ListN.{get_or, set, drop, length-append, length-drop}
use lib.Seq.{drop-drop}
use Rattle.ticket.specs.Format.{read_count, each_count}
use Rattle.ticket.specs.Stored.{pad}
use Rattle.ticket.proofs.Fields.{count_fixed}
use Rattle.ticket.proofs.Refusals.{was_ok, passed_up}
use Rattle.ticket.specs.Laws.{after}
use Rattle.ticket.proofs.Laws.{after_none, pad_set}
use Rattle.ticket.proofs.Stages.{counts_more, counts_stop, counts_read}
use Rattle.reading_records.proofs.counts_at.Goals as goal

pub loop-o-init : goal.loop-o-init
unfolding pad
loop-o-init c = let a = c.args in
    let j : a.at + 0 ≡ a.at = omega arith in
    ([], omega arith, refl, refl, rw j (sym (after_none _)))

pub returns-in_err-counts : goal.returns-in_err-counts
returns-in_err-counts c = let a = c.args in
    let l = c.loop-o in
    let part = read_count (get_or a.xs.now l.o 0) (drop (a.at + 2 * l.o) a.s.now) in
    passed_up (λ k. k) (pad 0 5) part _ c.from_residual.result c.from_residual.ensures.1 c.in_err-counts.ensures
    (λ k e. l.invariant.4 ∙ counts_stop a.xs.now l.o l.invariant.0 _ k (omega arith) e)

pub loop-o-preserved : goal.loop-o-preserved
loop-o-preserved c = let a = c.args in
    let l = c.loop-o in
    let s = a.s.now in
    let xs = a.xs.now in
    let p = a.at + 2 * l.o in
    let ks = l.invariant.0 in
    let (k, t, done, same) = was_ok (λ x. x) (read_count (get_or xs l.o 0) (drop p s)) c.in_ok-counts.ensures in
    let (rest, room) = count_fixed (get_or xs l.o 0) (drop p s) k t done in
    let next : p + 2 ≡ a.at + 2 * (l.o + 1) = omega arith in (
      ks ++ k ∷ [],
      omega (arith, room, length-drop p s),
      omega (arith, length-append ks (k ∷ [])),
      ap₂ (λ cs v. set cs l.o v) l.invariant.3 same ∙ pad_set 0 5 ks l.o k l.invariant.2 (omega arith),
      l.invariant.4
          ∙ counts_more xs l.o ks _ k t (omega arith) done
          ∙ ap (λ u. after (ks ++ k ∷ []) (each_count (drop (l.o + 1) xs) u)) (rest ∙ drop-drop 2 p s ∙ ap (λ u. drop u s) next),
    )

pub returns : goal.returns
returns c = let a = c.args in
    let l = c.loop-o in
    rw (l.invariant.3, l.invariant.4 ∙ counts_read a.xs.now l.o l.invariant.0 _ (omega arith))
