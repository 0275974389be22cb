-- `reading::rules_at` meets its contract. The invariant is that of `owners_at`, with one list for the three arrays. Assumes nothing.
use Prim.Native.Nat.{◌+◌, ◌*◌, ◌-◌}
use mathlib.Core.Path.{◌≡◌, refl, sym, ap, ap₂, ◌∙◌}
use mathlib.Core.List.{[], ◌∷◌, ◌++◌}
use native.Mathlib.Omega.{arith}
use lib.ListN.{set, drop, length, length-append, length-drop}
use lib.IntN.{pos}
use Rattle.ticket.specs.Parser.{many}
use Rattle.ticket.specs.Format.{read_rule}
use Rattle.ticket.specs.Stored.{pad}
use Rattle.reading.specs.Parts.{rule_of, rules_of}
use Rattle.ticket.proofs.Fields.{rule_fixed}
use Rattle.ticket.proofs.Refusals.{was_ok, passed_up}
use mir.Syntax.{w32}
use mir.ValLaws.{to_z-of_z}
use lib.Seq.{drop-drop}
use Rattle.ticket.specs.Laws.{after}
use Rattle.ticket.proofs.Laws.{after_none, many_more, many_stop, many_done, pad_map}
use borrow.Author.Rules.{rules}
use Rattle.reading.proofs.rules_at.Goals as goal

pub loop-i-init : goal.loop-i-init
unfolding pad
loop-i-init c = let a = c.args in
    let i : a.m - 0 ≡ a.m = omega arith in
    let j : a.at + 0 ≡ a.at = omega arith in
    ([], omega arith, refl, refl, refl, refl, rw (i, j) (sym (after_none _)))

pub returns-in_err-rule : goal.returns-in_err-rule
returns-in_err-rule c = let a = c.args in
    let l = c.loop-i in
    let part = read_rule a.n (drop (a.at + 6 * l.i) a.s.now) in
    let part = read_rule a.n (drop (a.at + 6 * l.i) a.s.now) in
    passed_up rule_of rules_of part _ c.from_residual.result c.from_residual.ensures.1 c.in_err-rule.ensures
    (λ k e. l.invariant.6 ∙ many_stop (read_rule a.n) a.m l.i l.invariant.0 _ k (omega arith) e)

pub loop-i-preserved : goal.loop-i-preserved
loop-i-preserved c = let a = c.args in
    let l = c.loop-i in
    let s = a.s.now in
    let p = a.at + 6 * l.i in
    let rs = l.invariant.0 in
    let (x, t, done, same) = was_ok rule_of (read_rule a.n (drop p s)) c.in_ok-rule.ensures in
    let (rest, room) = rule_fixed a.n (drop p s) x t done in
    let next : p + 6 ≡ a.at + 6 * (l.i + 1) = omega arith in (
      rs ++ x ∷ [],
      omega (arith, room, length-drop p s),
      omega (arith, length-append rs (x ∷ [])),
      ap₂ (λ o v. set o l.i v) l.invariant.3 (ap (λ y. y.from) same) ∙ pad_map (λ y. y.from) 0 256 rs l.i x l.invariant.2 (omega arith),
      ap₂ (λ o v. set o l.i v) l.invariant.4 (ap (λ y. y.to) same) ∙ pad_map (λ y. y.to) 0 256 rs l.i x l.invariant.2 (omega arith),
      rw (to_z-of_z w32 c.in_ok-rule.rule.bound (search rules))
          (ap₂ (λ o v. set o l.i v) l.invariant.5 (ap (λ y. y.bound) same) ∙ pad_map (λ y. y.bound) (pos 0) 256 rs l.i x l.invariant.2 (omega arith)),
      l.invariant.6
          ∙ many_more (read_rule a.n) a.m l.i rs _ x t (omega arith) done
          ∙ ap (λ k. after (rs ++ x ∷ []) (many (read_rule a.n) (a.m - (l.i + 1)) k)) (rest ∙ drop-drop 6 p s ∙ ap (λ k. drop k s) next),
    )

pub returns : goal.returns
returns c = let a = c.args in
    let l = c.loop-i in
    let e : a.m ≡ length l.invariant.0 = omega (arith, l.invariant.2) in
    rw (l.invariant.3, l.invariant.4, l.invariant.5, l.invariant.6 ∙ many_done (read_rule a.n) a.m l.i l.invariant.0 _ (omega arith), ← e)
