-- `names::entry` meets its contract: each test that fails answers None, and where all hold the answer is the length byte.
use Rattle.std.proofs.Common.{◌≤◌, sym, ◌∙◌, arith}
use Rattle.std.proofs.lemmas.Grind.{common_steps}
use native.Mathlib.Nat.{sub-zero}
use Rattle.names.specs.Laws.{Named, entry_none, entry_not, entry_letters}
use Rattle.names.proofs.entry.Goals as goal

pub returns-in_err-n : goal.returns-in_err-n
returns-in_err-n c = c.from_residual.ensures ∙ sym (entry_none c.args.bytes.now c.in_err-n.ensures.cases)

pub returns-then-not-contains : goal.returns-then-not-contains
returns-then-not-contains c =
    sym (entry_not c.in_ok-n.ensures.cases.0 (λ (f : Named c.in_ok-n.n.now c.in_ok-n.rest.now).
    let l = f.least in
    let m = f.most in
    grind (arith, common_steps, c.from-n.ensures, c.new.ensures, c.if-not-contains.ensures.cases)))

pub returns-in_err-name : goal.returns-in_err-name
returns-in_err-name c =
    c.from_residual-in_err-name.ensures
    ∙ sym (entry_not c.in_ok-n.ensures.cases.0 (λ (f : Named c.in_ok-n.n.now c.in_ok-n.rest.now). omega (arith, f.inside, c.in_err-name.ensures.lookup)))

pub returns : goal.returns
returns c =
    let n = c.in_ok-n.n.now in
    let name = c.in_ok-name.ensures.lookup.0 in
    let low : 1 ≤ n = grind (arith, common_steps, c.from-n.ensures, c.new.ensures, c.if-not-contains.ensures.cases) in
    let high : n ≤ 16 = grind (arith, common_steps, c.from-n.ensures, c.new.ensures, c.if-not-contains.ensures.cases) in
    c.then_some.ensures ∙ rw (c.letters.ensures, name.2, c.from-n.ensures, sub-zero) (sym (entry_letters c.in_ok-n.ensures.cases.0 low high (omega arith)))
