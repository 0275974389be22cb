-- `causes::clear` meets its contract: of the part that is filled, as many numbers as it has are 0. Assumes nothing.
use Rattle.std.specs.Prelude.{◌≡◌, ◌++◌, drop, length, replicate, take}
use Rattle.std.proofs.Common.{ap, ◌∙◌, arith}
use Rattle.std.proofs.lemmas.List.{length-take}
use Rattle.runs.specs.Calls.{zeroed}
use Rattle.causes.proofs.clear.Goals as goal

pub returns : goal.returns
unfolding zeroed
returns c = let s = c.args.scratch.now in
    let all : length (take 2400 s) ≡ 2400 = omega (arith, length-take 2400 s) in
    ap (λ xs. xs ++ drop 2400 s) (c.fill.ensures.after (λ y e. e) ∙ ap (λ k. replicate k 0) all)
