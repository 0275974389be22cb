-- `causes::cause` meets its contract: the tests are those of `temporal`, in arrays. Assumes nothing.
use Rattle.std.proofs.Common.{refl, arith}
use Rattle.causes.specs.Structs.{canonical_few, lies_asked}
use Rattle.causes.specs.FirstCause.{cause_told}
use Rattle.causes.proofs.cause.Goals as goal

pub fit-fit-requires : goal.fit-fit-requires
fit-fit-requires c =
    let asked = lies_asked c.requires.0 in
    record { valid = asked.0; lie = asked.1 }

pub overflow_cast-t : goal.overflow_cast-t
overflow_cast-t c = omega (arith, canonical_few c.args.r c.requires.0)

pub owns-own-requires : goal.owns-own-requires
owns-own-requires c = (canonical_few c.args.r c.requires.0, c.requires.1)

pub returns : goal.returns
returns c = cause_told c.args.r c.requires.0 c.args.caller c.args.event c.args.opens c.args.closes c.requires.1
    c.fit-fit.ensures c.owns-own.ensures c.number_at.ensures c.number_at-2.ensures c.outside-leaves.ensures refl c.first_cause.ensures
