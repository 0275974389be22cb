-- The laws of what specs/Refusal defines. Assumes nothing.
use Rattle.std.specs.Prelude.{ℕ, ◌<◌, ◌≡◌, refl, List, Result, Ok, Err}
use Rattle.std.proofs.Common.{ap, ◌∙◌, arith}
use Rattle.std.proofs.lemmas.Result.{err_from_is_err_and}
use Rattle.std.specs.Result.{IsErrAnd}
use Rattle.ticket.specs.Parser.{Cause, short, horizon, events, owner, rules, points, bound, trailing, room, layout, number, Out, got, refused, Parser}
use Rattle.ticket.specs.Refusal.{number_of, refusal, answer, tested, answer_number}
use Rattle.ticket.specs.Width.{Fixed}
use Rattle.ticket.specs.declared.Refusal.{Refusal}
use Rattle.ticket.specs.declared.Refusal.TheVariants.{Short, Horizon, Events, Owner, Rules, Points, Bound, Trailing, Impossible, Room, Outside, Layout, Unfit, Names, Possible, Full, Caller, Foreign}

-- A refusal has the number of its cause.
pub refusal_number : (k : Cause) → number_of (refusal k) ≡ number k
unfolding number
refusal_number short = refl
refusal_number horizon = refl
refusal_number events = refl
refusal_number owner = refl
refusal_number rules = refl
refusal_number points = refl
refusal_number bound = refl
refusal_number trailing = refl
refusal_number room = refl
refusal_number layout = refl

-- No refusal has the number of an accepted call.
pub number_positive : (r : Refusal) → 0 < number_of r
number_positive Short = omega arith
number_positive Horizon = omega arith
number_positive Events = omega arith
number_positive Owner = omega arith
number_positive Rules = omega arith
number_positive Points = omega arith
number_positive Bound = omega arith
number_positive Trailing = omega arith
number_positive Impossible = omega arith
number_positive Room = omega arith
number_positive Outside = omega arith
number_positive Layout = omega arith
number_positive Unfit = omega arith
number_positive Names = omega arith
number_positive Possible = omega arith
number_positive Full = omega arith
number_positive Caller = omega arith
number_positive Foreign = omega arith

module _ {A B : Type 0} (f : A → B) where
  -- A reading that answers a value got it,
  pub was_ok : (o : Out A) {v : B} → Ok v ≡ answer f o → (x : A) × (s : List ℕ) × (o ≡ got x s) × (v ≡ f x)
  was_ok (got x s) e = (x, s, refl, cc)
  was_ok (refused k) e = absurd cc

  -- and one that answers a refusal was refused for its cause.
  pub was_err : (o : Out A) {r : Refusal} → Err r ≡ answer f o → (k : Cause) × (o ≡ refused k) × (r ≡ refusal k)
  was_err (got x s) e = absurd cc
  was_err (refused k) e = (k, refl, cc)

  -- The number of an answer is that of the cause.
  pub answer_number_refused : (o : Out A) {r : Result B Refusal} (k : Cause) → r ≡ answer f o → o ≡ refused k → answer_number r ≡ number k
  answer_number_refused o k e q = rw (e, q) (refusal_number k)

-- A refusal that `?` passes on is answered as it is.
pub passed_on : {D : Type 0} (x : Result D Refusal) {r : Refusal} → IsErrAnd x (λ y. y ≡ r) → x ≡ Err r
passed_on x passed =
    let (y, p, same) = err_from_is_err_and x passed in
    p ∙ ap Err same

-- A part's refusal r, passed up as x: what is refused with the part answers it.
pub passed_up : {A B C D : Type 0} (f : A → B) (g : C → D) (part : Out A) (whole : Out C) {r : Refusal} (x : Result D Refusal) → IsErrAnd x (λ y. y ≡ r)
    → Err r ≡ answer f part → ((k : Cause) → part ≡ refused k → whole ≡ refused k) → x ≡ answer g whole
passed_up f g part whole x passed e up =
    let (k, q, cause) = was_err f part e in
    passed_on x passed ∙ ap Err cause ∙ rw (up k q)

-- A test that reads nothing, and answers no refusal, is passed.
pub test_passed : (p : Parser (Unit {0})) → Fixed 0 p → (s : List ℕ) → Ok tt ≡ tested (p s) → p s ≡ got tt s
test_passed p f s e =
    let (x, t, q, _) = was_ok (λ x. x) (p s) e in
    q ∙ ap (got tt) (f s x t q).0
