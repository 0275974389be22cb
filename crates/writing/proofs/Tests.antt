-- What a test answers that is one of several, and a loop of tests. Assumes nothing.
use Rattle.std.specs.Prelude.{ℕ, ◌+◌, ◌<◌, ◌≡◌, [], Ok, Err}
use Rattle.std.proofs.Common.{ap, sym, ◌∙◌, arith}
use Rattle.ticket.specs.Parser.{Cause, got, refused, Out, Parser}
use Rattle.ticket.specs.Refusal.{tested}
use Rattle.ticket.specs.Width.{Fixed}
use Rattle.ticket.specs.Writing.{tests}
use Rattle.ticket.specs.declared.Refusal.{Refusal}
use Rattle.ticket.proofs.Refusals.{was_err, test_passed}
use Rattle.ticket.proofs.WritingLaws.{tests_more, tests_stop}

-- A test that is refused for the cause of another answers its refusal.
pub same_refusal : (o q : Out (Unit {0})) {r : Refusal} → Err r ≡ tested o → ((k : Cause) → o ≡ refused k → q ≡ refused k) → Err r ≡ tested q
same_refusal o q e h = let (k, p, _) = was_err (λ x. x) o e in
    e ∙ ap tested (p ∙ sym (h k p))

module _ (c : ℕ → Parser (Unit {0})) (i : ℕ) (e : tests i c [] ≡ got tt []) where
  -- A test more is passed,
  pub more_passed : Fixed 0 (c i) → Ok tt ≡ tested (c i []) → tests (i + 1) c [] ≡ got tt []
  more_passed f o = tests_more c [] i e ∙ test_passed (c i) f [] o

  -- or its refusal is that of all tests.
  pub more_refused : (n : ℕ) {r : Refusal} → i < n → Err r ≡ tested (c i []) → Err r ≡ tested (tests n c [])
  more_refused n l o = same_refusal (c i []) (tests n c []) o (λ k q. tests_stop c [] (i + 1) n k (omega arith) (tests_more c [] i e ∙ q))
