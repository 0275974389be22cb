-- What reading bytes and writing them back answers: the number, the length that is stored, and the output afterwards.
use Rattle.std.specs.Prelude.{ℕ, ◌≤◌, ◌<◌, min, ◌≡◌, refl, cond, List, [], leb, length, Result, Ok, Err}
use Rattle.std.specs.Result.{result_unwrap_or}
use Rattle.std.proofs.Common.{sym, ap, ◌∙◌, le-leb}
use Rattle.std.proofs.lemmas.Bool.{lt-leb}
use Rattle.ticket.specs.Parser.{number, Out, got, refused, Parser, wholly}
use Rattle.ticket.specs.Refusal.{number_of, answer, answer_number}
use Rattle.ticket.proofs.Refusals.{was_ok, was_err, refusal_number}
use Rattle.ticket.specs.Format.{read_ticket, read_state}
use Rattle.ticket.specs.Stored.{stored, stored_state, whole_ticket, whole_record}
use Rattle.ticket.specs.Writing.{over, left, writing, writing_record}
use Rattle.ticket.specs.RoundTrip.{Bytes}
use Rattle.ticket.proofs.Agree.{reread, reread_state}
use Rattle.ticket.specs.declared.Ticket.{Ticket}
use Rattle.ticket.specs.declared.Record.{Record}
use Rattle.ticket.specs.declared.Refusal.{Refusal}

-- x where 32 bits hold it, else the largest number that they hold
abbrev pub narrow : ℕ → ℕ
narrow x = min x 4294967295

pub record Rewritten : Type 0 where
  pub number : ℕ
  pub length : ℕ
  pub out : List ℕ

-- a refusal leaves the output as it was
abbrev pub unwritten : ℕ → List ℕ → Rewritten
unwritten n out = record { number = n; length = 0; out = out }

-- what is read without a cause stands at the start of the output as it came, and the rest is as it was
abbrev pub again : List ℕ → List ℕ → Rewritten
again bytes out = record { number = 0; length = narrow (length bytes); out = over bytes out }

abbrev pub rewritten : {A : Type 0} → List ℕ → List ℕ → Out A → Rewritten
rewritten bytes out (got x rest) = again bytes out
rewritten bytes out (refused c) = unwritten (number c) out

-- 10 is tested first: the output holds at least `least` bytes
unfoldable pub rewriting : {A : Type 0} → ℕ → Parser A → List ℕ → List ℕ → Rewritten
rewriting least p bytes out = cond (leb least (length out)) (rewritten bytes out (wholly p bytes)) (unwritten 10 out)

-- ---- by cases

module _ {A : Type 0} (least : ℕ) (p : Parser A) (bytes out : List ℕ) where
  pub rewriting_short : length out < least → rewriting least p bytes out ≡ unwritten 10 out
  unfolding rewriting
  rewriting_short h = rw (lt-leb least (length out) h)

  pub rewriting_read : least ≤ length out → rewriting least p bytes out ≡ rewritten bytes out (wholly p bytes)
  unfolding rewriting
  rewriting_read h = rw (le-leb least (length out) h)

  -- the bytes are written back
  pub rewriting_again : (x : Out (List ℕ)) (w : Result ℕ Refusal) (after : List ℕ) (size : ℕ) → x ≡ got bytes [] → rewriting least p bytes out ≡ again bytes out
      → w ≡ answer length x → after ≡ left out x → size ≡ narrow (result_unwrap_or w 0)
      → (answer_number w ≡ (rewriting least p bytes out).number) × ((after ≡ (rewriting least p bytes out).out) × (size ≡ (rewriting least p bytes out).length))
  rewriting_again x w after size e f g h k = rw (f, h, k, g, e) (refl, (refl, refl))

module _ (bytes out : List ℕ) where
  pub ticket_refused : 1584 ≤ length out → {r : Refusal} → Err r ≡ whole_ticket bytes → rewriting 1584 read_ticket bytes out ≡ unwritten (number_of r) out
  ticket_refused l e = let (c, q, same) = was_err stored (wholly read_ticket bytes) e in
      rewriting_read 1584 read_ticket bytes out l ∙ ap (rewritten bytes out) q ∙ ap (λ n. unwritten n out) (sym (ap number_of same ∙ refusal_number c))

  pub record_refused : 1958 ≤ length out → {r : Refusal} → Err r ≡ whole_record bytes → rewriting 1958 read_state bytes out ≡ unwritten (number_of r) out
  record_refused l e = let (c, q, same) = was_err stored_state (wholly read_state bytes) e in
      rewriting_read 1958 read_state bytes out l ∙ ap (rewritten bytes out) q ∙ ap (λ n. unwritten n out) (sym (ap number_of same ∙ refusal_number c))

module _ (bytes out : List ℕ) (b : Bytes bytes) where
  pub ticket_again : 1584 ≤ length out → {t : Ticket} → Ok t ≡ whole_ticket bytes → (writing out t [] ≡ got bytes []) × (rewriting 1584 read_ticket bytes out ≡ again bytes out)
  ticket_again l e = let (k, rest, q, same) = was_ok stored (wholly read_ticket bytes) e in (
    ap (λ t. writing out t []) same ∙ reread out bytes k rest b q l,
    rewriting_read 1584 read_ticket bytes out l ∙ ap (rewritten bytes out) q,
  )

  pub record_again : 1958 ≤ length out → {r : Record} → Ok r ≡ whole_record bytes → (writing_record out r [] ≡ got bytes []) × (rewriting 1958 read_state bytes out ≡ again bytes out)
  record_again l e = let (s, rest, q, same) = was_ok stored_state (wholly read_state bytes) e in (
    ap (λ r. writing_record out r []) same ∙ reread_state out bytes s rest b q l,
    rewriting_read 1958 read_state bytes out l ∙ ap (rewritten bytes out) q,
  )
