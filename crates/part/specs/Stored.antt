-- A part's events and windows in arrays, and the stores of its bytes.
use Rattle.std.specs.Prelude.{ℕ, suc, ◌+◌, ◌*◌, ◌≡◌, List}
use Rattle.std.proofs.Common.{ap, arith}
use Rattle.std.proofs.lemmas.List.Edits.{sets}
use Rattle.network.specs.Stored.{at}
use Rattle.ticket.specs.Writer.{each, window_bytes}
use Rattle.ticket.specs.Writing.{firsts}
use Rattle.ticket.proofs.WritingLaws.{length_firsts}
use Rattle.ticket.proofs.RoundTrip.{length_each}
use Rattle.writing.specs.Stores.{sets_each}
use Rattle.parts.specs.Parting.{Numbered, write_numbered}
use Rattle.parts.proofs.Parted.{length_numbered}

-- the event at place i, counted from 0, with its window
abbrev pub numbered_in : (points opens closes : List ℕ) → ℕ → Numbered
numbered_in points opens closes i = record { event = at points (suc i); window = record { opens = at opens i; closes = at closes i } }

-- one event more
pub numbered_more : (l : List ℕ) (i : ℕ) (f : ℕ → Numbered)
    → sets l 2 (each write_numbered (firsts (i + 1) f)) ≡ sets (sets l 2 (each write_numbered (firsts i f))) (2 + 9 * i) (write_numbered (f i))
numbered_more l i f = sets_each write_numbered l 2 i f (2 + 9 * i) (omega (arith, length_each write_numbered 9 length_numbered (firsts i f), length_firsts i f))

-- its bytes, as the code reads its number
pub numbered_bytes : (points opens closes : List ℕ) (i : ℕ) → window_bytes (at points (i + 1)) (at opens i) (at closes i) ≡ write_numbered (numbered_in points opens closes i)
unfolding write_numbered
numbered_bytes points opens closes i =
    let e : i + 1 ≡ suc i = omega arith in
    ap (λ q. window_bytes (at points q) (at opens i) (at closes i)) e
