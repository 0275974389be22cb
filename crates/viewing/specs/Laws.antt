-- The laws of a view: an entry for exactly the events that the caller may see (`seen_only`, `seen_all`), each once and rising (`seen_rising`); all events for the
-- database (`seen_database`), and none for a device without events (`seen_none`); its length (`length_view`, `view_fits`), that it is bytes (`view_bytes`) and
-- that it is read back (`view_read`). Assumes nothing.
use Rattle.std.specs.Prelude.{◌≡◌, ◌⊎◌}
use mathlib.Core.List.{List, [], ◌∷◌, map}
use Prim.Native.Nat.{ℕ, ◌<◌}
use Rattle.temporal.specs.Lists.{All}
use Rattle.temporal.specs.Plan.{State, owner_of}
use Rattle.temporal.specs.Run.{Event}
use Rattle.viewing.specs.View.{Seen}

-- ---- exactly the events that the caller may see

-- the caller is the database, or the owner
abbrev pub Sees : (caller owner : ℕ) → Type 0
Sees caller owner = (caller ≡ 4) ⊎ (owner ≡ caller)

-- p is an event that the caller may see
abbrev pub Visible : (caller : ℕ) → State → ℕ → Type 0
Visible caller s p = Event s.ticket p × Sees caller (owner_of s.ticket p)

-- ---- rising

-- each number is below all that follow it
abbrev pub Rising : List ℕ → Type 0
Rising [] = Unit {0}
Rising (x ∷ xs) = All (λ y. x < y) xs × Rising xs

abbrev pub numbers : List Seen → List ℕ
numbers xs = map (λ (x : Seen). x.event) xs
