-- The laws of what specs/Split defines.
use Rattle.std.specs.Prelude.{ℕ, suc, ◌+◌, ◌≤◌, ◌<◌, ◌≡◌, refl, Bool, false, not, ◌||◌, List, [], ◌∷◌, ◌++◌, eqb, length}
use Rattle.std.proofs.Common.{sym, ap, ◌∙◌, append_assoc, append-nil, arith, eq-eqb, ne_eqb}
use Rattle.temporal.specs.Lists.{All}
use Rattle.temporal.specs.Ticket.{Rule, Ticket}
use Rattle.mending.specs.Selection.{Selection, nothing, keeping, dropping, select, selected, kept_rules, dropped}
use Rattle.mending.proofs.Steps.{by_step}
use Rattle.mending.specs.Split.{Rising, Split, has, passing, none, keeps, drops}

-- what the selection adds to what was kept and dropped before
record Adds (i : ℕ) (rules : List Rule) (s s' : Selection) : Type 0 where
  rules_added : List Rule
  numbers_added : List ℕ
  kept : s'.kept ≡ s.kept ++ rules_added
  dropped : s'.dropped ≡ s.dropped ++ numbers_added
  split : Split i rules rules_added numbers_added

select_adds : (k : Ticket) (s : Selection) (i : ℕ) (rules : List Rule) → Adds i rules s (select k s i rules)
unfolding select
select_adds k s i [] = record { rules_added = []; numbers_added = []; kept = sym (append-nil s.kept); dropped = sym (append-nil s.dropped); split = none }
select_adds k s i (r ∷ rules) = by_step k s i r (λ s'. Adds i (r ∷ rules) s (select k s' (suc i) rules))
    (λ t. more (select_adds k (keeping s r) (suc i) rules))
    (λ t. less (select_adds k (dropping s i) (suc i) rules))
  where
    more : {s' : Selection} → Adds (suc i) rules (keeping s r) s' → Adds i (r ∷ rules) s s'
    more a = record {
      rules_added = r ∷ a.rules_added;
      numbers_added = a.numbers_added;
      kept = a.kept ∙ append_assoc s.kept (r ∷ []) a.rules_added;
      dropped = a.dropped;
      split = keeps a.split;
    }

    less : {s' : Selection} → Adds (suc i) rules (dropping s i) s' → Adds i (r ∷ rules) s s'
    less a = record {
      rules_added = a.rules_added;
      numbers_added = i ∷ a.numbers_added;
      kept = a.kept;
      dropped = a.dropped ∙ append_assoc s.dropped (i ∷ []) a.numbers_added;
      split = drops a.split;
    }

-- "kept and dropped" are all rules, 1 to m
pub selected_split : (k : Ticket) → Split 1 k.rules (kept_rules k) (dropped k)
unfolding selected
selected_split k =
    let a = select_adds k nothing 1 k.rules in
    rw (a.kept, a.dropped) a.split

pub split_count : {i : ℕ} {rules kept : List Rule} {numbers : List ℕ} → Split i rules kept numbers → length kept + length numbers ≡ length rules
split_count none = refl
split_count (keeps h) = omega (arith, split_count h)
split_count (drops h) = omega (arith, split_count h)

-- what holds of every rule holds of every kept one
pub split_all : (P : Rule → Type 0) {i : ℕ} {rules kept : List Rule} {numbers : List ℕ} → Split i rules kept numbers → All P rules → All P kept
split_all P none g = tt
split_all P (keeps h) g = (g.0, split_all P h g.1)
split_all P (drops h) g = split_all P h g.1

rising_sooner : (a b : ℕ) (xs : List ℕ) → Rising (suc a) b xs → Rising a b xs
rising_sooner a b [] h = tt
rising_sooner a b (x ∷ xs) h = (omega (arith, h.0), h.1, h.2)

pub rising_all : (c a b : ℕ) (xs : List ℕ) → c ≤ a → Rising a b xs → All (λ x. (c ≤ x) × (x ≤ b)) xs
rising_all c a b [] l h = tt
rising_all c a b (x ∷ xs) l h = ((omega (arith, h.0), h.1), rising_all c (suc x) b xs (omega (arith, h.0)) h.2)

pub split_rising : (b : ℕ) {i : ℕ} {rules kept : List Rule} {numbers : List ℕ} → Split i rules kept numbers → i + length rules ≤ suc b → Rising i b numbers
split_rising b none l = tt
split_rising b (keeps {i} {r} {rules} {kept} {numbers} h) l = rising_sooner i b numbers (split_rising b h (omega arith))
split_rising b (drops {i} {r} {rules} {kept} {numbers} h) l = (omega arith, omega arith, split_rising b h (omega arith))

rising_has : (a b j : ℕ) (xs : List ℕ) → j < a → Rising a b xs → has xs j ≡ false
rising_has a b j [] l h = refl
rising_has a b j (x ∷ xs) l h = rw (ne_eqb x j (λ e. omega (arith, h.0, e)), rising_has (suc x) b j xs (omega (arith, h.0)) h.2)

passing_same : (p q : ℕ → Bool) (i : ℕ) (rules : List Rule) → ((j : ℕ) → i ≤ j → p j ≡ q j) → passing p i rules ≡ passing q i rules
unfolding passing
passing_same p q i [] h = refl
passing_same p q i (r ∷ rules) h = rw (h i (omega arith), passing_same p q (suc i) rules (λ j l. h j (omega arith)))

pub split_passing : {i : ℕ} {rules kept : List Rule} {numbers : List ℕ} → Split i rules kept numbers → kept ≡ passing (λ j. not (has numbers j)) i rules
unfolding passing
split_passing none = refl
split_passing (keeps {i} {r} {rules} {kept} {numbers} h) =
    rw (rising_has (suc i) (i + length rules) i numbers (omega arith) (split_rising (i + length rules) h (omega arith))) (ap (λ l. r ∷ l) (split_passing h))
split_passing (drops {i} {r} {rules} {kept} {numbers} h) =
    rw (eq-eqb i i refl)
    (split_passing h ∙ passing_same (λ j. not (has numbers j)) (λ j. not (eqb i j || has numbers j)) (suc i) rules (λ j l. rw (ne_eqb i j (λ e. omega (arith, e)))))
