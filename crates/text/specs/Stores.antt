-- A text put into a list.
use Rattle.std.specs.Prelude.{ℕ, suc, ◌+◌, ◌≤◌, ◌<◌, ◌≡◌, refl, List, [], ◌∷◌, ◌++◌, length, set, take, get_or}
use Rattle.std.proofs.Common.{sym, ap, ◌∙◌, add-zero, add-suc, suc-add, add_assoc, add-one, arith, length-append, take-suc, length-take-le}
use Rattle.std.proofs.lemmas.List.Edits.{sets}
use Rattle.std.proofs.Math.Seq.{length-sets}
use Rattle.io.specs.Counts.{IsPrefixLen}

-- `after` is `before` with `text` from index `at` on; the text ends before index `next`, inside the list
pub record Puts (text before after : List ℕ) (at next : ℕ) : Type 0 where
  pub stored : after ≡ sets before at text
  pub end : next ≡ at + length text
  pub inside : next ≤ length before

sets_append : (xs ys l : List ℕ) (i : ℕ) → sets (sets l i xs) (i + length xs) ys ≡ sets l i (xs ++ ys)
sets_append [] ys l i = ap (λ (k : ℕ). sets l k ys) (add-zero i)
sets_append (x ∷ xs) ys l i = ap (λ (k : ℕ). sets (sets (set l i x) (suc i) xs) k ys) (add-suc i (length xs) ∙ sym (suc-add i (length xs))) ∙ sets_append xs ys (set l i x) (suc i)

-- one text after another
pub puts_then : {a b before middle after : List ℕ} {at next last : ℕ}
    → Puts a before middle at next → Puts b middle after next last → Puts (a ++ b) before after at last
puts_then {a} {b} {before} {middle} {after} {at} {next} {last} p q = record {
  stored = q.stored ∙ ap (λ (m : List ℕ). sets m next b) p.stored ∙ ap (λ (k : ℕ). sets (sets before at a) k b) p.end ∙ sets_append a b before at;
  end = omega (arith, p.end, q.end, length-append a b);
  inside = omega (arith, q.inside, ap length p.stored, length-sets before at a);
}

pub puts_none : (before : List ℕ) (at : ℕ) → at ≤ length before → Puts [] before before at at
puts_none before at h = record { stored = refl; end = sym (add-zero at); inside = h }

pub puts_length : {text before after : List ℕ} {at next : ℕ} → Puts text before after at next → length after ≡ length before
puts_length {text} {before} {after} {at} p = ap length p.stored ∙ length-sets before at text

pub puts_one : (before : List ℕ) (at x : ℕ) → at < length before → Puts (x ∷ []) before (set before at x) at (at + 1)
puts_one before at x h = record { stored = refl; end = refl; inside = omega arith }

pub puts_as : {text other before after : List ℕ} {at next : ℕ} → text ≡ other → Puts text before after at next → Puts other before after at next
puts_as e p = rw e at p

-- what is put counts bytes at the start of the list
pub puts_counts : {text before after : List ℕ} {at next : ℕ} → Puts text before after at next → IsPrefixLen next after
puts_counts {text} {before} {after} {at} {next} p =
    let h : next ≤ length after = omega (arith, p.inside, puts_length p) in
    (h, sym (length-take-le next after h))

-- one element more of a list that is copied
pub puts_more : (word : List ℕ) {before after : List ℕ} {at : ℕ} (i : ℕ) → i < length word → at + length word ≤ length before
    → Puts (take i word) before after at (at + i) → Puts (take (i + 1) word) before (set after (at + i) (get_or word i 0)) at (at + (i + 1))
puts_more word {before} {after} {at} i h f p =
    rw (add-one i, take-suc word i 0, ← (add-one i), ← (add_assoc at i 1))
    (puts_then p (puts_one after (at + i) (get_or word i 0) (omega (arith, puts_length p))))
