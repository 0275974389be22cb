-- The laws of what specs/Reading defines.
use Prim.Native.Nat.{ℕ, zero, suc, ◌+◌, ◌*◌, ◌-◌, ◌/◌, ◌%◌, ◌≤◌, ◌<◌}
use Rattle.std.specs.Prelude.{◌≡◌, true, leb, ℤ, pos, negsuc, length, get_or, drop}
use Rattle.std.proofs.Math.Path.{refl, ap}
use Rattle.std.proofs.Common.{sym, ◌∙◌, ⊎_elim, le-leb, ne_eqb, leb-true, length-append}
use mathlib.Core.List.{List, [], ◌∷◌, ◌++◌, append_assoc}
use native.Mathlib.Omega.{arith}
use Rattle.std.proofs.lemmas.Bool.{lt-leb}
use Rattle.temporal.proofs.Lists.{below_or_not}
use Rattle.temporal.specs.Ticket.{Ticket, events}
use Rattle.text.specs.Text.{digit, decimal, decimal_short, decimal_long, line}
use Rattle.names.specs.Names.{letter, letters, well_formed, name_at}
use Rattle.names.specs.Laws.{both, name_letters}
use Rattle.paths.specs.Rules.{from_of, bound_of}
use Rattle.reasons.specs.Text.{signed_decimal, at_line, point_line, rule_line, ring_text}
use Rattle.reasons.specs.Reading.{minus, plus, read_number, read_rules, read_signed, read_text, skip_line, steps}

-- ---- numbers

digit_on : (n d : ℕ) (s : List ℕ) → d < 10 → read_number n (digit d ∷ s) ≡ read_number (10 * n + d) s
unfolding read_number
digit_on n d s h =
    let e : 48 + d - 48 ≡ d = omega arith in
    rw (le-leb 48 (48 + d) (omega arith), le-leb (48 + d) 57 (omega arith), e)

read_within : (k n : ℕ) → n < k → (s : List ℕ) → read_number 0 (decimal n ++ s) ≡ read_number n s
read_within zero n h s = absurd (omega arith)
read_within (suc k) n h s = ⊎_elim
    (λ (l : n < 10). rw (decimal_short n l) (digit_on 0 n s l ∙ (let e : 10 * 0 + n ≡ n = omega arith in ap (λ (m : ℕ). read_number m s) e)))
    (λ (g : 10 ≤ n).
    let e : 10 * (n / 10) + n % 10 ≡ n = omega arith in
    let d = digit_on (n / 10) (n % 10) s (omega arith) in
    rw (decimal_long n g, append_assoc) (read_within k (n / 10) (omega arith) (digit (n % 10) ∷ s) ∙ d ∙ ap (λ (m : ℕ). read_number m s) e))
    (below_or_not n 10)

-- decimal digits are read as the number, whatever comes after
read_decimal : (n : ℕ) (s : List ℕ) → read_number 0 (decimal n ++ s) ≡ read_number n s
read_decimal n s = read_within (suc n) n (omega arith) s

-- a number starts with a digit
starts_within : (k n : ℕ) → n < k → (d : ℕ) × (ds : List ℕ) × (48 ≤ d) × (decimal n ≡ d ∷ ds)
starts_within zero n h = absurd (omega arith)
starts_within (suc k) n h = ⊎_elim
    (λ (l : n < 10). (digit n, [], omega arith, decimal_short n l))
    (λ (g : 10 ≤ n). longer (starts_within k (n / 10) (omega arith)) (decimal_long n g))
    (below_or_not n 10)
  where
    longer : (d : ℕ) × (ds : List ℕ) × (48 ≤ d) × (decimal (n / 10) ≡ d ∷ ds) → decimal n ≡ decimal (n / 10) ++ digit (n % 10) ∷ []
        → (d : ℕ) × (ds : List ℕ) × (48 ≤ d) × (decimal n ≡ d ∷ ds)
    longer w e = (w.0, w.1 ++ digit (n % 10) ∷ [], w.2, e ∙ ap (λ (x : List ℕ). x ++ digit (n % 10) ∷ []) w.3)

-- a byte that is no digit ends a number
ended : (n b : ℕ) (s : List ℕ) → b < 48 → read_number n (b ∷ s) ≡ (n, s)
unfolding read_number
ended n b s h = rw (lt-leb 48 b h)

no_sign : (b : ℕ) (s : List ℕ) → 48 ≤ b → read_signed (b ∷ s) ≡ plus (read_number 0 (b ∷ s))
unfolding read_signed
no_sign b s h = rw (ne_eqb b 45 (λ q. omega arith))

sign : (s : List ℕ) → read_signed (45 ∷ s) ≡ minus (read_number 0 s)
unfolding read_signed
sign s = refl

-- a bound is read as it is, up to the byte that ends its line
read_signed_lem : (c : ℤ) (s : List ℕ) → read_signed (signed_decimal c ++ 10 ∷ s) ≡ (c, s)
unfolding signed_decimal
read_signed_lem (pos n) s = go (starts_within (suc n) n (omega arith))
  where
    go : (d : ℕ) × (ds : List ℕ) × (48 ≤ d) × (decimal n ≡ d ∷ ds) → read_signed (decimal n ++ 10 ∷ s) ≡ (pos n, s)
    go w =
        ap (λ (x : List ℕ). read_signed (x ++ 10 ∷ s)) w.3
        ∙ no_sign w.0 (w.1 ++ 10 ∷ s) w.2
        ∙ ap (λ (x : List ℕ). plus (read_number 0 (x ++ 10 ∷ s))) (sym w.3)
        ∙ ap plus (read_decimal n (10 ∷ s) ∙ ended n 10 s (omega arith))
read_signed_lem (negsuc n) s =
    let e : suc n - 1 ≡ n = omega arith in
    sign (decimal (suc n) ++ 10 ∷ s) ∙ ap minus (read_decimal (suc n) (10 ∷ s) ∙ ended (suc n) 10 s (omega arith)) ∙ ap (λ (k : ℕ). (negsuc k, s)) e

-- ---- lines

-- nothing in xs ends a line
abbrev Within : List ℕ → Type 0
Within xs = (s : List ℕ) → skip_line (xs ++ s) ≡ skip_line s

letters_within : (xs : List ℕ) → letters xs ≡ true → Within xs
unfolding letters skip_line
letters_within [] h s = refl
letters_within (b ∷ xs) h s =
    let f = both (letter b) (letters xs) h in
    let g = leb-true 97 b (both (leb 97 b) (leb b 122) f.0).0 in
    rw (ne_eqb b 10 (λ q. omega arith)) (letters_within xs f.1 s)

-- what is read once a point line is passed over
abbrev after_point : ℕ → List ℕ → List (ℕ × ℤ)
after_point k s = ((read_number 0 (drop 3 s)).0, (read_signed (read_number 0 (drop 3 s)).1).0) ∷ read_rules k (read_signed (read_number 0 (drop 3 s)).1).1

-- a rule line
read_line : (k x : ℕ) (c : ℤ) (more : List ℕ) → after_point k (rule_line x c ++ more) ≡ (x, c) ∷ read_rules k more
unfolding rule_line line
read_line k x c more =
    let a : drop 3 (rule_line x c ++ more) ≡ decimal x ++ 32 ∷ (signed_decimal c ++ 10 ∷ more) = simp append_assoc in
    let n : read_number 0 (drop 3 (rule_line x c ++ more)) ≡ (x, signed_decimal c ++ 10 ∷ more) =
    ap (read_number 0) a ∙ read_decimal x (32 ∷ (signed_decimal c ++ 10 ∷ more)) ∙ ended x 32 (signed_decimal c ++ 10 ∷ more) (omega arith) in
    ap (λ (m : ℕ × List ℕ). (m.0, (read_signed m.1).0) ∷ read_rules k (read_signed m.1).1) n
    ∙ ap (λ (m : ℤ × List ℕ). (x, m.0) ∷ read_rules k m.1) (read_signed_lem c more)

module _ (k : Ticket) (labels roster : List ℕ) where
  abbrev line_text : ℕ → List ℕ
  line_text p = point_line k.owners labels roster p

  point_long : (p : ℕ) → 1 ≤ length (line_text p)
  unfolding point_line at_line line
  point_long zero = omega arith
  point_long (suc i) = omega arith

  -- a text has a byte for each rule, and more
  text_long : (ring : List ℕ) → length ring ≤ length (ring_text k labels roster ring)
  unfolding ring_text
  text_long [] = omega arith
  text_long (x ∷ xs) = rw (length-append, length-append) (omega (arith, text_long xs, point_long (from_of k x)))

  -- what is passed over: a point line
  module _ (labelled : (i : ℕ) → letters (name_at labels i) ≡ true) (known : (i : ℕ) → letters (name_at roster i) ≡ true) where
    skip_point : (p : ℕ) (more : List ℕ) → skip_line (line_text p ++ more) ≡ more
    unfolding point_line at_line line skip_line
    skip_point zero more = refl
    skip_point (suc i) more =
        let a = name_at labels i in
        let b = name_at roster (get_or k.owners i 0) in
        simp append_assoc (letters_within a (labelled i) (32 ∷ (b ++ 10 ∷ more)) ∙ letters_within b (known (get_or k.owners i 0)) (10 ∷ more))

    read_head : (n p : ℕ) (more : List ℕ) → read_rules (suc n) (line_text p ++ more) ≡ after_point n (skip_line (line_text p ++ more))
    unfolding read_rules point_line at_line line
    read_head n zero more = refl
    read_head n (suc i) more = refl

    -- one rule of a ring
    read_one : (n p x : ℕ) (c : ℤ) (more : List ℕ) → read_rules (suc n) (line_text p ++ (rule_line x c ++ more)) ≡ (x, c) ∷ read_rules n more
    read_one n p x c more = read_head n p (rule_line x c ++ more) ∙ ap (after_point n) (skip_point p (rule_line x c ++ more)) ∙ read_line n x c more

    read_rules_lem : (n : ℕ) (ring : List ℕ) → length ring ≤ n → read_rules n (ring_text k labels roster ring) ≡ steps k ring
    unfolding read_rules ring_text
    read_rules_lem zero [] h = refl
    read_rules_lem (suc n) [] h = refl
    read_rules_lem zero (x ∷ xs) h = absurd (omega arith)
    read_rules_lem (suc n) (x ∷ xs) h =
        read_one n (from_of k x) x (bound_of k x) (ring_text k labels roster xs) ∙ ap (λ (r : List (ℕ × ℤ)). (x, bound_of k x) ∷ r) (read_rules_lem n xs (omega arith))

-- ---- the theorems

-- the numbers and the bounds of a ring are read back from its text
pub read_back : (k : Ticket) (labels roster ring : List ℕ) → well_formed labels (events k) ≡ true → well_formed roster 5 ≡ true
    → read_text (ring_text k labels roster ring) ≡ steps k ring
unfolding read_text
read_back k labels roster ring l r =
    read_rules_lem k labels roster (name_letters labels (events k) l) (name_letters roster 5 r) (length (ring_text k labels roster ring)) ring
    (text_long k labels roster ring)

-- two rings with one text, of whatever tickets and names, have the same numbers and bounds
pub text_tells : (k j : Ticket) (labels roster others crew ring loop : List ℕ)
    → well_formed labels (events k) ≡ true → well_formed roster 5 ≡ true → well_formed others (events j) ≡ true → well_formed crew 5 ≡ true
    → ring_text k labels roster ring ≡ ring_text j others crew loop → steps k ring ≡ steps j loop
text_tells k j labels roster others crew ring loop a b c d e = sym (read_back k labels roster ring a b) ∙ ap read_text e ∙ read_back j others crew loop c d
