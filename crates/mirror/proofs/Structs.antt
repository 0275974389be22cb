-- The laws of what specs/Structs defines.
use Rattle.std.specs.Prelude.{◌≡◌, refl, List, [], ◌∷◌, ◌++◌, map, ◌≢◌, ℕ, zero, suc, ◌+◌, ◌≤◌, ◌<◌, ℤ, pos, negsuc, ◌+ℤ◌, ◌-ℤ◌, ◌≤ℤ◌, length, get_or, set}
use Rattle.std.proofs.Math.Path.{sym}
use Rattle.std.proofs.Common.{ap, subst, ◌∙◌, ⊎_elim, arith, SFits, length-set, get_or-set_same, get_or-set_other}
use Rattle.std.specs.Int.Signed.{le_z}
use Rattle.std.specs.Int.{w32, int_min}
use Rattle.std.proofs.lemmas.Int.{ints}
use Rattle.temporal.specs.Lists.{All}
use Rattle.temporal.proofs.Lists.{below_or_not, All-below}
use Rattle.temporal.specs.Bound.{below}
use Rattle.temporal.specs.Ticket.{Rule, events}
use Rattle.temporal.specs.Run.{ValidRule, Valid}
use Rattle.network.specs.Stored.{at}
use Rattle.ticket.specs.declared.Ticket.{Ticket}
use Rattle.ticket.specs.Writing.{firsts, rule_in, content}
use Rattle.ticket.proofs.Agree.{firsts_cong, all_firsts}
use Rattle.ticket.proofs.Content.{in_rules}
use Rattle.demands.specs.Rules.{Tests}
use Rattle.potentials.specs.Arrays.{window_list, no_rule, rule_in_lem}
use Rattle.mirror.specs.Mirror.{mirror_bound, mirror_rule, mirror_window, mirror_windows}
use Rattle.mirror.specs.Cut.{cut_bound, cut_mirror_bound, cut_rule, cut_mirror, minℤ, Possible}
use Rattle.mirror.specs.Structs.{Bounds, Exchanged, Replaced}

-- ---- the bound of a rule's mirror, as the code works it

pub bound_from_start : (h i j : ℕ) (c : ℤ) → i ≡ 0 → i ≢ j → cut_mirror_bound h i j c ≡ c -ℤ pos h
unfolding cut_bound mirror_bound
bound_from_start h zero zero c e d = absurd (d refl)
bound_from_start h zero (suc j) c e d = refl
bound_from_start h (suc i) j c e d = absurd (omega arith)

pub bound_between : (h i j : ℕ) (c : ℤ) → i ≢ 0 → j ≢ 0 → cut_mirror_bound h i j c ≡ c
unfolding cut_bound mirror_bound
bound_between h zero j c n m = absurd (n refl)
bound_between h (suc i) zero c n m = absurd (m refl)
bound_between h (suc i) (suc j) c n m = refl

pub bound_to_start : (h i j : ℕ) (c : ℤ) → i ≢ 0 → j ≡ 0 → cut_mirror_bound h i j c ≡ minℤ (c +ℤ pos h) (pos h)
unfolding cut_bound mirror_bound
bound_to_start h zero j c n e = absurd (n refl)
bound_to_start h (suc i) (suc j) c n e = absurd (omega arith)
bound_to_start h (suc i) zero c n e = refl

pub min_same : (a b : ℤ) → int_min a b ≡ minℤ a b
min_same a b = grind (arith, ints)

-- ---- whether a rule with the start can be kept

tests_le : (a c : ℤ) {A : Type 0} → (a ≤ℤ c → A) → (A → a ≤ℤ c) → Tests (le_z a c) A
tests_le a c f g = record {
  holds = λ e. f (record { le = rw e tt });
  fails = λ e p. rw e at (g p).le;
}

pub possible_from_start : (h i j : ℕ) (c : ℤ) → i ≡ 0 → i ≢ j → Tests (le_z (pos 0) c) (Possible h (record { from = i; to = j; bound = c }))
unfolding below
possible_from_start h i j (pos n) e d = tests_le (pos 0) (pos n) (λ l. (λ _. refl, λ _. omega arith)) (λ p. omega (arith, ints))
possible_from_start h i j (negsuc n) e d = tests_le (pos 0) (negsuc n) (λ l. absurd (omega (arith, ints))) (λ p. absurd (omega (arith, p.0 e)))

pub possible_to_start : (h i j : ℕ) (c : ℤ) → i ≢ 0 → j ≡ 0 → Tests (le_z (pos 0 -ℤ pos h) c) (Possible h (record { from = i; to = j; bound = c }))
unfolding below
possible_to_start h i j (pos n) d e = tests_le (pos 0 -ℤ pos h) (pos n) (λ l. (λ z. absurd (d z), λ _. omega arith)) (λ p. omega (arith, ints))
possible_to_start h i j (negsuc n) d e = tests_le (pos 0 -ℤ pos h) (negsuc n) (λ l. (λ z. absurd (d z), λ _. omega (arith, ints))) (λ p. omega (arith, ints, p.1 e))

module _ {A : Type 0} {d : A} {f : ℕ → A} {xs : List A} where
  pub replaced_more : {n : ℕ} {xs' : List A} {x : A} → n < length xs → x ≡ f n → Replaced d n f xs xs' → Replaced d (n + 1) f xs (set xs' n x)
  replaced_more {n} {xs'} {x} l e R = record {
    long = simp length-set R.long;
    first = λ i li. ⊎_elim
        (λ (lt : i < n). get_or-set_other xs' n i x d (λ q. omega arith) ∙ R.first i lt)
        (λ (ge : n ≤ i).
        let same : n ≡ i = omega arith in
        ap (λ j. get_or (set xs' n x) j d) (sym same) ∙ get_or-set_same xs' n x d (omega (arith, R.long)) ∙ e ∙ ap f same)
        (below_or_not i n);
    rest = λ i li. get_or-set_other xs' n i x d (λ q. omega arith) ∙ R.rest i (omega arith);
  }

firsts_map : {A B : Type 0} (f : A → B) (n : ℕ) (g : ℕ → A) → map f (firsts n g) ≡ firsts n (λ i. f (g i))
unfolding firsts
firsts_map f zero g = refl
firsts_map f (suc n) g = map_snoc (firsts n g) (g n) ∙ ap (λ xs. xs ++ f (g n) ∷ []) (firsts_map f n g)
  where
    map_snoc : (xs : List _) (x : _) → map f (xs ++ x ∷ []) ≡ map f xs ++ f x ∷ []
    map_snoc [] x = refl
    map_snoc (y ∷ ys) x = ap (λ zs. f y ∷ zs) (map_snoc ys x)

module _ {h n : ℕ} {opens closes opens' closes' : List ℕ} (E : Exchanged h n opens closes opens' closes') where
  pub exchanged_windows : window_list n opens' closes' ≡ mirror_windows h (window_list n opens closes)
  unfolding window_list
  exchanged_windows =
      firsts_cong n (λ i. record { opens = at opens' i; closes = at closes' i }) (λ i. mirror_window h (record { opens = at opens i; closes = at closes i }))
      (λ i l. λ j. record { opens = E.opened.first i l j; closes = E.closed.first i l j })
      ∙ sym (firsts_map (mirror_window h) n (λ i. record { opens = at opens i; closes = at closes i }))

pub mirrored_content : (t : Ticket) (bounds : List ℤ) → Bounds t bounds t.rules
    → content (record { horizon = t.horizon; events = t.events; owners = t.owners; rules = t.rules; from = t.to; to = t.from; bound = bounds }) ≡ cut_mirror (content t)
mirrored_content t bounds B =
    let h : ℕ = t.horizon in
    let e : firsts t.rules (λ j. record { from = at t.to j; to = at t.from j; bound = get_or bounds j (pos 0) })
    ≡ map (cut_rule h) (map (mirror_rule h) (firsts t.rules (rule_in t))) =
    firsts_cong t.rules _ (λ j. cut_rule h (mirror_rule h (rule_in t j))) (λ j l. λ i. record { from = at t.to j; to = at t.from j; bound = B.first j l i })
    ∙ sym (ap (map (cut_rule h)) (firsts_map (mirror_rule h) t.rules (rule_in t)) ∙ firsts_map (cut_rule h) t.rules (λ j. mirror_rule h (rule_in t j))) in
    λ i. record { horizon = h; owners = (content t).owners; rules = e i }

-- what holds of every rule, by its place
pub rules_each : (t : Ticket) (P : Rule → Type 0) → All P (content t).rules → (j : ℕ) → j < t.rules → P (rule_in t j)
rules_each t P h j l = subst P (rule_in_lem t j l) (All-below P no_rule (content t).rules h j (omega (arith, in_rules t)))

pub rules_all : (t : Ticket) (P : Rule → Type 0) → ((j : ℕ) → j < t.rules → P (rule_in t j)) → All P (content t).rules
rules_all t P h = all_firsts P (rule_in t) t.rules h

pub valid_fits : {n : ℕ} {r : Rule} → ValidRule n r → SFits w32 r.bound
valid_fits v = omega (arith, ints)

-- rule j of a valid ticket, whose points are bytes
pub rule_valid : (t : Ticket) → Valid (content t) → (j : ℕ) → j < t.rules → ValidRule 255 (rule_in t j)
rule_valid t v j l =
    let r = rules_each t (ValidRule (events (content t))) v.rules_valid j l in
    record {
      from_point = omega (arith, r.from_point, v.events_limit);
      to_point = omega (arith, r.to_point, v.events_limit);
      differ = r.differ;
      at_least = r.at_least;
      at_most = r.at_most;
    }

pub few_rules : (t : Ticket) → Valid (content t) → t.rules ≤ 256
few_rules t v = omega (arith, in_rules t, v.rules_limit)
