-- A ticket's struct, with windows and flags in arrays beside it: the lists that they hold, and what is asked of them.
-- What they hold is said by `ticket`'s `content` and `state_of`: places past the counts mean nothing. Rests on these and on temporal's definitions.
use Rattle.std.specs.Prelude.{◌≡◌, refl, Bool, false, List, ℕ, ◌≤◌, ◌<◌, eqb, pos, length, get_or, set}
use Rattle.std.proofs.Common.{sym, ap, ◌∙◌, arith}
use Rattle.temporal.specs.Lists.{All}
use Rattle.temporal.proofs.Lists.{All-below, tab_set}
use Rattle.temporal.specs.Bound.{above, below}
use Rattle.temporal.proofs.Bound.{above_most, below_most}
use Rattle.temporal.specs.Ticket as temporal
use Rattle.temporal.specs.Ticket.{Rule, events, Window, origin}
use Rattle.temporal.specs.Ticket.{Lies}
use Rattle.temporal.specs.Run.{Valid, ValidRule}
use Rattle.network.specs.Stored.{at}
use Rattle.ticket.specs.Writing.{firsts, rule_in, content}
use Rattle.ticket.proofs.WritingLaws.{length_firsts, firsts_tab, get_d_firsts}
use Rattle.ticket.proofs.Content.{in_events, in_rules}
use Rattle.ticket.specs.declared.Ticket.{Ticket}

-- ---- what stands in the arrays

-- the windows and the flags of n events: those of `state_of`, by their arrays alone
unfoldable pub window_list : ℕ → List ℕ → List ℕ → List Window
window_list n opens closes = firsts n (λ i. record { opens = at opens i; closes = at closes i })

unfoldable pub flag_list : ℕ → List ℕ → List Bool
flag_list n flags = firsts n (λ i. eqb (at flags i) 1)

-- ---- laws

pub firsts_set : {A : Type 0} (n : ℕ) (f g : ℕ → A) (i : ℕ) (x : A) → i < n → g i ≡ x → ((j : ℕ) → (j ≡ i → ⊥) → g j ≡ f j) → firsts n g ≡ set (firsts n f) i x
firsts_set n f g i x l e h = firsts_tab n g ∙ tab_set n f g i x l e h ∙ ap (λ xs. set xs i x) (sym (firsts_tab n f))

abbrev pub no_rule : Rule
no_rule = record { from = 0; to = 0; bound = pos 0 }

abbrev pub rule : temporal.Ticket → ℕ → Rule
rule k j = get_or k.rules j no_rule

module _ (t : Ticket) where
  pub rule_in_lem : (j : ℕ) → j < t.rules → rule (content t) j ≡ rule_in t j
  rule_in_lem j l = get_d_firsts t.rules (rule_in t) no_rule j l

pub length_window_list : (n : ℕ) (opens closes : List ℕ) → length (window_list n opens closes) ≡ n
unfolding window_list
length_window_list n opens closes = length_firsts n _

pub window_at_lem : (n : ℕ) (opens closes : List ℕ) (i : ℕ) → i < n → get_or (window_list n opens closes) i origin ≡ record { opens = at opens i; closes = at closes i }
unfolding window_list
window_at_lem n opens closes i l = get_d_firsts n _ origin i l

pub length_flag_list : (n : ℕ) (flags : List ℕ) → length (flag_list n flags) ≡ n
unfolding flag_list
length_flag_list n flags = length_firsts n _

pub flag_at : (n : ℕ) (flags : List ℕ) (i : ℕ) → i < n → get_or (flag_list n flags) i false ≡ eqb (at flags i) 1
unfolding flag_list
flag_at n flags i l = get_d_firsts n _ false i l

-- ---- what reading grants, by the arrays

-- a network that has at most `limit` rules
pub record Held (limit : ℕ) (t : Ticket) : Type 0 where
  pub top : t.horizon ≤ 1000000
  pub few : t.events ≤ 40
  pub most : t.rules ≤ limit
  pub from_point : (j : ℕ) → j < t.rules → at t.from j ≤ t.events
  pub to_point : (j : ℕ) → j < t.rules → at t.to j ≤ t.events
  pub deep : (j : ℕ) → j < t.rules → below (get_or t.bound j (pos 0)) ≤ 1000000
  pub high : (j : ℕ) → j < t.rules → above (get_or t.bound j (pos 0)) ≤ 1000000

-- a ticket's
abbrev pub Given : Ticket → Type 0
Given t = Held 256 t

pub valid_given : (t : Ticket) → Valid (content t) → Given t
valid_given t ok = record {
  top = ok.horizon_limit;
  few = rw (in_events t) at ok.events_limit;
  most = rw (in_rules t) at ok.rules_limit;
  from_point = λ j l. (valid j l).from_point;
  to_point = λ j l. (valid j l).to_point;
  deep = λ j l. below_most (get_or t.bound j (pos 0)) (valid j l).at_least;
  high = λ j l. above_most (get_or t.bound j (pos 0)) (valid j l).at_most;
}
  where
    valid : (j : ℕ) → j < t.rules → ValidRule t.events (rule_in t j)
    valid j l = rw (rule_in_lem t j l, in_events t) at (All-below (ValidRule (events (content t))) no_rule (content t).rules ok.rules_valid j (omega (arith, in_rules t)))

-- ---- windows in arrays

-- windows in order, within the horizon
abbrev pub Lie : Ticket → List ℕ → List ℕ → Type 0
Lie t opens closes = All (Lies t.horizon) (window_list t.events opens closes)

-- only the first n places may differ
pub record Within (n : ℕ) (xs xs' : List ℕ) : Type 0 where
  pub long : length xs' ≡ length xs
  pub past : (i : ℕ) → n ≤ i → at xs' i ≡ at xs i

pub within_same : (n : ℕ) (xs : List ℕ) → Within n xs xs
within_same n xs = record { long = refl; past = λ i l. refl }

pub lie_at : (t : Ticket) (opens closes : List ℕ) → Lie t opens closes → (i : ℕ) → i < t.events → (at opens i ≤ at closes i) × (at closes i ≤ t.horizon)
lie_at t opens closes L i l =
    rw (window_at_lem t.events opens closes i l) at
    (All-below (Lies t.horizon) origin (window_list t.events opens closes) L i (omega (arith, length_window_list t.events opens closes)))
