-- The weighted total of windows in arrays, as a sum over the events. Rests on temporal's total and network's sums.
use Rattle.std.specs.Prelude.{ℕ, ◌+◌, ◌*◌, ◌-◌, ◌≤◌, ◌≡◌, refl, List, [], ◌∷◌, length, get_or}
use Rattle.std.proofs.Common.{ap, ◌∙◌, sym, arith, mul-le-mul_left, mul-le-mul_right}
use Rattle.temporal.specs.Ticket.{Window, weight, total, origin, total_of}
use Rattle.network.specs.Stored.{at}
use Rattle.network.specs.Sum.{sum, sum_cong, sum_first}
use Rattle.ticket.specs.declared.Ticket.{Ticket}
use Rattle.ticket.specs.Writing.{firsts, content}
use Rattle.ticket.proofs.WritingLaws.{length_firsts, get_d_firsts}
use Rattle.potentials.specs.Arrays.{window_list, length_window_list, window_at_lem}

-- ---- the total width

total_sum : (owners : List ℕ) (ws : List Window) → length owners ≡ length ws
    → total_of owners ws ≡ sum (length ws) (λ i. weight (get_or owners i 0) * ((get_or ws i origin).closes - (get_or ws i origin).opens))
unfolding sum
total_sum [] [] e = refl
total_sum [] (w ∷ ws) e = absurd (omega arith)
total_sum (o ∷ os) [] e = absurd (omega arith)
total_sum (o ∷ os) (w ∷ ws) e =
    ap (λ x. weight o * (w.closes - w.opens) + x) (total_sum os ws (omega arith))
    ∙ sym (sum_first (length ws) (λ i. weight (get_or (o ∷ os) i 0) * ((get_or (w ∷ ws) i origin).closes - (get_or (w ∷ ws) i origin).opens)))

-- of the windows of n owners in an array
total_first : (n : ℕ) (owners : List ℕ) (ws : List Window) → length ws ≡ n
    → total_of (firsts n (at owners)) ws ≡ sum n (λ i. weight (at owners i) * ((get_or ws i origin).closes - (get_or ws i origin).opens))
total_first n owners ws e =
    total_sum (firsts n (at owners)) ws (length_firsts n (at owners) ∙ sym e)
    ∙ ap (λ k. sum k (λ i. weight (get_or (firsts n (at owners)) i 0) * ((get_or ws i origin).closes - (get_or ws i origin).opens))) e
    ∙ sum_cong _ _ n (λ i l. ap (λ o. weight o * ((get_or ws i origin).closes - (get_or ws i origin).opens)) (get_d_firsts n (at owners) 0 i l))

-- and of the ticket in arrays
pub total_in : (t : Ticket) (ws : List Window) → length ws ≡ t.events
    → total (content t) ws ≡ sum t.events (λ i. weight (at t.owners i) * ((get_or ws i origin).closes - (get_or ws i origin).opens))
total_in t ws e = total_first t.events t.owners ws e

-- ---- event by event

abbrev pub part : List ℕ → List ℕ → List ℕ → ℕ → ℕ
part owners opens closes i = weight (at owners i) * (at closes i - at opens i)

pub part_most : (w x : ℕ) → w ≤ 3 → x ≤ 1000000 → w * x ≤ 3000000
part_most w x h l = omega (arith, mul-le-mul_left w l, mul-le-mul_right 1000000 h)

pub total_parts : (n : ℕ) (owners opens closes : List ℕ) → total_of (firsts n (at owners)) (window_list n opens closes) ≡ sum n (part owners opens closes)
total_parts n owners opens closes =
    total_first n owners (window_list n opens closes) (length_window_list n opens closes)
    ∙ sum_cong _ _ n (λ i l. ap (λ (w : Window). weight (at owners i) * (w.closes - w.opens)) (window_at_lem n opens closes i l))
