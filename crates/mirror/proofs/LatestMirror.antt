-- "The latest plan of the one network is the earliest of the other" (02, change 1): the mirror of the set that is chosen for a ticket is the
-- set that is chosen latest for its mirror (`chosen_mirror`), so by uniqueness the two plans are mirrors. Rests on Mirror and on temporal's Latest.
use Rattle.std.specs.Prelude.{◌≡◌, List, [], ◌∷◌, ℕ, zero, suc, T, length}
use Rattle.std.proofs.Common.{sym, ap, subst, ◌∙◌, arith}
use Rattle.temporal.specs.Lists.{All}
use Rattle.temporal.specs.Ticket.{Ticket, Window, Lies, Fit, fits, total}
use Rattle.temporal.proofs.Ends.{fits_fit, fit_fits}
use Rattle.temporal.specs.Best.{best, best_latest, Sooner, Chosen, ChosenLatest}
use Rattle.temporal.proofs.Latest.{chosen_best_latest, chosen_latest_under}
use Rattle.temporal.specs.Distance.{consistent}
use Rattle.temporal.proofs.FitSets.{fits_closed}
use Rattle.temporal.proofs.RunHolds.{planned_chosen}
use Rattle.mirror.specs.Mirror.{mirror, mirror_windows, Proper}
use Rattle.mirror.proofs.Mirror.{proper_distinct, proper_mirror, mirror_twice, windows_twice, consistent_mirror, fit_lie, fit_mirror, fit_back, total_mirror}

sooner_tail : (x y : Window) (u v : List Window) → Sooner (x ∷ u) (y ∷ v) → Sooner u v
sooner_tail x y u v s zero = (omega arith, omega arith)
sooner_tail x y u v s (suc i) = s (suc (suc i))

-- of two sets the sooner has the later mirror
sooner_mirror : (h : ℕ) (u v : List Window) → length u ≡ length v → All (Lies h) u → All (Lies h) v → Sooner u v → Sooner (mirror_windows h v) (mirror_windows h u)
sooner_mirror h u v e a b s zero = (omega arith, omega arith)
sooner_mirror h [] [] e a b s (suc i) = (omega arith, omega arith)
sooner_mirror h [] (y ∷ v) e a b s (suc i) = absurd (omega arith)
sooner_mirror h (x ∷ u) [] e a b s (suc i) = absurd (omega arith)
sooner_mirror h (x ∷ u) (y ∷ v) e a b s (suc zero) = (omega (arith, s 1), omega (arith, s 1))
sooner_mirror h (x ∷ u) (y ∷ v) e a b s (suc (suc i)) = sooner_mirror h u v (omega arith) a.1 b.1 (sooner_tail x y u v s) (suc i)

-- the mirror of the earliest of the widest fit sets is the latest of the mirror's
pub chosen_mirror : (k : Ticket) → Proper k → (ws : List Window) → Chosen k (Fit k) ws → ChosenLatest (mirror k) (Fit (mirror k)) (mirror_windows k.horizon ws)
chosen_mirror k p ws c = record {
  allowed = fit_mirror k p ws c.allowed;
  widest = λ vs f. omega (arith, wide ws (lie ws c.allowed), wide vs (lie' vs f), c.widest (mirror_windows h vs) (fit_back k p vs f));
  latest = λ vs f e. subst (λ us. Sooner us (mirror_windows h ws)) (windows_twice h vs (lie' vs f))
      (sooner_mirror h ws (mirror_windows h vs) (c.allowed.count ∙ sym (fit_back k p vs f).count)
      (lie ws c.allowed) (lie (mirror_windows h vs) (fit_back k p vs f))
      (c.earliest (mirror_windows h vs) (fit_back k p vs f) (wide vs (lie' vs f) ∙ e ∙ wide ws (lie ws c.allowed))));
}
  where
    h : ℕ
    h = k.horizon

    lie : (us : List Window) → Fit k us → All (Lies h) us
    lie us f = fit_lie k p us f

    lie' : (us : List Window) → Fit (mirror k) us → All (Lies h) us
    lie' us f = fit_lie (mirror k) (proper_mirror k p) us f

    wide : (us : List Window) → All (Lies h) us → total k (mirror_windows h us) ≡ total k us
    wide us a = total_mirror k.owners h us a

-- the latest windows of a ticket with a schedule are the mirror of the earliest of its mirror
pub latest_mirror : (k : Ticket) → Proper k → T (consistent k) → best_latest k (fits k) ≡ mirror_windows k.horizon (best (mirror k) (fits (mirror k)))
latest_mirror k p t =
    let ws : List Window = mirror_windows k.horizon (best (mirror k) (fits (mirror k))) in
    let c : ChosenLatest (mirror (mirror k)) (Fit (mirror (mirror k))) ws =
    chosen_mirror (mirror k) (proper_mirror k p) (best (mirror k) (fits (mirror k)))
    (planned_chosen (mirror k) (proper_distinct (mirror k) (proper_mirror k p)) (subst T (sym (consistent_mirror k p)) t)) in
    let d : ChosenLatest k (Fit k) ws = subst (λ l. ChosenLatest l (Fit l) ws) (mirror_twice k) c in
    sym (chosen_best_latest k (fits k) (fits_closed k) ws (chosen_latest_under k (Fit k) (λ vs. T (fits k vs)) (fit_fits k (proper_distinct k p)) (fits_fit k) ws d))

-- and its earliest windows are the mirror of the latest of its mirror
pub earliest_mirror : (k : Ticket) → Proper k → T (consistent k) → best k (fits k) ≡ mirror_windows k.horizon (best_latest (mirror k) (fits (mirror k)))
earliest_mirror k p t =
    let h : ℕ = k.horizon in
    let e : best_latest (mirror k) (fits (mirror k)) ≡ mirror_windows h (best (mirror (mirror k)) (fits (mirror (mirror k)))) =
    latest_mirror (mirror k) (proper_mirror k p) (subst T (sym (consistent_mirror k p)) t) in
    let f : best_latest (mirror k) (fits (mirror k)) ≡ mirror_windows h (best k (fits k)) =
    subst (λ l. best_latest (mirror k) (fits (mirror k)) ≡ mirror_windows h (best l (fits l))) (mirror_twice k) e in
    sym (ap (mirror_windows h) f ∙ windows_twice h (best k (fits k)) (fit_lie k p (best k (fits k)) (planned_chosen k (proper_distinct k p) t).allowed))
