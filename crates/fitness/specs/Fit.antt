-- The test of fitness on windows in arrays, laid out as a potential.
use Rattle.std.specs.Prelude.{ℕ, zero, suc, ◌+◌, ◌≤◌, ◌≡◌, refl, Bool, true, false, List}
use Rattle.std.proofs.Common.{sym, arith}
use Rattle.std.proofs.Math.Dec.{not_T}
use Rattle.temporal.proofs.Lists.{T-true, T-false}
use Rattle.temporal.specs.Ticket.{fits}
use Rattle.temporal.proofs.Ends.{fits_ends, ends_fits}
use Rattle.network.specs.Stored.{at}
use Rattle.ticket.specs.declared.Ticket.{Ticket}
use Rattle.ticket.specs.Writing.{content}
use Rattle.potentials.specs.Arrays.{window_list, length_window_list, Given, Lie, lie_at}
use Rattle.potentials.specs.Nodes.{by_nodes, potential_of}
use Rattle.potentials.specs.Pairs.{Pairs, pairs_potential}
use Rattle.demands.specs.Rules.{Tests, Obeyed, obeyed_same, ends_obeyed, obeyed_ends}

module _ {t : Ticket} (G : Given t) (opens closes : List ℕ) {pot : List ℕ} (L : Lie t opens closes) (P : Pairs t.events (at opens) (at closes) pot t.events) where
  pub laid_most : (v : ℕ) → v ≤ t.events + t.events → at pot v ≤ 1000000
  laid_most zero l = omega (arith, P.nodes.origin)
  laid_most (suc u) l = by_nodes (λ v. at pot v ≤ 1000000) t.events
      (λ i li. omega (arith, P.first i li, lie_at t opens closes L i li, G.top))
      (λ i li. omega (arith, P.second i li, lie_at t opens closes L i li, G.top))
      (suc u) (omega arith) (omega arith)

  pub fit_answer : (r : Bool) → Tests r (Obeyed t t.events (at pot)) → fits (content t) (window_list t.events opens closes) ≡ r
  fit_answer true T =
      let ws = window_list t.events opens closes in
      T-true (fits (content t) ws) (ends_fits (content t) ws (obeyed_ends G ws (length_window_list t.events opens closes) L
      (obeyed_same G t.events (at pot) (potential_of t.events ws) (λ v l. sym (pairs_potential opens closes P v (omega arith))) (T.holds refl))))
  fit_answer false T =
      let ws = window_list t.events opens closes in
      T-false (fits (content t) ws) (not_T (fits (content t) ws) (λ f. T.fails refl
      (obeyed_same G t.events (potential_of t.events ws) (at pot) (λ v l. pairs_potential opens closes P v (omega arith)) (ends_obeyed G ws (fits_ends (content t) ws f)))))
