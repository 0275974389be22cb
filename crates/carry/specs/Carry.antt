-- What an edge with no slack can carry, of what its tail has to send and the event of its head wants; and what is left when it carries it.
use Rattle.std.specs.Prelude.{ℕ, ◌+◌, ◌*◌, ◌-◌, ◌≤◌, ◌<◌, min, ◌≡◌, refl, List, length, set}
use Rattle.std.proofs.Common.{sym, ap, ◌∙◌, arith}
use Rattle.std.proofs.lemmas.List.{set-get_or}
use Rattle.network.specs.Stored.{at, tail_of, head_of, flow_of, NoSlack}

-- edge e can carry f units besides, of what its tail and the event of its head want
pub record Share (net pot : List ℕ) (n e : ℕ) (supply demand : List ℕ) (f : ℕ) : Type 0 where
  pub from : f ≤ at supply (tail_of net e)
  pub to : f ≤ at demand (head_of net e - n)
  pub tight : 0 < f → NoSlack net pot e

-- the share, where j is the event of the head
module _ {net pot : List ℕ} {n e : ℕ} {supply demand : List ℕ} {f j : ℕ} (event : j ≡ head_of net e - n) where
  pub share_least : f ≡ min (at supply (tail_of net e)) (at demand j) → NoSlack net pot e → Share net pot n e supply demand f
  share_least least tight =
      record {
        from = omega (arith, least);
        to = omega (arith, least, ap (at demand) event);
        tight = λ p. tight;
      }

  pub share_to : Share net pot n e supply demand f → f ≤ at demand j
  share_to S = omega (arith, S.to, ap (at demand) event)

-- what carrying over edge e asks of the flow and the supply
pub record Wanted (net : List ℕ) (e : ℕ) (supply demand : List ℕ) : Type 0 where
  pub flow : flow_of net e < 1000
  pub few : at supply (tail_of net e) ≤ 3
  pub supplies : length supply ≡ 81
  pub demands : length demand ≡ 81

pub wanted_sum : {net pot : List ℕ} {n e : ℕ} {supply demand : List ℕ} {f : ℕ} → Wanted net e supply demand → Share net pot n e supply demand f → flow_of net e + f < 2000
wanted_sum W S = omega (arith, W.flow, W.few, S.from)

-- edge e carries more, from its tail to the event of its head
pub record Carried (net net' pot : List ℕ) (n e : ℕ) (supply supply' demand demand' : List ℕ) : Type 0 where
  pub amount : ℕ
  pub share : Share net pot n e supply demand amount
  pub flow : net' ≡ set net (4 * e + 3) (flow_of net e + amount)
  pub sent : supply' ≡ set supply (tail_of net e) (at supply (tail_of net e) - amount)
  pub met : demand' ≡ set demand (head_of net e - n) (at demand (head_of net e - n) - amount)

pub carried_some : {net pot : List ℕ} {n e : ℕ} {supply supply' demand demand' : List ℕ} {f j : ℕ} → j ≡ head_of net e - n → Share net pot n e supply demand f
    → supply' ≡ set supply (tail_of net e) (at supply (tail_of net e) - f) → demand' ≡ set demand j (at demand j - f)
    → Carried net (set net (4 * e + 3) (flow_of net e + f)) pot n e supply supply' demand demand'
carried_some {demand = demand} {f = f} event S sent met =
    record {
      amount = f;
      share = S;
      flow = refl;
      sent = sent;
      met = met ∙ ap (λ k. set demand k (at demand k - f)) event;
    }

-- an edge that carries nothing more leaves everything as it was
pub carried_none : (net pot : List ℕ) (n e : ℕ) (supply demand : List ℕ) → Carried net net pot n e supply supply demand demand
carried_none net pot n e supply demand =
    record {
      amount = 0;
      share = record { from = omega arith; to = omega arith; tight = λ p. absurd (omega arith) };
      flow = sym (ap (set net (4 * e + 3)) (omega arith) ∙ set-get_or net (4 * e + 3) 0);
      sent = sym (ap (set supply (tail_of net e)) (omega arith) ∙ set-get_or supply (tail_of net e) 0);
      met = sym (ap (set demand (head_of net e - n)) (omega arith) ∙ set-get_or demand (head_of net e - n) 0);
    }
