-- Either plan of a ticket's struct, and the latest one from the plan of the cut mirror. Rests on crate `mirror` and on the promise of `windows`.
use Rattle.std.specs.Prelude.{ℕ, ◌≡◌, Bool, true, false, cond, List, length}
use Rattle.std.proofs.Math.Path.{sym, ap, subst}
use Rattle.std.proofs.Common.{◌∙◌, arith}
use Rattle.std.proofs.Math.ListN.{replicate}
use Rattle.temporal.specs.Lists.{All}
use Rattle.temporal.specs.Ticket as temporal
use Rattle.temporal.specs.Ticket.{Lies}
use Rattle.temporal.specs.Plan.{accepted, refused, plan, plan_latest, plan_for}
use Rattle.temporal.proofs.Answers.{plan_latest_refused}
use Rattle.temporal.specs.Run.{Valid}
use Rattle.network.specs.Lists.{differ}
use Rattle.ticket.specs.declared.Ticket.{Ticket}
use Rattle.ticket.specs.Writing.{content}
use Rattle.ticket.proofs.Content.{in_events, in_rules}
use Rattle.potentials.specs.Arrays.{window_list, flag_list, Lie, lie_at, Within, within_same}
use Rattle.windows.specs.Promises.{state_in, Workspace, Planned}
use Rattle.mirror.specs.Mirror.{mirror_windows}
use Rattle.mirror.proofs.Mirror.{lies_mirror}
use Rattle.mirror.specs.Cut.{cut_mirror, Possible, turned_back}
use Rattle.mirror.proofs.Cut.{length_cut_mirror, plan_latest_cut_mirror, valid_proper, cut_mirror_valid, schedule_possible}
use Rattle.mirror.specs.Structs.{Below}

-- the windows of the plan, of the latest one where `late` says so; or no schedule
pub record PlannedFor (late : Bool) (t : Ticket) (opens closes opens' closes' : List ℕ) (r : Bool) : Type 0 where
  pub answer : plan_for late (content t) ≡ cond r (accepted (state_in t (replicate 40 0) opens' closes' (replicate 5 0))) (refused 9)
  pub lie : r ≡ true → Lie t opens' closes'
  pub opens_past : Within t.events opens opens'
  pub closes_past : Within t.events closes closes'

pub planned_earliest : {t : Ticket} {opens closes opens' closes' : List ℕ} {r : Bool} → Planned t opens closes opens' closes' r
    → PlannedFor false t opens closes opens' closes' r
planned_earliest P = record { answer = P.answer; lie = P.lie; opens_past = P.opens_past; closes_past = P.closes_past }

-- a rule with the start that cannot be kept leaves no schedule
pub impossible_latest : (t : Ticket) (opens closes : List ℕ) → ¬ All (Possible t.horizon) (content t).rules → PlannedFor true t opens closes opens closes false
impossible_latest t opens closes n = record {
  answer = plan_latest_refused (content t) (λ ts s. n (schedule_possible (content t) ts s));
  lie = λ e. differ (sym e);
  opens_past = within_same _ _;
  closes_past = within_same _ _;
}

within_trans : {n : ℕ} {xs ys zs : List ℕ} → Within n xs ys → Within n ys zs → Within n xs zs
within_trans v w = record { long = w.long ∙ v.long; past = λ i l. w.past i l ∙ v.past i l }

-- ---- the mirror m of a ticket t

module _ (t m : Ticket) (ok : Valid (content t)) (e : content m ≡ cut_mirror (content t)) where
  same_events : m.events ≡ t.events
  same_events = sym (in_events m) ∙ ap (λ (k : temporal.Ticket). length k.owners) e ∙ in_events t

  same_rules : m.rules ≡ t.rules
  same_rules = sym (in_rules m) ∙ ap (λ (k : temporal.Ticket). length k.rules) e ∙ length_cut_mirror (content t) ∙ in_rules t

  same_horizon : m.horizon ≡ t.horizon
  same_horizon = ap (λ (k : temporal.Ticket). k.horizon) e

  pub mirror_asked : {net opens closes : List ℕ} → All (Possible t.horizon) (content t).rules → Workspace t net opens closes
      → Valid (content m) × Workspace m net opens closes
  mirror_asked possible w = (
    subst Valid (sym e) (cut_mirror_valid (content t) ok possible),
    record { size = omega (arith, w.size, same_events, same_rules); opens_long = w.opens_long; closes_long = w.closes_long },
  )

  -- the latest plan is what the mirror's plan is turned back into
  turned_answer : plan_latest (content t) ≡ turned_back (content t) (plan (content m))
  turned_answer = plan_latest_cut_mirror (content t) (valid_proper (content t) ok) ∙ ap (λ k. turned_back (content t) (plan k)) (sym e)

  module _ {opens₀ closes₀ : List ℕ} (opens closes : List ℕ) {r : Bool} (P : Planned m opens₀ closes₀ opens closes r) where
    pub mirror_none : r ≡ false → PlannedFor true t opens₀ closes₀ opens closes false
    mirror_none n = record {
      answer = turned_answer ∙ ap (turned_back (content t)) (rw n at P.answer);
      lie = λ q. differ (sym q);
      opens_past = rw same_events at P.opens_past;
      closes_past = rw same_events at P.closes_past;
    }

    pub mirror_below : r ≡ true → Below t.horizon t.events opens × Below t.horizon t.events closes
    mirror_below y = (
      λ i l. omega (arith, same_horizon, lie_at m opens closes (P.lie y) i (omega (arith, same_events))),
      λ i l. omega (arith, same_horizon, lie_at m opens closes (P.lie y) i (omega (arith, same_events))),
    )

    pub mirror_planned : (opens' closes' : List ℕ) → r ≡ true
        → window_list t.events opens' closes' ≡ mirror_windows t.horizon (window_list t.events opens closes)
        → Within t.events opens opens' × Within t.events closes closes'
        → PlannedFor true t opens₀ closes₀ opens' closes' true
    unfolding window_list flag_list
    mirror_planned opens' closes' y w b = record {
      answer = turned_answer ∙ ap (turned_back (content t)) (rw y at P.answer) ∙ back m.events same_events;
      lie = λ _. subst (All (Lies t.horizon)) (sym w)
          (lies_mirror t.horizon (window_list t.events opens closes) (rw (same_horizon, same_events) at (P.lie y)));
      opens_past = within_trans (rw same_events at P.opens_past) b.0;
      closes_past = within_trans (rw same_events at P.closes_past) b.1;
    }
      where
        back : (n : ℕ) → n ≡ t.events
            → accepted (record {
              ticket = content t;
              windows = mirror_windows t.horizon (window_list n opens closes);
              flags = flag_list n (replicate 40 0);
              counts = replicate 5 0;
            }) ≡ accepted (state_in t (replicate 40 0) opens' closes' (replicate 5 0))
        back n s = rw s (λ i. accepted (record { ticket = content t; windows = sym w i; flags = flag_list t.events (replicate 40 0); counts = replicate 5 0 }))
