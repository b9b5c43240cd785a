-- Which events have happened once one more has.
use Rattle.std.proofs.Common.{◌≡◌, ℕ, ◌<◌, true, false, Bool, ◌&&◌, ◌||◌, ◌==◌, List, length, get_or, set, refl, sym, ◌∙◌, ap, inl, inr}
use Rattle.std.proofs.lemmas.Bool.{or_right, eq-eqb}
use Rattle.std.proofs.lemmas.Bool.Decides.{eqb_tells}
use Rattle.std.proofs.lemmas.List.{get_or-set_same, get_or-set_other}
use Rattle.round_packets.specs.Runs.{Run}
use Rattle.host_laws.specs.HostView.{HostView}
use Rattle.cluster_laws.specs.Channels.{Leg, same_leg}
use Rattle.cluster_laws.specs.Channels.Leg.{reduce, broadcast}
use Rattle.cluster_laws.specs.Events.{Event, same_event, host_of}
use Rattle.cluster_laws.specs.Events.Event.{compute, spread, deliver}
use Rattle.cluster_laws.specs.Cluster.{took, has_done}
use Rattle.cluster_laws.specs.Steps.{TakesTo, BecomesBy}

-- a part that fails adds nothing
pub or_none : (b : Bool) → (b || false) ≡ b
or_none true = refl
or_none false = refl

and_all : (b : Bool) → (b && true) ≡ b
and_all true = refl
and_all false = refl

-- a place of a list of truths, once one place is set
set_reads : (xs : List Bool) (place k : ℕ) → place < length xs → get_or (set xs place true) k false ≡ (get_or xs k false || place == k)
set_reads xs place k within =
    elim (eqb_tells place k) [
      | inl same ↦ ap (λ n. get_or (set xs place true) n false) (sym same.1) ∙ get_or-set_same xs place true false within ∙ sym (or_right (get_or xs k false) (place == k) same.0)
      | inr other ↦ get_or-set_other xs place k true false (λ e. other.1 (sym e)) ∙ sym (ap (λ b. get_or xs k false || b) other.0 ∙ or_none (get_or xs k false))
    ]

module _ {Program Item State Shown : Type 0} (run : Run Item State Shown) (rounds : ℕ) where
  takes_place : (leg : Leg) (from : ℕ) (view new : HostView Program Item State Shown) → TakesTo run rounds leg from view new → new.host ≡ view.host
  takes_place reduce from view new by = ap (λ w. w.host) by.becomes
  takes_place broadcast from view new by = ap (λ w. w.host) by.becomes

  pub same_host : (event : Event) (view new : HostView Program Item State Shown) → BecomesBy run rounds event view new → new.host ≡ view.host
  same_host (compute h) view new by = ap (λ w. w.host) by.becomes
  same_host (spread h) view new by = ap (λ w. w.host) by.becomes
  same_host (deliver channel) view new by = takes_place channel.leg channel.from view new by

  takes_computed : (leg : Leg) (from : ℕ) (view new : HostView Program Item State Shown) → TakesTo run rounds leg from view new → new.has_computed ≡ view.has_computed
  takes_computed reduce from view new by = ap (λ w. w.has_computed) by.becomes
  takes_computed broadcast from view new by = ap (λ w. w.has_computed) by.becomes

  takes_spread : (leg : Leg) (from : ℕ) (view new : HostView Program Item State Shown) → TakesTo run rounds leg from view new → new.has_spread ≡ view.has_spread
  takes_spread reduce from view new by = ap (λ w. w.has_spread) by.becomes
  takes_spread broadcast from view new by = ap (λ w. w.has_spread) by.becomes

  -- both lists of takings have a place for the sender
  abbrev pub HasPlaces : ℕ → HostView Program Item State Shown → Type 0
  HasPlaces from view = (from < length view.took_reduce) × (from < length view.took_broadcast)

  takes_took : (leg : Leg) (from : ℕ) (view new : HostView Program Item State Shown) → HasPlaces from view → TakesTo run rounds leg from view new → (other : Leg) (k : ℕ) → took other new k ≡ (took other view k || (same_leg leg other && from == k))
  takes_took reduce from view new places by reduce k = ap (λ w. get_or w.took_reduce k false) by.becomes ∙ set_reads view.took_reduce from k places.0
  takes_took reduce from view new places by broadcast k = ap (λ w. get_or w.took_broadcast k false) by.becomes ∙ sym (or_none (get_or view.took_broadcast k false))
  takes_took broadcast from view new places by reduce k = ap (λ w. get_or w.took_reduce k false) by.becomes ∙ sym (or_none (get_or view.took_reduce k false))
  takes_took broadcast from view new places by broadcast k = ap (λ w. get_or w.took_broadcast k false) by.becomes ∙ set_reads view.took_broadcast from k places.1

  computes_took : (h : ℕ) (view new : HostView Program Item State Shown) → BecomesBy run rounds (compute h) view new → (leg : Leg) (k : ℕ) → took leg new k ≡ took leg view k
  computes_took h view new by reduce k = ap (λ w. get_or w.took_reduce k false) by.becomes
  computes_took h view new by broadcast k = ap (λ w. get_or w.took_broadcast k false) by.becomes

  spreads_took : (h : ℕ) (view new : HostView Program Item State Shown) → BecomesBy run rounds (spread h) view new → (leg : Leg) (k : ℕ) → took leg new k ≡ took leg view k
  spreads_took h view new by reduce k = ap (λ w. get_or w.took_reduce k false) by.becomes
  spreads_took h view new by broadcast k = ap (λ w. get_or w.took_broadcast k false) by.becomes

  -- the sender of an event's packet has a place
  abbrev pub CanTake : Event → HostView Program Item State Shown → Type 0
  CanTake (compute h) view = Unit {0}
  CanTake (spread h) view = Unit {0}
  CanTake (deliver channel) view = HasPlaces channel.from view

  -- the host of an event has done that event, and else what it had
  pub done_here : (event other : Event) (view new : HostView Program Item State Shown) → CanTake event view → BecomesBy run rounds event view new → host_of other ≡ host_of event → has_done new other ≡ (has_done view other || same_event event other)
  done_here (compute h) (compute k) view new can by here = ap (λ w. w.has_computed) by.becomes ∙ sym (or_right view.has_computed (h == k) (eq-eqb h k (sym here)))
  done_here (compute h) (spread k) view new can by here = ap (λ w. w.has_spread) by.becomes ∙ sym (or_none view.has_spread)
  done_here (compute h) (deliver channel) view new can by here = computes_took h view new by channel.leg channel.from ∙ sym (or_none (took channel.leg view channel.from))
  done_here (spread h) (compute k) view new can by here = ap (λ w. w.has_computed) by.becomes ∙ sym (or_none view.has_computed)
  done_here (spread h) (spread k) view new can by here = ap (λ w. w.has_spread) by.becomes ∙ sym (or_right view.has_spread (h == k) (eq-eqb h k (sym here)))
  done_here (spread h) (deliver channel) view new can by here = spreads_took h view new by channel.leg channel.from ∙ sym (or_none (took channel.leg view channel.from))
  done_here (deliver channel) (compute k) view new can by here = takes_computed channel.leg channel.from view new by ∙ sym (or_none view.has_computed)
  done_here (deliver channel) (spread k) view new can by here = takes_spread channel.leg channel.from view new by ∙ sym (or_none view.has_spread)
  done_here (deliver channel) (deliver other) view new can by here =
      takes_took channel.leg channel.from view new can by other.leg other.from
      ∙ ap (λ b. took other.leg view other.from || (same_leg channel.leg other.leg && b)) (sym (and_all (channel.from == other.from)) ∙ ap (λ b. channel.from == other.from && b) (sym (eq-eqb channel.to other.to (sym here))))
