-- A host can tell from its counters when it may spread, and when it may begin the next round.
use Rattle.std.proofs.Common.{◌≡◌, ℕ, Bool, true, false, not, ◌&&◌, ◌||◌, ◌==◌, List, refl, sym, ap, ◌∙◌}
use Rattle.std.specs.List.{range_with_len, slice_index_or}
use Rattle.reduce_laws.specs.ReductionLaws.{Reducer}
use Rattle.reduce_laws.specs.ProgramLaws.{Steps}
use Rattle.address_memo.specs.Memos.{list_at}
use Rattle.cluster_laws.specs.Channels.{is_needed}
use Rattle.host_state.specs.HostState.{HostState}
use Rattle.host_state.specs.OwnEffects.{expects, is_ready_to_spread, is_ready_to_close}
use Rattle.host_core.specs.Kept.{IsKept}
use Rattle.host_core.proofs.Left.{nothing_left}

-- two tests, the second of which is tried where the first passes
pub tried : (a b value : Bool) → a ≡ true → value ≡ b → value ≡ (a && b)
tried a b value passes is = is ∙ ap (λ t. t && b) (sym passes)

pub not_tried : (a b value : Bool) → a ≡ false → value ≡ a → value ≡ (a && b)
not_tried a b value fails is = is ∙ fails ∙ ap (λ t. t && b) (sym fails)

-- neither of two
neither : (a b c : Bool) → ((a && not b) && not c) ≡ (a && not (b || c))
neither true true c = refl
neither true false c = refl
neither false b c = refl

module _ {Program Item State Shown : Type 0} {IsItem : Item → Type 0} {IsShown : Shown → Type 0} {IsState : State → Type 0} {reducer : Reducer Item} {steps : Steps Item State Shown} {host : HostState Program Item State Shown} {news : List Bool} {reduces_left broadcasts_left : ℕ}
    (kept : IsKept IsItem IsShown IsState reducer steps host news reduces_left broadcasts_left) where
  no_reduce : (reduces_left == 0) ≡ not (expects host host.memo.reduce_from host.view.took_reduce)
  no_reduce = ap (λ n. n == 0) kept.reduces_left_are ∙ nothing_left (λ from. is_needed (list_at host.memo.reduce_from from).globals && not (slice_index_or host.view.took_reduce from false)) (range_with_len 0 host.graph.hosts)

  no_broadcast : (broadcasts_left == 0) ≡ not (expects host host.memo.spread_from host.view.took_broadcast)
  no_broadcast = ap (λ n. n == 0) kept.broadcasts_left_are ∙ nothing_left (λ from. is_needed (list_at host.memo.spread_from from).globals && not (slice_index_or host.view.took_broadcast from false)) (range_with_len 0 host.graph.hosts)

  pub spreads : ((host.view.has_computed && not host.view.has_spread) && (reduces_left == 0)) ≡ is_ready_to_spread host
  spreads =
      ap (λ b. (host.view.has_computed && not host.view.has_spread) && b) no_reduce
      ∙ neither host.view.has_computed host.view.has_spread (expects host host.memo.reduce_from host.view.took_reduce)

  pub closes : (((host.view.has_computed && host.view.has_spread) && (reduces_left == 0)) && (broadcasts_left == 0)) ≡ is_ready_to_close host
  closes =
      ap (λ b. ((host.view.has_computed && host.view.has_spread) && b) && (broadcasts_left == 0)) no_reduce
      ∙ ap (λ b. ((host.view.has_computed && host.view.has_spread) && not (expects host host.memo.reduce_from host.view.took_reduce)) && b) no_broadcast
      ∙ neither (host.view.has_computed && host.view.has_spread) (expects host host.memo.reduce_from host.view.took_reduce) (expects host host.memo.spread_from host.view.took_broadcast)
