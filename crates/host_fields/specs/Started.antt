-- The fields of a host at the start.
use Rattle.std.specs.Prelude.{◌≡◌, ◌<◌, ◌≤◌, ℕ, List, length}
use Rattle.std.specs.List.{slice_index_or}
use Rattle.reduce_laws.specs.ReductionLaws.{Reducer}
use Rattle.reduce_laws.specs.ProgramLaws.{Steps}
use Rattle.graph_division.specs.Shares.{Share, masters_here, proxies_here}
use Rattle.proxy_graph.specs.Heads.{vertex_at}

module _ {Item State Shown : Type 0} where
  -- each master starts in its state
  pub record AreStates (steps : Steps Item State Shown) (share : Share) (states : List State) : Type 0 where
    pub long : length states ≡ length (masters_here share)
    pub start : (l : ℕ) (s : State) → l < length (masters_here share) → slice_index_or states l s ≡ steps.start (vertex_at share l)

  -- each proxy shows what its vertex's start shows
  pub record AreShown (steps : Steps Item State Shown) (share : Share) (shown : List Shown) : Type 0 where
    pub long : length shown ≡ length (proxies_here share)
    pub start : (l : ℕ) (y : Shown) → l < length (proxies_here share) → slice_index_or shown l y ≡ steps.shown (steps.start (vertex_at share l))

  -- masters have the identity, and mirrors keep what they show
  pub record AreItems (reducer : Reducer Item) (steps : Steps Item State Shown) (masters : ℕ) (shown : List Shown) (items : List Item) : Type 0 where
    pub long : length items ≡ length shown
    pub sums : (l : ℕ) (d : Item) → l < masters → slice_index_or items l d ≡ reducer.identity
    pub keeps : (l : ℕ) (d : Item) (y : Shown) → masters ≤ l → l < length shown → slice_index_or items l d ≡ steps.keep (slice_index_or shown l y)
