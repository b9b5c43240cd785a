-- What each call of a host does to the host's own fields.
use Rattle.std.specs.Prelude.{◌≡◌, ◌⊎◌, ◌<◌, ◌≤◌, ◌&&◌, ◌||◌, ◌==◌, ℕ, Bool, true, false, not, nat_le, is_some, if◌then◌else◌, List, length, All, Option, unwrap_or}
use Rattle.std.specs.List.{list_any, range_with_len, slice_index_or}
use Rattle.std.specs.Option.{option_map_or}
use Rattle.list_laws.specs.Members.{has_member}
use Rattle.reduce_laws.specs.ReductionLaws.{Reducer}
use Rattle.reduce_laws.specs.ProgramLaws.{Steps}
use Rattle.graph_division.specs.Lists.{is_writable}
use Rattle.graph_division.specs.Shares.{seen}
use Rattle.address_memo.specs.Memos.{Proxies, list_at}
use Rattle.field_encodings.specs.Forms.{IsWellFormed}
use Rattle.field_encodings.specs.Packets.{packet_at, bytes_of_packet}
use Rattle.round_packets.specs.Packets.{value_for}
use Rattle.packet_table.specs.declared.channel_spec.Leg.TheVariants.{Reduce}
use Rattle.packet_table.specs.Table.{Table}
use Rattle.cluster_laws.specs.Channels.{is_needed}
use Rattle.host_laws.specs.HostView.{vertex}
use Rattle.host_laws.specs.Effects.{and_maybe}
use Rattle.host_state.specs.HostState.{HostState}
use Rattle.host_state.specs.Gained.{Gains}
use Rattle.host_state.specs.Posting.{Posts}

-- a payload is well formed for a list with these ids: it has some entries
abbrev pub HasEntries : {X : Type 0} → (X → Type 0) → (X → List ℕ) → List ℕ → List ℕ → Type 0
HasEntries {X} IsValue bytes_of ids bytes = (found : List (ℕ × X)) × IsWellFormed IsValue bytes_of ids bytes found

module _ {Program Item State Shown : Type 0} (host : HostState Program Item State Shown) where
  -- whether the host sends what a proxy keeps: it is a mirror to which one of the host's arcs leads
  abbrev pub is_sent : ℕ → Bool
  is_sent l = nat_le host.view.masters l && is_writable (seen host.way host.graph) host.graph.host (vertex host.view l)

  -- whether the host still expects a packet of these lists
  abbrev pub expects : List Proxies → (took : List Bool) → Bool
  expects lists took = list_any (λ from. is_needed (list_at lists from).globals && not (slice_index_or took from false)) (range_with_len 0 host.graph.hosts)

  -- whether the host may spread: it has computed, has not spread, and has taken all reduce packets that it expects
  abbrev pub is_ready_to_spread : Bool
  is_ready_to_spread = host.view.has_computed && not (host.view.has_spread || expects host.memo.reduce_from host.view.took_reduce)

  -- whether the host may begin the next round: it has computed and spread, and has taken all packets that it expects
  abbrev pub is_ready_to_close : Bool
  is_ready_to_close =
      (host.view.has_computed && host.view.has_spread)
      && not (expects host.memo.reduce_from host.view.took_reduce || expects host.memo.spread_from host.view.took_broadcast)

  -- none of the proxies that a host broadcasts to this one is written here
  abbrev pub NoneIsSent : (from : ℕ) → Type 0
  NoneIsSent from = All (λ v. is_writable (seen host.way host.graph) host.graph.host v ≡ false) (list_at host.memo.spread_from from).globals

  -- the host computes: its arcs bring what they bring, and it posts what its mirrors then have
  pub record ComputesOwn (reducer : Reducer Item) (steps : Steps Item State Shown) (item_size : ℕ) (item_bytes : Item → List ℕ) (items : List Item) (old new : Table) : Type 0 where
    -- the items once the arcs have brought theirs, and which proxies have news
    pub news : List Bool
    pub gathered : List Item
    pub new_news : List Bool
    pub gains : Gains reducer steps host.graph host.way host.view.shown host.view.awake host.view.items news gathered new_news
    pub posts : Posts Reduce host.view.host host.memo.reduce_to
        (λ to. bytes_of_packet item_size item_bytes (packet_at gathered (list_at host.memo.reduce_to to).locals (list_at host.memo.reduce_to to).globals new_news))
        old new
    -- where items are not kept, what was sent is set back
    pub items_are : (l : ℕ) (d : Item) → l < length host.view.vertices
        → slice_index_or items l d ≡ (if is_sent l && not reducer.keeps then reducer.identity else slice_index_or gathered l d)

  -- the host takes these entries of a list of masters: each is combined into the sum of its master
  pub record TakesReduceOwn (reducer : Reducer Item) (list : Proxies) (found : List (ℕ × Item)) (items : List Item) : Type 0 where
    pub long : length items ≡ length host.view.items
    pub items_are : (l : ℕ) (d : Item) → l < length host.view.vertices
        → slice_index_or items l d ≡ and_maybe reducer (slice_index_or host.view.items l d) (value_for list.globals found (vertex host.view l))

  -- The host takes these entries of a list of mirrors: each shows its value in the next round, and is awake
  -- where that is not what it shows in this one. Where items are kept, it keeps what the value tells.
  pub record TakesBroadcastOwn (reducer : Reducer Item) (steps : Steps Item State Shown) (eq : Shown → Shown → Bool) (list : Proxies) (found : List (ℕ × Shown)) (next : List Shown) (items : List Item) (awake_next : List Bool) : Type 0 where
    pub next_is : (l : ℕ) (y : Shown) → l < length host.view.vertices
        → slice_index_or next l y ≡ unwrap_or (value_for list.globals found (vertex host.view l)) (slice_index_or host.view.next l y)
    pub awake_is : (l : ℕ) (y : Shown) → l < length host.view.vertices
        → has_member awake_next l ≡ (has_member host.view.awake_next l || option_map_or (λ value. not (eq value (slice_index_or host.view.shown l y))) (value_for list.globals found (vertex host.view l)) false)
    pub items_are : (l : ℕ) (d : Item) (y : Shown) → l < length host.view.vertices
        → slice_index_or items l d ≡ (if reducer.keeps && is_some (value_for list.globals found (vertex host.view l)) then steps.keep (slice_index_or next l y) else slice_index_or host.view.items l d)
