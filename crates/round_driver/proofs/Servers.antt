-- Hosts that serve a divided graph, of which one changes.
use Rattle.std.proofs.Common.{◌≡◌, ℕ, ◌≤◌, List, map, slice_get, slice_set, Some, sym, ap, subst, ◌∙◌, inl, inr}
use Rattle.std.proofs.Math.Seq.{map-set_same}
use Rattle.std.proofs.lemmas.List.{length-set}
use Rattle.std.proofs.lemmas.Option.{get_or_from_slice_get}
use Rattle.list_laws.proofs.Places.{slice_get_set_cases}
use Rattle.graph_model.specs.declared.edge.Way.{Way}
use Rattle.graph_division.specs.Division.{Division}
use Rattle.graph_division.specs.Shares.{Share}
use Rattle.address_memo.specs.Memos.{Memos}
use Rattle.host_laws.specs.HostView.{HostView}
use Rattle.host_state.specs.HostState.{HostState, IsHost}
use Rattle.host_state.specs.Serving.{Serves}
use Rattle.host_core.specs.Calls.{StaysItself}
use Rattle.round_driver.specs.Underway.{lasting, IsServer, AreServers}

module _ {Program Item State Shown : Type 0} where
  -- a host by its parts
  abbrev by_parts : Share → Memos → Way → HostView Program Item State Shown → HostState Program Item State Shown
  by_parts graph memo way view = record { graph = graph; memo = memo; way = way; view = view }

  -- a host that stays itself has another view
  pub stays_itself : (old new : HostState Program Item State Shown) → StaysItself old new → new ≡ record { graph = old.graph; memo = old.memo; way = old.way; view = new.view }
  stays_itself old new stays =
      ap (λ graph. by_parts graph new.memo new.way new.view) stays.same_graph
      ∙ ap (λ memo. by_parts old.graph memo new.way new.view) stays.same_memo
      ∙ ap (λ way. by_parts old.graph old.memo way new.view) stays.same_way

  -- it serves what it served
  serves_still : (division : Division) (host : HostState Program Item State Shown) (view : HostView Program Item State Shown) → Serves division host → Serves division (by_parts host.graph host.memo host.way view)
  serves_still division host view serves = record {
    nodes = serves.nodes;
    hosts = serves.hosts;
    master = serves.master;
    share = serves.share;
    reduce_from = serves.reduce_from;
    spread_to = serves.spread_to;
  }

  pub serves_on : (division : Division) (old new : HostState Program Item State Shown) → StaysItself old new → Serves division old → Serves division new
  serves_on division old new stays serves =
      subst (λ (host : HostState Program Item State Shown). Serves division host) (sym (stays_itself old new stays)) (serves_still division old new.view serves)

  -- it is the server that it was, where its number and its program stay
  pub server_on : (program : Program) (division : Division) (number : ℕ) (old new : HostState Program Item State Shown) → StaysItself old new → IsHost new → new.view.host ≡ old.view.host → new.view.program ≡ old.view.program
      → IsServer program division number old → IsServer program division number new
  server_on program division number old new stays is_host same_number same_program server = record {
    is_host = is_host;
    serves = serves_on division old new stays server.serves;
    of_number = same_number ∙ server.of_number;
    runs = same_program ∙ server.runs;
  }

  -- hosts where one becomes another server of its number
  pub servers_on : (program : Program) (division : Division) (hosts : List (HostState Program Item State Shown)) (number : ℕ) (new : HostState Program Item State Shown)
      → AreServers program division hosts → IsServer program division number new → AreServers program division (slice_set hosts number new)
  servers_on program division hosts number new servers server = record {
    as_many = length-set hosts number new ∙ servers.as_many;
    some_host = subst (λ n. 1 ≤ n) (sym (length-set hosts number new)) servers.some_host;
    each = λ k host at. elim (slice_get_set_cases hosts number new k host at) [
      | inl same ↦ subst (λ n. IsServer program division n host) (sym same.0) (subst (λ (h : HostState Program Item State Shown). IsServer program division number h) same.1 server)
      | inr before ↦ servers.each k host before
    ];
  }

  -- what stays of a host that stays itself and runs the same program
  pub lasting_on : (old new : HostState Program Item State Shown) → StaysItself old new → new.view.program ≡ old.view.program → lasting new ≡ lasting old
  lasting_on old new stays same_program =
      ap lasting (stays_itself old new stays) ∙ ap (λ program. record { graph = old.graph; memo = old.memo; way = old.way; program = program }) same_program

  pub all_lasting_on : (hosts : List (HostState Program Item State Shown)) (number : ℕ) (old new : HostState Program Item State Shown) → slice_get hosts number ≡ Some old → lasting new ≡ lasting old → map lasting (slice_set hosts number new) ≡ map lasting hosts
  all_lasting_on hosts number old new at same = map-set_same lasting hosts number new old (same ∙ ap lasting (sym (get_or_from_slice_get hosts number old old at)))
