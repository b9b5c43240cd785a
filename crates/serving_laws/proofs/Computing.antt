-- A host that computes by its own fields computes as the round asks.
use Rattle.std.proofs.Common.{◌≡◌, ℕ, ◌<◌, Bool, true, false, cond, not, ◌&&◌, List, length, get_or, refl, sym, ap, ◌∙◌, arith}
use Rattle.std.proofs.lemmas.Bool.{le-leb, lt-leb}
use Rattle.reduce_laws.specs.ReductionLaws.{Reducer}
use Rattle.reduce_laws.specs.ProgramLaws.{Steps}
use Rattle.field_encodings.specs.Lists.{marks_at, values_at}
use Rattle.field_encodings.specs.Packets.{packet_at}
use Rattle.graph_division.specs.Division.{Division}
use Rattle.graph_division.specs.Lists.{is_writable}
use Rattle.graph_division.specs.Shares.{seen}
use Rattle.address_memo.specs.Memos.{list_at}
use Rattle.packet_table.specs.declared.channel_spec.Leg.TheVariants.{Reduce}
use Rattle.packet_table.specs.Table.{Table}
use Rattle.round_packets.specs.Runs.{Run, IsRun, contribution}
use Rattle.round_packets.specs.Packets.{bytes_of_packet}
use Rattle.round_packets.specs.RunPackets.{reduce_packet}
use Rattle.cluster_laws.specs.Posting.{HasGathered}
use Rattle.cluster_laws.proofs.Posting.{reduces_are_posted}
use Rattle.field_encodings.specs.Packets as field_packets
use Rattle.host_laws.specs.HostView.{vertex}
use Rattle.host_laws.specs.Standing.{StandsFor}
use Rattle.host_laws.specs.Effects.{Computes}
use Rattle.host_state.specs.HostState.{HostState, IsHost}
use Rattle.host_state.specs.Serving.{run_of, Serves}
use Rattle.host_state.specs.Posting.{Posts}
use Rattle.host_state.specs.Gained.{gained}
use Rattle.host_state.specs.OwnEffects.{ComputesOwn}
use Rattle.serving_laws.proofs.Proxies.{writable_here, vertex_is, in_proxies}
use Rattle.serving_laws.proofs.Knowing.{knows}
use Rattle.serving_laws.proofs.Gaining.{gained_is}
use Rattle.serving_laws.proofs.Posting.{same_bytes, posts_alike, long_reduces, mirror_locals}

module _ {Program Item State Shown : Type 0} {IsItem : Item → Type 0} {IsShown : Shown → Type 0} {IsState : State → Type 0} (reducer : Reducer Item) (steps : Steps Item State Shown) (item_size shown_size : ℕ) (item_bytes : Item → List ℕ)
    (division : Division) (rounds : ℕ) (host : HostState Program Item State Shown) (is : IsHost host) (serves : Serves division host)
    (fact : IsRun IsItem IsShown IsState (run_of reducer steps item_size shown_size division)) (stands : StandsFor (run_of reducer steps item_size shown_size division) rounds host.view)
    (early : host.view.has_computed ≡ false) (items : List Item) (old new : Table) (own : ComputesOwn host reducer steps item_size item_bytes items old new) where
  abbrev run : Run Item State Shown
  run = run_of reducer steps item_size shown_size division

  -- some value, which a vertex shows
  any : Shown
  any = steps.shown (steps.start 0)

  -- a proxy gains what the host's arcs contribute
  gains : (l : ℕ) (d : Item) → l < length host.view.vertices → get_or own.gathered l d ≡ reducer.combine (get_or host.view.items l d) (contribution run rounds host.view.host (vertex host.view l))
  gains l d within =
      own.gains.gains l d any (in_proxies division host is serves l within)
      ∙ ap (λ v. reducer.combine (get_or host.view.items l d) (gained reducer steps host.graph host.way host.view.shown host.view.awake any v)) (sym (vertex_is division host is serves l))
      ∙ ap (reducer.combine (get_or host.view.items l d)) (gained_is reducer steps item_size shown_size division rounds host is serves fact stands any (vertex host.view l))

  pub computed : Computes (run_of reducer steps item_size shown_size division) rounds host.view items
  computed = record {
    masters = λ l d master.
        let within : l < length host.view.vertices = let fit = stands.share.masters_fit in omega arith in
        own.items_are l d within
        ∙ ap (λ b. cond ((b && is_writable (seen host.way host.graph) host.graph.host (vertex host.view l)) && not reducer.keeps) reducer.identity (get_or own.gathered l d)) (lt-leb host.view.masters l master)
        ∙ gains l d within;
    mirrors = λ l d mirror within written.
        own.items_are l d within
        ∙ ap (λ b. cond ((b && is_writable (seen host.way host.graph) host.graph.host (vertex host.view l)) && not reducer.keeps) reducer.identity (get_or own.gathered l d)) (le-leb host.view.masters l mirror)
        ∙ ap (λ b. cond (b && not reducer.keeps) reducer.identity (get_or own.gathered l d)) (sym (writable_here division host is serves (vertex host.view l)) ∙ written)
        ∙ turned reducer.keeps (get_or own.gathered l d) reducer.identity
        ∙ ap (λ x. cond reducer.keeps x reducer.identity) (gains l d within);
  }
    where
      turned : (b : Bool) (x y : Item) → cond (not b) y x ≡ cond b x y
      turned true x y = refl
      turned false x y = refl

  gathered_all : HasGathered (run_of reducer steps item_size shown_size division) rounds host.view own.gathered own.new_news
  gathered_all = record {
    long = own.gains.long ∙ is.items_fit;
    gains = λ l d mirror within written. gains l d within;
    grew = λ l d mirror within written. own.gains.grew l d (let many = is.masters_are in omega arith) (in_proxies division host is serves l within);
  }

  pub posted : Posts Reduce host.view.host host.memo.reduce_to (λ to. bytes_of_packet item_size item_bytes (reduce_packet (run_of reducer steps item_size shown_size division) rounds host.view.host to)) old new
  posted =
      posts_alike Reduce host.view.host host.memo.reduce_to
      (λ to. field_packets.bytes_of_packet item_size item_bytes (packet_at own.gathered (list_at host.memo.reduce_to to).locals (list_at host.memo.reduce_to to).globals own.new_news))
      (λ to. bytes_of_packet item_size item_bytes (reduce_packet run rounds host.view.host to)) old new
      (λ to listed.
      let below : to < host.graph.hosts = let long = long_reduces division host is serves in omega arith in
      let locals = (list_at host.memo.reduce_to to).locals in
      same_bytes item_size item_bytes (reduce_packet run rounds host.view.host to) (list_at host.memo.reduce_to to).globals (marks_at own.new_news locals) (values_at own.gathered locals) ((knows division host is serves).reduce_to to below)
      (reduces_are_posted run rounds to host.view own.gathered own.new_news locals fact stands early gathered_all (mirror_locals division host is serves to below)))
      own.posts
