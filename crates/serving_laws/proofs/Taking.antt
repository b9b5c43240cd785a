-- A host that takes what a round's packet carries takes it as the round asks.
use Rattle.std.proofs.Common.{◌≡◌, ℕ, suc, ◌<◌, ◌≤◌, Bool, true, false, cond, not, ◌&&◌, ◌||◌, ◌==◌, is_some, Option, Some, None, List, length, map, get_or, refl, sym, ap, ◌∙◌, arith, inl, inr, All}
use Rattle.std.specs.Prelude.{◌↔◌}
use Rattle.std.specs.Option.{unwrap_or, option_map_or}
use Rattle.std.proofs.lemmas.Bool.{cases_lt, cases_Bool, both_ways, false_from_ne_true, lt-ltb, le-ltb}
use Rattle.std.proofs.lemmas.List.{get_or_past}
use Rattle.reduce_laws.specs.ReductionLaws.{Reducer}
use Rattle.reduce_laws.specs.ProgramLaws.{Steps}
use Rattle.list_laws.specs.Among.{is_among}
use Rattle.field_encodings.specs.Forms.{entries}
use Rattle.graph_division.specs.Division.{Division}
use Rattle.graph_division.specs.Lists.{is_readable, is_writable, is_mirror, reduce_list, broadcast_list}
use Rattle.graph_division.proofs.Listed.{picked}
use Rattle.round_packets.specs.Runs.{Run, IsRun, shows}
use Rattle.round_packets.specs.Packets.{Packet, tag_of, marks_of, carries, carried_value, value_for}
use Rattle.round_packets.specs.RunPackets.{reduce_packet, broadcast_packet}
use Rattle.round_packets.proofs.Carried.{entries_are_carried}
use Rattle.round_packets.proofs.Shares.{shows_value}
use Rattle.address_memo.specs.Memos.{list_at}
use Rattle.host_laws.specs.HostView.{vertex}
use Rattle.host_laws.specs.Standing.{StandsFor}
use Rattle.host_laws.specs.Effects.{and_maybe, TakesReduce, TakesBroadcast}
use Rattle.host_state.specs.HostState.{HostState, IsHost}
use Rattle.host_state.specs.Serving.{run_of, Serves}
use Rattle.host_state.specs.OwnEffects.{TakesReduceOwn, TakesBroadcastOwn}
use Rattle.serving_laws.proofs.Knowing.{knows}

-- what a list does not have, its packet does not carry
not_carried : {X : Type 0} (size : ℕ) (packet : Packet X) (v : ℕ) → is_among packet.ids v ≡ false → carries size packet v ≡ false
not_carried size packet v missing = ap (λ b. b && (tag_of size packet == 0 || packet.updated v)) missing

-- the entries of a packet, read by the ids of its list
read_by : {X : Type 0} (size v : ℕ) (packet : Packet X) (ids : List ℕ) → ids ≡ packet.ids → value_for ids (entries (tag_of size packet) (marks_of packet) (map packet.value packet.ids)) v ≡ carried_value size packet v
read_by {X} size v packet ids same =
    ap (λ (l : List ℕ). value_for l (entries (tag_of size packet) (marks_of packet) (map packet.value packet.ids)) v) same ∙ entries_are_carried X size v packet

-- two tests that tell the same, the second with its arguments turned
same_told : {V : Type 0} {IsValue : V → Type 0} (eq same : V → V → Bool) → ((x y : V) → IsValue x → IsValue y → (eq x y ≡ true) ↔ (x ≡ y)) → ((x y : V) → IsValue x → IsValue y → (same x y ≡ true) ↔ (x ≡ y))
    → (x y : V) → IsValue x → IsValue y → eq x y ≡ same y x
same_told eq same eq_tells same_tells x y is_x is_y =
    elim (cases_Bool (same y x)) [
      | inl alike ↦ (eq_tells x y is_x is_y).1 (sym ((same_tells y x is_y is_x).0 alike)) ∙ sym alike
      | inr apart ↦ false_from_ne_true (eq x y) (λ alike. both_ways (same y x) apart ((same_tells y x is_y is_x).1 (sym ((eq_tells x y is_x is_y).0 alike)))) ∙ sym apart
    ]

module _ {Program Item State Shown : Type 0} (reducer : Reducer Item) (steps : Steps Item State Shown) (item_size shown_size : ℕ)
    (division : Division) (rounds from : ℕ) (host : HostState Program Item State Shown) (is : IsHost host) (serves : Serves division host) (stands : StandsFor (run_of reducer steps item_size shown_size division) rounds host.view) (there : from < host.graph.hosts) where
  abbrev run : Run Item State Shown
  run = run_of reducer steps item_size shown_size division

  within_of_master : (l : ℕ) → l < host.view.masters → l < length host.view.vertices
  within_of_master l master = let fit = stands.share.masters_fit in omega arith

  -- who has its master elsewhere is in no list of masters here
  no_master : (l : ℕ) → host.view.masters ≤ l → l < length host.view.vertices → is_among (reduce_list division from host.view.host) (vertex host.view l) ≡ false
  no_master l mirror within =
      let v = vertex host.view l in
      picked (λ u. division.master u == host.view.host && (is_mirror division from u && is_writable division from u)) 0 division.nodes v (omega arith) (let below = stands.share.are_nodes l within in omega arith)
      ∙ ap (λ b. b && (is_mirror division from v && is_writable division from v)) (stands.share.masters_first l within ∙ le-ltb l host.view.masters mirror)

  -- and who has its master here is in no list of mirrors here
  no_mirror : (l : ℕ) → l < host.view.masters → is_among (broadcast_list division from host.view.host) (vertex host.view l) ≡ false
  no_mirror l master =
      let v = vertex host.view l in
      let within = within_of_master l master in
      picked (λ u. division.master u == from && (is_mirror division host.view.host u && is_readable division host.view.host u)) 0 division.nodes v (omega arith) (let below = stands.share.are_nodes l within in omega arith)
      ∙ ap (λ b. division.master v == from && ((not b && (is_readable division host.view.host v || is_writable division host.view.host v)) && is_readable division host.view.host v)) (stands.share.masters_first l within ∙ lt-ltb l host.view.masters master)
      ∙ nothing (division.master v == from)
    where
      nothing : (b : Bool) → (b && false) ≡ false
      nothing true = refl
      nothing false = refl

  pub took_reduce : (items : List Item) → TakesReduceOwn host reducer (list_at host.memo.reduce_from from) (entries (tag_of item_size (reduce_packet run rounds from host.view.host)) (marks_of (reduce_packet run rounds from host.view.host)) (map (reduce_packet run rounds from host.view.host).value (reduce_packet run rounds from host.view.host).ids)) items
      → TakesReduce run rounds from host.view items
  took_reduce items own = record {
    masters = λ l d master. taken l d (within_of_master l master);
    mirrors = λ l d mirror. elim (cases_lt l (length host.view.vertices)) [
      | inl within ↦
          let v = vertex host.view l in
          taken l d within
          ∙ ap (λ b. and_maybe reducer (get_or host.view.items l d) (cond b (Some (packet.value v)) None)) (not_carried item_size packet v (no_master l mirror within))
      | inr past ↦
          let long = own.long in
          let fit = is.items_fit in
          get_or_past items l d (omega arith) ∙ sym (get_or_past host.view.items l d (omega arith))
    ];
  }
    where
      packet : Packet Item
      packet = reduce_packet run rounds from host.view.host

      taken : (l : ℕ) (d : Item) → l < length host.view.vertices → get_or items l d ≡ and_maybe reducer (get_or host.view.items l d) (carried_value item_size (reduce_packet run rounds from host.view.host) (vertex host.view l))
      taken l d within =
          own.items_are l d within
          ∙ ap (and_maybe reducer (get_or host.view.items l d)) (read_by item_size (vertex host.view l) (reduce_packet run rounds from host.view.host) (list_at host.memo.reduce_from from).globals ((knows division host is serves).reduce_from from there))

  module _ {IsItem : Item → Type 0} {IsShown : Shown → Type 0} {IsState : State → Type 0} (fact : IsRun IsItem IsShown IsState (run_of reducer steps item_size shown_size division)) (eq : Shown → Shown → Bool) (eq_tells : (x y : Shown) → IsShown x → IsShown y → (eq x y ≡ true) ↔ (x ≡ y)) (values : All IsShown host.view.shown)
      (next : List Shown) (items : List Item) (awake_next : List Bool)
      (own : TakesBroadcastOwn host reducer steps eq (list_at host.memo.spread_from from)
      (entries (tag_of shown_size (broadcast_packet (run_of reducer steps item_size shown_size division) rounds from host.view.host)) (marks_of (broadcast_packet (run_of reducer steps item_size shown_size division) rounds from host.view.host)) (map (broadcast_packet (run_of reducer steps item_size shown_size division) rounds from host.view.host).value (broadcast_packet (run_of reducer steps item_size shown_size division) rounds from host.view.host).ids))
      next items awake_next) where
    -- what the packet has for a vertex
    news : ℕ → Option Shown
    news v = carried_value shown_size (broadcast_packet run rounds from host.view.host) v

    tells : ℕ → Bool
    tells v = carries shown_size (broadcast_packet run rounds from host.view.host) v

    read_is : (v : ℕ) → value_for (list_at host.memo.spread_from from).globals (entries (tag_of shown_size (broadcast_packet run rounds from host.view.host)) (marks_of (broadcast_packet run rounds from host.view.host)) (map (broadcast_packet run rounds from host.view.host).value (broadcast_packet run rounds from host.view.host).ids)) v ≡ news v
    unfolding news
    read_is v = read_by shown_size v (broadcast_packet run rounds from host.view.host) (list_at host.memo.spread_from from).globals ((knows division host is serves).spread_from from there)

    next_is : (l : ℕ) (y : Shown) → l < length host.view.vertices → get_or next l y ≡ unwrap_or (news (vertex host.view l)) (get_or host.view.next l y)
    next_is l y within = own.next_is l y within ∙ ap (λ o. unwrap_or o (get_or host.view.next l y)) (read_is (vertex host.view l))

    awake_is : (l : ℕ) (y : Shown) → l < length host.view.vertices → get_or awake_next l false ≡ (get_or host.view.awake_next l false || option_map_or (λ value. not (eq value (get_or host.view.shown l y))) (news (vertex host.view l)) false)
    awake_is l y within = own.awake_is l y within ∙ ap (λ o. get_or host.view.awake_next l false || option_map_or (λ value. not (eq value (get_or host.view.shown l y))) o false) (read_is (vertex host.view l))

    items_are : (l : ℕ) (x : Item) (y : Shown) → l < length host.view.vertices → get_or items l x ≡ cond (reducer.keeps && is_some (news (vertex host.view l))) (steps.keep (get_or next l y)) (get_or host.view.items l x)
    items_are l x y within = own.items_are l x y within ∙ ap (λ o. cond (reducer.keeps && is_some o) (steps.keep (get_or next l y)) (get_or host.view.items l x)) (read_is (vertex host.view l))

    -- a master is not told
    no_news : (l : ℕ) → l < host.view.masters → news (vertex host.view l) ≡ None
    unfolding news
    no_news l master = ap (λ b. cond b (Some (shows run (suc rounds) (vertex host.view l))) None) (not_carried shown_size (broadcast_packet run rounds from host.view.host) (vertex host.view l) (no_mirror l master))

    or_none : (b : Bool) → (b || false) ≡ b
    or_none true = refl
    or_none false = refl

    and_none : (b : Bool) → (b && false) ≡ false
    and_none true = refl
    and_none false = refl

    -- some value, which a vertex shows
    any : Shown
    any = steps.shown (steps.start 0)

    wakes : (l : ℕ) (y : Shown) → l < length host.view.vertices → get_or awake_next l false ≡ cond (tells (vertex host.view l) && not (steps.same (get_or host.view.shown l y) (get_or next l y))) true (get_or host.view.awake_next l false)
    unfolding news tells
    wakes l y within = awake_is l y within ∙ step (tells v) refl
      where
        v : ℕ
        v = vertex host.view l

        was : Bool
        was = get_or host.view.awake_next l false

        by_test : (was s : Bool) → (was || not s) ≡ cond (not s) true was
        by_test true true = refl
        by_test true false = refl
        by_test false true = refl
        by_test false false = refl

        step : (b : Bool) → tells (vertex host.view l) ≡ b
            → (get_or host.view.awake_next l false || option_map_or (λ value. not (eq value (get_or host.view.shown l y))) (cond (tells (vertex host.view l)) (Some (shows run (suc rounds) (vertex host.view l))) None) false)
            ≡ cond (tells (vertex host.view l) && not (steps.same (get_or host.view.shown l y) (get_or next l y))) true (get_or host.view.awake_next l false)
        step true carried =
            let told : get_or next l y ≡ shows run (suc rounds) v = next_is l y within ∙ ap (λ b. unwrap_or (cond b (Some (shows run (suc rounds) v)) None) (get_or host.view.next l y)) carried in
            let is_shown : IsShown (get_or host.view.shown l y) = values l y (let fit = is.shown_fit in omega arith) in
            let is_news : IsShown (shows run (suc rounds) v) = shows_value run fact (suc rounds) v (stands.share.are_nodes l within) in
            ap (λ b. was || option_map_or (λ value. not (eq value (get_or host.view.shown l y))) (cond b (Some (shows run (suc rounds) v)) None) false) carried
            ∙ ap (λ b. was || not b) (same_told eq steps.same eq_tells fact.program.same_tells (shows run (suc rounds) v) (get_or host.view.shown l y) is_news is_shown)
            ∙ by_test was (steps.same (get_or host.view.shown l y) (shows run (suc rounds) v))
            ∙ ap (λ x. cond (not (steps.same (get_or host.view.shown l y) x)) true was) (sym told)
            ∙ ap (λ b. cond (b && not (steps.same (get_or host.view.shown l y) (get_or next l y))) true was) (sym carried)
        step false carried =
            ap (λ b. was || option_map_or (λ value. not (eq value (get_or host.view.shown l y))) (cond b (Some (shows run (suc rounds) v)) None) false) carried
            ∙ or_none was
            ∙ ap (λ b. cond (b && not (steps.same (get_or host.view.shown l y) (get_or next l y))) true was) (sym carried)

    pub took_broadcast : TakesBroadcast (run_of reducer steps item_size shown_size division) rounds from host.view next items awake_next
    unfolding news tells
    took_broadcast = record {
      told = λ l y mirror within. next_is l y within;
      wakes = λ l y mirror within. wakes l y within;
      keeps = λ l x y mirror within written. items_are l x y within ∙ ap (λ b. cond (reducer.keeps && b) (steps.keep (get_or next l y)) (get_or host.view.items l x)) (some_if (tells (vertex host.view l)) (shows run (suc rounds) (vertex host.view l)));
      next_of_masters = λ l y master. next_is l y (within_of_master l master) ∙ ap (λ o. unwrap_or o (get_or host.view.next l y)) (no_news l master);
      awake_of_masters = λ l master. awake_is l any (within_of_master l master) ∙ ap (λ o. get_or host.view.awake_next l false || option_map_or (λ value. not (eq value (get_or host.view.shown l any))) o false) (no_news l master) ∙ or_none (get_or host.view.awake_next l false);
      sums = λ l x master. items_are l x any (within_of_master l master)
          ∙ ap (λ o. cond (reducer.keeps && is_some o) (steps.keep (get_or next l any)) (get_or host.view.items l x)) (no_news l master)
          ∙ ap (λ b. cond b (steps.keep (get_or next l any)) (get_or host.view.items l x)) (and_none reducer.keeps);
    }
      where
        some_if : (b : Bool) (y : Shown) → is_some (cond b (Some y) None) ≡ b
        some_if true y = refl
        some_if false y = refl
