-- A host that takes entries for a list of its proxies: what that does to its fields, and what holds of them after it.
use Rattle.std.proofs.Common.{◌≡◌, ◌≢◌, ℕ, suc, ◌+◌, ◌-◌, ◌<◌, ◌≤◌, Bool, true, false, cond, ◌||◌, is_some, nat_eq, Option, Some, None, List, [], ◌∷◌, length, set, get_or, refl, sym, ap, subst, ◌∙◌, arith, All}
use Rattle.std.specs.Prelude.{IfSome, Result, Ok}
use Rattle.std.specs.List.{slice_index, slice_index_or}
use Rattle.std.specs.Option.{option_map_or}
use Rattle.std.proofs.lemmas.Bool.{or_parts}
use Rattle.std.proofs.lemmas.List.{length-set}
use Rattle.graph_model.specs.Graph.{most_nodes}
use Rattle.reduce_laws.specs.ReductionLaws.{Reducer, ReductionLaws}
use Rattle.reduce_laws.specs.ProgramLaws.{Steps}
use Rattle.list_laws.specs.Among.{place_of}
use Rattle.list_laws.specs.Members.{has_member}
use Rattle.proxy_graph.proofs.Lids.{place_none}
use Rattle.address_memo.specs.Memos.{Proxies, AreMasters, list_at}
use Rattle.field_encodings.specs.EntryOrder.{AreEntries}
use Rattle.field_encodings.specs.Forms.{IsForm, entries}
use Rattle.field_encodings.specs.Packets.{value_at}
use Rattle.round_packets.specs.Packets.{value_for}
use Rattle.cluster_laws.specs.Channels.{is_needed}
use Rattle.host_laws.specs.HostView.{vertex}
use Rattle.host_laws.specs.Effects.{and_maybe, after_reduce}
use Rattle.host_state.specs.HostState.{HostState, IsHost}
use Rattle.host_state.specs.OwnEffects.{TakesReduceOwn}
use Rattle.host_core.specs.Kept.{IsKept, left_of}
use Rattle.host_core.proofs.Lists.{AreHere, few_listed, locals_here, masters_are_here, masters_low, value_here, not_listed, no_value}
use Rattle.host_core.proofs.Left.{one_taken}

-- ---- the value that entries have for a place

-- it is a value, if there is one
pub value_is : {X : Type 0} (IsValue : X → Type 0) (found : List (ℕ × X)) (place : ℕ) → All (λ entry. IsValue entry.1) found → IfSome (value_at found place) IsValue
value_is IsValue [] place values = tt
value_is {X} IsValue (entry ∷ rest) place values =
    step (nat_eq entry.0 place) (values 0 entry (omega arith)) (value_is IsValue rest place (λ k d inside. values (suc k) d (omega arith)))
  where
    step : (b : Bool) → IsValue entry.1 → IfSome (value_at rest place) IsValue → IfSome (cond b (Some entry.1) (value_at rest place)) IsValue
    step true here later = here
    step false here later = later

none_from : {X : Type 0} (o : Option X) → is_some o ≡ false → o ≡ None
none_from None none = refl
none_from (Some x) none = absurd (cc)

-- a number that is not listed has no value
pub unlisted : {X : Type 0} (list : Proxies) (found : List (ℕ × X)) (l : ℕ) → All (λ entry. entry.0 < length list.locals) found
    → ((i : ℕ) → i < length list.locals → slice_index list.locals i ≢ l) → value_at found (place_of list.locals l) ≡ None
unlisted list found l below apart =
    let past : place_of list.locals l ≡ length list.locals = place_none list.locals l (not_listed list.locals l apart) in
    no_value found (length list.locals) (place_of list.locals l) below (omega arith)

-- ---- a list whose proxies are here

module _ {Program Item State Shown : Type 0} {host : HostState Program Item State Shown} (is : IsHost host) (list : Proxies) (here : AreHere host.graph list) where
  -- its ids are not many
  pub short : (ids : List ℕ) → ids ≡ list.globals → length ids ≤ most_nodes
  short ids ids_are = let few = few_listed host.graph list here in let fit = is.is_share.nodes_fit in let same = ap length ids_are in omega arith

  -- its local numbers are below what has an element for each proxy
  pub inside_of : (locals : List ℕ) → locals ≡ list.locals → (n : ℕ) → n ≡ length host.view.vertices → All (λ local. local < n) locals
  inside_of locals locals_are n count k d inside =
      let one = locals_here host.graph list here k d (let same = ap length locals_are in omega arith) in
      let same = ap (λ (l : List ℕ). get_or l k d) locals_are in
      let many = ap length is.vertices_are in
      omega arith

  -- the value at a proxy's place is that for its vertex
  pub value_of_proxy : {X : Type 0} (found : List (ℕ × X)) (l : ℕ) → All (λ entry. entry.0 < length list.globals) found → l < length host.view.vertices → value_at found (place_of list.locals l) ≡ value_for list.globals found (vertex host.view l)
  value_of_proxy found l below inside =
      let many = ap length is.vertices_are in
      value_here host.graph list here found l below (omega arith)
      ∙ ap (λ (vertices : List ℕ). value_for list.globals found (slice_index vertices l)) (sym is.vertices_are)

-- ---- a reduce packet

-- The host is said twice: as its fields have it, and as the call is handed it. Lists and items come as the
-- calls of lower crates lend them.
module _ {Program Item State Shown : Type 0} {IsItem : Item → Type 0} {IsShown : Shown → Type 0} {IsState : State → Type 0} {reducer : Reducer Item} {steps : Steps Item State Shown} {host now : HostState Program Item State Shown} {news : List Bool} {reduces_left broadcasts_left : ℕ}
    (kept : IsKept IsItem IsShown IsState reducer steps host news reduces_left broadcasts_left) (is_now : host ≡ now) (from : ℕ) (asked : from < now.graph.hosts)
    (list : Proxies) (list_is : list ≡ list_at host.memo.reduce_from from) where
  there : from < host.graph.hosts
  there = subst (λ (h : HostState Program Item State Shown). from < h.graph.hosts) (sym is_now) asked

  masters : AreMasters host.graph list
  masters = let hosts = kept.is_host.fits.of_hosts in let less = there in subst (AreMasters host.graph) (sym list_is) (kept.is_host.fits.reduce_from_masters from (omega arith))

  here : AreHere host.graph list
  here = masters_are_here host.graph list masters

  pub reduce_short : (ids : List ℕ) → ids ≡ list.globals → length ids ≤ most_nodes
  reduce_short = short kept.is_host list here

  pub reduce_inside : (locals : List ℕ) → locals ≡ list.locals → (n : ℕ) → n ≡ length host.view.vertices → All (λ local. local < n) locals
  reduce_inside = inside_of kept.is_host list here

  module _ (needed_now : is_needed (list_at now.memo.reduce_from from).globals ≡ true) (first_now : slice_index_or now.view.took_reduce from false ≡ false) where
    -- the packet is still to come
    pub reduce_to_come : reduces_left ≡ left_of host.graph.hosts host.memo.reduce_from (set host.view.took_reduce from true) + 1
    reduce_to_come =
        kept.reduces_left_are
        ∙ one_taken host.graph.hosts from host.memo.reduce_from host.view.took_reduce there kept.is_host.took_reduce_fit
        (subst (λ (h : HostState Program Item State Shown). is_needed (list_at h.memo.reduce_from from).globals ≡ true) (sym is_now) needed_now)
        (subst (λ (h : HostState Program Item State Shown). slice_index_or h.view.took_reduce from false ≡ false) (sym is_now) first_now)

  module _ (laws : ReductionLaws IsItem reducer) (ids locals : List ℕ) (ids_are : ids ≡ list.globals) (locals_are : locals ≡ list.locals)
      (found : List (ℕ × Item)) (are_found : AreEntries IsItem (length ids) found) (old sums items : List Item) (new_news : List Bool) (old_is : old ≡ host.view.items) (items_is : items ≡ sums) (long : length sums ≡ length old) (news_long : length new_news ≡ length news)
      (sums_are : (l : ℕ) (d : Item) → get_or sums l d ≡ option_map_or (reducer.combine (get_or old l d)) (value_at found (place_of locals l)) (get_or old l d))
      (touched_are : (l : ℕ) → has_member new_news l ≡ (has_member news l || is_some (value_at found (place_of locals l)))) where
    are : AreEntries IsItem (length list.globals) found
    are = subst (λ (l : List ℕ). AreEntries IsItem (length l) found) ids_are are_found

    items_are : (l : ℕ) (d : Item) → get_or items l d ≡ option_map_or (reducer.combine (get_or host.view.items l d)) (value_at found (place_of list.locals l)) (get_or host.view.items l d)
    items_are l d =
        ap (λ (xs : List Item). get_or xs l d) items_is ∙ sums_are l d
        ∙ ap (λ (xs : List Item). option_map_or (reducer.combine (get_or xs l d)) (value_at found (place_of locals l)) (get_or xs l d)) old_is
        ∙ ap (λ (xs : List ℕ). option_map_or (reducer.combine (get_or host.view.items l d)) (value_at found (place_of xs l)) (get_or host.view.items l d)) locals_are

    touched : (l : ℕ) → has_member new_news l ≡ (has_member news l || is_some (value_at found (place_of list.locals l)))
    touched l = touched_are l ∙ ap (λ (xs : List ℕ). has_member news l || is_some (value_at found (place_of xs l))) locals_are

    as_long : length items ≡ length host.view.items
    as_long = ap length items_is ∙ long ∙ ap length old_is

    below : All (λ entry. entry.0 < length list.locals) found
    below k d inside = let many = masters.is_list.as_many in let one = are.below k d inside in omega arith

    -- a mirror has no entry
    none_for_mirror : (l : ℕ) → host.view.masters ≤ l → value_at found (place_of list.locals l) ≡ None
    none_for_mirror l high = unlisted list found l below
        (λ i inside same. let low = masters_low host.graph list masters i (let many = here.is_list.as_many in omega arith) in let count = kept.is_host.masters_are in omega arith)

    same_item : (l : ℕ) (d : Item) → value_at found (place_of list.locals l) ≡ None → get_or items l d ≡ get_or host.view.items l d
    same_item l d none = items_are l d ∙ ap (λ (o : Option Item). option_map_or (reducer.combine (get_or host.view.items l d)) o (get_or host.view.items l d)) none

    are_items : All IsItem items
    are_items l d inside =
        subst IsItem (sym (items_are l d))
        (gained (value_at found (place_of list.locals l)) (value_is IsItem found (place_of list.locals l) are.values) (get_or host.view.items l d) (kept.items_are l d (let same = as_long in omega arith)))
      where
        gained : (o : Option Item) → IfSome o IsItem → (x : Item) → IsItem x → IsItem (option_map_or (reducer.combine x) o x)
        gained None more x is = is
        gained (Some y) more x is = laws.combine_is_value x y is more

    pub reduce_kept : is_needed (list_at now.memo.reduce_from from).globals ≡ true → slice_index_or now.view.took_reduce from false ≡ false
        → IsKept IsItem IsShown IsState reducer steps (record host { view = after_reduce from host.view items }) new_news (reduces_left - 1) broadcasts_left
    reduce_kept needed first = record {
      is_host = record {
        is_share = kept.is_host.is_share;
        is_memo = kept.is_host.is_memo;
        fits = kept.is_host.fits;
        of_host = kept.is_host.of_host;
        vertices_are = kept.is_host.vertices_are;
        masters_are = kept.is_host.masters_are;
        states_fit = kept.is_host.states_fit;
        shown_fit = kept.is_host.shown_fit;
        next_fit = kept.is_host.next_fit;
        items_fit = as_long ∙ kept.is_host.items_fit;
        awake_fit = kept.is_host.awake_fit;
        awake_next_fit = kept.is_host.awake_next_fit;
        took_reduce_fit = length-set host.view.took_reduce from true ∙ kept.is_host.took_reduce_fit;
        took_broadcast_fit = kept.is_host.took_broadcast_fit;
      };
      news_fit = news_long ∙ kept.news_fit;
      states_are = kept.states_are;
      shown_are = kept.shown_are;
      next_are = kept.next_are;
      items_are = are_items;
      quiet = kept.quiet;
      asleep = kept.asleep;
      states_show = kept.states_show;
      unmoved = λ l s d low still.
          let parts = or_parts (has_member news l) (is_some (value_at found (place_of list.locals l))) (sym (touched l) ∙ still) in
          let before = kept.unmoved l s d low parts.0 in
          (same_item l d (none_from (value_at found (place_of list.locals l)) parts.1) ∙ before.0, before.1);
      all_sent = λ l high. touched l ∙ ap (λ b. b || is_some (value_at found (place_of list.locals l))) (kept.all_sent l high) ∙ ap (λ (o : Option Item). is_some o) (none_for_mirror l high);
      nothing_kept = λ keeps l d high inside. same_item l d (none_for_mirror l high) ∙ kept.nothing_kept keeps l d high inside;
      reduces_left_are =
          let one = reduce_to_come needed first in omega arith;
      broadcasts_left_are = kept.broadcasts_left_are;
    }

    own : TakesReduceOwn host reducer list found items
    own = record {
      long = as_long;
      items_are = λ l d inside.
          items_are l d
          ∙ ap (λ (o : Option Item). option_map_or (reducer.combine (get_or host.view.items l d)) o (get_or host.view.items l d)) (value_of_proxy kept.is_host list here found l are.below inside)
          ∙ combined (get_or host.view.items l d) (value_for list.globals found (vertex host.view l));
    }
      where
        combined : (x : Item) (o : Option Item) → option_map_or (reducer.combine x) o x ≡ and_maybe reducer x o
        combined x None = refl
        combined x (Some y) = refl

    -- whatever form the bytes are of, its entries were taken
    pub reduce_own : {Fault : Type 0} (item_bytes : Item → List ℕ) (payload : List ℕ) (read : Result (List (ℕ × Item)) Fault) → read ≡ Ok found
        → ((tag : ℕ) (marks : List Bool) (values : List Item) → IsForm IsItem item_bytes ids payload tag marks values → read ≡ Ok (entries tag marks values))
        → (tag : ℕ) (marks : List Bool) (values : List Item) → IsForm IsItem item_bytes (list_at now.memo.reduce_from from).globals payload tag marks values
        → TakesReduceOwn now reducer (list_at now.memo.reduce_from from) (entries tag marks values) items
    reduce_own item_bytes payload read is_found all_forms tag marks values form =
        let at_host : list ≡ list_at now.memo.reduce_from from = list_is ∙ ap (λ (h : HostState Program Item State Shown). list_at h.memo.reduce_from from) is_now in
        let said = all_forms tag marks values (subst (λ (l : List ℕ). IsForm IsItem item_bytes l payload tag marks values) (sym (ids_are ∙ ap (λ (l : Proxies). l.globals) at_host)) form) in
        let same : found ≡ entries tag marks values = cc in
        subst (λ (h : HostState Program Item State Shown). TakesReduceOwn h reducer (list_at now.memo.reduce_from from) (entries tag marks values) items) is_now
        (subst (λ (l : Proxies). TakesReduceOwn host reducer l (entries tag marks values) items) at_host
        (subst (λ (all : List (ℕ × Item)). TakesReduceOwn host reducer list all items) same own))
