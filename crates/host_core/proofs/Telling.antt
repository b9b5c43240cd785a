-- A host that is told what masters elsewhere show: what that does to its fields, and what holds of them after it.
use Rattle.std.proofs.Common.{◌≡◌, ℕ, ◌+◌, ◌-◌, ◌<◌, ◌≤◌, Bool, true, false, not, cond, ◌&&◌, ◌||◌, is_some, Option, Some, None, List, length, set, get_or, refl, sym, ap, subst, ◌∙◌, arith, All}
use Rattle.std.specs.Prelude.{◌↔◌, IfSome, Result, Ok}
use Rattle.std.specs.List.{slice_index, slice_index_or}
use Rattle.std.specs.Option.{unwrap_or, option_map_or}
use Rattle.std.proofs.lemmas.Bool.{or_parts}
use Rattle.std.proofs.lemmas.List.{length-set}
use Rattle.graph_model.specs.Graph.{most_nodes}
use Rattle.reduce_laws.specs.ReductionLaws.{Reducer}
use Rattle.reduce_laws.specs.ProgramLaws.{Steps, ProgramLaws}
use Rattle.list_laws.specs.Among.{place_of}
use Rattle.list_laws.specs.Members.{has_member}
use Rattle.graph_division.specs.Shares.{masters_here}
use Rattle.address_memo.specs.Memos.{Proxies, AreProxies, list_at}
use Rattle.field_encodings.specs.EntryOrder.{AreEntries}
use Rattle.field_encodings.specs.Forms.{IsForm, entries}
use Rattle.field_encodings.specs.Packets.{value_at}
use Rattle.cluster_laws.specs.Channels.{is_needed}
use Rattle.host_laws.specs.Effects.{after_broadcast}
use Rattle.host_state.specs.HostState.{HostState}
use Rattle.host_state.specs.OwnEffects.{TakesBroadcastOwn}
use Rattle.host_core.specs.Kept.{IsKept, left_of}
use Rattle.host_core.proofs.Lists.{AreHere, spread_from_here, spread_from_high}
use Rattle.host_core.proofs.Left.{one_taken}
use Rattle.host_core.proofs.Taking.{value_is, unlisted, short, inside_of, value_of_proxy}

-- bytes that are read twice are read alike
pub read_twice : {X Fault : Type 0} (check : List ℕ → Result X Fault) (ids again globals : List ℕ) (first second : Result X Fault) (found more : X) → first ≡ Ok found → first ≡ check ids → second ≡ Ok more → second ≡ check again → ids ≡ globals → again ≡ globals → more ≡ found
read_twice check ids again globals first second found more is_first checked is_second checked_again ids_are again_are =
    let same = ap check (ids_are ∙ sym again_are) in cc

-- what is kept where items are kept, and where they are not
pub keeps_told : {Item Shown : Type 0} (keeps : Bool) (keep : Shown → Item) (is_kept : keeps ≡ true) (list : Proxies) (locals : List ℕ) (locals_are : locals ≡ list.locals) (found more : List (ℕ × Shown)) (same : more ≡ found)
    (before old new items : List Item) (old_is : old ≡ before) (items_is : items ≡ new)
    → ((l : ℕ) (d : Item) → get_or new l d ≡ option_map_or keep (value_at more (place_of locals l)) (get_or old l d))
    → (l : ℕ) (d : Item) → get_or items l d ≡ cond keeps (option_map_or keep (value_at found (place_of list.locals l)) (get_or before l d)) (get_or before l d)
keeps_told {Item} {Shown} keeps keep is_kept list locals locals_are found more same before old new items old_is items_is told l d =
    ap (λ (xs : List Item). get_or xs l d) items_is ∙ told l d
    ∙ ap (λ (xs : List Item). option_map_or keep (value_at more (place_of locals l)) (get_or xs l d)) old_is
    ∙ ap (λ (xs : List ℕ). option_map_or keep (value_at more (place_of xs l)) (get_or before l d)) locals_are
    ∙ ap (λ (xs : List (ℕ × Shown)). option_map_or keep (value_at xs (place_of list.locals l)) (get_or before l d)) same
    ∙ ap (λ b. cond b (option_map_or keep (value_at found (place_of list.locals l)) (get_or before l d)) (get_or before l d)) (sym is_kept)

pub keeps_none : {Item Shown : Type 0} (keeps : Bool) (keep : Shown → Item) (not_kept : keeps ≡ false) (list : Proxies) (found : List (ℕ × Shown)) (before : List Item)
    → (l : ℕ) (d : Item) → get_or before l d ≡ cond keeps (option_map_or keep (value_at found (place_of list.locals l)) (get_or before l d)) (get_or before l d)
keeps_none keeps keep not_kept list found before l d = ap (λ b. cond b (option_map_or keep (value_at found (place_of list.locals l)) (get_or before l d)) (get_or before l d)) (sym not_kept)

not_false : (b : Bool) → not b ≡ false → b ≡ true
not_false true h = refl
not_false false h = absurd (cc)

-- The host is said twice: as its fields have it, and as the call is handed it. Lists and fields come as the
-- calls of lower crates lend them.
module _ {Program Item State Shown : Type 0} {IsItem : Item → Type 0} {IsShown : Shown → Type 0} {IsState : State → Type 0} {reducer : Reducer Item} (steps_of : Program → Steps Item State Shown) {host now : HostState Program Item State Shown} {news : List Bool} {reduces_left broadcasts_left : ℕ}
    (kept : IsKept IsItem IsShown IsState reducer (steps_of host.view.program) host news reduces_left broadcasts_left) (is_now : host ≡ now) (from : ℕ) (asked : from < now.graph.hosts)
    (list : Proxies) (list_is : list ≡ list_at host.memo.spread_from from) (is_list : AreProxies list) where
  there : from < host.graph.hosts
  there = subst (λ (h : HostState Program Item State Shown). from < h.graph.hosts) (sym is_now) asked

  here : AreHere host.graph list
  here = subst (AreHere host.graph) (sym list_is) (spread_from_here host.way host.graph host.memo kept.is_host.fits from there (subst AreProxies list_is is_list))

  high : (i : ℕ) → i < length list.globals → length (masters_here host.graph) ≤ slice_index list.locals i
  high = subst (λ (l : Proxies). (i : ℕ) → i < length l.globals → length (masters_here host.graph) ≤ slice_index l.locals i) (sym list_is) (spread_from_high host.way host.graph host.memo kept.is_host.fits from there)

  pub broadcast_short : (ids : List ℕ) → ids ≡ list.globals → length ids ≤ most_nodes
  broadcast_short = short kept.is_host list here

  pub broadcast_inside : (locals : List ℕ) → locals ≡ list.locals → (n : ℕ) → n ≡ length host.view.vertices → All (λ local. local < n) locals
  broadcast_inside = inside_of kept.is_host list here

  module _ (needed_now : is_needed (list_at now.memo.spread_from from).globals ≡ true) (first_now : slice_index_or now.view.took_broadcast from false ≡ false) where
    -- the packet is still to come
    pub broadcast_to_come : broadcasts_left ≡ left_of host.graph.hosts host.memo.spread_from (set host.view.took_broadcast from true) + 1
    broadcast_to_come =
        kept.broadcasts_left_are
        ∙ one_taken host.graph.hosts from host.memo.spread_from host.view.took_broadcast there kept.is_host.took_broadcast_fit
        (subst (λ (h : HostState Program Item State Shown). is_needed (list_at h.memo.spread_from from).globals ≡ true) (sym is_now) needed_now)
        (subst (λ (h : HostState Program Item State Shown). slice_index_or h.view.took_broadcast from false ≡ false) (sym is_now) first_now)

  module _ (laws : ProgramLaws IsItem IsShown IsState reducer (steps_of host.view.program)) (eq : Shown → Shown → Bool) (eq_tells : (x y : Shown) → IsShown x → IsShown y → (eq x y ≡ true) ↔ (x ≡ y))
      (ids locals : List ℕ) (ids_are : ids ≡ list.globals) (locals_are : locals ≡ list.locals) (found : List (ℕ × Shown)) (are_found : AreEntries IsShown (length ids) found)
      (shown old new next : List Shown) (shown_is : shown ≡ host.view.shown) (old_is : old ≡ host.view.next) (next_is : next ≡ new) (long : length new ≡ length old)
      (awake_next : List Bool) (awake_long : length awake_next ≡ length host.view.awake_next)
      (new_is : (l : ℕ) (y : Shown) → get_or new l y ≡ unwrap_or (value_at found (place_of locals l)) (get_or old l y))
      (awake_is : (l : ℕ) (y : Shown) → has_member awake_next l ≡ (has_member host.view.awake_next l || option_map_or (λ value. not (eq value (get_or shown l y))) (value_at found (place_of locals l)) false))
      (items : List Item) (items_long : length items ≡ length host.view.items)
      (told : (l : ℕ) (d : Item) → get_or items l d ≡ cond reducer.keeps (option_map_or (steps_of host.view.program).keep (value_at found (place_of list.locals l)) (get_or host.view.items l d)) (get_or host.view.items l d)) where
    steps : Steps Item State Shown
    steps = steps_of host.view.program

    are : AreEntries IsShown (length list.globals) found
    are = subst (λ (l : List ℕ). AreEntries IsShown (length l) found) ids_are are_found

    next_at : (l : ℕ) (y : Shown) → get_or next l y ≡ unwrap_or (value_at found (place_of list.locals l)) (get_or host.view.next l y)
    next_at l y =
        ap (λ (xs : List Shown). get_or xs l y) next_is ∙ new_is l y
        ∙ ap (λ (xs : List Shown). unwrap_or (value_at found (place_of locals l)) (get_or xs l y)) old_is
        ∙ ap (λ (xs : List ℕ). unwrap_or (value_at found (place_of xs l)) (get_or host.view.next l y)) locals_are

    awake_at : (l : ℕ) (y : Shown) → has_member awake_next l ≡ (has_member host.view.awake_next l || option_map_or (λ value. not (eq value (get_or host.view.shown l y))) (value_at found (place_of list.locals l)) false)
    awake_at l y =
        awake_is l y
        ∙ ap (λ (xs : List Shown). has_member host.view.awake_next l || option_map_or (λ value. not (eq value (get_or xs l y))) (value_at found (place_of locals l)) false) shown_is
        ∙ ap (λ (xs : List ℕ). has_member host.view.awake_next l || option_map_or (λ value. not (eq value (get_or host.view.shown l y))) (value_at found (place_of xs l)) false) locals_are

    next_long : length next ≡ length host.view.next
    next_long = ap length next_is ∙ long ∙ ap length old_is

    below : All (λ entry. entry.0 < length list.locals) found
    below k d inside = let many = is_list.as_many in let one = are.below k d inside in omega arith

    -- a master is not told
    none_for_master : (l : ℕ) → l < host.view.masters → value_at found (place_of list.locals l) ≡ None
    none_for_master l low = unlisted list found l below
        (λ i inside same. let up = high i (let many = is_list.as_many in omega arith) in let count = kept.is_host.masters_are in omega arith)

    values : (l : ℕ) → IfSome (value_at found (place_of list.locals l)) IsShown
    values l = value_is IsShown found (place_of list.locals l) are.values

    next_are : All IsShown next
    next_are l y inside =
        subst IsShown (sym (next_at l y)) (either (value_at found (place_of list.locals l)) (values l) (get_or host.view.next l y) (kept.next_are l y (let same = next_long in omega arith)))
      where
        either : (o : Option Shown) → IfSome o IsShown → (x : Shown) → IsShown x → IsShown (unwrap_or o x)
        either None new x is = is
        either (Some v) new x is = new

    items_are : All IsItem items
    items_are l d inside =
        subst IsItem (sym (told l d)) (either reducer.keeps (value_at found (place_of list.locals l)) (values l) (get_or host.view.items l d) (kept.items_are l d (let same = items_long in omega arith)))
      where
        either : (b : Bool) (o : Option Shown) → IfSome o IsShown → (x : Item) → IsItem x → IsItem (cond b (option_map_or (steps_of host.view.program).keep o x) x)
        either true None new x is = is
        either true (Some v) new x is = laws.keep_is_value v new
        either false o new x is = is

    quiet : (l : ℕ) (y : Shown) → l < length host.view.vertices → has_member awake_next l ≡ false → get_or next l y ≡ get_or host.view.shown l y
    quiet l y inside asleep =
        let parts = or_parts (has_member host.view.awake_next l) (option_map_or (λ value. not (eq value (get_or host.view.shown l y))) (value_at found (place_of list.locals l)) false) (sym (awake_at l y) ∙ asleep) in
        next_at l y
        ∙ same (value_at found (place_of list.locals l)) (values l) (kept.shown_are l y (let fit = kept.is_host.shown_fit in omega arith)) parts.1 (kept.quiet l y inside parts.0)
      where
        same : (o : Option Shown) → IfSome o IsShown → IsShown (get_or host.view.shown l y) → option_map_or (λ value. not (eq value (get_or host.view.shown l y))) o false ≡ false → get_or host.view.next l y ≡ get_or host.view.shown l y
            → unwrap_or o (get_or host.view.next l y) ≡ get_or host.view.shown l y
        same None new is still before = before
        same (Some v) new is still before = (eq_tells v (get_or host.view.shown l y) new is).0 (not_false (eq v (get_or host.view.shown l y)) still)

    same_item : (l : ℕ) (d : Item) → l < host.view.masters → get_or items l d ≡ get_or host.view.items l d
    same_item l d low =
        told l d
        ∙ ap (λ (o : Option Shown). cond reducer.keeps (option_map_or (steps_of host.view.program).keep o (get_or host.view.items l d)) (get_or host.view.items l d)) (none_for_master l low)
        ∙ either reducer.keeps (get_or host.view.items l d)
      where
        either : (b : Bool) (x : Item) → cond b x x ≡ x
        either true x = refl
        either false x = refl

    -- some value, which a vertex shows
    any : Shown
    any = steps.shown (steps.start 0)

    pub broadcast_kept : is_needed (list_at now.memo.spread_from from).globals ≡ true → slice_index_or now.view.took_broadcast from false ≡ false
        → IsKept IsItem IsShown IsState reducer (steps_of host.view.program) (record host { view = after_broadcast from host.view next items awake_next }) news reduces_left (broadcasts_left - 1)
    broadcast_kept needed first = record {
      is_host = record {
        is_share = kept.is_host.is_share;
        is_memo = kept.is_host.is_memo;
        fits = kept.is_host.fits;
        of_host = kept.is_host.of_host;
        vertices_are = kept.is_host.vertices_are;
        masters_are = kept.is_host.masters_are;
        states_fit = kept.is_host.states_fit;
        shown_fit = kept.is_host.shown_fit;
        next_fit = next_long ∙ kept.is_host.next_fit;
        items_fit = items_long ∙ kept.is_host.items_fit;
        awake_fit = kept.is_host.awake_fit;
        awake_next_fit = awake_long ∙ kept.is_host.awake_next_fit;
        took_reduce_fit = kept.is_host.took_reduce_fit;
        took_broadcast_fit = length-set host.view.took_broadcast from true ∙ kept.is_host.took_broadcast_fit;
      };
      news_fit = kept.news_fit;
      states_are = kept.states_are;
      shown_are = kept.shown_are;
      next_are = next_are;
      items_are = items_are;
      quiet = quiet;
      asleep = λ early l low.
          awake_at l any
          ∙ ap (λ b. b || option_map_or (λ value. not (eq value (get_or host.view.shown l any))) (value_at found (place_of list.locals l)) false) (kept.asleep early l low)
          ∙ ap (λ (o : Option Shown). option_map_or (λ value. not (eq value (get_or host.view.shown l any))) o false) (none_for_master l low);
      states_show = λ l s y low. next_at l y ∙ ap (λ (o : Option Shown). unwrap_or o (get_or host.view.next l y)) (none_for_master l low) ∙ kept.states_show l s y low;
      unmoved = λ l s d low still. let before = kept.unmoved l s d low still in (same_item l d low ∙ before.0, before.1);
      all_sent = kept.all_sent;
      nothing_kept = λ keeps l d up inside.
          told l d
          ∙ ap (λ b. cond b (option_map_or (steps_of host.view.program).keep (value_at found (place_of list.locals l)) (get_or host.view.items l d)) (get_or host.view.items l d)) keeps
          ∙ kept.nothing_kept keeps l d up inside;
      reduces_left_are = kept.reduces_left_are;
      broadcasts_left_are = let one = broadcast_to_come needed first in omega arith;
    }

    own : TakesBroadcastOwn host reducer (steps_of host.view.program) eq list found next items awake_next
    own = record {
      next_is = λ l y inside. next_at l y ∙ ap (λ (o : Option Shown). unwrap_or o (get_or host.view.next l y)) (value_of_proxy kept.is_host list here found l are.below inside);
      awake_is = λ l y inside.
          awake_at l y
          ∙ ap (λ (o : Option Shown). has_member host.view.awake_next l || option_map_or (λ value. not (eq value (get_or host.view.shown l y))) o false) (value_of_proxy kept.is_host list here found l are.below inside);
      items_are = λ l d y inside.
          told l d
          ∙ either reducer.keeps (value_at found (place_of list.locals l)) (get_or host.view.next l y) (get_or host.view.items l d)
          ∙ ap (λ shows. cond (reducer.keeps && is_some (value_at found (place_of list.locals l))) ((steps_of host.view.program).keep shows) (get_or host.view.items l d)) (sym (next_at l y))
          ∙ ap (λ (o : Option Shown). cond (reducer.keeps && is_some o) ((steps_of host.view.program).keep (get_or next l y)) (get_or host.view.items l d)) (value_of_proxy kept.is_host list here found l are.below inside);
    }
      where
        either : (b : Bool) (o : Option Shown) (y : Shown) (x : Item) → cond b (option_map_or (steps_of host.view.program).keep o x) x ≡ cond (b && is_some o) ((steps_of host.view.program).keep (unwrap_or o y)) x
        either true None y x = refl
        either true (Some v) y x = refl
        either false o y x = refl

    -- whatever form the bytes are of, its entries were taken
    pub broadcast_own : {Fault : Type 0} (shown_bytes : Shown → List ℕ) (payload : List ℕ) (read : Result (List (ℕ × Shown)) Fault) → read ≡ Ok found
        → ((tag : ℕ) (marks : List Bool) (values : List Shown) → IsForm IsShown shown_bytes ids payload tag marks values → read ≡ Ok (entries tag marks values))
        → (tag : ℕ) (marks : List Bool) (values : List Shown) → IsForm IsShown shown_bytes (list_at now.memo.spread_from from).globals payload tag marks values
        → TakesBroadcastOwn now reducer (steps_of now.view.program) eq (list_at now.memo.spread_from from) (entries tag marks values) next items awake_next
    broadcast_own shown_bytes payload read is_found all_forms tag marks values form =
        let at_host : list ≡ list_at now.memo.spread_from from = list_is ∙ ap (λ (h : HostState Program Item State Shown). list_at h.memo.spread_from from) is_now in
        let said = all_forms tag marks values (subst (λ (l : List ℕ). IsForm IsShown shown_bytes l payload tag marks values) (sym (ids_are ∙ ap (λ (l : Proxies). l.globals) at_host)) form) in
        let same : found ≡ entries tag marks values = cc in
        subst (λ (h : HostState Program Item State Shown). TakesBroadcastOwn h reducer (steps_of h.view.program) eq (list_at now.memo.spread_from from) (entries tag marks values) next items awake_next) is_now
        (subst (λ (l : Proxies). TakesBroadcastOwn host reducer (steps_of host.view.program) eq l (entries tag marks values) next items awake_next) at_host
        (subst (λ (all : List (ℕ × Shown)). TakesBroadcastOwn host reducer (steps_of host.view.program) eq list all next items awake_next) same own))
