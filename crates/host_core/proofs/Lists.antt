-- The lists of a host by local number: each place has a proxy of the list's vertex.
use Rattle.std.proofs.Common.{◌≡◌, ◌≢◌, ℕ, zero, suc, ◌+◌, ◌-◌, ◌<◌, ◌≤◌, Bool, true, false, ◌&&◌, ◌==◌, if◌then◌else◌, List, [], ◌∷◌, length, get_or, slice_index, slice_get, Some, None, refl, sym, ap, subst, ◌∙◌, arith, inl, inr}
use Rattle.std.specs.Prelude.{nat_eq, Option}
use Rattle.std.specs.List.{All, filter, range_with_len, slice_index_or}
use Rattle.std.specs.List.Sorted.{IsStrictlyIncreasing}
use Rattle.std.proofs.lemmas.Bool.{eq-eqb, ne_eqb, cases_lt, cases_eq, or_right}
use Rattle.std.proofs.lemmas.List.Folds.{list_any-append, list_any_none}
use Rattle.std.proofs.lemmas.List.{get_or-map, get_or_default}
use Rattle.std.proofs.lemmas.List.Elements.{filter_passes}
use Rattle.std.proofs.lemmas.List.FromFn.{get_or-map-range_with_len}
use Rattle.std.proofs.lemmas.Option.{slice_get_within, slice_get-get_or, get_or_from_slice_get}
use Rattle.list_laws.specs.Among.{is_among, place_of}
use Rattle.list_laws.proofs.Among.{place_of-at}
use Rattle.list_laws.proofs.Rising.{Rises-from_increasing}
use Rattle.graph_model.specs.declared.edge.Way.{Way}
use Rattle.graph_model.specs.declared.edge.Way.TheVariants.{Outward}
use Rattle.graph_division.specs.Lists.{is_mirror, is_readable, is_writable}
use Rattle.graph_division.specs.Shares.{Share, nodes_of, seen, masters_here, mirrors_here, proxies_here}
use Rattle.graph_division.proofs.Listed.{picked}
use Rattle.graph_division.proofs.PrunedLists.{picked_below}
use Rattle.graph_division.proofs.Partitions.{mirrors_are_of_no_way}
use Rattle.proxy_graph.specs.Heads.{vertex_at, lid_of}
use Rattle.proxy_graph.specs.Numbering.{IsLidOf}
use Rattle.proxy_graph.proofs.Lids.{place_none, place_is}
use Rattle.proxy_graph.proofs.Read.{few_proxies}
use Rattle.address_memo.specs.Memos.{Proxies, AreProxies, AreMasters, Memos, Fits, list_at, none, proxies_of, own_reduce, own_spread}
use Rattle.address_memo.proofs.Mirrors.{masters_rise, mirrors_rise, rise_by_place, master_owned, mirror_owned, length_proxies, vertex_of_master, vertex_of_mirror}
use Rattle.field_encodings.specs.Packets.{value_at}
use Rattle.round_packets.specs.Packets.{value_for}

-- ---- one proxy for each vertex

abbrev owner : Share → (v : ℕ) → ℕ
owner share v = slice_index_or share.masters v 0

different : (share : Share) (i j : ℕ) → i < j → j < length (proxies_here share) → vertex_at share i ≢ vertex_at share j
different share i j before within same =
    let m = length (masters_here share) in
    let long = length_proxies share in
    elim (cases_lt j m) [
      | inl low ↦
          let up = rise_by_place (masters_here share) i j (masters_rise share) before low in
          let first = vertex_of_master share i (omega arith) in
          let second = vertex_of_master share j low in
          absurd (omega (arith, up, first, second, same))
      | inr high ↦ elim (cases_lt i m) [
        | inl low ↦
            let mine : owner share (vertex_at share i) ≡ share.host = ap (owner share) (vertex_of_master share i low) ∙ master_owned share i low in
            mirror_owned share (j - m) (omega arith) (sym (ap (owner share) (vertex_of_mirror share j high)) ∙ sym (ap (owner share) same) ∙ mine)
        | inr more ↦
            let up = rise_by_place (mirrors_here share) (i - m) (j - m) (mirrors_rise share) (omega arith) (omega arith) in
            let first = vertex_of_mirror share i more in
            let second = vertex_of_mirror share j high in
            absurd (omega (arith, up, first, second, same))
      ]
    ]

-- two proxies of one vertex are one
pub one_proxy : (share : Share) (i j : ℕ) → i < length (proxies_here share) → j < length (proxies_here share) → vertex_at share i ≡ vertex_at share j → i ≡ j
one_proxy share i j in_i in_j same =
    elim (cases_lt i j) [
      | inl less ↦ absurd (different share i j less in_j same)
      | inr not_less ↦ elim (cases_lt j i) [
        | inl more ↦ absurd (different share j i more in_i (sym same))
        | inr not_more ↦ omega arith
      ]
    ]

-- ---- places of a list

-- each place of a list has a proxy here, of the vertex that stands there
pub record AreHere (share : Share) (list : Proxies) : Type 0 where
  pub is_list : AreProxies list
  pub within : (i : ℕ) → i < length list.globals → slice_index list.locals i < length (proxies_here share)
  pub here : (i : ℕ) → i < length list.globals → vertex_at share (slice_index list.locals i) ≡ slice_index list.globals i

module _ (share : Share) (list : Proxies) (are : AreHere share list) where
  -- the place that has a proxy's vertex is the proxy's place
  pub one_place : (k l : ℕ) → k < length list.globals → l < length (proxies_here share) → (slice_index list.globals k == vertex_at share l) ≡ nat_eq k (place_of list.locals l)
  one_place k l in_k in_l =
      elim (cases_eq (slice_index list.locals k) l) [
        | inl same ↦
            let at : place_of list.locals l ≡ k = place_of-at 0 list.locals k l (Rises-from_increasing 0 list.locals are.is_list.locals_rise (λ some. omega arith)) (omega (arith, are.is_list.as_many)) same in
            eq-eqb (slice_index list.globals k) (vertex_at share l) (sym (are.here k in_k) ∙ ap (vertex_at share) same) ∙ sym (eq-eqb k (place_of list.locals l) (sym at))
        | inr other ↦
            let apart : slice_index list.globals k ≢ vertex_at share l = λ same. other (one_proxy share (slice_index list.locals k) l (are.within k in_k) in_l (are.here k in_k ∙ same)) in
            ne_eqb (slice_index list.globals k) (vertex_at share l) apart ∙ sym (ne_eqb k (place_of list.locals l) (elsewhere (is_among list.locals l) refl other))
      ]
    where
      elsewhere : (b : Bool) → is_among list.locals l ≡ b → slice_index list.locals k ≢ l → k ≢ place_of list.locals l
      elsewhere true among other at = other (ap (slice_index list.locals) at ∙ (place_is list.locals l among).here)
      elsewhere false among other at = let past = place_none list.locals l among in let many = are.is_list.as_many in absurd (omega arith)

  -- the value of an entry at a proxy's place is that for its vertex
  pub value_here : {X : Type 0} (found : List (ℕ × X)) (l : ℕ) → All (λ entry. entry.0 < length list.globals) found → l < length (proxies_here share)
      → value_at found (place_of list.locals l) ≡ value_for list.globals found (vertex_at share l)
  value_here [] l below in_l = refl
  value_here (entry ∷ rest) l below in_l =
      ap (λ b. if b then Some entry.1 else value_at rest (place_of list.locals l)) (sym (one_place entry.0 l (below 0 entry (omega arith)) in_l))
      ∙ ap (λ (found : Option _). if slice_index list.globals entry.0 == vertex_at share l then Some entry.1 else found) (value_here rest l (λ k d inside. below (suc k) d (omega arith)) in_l)

-- numbers that rise are no less than their places
no_less : (xs : List ℕ) (k : ℕ) → IsStrictlyIncreasing xs → k < length xs → k ≤ slice_index xs k
no_less xs zero rise within = omega arith
no_less xs (suc k) rise within =
    let before = no_less xs k rise (omega arith) in
    let up : slice_index xs k < slice_index xs (suc k) = rise_by_place xs k (suc k) rise (omega arith) within in
    omega arith

-- so a list has no more places than there are vertices
pub few_listed : (share : Share) (list : Proxies) → AreHere share list → length list.globals ≤ nodes_of share
few_listed share list are =
    let last : ℕ = length list.globals - 1 in
    let many = are.is_list.as_many in
    let few : length (proxies_here share) ≤ nodes_of share = few_proxies share in
    elim (cases_lt 0 (length list.globals)) [
      | inl some ↦
          let since : last ≤ slice_index list.locals last = no_less list.locals last are.is_list.locals_rise (omega arith) in
          let inside : slice_index list.locals last < length (proxies_here share) = are.within last (omega arith) in
          omega arith
      | inr no_place ↦ omega arith
    ]

-- each local number of a list is below the number of proxies
pub locals_here : (share : Share) (list : Proxies) → AreHere share list → All (λ local. local < length (proxies_here share)) list.locals
locals_here share list are k d inside =
    let one : slice_index list.locals k < length (proxies_here share) = are.within k (let many = are.is_list.as_many in omega arith) in
    subst (λ local. local < length (proxies_here share)) (get_or_default list.locals k 0 d inside) one

-- ---- the four lists

master_at : (share : Share) (list : Proxies) → AreMasters share list → (i : ℕ) → i < length list.globals → slice_get (masters_here share) (slice_index list.locals i) ≡ Some (slice_index list.globals i)
master_at share list are i inside = are.are_masters i inside ∙ slice_get-get_or list.globals i 0 inside

-- lists of masters have local numbers of masters
pub masters_low : (share : Share) (list : Proxies) → AreMasters share list → (i : ℕ) → i < length list.globals → slice_index list.locals i < length (masters_here share)
masters_low share list are i inside = slice_get_within (masters_here share) (slice_index list.locals i) (slice_index list.globals i) (master_at share list are i inside)

-- and they are here
pub masters_are_here : (share : Share) (list : Proxies) → AreMasters share list → AreHere share list
masters_are_here share list are = record {
  is_list = are.is_list;
  within = λ i inside. let long = length_proxies share in let low = masters_low share list are i inside in omega arith;
  here = λ i inside.
      vertex_of_master share (slice_index list.locals i) (masters_low share list are i inside)
      ∙ get_or_from_slice_get (masters_here share) (slice_index list.locals i) (slice_index list.globals i) 0 (master_at share list are i inside);
}

-- the vertices of a host's own list are mirrors here
abbrev pub AreMirrors : Share → List ℕ → Type 0
AreMirrors share globals = (i : ℕ) → i < length globals → is_among (mirrors_here share) (slice_index globals i) ≡ true

-- the second of three tests
second_of : (a b c : Bool) → (a && (b && c)) ≡ true → b ≡ true
second_of true true c h = refl
second_of true false c h = absurd (cc)
second_of false b c h = absurd (cc)

module _ (way : Way) (share : Share) (owned taken : ℕ → Bool) where
  -- vertices that pass as mirrors are mirrors
  pub picked_mirrors : AreMirrors share (filter (λ v. owned v && (is_mirror (seen way share) share.host v && taken v)) (range_with_len 0 (nodes_of share)))
  picked_mirrors i inside =
      let test : ℕ → Bool = λ v. owned v && (is_mirror (seen way share) share.host v && taken v) in
      let v : ℕ = slice_index (filter test (range_with_len 0 (nodes_of share))) i in
      let passes : test v ≡ true = filter_passes test (range_with_len 0 (nodes_of share)) i 0 inside in
      let known : v < 0 + nodes_of share = let below : v < nodes_of share = picked_below (nodes_of share) test i 0 inside in omega arith in
      picked (is_mirror (seen Outward share) share.host) 0 (nodes_of share) v (omega arith) known
      ∙ sym (mirrors_are_of_no_way.seen_here way share share.host v)
      ∙ second_of (owned v) (is_mirror (seen way share) share.host v) (taken v) passes

module _ (share : Share) (globals : List ℕ) (are : AreMirrors share globals) where
  in_mirrors : (i : ℕ) → i < length globals → IsLidOf (mirrors_here share) (slice_index globals i) (place_of (mirrors_here share) (slice_index globals i))
  in_mirrors i inside = place_is (mirrors_here share) (slice_index globals i) (are i inside)

  in_proxies : (i : ℕ) → i < length globals → IsLidOf (proxies_here share) (slice_index globals i) (lid_of share (slice_index globals i))
  in_proxies i inside =
      place_is (proxies_here share) (slice_index globals i)
      (list_any-append (λ other. nat_eq other (slice_index globals i)) (masters_here share) (mirrors_here share)
      ∙ or_right (is_among (masters_here share) (slice_index globals i)) (is_among (mirrors_here share) (slice_index globals i)) (are i inside))

  -- they have the local numbers of mirrors
  pub mirrors_high : (i : ℕ) → i < length globals → length (masters_here share) ≤ lid_of share (slice_index globals i)
  mirrors_high i inside =
      let lid : ℕ = lid_of share (slice_index globals i) in
      elim (cases_lt lid (length (masters_here share))) [
        | inl low ↦
            let mine : owner share (slice_index globals i) ≡ share.host
            = ap (owner share) (sym (in_proxies i inside).here ∙ vertex_of_master share lid low) ∙ master_owned share lid low in
            absurd (mirror_owned share (place_of (mirrors_here share) (slice_index globals i)) (in_mirrors i inside).within (ap (owner share) (in_mirrors i inside).here ∙ mine))
        | inr high ↦ high
      ]

  -- and are here
  pub mirrors_are_here : AreProxies (proxies_of share globals) → AreHere share (proxies_of share globals)
  mirrors_are_here is_list = record {
    is_list = is_list;
    within = λ i inside. subst (λ lid. lid < length (proxies_here share)) (sym (get_or-map (lid_of share) globals i 0 0 inside)) (in_proxies i inside).within;
    here = λ i inside. ap (vertex_at share) (get_or-map (lid_of share) globals i 0 0 inside) ∙ (in_proxies i inside).here;
  }

module _ (way : Way) (share : Share) (memo : Memos) (fits : Fits way share memo) (peer : ℕ) (is_peer : peer < share.hosts) where
  pub own_reduces : list_at memo.reduce_to peer ≡ proxies_of share (own_reduce way share peer)
  own_reduces = ap (λ (lists : List Proxies). list_at lists peer) fits.reduce_to_own ∙ get_or-map-range_with_len (λ other. proxies_of share (own_reduce way share other)) 0 share.hosts peer peer none is_peer (omega arith)

  pub own_spreads : list_at memo.spread_from peer ≡ proxies_of share (own_spread way share peer)
  own_spreads = ap (λ (lists : List Proxies). list_at lists peer) fits.spread_from_own ∙ get_or-map-range_with_len (λ other. proxies_of share (own_spread way share other)) 0 share.hosts peer peer none is_peer (omega arith)

  reduce_mirrors : AreMirrors share (own_reduce way share peer)
  reduce_mirrors = picked_mirrors way share (λ v. owner share v == peer) (is_writable (seen way share) share.host)

  spread_mirrors : AreMirrors share (own_spread way share peer)
  spread_mirrors = picked_mirrors way share (λ v. owner share v == peer) (is_readable (seen way share) share.host)

  pub reduce_to_here : AreProxies (list_at memo.reduce_to peer) → AreHere share (list_at memo.reduce_to peer)
  reduce_to_here is_list = subst (AreHere share) (sym own_reduces) (mirrors_are_here share (own_reduce way share peer) reduce_mirrors (subst AreProxies own_reduces is_list))

  pub spread_from_here : AreProxies (list_at memo.spread_from peer) → AreHere share (list_at memo.spread_from peer)
  spread_from_here is_list = subst (AreHere share) (sym own_spreads) (mirrors_are_here share (own_spread way share peer) spread_mirrors (subst AreProxies own_spreads is_list))

  -- own lists have no master
  high_of : (globals : List ℕ) → AreMirrors share globals → (i : ℕ) → i < length globals → length (masters_here share) ≤ slice_index (proxies_of share globals).locals i
  high_of globals are i inside = subst (λ lid. length (masters_here share) ≤ lid) (sym (get_or-map (lid_of share) globals i 0 0 inside)) (mirrors_high share globals are i inside)

  pub spread_from_high : (i : ℕ) → i < length (list_at memo.spread_from peer).globals → length (masters_here share) ≤ slice_index (list_at memo.spread_from peer).locals i
  spread_from_high = subst (λ (list : Proxies). (i : ℕ) → i < length list.globals → length (masters_here share) ≤ slice_index list.locals i) (sym own_spreads) (high_of (own_spread way share peer) spread_mirrors)

  pub reduce_to_high : (i : ℕ) → i < length (list_at memo.reduce_to peer).globals → length (masters_here share) ≤ slice_index (list_at memo.reduce_to peer).locals i
  reduce_to_high = subst (λ (list : Proxies). (i : ℕ) → i < length list.globals → length (masters_here share) ≤ slice_index list.locals i) (sym own_reduces) (high_of (own_reduce way share peer) reduce_mirrors)

-- a number that is in no place of a list has no entry there
pub not_listed : (locals : List ℕ) (l : ℕ) → ((i : ℕ) → i < length locals → slice_index locals i ≢ l) → is_among locals l ≡ false
not_listed locals l apart = list_any_none (λ other. nat_eq other l) locals (λ k d inside. ne_eqb (get_or locals k d) l (λ same. apart k inside (sym (get_or_default locals k d 0 inside) ∙ same)))

pub no_value : {X : Type 0} (found : List (ℕ × X)) (count place : ℕ) → All (λ entry. entry.0 < count) found → count ≤ place → value_at found place ≡ None
no_value [] count place below past = refl
no_value (entry ∷ rest) count place below past =
    ap (λ b. if b then Some entry.1 else value_at rest place) (ne_eqb entry.0 place (λ same. let inside = below 0 entry (omega arith) in absurd (omega arith)))
    ∙ no_value rest count place (λ k d inside. below (suc k) d (omega arith)) past
