-- The mirrors that were gone over are the host's own list.
use Rattle.std.proofs.Common.{◌≡◌, ℕ, ◌+◌, ◌-◌, List, map, length, sym, ap, subst, ◌∙◌}
use Rattle.std.specs.List.{filter, range_with_len}
use Rattle.std.specs.List.Sorted.{IsStrictlyIncreasing}
use Rattle.std.proofs.lemmas.List.{length-map}
use Rattle.std.proofs.lemmas.List.Kept.{IsStrictlyIncreasing-filter}
use Rattle.graph_model.specs.declared.edge.Way.{Way}
use Rattle.graph_division.specs.Shares.{Share, IsShare}
use Rattle.graph_division.proofs.PrunedLists.{range_rises}
use Rattle.proxy_graph.specs.Heads.{vertex_at, lid_of}
use Rattle.address_memo.specs.Memos.{Proxies, AreProxies, proxies_of}
use Rattle.address_memo.specs.Legs.{is_taken, own_of}
use Rattle.address_memo.specs.Runs.{IsStartOf}
use Rattle.address_memo.specs.declared.leg.Leg.{Leg}
use Rattle.address_memo.proofs.Mirrors.{own_by_lid, lids_of_own, own_rises}

-- local numbers and vertices as a list
abbrev listing : (locals globals : List ℕ) → Proxies
listing locals globals = record { locals = locals; globals = globals }

module _ (leg : Leg) (way : Way) (share : Share) (is : IsShare share) (peer first end : ℕ) (start : IsStartOf share peer first) (stop : IsStartOf share (peer + 1) end)
    (lid : ℕ) (done : lid ≡ end) (locals globals : List ℕ)
    (listed : locals ≡ filter (λ k. is_taken leg way share (vertex_at share k)) (range_with_len first (lid - first))) (mapped : globals ≡ map (vertex_at share) locals) where
  locals_are : locals ≡ filter (λ k. is_taken leg way share (vertex_at share k)) (range_with_len first (end - first))
  locals_are = listed ∙ ap (λ n. filter (λ k. is_taken leg way share (vertex_at share k)) (range_with_len first (n - first))) done

  globals_are : globals ≡ own_of leg way share peer
  globals_are = mapped ∙ ap (map (vertex_at share)) locals_are ∙ own_by_lid leg way share is peer first end start stop

  pub listed_whole : listing locals globals ≡ proxies_of share (own_of leg way share peer)
  listed_whole =
      ap (λ (l : List ℕ). listing l globals) (locals_are ∙ sym (lids_of_own leg way share is peer first end start stop))
      ∙ ap (λ (l : List ℕ). listing (map (lid_of share) (own_of leg way share peer)) l) globals_are

  pub listed_are_proxies : AreProxies (record { locals = locals; globals = globals })
  listed_are_proxies = record {
    as_many = sym (ap length mapped ∙ length-map locals (vertex_at share));
    locals_rise = subst IsStrictlyIncreasing (sym locals_are) (IsStrictlyIncreasing-filter (λ k. is_taken leg way share (vertex_at share k)) (range_with_len first (end - first)) (range_rises first (end - first)));
    globals_rise = subst IsStrictlyIncreasing (sym globals_are) (own_rises leg way share peer);
  }
