-- Where edges are followed both ways a mirror is read on its host exactly where it is written, so that the
-- mirrors of both legs are the same.
use Rattle.std.proofs.Common.{◌≡◌, ℕ, List, ◌==◌, ◌&&◌, map, sym, ap, ◌∙◌}
use Rattle.std.specs.List.{range_with_len, slice_index_or}
use Rattle.std.proofs.Math.Bool.{or_comm}
use Rattle.graph_model.specs.declared.edge.Way.TheVariants.{Outward, Both}
use Rattle.graph_division.specs.Lists.{is_readable, is_writable, is_mirror}
use Rattle.graph_division.specs.Shares.{Share, seen, nodes_of}
use Rattle.proxy_graph.proofs.Read.{readable_both, writable_both}
use Rattle.address_memo.specs.Memos.{Proxies, proxies_of, own_reduce, own_spread, opened}
use Rattle.address_memo.proofs.Filters.{filter_range_same}

module _ (share : Share) where
  -- a vertex is written where it is read
  written_as_read : (v : ℕ) → is_writable (seen Both share) share.host v ≡ is_readable (seen Both share) share.host v
  written_as_read v =
      sym (writable_both share v)
      ∙ or_comm (is_writable (seen Outward share) share.host v) (is_readable (seen Outward share) share.host v)
      ∙ readable_both share v

  -- a host has the same mirrors with a peer
  own_same : (peer : ℕ) → own_reduce Both share peer ≡ own_spread Both share peer
  own_same peer =
      filter_range_same _ _ 0 (nodes_of share) (λ v _ _. ap (λ b. (slice_index_or share.masters v 0 == peer) && (is_mirror (seen Both share) share.host v && b)) (written_as_read v))

  -- and so the same lists
  pub opened_same : (opened Both share).reduce_to ≡ (opened Both share).spread_from
  opened_same =
      let lists : (ℕ → List ℕ) → List Proxies = λ own. map (λ peer. proxies_of share (own peer)) (range_with_len 0 share.hosts) in
      ap lists (λ i peer. own_same peer i)
