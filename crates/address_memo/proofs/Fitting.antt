-- Memos fit at the start, and as long as they accept lists of masters.
use Rattle.std.proofs.Common.{ℕ, List, length, refl, sym, subst, arith, inl, inr, slice_set}
use Rattle.std.proofs.lemmas.Bool.{cases_lt, cases_eq}
use Rattle.std.proofs.lemmas.List.{length-set, get_or-replicate, get_or-set_same, get_or-set_other, get_or_past}
use Rattle.graph_division.specs.Shares.{Share}
use Rattle.address_memo.specs.Memos.{Proxies, none, list_at, AreMasters}
use Rattle.address_memo.specs.Laws.{MemosFit}

none_are_masters : (share : Share) → AreMasters share none
none_are_masters share = record {
  is_list = record { as_many = refl; locals_rise = λ k within. absurd (omega arith); globals_rise = λ k within. absurd (omega arith) };
  are_masters = λ i within. absurd (omega arith);
}

-- each list is of masters once another list of masters takes a place
set_masters : (share : Share) (lists : List Proxies) (place peer : ℕ) (list : Proxies) → AreMasters share list → AreMasters share (list_at lists peer) → AreMasters share (list_at (slice_set lists place list) peer)
set_masters share lists place peer list new old =
    elim (cases_eq peer place) [
      | inl same ↦ elim (cases_lt peer (length lists)) [
        | inl within ↦
            subst (λ n. AreMasters share (list_at (slice_set lists n list) peer)) same
            (subst (AreMasters share) (sym (get_or-set_same lists peer list none within)) new)
        | inr past ↦
            subst (AreMasters share) (sym (get_or_past (slice_set lists place list) peer none (omega (arith, length-set lists place list)))) (none_are_masters share)
      ]
      | inr other ↦ subst (AreMasters share) (sym (get_or-set_other lists place peer list none other)) old
    ]

pub memos_fit : MemosFit
memos_fit = record {
  at_start = λ way share. record {
    of_host = refl;
    of_hosts = refl;
    reduce_to_own = refl;
    spread_from_own = refl;
    reduce_from_masters = λ peer below. subst (AreMasters share) (sym (get_or-replicate share.hosts peer none none below)) (none_are_masters share);
    spread_to_masters = λ peer below. subst (AreMasters share) (sym (get_or-replicate share.hosts peer none none below)) (none_are_masters share);
  };
  still = λ way share memo peer reduce spread fits told wanted. record {
    of_host = fits.of_host;
    of_hosts = fits.of_hosts;
    reduce_to_own = fits.reduce_to_own;
    spread_from_own = fits.spread_from_own;
    reduce_from_masters = λ other below. set_masters share memo.reduce_from peer other reduce told (fits.reduce_from_masters other below);
    spread_to_masters = λ other below. set_masters share memo.spread_to peer other spread wanted (fits.spread_to_masters other below);
  };
}
