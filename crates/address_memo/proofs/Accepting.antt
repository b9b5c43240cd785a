-- What a memo accepts stands in one place, and its lists in those of both kinds.
use Rattle.std.proofs.Common.{◌≡◌, ℕ, List, map, slice_set}
use Rattle.std.proofs.lemmas.List.{map-set}
use Rattle.list_laws.specs.Members.{with_member}
use Rattle.address_memo.specs.Memos.{Memos, with_accepted}
use Rattle.address_memo.specs.Told.{Told}

-- a memo whose peers told these lists
abbrev with_told : Memos → List Told → Memos
with_told memo told = record memo { reduce_from = map (λ lists. lists.reduce) told; spread_to = map (λ lists. lists.spread) told }

-- a memo accepts both lists of a peer where those that it was told take its place
pub accepted_is : (memo : Memos) (told : List Told) (place : ℕ) (lists : Told) → with_told (record memo { accepted = with_member memo.accepted place }) (slice_set told place lists) ≡ with_accepted (with_told memo told) place lists.reduce lists.spread
accepted_is memo told place lists =
    λ i. record memo {
      reduce_from = map-set (λ (l : Told). l.reduce) told place lists i;
      spread_to = map-set (λ (l : Told). l.spread) told place lists i;
      accepted = with_member memo.accepted place;
    }
