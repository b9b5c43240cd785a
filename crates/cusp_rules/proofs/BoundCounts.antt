-- How many bounds are at most v, told by where they stand.
use Rattle.std.proofs.Common.{ℕ, ◌<◌, ◌≤◌, nat_le, List, length, slice_index, count_by}
use Rattle.std.proofs.lemmas.Bool.{le-leb, lt-leb}
use Rattle.cusp_rules.proofs.Counts as by_place

-- no more than stand before place k, where all from there on are above v
pub count-le : (bounds : List ℕ) (k v : ℕ) → ((h : ℕ) → k ≤ h → h < length bounds → v < slice_index bounds h) → count_by (λ bound. nat_le bound v) bounds ≤ k
count-le bounds k v above = by_place.count-le (λ bound. nat_le bound v) bounds k (λ h low within. lt-leb (slice_index bounds h) v (above h low within))

-- no fewer than stand before place k, where all up to there are at most v
pub le-count : (bounds : List ℕ) (k v : ℕ) → k ≤ length bounds → ((h : ℕ) → h < k → slice_index bounds h ≤ v) → k ≤ count_by (λ bound. nat_le bound v) bounds
le-count bounds k v within below = by_place.le-count (λ bound. nat_le bound v) bounds k within (λ h low. le-leb (slice_index bounds h) v (below h low))
