-- The search for the place where the mirrors of a host begin.
use Rattle.std.proofs.Common.{◌≡◌, ℕ, ◌+◌, ◌<◌, ◌≤◌, length, arith}
use Rattle.graph_division.specs.Shares.{Share, IsShare, masters_here, proxies_here}
use Rattle.address_memo.specs.Runs.{owner_at, IsStartOf}
use Rattle.address_memo.proofs.Mirrors.{owners_in_order, length_proxies}

-- mirrors below `low` are before the place, those from `high` on are not
pub record IsBetween (share : Share) (peer low high : ℕ) : Type 0 where
  pub since : length (masters_here share) ≤ low
  pub order : low ≤ high
  pub within : high ≤ length (proxies_here share)
  pub below : (lid : ℕ) → length (masters_here share) ≤ lid → lid < low → owner_at share lid < peer
  pub above : (lid : ℕ) → high ≤ lid → lid < length (proxies_here share) → peer ≤ owner_at share lid

pub at_first : (share : Share) (peer low high : ℕ) → low ≡ length (masters_here share) → high ≡ length (proxies_here share) → IsBetween share peer low high
at_first share peer low high is_low is_high = record {
  since = omega arith;
  order = omega (arith, length_proxies share);
  within = omega arith;
  below = λ lid since before. absurd (omega arith);
  above = λ lid since before. absurd (omega arith);
}

module _ (share : Share) (is : IsShare share) (peer low high middle : ℕ) (between : IsBetween share peer low high) (after : low ≤ middle) (before : middle < high) where
  pub upper_half : owner_at share middle < peer → IsBetween share peer (middle + 1) high
  upper_half less = record {
    since = let since = between.since in omega arith;
    order = omega arith;
    within = between.within;
    below = λ lid since here.
        let within = between.within in
        let climbs = owners_in_order share is lid middle since (omega arith) (omega arith) in
        omega (arith, climbs, less);
    above = between.above;
  }

  pub lower_half : peer ≤ owner_at share middle → IsBetween share peer low middle
  lower_half more = record {
    since = between.since;
    order = after;
    within = let within = between.within in omega arith;
    below = between.below;
    above = λ lid since here.
        let first = between.since in
        let climbs = owners_in_order share is middle lid (omega arith) since here in
        omega (arith, climbs, more);
  }

pub found : (share : Share) (peer low high : ℕ) → IsBetween share peer low high → high ≤ low → IsStartOf share peer low
found share peer low high between met = record {
  since_masters = between.since;
  within = let within = between.within in let order = between.order in omega arith;
  below = between.below;
  above = λ lid since within. between.above lid (let order = between.order in omega arith) within;
}
