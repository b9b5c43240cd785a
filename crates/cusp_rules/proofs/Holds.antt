-- What bounds say of the masters that they stand for.
use Rattle.std.proofs.Common.{◌≡◌, ℕ, ◌+◌, ◌-◌, ◌<◌, ◌≤◌, ◌↔◌, inl, inr, List, length, slice_index, slice_index_or, nat_le, nat_lt, leb, count_by, true, false, sym, ◌∙◌, arith}
use Rattle.std.specs.List.Sorted.{IsPartitionPoint}
use Rattle.std.proofs.lemmas.Bool.{cases_lt, leb-true, leb-false, le-ltb, lt-ltb}
use Rattle.std.proofs.lemmas.List.FromFn.{length-map-range_with_len, get_or-map-range_with_len}
use Rattle.cusp_rules.specs.Assignment.{Assignment, IsAssignment}
use Rattle.cusp_rules.specs.Bounds.{IsBounds, assignment_of, host_at, hosts_of, end_of}
use Rattle.cusp_rules.proofs.Counts.{count-le as count-by-le, le-count as le-count-by}
use Rattle.cusp_rules.proofs.BoundCounts.{count-le, le-count}

-- the host before a place is the master of v
pub record IsFound (assignment : Assignment) (v place : ℕ) : Type 0 where
  pub some_host : 1 ≤ place
  pub master : place - 1 ≡ slice_index assignment.masters v
  pub host : place - 1 < assignment.hosts

module _ (bounds : List ℕ) (ok : IsBounds bounds) where
  -- bounds do not fall
  pub rises : (i j : ℕ) → i ≤ j → j < length bounds → slice_index bounds i ≤ slice_index bounds j
  rises i j order within = ok.rises i j 0 order within

  -- there is one master a vertex
  pub length-masters : length (assignment_of bounds).masters ≡ end_of bounds
  length-masters = length-map-range_with_len (host_at bounds) 0 (end_of bounds)

  -- the master of a vertex, at any default
  pub master_at : (v d : ℕ) → v < end_of bounds → slice_index_or (assignment_of bounds).masters v d ≡ host_at bounds v
  master_at v d within = get_or-map-range_with_len (host_at bounds) 0 (end_of bounds) v v d within (omega arith)

  -- the bounds that are at most v are those up to the host whose vertices v is among
  pub count_at : (h v : ℕ) → h < hosts_of bounds → slice_index bounds h ≤ v → v < slice_index bounds (h + 1) → count_by (λ bound. nat_le bound v) bounds ≡ h + 1
  count_at h v host low high =
      let most = count-le bounds (h + 1) v (λ j after within. omega (arith, rises (h + 1) j after within)) in
      let least = le-count bounds (h + 1) v (omega arith) (λ j before. omega (arith, rises j h (omega arith) (omega arith))) in
      omega (arith, most, least)

  -- the host whose vertices v is among
  pub record IsHostOf (v h : ℕ) : Type 0 where
    pub host : h < hosts_of bounds
    pub low : slice_index bounds h ≤ v
    pub high : v < slice_index bounds (h + 1)

  pub host_of : (v : ℕ) → v < end_of bounds → IsHostOf v (host_at bounds v)
  host_of v within = record { host = omega (arith, some, most); low = low; high = high }
    where
      count : ℕ
      count = count_by (λ bound. nat_le bound v) bounds

      some : 1 ≤ count
      some = le-count bounds 1 v (omega (arith, ok.some_host)) (λ j before. omega (arith, ok.begins, rises j 0 (omega arith) (omega (arith, ok.some_host))))

      most : count ≤ hosts_of bounds
      most = count-le bounds (hosts_of bounds) v (λ j after here. omega (arith, rises (hosts_of bounds) j after here))

      low : slice_index bounds (count - 1) ≤ v
      low = elim (cases_lt v (slice_index bounds (count - 1))) [
        | inl below ↦ (let fewer = count-le bounds (count - 1) v (λ j after here. omega (arith, rises (count - 1) j after here)) in absurd (omega (arith, some, fewer)))
        | inr other ↦ other
      ]

      high : v < slice_index bounds (count - 1 + 1)
      high = elim (cases_lt v (slice_index bounds (count - 1 + 1))) [
        | inl below ↦ below
        | inr other ↦ (let more = le-count bounds (count + 1) v (omega (arith, most, ok.some_host)) (λ j before. omega (arith, rises j (count - 1 + 1) (omega (arith, some)) (omega (arith, most, ok.some_host)))) in absurd (omega (arith, more)))
      ]

  -- the vertices of a host are those between its bounds
  pub vertices_of_host : (h v : ℕ) → h < hosts_of bounds → v < end_of bounds → (slice_index (assignment_of bounds).masters v ≡ h) ↔ ((slice_index bounds h ≤ v) × (v < slice_index bounds (h + 1)))
  vertices_of_host h v host within =
      let at : slice_index (assignment_of bounds).masters v ≡ host_at bounds v = master_at v 0 within in
      let here = host_of v within in
      let between : (slice_index bounds (host_at bounds v) ≤ v) × (v < slice_index bounds (host_at bounds v + 1)) = (here.low, here.high) in (
        λ same. let host_is : host_at bounds v ≡ h = sym at ∙ same in rw host_is at between,
        λ within_bounds. let host_is : host_at bounds v ≡ h = omega (arith, count_at h v host within_bounds.0 within_bounds.1) in at ∙ host_is,
      )

  -- where v would be put among the bounds, the host before has it
  pub found_host : (v place : ℕ) → v < end_of bounds → place ≤ length bounds → IsPartitionPoint (λ bound. leb bound v ≡ true) (λ bound. leb bound v ≡ false) bounds place → IsFound (assignment_of bounds) v place
  found_host v place within fits point =
      let most = count-le bounds place v (λ h after here. leb-false (slice_index bounds h) v (point.1 h 0 after here)) in
      let least = le-count bounds place v fits (λ h before. leb-true (slice_index bounds h) v (point.0 h 0 (omega arith) before)) in
      let first = le-count bounds 1 v (omega (arith, ok.some_host)) (λ j before. omega (arith, ok.begins, rises j 0 (omega arith) (omega (arith, ok.some_host)))) in
      let here = host_of v within in
      record {
        some_host = omega (arith, most, first);
        master = omega (arith, most, least, master_at v 0 within);
        host = omega (arith, most, least, here.host);
      }

  -- as many vertices come before a host's as have a lower host
  pub lower_vertices : (h : ℕ) → h < hosts_of bounds → slice_index bounds h ≡ count_by (λ master. nat_lt master h) (assignment_of bounds).masters
  lower_vertices h host =
      let masters = (assignment_of bounds).masters in
      let first = slice_index bounds h in
      let fits : first ≤ end_of bounds = rises h (hosts_of bounds) (omega arith) (omega arith) in
      let most = count-by-le (λ master. nat_lt master h) masters first (λ v after here.
      let vertex : v < end_of bounds = omega (arith, length-masters) in
      let i = host_of v vertex in
      elim (cases_lt (host_at bounds v) h) [
        | inl lower ↦ absurd (omega (arith, i.high, rises (host_at bounds v + 1) h (omega arith) (omega arith)))
        | inr higher ↦ le-ltb (slice_index masters v) h (omega (arith, higher, master_at v 0 vertex))
      ]) in
      let least = le-count-by (λ master. nat_lt master h) masters first (omega (arith, fits, length-masters)) (λ v before.
      let vertex : v < end_of bounds = omega (arith, fits) in
      let i = host_of v vertex in
      elim (cases_lt (host_at bounds v) h) [
        | inl lower ↦ lt-ltb (slice_index masters v) h (omega (arith, lower, master_at v 0 vertex))
        | inr higher ↦ absurd (omega (arith, i.low, rises h (host_at bounds v) higher (omega (arith, i.host))))
      ]) in
      omega (arith, most, least)

  -- hosts do not fall along the vertices
  host_at_rises : (v w : ℕ) → v ≤ w → w < end_of bounds → host_at bounds v ≤ host_at bounds w
  host_at_rises v w order within =
      let a = host_of v (omega arith) in
      let b = host_of w within in
      elim (cases_lt (host_at bounds w) (host_at bounds v)) [
        | inl below ↦ absurd (omega (arith, a.low, b.high, rises (host_at bounds w + 1) (host_at bounds v) (omega arith) (omega (arith, a.host))))
        | inr other ↦ other
      ]

  -- what bounds stand for is an assignment
  pub IsAssignment-of : IsAssignment (assignment_of bounds)
  IsAssignment-of = record {
    hosts_fit = record { some_host = omega (arith, ok.some_host); few_hosts = omega (arith, ok.few_hosts) };
    vertices_fit = omega (arith, length-masters, ok.ends);
    on_hosts = λ v d within. rw (master_at v d (omega (arith, length-masters))) ((host_of v (omega (arith, length-masters))).host);
    contiguous = λ v w d order within. rw (master_at v d (omega (arith, length-masters)), master_at w d (omega (arith, length-masters))) (host_at_rises v w order (omega (arith, length-masters)));
  }
