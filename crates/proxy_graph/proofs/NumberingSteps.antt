-- What the numbers of a host's proxies are: a master's is its place in the row, and a mirror's its place behind the row.
use Rattle.std.proofs.Common.{◌≡◌, ℕ, suc, ◌+◌, ◌-◌, ◌<◌, ◌≤◌, true, false, Bool, cond, not, ◌&&◌, nat_lt, nat_le, List, [], ◌∷◌, ◌++◌, length, take, slice_index, refl, sym, ◌∙◌, ap, arith, subst, length-append}
use Rattle.std.specs.List.{filter, range_with_len}
use Rattle.std.proofs.lemmas.Bool.{and_parts, leb-true, ltb-true}
use Rattle.std.proofs.lemmas.List.{length-take-le, get_or_append_left, get_or-append_right}
use Rattle.std.proofs.lemmas.List.FromFn.{length-range_with_len, get_or-range_with_len, length-map-range_with_len, get_or-map-range_with_len}
use Rattle.std.proofs.lemmas.Option.{slice_get_within, get_or_from_slice_get}
use Rattle.list_laws.specs.Members.{has_member, members, members_from, count_of, IsMember}
use Rattle.list_laws.proofs.Members.{count_of-le-length, slice_get-members}
use Rattle.proxy_graph.specs.Numbering.{is_hosted, is_mirrored, number_of, table_of, IsLidOf, AreNumbered, Numbers}
use Rattle.proxy_graph.specs.declared.numbering.Numbering.{Numbering}

-- who is hosted
pub hosted_is : (first count v : ℕ) → is_hosted first count v ≡ true → (first ≤ v) × (v < first + count)
hosted_is first count v hosted =
    let parts = and_parts (nat_le first v) (nat_lt (v - first) count) hosted in
    let low = leb-true first v parts.0 in
    let high = ltb-true (v - first) count parts.1 in
    (low, omega (arith, low, high))

-- there are no more members before a number than numbers in all
pub few_before : (bits : List Bool) (v : ℕ) → v < length bits → count_of (take v bits) ≤ length bits
few_before bits v within = omega (arith, count_of-le-length (take v bits), length-take-le v bits (omega (arith, within)))

-- there is a number for each vertex
pub table_long : (numbering : Numbering) → length (table_of numbering) ≡ length numbering.mirrored
unfolding table_of
table_long numbering = length-map-range_with_len (number_of numbering) 0 (length numbering.mirrored)

-- and it is that vertex's
pub table_at : (numbering : Numbering) (v : ℕ) → v < length numbering.mirrored → slice_index (table_of numbering) v ≡ number_of numbering v
unfolding table_of
table_at numbering v within = get_or-map-range_with_len (number_of numbering) 0 (length numbering.mirrored) v v 0 within (omega arith)

-- the members of a set are those of its numbers that a test picks which is true of them alone
picked_members : (test : ℕ → Bool) (first : ℕ) (bits : List Bool) → ((k : ℕ) → k < length bits → has_member bits k ≡ test (first + k)) → members_from first bits ≡ filter test (range_with_len first (length bits))
picked_members test first [] same = refl
picked_members test first (bit ∷ bits) same =
    let start : first + 0 ≡ first = omega arith in
    ap (λ b. cond b (first ∷ members_from (first + 1) bits) (members_from (first + 1) bits)) (same 0 (omega arith) ∙ ap test start)
    ∙ ap (λ rest. cond (test first) (first ∷ rest) rest) (picked_members test (first + 1) bits (λ k within.
    let next : first + (k + 1) ≡ first + 1 + k = omega arith in
    step k within ∙ ap test next))
  where
    step : (k : ℕ) → k < length bits → has_member bits k ≡ test (first + (k + 1))
    step k within =
        let one : suc k ≡ k + 1 = omega arith in
        ap (has_member (bit ∷ bits)) one ∙ same (k + 1) (omega (arith, within))

module _ (first count : ℕ) (marks : List Bool) (numbering : Numbering) (numbers : Numbers first count marks numbering) where
  abbrev mirrors : List ℕ
  mirrors = members numbering.mirrored

  abbrev proxies : List ℕ
  proxies = range_with_len first count ++ mirrors

  -- the test whether a vertex is hosted, with what the fields say
  hosted_same : (v : ℕ) → is_hosted numbering.first numbering.count v ≡ is_hosted first count v
  hosted_same v = ap (λ (n : ℕ). is_hosted n numbering.count v) numbers.begins ∙ ap (λ (n : ℕ). is_hosted first n v) numbers.hosted

  -- a master's number is its place in the row
  master_lid : (v : ℕ) → is_hosted first count v ≡ true → IsLidOf proxies v (slice_index (table_of numbering) v)
  master_lid v here =
      let at = hosted_is first count v here in
      let row = length-range_with_len first count in
      let number : slice_index (table_of numbering) v ≡ v - first =
      table_at numbering v (omega (arith, at, numbers.row, numbers.long))
      ∙ ap (λ b. cond b (v - numbering.first) (numbering.count + count_of (take v numbering.mirrored))) (hosted_same v ∙ here)
      ∙ ap (λ (n : ℕ). v - n) numbers.begins in
      let place : first + (v - first) ≡ v = omega (arith, at) in
      subst (λ lid. IsLidOf proxies v lid) (sym number) (record {
        within = omega (arith, at, row, length-append (range_with_len first count) mirrors);
        here = get_or_append_left (range_with_len first count) mirrors 0 (v - first) (omega (arith, at, row)) ∙ get_or-range_with_len first count (v - first) 0 (omega (arith, at)) ∙ place;
      })

  -- a mirror's is behind the row how many mirrors come before it
  mirror_lid : (v : ℕ) → v < length marks → is_hosted first count v ≡ false → IsMember numbering.mirrored v → IsLidOf proxies v (slice_index (table_of numbering) v)
  mirror_lid v within elsewhere member =
      let before = count_of (take v numbering.mirrored) in
      let place = slice_get-members numbering.mirrored v member in
      let inside : before < length mirrors = slice_get_within mirrors before v place in
      let row = length-range_with_len first count in
      let number : slice_index (table_of numbering) v ≡ count + before =
      table_at numbering v (omega (arith, within, numbers.long))
      ∙ ap (λ b. cond b (v - numbering.first) (numbering.count + before)) (hosted_same v ∙ elsewhere)
      ∙ ap (λ (n : ℕ). n + before) numbers.hosted in
      let behind : count + before - count ≡ before = omega arith in
      subst (λ lid. IsLidOf proxies v lid) (sym number) (record {
        within = omega (arith, inside, row, length-append (range_with_len first count) mirrors);
        here = get_or-append_right (range_with_len first count) mirrors count (count + before) 0 row (omega arith) ∙ ap (slice_index mirrors) behind ∙ get_or_from_slice_get mirrors before v 0 place;
      })

  -- a vertex with a mark has one of the two
  marked_lid : (v : ℕ) → v < length marks → has_member marks v ≡ true → IsLidOf proxies v (slice_index (table_of numbering) v)
  marked_lid v within mark = split (is_hosted first count v) refl
    where
      split : (b : Bool) → is_hosted first count v ≡ b → IsLidOf proxies v (slice_index (table_of numbering) v)
      split true here = master_lid v here
      split false elsewhere = mirror_lid v within elsewhere (numbers.mirrored v within ∙ ap (λ b. not b && has_member marks v) elsewhere ∙ mark)

  -- so the vertices are numbered
  pub numbers_are : AreNumbered first count marks (length marks) (table_of numbering) mirrors
  numbers_are = record {
    long = table_long numbering ∙ numbers.long;
    mirrors_are =
        picked_members (is_mirrored first count marks) 0 numbering.mirrored (λ k within.
        let place : k ≡ 0 + k = omega arith in
        numbers.mirrored k (omega (arith, within, numbers.long)) ∙ ap (is_mirrored first count marks) place)
        ∙ ap (λ (n : ℕ). filter (is_mirrored first count marks) (range_with_len 0 n)) numbers.long;
    hosted = master_lid;
    marked = marked_lid;
  }
