-- Edges that lie side by side by the masters of their sources, and are given up from the last host to the first.
use Rattle.std.proofs.Common.{◌≡◌, ℕ, suc, ◌+◌, ◌-◌, ◌<◌, ◌≤◌, Bool, false, cond, nat_lt, ◌==◌, List, [], ◌∷◌, ◌++◌, length, take, drop, reverse, count_by, slice_index, slice_index_or, refl, sym, ap, ◌∙◌, subst, ⊎_elim, inl, inr, append_assoc, arith}
use Rattle.std.specs.List.{All, filter}
use Rattle.std.specs.List.Sorted.{IsNonDecreasing, IsNonDecreasingBy}
use Rattle.std.proofs.Math.Seq.{drop-append_seam, take-append_seam}
use Rattle.std.proofs.lemmas.Bool.{cases_lt, lt-ltb, le-ltb}
use Rattle.std.proofs.lemmas.Bool.Decides.{eqb_tells}
use Rattle.std.proofs.lemmas.Option.{slice_get_within, get_or_from_slice_get}
use Rattle.std.proofs.lemmas.List.{length-append, length-drop, reverse-append, take_all}
use Rattle.std.proofs.lemmas.List.FromFn.{map-range_with_len_more}
use Rattle.std.proofs.lemmas.List.Sums.{length-filter, count_by-le-length}
use Rattle.graph_model.specs.declared.edge.Edge.{Edge}
use Rattle.graph_model.specs.Graph.{Graph, IsGraph}
use Rattle.graph_division.specs.Shares.{Share}
use Rattle.cusp_rules.specs.Assignment.{Assignment, IsAssignment}
use Rattle.share_plan.specs.Plan.{Plan}
use Rattle.edge_columns.specs.Starts.{starts_of}
use Rattle.edge_columns.proofs.Counts.{count_le, le_count}
use Rattle.share_plan.proofs.StartsLaws.{start_at}
use Rattle.share_plan.proofs.Partitions.{rises-IsBySource}
use Rattle.partition_build.specs.Rooms.{share_by, edges_from, edges_below, shares_by_source}
use Rattle.partition_build.proofs.SharesMade.{filter_agree, filter_all}

-- a test that none passes keeps nothing
filter_none : {X : Type 0} (p : X → Bool) (xs : List X) → All (λ x. p x ≡ false) xs → filter p xs ≡ []
filter_none p [] fails = refl
filter_none p (x ∷ xs) fails =
    ap (λ b. cond b (x ∷ filter p xs) (filter p xs)) (fails 0 x (omega arith))
    ∙ filter_none p xs (λ k d within. fails (suc k) d (omega arith))

-- those below the next number are those below this one, and then those of this one
abbrev AreNext : {X : Type 0} → (X → ℕ) → List X → ℕ → Type 0
AreNext number xs n = filter (λ x. nat_lt (number x) (n + 1)) xs ≡ filter (λ x. nat_lt (number x) n) xs ++ filter (λ x. number x == n) xs

-- with one more in front, which is no higher
AreNext-cons : {X : Type 0} (number : X → ℕ) (x : X) (xs : List X) (n : ℕ) → IsNonDecreasingBy number (x ∷ xs) → AreNext number xs n → AreNext number (x ∷ xs) n
AreNext-cons {X} number x xs n rises rest =
    elim (eqb_tells (number x) n) [
      | inl same ↦ (
          let is = same.1 in
          let none : lower ≡ [] = filter_none (λ y. nat_lt (number y) n) xs (λ k d within. le-ltb (number (slice_index_or xs k d)) n (let order : number x ≤ number (slice_index_or xs k d) = rises 0 (suc k) d (omega arith) (omega arith) in omega (arith, order, is))) in
          goes (lt-ltb (number x) (n + 1) (omega (arith, is)))
          ∙ ap (λ ys. x ∷ ys) (rest ∙ ap (λ ys. ys ++ here) none)
          ∙ sym (ap (λ b. cond b (x ∷ lower) lower ++ cond (number x == n) (x ∷ here) here) (le-ltb (number x) n (omega (arith, is)))
          ∙ ap (λ ys. ys ++ cond (number x == n) (x ∷ here) here) none
          ∙ ap (λ b. cond b (x ∷ here) here) same.0))
      | inr other ↦ elim (cases_lt (number x) n) [
        | inl low ↦ (
            goes (lt-ltb (number x) (n + 1) (omega arith))
            ∙ ap (λ ys. x ∷ ys) rest
            ∙ sym (ap (λ b. cond b (x ∷ lower) lower ++ cond (number x == n) (x ∷ here) here) (lt-ltb (number x) n low)
            ∙ ap (λ b. (x ∷ lower) ++ cond b (x ∷ here) here) other.0))
        | inr high ↦ (
            let apart = other.1 in
            goes (le-ltb (number x) (n + 1) (omega (arith, apart)))
            ∙ rest
            ∙ sym (ap (λ b. cond b (x ∷ lower) lower ++ cond (number x == n) (x ∷ here) here) (le-ltb (number x) n high)
            ∙ ap (λ b. lower ++ cond b (x ∷ here) here) other.0))
      ]
    ]
  where
    lower : List X
    lower = filter (λ y. nat_lt (number y) n) xs

    here : List X
    here = filter (λ y. number y == n) xs

    upper : List X
    upper = filter (λ y. nat_lt (number y) (n + 1)) xs

    goes : {b : Bool} → nat_lt (number x) (n + 1) ≡ b → cond (nat_lt (number x) (n + 1)) (x ∷ upper) upper ≡ cond b (x ∷ upper) upper
    goes is = ap (λ b. cond b (x ∷ upper) upper) is

-- so it is in a list that does not fall
AreNext-list : {X : Type 0} (number : X → ℕ) (xs : List X) (n : ℕ) → IsNonDecreasingBy number xs → AreNext number xs n
AreNext-list number [] n rises = refl
AreNext-list number (x ∷ xs) n rises = AreNext-cons number x xs n rises (AreNext-list number xs n (λ i j d le within. rises (suc i) (suc j) d (omega arith) (omega arith)))

-- a vertex stands before the first of a host where its master is a lower one
before_first : (masters : List ℕ) (host v : ℕ) → IsNonDecreasing masters → v < length masters
    → nat_lt v (count_by (λ master. nat_lt master host) masters) ≡ nat_lt (slice_index masters v) host
before_first masters host v rises within =
    ⊎_elim
    (λ (low : slice_index masters v < host).
    let counted : suc v ≤ first = le_count lower masters (suc v) (omega arith) (λ k master less at. lt-ltb master host (let order = rises k v 0 (omega arith) within in omega (arith, low, order, get_or_from_slice_get masters k master 0 at))) in
    lt-ltb v first (omega arith) ∙ sym (lt-ltb (slice_index masters v) host low))
    (λ (high : host ≤ slice_index masters v).
    let counted : first ≤ v = count_le lower masters v (λ k master more at. le-ltb master host (let order = rises v k 0 more (slice_get_within masters k master at) in omega (arith, high, order, get_or_from_slice_get masters k master 0 at))) in
    le-ltb v first counted ∙ sym (le-ltb (slice_index masters v) host high))
    (cases_lt (slice_index masters v) host)
  where
    lower : ℕ → Bool
    lower master = nat_lt master host

    first : ℕ
    first = count_by lower masters

-- a place parts edges into those of lower hosts and those of a host
pub record Parts (plan : Plan) (graph : Graph) (host place : ℕ) (edges : List Edge) : Type 0 where
  pub within : place ≤ length edges
  pub before : take place edges ≡ edges_below plan graph host
  pub behind : take (length edges - place) (drop place edges) ≡ edges_from plan graph host

module _ (plan : Plan) (graph : Graph) (is : IsGraph graph) (long : graph.nodes ≡ length plan.masters)
    (assignment : Assignment) (assigned : IsAssignment assignment) (hosts : assignment.hosts ≡ plan.hosts) (masters : assignment.masters ≡ plan.masters) where
  -- masters do not fall
  rises : IsNonDecreasing plan.masters
  rises = subst IsNonDecreasing masters assigned.contiguous

  -- the masters of the sources do not fall along the list
  by_master : IsNonDecreasingBy (λ edge. slice_index plan.masters edge.src) graph.edges
  by_master i j d order within =
      let below = (is.within j d within).0 in
      rises (slice_index_or graph.edges i d).src (slice_index_or graph.edges j d).src 0 (rises-IsBySource graph.edges is.by_source i j d order within) (omega (arith, below, long))

  -- the edges of a host stand behind those of lower hosts
  next_host : (host : ℕ) → edges_below plan graph (host + 1) ≡ edges_below plan graph host ++ edges_from plan graph host
  next_host host = AreNext-list (λ edge. slice_index plan.masters edge.src) graph.edges host by_master

  -- and begin where the first vertex of the host has its start
  place-is : plan.starts ≡ starts_of graph → (host : ℕ) → slice_index plan.starts (count_by (λ master. nat_lt master host) plan.masters) ≡ length (edges_below plan graph host)
  place-is starts host =
      let few : first ≤ length plan.masters = count_by-le-length (λ master. nat_lt master host) plan.masters in
      ap (λ (xs : List ℕ). slice_index xs first) starts
      ∙ start_at graph first 0 (omega (arith, few, long))
      ∙ sym (length-filter (λ edge. nat_lt edge.src first) graph.edges)
      ∙ ap (λ (es : List Edge). length es) (filter_agree (λ edge. nat_lt edge.src first) (λ edge. nat_lt (slice_index plan.masters edge.src) host) graph.edges
      (λ k d within. before_first plan.masters host (slice_index_or graph.edges k d).src rises (let below = (is.within k d within).0 in omega (arith, below, long))))
    where
      first : ℕ
      first = count_by (λ master. nat_lt master host) plan.masters

  -- all edges are of sources whose master is a host
  pub all_below : graph.edges ≡ edges_below plan graph plan.hosts
  all_below =
      let on_hosts : All (λ master. master < assignment.hosts) plan.masters = subst (All (λ master. master < assignment.hosts)) masters assigned.on_hosts in
      sym (filter_all (λ edge. nat_lt (slice_index plan.masters edge.src) plan.hosts) graph.edges
      (λ k d within. lt-ltb (slice_index plan.masters (slice_index_or graph.edges k d).src) plan.hosts
      (let below = (is.within k d within).0 in omega (arith, hosts, on_hosts (slice_index_or graph.edges k d).src 0 (omega (arith, below, long))))))

  -- the place of the last host whose edges are left parts them
  pub Parts-place : plan.starts ≡ starts_of graph → (count place : ℕ) (edges : List Edge) → 0 < count → edges ≡ edges_below plan graph count
      → place ≡ slice_index plan.starts (count_by (λ master. nat_lt master (count - 1)) plan.masters)
      → Parts plan graph (count - 1) place edges
  Parts-place starts count place edges some left at =
      let long : place ≡ length lower = at ∙ place-is starts (count - 1) in
      let split : edges ≡ lower ++ own = left ∙ ap (edges_below plan graph) (let e : count ≡ count - 1 + 1 = omega arith in e) ∙ next_host (count - 1) in
      let behind : drop place edges ≡ own = ap (λ (n : ℕ). drop n edges) long ∙ ap (λ (es : List Edge). drop (length lower) es) split ∙ drop-append_seam lower own in
      record {
        within = omega (arith, long, ap (λ (es : List Edge). length es) split, length-append lower own);
        before = ap (λ (n : ℕ). take n edges) long ∙ ap (λ (es : List Edge). take (length lower) es) split ∙ take-append_seam lower own;
        behind = take_all (length edges - place) (drop place edges) (omega (arith, length-drop place edges)) ∙ behind;
      }
    where
      lower : List Edge
      lower = edges_below plan graph (count - 1)

      own : List Edge
      own = edges_from plan graph (count - 1)

-- one share more, where the last stands first
pub one_share_more : (plan : Plan) (graph : Graph) (host : ℕ) (made : List Share) (share : Share) → share ≡ share_by plan graph.nodes host (edges_from plan graph host)
    → shares_by_source plan graph host ++ reverse (made ++ share ∷ []) ≡ shares_by_source plan graph (host + 1) ++ reverse made
one_share_more plan graph host made share is =
    ap (λ (xs : List Share). shares_by_source plan graph host ++ xs) (reverse-append made (share ∷ []))
    ∙ sym (append_assoc (shares_by_source plan graph host) (share ∷ []) (reverse made))
    ∙ ap (λ (x : Share). (shares_by_source plan graph host ++ x ∷ []) ++ reverse made) is
    ∙ ap (λ (xs : List Share). xs ++ reverse made) (sym (map-range_with_len_more (λ h. share_by plan graph.nodes h (edges_from plan graph h)) 0 host host (omega arith)))
