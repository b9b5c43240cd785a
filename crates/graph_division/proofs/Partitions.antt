-- Partitions divide their graph, and hosts see themselves as they are.
use Rattle.std.proofs.Common.{◌≡◌, ℕ, zero, suc, ◌<◌, true, false, Bool, not, ◌&&◌, ◌||◌, ◌==◌, List, [], ◌∷◌, map, length, Option, Some, None, slice_get, refl, sym, ◌∙◌, ap, subst, arith}
use Rattle.std.specs.List.{All, list_any, slice_index_or}
use Rattle.std.proofs.lemmas.List.Elements.{All-nil}
use Rattle.std.proofs.lemmas.List.Folds.{list_any-append}
use Rattle.std.proofs.lemmas.Option.{slice_get_within}
use Rattle.graph_model.specs.declared.edge.Edge.{Edge}
use Rattle.graph_model.specs.declared.edge.Way.{Way}
use Rattle.graph_model.specs.declared.edge.Way.TheVariants.{Outward, Inward, Both}
use Rattle.graph_model.specs.Graph.{IsGraph}
use Rattle.graph_model.specs.Arcs.{Arc, out_arc, in_arc, arcs_of}
use Rattle.graph_division.specs.ProgramArcs.{IsArcOf}
use Rattle.graph_division.specs.Division.{Division}
use Rattle.graph_division.specs.Lists.{is_readable, is_writable, is_mirror, reduce_list, broadcast_list}
use Rattle.graph_division.specs.Shares.{Share, IsShare, nodes_of}
use Rattle.graph_division.specs.Partition.{IsShareOf, IsPartition, masters_of_all, edges_at}
use Rattle.graph_division.specs.PartitionLaws.{PartitionsDivide, HostsSeeThemselves, MirrorsAreOfNoWay}
use Rattle.graph_division.proofs.GraphArcs.{graphs_have_arcs}

-- a host has the edges of its share
pub edges_at-some : (shares : List Share) (host : ℕ) (share : Share) → slice_get shares host ≡ Some share → share.edges ≡ edges_at shares host
edges_at-some [] host share at = absurd (cc)
edges_at-some (first ∷ rest) zero share at = let same : first ≡ share = cc in ap (λ (s : Share). s.edges) (sym same)
edges_at-some (first ∷ rest) (suc host) share at = edges_at-some rest host share at

-- where there is no share there are no edges
pub edges_at-none : (shares : List Share) (host : ℕ) → slice_get shares host ≡ None → edges_at shares host ≡ []
edges_at-none [] host at = refl
edges_at-none (first ∷ rest) zero at = absurd (cc)
edges_at-none (first ∷ rest) (suc host) at = edges_at-none rest host at

-- a share is a graph of all vertices, with the edges of its host
share_is_graph : (share : Share) → IsShare share → IsGraph (record { nodes = nodes_of share; edges = share.edges })
share_is_graph share is = record {
  nodes_fit = is.nodes_fit;
  edges_fit = is.edges_fit;
  within = is.within;
  weighed = is.weighed;
  by_source = is.by_source;
}

-- there is a first share, and it is a host's
first_share : (shares : List Share) → IsPartition shares → (share : Share) × IsShareOf (length shares) (masters_of_all shares) 0 share
first_share [] is = absurd (let some = is.some_host in omega arith)
first_share (first ∷ rest) is = (first, is.by_host 0 first refl)

module _ (way : Way) (shares : List Share) (is : IsPartition shares) where
  arcs_within : (host : ℕ) (at : Option Share) → slice_get shares host ≡ at → All (IsArcOf (length (masters_of_all shares))) (arcs_of way (edges_at shares host))
  arcs_within host None at =
      subst (λ (edges : List Edge). All (IsArcOf (length (masters_of_all shares))) (arcs_of way edges)) (sym (edges_at-none shares host at)) (no_arcs way)
    where
      no_arcs : (way : Way) → All (IsArcOf (length (masters_of_all shares))) (arcs_of way [])
      no_arcs Outward = All-nil (IsArcOf (length (masters_of_all shares)))
      no_arcs Inward = All-nil (IsArcOf (length (masters_of_all shares)))
      no_arcs Both = All-nil (IsArcOf (length (masters_of_all shares)))
  arcs_within host (Some share) at =
      let of_host = is.by_host host share at in
      let arcs = graphs_have_arcs (record { nodes = nodes_of share; edges = share.edges }) way (share_is_graph share of_host.is_share) in
      let moved = subst (λ (edges : List Edge). All (IsArcOf (nodes_of share)) (arcs_of way edges)) (edges_at-some shares host share at) arcs.within in
      subst (λ (masters : List ℕ). All (IsArcOf (length masters)) (arcs_of way (edges_at shares host))) of_host.agrees moved

pub partitions_divide : PartitionsDivide
partitions_divide way shares is =
    let first = first_share shares is in
    let long = ap (λ (masters : List ℕ). length masters) first.1.agrees in
    record {
      few = let fit = first.1.is_share.nodes_fit in omega arith;
      within = λ host. arcs_within way shares is host (slice_get shares host) refl;
      mastered = λ v below.
          let on_hosts = subst (λ (masters : List ℕ). All (λ master. master < first.0.hosts) masters) first.1.agrees first.1.is_share.on_hosts in
          subst (λ (hosts : ℕ). slice_index_or (masters_of_all shares) v 0 < hosts) first.1.of_hosts (on_hosts v 0 below);
    }

-- what one host knows: so many hosts, the masters, and its own edges
abbrev known : Way → (masters : List ℕ) → List Edge → (hosts : ℕ) → Division
known way masters edges hosts = record { nodes = length masters; hosts = hosts; share = λ host. arcs_of way edges; master = λ v. slice_index_or masters v 0 }

-- what is told of one host by what it knows is the same of two that know the same
known_alike : {X : Type 0} (told : Division → ℕ → X) (way : Way) (masters others : List ℕ) (edges alike : List Edge) (hosts count host number : ℕ)
    → masters ≡ others → edges ≡ alike → hosts ≡ count → host ≡ number
    → told (known way masters edges hosts) host ≡ told (known way others alike count) number
known_alike {X} told way masters others edges alike hosts count host number same_masters same_edges same_hosts same_host =
    ap (λ (m : List ℕ). told (known way m edges hosts) host) same_masters
    ∙ ap (λ (e : List Edge). told (known way others e hosts) host) same_edges
    ∙ ap (λ (n : ℕ). told (known way others alike n) host) same_hosts
    ∙ ap (λ (h : ℕ). told (known way others alike count) h) same_host

pub hosts_see_themselves : HostsSeeThemselves
hosts_see_themselves way shares host share is at =
    let of_host = is.by_host host share at in
    let edges = edges_at-some shares host share at in
    let alike = λ (told : Division → ℕ → Bool). known_alike told way share.masters (masters_of_all shares) share.edges (edges_at shares host) share.hosts (length shares) share.host host of_host.agrees edges of_host.of_hosts of_host.of_host in
    let lists_alike = λ (told : Division → ℕ → List ℕ). known_alike told way share.masters (masters_of_all shares) share.edges (edges_at shares host) share.hosts (length shares) share.host host of_host.agrees edges of_host.of_hosts of_host.of_host in
    record {
      is_share = of_host.is_share;
      of_host = of_host.of_host;
      is_host = slice_get_within shares host share at;
      nodes = ap (λ (masters : List ℕ). length masters) of_host.agrees;
      hosts = of_host.of_hosts;
      masters = of_host.agrees;
      edges = edges;
      readable = λ v. alike (λ division number. is_readable division number v);
      writable = λ v. alike (λ division number. is_writable division number v);
      mirror = λ v. alike (λ division number. is_mirror division number v);
      reduces = λ to. lists_alike (λ division number. reduce_list division number to);
      broadcasts = λ from. lists_alike (λ division number. broadcast_list division from number);
    }

-- a test of arcs that are made of edges is a test of these
pub list_any-made : (p : Arc → Bool) (make : Edge → Arc) (edges : List Edge) → list_any p (map make edges) ≡ list_any (λ edge. p (make edge)) edges
list_any-made p make [] = refl
list_any-made p make (edge ∷ edges) = ap (λ b. p (make edge) || b) (list_any-made p make edges)

-- whether an edge starts at a vertex
abbrev starts_at : List Edge → ℕ → Bool
starts_at edges v = list_any (λ edge. edge.src == v) edges

-- whether an edge leads to a vertex
abbrev leads_to : List Edge → ℕ → Bool
leads_to edges v = list_any (λ edge. edge.dst == v) edges

-- whether a vertex is the tail of an arc, or the head of one
abbrev is_met : List Arc → ℕ → Bool
is_met arcs v = list_any (λ arc. arc.tail == v) arcs || list_any (λ arc. arc.head == v) arcs

swapped : (s d : Bool) → (d || s) ≡ (s || d)
swapped true true = refl
swapped true false = refl
swapped false true = refl
swapped false false = refl

twice : (s d : Bool) → ((s || d) || (d || s)) ≡ (s || d)
twice true d = refl
twice false true = refl
twice false false = refl

-- an arc meets a vertex where its edge has the vertex as an end, whichever way it is followed
met_of : (way : Way) (edges : List Edge) (v : ℕ) → is_met (arcs_of way edges) v ≡ (starts_at edges v || leads_to edges v)
met_of Outward edges v =
    ap (λ b. b || list_any (λ arc. arc.head == v) (map out_arc edges)) (list_any-made (λ arc. arc.tail == v) out_arc edges)
    ∙ ap (λ b. starts_at edges v || b) (list_any-made (λ arc. arc.head == v) out_arc edges)
met_of Inward edges v =
    ap (λ b. b || list_any (λ arc. arc.head == v) (map in_arc edges)) (list_any-made (λ arc. arc.tail == v) in_arc edges)
    ∙ ap (λ b. leads_to edges v || b) (list_any-made (λ arc. arc.head == v) in_arc edges)
    ∙ swapped (starts_at edges v) (leads_to edges v)
met_of Both edges v =
    ap (λ b. b || list_any (λ arc. arc.head == v) (arcs_of Both edges)) tails
    ∙ ap (λ b. (starts_at edges v || leads_to edges v) || b) heads
    ∙ twice (starts_at edges v) (leads_to edges v)
  where
    tails : list_any (λ arc. arc.tail == v) (arcs_of Both edges) ≡ (starts_at edges v || leads_to edges v)
    tails =
        list_any-append (λ arc. arc.tail == v) (map out_arc edges) (map in_arc edges)
        ∙ ap (λ b. b || list_any (λ arc. arc.tail == v) (map in_arc edges)) (list_any-made (λ arc. arc.tail == v) out_arc edges)
        ∙ ap (λ b. starts_at edges v || b) (list_any-made (λ arc. arc.tail == v) in_arc edges)

    heads : list_any (λ arc. arc.head == v) (arcs_of Both edges) ≡ (leads_to edges v || starts_at edges v)
    heads =
        list_any-append (λ arc. arc.head == v) (map out_arc edges) (map in_arc edges)
        ∙ ap (λ b. b || list_any (λ arc. arc.head == v) (map in_arc edges)) (list_any-made (λ arc. arc.head == v) out_arc edges)
        ∙ ap (λ b. leads_to edges v || b) (list_any-made (λ arc. arc.head == v) in_arc edges)

-- whichever way edges are followed, the same vertices have a mirror
met_alike : (way : Way) (edges : List Edge) (v : ℕ) → is_met (arcs_of way edges) v ≡ is_met (arcs_of Outward edges) v
met_alike way edges v = met_of way edges v ∙ sym (met_of Outward edges v)

pub mirrors_are_of_no_way : MirrorsAreOfNoWay
mirrors_are_of_no_way = record {
  seen_here = λ way share host v. ap (λ b. not (slice_index_or share.masters v 0 == host) && b) (met_alike way share.edges v);
  of_all = λ way shares host v. ap (λ b. not (slice_index_or (masters_of_all shares) v 0 == host) && b) (met_alike way (edges_at shares host) v);
}
