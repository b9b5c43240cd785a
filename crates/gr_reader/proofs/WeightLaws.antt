-- What the weights that came say of the edges.
use Rattle.std.proofs.Common.{◌≡◌, ℕ, ◌+◌, ◌-◌, ◌^◌, ◌<◌, ◌≤◌, All, List, [], ◌∷◌, ◌++◌, length, take, drop, get_or, set, refl, sym, ap, ◌∙◌, arith, length-append, length-drop}
use Rattle.std.proofs.lemmas.List.{take_all, drop_all, drop_more, take_more_set, drop-set-lt, append-nil, map-append, length-map, take-append-drop, append_assoc, take_rest, length-take-le}
use Rattle.std.proofs.lemmas.List.Elements.{All-nil, All-append}
use borrow.Rule.Slice.PartMut.{put_mid}
use Rattle.graph_model.specs.declared.edge.Edge.{Edge}
use Rattle.edge_columns.specs.Columns.{weighed}
use Rattle.edge_columns.proofs.EdgeLaws.{weighed-none, weighed-append, length-weighed}
use Rattle.gr_reader.specs.EdgeLists.{unweighed, TookWeights}

-- the edge with weight 1
abbrev pub plain : Edge → Edge
plain edge = record { src = edge.src; dst = edge.dst; weight = 1 }

-- weights change weights alone
pub unweighed-weighed : (edges : List Edge) (weights : List ℕ) → unweighed (weighed edges weights) ≡ unweighed edges
unweighed-weighed [] weights = refl
unweighed-weighed (edge ∷ edges) [] = refl
unweighed-weighed (edge ∷ edges) (weight ∷ weights) = ap (λ (l : List Edge). plain edge ∷ l) (unweighed-weighed edges weights)

-- the edge at a place gets a weight
pub weigh_one : (edges : List Edge) (place weight : ℕ) (weights : List ℕ) (d : Edge) → place < length edges
    → take (place + 1) (set edges place (record { src = (get_or edges place d).src; dst = (get_or edges place d).dst; weight = weight }))
    ++ weighed (drop (place + 1) (set edges place (record { src = (get_or edges place d).src; dst = (get_or edges place d).dst; weight = weight }))) weights
    ≡ take place edges ++ weighed (drop place edges) (weight ∷ weights)
weigh_one edges place weight weights d within =
    let edge = get_or edges place d in
    let new : Edge = record { src = edge.src; dst = edge.dst; weight = weight } in
    let rest : drop (place + 1) (set edges place new) ≡ drop (place + 1) edges = drop-set-lt (place + 1) edges place new (omega arith) in
    rw (take_more_set edges place new within, rest, drop_more edges place d within, append_assoc) refl

-- the rest of the edges got the weights of a piece
pub weights_placed : (edges new : List Edge) (place : ℕ) (weights : List ℕ) → place ≤ length edges → new ≡ weighed (drop place edges) weights
    → put_mid place (length edges - place) edges new ≡ take place edges ++ weighed (drop place edges) weights
weights_placed edges new place weights within is =
    let none : drop (length edges - place) (drop place edges) ≡ [] = drop_all (length edges - place) (drop place edges) (omega (arith, length-drop place edges)) in
    rw none (ap (λ (l : List Edge). take place edges ++ l) (append-nil new ∙ is))

-- sources and destinations stay
pub placed-unweighed : (edges : List Edge) (place : ℕ) (weights : List ℕ) → unweighed (take place edges ++ weighed (drop place edges) weights) ≡ unweighed edges
placed-unweighed edges place weights =
    map-append plain (take place edges) (weighed (drop place edges) weights)
    ∙ ap (λ (l : List Edge). unweighed (take place edges) ++ l) (unweighed-weighed (drop place edges) weights)
    ∙ sym (map-append plain (take place edges) (drop place edges))
    ∙ ap unweighed (take-append-drop place edges)

-- nothing came yet
pub TookWeights-none : (edges : List Edge) → unweighed edges ≡ edges → TookWeights edges 0 []
TookWeights-none edges ones = record { edges_are = sym (weighed-none (unweighed edges) ∙ ones); count = refl; light = All-nil (λ weight. weight < 2 ^ 32) }

-- the weights of a piece more
pub TookWeights-more : (edges new : List Edge) (place : ℕ) (numbers more : List ℕ) → TookWeights edges place numbers → place ≤ length edges → new ≡ take place edges ++ weighed (drop place edges) more
    → (count : ℕ) → count ≡ length more → All (λ weight. weight < 2 ^ 32) more → TookWeights new (place + count) (numbers ++ more)
TookWeights-more edges new place numbers more took within is count same_count light =
    let same : unweighed new ≡ unweighed edges = ap unweighed is ∙ placed-unweighed edges place more in
    let fits : length numbers ≤ length (unweighed edges) = omega (arith, took.count, length-map edges plain) in
    record {
      edges_are = is ∙ sym (ap (λ (l : List Edge). weighed l (numbers ++ more)) same ∙ weighed-append (unweighed edges) numbers more fits ∙ rw (← took.edges_are, ← took.count) refl);
      count = omega (arith, took.count, length-append numbers more);
      light = All-append (λ weight. weight < 2 ^ 32) numbers more took.light light;
    }

-- a vector whose last edges got the weights of a piece as a slice
pub weights_slice : (items lent new : List Edge) (count place : ℕ) (weights : List ℕ) → lent ≡ items → count ≡ length items → place ≤ length items
    → new ≡ weighed (take (length lent - place) (drop place lent)) weights
    → take count (put_mid place (length lent - place) lent new ++ drop (length (put_mid place (length lent - place) lent new)) items) ≡ take place items ++ weighed (drop place items) weights
weights_slice items lent new count place weights same long within is =
    let whole = take place items ++ weighed (drop place items) weights in
    let part : take (length lent - place) (drop place lent) ≡ drop place items = ap (λ (l : List Edge). take (length l - place) (drop place l)) same ∙ take_rest items place in
    let now : new ≡ weighed (drop place items) weights = is ∙ ap (λ (l : List Edge). weighed l weights) part in
    let placed : put_mid place (length lent - place) lent new ≡ whole = ap (λ (l : List Edge). put_mid place (length l - place) l new) same ∙ weights_placed items new place weights within now in
    let size : length whole ≡ length items = omega (arith, length-append (take place items) (weighed (drop place items) weights), length-take-le place items within, length-weighed (drop place items) weights, length-drop place items) in
    let none : drop (length whole) items ≡ [] = drop_all (length whole) items (omega arith) in
    ap (λ (l : List Edge). take count (l ++ drop (length l) items)) placed ∙ ap (λ (l : List Edge). take count (whole ++ l)) none ∙ ap (take count) (append-nil whole) ∙ take_all count whole (omega arith)
