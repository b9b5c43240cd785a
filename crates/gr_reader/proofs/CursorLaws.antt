-- Laws of the place from which on the next source is found.
use Rattle.std.proofs.Common.{◌≡◌, ℕ, suc, ◌+◌, ◌-◌, ◌<◌, ◌≤◌, List, [], ◌∷◌, length, drop, get_or, refl, sym, ap, subst, ◌∙◌, ⊎_elim, arith}
use Rattle.std.proofs.lemmas.Bool.{cases_lt}
use Rattle.std.proofs.lemmas.List.{drop_more, drop_all, drop-drop}
use Rattle.edge_columns.specs.Columns.{last_entry, sources}
use Rattle.list_laws.specs.Rising.{NeverFalls}
use Rattle.gr_reader.specs.EdgeLists.{IsCursor}

-- there is an entry for an edge that is below the last
pub cursor_within : (ends : List ℕ) (node edge : ℕ) → IsCursor ends node edge → edge < last_entry 0 ends → node < length ends
cursor_within ends node edge cursor more = ⊎_elim
    (λ (within : node < length ends). within)
    (λ (past : length ends ≤ node).
    let none : drop node ends ≡ [] = drop_all node ends past in
    let same : edge ≡ last_entry 0 ends = rw none at cursor.last in
    absurd (omega arith))
    (cases_lt node (length ends))

-- a node whose edges end before this edge, or at it
pub cursor_skip : (ends : List ℕ) (node edge : ℕ) → IsCursor ends node edge → node < length ends → get_or ends node 0 ≤ edge → IsCursor ends (node + 1) edge
cursor_skip ends node edge cursor within low =
    let entry = get_or ends node 0 in
    let more : drop node ends ≡ entry ∷ drop (node + 1) ends = drop_more ends node 0 within in
    let rising : NeverFalls edge (entry ∷ drop (node + 1) ends) = rw more at cursor.rising in
    let same : entry ≡ edge = omega (arith, rising.0) in
    let none : entry - edge ≡ 0 = omega arith in
    record {
      rest = cursor.rest ∙ ap (sources node edge) more ∙ rw (none, same) refl;
      rising = subst (λ (n : ℕ). NeverFalls n (drop (node + 1) ends)) same rising.1;
      last = ap (λ (n : ℕ). last_entry n (drop (node + 1) ends)) (sym same) ∙ ap (last_entry edge) (sym more) ∙ cursor.last;
      nodes = cursor.nodes;
      edges = cursor.edges;
    }

-- a node whose edges end after this edge is its source
pub cursor_source : (ends : List ℕ) (node edge : ℕ) → IsCursor ends node edge → node < length ends → edge < get_or ends node 0
    → drop edge (sources 0 0 ends) ≡ node ∷ sources node (edge + 1) (drop node ends)
cursor_source ends node edge cursor within high =
    let entry = get_or ends node 0 in
    let more : drop node ends ≡ entry ∷ drop (node + 1) ends = drop_more ends node 0 within in
    let count : entry - edge ≡ suc (entry - (edge + 1)) = omega arith in
    cursor.rest ∙ ap (sources node edge) more ∙ rw (count, more) refl

-- the edge after it
pub cursor_next : (ends : List ℕ) (node edge : ℕ) → IsCursor ends node edge → node < length ends → edge < get_or ends node 0
    → (drop edge (sources 0 0 ends) ≡ node ∷ drop (edge + 1) (sources 0 0 ends)) × IsCursor ends node (edge + 1)
cursor_next ends node edge cursor within high =
    let entry = get_or ends node 0 in
    let all = sources 0 0 ends in
    let more : drop node ends ≡ entry ∷ drop (node + 1) ends = drop_more ends node 0 within in
    let rising : NeverFalls edge (entry ∷ drop (node + 1) ends) = rw more at cursor.rising in
    let first = cursor_source ends node edge cursor within high in
    let rest : drop (edge + 1) all ≡ sources node (edge + 1) (drop node ends) = sym (drop-drop 1 edge all) ∙ ap (λ (l : List ℕ). drop 1 l) first in (
      first ∙ ap (λ (l : List ℕ). node ∷ l) (sym rest),
      record {
        rest = rest;
        rising = rw more (omega arith, rising.1);
        last = rw more (ap (last_entry edge) (sym more) ∙ cursor.last);
        nodes = cursor.nodes;
        edges = cursor.edges;
      },
    )
