-- The steps of a survey of edges.
use Rattle.std.proofs.Common.{◌≡◌, ◌≢◌, ℕ, ◌+◌, ◌<◌, ◌≤◌, true, false, Bool, ◌||◌, ◌==◌, List, length, take, slice_get, Some, refl, sym, ◌∙◌, ap, arith, inl, inr}
use Rattle.std.proofs.lemmas.Bool.{cases_eq, cases_lt, eq-eqb, ne_eqb, or_right}
use Rattle.std.proofs.lemmas.List.{length-set, get_or-set_same, get_or-set_other}
use Rattle.std.proofs.lemmas.List.Folds.{list_any_more}
use Rattle.std.proofs.lemmas.Option.{slice_get-get_or}
use Rattle.list_laws.specs.Members.{has_member, with_member}
use Rattle.graph_model.specs.Graph.{IsWithin}
use Rattle.graph_model.specs.declared.edge.Edge.{Edge}
use Rattle.proxy_graph.specs.Numbering.{is_end, AreMarks}
use Rattle.proxy_graph.specs.Sides.{edge_at}

-- among the edges before `end` sources do not fall, and none is above `last`
pub record RiseTo (edges : List Edge) (end last : ℕ) : Type 0 where
  pub greatest : (i : ℕ) (a : Edge) → i < end → slice_get edges i ≡ Some a → a.src ≤ last
  pub ordered : (i j : ℕ) (a b : Edge) → i < j → j < end → slice_get edges i ≡ Some a → slice_get edges j ≡ Some b → a.src ≤ b.src

-- what is false and nothing else
or_false : (b : Bool) → (b || false) ≡ b
or_false true = refl
or_false false = refl

module _ (edges : List Edge) (end : ℕ) (within : end < length edges) where
  -- the next edge
  abbrev here : Edge
  here = edge_at edges end

  -- it is the one at this place
  at_end : (k : ℕ) (a : Edge) → k ≡ end → slice_get edges k ≡ Some a → a.src ≡ here.src
  at_end k a same at =
      let stands : slice_get edges k ≡ Some here = ap (λ (n : ℕ). slice_get edges n) same ∙ slice_get-get_or edges end _ within in
      let is : a ≡ here = cc in
      ap (λ (e : Edge). e.src) is

  -- one edge more whose source is not below
  pub rise_more : (last : ℕ) → last ≤ here.src → RiseTo edges end last → RiseTo edges (end + 1) here.src
  rise_more last rises so_far = record {
    greatest = λ i a below at. elim (cases_lt i end) [
      | inl early ↦ omega (arith, so_far.greatest i a early at)
      | inr late ↦ omega (arith, at_end i a (omega arith) at)
    ];
    ordered = λ i j a b order below at_i at_j. elim (cases_lt j end) [
      | inl early ↦ so_far.ordered i j a b order early at_i at_j
      | inr late ↦ omega (arith, so_far.greatest i a (omega arith) at_i, at_end j b (omega arith) at_j)
    ];
  }

  -- both its ends are marked
  pub marks_more : (nodes : ℕ) (marks : List Bool) → IsWithin nodes here → AreMarks nodes (take end edges) marks → AreMarks nodes (take (end + 1) edges) (with_member (with_member marks here.src) here.dst)
  marks_more nodes marks ends are = record {
    long = length-set first here.dst true ∙ first_long;
    marks_are = λ v below. elim (cases_eq v here.dst) [
      | inl same ↦ ap (has_member (with_member first here.dst)) same ∙ get_or-set_same first here.dst true false (omega (arith, first_long, ends.1)) ∙ sym (is_end_now v (or_right (here.src == v) (here.dst == v) (eq-eqb here.dst v (sym same))))
      | inr other ↦ get_or-set_other first here.dst v true false other ∙ elim (cases_eq v here.src) [
        | inl same ↦ ap (has_member first) same ∙ get_or-set_same marks here.src true false (omega (arith, are.long, ends.0)) ∙ sym (is_end_now v (ap (λ b. b || (here.dst == v)) (eq-eqb here.src v (sym same))))
        | inr another ↦ get_or-set_other marks here.src v true false another ∙ are.marks_are v below ∙ sym (is_end_still v (λ same. another (sym same)) (λ same. other (sym same)))
      ]
    ];
  }
    where
      first : List Bool
      first = with_member marks here.src

      first_long : length first ≡ nodes
      first_long = length-set marks here.src true ∙ are.long

      more : (v : ℕ) → is_end (take (end + 1) edges) v ≡ (is_end (take end edges) v || ((here.src == v) || (here.dst == v)))
      more v = list_any_more (λ edge. edge.src == v || edge.dst == v) edges end (record { src = 0; dst = 0; weight = 0 }) within

      is_end_now : (v : ℕ) → ((here.src == v) || (here.dst == v)) ≡ true → is_end (take (end + 1) edges) v ≡ true
      is_end_now v is = more v ∙ or_right (is_end (take end edges) v) ((here.src == v) || (here.dst == v)) is

      is_end_still : (v : ℕ) → here.src ≢ v → here.dst ≢ v → is_end (take (end + 1) edges) v ≡ is_end (take end edges) v
      is_end_still v source destination =
          more v
          ∙ ap (λ b. is_end (take end edges) v || (b || (here.dst == v))) (ne_eqb here.src v source)
          ∙ ap (λ b. is_end (take end edges) v || b) (ne_eqb here.dst v destination)
          ∙ or_false (is_end (take end edges) v)
