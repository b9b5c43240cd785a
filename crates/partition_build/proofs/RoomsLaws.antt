-- Edges handed out one after another.
use Rattle.std.proofs.Common.{◌≡◌, ◌≢◌, ℕ, ◌<◌, ◌≤◌, cond, ◌==◌, List, [], ◌∷◌, ◌++◌, length, take, drop, replicate, slice_set, slice_index_or, Vec, Global, refl, sym, ap, ◌∙◌, subst, append_assoc, inl, inr, arith}
use Rattle.std.specs.List.{All, filter}
use Rattle.std.proofs.lemmas.Bool.Decides.{eqb_tells}
use Rattle.std.proofs.lemmas.List.{map-set, take-append-le, take_all, get_or-map, length-map, length-set, get_or-set_same, get_or-set_other, append-nil, get_or-replicate, length-replicate}
use Rattle.std.proofs.lemmas.List.Elements.{All-filter, filter-append}
use Rattle.std.proofs.lemmas.List.Sums.{length-filter, count_by-le-length}
use Rattle.graph_model.specs.declared.edge.Edge.{Edge}
use Rattle.graph_model.specs.Graph.{most_edges, IsWithin}
use Rattle.share_plan.specs.Plan.{Plan, owner_by}
use Rattle.partition_build.specs.Rooms.{owned_by, contents, HandsOut, AreRooms, IsRoom}

module _ (owner : Edge → ℕ) where
  -- nothing is handed out yet
  pub HandsOut-nil : (rooms : List (Vec Edge Global)) → HandsOut owner [] rooms rooms
  HandsOut-nil rooms = record {
    as_many = refl;
    gains = λ host within. sym (append-nil (slice_index_or (contents rooms) host []));
  }

  -- one edge more goes to its owner
  pub HandsOut-more : (edges : List Edge) (edge : Edge) (old mid : List (Vec Edge Global)) (room : Vec Edge Global)
      → owner edge < length mid → room.items ≡ slice_index_or (contents mid) (owner edge) [] ++ edge ∷ []
      → HandsOut owner edges old mid → HandsOut owner (edges ++ edge ∷ []) old (slice_set mid (owner edge) room)
  HandsOut-more edges edge old mid room within fuller so_far = record {
    as_many = length-set mid to room ∙ so_far.as_many;
    gains = λ host here.
        let written : contents (slice_set mid to room) ≡ slice_set (contents mid) to room.items = map-set (λ r. r.items) mid to room in
        let more : owned_by owner host (edges ++ edge ∷ []) ≡ owned_by owner host edges ++ cond (to == host) (edge ∷ []) [] = filter-append (λ e. owner e == host) edges (edge ∷ []) in
        elim (eqb_tells to host) [
          | inl same ↦ (
              let is = same.1 in
              let there : to < length (contents mid) = omega (arith, within, length-map mid (λ r. r.items)) in
              ap (λ rooms. slice_index_or rooms host []) written
              ∙ ap (λ h. slice_index_or (slice_set (contents mid) to room.items) h []) (sym is)
              ∙ get_or-set_same (contents mid) to room.items [] there
              ∙ fuller
              ∙ ap (λ h. slice_index_or (contents mid) h [] ++ edge ∷ []) is
              ∙ ap (λ xs. xs ++ edge ∷ []) (so_far.gains host here)
              ∙ append_assoc (slice_index_or (contents old) host []) (owned_by owner host edges) (edge ∷ [])
              ∙ ap (λ xs. slice_index_or (contents old) host [] ++ xs) (sym (more ∙ ap (λ b. owned_by owner host edges ++ cond b (edge ∷ []) []) same.0)))
          | inr other ↦ (
              let apart : host ≢ to = λ e. other.1 (sym e) in
              ap (λ rooms. slice_index_or rooms host []) written
              ∙ get_or-set_other (contents mid) to host room.items [] apart
              ∙ so_far.gains host here
              ∙ ap (λ xs. slice_index_or (contents old) host [] ++ xs) (sym (more ∙ ap (λ b. owned_by owner host edges ++ cond b (edge ∷ []) []) other.0 ∙ append-nil (owned_by owner host edges))))
        ];
  }
    where
      to : ℕ
      to = owner edge

  -- rooms that were empty hold the edges of their hosts
  pub filled : (edges : List Edge) (count : ℕ) (old new : List (Vec Edge Global)) → contents old ≡ replicate count [] → HandsOut owner edges old new
      → (host : ℕ) → host < count → slice_index_or (contents new) host [] ≡ owned_by owner host edges
  filled edges count old new empty handed host within =
      let long : length old ≡ count = sym (length-map old (λ r. r.items)) ∙ ap (λ (xs : List (List Edge)). length xs) empty ∙ length-replicate count [] in
      handed.gains host (omega (arith, long))
      ∙ ap (λ rooms. slice_index_or rooms host [] ++ owned_by owner host edges) empty
      ∙ ap (λ xs. xs ++ owned_by owner host edges) (get_or-replicate count host [] [] within)

-- local graphs may be made of rooms
pub IsRoom-rooms : (plan : Plan) (nodes : ℕ) (edges : List Edge) (rooms : List (Vec Edge Global)) → length edges ≤ most_edges → All (IsWithin nodes) edges → AreRooms plan edges rooms → All (IsRoom nodes) rooms
IsRoom-rooms plan nodes edges rooms few within are k d below =
    let own = λ (edge : Edge). owner_by plan edge == k in
    let as_many = are.as_many in
    let at : slice_index_or (contents rooms) k [] ≡ (slice_index_or rooms k d).items = get_or-map (λ (r : Vec Edge Global). r.items) rooms k d [] below in
    let is : filter own edges ≡ (slice_index_or rooms k d).items = sym (are.owned k (omega (arith, as_many))) ∙ at in
    record {
      few = subst (λ (xs : List Edge). length xs ≤ most_edges) is (omega (arith, length-filter own edges, count_by-le-length own edges));
      within = subst (λ (xs : List Edge). All (IsWithin nodes) xs) is (All-filter own (IsWithin nodes) edges within);
    }

-- a list that was lent whole is what was written to it
pub written_back : {X : Type 0} (n : ℕ) (new old : List X) → length new ≡ length old → n ≡ length old → take n (new ++ drop (length new) old) ≡ new
written_back n new old same long =
    let within : n ≤ length new = omega arith in
    take-append-le n new (drop (length new) old) within ∙ take_all n new (omega arith)

-- as many rooms as hosts
pub rooms_long : (rooms : List (Vec Edge Global)) (count : ℕ) → contents rooms ≡ replicate count [] → length rooms ≡ count
rooms_long rooms count empty = sym (length-map rooms (λ r. r.items)) ∙ ap (λ (xs : List (List Edge)). length xs) empty ∙ length-replicate count []

-- empty rooms into which all edges were handed out
pub AreRooms-filled : (plan : Plan) (edges : List Edge) (count : ℕ) (old new : List (Vec Edge Global)) → count ≡ plan.hosts → contents old ≡ replicate count [] → HandsOut (owner_by plan) edges old new → AreRooms plan edges new
AreRooms-filled plan edges count old new same empty handed =
    let full : contents old ≡ replicate plan.hosts [] = empty ∙ ap (λ (n : ℕ). replicate n []) same in
    record {
      as_many = handed.as_many ∙ rooms_long old plan.hosts full;
      owned = filled (owner_by plan) edges plan.hosts old new full handed;
    }
