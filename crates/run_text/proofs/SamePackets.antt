-- Packets that agree have the same bytes, also where their values are written by two functions that write
-- these alike.
use Rattle.std.proofs.Common.{◌≡◌, ℕ, zero, suc, Bool, true, false, List, [], ◌∷◌, ◌++◌, map, refl, ◌∙◌, ap}
use Rattle.std.specs.List.{flat_map, items_where_true}
use Rattle.field_encodings.specs.Forms.{names, sent}
use Rattle.round_packets.specs.Packets.{Packet, Agree, marks_of, tag_of, bytes_of_packet}
use Rattle.round_packets.proofs.SameBytes.{same_bytes}

module _ {X : Type 0} (f g : X → List ℕ) (value : ℕ → X) (alike : (v : ℕ) → f (value v) ≡ g (value v)) where
  -- all values are written alike
  all_alike : (ids : List ℕ) → flat_map f (map value ids) ≡ flat_map g (map value ids)
  all_alike [] = refl
  all_alike (id ∷ ids) =
      ap (λ text. text ++ flat_map f (map value ids)) (alike id) ∙ ap (λ text. g (value id) ++ text) (all_alike ids)

  -- and so are those that are marked
  marked_alike : (marks : List Bool) (ids : List ℕ) → flat_map f (items_where_true marks (map value ids)) ≡ flat_map g (items_where_true marks (map value ids))
  marked_alike [] ids = refl
  marked_alike (mark ∷ marks) [] = refl
  marked_alike (true ∷ marks) (id ∷ ids) =
      ap (λ text. text ++ flat_map f (items_where_true marks (map value ids))) (alike id) ∙ ap (λ text. g (value id) ++ text) (marked_alike marks ids)
  marked_alike (false ∷ marks) (id ∷ ids) = marked_alike marks ids

  -- and those that a form carries
  sent_alike : (tag : ℕ) (marks : List Bool) (ids : List ℕ) → flat_map f (sent tag marks (map value ids)) ≡ flat_map g (sent tag marks (map value ids))
  sent_alike zero marks ids = all_alike ids
  sent_alike (suc more) marks ids = marked_alike marks ids

pub same_packet : {X : Type 0} (size : ℕ) (f g : X → List ℕ) (packet other : Packet X) → ((v : ℕ) → f (other.value v) ≡ g (other.value v)) → Agree packet other → bytes_of_packet size f packet ≡ bytes_of_packet size g other
same_packet {X} size f g packet other alike agree =
    same_bytes X size f packet other agree
    ∙ ap (λ text. tag_of size other ∷ (names (tag_of size other) other.ids (marks_of other) ++ text))
    (sent_alike f g other.value alike (tag_of size other) (marks_of other) other.ids)
