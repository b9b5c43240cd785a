-- Packets that agree have the same bytes.
use Rattle.std.proofs.Common.{◌≡◌, ℕ, Bool, List, [], ◌∷◌, length, map, refl, ◌∙◌, ap}
use Rattle.std.specs.List.{AllByRecursion}
use Rattle.std.proofs.lemmas.List.Elements.{recursion_from_All}
use Rattle.list_laws.specs.Members.{members_from}
use Rattle.field_encodings.specs.Lengths.{greatest_of, sent_tag}
use Rattle.field_encodings.specs.Forms.{form}
use Rattle.round_packets.specs.Packets.{Packet, Agree, marks_of}
use Rattle.round_packets.specs.Laws.{AgreeingHaveSameBytes}

-- what is the same of each element makes the same list
map_each : {A B : Type 0} (f g : A → B) (xs : List A) → AllByRecursion (λ x. f x ≡ g x) xs → map f xs ≡ map g xs
map_each f g [] h = refl
map_each f g (x ∷ xs) h = ap (λ y. y ∷ map f xs) h.0 ∙ ap (λ ys. g x ∷ ys) (map_each f g xs h.1)

-- the bytes of a list of ids, its marks and its values
abbrev bytes_from : {X : Type 0} → ℕ → (X → List ℕ) → List ℕ → List Bool → List X → List ℕ
bytes_from size bytes_of ids marks values =
    form bytes_of (sent_tag (length ids) (length (members_from 0 marks)) (greatest_of (members_from 0 marks)) size) ids marks values

module _ {X : Type 0} (packet other : Packet X) (same : Agree packet other) where
  same_marks : marks_of packet ≡ marks_of other
  same_marks =
      map_each packet.updated other.updated packet.ids (recursion_from_All (λ v. packet.updated v ≡ other.updated v) packet.ids same.updated)
      ∙ ap (map other.updated) same.ids

  same_values : map packet.value packet.ids ≡ map other.value other.ids
  same_values =
      map_each packet.value other.value packet.ids (recursion_from_All (λ v. packet.value v ≡ other.value v) packet.ids same.values)
      ∙ ap (map other.value) same.ids

pub same_bytes : (X : Type 0) → AgreeingHaveSameBytes X
same_bytes X size bytes_of packet other same =
    ap (λ ids. bytes_from size bytes_of ids (marks_of packet) (map packet.value packet.ids)) same.ids
    ∙ ap (λ marks. bytes_from size bytes_of other.ids marks (map packet.value packet.ids)) (same_marks packet other same)
    ∙ ap (λ values. bytes_from size bytes_of other.ids (marks_of other) values) (same_values packet other same)
