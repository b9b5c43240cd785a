-- The entries of a packet's form are those of the vertices that it carries.
use Rattle.std.proofs.Common.{◌≡◌, ℕ, zero, suc, ◌+◌, ◌<◌, true, false, Bool, cond, not, ◌&&◌, ◌||◌, ◌==◌, Option, Some, None, List, [], ◌∷◌, length, map, slice_index, refl, sym, ◌∙◌, ap, arith, inl, inr}
use Rattle.std.specs.List.{list_any, zip, range_with_len, items_where_true}
use Rattle.std.proofs.lemmas.Bool.{and_parts}
use Rattle.std.proofs.lemmas.Bool.Decides.{eqb_tells}
use Rattle.list_laws.specs.Members.{members_from}
use Rattle.field_encodings.specs.Forms.{entries}
use Rattle.round_packets.specs.Runs.{shows}
use Rattle.graph_division.specs.Lists.{is_readable, is_writable, is_mirror}
use Rattle.round_packets.specs.Packets.{tag_of, value_for}
use Rattle.round_packets.specs.RunPackets.{broadcast_packet}
use Rattle.round_packets.specs.Laws.{EntriesAreCarried, UntoldIsUnchanged}
use Rattle.graph_division.proofs.Listed.{picked, second_fails, denied}
use Rattle.round_packets.proofs.Shares.{shows_value}

-- the ids from a place on are these
abbrev Continues : List ℕ → ℕ → List ℕ → Type 0
Continues ids place rest = (i : ℕ) → i < length rest → slice_index ids (place + i) ≡ slice_index rest i

-- and one place on they are those after the first
one_on : (ids : List ℕ) (place x : ℕ) (rest : List ℕ) → Continues ids place (x ∷ rest) → Continues ids (place + 1) rest
one_on ids place x rest h i within = ap (slice_index ids) (let e : (place + 1) + i ≡ place + suc i = omega arith in e) ∙ h (suc i) (omega arith)

here : (ids : List ℕ) (place x : ℕ) (rest : List ℕ) → Continues ids place (x ∷ rest) → slice_index ids place ≡ x
here ids place x rest h = ap (slice_index ids) (let e : place ≡ place + 0 = omega arith in e) ∙ h 0 (omega arith)

module _ {X : Type 0} (updated : ℕ → Bool) (value : ℕ → X) (v : ℕ) where
  -- a value, if it is wanted
  wanted : Bool → Option X
  wanted b = cond b (Some (value v)) None

  -- one entry more, which is for x
  step : (ids : List ℕ) (place x : ℕ) (found : List (ℕ × X)) (rest : Bool) → slice_index ids place ≡ x → value_for ids found v ≡ wanted rest → value_for ids ((place, value x) ∷ found) v ≡ wanted ((x == v) || rest)
  unfolding wanted
  step ids place x found rest at before =
      ap (λ n. cond (n == v) (Some (value x)) (value_for ids found v)) at
      ∙ (elim (eqb_tells x v) [
        | inl same ↦ ap (λ b. cond b (Some (value x)) (value_for ids found v)) same.0 ∙ ap (λ n. Some (value n)) same.1 ∙ ap (λ b. cond (b || rest) (Some (value v)) None) (sym same.0)
        | inr other ↦ ap (λ b. cond b (Some (value x)) (value_for ids found v)) other.0 ∙ before ∙ ap (λ b. cond (b || rest) (Some (value v)) None) (sym other.0)
      ])

  -- the entries of the form of all values
  of_all : (ids : List ℕ) (place : ℕ) (rest : List ℕ) → Continues ids place rest → value_for ids (zip (range_with_len place (length (map updated rest))) (map value rest)) v ≡ wanted (list_any (λ id. id == v) rest)
  unfolding wanted
  of_all ids place [] h = refl
  of_all ids place (x ∷ rest) h =
      step ids place x (zip (range_with_len (place + 1) (length (map updated rest))) (map value rest)) (list_any (λ id. id == v) rest) (here ids place x rest h)
      (of_all ids (place + 1) rest (one_on ids place x rest h))

  -- one position more, updated or not
  of_one : (ids : List ℕ) (place x : ℕ) (rest : List ℕ) (b : Bool) → updated x ≡ b → slice_index ids place ≡ x
      → value_for ids (zip (members_from (place + 1) (map updated rest)) (items_where_true (map updated rest) (map value rest))) v ≡ wanted (list_any (λ id. id == v) rest && updated v)
      → value_for ids (zip (members_from place (b ∷ map updated rest)) (items_where_true (b ∷ map updated rest) (value x ∷ map value rest))) v ≡ wanted (((x == v) || list_any (λ id. id == v) rest) && updated v)
  unfolding wanted
  of_one ids place x rest true is at before =
      step ids place x (zip (members_from (place + 1) (map updated rest)) (items_where_true (map updated rest) (map value rest))) (list_any (λ id. id == v) rest && updated v) at before
      ∙ (elim (eqb_tells x v) [
        | inl same ↦ ap (λ b. cond (b || (list_any (λ id. id == v) rest && updated v)) (Some (value v)) None) same.0
            ∙ ap (λ b. cond b (Some (value v)) None) (sym is ∙ ap updated same.1)
            ∙ ap (λ b. cond ((b || list_any (λ id. id == v) rest) && updated v) (Some (value v)) None) (sym same.0)
        | inr other ↦ ap (λ b. cond (b || (list_any (λ id. id == v) rest && updated v)) (Some (value v)) None) other.0
            ∙ ap (λ b. cond ((b || list_any (λ id. id == v) rest) && updated v) (Some (value v)) None) (sym other.0)
      ])
  of_one ids place x rest false is at before =
      before
      ∙ (elim (eqb_tells x v) [
        | inl same ↦ ap (λ b. cond (list_any (λ id. id == v) rest && b) (Some (value v)) None) (sym (ap updated same.1) ∙ is)
            ∙ ap (λ b. cond b (Some (value v)) None) (and_no (list_any (λ id. id == v) rest) ∙ sym (and_no ((x == v) || list_any (λ id. id == v) rest)))
            ∙ ap (λ b. cond (((x == v) || list_any (λ id. id == v) rest) && b) (Some (value v)) None) (sym is ∙ ap updated same.1)
        | inr other ↦ ap (λ b. cond ((b || list_any (λ id. id == v) rest) && updated v) (Some (value v)) None) (sym other.0)
      ])
    where
      and_no : (b : Bool) → (b && false) ≡ false
      and_no true = refl
      and_no false = refl

  -- the entries of the other forms
  of_marked : (ids : List ℕ) (place : ℕ) (rest : List ℕ) → Continues ids place rest → value_for ids (zip (members_from place (map updated rest)) (items_where_true (map updated rest) (map value rest))) v ≡ wanted (list_any (λ id. id == v) rest && updated v)
  unfolding wanted
  of_marked ids place [] h = refl
  of_marked ids place (x ∷ rest) h =
      of_one ids place x rest (updated x) refl (here ids place x rest h) (of_marked ids (place + 1) rest (one_on ids place x rest h))

  -- the entries of the form of any tag
  of_tag : (ids : List ℕ) (tag : ℕ) → value_for ids (entries tag (map updated ids) (map value ids)) v ≡ wanted (list_any (λ id. id == v) ids && (tag == 0 || updated v))
  unfolding wanted
  of_tag ids zero = of_all ids 0 ids (λ i within. ap (slice_index ids) (let e : 0 + i ≡ i = omega arith in e)) ∙ ap (λ b. cond b (Some (value v)) None) (sym (and_yes (list_any (λ id. id == v) ids)))
    where
      and_yes : (b : Bool) → (b && true) ≡ b
      and_yes true = refl
      and_yes false = refl
  of_tag ids (suc tag) = of_marked ids 0 ids (λ i within. ap (slice_index ids) (let e : 0 + i ≡ i = omega arith in e))
      ∙ (elim (eqb_tells (suc tag) 0) [
        | inl same ↦ absurd (let is = same.1 in omega arith)
        | inr other ↦ ap (λ b. cond (list_any (λ id. id == v) ids && (b || updated v)) (Some (value v)) None) (sym other.0)
      ])

pub entries_are_carried : (X : Type 0) → EntriesAreCarried X
unfolding wanted
entries_are_carried X size v packet = of_tag packet.updated packet.value v packet.ids (tag_of size packet)

pub untold_is_unchanged : {Item State Shown : Type 0} (IsItem : Item → Type 0) (IsShown : Shown → Type 0) (IsState : State → Type 0) → UntoldIsUnchanged IsItem IsShown IsState
untold_is_unchanged IsItem IsShown IsState run rounds from to v fact below told untold =
    sym ((fact.program.same_tells (shows run rounds v) (shows run (suc rounds) v) (shows_value run fact rounds v below) (shows_value run fact (suc rounds) v below)).0
    (denied (run.steps.same (shows run rounds v) (shows run (suc rounds) v))
    (second_fails (tag_of run.shown_size (broadcast_packet run rounds from to) == 0) _
    (sym (ap (λ b. b && (tag_of run.shown_size (broadcast_packet run rounds from to) == 0 || not (run.steps.same (shows run rounds v) (shows run (suc rounds) v)))) told) ∙ untold))))
