-- What items do to the proxies that they reach.
use Rattle.std.specs.Prelude.{◌≡◌, ◌<◌, ◌≤◌, ◌^◌, ◌==◌, ◌||◌, ℕ, Bool, false, not, if◌then◌else◌, List, length, All}
use Rattle.std.specs.List.{slice_index_or}
use Rattle.list_laws.specs.Members.{has_member}
use Rattle.reduce_laws.specs.ReductionLaws.{Reducer, combined}
use Rattle.reduce_laws.specs.ProgramLaws.{Steps}

-- the head of an arc that is lent is a proxy, and the weight has four bytes
pub record IsLent (proxies : ℕ) (arc : ℕ × ℕ) : Type 0 where
  pub head_known : arc.0 < proxies
  pub weight_fits : arc.1 < 2 ^ 32

-- Whether a proxy has news once an item was combined into its own: as before, where that changed nothing.
-- Else a master has, and so has a mirror that keeps its items; another mirror has where its item is no
-- longer the identity.
abbrev pub has_news : {Item : Type 0} → Reducer Item → (is_master was : Bool) → (old new : Item) → Bool
has_news reducer is_master was old new =
    if reducer.same new old then was else (reducer.keeps || (is_master || not (reducer.same new reducer.identity)))

-- what arcs out of one tail, each a head and a weight, bring to a proxy, where the tail shows this value
abbrev pub brought_by : {Item State Shown : Type 0} → Reducer Item → Steps Item State Shown → Shown → List (ℕ × ℕ) → ℕ → Item
brought_by reducer steps y arcs l = combined reducer (λ arc. if arc.0 == l then steps.along y arc.1 else reducer.identity) arcs

-- Items and news by local number as they are before a round: no mirror has news, and one that keeps
-- nothing has the identity.
pub record Begins {Item : Type 0} (IsItem : Item → Type 0) (reducer : Reducer Item) (masters proxies : ℕ) (items : List Item) (news : List Bool) : Type 0 where
  pub long : length items ≡ proxies
  pub news_long : length news ≡ proxies
  pub values : All IsItem items
  pub no_news : (l : ℕ) → masters ≤ l → has_member news l ≡ false
  pub nothing_kept : reducer.keeps ≡ false → (l : ℕ) (d : Item) → masters ≤ l → l < proxies → slice_index_or items l d ≡ reducer.identity

-- Items and news once this was brought to each proxy. It may be told by a value that is shown where
-- there is none.
pub record Brings {Item Shown : Type 0} (IsItem : Item → Type 0) (reducer : Reducer Item) (masters proxies : ℕ) (brought : Shown → ℕ → Item) (items : List Item) (news : List Bool) (new_items : List Item) (new_news : List Bool) : Type 0 where
  pub is_value : (none : Shown) (l : ℕ) → l < proxies → IsItem (brought none l)
  pub long : length new_items ≡ length items
  pub brings : (l : ℕ) (d : Item) (none : Shown) → l < proxies → slice_index_or new_items l d ≡ reducer.combine (slice_index_or items l d) (brought none l)
  pub news_long : length new_news ≡ length news
  pub grew : (l : ℕ) (d : Item) → masters ≤ l → l < proxies → has_member new_news l ≡ not (reducer.same (slice_index_or new_items l d) (slice_index_or items l d))
  pub untouched : (l : ℕ) (d : Item) → l < masters → has_member new_news l ≡ false
      → (has_member news l ≡ false) × (slice_index_or new_items l d ≡ slice_index_or items l d)
