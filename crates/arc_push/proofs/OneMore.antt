-- One item more reaches a proxy: what was brought, and who has news.
use Rattle.std.proofs.Common.{◌≡◌, ◌≢◌, ℕ, ◌<◌, ◌≤◌, Bool, true, false, not, cond, ◌||◌, ◌==◌, ltb, List, length, get_or, set, refl, sym, ap, subst, ◌∙◌, arith, inl, inr}
use Rattle.std.proofs.lemmas.Bool.{true≢false, cases_Bool, or_right, cases_eq, eq-eqb, ne_eqb, lt-ltb, le-ltb, false_from_ne_true}
use Rattle.std.proofs.lemmas.List.{get_or-set_other, length-set}
use Rattle.std.proofs.lemmas.Grind.{get_or-set_at}
use Rattle.list_laws.specs.Members.{has_member}
use Rattle.reduce_laws.specs.ReductionLaws.{Reducer, ReductionLaws}
use Rattle.reduce_laws.proofs.Combining.{value_or_identity, combine_identity}
use Rattle.arc_push.specs.Pushing.{has_news, Begins, Brings}

module _ {Item : Type 0} {IsItem : Item → Type 0} {reducer : Reducer Item} (laws : ReductionLaws IsItem reducer) where
  -- where items are kept, an item that changed does not come back
  stays_changed : reducer.keeps ≡ true → (s b x : Item) → IsItem s → IsItem b → IsItem x → reducer.combine (reducer.combine s b) x ≡ s → reducer.combine s b ≡ s
  stays_changed keeps s b x hs hb hx back =
      let t : Item = reducer.combine s b in
      let ht : IsItem t = laws.combine_is_value s b hs hb in
      let again : reducer.combine t b ≡ t = laws.combine_assoc s b b hs hb hb ∙ ap (reducer.combine s) (laws.combine_itself keeps b hb) in
      ap (λ z. reducer.combine z b) (sym back)
      ∙ laws.combine_assoc t x b ht hx hb
      ∙ ap (reducer.combine t) (laws.combine_comm x b hx hb)
      ∙ sym (laws.combine_assoc t b x ht hb hx)
      ∙ ap (λ z. reducer.combine z x) again
      ∙ back

  same_items : (x y : Item) → IsItem x → IsItem y → x ≡ y → reducer.same x y ≡ true
  same_items x y hx hy e = (laws.same_tells x y hx hy).1 e

  -- so it differs from what it was at first where it differed before or differs from before
  change_stays : reducer.keeps ≡ true → (s b x : Item) → IsItem s → IsItem b → IsItem x → (not (reducer.same (reducer.combine s b) s) || not (reducer.same (reducer.combine (reducer.combine s b) x) (reducer.combine s b))) ≡ not (reducer.same (reducer.combine (reducer.combine s b) x) s)
  change_stays keeps s b x hs hb hx =
      let t : Item = reducer.combine s b in
      let n : Item = reducer.combine t x in
      let ht : IsItem t = laws.combine_is_value s b hs hb in
      let hn : IsItem n = laws.combine_is_value t x ht hx in
      elim (cases_Bool (reducer.same t s)) [
        | inl e ↦ ap (λ z. not z || not (reducer.same n t)) e ∙ ap (λ z. not (reducer.same n z)) ((laws.same_tells t s ht hs).0 e)
        | inr e ↦ ap (λ z. not z || not (reducer.same n t)) e
            ∙ sym (ap not (false_from_ne_true (reducer.same n s) (λ back.
            true≢false (sym (same_items t s ht hs (stays_changed keeps s b x hs hb hx ((laws.same_tells n s hn hs).0 back))) ∙ e))))
      ]

  module _ (masters proxies : ℕ) (start : List Item) (first : List Bool) (begins : Begins IsItem reducer masters proxies start first) where
    start_value : (l : ℕ) (d : Item) → l < proxies → IsItem (get_or start l d)
    start_value l d within = begins.values l d (let long = begins.long in omega arith)

    -- what was brought may be said in another way
    pub said_otherwise : {Shown : Type 0} (brought other : Shown → ℕ → Item) (items : List Item) (news : List Bool) → ((none : Shown) (l : ℕ) → l < proxies → IsItem (other none l)) → ((none : Shown) (l : ℕ) → l < proxies → brought none l ≡ other none l)
        → Brings IsItem reducer masters proxies brought start first items news → Brings IsItem reducer masters proxies other start first items news
    said_otherwise brought other items news values agree done = record {
      is_value = values;
      long = done.long;
      brings = λ l d none within. done.brings l d none within ∙ ap (reducer.combine (get_or start l d)) (agree none l within);
      news_long = done.news_long;
      grew = done.grew;
      untouched = done.untouched;
    }

    -- before a round nothing was brought
    pub nothing_brought : {Shown : Type 0} (brought : Shown → ℕ → Item) → ((none : Shown) (l : ℕ) → l < proxies → brought none l ≡ reducer.identity) → Brings IsItem reducer masters proxies brought start first start first
    nothing_brought brought nothing = record {
      is_value = λ none l within. (let P : Item → Type 0 = IsItem in subst P (sym (nothing none l within)) laws.identity_is_value);
      long = refl;
      brings = λ l d none within. sym (ap (reducer.combine (get_or start l d)) (nothing none l within) ∙ combine_identity laws (get_or start l d) (start_value l d within));
      news_long = refl;
      grew = λ l d mirror within. begins.no_news l mirror ∙ sym (ap not (same_items (get_or start l d) (get_or start l d) (start_value l d within) (start_value l d within) refl));
      untouched = λ l d master none. (none, refl);
    }

    module _ {Shown : Type 0} (before : Shown → ℕ → Item) (items : List Item) (news : List Bool) (done : Brings IsItem reducer masters proxies before start first items news)
        (y : Shown) (head : ℕ) (item : Item) (within : head < proxies) (is_item : IsItem item) (new_items : List Item) (new_news : List Bool)
        (wrote : (d : Item) → new_items ≡ set items head (reducer.combine (get_or items head d) item))
        (marked : (d : Item) → new_news ≡ set news head (has_news reducer (ltb head masters) (has_member news head) (get_or items head d) (reducer.combine (get_or items head d) item))) where
      has_item : head < length items
      has_item = omega (arith, done.long, begins.long)

      has_bit : head < length news
      has_bit = omega (arith, done.news_long, begins.news_long)

      -- each item is a value so far
      had_value : (l : ℕ) (d : Item) → l < proxies → IsItem (get_or items l d)
      had_value l d known =
          let P : Item → Type 0 = IsItem in
          subst P (sym (done.brings l d y known)) (laws.combine_is_value (get_or start l d) (before y l) (start_value l d known) (done.is_value y l known))

      -- what was brought to a proxy, with the item
      abbrev after : Shown → ℕ → Item
      after none l = reducer.combine (before none l) (cond (head == l) item reducer.identity)

      here : (l : ℕ) (d : Item) → l ≡ head → get_or new_items l d ≡ reducer.combine (get_or items l d) item
      here l d same = ap (λ xs. get_or xs l d) (wrote d) ∙ get_or-set_at items head l (reducer.combine (get_or items head d) item) d same has_item
          ∙ ap (λ k. reducer.combine (get_or items k d) item) (sym same)

      there : (l : ℕ) (d : Item) → l ≢ head → get_or new_items l d ≡ get_or items l d
      there l d apart = ap (λ xs. get_or xs l d) (wrote d) ∙ get_or-set_other items head l (reducer.combine (get_or items head d) item) d apart

      news_here : (l : ℕ) (d : Item) → l ≡ head → has_member new_news l ≡ has_news reducer (ltb l masters) (has_member news l) (get_or items l d) (reducer.combine (get_or items l d) item)
      news_here l d same = ap (λ xs. get_or xs l false) (marked d) ∙ get_or-set_at news head l _ false same has_bit
          ∙ ap (λ k. has_news reducer (ltb k masters) (has_member news k) (get_or items k d) (reducer.combine (get_or items k d) item)) (sym same)

      news_there : (l : ℕ) → l ≢ head → has_member new_news l ≡ has_member news l
      news_there l apart = ap (λ xs. get_or xs l false) (marked reducer.identity) ∙ get_or-set_other news head l _ false apart

      brings_after : (l : ℕ) (d : Item) (none : Shown) → l < proxies → get_or new_items l d ≡ reducer.combine (get_or start l d) (after none l)
      brings_after l d none known = elim (cases_eq head l) [
        | inl same ↦ here l d (sym same) ∙ ap (λ z. reducer.combine z item) (done.brings l d none known)
            ∙ laws.combine_assoc (get_or start l d) (before none l) item (start_value l d known) (done.is_value none l known) is_item
            ∙ sym (ap (λ b. reducer.combine (get_or start l d) (reducer.combine (before none l) (cond b item reducer.identity))) (eq-eqb head l same))
        | inr other ↦ there l d (λ e. other (sym e)) ∙ done.brings l d none known
            ∙ ap (reducer.combine (get_or start l d)) (sym (combine_identity laws (before none l) (done.is_value none l known)))
            ∙ sym (ap (λ b. reducer.combine (get_or start l d) (reducer.combine (before none l) (cond b item reducer.identity))) (ne_eqb head l other))
      ]

      -- where the item changes nothing, its proxy has what it had, and news as before
      same_before : (l : ℕ) (d : Item) → l < proxies → reducer.same (reducer.combine (get_or items l d) item) (get_or items l d) ≡ true → reducer.combine (get_or items l d) item ≡ get_or items l d
      same_before l d known same =
          let value : IsItem (get_or items l d) = had_value l d known in
          (laws.same_tells (reducer.combine (get_or items l d) item) (get_or items l d) (laws.combine_is_value (get_or items l d) item value is_item) value).0 same

      -- a mirror's news are right after the item
      grew_here : (l : ℕ) (d : Item) → l ≡ head → masters ≤ l → l < proxies → has_member new_news l ≡ not (reducer.same (get_or new_items l d) (get_or start l d))
      grew_here l d same mirror known =
          let old : Item = get_or items l d in
          let new : Item = reducer.combine old item in
          news_here l d same
          ∙ ap (λ b. has_news reducer b (has_member news l) old new) (le-ltb l masters mirror)
          ∙ (elim (cases_Bool (reducer.same new old)) [
            | inl stays ↦
                ap (λ b. cond b (has_member news l) (reducer.keeps || not (reducer.same new reducer.identity))) stays
                ∙ done.grew l d mirror known
                ∙ sym (ap (λ t. not (reducer.same t (get_or start l d))) (same_before l d known stays))
            | inr changes ↦
                ap (λ b. cond b (has_member news l) (reducer.keeps || not (reducer.same new reducer.identity))) changes
                ∙ (elim (cases_Bool reducer.keeps) [
                  | inl keeps ↦
                      ap (λ b. b || not (reducer.same new reducer.identity)) keeps
                      ∙ sym (ap (λ b. not (reducer.same old (get_or start l d)) || not b) changes ∙ or_right (not (reducer.same old (get_or start l d))) true refl)
                      ∙ ap (λ t. not (reducer.same t (get_or start l d)) || not (reducer.same (reducer.combine t item) t)) (done.brings l d y known)
                      ∙ change_stays keeps (get_or start l d) (before y l) item (start_value l d known) (done.is_value y l known) is_item
                      ∙ sym (ap (λ t. not (reducer.same (reducer.combine t item) (get_or start l d))) (done.brings l d y known))
                  | inr forgets ↦
                      ap (λ b. b || not (reducer.same new reducer.identity)) forgets
                      ∙ ap (λ s. not (reducer.same new s)) (sym (begins.nothing_kept forgets l d mirror known))
                ])
          ])
          ∙ sym (ap (λ n. not (reducer.same n (get_or start l d))) (here l d same))

      -- a master without news has what it had
      untouched_here : (l : ℕ) (d : Item) → l ≡ head → l < masters → l < proxies → has_member new_news l ≡ false
          → (has_member first l ≡ false) × (get_or new_items l d ≡ get_or start l d)
      untouched_here l d same master known none =
          let old : Item = get_or items l d in
          let new : Item = reducer.combine old item in
          let told : has_news reducer true (has_member news l) old new ≡ false
          = ap (λ b. has_news reducer b (has_member news l) old new) (sym (lt-ltb l masters master)) ∙ sym (news_here l d same) ∙ none in
          elim (cases_Bool (reducer.same new old)) [
            | inl stays ↦
                let was = done.untouched l d master (sym (ap (λ b. cond b (has_member news l) (reducer.keeps || true)) stays) ∙ told) in
                (was.0, here l d same ∙ same_before l d known stays ∙ was.1)
            | inr changes ↦
                absurd (true≢false (sym (or_right reducer.keeps true refl) ∙ sym (ap (λ b. cond b (has_member news l) (reducer.keeps || true)) changes) ∙ told))
          ]

      -- so they are right for all
      pub one_more : Brings IsItem reducer masters proxies after start first new_items new_news
      one_more = record {
        is_value = λ none l known. laws.combine_is_value (before none l) (cond (head == l) item reducer.identity) (done.is_value none l known) (value_or_identity laws (head == l) item is_item);
        long = ap length (wrote reducer.identity) ∙ length-set items head _ ∙ done.long;
        brings = brings_after;
        news_long = ap length (marked reducer.identity) ∙ length-set news head _ ∙ done.news_long;
        grew = λ l d mirror known. elim (cases_eq l head) [
          | inl same ↦ grew_here l d same mirror known
          | inr apart ↦ news_there l apart ∙ done.grew l d mirror known ∙ sym (ap (λ n. not (reducer.same n (get_or start l d))) (there l d apart))
        ];
        untouched = λ l d master none. elim (cases_eq l head) [
          | inl same ↦ untouched_here l d same master (subst (λ k. k < proxies) (sym same) within) none
          | inr apart ↦ let was = done.untouched l d master (sym (news_there l apart) ∙ none) in (was.0, there l d apart ∙ was.1)
        ];
      }
