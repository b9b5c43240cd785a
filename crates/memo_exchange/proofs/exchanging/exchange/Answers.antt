use Rattle.std.proofs.Common.{◌≡◌, ◌<◌, ◌++◌, ℕ, List, map, length, slice_get, Some, vec_len, sym, refl, ap, subst, ◌∙◌, arith}
use Rattle.std.specs.Prelude.{option_map}
use Rattle.std.specs.List.{flat_map}
use Rattle.std.proofs.lemmas.Bool.{eqb-true, eqb-false}
use Rattle.std.proofs.lemmas.List.{nil_from_length, with_items_is}
use Rattle.std.proofs.lemmas.List.Edits.{length-remove}
use Rattle.std.proofs.lemmas.Option.{slice_get-get_or}
use Rattle.address_memo.specs.Memos.{Memos, opened}
use Rattle.memo_exchange.specs.Asks.{asked_after}
use Rattle.memo_exchange.specs.Letters.{Sent, letters_of}
use Rattle.memo_exchange.specs.Delivery.{CanDeliver, Delivers}
use Rattle.memo_exchange.proofs.Asking.{asked_once, asked_never}
use Rattle.memo_exchange.proofs.Underway.{IsUnderway, can_deliver, delivered}
use Rattle.memo_exchange.proofs.Start.{underway_first, underway_over, letters_in_all, few_letters}
use Rattle.memo_exchange.proofs.exchanging.exchange.Goals as goal

pub loop-alloc-init : goal.loop-alloc-init
loop-alloc-init g c =
    let mail : c.open_all.new.mail.items ≡ flat_map (letters_of c.args.way) c.args.graphs.now = c.in_ok-memos.ensures.mail ∙ ap (λ (l : List Sent). l ++ flat_map (letters_of c.args.way) c.args.graphs.now) c.new-mail.ensures.items in
    let many = ap (λ (l : List Sent). length l) mail in
    record {
      underway = subst (λ (l : List Memos). IsUnderway c.args.way c.args.graphs.now l c.open_all.new.mail.items) (sym c.in_ok-memos.ensures.memos)
          (subst (λ (l : List Sent). IsUnderway c.args.way c.args.graphs.now (map (opened c.args.way) c.args.graphs.now) l) (sym mail) (underway_first c.args.way c.args.graphs.now c.requires));
      few = let few = few_letters c.args.way c.args.graphs.now c.requires in omega arith;
      asked = ap (λ n. option_map (asked_after n) (g.K.Picker.asked c.args.picker.now)) (many ∙ letters_in_all c.args.way c.args.graphs.now c.requires);
      begun = refl;
    }

pub place_by_pick-place-requires-clause-some : goal.place_by_pick-place-requires-clause-some
place_by_pick-place-requires-clause-some g c =
    let some = eqb-false (vec_len c.loop-alloc.mail) 0 (sym c.is_empty.ensures ∙ c.loop-alloc-test.true) in
    let count = c.len.ensures in
    omega arith

pub place_by_pick-place-requires-clause-few : goal.place_by_pick-place-requires-clause-few
place_by_pick-place-requires-clause-few g c = let few = c.loop-alloc.invariant.few in let count = c.len.ensures in omega arith

pub deliver-requires : goal.deliver-requires
deliver-requires g c =
    let count = c.len.ensures in
    let below = c.place_by_pick-place.ensures.within in
    let place : ℕ = c.place_by_pick-place.result in
    let within : place < length c.loop-alloc.mail.items = omega arith in
    let at : slice_get c.loop-alloc.mail.items place ≡ Some c.remove-letter.result = slice_get-get_or c.loop-alloc.mail.items place c.remove-letter.result within ∙ ap (λ (s : Sent). Some s) (sym c.remove-letter.ensures.value) in
    subst (λ (l : List Memos). CanDeliver c.args.graphs.now l c.remove-letter.result) (sym c.deref_mut.ensures.value)
    (can_deliver c.args.way c.args.graphs.now c.requires c.loop-alloc.memos.items c.loop-alloc.mail.items c.loop-alloc.invariant.underway place c.remove-letter.result at)

pub loop-alloc-preserved : goal.loop-alloc-preserved
loop-alloc-preserved g c =
    let count = c.len.ensures in
    let below = c.place_by_pick-place.ensures.within in
    let place : ℕ = c.place_by_pick-place.result in
    let within : place < length c.loop-alloc.mail.items = omega arith in
    let at : slice_get c.loop-alloc.mail.items place ≡ Some c.remove-letter.result = slice_get-get_or c.loop-alloc.mail.items place c.remove-letter.result within ∙ ap (λ (s : Sent). Some s) (sym c.remove-letter.ensures.value) in
    let done : Delivers c.args.graphs.now c.loop-alloc.memos.items c.deliver.new.memos c.remove-letter.result
    = subst (λ (l : List Memos). Delivers c.args.graphs.now l c.deliver.new.memos c.remove-letter.result) c.deref_mut.ensures.value c.in_ok-deliver.ensures in
    let after = delivered c.args.way c.args.graphs.now c.requires c.loop-alloc.memos.items c.loop-alloc.mail.items c.loop-alloc.invariant.underway place c.remove-letter.result at c.deliver.new.memos done in
    let before = c.loop-alloc.invariant.underway.each in
    let long = after.each in
    let same = c.deref_mut.ensures.len in
    let value = ap (λ (l : List Memos). length l) c.deref_mut.ensures.value in
    let memos = with_items_is c.loop-alloc.memos c.deliver.new.memos (omega arith) in
    let fewer = length-remove c.loop-alloc.mail.items place within in
    let rest = ap (λ (l : List Sent). length l) c.remove-letter.ensures.items in
    record {
      underway = subst (λ (l : List Memos). IsUnderway c.args.way c.args.graphs.now l c.remove-letter.new.self.items) (sym memos)
          (subst (λ (l : List Sent). IsUnderway c.args.way c.args.graphs.now c.deliver.new.memos l) (sym c.remove-letter.ensures.items) after);
      few = let few = c.loop-alloc.invariant.few in omega arith;
      asked = asked_once (length c.loop-alloc.mail.items) (length c.remove-letter.new.self.items) (g.K.Picker.asked c.loop-alloc.picker) (g.K.Picker.asked c.place_by_pick-place.new.picker) c.place_by_pick-place.ensures.asked (omega arith) ∙ c.loop-alloc.invariant.asked;
      begun = c.place_by_pick-place.ensures.begun ∙ c.loop-alloc.invariant.begun;
    }

pub returns-in_err-deliver-clause-begun : goal.returns-in_err-deliver-clause-begun
returns-in_err-deliver-clause-begun g c = c.place_by_pick-place.ensures.begun ∙ c.loop-alloc.invariant.begun

pub returns-clause-memos : goal.returns-clause-memos
returns-clause-memos g c =
    let empty = eqb-true (vec_len c.loop-alloc.mail) 0 (sym c.is_empty.ensures ∙ c.loop-alloc-test.false) in
    let none : length c.loop-alloc.mail.items ≡ 0 = omega arith in
    underway_over c.args.way c.args.graphs.now c.requires c.loop-alloc.memos.items c.loop-alloc.mail.items (nil_from_length c.loop-alloc.mail.items none) c.loop-alloc.invariant.underway

pub returns-clause-asked : goal.returns-clause-asked
returns-clause-asked g c =
    let empty = eqb-true (vec_len c.loop-alloc.mail) 0 (sym c.is_empty.ensures ∙ c.loop-alloc-test.false) in
    let none : length c.loop-alloc.mail.items ≡ 0 = omega arith in
    sym (asked_never (g.K.Picker.asked c.loop-alloc.picker)) ∙ ap (λ n. option_map (asked_after n) (g.K.Picker.asked c.loop-alloc.picker)) (sym none) ∙ c.loop-alloc.invariant.asked

pub returns-clause-begun : goal.returns-clause-begun
returns-clause-begun g c = c.loop-alloc.invariant.begun
