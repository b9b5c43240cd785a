-- Lists that have no proxy in common: what is cleared after the packet of one leaves those of the others.
use Rattle.std.proofs.Common.{◌≡◌, ◌≢◌, ℕ, ◌+◌, ◌<◌, ◌≤◌, Bool, true, false, cond, List, [], ◌∷◌, length, take, get_or, Some, arith, refl, sym, ap, ◌∙◌, inl, inr}
use Rattle.std.specs.Prelude.{◌==◌, ◌&&◌, ◌||◌, not, slice_get}
use Rattle.std.specs.List.{cons_option}
use Rattle.std.proofs.lemmas.Bool.{or_right, and_right, cases_eq, cases_lt, eq-eqb, ne_eqb}
use Rattle.std.proofs.lemmas.List.{get_or-take, get_or_past, length-set, length-take-le}
use Rattle.std.proofs.lemmas.List.Elements.{All-from_get_or}
use Rattle.std.proofs.lemmas.List.Folds.{list_any_none, list_any_more}
use Rattle.std.proofs.lemmas.Option.{slice_get-get_or, slice_get_past}
use Rattle.list_laws.specs.Among.{is_among}
use Rattle.list_laws.specs.Members.{has_member, without_member, without_all}
use Rattle.list_laws.proofs.Among.{is_among-first}
use Rattle.list_laws.proofs.Members.{has_member-without_same, has_member-without_other}
use Rattle.address_memo.specs.Memos.{Proxies, list_at, none}
use Rattle.field_encodings.specs.Lists.{marks_at, values_at}
use Rattle.field_encodings.specs.Packets.{Packet, bytes_of_packet}
use Rattle.host_state.specs.Posting.{is_listed}
use Rattle.list_posting.specs.Steps.{packets_of}

-- ---- what a packet shows depends on the list's proxies alone

-- values of equal fields up to what each has at one place
same_element : {X : Type 0} (xs ys : List X) (i : ℕ) → length xs ≡ length ys → ((d : X) → get_or xs i d ≡ get_or ys i d) → slice_get xs i ≡ slice_get ys i
same_element xs [] i long same = slice_get_past xs i (omega arith) ∙ sym (slice_get_past [] i (omega arith))
same_element xs (y ∷ ys) i long same =
    elim (cases_lt i (length xs)) [
      | inl within ↦ slice_get-get_or xs i y within ∙ ap Some (same y) ∙ sym (slice_get-get_or (y ∷ ys) i y (omega arith))
      | inr past ↦ slice_get_past xs i past ∙ sym (slice_get_past (y ∷ ys) i (omega arith))
    ]

same_values : {X : Type 0} (xs ys : List X) (locals : List ℕ) → length xs ≡ length ys
    → ((local : ℕ) (d : X) → is_among locals local ≡ true → get_or xs local d ≡ get_or ys local d) → values_at xs locals ≡ values_at ys locals
same_values xs ys [] long same = refl
same_values xs ys (x ∷ locals) long same =
    ap (λ o. cons_option o (values_at xs locals)) (same_element xs ys x long (λ d. same x d (is_among-first x locals)))
    ∙ ap (λ l. cons_option (slice_get ys x) l) (same_values xs ys locals long (λ local d among. same local d (or_right (x == local) (is_among locals local) among)))

same_marks : (a b : List Bool) (locals : List ℕ) → ((local : ℕ) → is_among locals local ≡ true → has_member a local ≡ has_member b local) → marks_at a locals ≡ marks_at b locals
same_marks a b [] same = refl
same_marks a b (x ∷ locals) same =
    ap (λ m. m ∷ marks_at a locals) (same x (is_among-first x locals))
    ∙ ap (λ l. has_member b x ∷ l) (same_marks a b locals (λ local among. same local (or_right (x == local) (is_among locals local) among)))

-- ---- lists that are apart

-- no proxy of a list is in one of the lists before
not_yet_listed : (lists : List Proxies) (peer local : ℕ) → peer ≤ length lists
    → ((p other l : ℕ) → p ≢ other → is_among (list_at lists p).locals l ≡ true → is_among (list_at lists other).locals l ≡ false)
    → is_among (list_at lists peer).locals local ≡ true → is_listed (take peer lists) local ≡ false
not_yet_listed lists peer local within apart among =
    list_any_none (λ list. is_among list.locals local) (take peer lists)
    (All-from_get_or (λ list. is_among list.locals local ≡ false) (take peer lists) none (λ i below.
    let before : i < peer = omega (arith, length-take-le peer lists within) in
    let at : get_or (take peer lists) i none ≡ list_at lists i = get_or-take peer lists i none before in
    let other : peer ≢ i = λ e. omega arith in
    ap (λ (list : Proxies). is_among list.locals local) at ∙ apart peer i local other among))

-- one more list
listed_more : (lists : List Proxies) (peer local : ℕ) → peer < length lists
    → is_listed (take (peer + 1) lists) local ≡ (is_listed (take peer lists) local || is_among (list_at lists peer).locals local)
listed_more lists peer local within = list_any_more (λ list. is_among list.locals local) lists peer none within

-- ---- what clearing does

all_stay : (m : Bool) → m ≡ (m && not false)
all_stay true = refl
all_stay false = refl

out_here : (bits : List Bool) (x k : ℕ) → x ≡ k → has_member (without_member bits x) k ≡ false
out_here bits x k same =
    elim (cases_lt x (length bits)) [
      | inl within ↦ ap (λ n. has_member (without_member bits x) n) (sym same) ∙ has_member-without_same bits x within
      | inr past ↦ get_or_past (without_member bits x) k false (omega (arith, length-set bits x false))
    ]

-- a set without the numbers of a list
pub has_member-without_all : (bits : List Bool) (numbers : List ℕ) (k : ℕ) → has_member (without_all bits numbers) k ≡ (has_member bits k && not (is_among numbers k))
has_member-without_all bits [] k = all_stay (has_member bits k)
has_member-without_all bits (x ∷ numbers) k =
    let among = is_among numbers k in
    let rest = has_member-without_all (without_member bits x) numbers k in
    elim (cases_eq x k) [
      | inl same ↦ rest ∙ ap (λ m. m && not among) (out_here bits x k same)
          ∙ sym (and_right (has_member bits k) (not (x == k || among)) (ap (λ b. not (b || among)) (eq-eqb x k same)))
      | inr other ↦ rest ∙ ap (λ m. m && not among) (has_member-without_other bits x k (λ e. other (sym e)))
          ∙ sym (ap (λ b. has_member bits k && not (b || among)) (ne_eqb x k other))
    ]

pub length-without_all : (bits : List Bool) (numbers : List ℕ) → length (without_all bits numbers) ≡ length bits
length-without_all bits [] = refl
length-without_all bits (x ∷ numbers) = length-without_all (without_member bits x) numbers ∙ length-set bits x false

out_of_both : (m listed among : Bool) → ((m && not listed) && not among) ≡ (m && not (listed || among))
out_of_both false listed among = refl
out_of_both true true among = refl
out_of_both true false among = refl

-- what is out of the lists before and then out of one more is out of all of them
pub cleared_more : (lists : List Proxies) (peer local : ℕ) (was now later : Bool) → peer < length lists
    → now ≡ (was && not (is_listed (take peer lists) local)) → later ≡ (now && not (is_among (list_at lists peer).locals local))
    → later ≡ (was && not (is_listed (take (peer + 1) lists) local))
cleared_more lists peer local was now later within before after =
    let among = is_among (list_at lists peer).locals local in
    after
    ∙ ap (λ m. m && not among) before
    ∙ out_of_both was (is_listed (take peer lists) local) among
    ∙ sym (ap (λ listed. was && not listed) (listed_more lists peer local within))

back_in_turn : {X : Type 0} (listed among resets : Bool) (identity x : X)
    → cond (among && resets) identity (cond (listed && resets) identity x) ≡ cond ((listed || among) && resets) identity x
back_in_turn true true true identity x = refl
back_in_turn true true false identity x = refl
back_in_turn true false true identity x = refl
back_in_turn true false false identity x = refl
back_in_turn false among resets identity x = refl

-- and what is set back with the lists before and then with one more is set back with all of them
pub kept_more : {X : Type 0} (lists : List Proxies) (peer local : ℕ) (resets : Bool) (identity was now later : X) → peer < length lists
    → now ≡ cond (is_listed (take peer lists) local && resets) identity was → later ≡ cond (is_among (list_at lists peer).locals local && resets) identity now
    → later ≡ cond (is_listed (take (peer + 1) lists) local && resets) identity was
kept_more lists peer local resets identity was now later within before after =
    let among = is_among (list_at lists peer).locals local in
    after
    ∙ ap (λ x. cond (among && resets) identity x) before
    ∙ back_in_turn (is_listed (take peer lists) local) among resets identity was
    ∙ sym (ap (λ listed. cond (listed && resets) identity was) (listed_more lists peer local within))

-- the packet of a list is the same once those of the lists before are sent and cleared
pub same_packet : {X : Type 0} (size : ℕ) (bytes_of : X → List ℕ) (lists : List Proxies) (peer : ℕ) (resets : Bool) (identity : X) (old new : List X) (was now : List Bool)
    → peer ≤ length lists
    → ((p other l : ℕ) → p ≢ other → is_among (list_at lists p).locals l ≡ true → is_among (list_at lists other).locals l ≡ false)
    → length new ≡ length old
    → ((local : ℕ) → has_member now local ≡ (has_member was local && not (is_listed (take peer lists) local)))
    → ((local : ℕ) (d : X) → get_or new local d ≡ cond (is_listed (take peer lists) local && resets) identity (get_or old local d))
    → packets_of size bytes_of lists new now peer ≡ packets_of size bytes_of lists old was peer
same_packet {X} size bytes_of lists peer resets identity old new was now within apart long cleared kept =
    let list = list_at lists peer in
    let not_yet : (local : ℕ) → is_among list.locals local ≡ true → is_listed (take peer lists) local ≡ false
    = λ local among. not_yet_listed lists peer local within apart among in
    let values : values_at new list.locals ≡ values_at old list.locals
    = same_values new old list.locals long (λ local d among. kept local d ∙ ap (λ b. cond (b && resets) identity (get_or old local d)) (not_yet local among)) in
    let marks : marks_at now list.locals ≡ marks_at was list.locals
    = same_marks now was list.locals (λ local among. cleared local ∙ ap (λ b. has_member was local && not b) (not_yet local among) ∙ sym (all_stay (has_member was local))) in
    ap (λ vs. let packet : Packet X = record { ids = list.globals; marks = marks_at now list.locals; values = vs } in bytes_of_packet size bytes_of packet) values
    ∙ ap (λ ms. let packet : Packet X = record { ids = list.globals; marks = ms; values = values_at old list.locals } in bytes_of_packet size bytes_of packet) marks
