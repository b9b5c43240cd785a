-- Laws of the sources that entries give, and of the last entry.
use Rattle.std.proofs.Common.{◌≡◌, ℕ, zero, suc, ◌+◌, ◌-◌, ◌<◌, ◌≤◌, cond, nat_lt, All, List, [], ◌∷◌, ◌++◌, length, take, replicate, count_by, slice_index, get_or, refl, sym, ap, ◌∙◌, arith, add-one, append_assoc, length-append}
use Rattle.std.proofs.lemmas.Bool.{lt-ltb, le-ltb}
use Rattle.std.proofs.lemmas.List.{append-nil, length-replicate, length-take-le, take_all, take_more}
use Rattle.std.proofs.lemmas.List.Elements.{All-nil, All-append, All-replicate}
use Rattle.std.proofs.lemmas.List.Sums.{sum_by-cons, sum_by-append}
use Rattle.list_laws.specs.Rising.{NeverFalls}
use Rattle.list_laws.proofs.Rising.{NeverFalls-lower, NeverFalls-replicate}
use Rattle.edge_columns.specs.Columns.{last_entry, sources, sources_by}

-- the last of two lists
pub last_entry-append : (before : ℕ) (xs ys : List ℕ) → last_entry before (xs ++ ys) ≡ last_entry (last_entry before xs) ys
last_entry-append before [] ys = refl
last_entry-append before (x ∷ xs) ys = last_entry-append x xs ys

-- where none falls, one more is no lower than the last
pub last_entry-le : (before : ℕ) (xs : List ℕ) (x : ℕ) → NeverFalls before (xs ++ x ∷ []) → last_entry before xs ≤ x
last_entry-le before [] x rises = rises.0
last_entry-le before (y ∷ xs) x rises = last_entry-le y xs x rises.1

-- none falls in a front
pub NeverFalls-take : (low k : ℕ) (xs : List ℕ) → NeverFalls low xs → NeverFalls low (take k xs)
NeverFalls-take low zero xs rises = tt
NeverFalls-take low (suc k) [] rises = tt
NeverFalls-take low (suc k) (x ∷ xs) rises = (rises.0, NeverFalls-take x k xs rises.1)

-- sources do not fall
pub sources-rise : (node before : ℕ) (entries : List ℕ) → NeverFalls node (sources node before entries)
sources-rise node before [] = tt
sources-rise node before (entry ∷ entries) =
    NeverFalls-replicate node (entry - before) (sources (node + 1) entry entries) (NeverFalls-lower node (node + 1) (sources (node + 1) entry entries) (omega arith) (sources-rise (node + 1) entry entries))

-- there is an entry for each source
pub sources-below : (node before high : ℕ) (entries : List ℕ) → node + length entries ≤ high → All (λ s. s < high) (sources node before entries)
sources-below node before high [] fits = All-nil (λ s. s < high)
sources-below node before high (entry ∷ entries) fits =
    All-append (λ s. s < high) (replicate (entry - before) node) (sources (node + 1) entry entries)
    (All-replicate (λ s. s < high) (entry - before) node (omega arith)) (sources-below (node + 1) entry high entries (omega arith))

-- there are as many sources as the last entry says
pub length-sources : (node before : ℕ) (entries : List ℕ) → NeverFalls before entries → before + length (sources node before entries) ≡ last_entry before entries
length-sources node before [] rises = omega arith
length-sources node before (entry ∷ entries) rises =
    omega (arith, rises.0, length-append (replicate (entry - before) node) (sources (node + 1) entry entries), length-replicate (entry - before) node, length-sources (node + 1) entry entries rises.1)

-- the sources of one entry more
pub sources-push : (node before entry : ℕ) (entries : List ℕ) → sources node before (entries ++ entry ∷ []) ≡ sources node before entries ++ replicate (entry - last_entry before entries) (node + length entries)
sources-push node before entry [] = append-nil (replicate (entry - before) node) ∙ ap (λ (n : ℕ). replicate (entry - before) n) (omega arith)
sources-push node before entry (e ∷ entries) =
    let count : node + 1 + length entries ≡ node + suc (length entries) = omega arith in
    let more = replicate (entry - last_entry e entries) in
    ap (λ (l : List ℕ). replicate (e - before) node ++ l) (sources-push (node + 1) e entry entries ∙ ap (λ (n : ℕ). sources (node + 1) e entries ++ more n) count)
    ∙ sym (append_assoc (replicate (e - before) node) (sources (node + 1) e entries) (more (node + suc (length entries))))

-- no number is lower than the first bound
none_lower : (low v : ℕ) (xs : List ℕ) → v ≤ low → NeverFalls low xs → count_by (λ s. nat_lt s v) xs ≡ 0
none_lower low v [] order rises = refl
none_lower low v (x ∷ xs) order rises =
    omega (arith, rises.0, sum_by-cons {X = ℕ} (λ s. cond (nat_lt s v) 1 0) x xs, ap {B = ℕ} (λ b. cond b 1 0) (le-ltb x v (omega (arith, rises.0))), none_lower x v xs (omega (arith, rises.0)) rises.1)

-- the same number again and again is lower each time
all_lower : (x v count : ℕ) → x < v → count_by (λ s. nat_lt s v) (replicate count x) ≡ count
all_lower x v zero order = refl
all_lower x v (suc count) order =
    omega (arith, sum_by-cons {X = ℕ} (λ s. cond (nat_lt s v) 1 0) x (replicate count x), ap {B = ℕ} (λ b. cond b 1 0) (lt-ltb x v order), all_lower x v count order)

-- as many sources are below a node as the entry before its own says
pub count-sources : (node before k v : ℕ) (entries : List ℕ) → v ≡ node + k → k ≤ length entries → NeverFalls before entries
    → before + count_by (λ s. nat_lt s v) (sources node before entries) ≡ get_or (before ∷ entries) k 0
count-sources node before zero v entries is within rises =
    omega (arith, none_lower node v (sources node before entries) (omega arith) (sources-rise node before entries))
count-sources node before (suc k) v [] is within rises = absurd (omega arith)
count-sources node before (suc k) v (entry ∷ entries) is within rises =
    omega (
      arith,
      rises.0,
      sum_by-append {X = ℕ} (λ s. cond (nat_lt s v) 1 0) (replicate (entry - before) node) (sources (node + 1) entry entries),
      all_lower node v (entry - before) (omega arith),
      count-sources (node + 1) entry k v entries (omega arith) (omega arith) rises.1,
    )

-- the first entry gives no source yet
pub sources_by-first : (starts : List ℕ) → 0 < length starts → sources_by (take 1 starts) ≡ []
sources_by-first [] some = absurd (omega arith)
sources_by-first (first ∷ ends) some = refl

-- the entry after the next node gives its sources
pub sources_by-more : (starts : List ℕ) (node entry held : ℕ) (xs : List ℕ) → node + 1 < length starts → slice_index starts 0 ≡ 0 → NeverFalls 0 starts → entry ≡ get_or starts (node + 1) 0
    → held ≡ length xs → xs ≡ sources_by (take (node + 1) starts) → take entry xs ++ replicate (entry - held) node ≡ sources_by (take (node + 1 + 1) starts)
sources_by-more [] node entry held xs within begins rises is long are = absurd (omega arith)
sources_by-more (first ∷ ends) node entry held xs within begins rises is long are =
    let here : entry ≡ get_or ends node 0 = is ∙ rw add-one refl in
    let front : take (node + 1) (first ∷ ends) ≡ first ∷ take node ends = rw add-one refl in
    let grown : take (node + 1) ends ≡ take node ends ++ entry ∷ [] = take_more ends node 0 (omega arith) ∙ ap (λ (n : ℕ). take node ends ++ n ∷ []) (sym here) in
    let next : take (node + 1 + 1) (first ∷ ends) ≡ first ∷ (take node ends ++ entry ∷ []) = rw (add-one (node + 1)) (ap (λ (l : List ℕ). first ∷ l) grown) in
    let so_far : xs ≡ sources 0 first (take node ends) = are ∙ ap sources_by front in
    let count : first + length xs ≡ last_entry first (take node ends) = ap (λ (l : List ℕ). first + length l) so_far ∙ length-sources 0 first (take node ends) (NeverFalls-take first node ends rises.1) in
    let order : last_entry first (take node ends) ≤ entry = last_entry-le first (take node ends) entry (rw grown at (NeverFalls-take first (node + 1) ends rises.1)) in
    let kept : take entry xs ≡ sources 0 first (take node ends) = take_all entry xs (omega arith) ∙ so_far in
    let added : entry - held ≡ entry - last_entry first (take node ends) = omega arith in
    let place : 0 + length (take node ends) ≡ node = omega (arith, length-take-le node ends (omega arith)) in
    ap (λ (l : List ℕ). l ++ replicate (entry - held) node) kept
    ∙ ap (λ (n : ℕ). sources 0 first (take node ends) ++ replicate n node) added
    ∙ ap (λ (n : ℕ). sources 0 first (take node ends) ++ replicate (entry - last_entry first (take node ends)) n) (sym place)
    ∙ sym (sources-push 0 first entry (take node ends))
    ∙ sym (ap sources_by next)
