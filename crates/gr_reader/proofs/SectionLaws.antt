-- What the numbers of a section that came say of it.
use Rattle.std.proofs.Common.{◌≡◌, ℕ, ◌-◌, ◌*◌, ◌<◌, ◌≤◌, true, false, List, ◌++◌, length, take, Option, None, Some, Ok, Err, leb, refl, sym, ap, ◌∙◌, ⊎_elim, arith}
use Rattle.std.proofs.lemmas.List.{take_at, drop_at, take_all}
use Rattle.std.proofs.lemmas.Bool.Decides.{nat_tests}
use Rattle.list_laws.specs.LittleEndian.{whole_numbers}
use Rattle.list_laws.proofs.WholeNumbers.{whole_numbers-append, whole_numbers-front}
use Rattle.list_laws.proofs.Fronts.{take_within}
use Rattle.io_edge.specs.Bytes.{Gives}
use Rattle.io_edge.proofs.Moves.{Gives-told}
use Rattle.gr_reader.specs.declared.section.Section.{Section}
use Rattle.gr_reader.specs.declared.fault.GrFault.{GrFault}
use Rattle.gr_reader.specs.declared.fault.GrFault.TheVariants.{Ends, Memory}
use Rattle.gr_reader.specs.Cause.{cause_of}
use Rattle.gr_reader.specs.File.{section_at}
use Rattle.gr_reader.specs.Sections.{IsSize, IsAtEnd, Broke, IsFound, FindsFirst}
use Rattle.gr_reader.proofs.CauseLaws.{IfBytes-always}
use Rattle.gr_reader.proofs.TakingLaws.{Gives-all}

-- a number has some bytes
pub some_size : (size : ℕ) → IsSize size → 0 < size
some_size size is = ⊎_elim (λ (four : size ≡ 4). omega arith) (λ (eight : size ≡ 8). omega arith) is

-- whole pieces of 65,536 bytes have whole numbers
whole_pieces : (size pieces : ℕ) → IsSize size → (count : ℕ) × (65536 * pieces ≡ count * size)
whole_pieces size pieces is = ⊎_elim
    (λ (four : size ≡ 4). (16384 * pieces, rw four (omega arith)))
    (λ (eight : size ≡ 8). (8192 * pieces, rw eight (omega arith)))
    is

-- the numbers of a piece more
pub whole_numbers-piece : (size pieces : ℕ) (got piece : List ℕ) → IsSize size → length got ≡ 65536 * pieces → whole_numbers size (got ++ piece) ≡ whole_numbers size got ++ whole_numbers size piece
whole_numbers-piece size pieces got piece is aligned =
    let count = whole_pieces size pieces is in
    whole_numbers-append size count.0 got piece (some_size size is) (aligned ∙ count.1)

-- a section is there, and its numbers have no fault
pub section_at-whole : (part : Section) (size want : ℕ) (fault : List ℕ → Option GrFault) (got rest : List ℕ) → length got ≡ want → fault (whole_numbers size got) ≡ None → section_at part size want fault (got ++ rest) ≡ Ok (whole_numbers size got, rest)
unfolding section_at
section_at-whole part size want fault got rest whole clear =
    let enough : leb want (length got) ≡ true = grind (arith, nat_tests) in
    rw (take_at got rest want whole, drop_at got rest want whole, clear, enough) refl

pub section_came : (part : Section) (size want : ℕ) (fault : List ℕ → Option GrFault) (old new : Option (List ℕ)) (got : List ℕ) → Gives old new got → length got ≡ want → fault (whole_numbers size got) ≡ None
    → (bytes : List ℕ) → old ≡ Some bytes → (rest : List ℕ) × (new ≡ Some rest) × (section_at part size want fault bytes ≡ Ok (whole_numbers size got, rest))
section_came part size want fault old new got gives whole clear bytes told =
    let parts = Gives-told bytes got new (sym told ∙ gives) in
    (parts.0, parts.1, ap (section_at part size want fault) parts.2 ∙ section_at-whole part size want fault got parts.0 whole clear)

-- the input ended in a section
section_at-short : (part : Section) (size want : ℕ) (fault : List ℕ → Option GrFault) (got : List ℕ) → length got < want → fault (whole_numbers size got) ≡ None → section_at part size want fault got ≡ Err (Ends part (length got))
unfolding section_at
section_at-short part size want fault got short clear =
    let came : take want got ≡ got = take_all want got (omega arith) in
    let few : leb want (length got) ≡ false = grind (arith, nat_tests) in
    rw (came, clear, few) refl

pub section_ends : (part : Section) (size want : ℕ) (fault : List ℕ → Option GrFault) (old new : Option (List ℕ)) (got : List ℕ) → Gives old new got → IsAtEnd new → length got < want → fault (whole_numbers size got) ≡ None
    → Broke old (section_at part size want fault) (Ends part (length got))
section_ends part size want fault old new got gives last short clear bytes told =
    ap (section_at part size want fault) (Gives-all bytes new got (sym told ∙ gives) last) ∙ section_at-short part size want fault got short clear

-- a front has a fault
section_at-refused : (part : Section) (size want : ℕ) (fault : List ℕ → Option GrFault) (got rest : List ℕ) (found : GrFault) → FindsFirst fault → 0 < size → length got ≤ want → fault (whole_numbers size got) ≡ Some found
    → section_at part size want fault (got ++ rest) ≡ Err found
unfolding section_at
section_at-refused part size want fault got rest found first some within is =
    let came : take want (got ++ rest) ≡ got ++ take (want - length got) rest = take_within want got rest within in
    let front = whole_numbers-front size got (take (want - length got) rest) some in
    let all : fault (whole_numbers size (got ++ take (want - length got) rest)) ≡ Some found = rw front.1 (first (whole_numbers size got) front.0 found is) in
    rw (came, all) refl

-- what came of a section has a fault
pub section_refused : (part : Section) (size want : ℕ) (fault : List ℕ → Option GrFault) (old new : Option (List ℕ)) (got : List ℕ) (found : GrFault) → FindsFirst fault → IsSize size → Gives old new got → length got ≤ want
    → IsFound (fault (whole_numbers size got)) found → Broke old (section_at part size want fault) found
section_refused part size want fault old new got found first is_size gives within is bytes told =
    let parts = Gives-told bytes got new (sym told ∙ gives) in
    ⊎_elim
    (λ (memory : found ≡ Memory). rw memory tt)
    (λ (some : fault (whole_numbers size got) ≡ Some found).
    IfBytes-always (cause_of found) (section_at part size want fault bytes ≡ Err found)
    (ap (section_at part size want fault) parts.2 ∙ section_at-refused part size want fault got parts.0 found first (some_size size is_size) within some))
    is
