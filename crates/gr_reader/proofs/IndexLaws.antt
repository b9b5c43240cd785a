-- What the entries that came say of the index.
use Rattle.std.proofs.Common.{◌≡◌, ℕ, ◌+◌, ◌*◌, ◌/◌, true, false, List, ◌++◌, length, Option, None, ◌==◌, refl, ap, ◌∙◌, arith}
use Rattle.std.proofs.lemmas.Bool.Decides.{nat_tests}
use Rattle.gr_reader.specs.declared.head.Head.{Head}
use Rattle.gr_reader.specs.declared.section.Section.TheVariants as section
use Rattle.gr_reader.specs.declared.fault.GrFault.{GrFault}
use Rattle.gr_reader.specs.declared.fault.GrFault.TheVariants.{IndexEnds}
use Rattle.gr_reader.specs.Cause.{cause_of}
use Rattle.edge_columns.specs.Columns.{last_entry}
use Rattle.gr_reader.specs.File.{entry_fault, section_at, index_at}
use Rattle.gr_reader.specs.Sections.{Came, Broke, TookIndex}
use Rattle.gr_reader.proofs.CauseLaws.{IfBytes-map}
use Rattle.edge_columns.proofs.SourceLaws.{last_entry-append}
use Rattle.gr_reader.proofs.Falls.{entry_fault-append}

-- a fault of a piece is one of all that came
pub entry_fault-more : (entries : List ℕ) (count before : ℕ) (numbers more : List ℕ) → TookIndex entries before numbers → count ≡ length entries → entry_fault 0 0 (numbers ++ more) ≡ entry_fault count before more
entry_fault-more entries count before numbers more took same =
    let at : 0 + length numbers ≡ count = omega (arith, ap length took.entries_are) in
    entry_fault-append 0 0 numbers more took.clear ∙ rw (at, took.last) refl

-- a piece more
pub TookIndex-more : (entries : List ℕ) (count before : ℕ) (numbers more : List ℕ) → TookIndex entries before numbers → count ≡ length entries → entry_fault count before more ≡ None
    → TookIndex (entries ++ more) (last_entry before more) (numbers ++ more)
TookIndex-more entries count before numbers more took same none = record {
  entries_are = ap (λ (l : List ℕ). l ++ more) took.entries_are;
  last = last_entry-append 0 numbers more ∙ ap (λ (n : ℕ). last_entry n more) took.last;
  clear = entry_fault-more entries count before numbers more took same ∙ none;
}

-- what refuses the entries refuses the index
pub index_broke : (head : Head) (old : Option (List ℕ)) (fault : GrFault) → Broke old (section_at section.Index 8 (8 * head.nodes) (λ numbers. entry_fault 0 0 numbers)) fault → Broke old (index_at head) fault
unfolding index_at
index_broke head old fault broke bytes told = IfBytes-map (cause_of fault) _ _ (λ e. rw e refl) (broke bytes told)

-- all entries came
abbrev pub CameEntries : Head → Option (List ℕ) → Option (List ℕ) → List ℕ → ℕ → Type 0
CameEntries head old new entries before =
    Came old new (section_at section.Index 8 (8 * head.nodes) (λ numbers. entry_fault 0 0 numbers)) (λ numbers. (length numbers ≡ 8 * head.nodes / 8) × TookIndex entries before numbers)

-- the last entry is not the number of edges
pub index_ends : (head : Head) (old new : Option (List ℕ)) (entries : List ℕ) (before : ℕ) → CameEntries head old new entries before → ¬ (before ≡ head.edges) → Broke old (index_at head) (IndexEnds before head.edges)
unfolding index_at
index_ends head old new entries before came other bytes told =
    let test : (before == head.edges) ≡ false = grind (arith, nat_tests) in
    rw ((came.means bytes told).2, came.taken.1.last, test) refl

-- the last entry is the number of edges
pub index_came : (head : Head) (old new : Option (List ℕ)) (entries : List ℕ) (before : ℕ) → CameEntries head old new entries before → before ≡ head.edges → Came old new (index_at head) (λ numbers. entries ≡ numbers)
unfolding index_at
index_came head old new entries before came same = record {
  numbers = came.numbers;
  taken = came.taken.1.entries_are;
  means = λ bytes told.
      let is = came.means bytes told in
      let test : (before == head.edges) ≡ true = grind (arith, nat_tests) in
      (is.0, is.1, rw (is.2, came.taken.1.last, test) refl);
}
