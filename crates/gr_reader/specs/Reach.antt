-- How many bytes a call takes at most.
use Rattle.std.specs.Prelude.{ℕ, ◌+◌, ◌*◌, ◌≤◌, List, length, Option, None, Some, Result, Ok, Err}
use Rattle.io_edge.specs.Bytes.{Gives}
use Rattle.gr_reader.specs.declared.head.Head.{Head}
use Rattle.gr_reader.specs.declared.section.Section.{Section}
use Rattle.gr_reader.specs.declared.section.Section.TheVariants as section
use Rattle.gr_reader.specs.declared.fault.GrFault.{GrFault}
use Rattle.gr_reader.specs.Cause.{Cause, BytesOf, FailedRead, NoMemory, cause_of}
use Rattle.gr_reader.specs.File.{head_at, padding, weight_bytes}

-- the source lost at most so many bytes at its front, and no others
pub record TakesAtMost (limit : ℕ) (old new : Option (List ℕ)) : Type 0 where
  pub got : List ℕ
  pub gives : Gives old new got
  pub within : length got ≤ limit

-- where each section ends, in bytes behind the head
abbrev pub section_end : Head → Section → ℕ
section_end head section.Head = 0
section_end head section.Index = 8 * head.nodes
section_end head section.Destinations = 8 * head.nodes + 4 * head.edges
section_end head section.Padding = 8 * head.nodes + 4 * head.edges + padding head
section_end head section.Weights = 8 * head.nodes + 4 * head.edges + padding head + weight_bytes head

-- how far behind the head a call may read that ends so: to the end of the section whose bytes have the fault, else to
-- the end of the last field
abbrev pub cause_reach : Head → Cause → ℕ
cause_reach head (BytesOf part) = section_end head part
cause_reach head FailedRead = section_end head section.Weights
cause_reach head NoMemory = section_end head section.Weights

-- how far behind the head a call may read that returns this
abbrev pub reach : {X : Type 0} → Head → Result X GrFault → ℕ
reach head (Ok x) = section_end head section.Weights
reach head (Err fault) = cause_reach head (cause_of fault)

-- how far into a file a call may read that returns this: not past the head where it is none that is accepted
abbrev pub head_reach : {X : Type 0} → Result (Head × List ℕ) GrFault → Result X GrFault → ℕ
head_reach (Ok found) result = 32 + reach found.0 result
head_reach (Err fault) result = 32

-- the same, where the bytes of the file are told, and else no bytes are
abbrev pub file_reach : {X : Type 0} → Option (List ℕ) → Result X GrFault → ℕ
file_reach None result = 0
file_reach (Some bytes) result = head_reach (head_at bytes) result
