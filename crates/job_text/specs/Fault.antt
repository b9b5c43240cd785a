-- The status and the line of each fault.
use Rattle.std.specs.Prelude.{ℕ, List, [], ◌∷◌, ◌++◌, codes, decimal, Option, Some, None}
use Rattle.answer_writer.specs.Lines.{words_line}
use Rattle.gr_reader.specs.declared.fault.GrFault.{GrFault}
use Rattle.gr_reader.specs.declared.fault.GrFault.TheVariants as reading
use Rattle.gr_reader.specs.Cause as causes
use Rattle.gr_reader.specs.declared.section.Section.{Section}
use Rattle.gr_reader.specs.declared.section.Section.TheVariants as section
use Rattle.job_text.specs.declared.line.Line.{Line}
use Rattle.job_text.specs.declared.line.Line.TheVariants as line
use Rattle.job_text.specs.declared.fault.Fault.{Fault}
use Rattle.job_text.specs.declared.fault.Fault.TheVariants.{Words, Root, Input, Memory}

-- the line of an input that ends in a section, up to the number of bytes
abbrev pub ends_text : Section → List ℕ
ends_text section.Head = codes "fault: input ends in head after "
ends_text section.Index = codes "fault: input ends in index after "
ends_text section.Destinations = codes "fault: input ends in destinations after "
ends_text section.Padding = codes "fault: input ends in padding after "
ends_text section.Weights = codes "fault: input ends in weights after "

-- the line of a fault of the input, and nothing for want of memory
abbrev pub input_line : GrFault → List ℕ
input_line (reading.Ends section got) = ends_text section ++ decimal got ++ words_line (codes " bytes") []
input_line (reading.Version version) = words_line (codes "fault: version") (version ∷ [])
input_line (reading.EdgeSize size) = words_line (codes "fault: edge size") (size ∷ [])
input_line (reading.Nodes nodes) = words_line (codes "fault: nodes") (nodes ∷ [])
input_line (reading.Edges edges) = words_line (codes "fault: edges") (edges ∷ [])
input_line (reading.IndexFalls node) = codes "fault: index " ++ decimal node ++ words_line (codes " falls") []
input_line (reading.IndexEnds got want) = codes "fault: index ends at " ++ decimal got ++ words_line (codes " of") (want ∷ [])
input_line (reading.Destination edge dst) = codes "fault: edge " ++ decimal edge ++ words_line (codes " goes to") (dst ∷ [])
input_line reading.Read = words_line (codes "fault: read") []
input_line reading.Memory = []

-- the line of a fault, and nothing for want of memory
abbrev pub fault_line : Fault → List ℕ
fault_line Words = words_line (codes "fault: words") []
fault_line (Root root nodes) = codes "fault: root " ++ decimal root ++ words_line (codes " of") (nodes ∷ [])
fault_line (Input fault) = input_line fault
fault_line Memory = []

-- the line of a run that goes on after so many rounds, which are all that it might have
abbrev pub spent_line : (budget : ℕ) → List ℕ
spent_line budget = codes "fault: rounds " ++ decimal budget ++ words_line (codes " spent") []

-- what a fault comes from: what the words and the bytes say, a read that failed, or want of memory
pub data Cause : Type 0 where
  Meant : Cause
  FailedRead : Cause
  NoMemory : Cause

-- what a fault of the reader comes from
abbrev pub cause_of_input : causes.Cause → Cause
cause_of_input (causes.BytesOf part) = Meant
cause_of_input causes.FailedRead = FailedRead
cause_of_input causes.NoMemory = NoMemory

-- what a fault comes from
abbrev pub cause_of : Fault → Cause
cause_of Words = Meant
cause_of (Root root nodes) = Meant
cause_of (Input fault) = cause_of_input (causes.cause_of fault)
cause_of Memory = NoMemory

-- the status of a fault that comes from the input
abbrev pub status_by : Cause → ℕ
status_by Meant = 3
status_by FailedRead = 7
status_by NoMemory = 4

-- the status with which the program ends
abbrev pub status_of : Fault → ℕ
status_of Words = 2
status_of (Root root nodes) = 3
status_of (Input fault) = status_by (cause_of (Input fault))
status_of Memory = 4

-- the text of a line
abbrev pub line_text : Line → List ℕ
line_text (line.Text text) = words_line text.now []
line_text (line.EndsWithNumber text number) = words_line text.now (number ∷ [])
line_text (line.AroundNumber before number after) = before.now ++ decimal number ++ words_line after.now []
line_text (line.AroundAndEndsWithNumber before number after last) = before.now ++ decimal number ++ words_line after.now (last ∷ [])

-- the text of a line, and nothing where there is none
abbrev pub line_text_or_none : Option Line → List ℕ
line_text_or_none None = []
line_text_or_none (Some line) = line_text line
