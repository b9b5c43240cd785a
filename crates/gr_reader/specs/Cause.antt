-- What a fault comes from: the bytes of a section, a read that failed, or want of memory.
use Rattle.std.specs.Prelude.{◌≡◌}
use Rattle.gr_reader.specs.declared.section.Section.{Section}
use Rattle.gr_reader.specs.declared.section.Section.TheVariants as section
use Rattle.gr_reader.specs.declared.fault.GrFault.{GrFault}
use Rattle.gr_reader.specs.declared.fault.GrFault.TheVariants.{Ends, Version, EdgeSize, Nodes, Edges, IndexFalls, IndexEnds, Destination, Read, Memory}

-- the bytes of a section, a read that failed, or want of memory
pub data Cause : Type 0 where
  BytesOf : Section → Cause
  FailedRead : Cause
  NoMemory : Cause

-- what a fault comes from
abbrev pub cause_of : GrFault → Cause
cause_of (Ends part got) = BytesOf part
cause_of (Version version) = BytesOf section.Head
cause_of (EdgeSize size) = BytesOf section.Head
cause_of (Nodes nodes) = BytesOf section.Head
cause_of (Edges edges) = BytesOf section.Head
cause_of (IndexFalls node) = BytesOf section.Index
cause_of (IndexEnds got want) = BytesOf section.Index
cause_of (Destination edge dst) = BytesOf section.Destinations
cause_of Read = FailedRead
cause_of Memory = NoMemory

-- this holds where bytes are the cause
abbrev pub IfBytes : Cause → Type 0 → Type 0
IfBytes (BytesOf part) holds = holds
IfBytes FailedRead holds = Unit {0}
IfBytes NoMemory holds = Unit {0}

-- where bytes are the cause, they are those of this section
abbrev pub IsOfSection : Section → Cause → Type 0
IsOfSection part (BytesOf other) = other ≡ part
IsOfSection part FailedRead = Unit {0}
IsOfSection part NoMemory = Unit {0}

-- the bytes of this section, or want of memory
abbrev pub IsOfContent : Section → Cause → Type 0
IsOfContent part (BytesOf other) = other ≡ part
IsOfContent part FailedRead = ⊥
IsOfContent part NoMemory = Unit {0}

-- the bytes of the head, or a read that failed
abbrev pub ComesFromHead : Cause → Type 0
ComesFromHead (BytesOf part) = part ≡ section.Head
ComesFromHead FailedRead = Unit {0}
ComesFromHead NoMemory = ⊥

-- a section behind the head
abbrev pub IsBehindHead : Section → Type 0
IsBehindHead section.Head = ⊥
IsBehindHead part = Unit {0}

-- the bytes of a section behind the head, a read that failed, or want of memory
abbrev pub ComesFromRest : Cause → Type 0
ComesFromRest (BytesOf part) = IsBehindHead part
ComesFromRest FailedRead = Unit {0}
ComesFromRest NoMemory = Unit {0}

-- the faults that the head can have
abbrev pub IsOfHead : GrFault → Type 0
IsOfHead fault = ComesFromHead (cause_of fault)

-- the faults that what follows the head can have
abbrev pub IsOfRest : GrFault → Type 0
IsOfRest fault = ComesFromRest (cause_of fault)
