-- Laws of faults by their cause.
use Rattle.std.proofs.Common.{◌≡◌, ℕ, ◌≤◌, sym, subst, arith}
use Rattle.gr_reader.specs.declared.head.Head.{Head}
use Rattle.gr_reader.specs.declared.section.Section.{Section}
use Rattle.gr_reader.specs.declared.section.Section.TheVariants as section
use Rattle.gr_reader.specs.Cause.{Cause, BytesOf, FailedRead, NoMemory, IfBytes, IsOfSection, IsOfContent, IsBehindHead, ComesFromRest}
use Rattle.gr_reader.specs.Reading.{CauseCounts}
use Rattle.gr_reader.specs.Reach.{section_end, cause_reach}

-- what holds in any case
pub IfBytes-always : (cause : Cause) (P : Type 0) → P → IfBytes cause P
IfBytes-always (BytesOf part) P p = p
IfBytes-always FailedRead P p = tt
IfBytes-always NoMemory P p = tt

-- what follows
pub IfBytes-map : (cause : Cause) (P Q : Type 0) → (P → Q) → IfBytes cause P → IfBytes cause Q
IfBytes-map (BytesOf part) P Q f p = f p
IfBytes-map FailedRead P Q f p = tt
IfBytes-map NoMemory P Q f p = tt

-- the bytes of a section are no failed read
pub IsOfSection-from_content : (part : Section) (cause : Cause) → IsOfContent part cause → IsOfSection part cause
IsOfSection-from_content part (BytesOf other) is = is
IsOfSection-from_content part FailedRead is = absurd is
IsOfSection-from_content part NoMemory is = tt

pub CauseCounts-from_content : (part : Section) (cause : Cause) (old new : ℕ) → IsOfContent part cause → new ≡ old → CauseCounts cause old new
CauseCounts-from_content part (BytesOf other) old new is same = same
CauseCounts-from_content part FailedRead old new is same = absurd is
CauseCounts-from_content part NoMemory old new is same = same

-- a section behind the head
pub ComesFromRest-from : (part : Section) (cause : Cause) → IsBehindHead part → IsOfSection part cause → ComesFromRest cause
ComesFromRest-from part (BytesOf other) behind same = subst IsBehindHead (sym same) behind
ComesFromRest-from part FailedRead behind same = tt
ComesFromRest-from part NoMemory behind same = tt

-- a call that fails in a section may read to its end
pub cause_reach-section : (head : Head) (part : Section) (cause : Cause) → section_end head part ≤ section_end head section.Weights → IsOfSection part cause → section_end head part ≤ cause_reach head cause
cause_reach-section head part (BytesOf other) within same = subst (λ (p : Section). section_end head part ≤ section_end head p) (sym same) (omega arith)
cause_reach-section head part FailedRead within same = within
cause_reach-section head part NoMemory within same = within
