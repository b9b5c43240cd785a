-- A page before a sink: what waits in it, and what it comes to together with the sink behind it.
use Rattle.std.specs.Prelude.{ℕ, List, Option, Some}
use Rattle.std.specs.List.{slice_range}
use Rattle.std.specs.Io.KnownBytes.{append_known}
use Rattle.io_edge.specs.declared.sink.Sink.{Ghosts}
use Rattle.io_edge.specs.declared.paged_sink.PagedSink.{PagedSink}
use Rattle.io_edge.specs.Behind.{Behind}
use Rattle.io_edge.specs.Writing.{SinkState}

-- the bytes that wait in the page
abbrev pub waiting : {K : Type 0} → PagedSink K → List ℕ
waiting paged = slice_range paged.page paged.first paged.end

-- the bytes that the sink below holds, and then those that wait
abbrev pub paged_held : {K : Type 0} → Ghosts K → PagedSink K → Option (List ℕ)
paged_held tells paged = append_known (tells.held paged.below.now) (waiting paged)

-- the sink below, and what it holds
abbrev pub paged_behind : {K : Type 0} → Ghosts K → PagedSink K → Behind
paged_behind tells paged = record { place = Some paged.below.ghost_name; arrived = tells.held paged.below.now }

-- the page and the sink below, as one sink at a moment
abbrev pub paged_state : {K : Type 0} → Ghosts K → PagedSink K → SinkState
paged_state tells paged = record {
  held = paged_held tells paged;
  faults = tells.faults paged.below.now;
  behind = paged_behind tells paged;
}
