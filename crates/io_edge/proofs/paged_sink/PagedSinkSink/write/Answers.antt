use Rattle.std.proofs.Common.{ap, refl, Some}
use Rattle.io_edge.specs.Behind.{Passes}
use Rattle.io_edge.specs.Paged.{waiting, paged_behind, paged_held}
use Rattle.io_edge.proofs.Writings.{Passes-after}
use Rattle.io_edge.proofs.Pages.{gained-straight, grown-by}
use Rattle.io_edge.proofs.paged_sink.PagedSinkSink.write.Goals as goal

pub returns-then-bytes-gt-PAGE_BYTES-clause-gained :
    goal.returns-then-bytes-gt-PAGE_BYTES-clause-gained
returns-then-bytes-gt-PAGE_BYTES-clause-gained g c =
    gained-straight c.write.result (paged_held g.K.Sink c.args.self.now) (g.K.Sink.held c.flush.new.self.below.now) (g.K.Sink.held c.write.new.self) (waiting c.flush.new.self) c.args.bytes.now c.in_ok-flush.ensures.kept c.in_ok-flush.ensures.empty c.write.ensures.gained

pub returns-then-bytes-gt-PAGE_BYTES-clause-passed :
    goal.returns-then-bytes-gt-PAGE_BYTES-clause-passed
returns-then-bytes-gt-PAGE_BYTES-clause-passed g c =
    let flushed = c.in_ok-flush.ensures in
    let first : Passes (paged_behind g.K.Sink c.args.self.now) (paged_behind g.K.Sink c.flush.new.self) = record {
      same_place = ap Some flushed.same_reference;
      grown = (waiting c.args.self.now, flushed.below.all.whole);
    } in
    Passes-after first (record {
      same_place = refl;
      grown = grown-by c.write.result _ _ c.args.bytes.now c.write.ensures.gained c.write.ensures.held_stays;
    })
