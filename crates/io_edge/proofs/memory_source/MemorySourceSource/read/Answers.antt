use Rattle.std.proofs.Common.{◌+◌, ◌-◌, ap, sym, Some, length, take}
use Rattle.io_edge.proofs.Fronts.{take-part-rest}
use Rattle.io_edge.proofs.memory_source.MemorySourceSource.read.Goals as goal

pub returns-clause-bytes : goal.returns-clause-bytes
returns-clause-bytes c =
    let bytes = c.self.inside.bytes.items in
    let at = c.self.inside.at in
    let n = c.fill_front-count.result in
    let given = rw c.deref-2.ensures.value at c.fill_front-count.ensures.given in
    let count = rw c.deref-2.ensures.value at c.fill_front-count.ensures.count in
    rw (← c.self.view_is) (ap Some (sym (take-part-rest bytes (take n c.fill_front-count.new.into) at n (at + c.min.result - at) (length c.args.into.now) count given)))
