use Rattle.std.proofs.Common.{◌≡◌, ◌-◌, ◌≤◌, ap, length, take, drop, arith}
use Rattle.std.proofs.lemmas.List.{length-take}
use Rattle.list_laws.specs.Members.{count_of}
use Rattle.list_laws.proofs.Members.{count_of-le-length}
use Rattle.update_bits.proofs.Between.{counted_between}
use Rattle.update_bits.proofs.Held.{length-set_in}
use Rattle.update_bits.proofs.update_bits.UpdateBits.count_between.Goals as goal

pub returns : goal.returns
returns c =
    let within : c.args.end ≤ c.self.inside.count = omega (arith, c.requires.within, ap length c.self.view_is, length-set_in c.self.inside.count c.self.inside.words.items c.self.invariant.0.enough) in
    counted_between c.self.inside.count c.args.start c.args.end c.ones_between.result c.self.inside.words.items c.deref.result.now c.args.self.now
    c.self.view_is c.deref.ensures.value c.requires.order within c.ones_between.ensures

pub overflow_cast-result : goal.overflow_cast-result
overflow_cast-result c =
    let within : c.args.end ≤ c.self.inside.count = omega (arith, c.requires.within, ap length c.self.view_is, length-set_in c.self.inside.count c.self.inside.words.items c.self.invariant.0.enough) in
    let counted : c.ones_between.result ≡ count_of (take (c.args.end - c.args.start) (drop c.args.start c.args.self.now))
    = counted_between c.self.inside.count c.args.start c.args.end c.ones_between.result c.self.inside.words.items c.deref.result.now c.args.self.now
    c.self.view_is c.deref.ensures.value c.requires.order within c.ones_between.ensures in
    omega (
      arith,
      counted,
      count_of-le-length (take (c.args.end - c.args.start) (drop c.args.start c.args.self.now)),
      length-take (c.args.end - c.args.start) (drop c.args.start c.args.self.now),
      c.ranges.end.fits,
    )
