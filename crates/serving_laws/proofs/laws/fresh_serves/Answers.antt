use Rattle.serving_laws.proofs.Proxies.{holds_share}
use Rattle.serving_laws.proofs.laws.fresh_serves.Goals as goal

pub returns : goal.returns
returns g c = λ program division host is serves fresh. record {
  share = holds_share division host is serves;
  not_computed = fresh.not_computed;
  not_spread = fresh.not_spread;
  no_reduce = fresh.no_reduce;
  no_broadcast = fresh.no_broadcast;
  start = fresh.start;
  shown = fresh.shown;
  next = fresh.next;
  awake = fresh.awake;
  asleep_next = fresh.asleep_next;
  sums = fresh.sums;
  keeps = fresh.keeps;
}
