use Rattle.std.proofs.Common.{◌≡◌, ◌-◌, ◌≤◌, ◌++◌, length}
use Rattle.list_laws.specs.Members.{members}
use Rattle.list_laws.proofs.Members.{members_since}
use Rattle.proxy_graph.proofs.numbering.Numbering.mirrors.Given as goal

abbrev pub invariant-loop-v : goal.invariant-loop-v
invariant-loop-v l = record {
  within : l.from ≤ length l.mirrored;
  written : l.mirrors.items ++ members_since l.mirrored l.from ≡ members l.mirrored;
}

-- each mirror is behind the one before
abbrev pub decreases-loop-v : goal.decreases-loop-v
decreases-loop-v l = length l.mirrored - l.from
