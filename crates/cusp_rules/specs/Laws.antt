-- What holds of the masters that a rule gives, whatever the graph.
use Rattle.std.specs.Prelude.{ℕ, List}
use Rattle.cusp_rules.specs.Hosts.{IsHostCount}
use Rattle.cusp_rules.specs.Assignment.{IsAssignment}
use Rattle.cusp_rules.specs.Formulas.{IsStarts, masters_of}
use Rattle.cusp_rules.specs.declared.master_rule.MasterRule.{MasterRule}

-- each rule gives every vertex one master, which is a host, and each host a run of vertices
abbrev pub RulesAssign : Type 0
RulesAssign =
    (rule : MasterRule) (hosts : ℕ) (starts : List ℕ) →
    IsHostCount hosts → IsStarts starts →
    IsAssignment (record { hosts = hosts; masters = masters_of rule hosts starts })
