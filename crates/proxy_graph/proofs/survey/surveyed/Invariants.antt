use Rattle.std.proofs.Common.{◌≡◌, true, take}
use Rattle.proxy_graph.specs.Numbering.{AreMarks}
use Rattle.proxy_graph.proofs.SurveySteps.{RiseTo}
use Rattle.proxy_graph.proofs.survey.surveyed.Given as goal

abbrev pub invariant-loop-edge : goal.invariant-loop-edge
invariant-loop-edge l = record {
  marks : AreMarks l.nodes (take l.edge-index l.edges) l.marks;
  rise : l.is_by_source ≡ true → RiseTo l.edges l.edge-index l.before;
}
